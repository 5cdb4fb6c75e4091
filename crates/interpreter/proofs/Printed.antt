-- What is printed and what is due stay the same together, try by try: a command's line passes from one to the other.
use Prim.Native.Nat.{ℕ, zero, suc, ◌+◌, ◌≤◌}
use mathlib.Core.Bool.{Bool, true, false}
use mathlib.Core.List.{List, [], ◌∷◌, ◌++◌, append_assoc, append-nil}
use mathlib.Core.Path.{◌≡◌, refl, sym, ap, ◌∙◌}
use native.Mathlib.Omega.{arith}
use lib.Dec.{leb}
use lib.ListN.{length, take, drop, length-append}
use lib.Seq.{length-take-le, take_at, drop-append-le, drop-drop, length-sets, sets-eq}
use Rattle.model.specs.declared.types.Refusal.{Refusal}
use Rattle.model.specs.declared.types.Refusal.TheVariants.{UnknownCommand, CutShort}
use Rattle.std.specs.Prelude.{if◌then◌else◌}
use Rattle.decoder.specs.declared.types.Command.{Command}
use Rattle.std.specs.Prelude.{Ok, Err}
use Rattle.decoder.specs.Types.{Decoded}
use Rattle.decoder.specs.declared.types.DecodeError.TheVariants.{Unknown, Short, End}
use Rattle.decoder.specs.Commands.{command_from}
use Rattle.decoder.proofs.Pieces.{whole_within}
use Rattle.ending.specs.Rest.{rest_by, rest_of}
use Rattle.printer.specs.declared.types.Line.{Line}
use Rattle.printer.specs.declared.types.Line.TheVariants.{Refused}
use Rattle.printer.specs.Lines.{line_of, text, room, Page, print_of}
use Rattle.executor.specs.Perform.{perform_of, performed_all}
use Rattle.interpreter.specs.declared.types.Needs.{Needs}
use Rattle.interpreter.specs.Sheet.{script_of, lines_from}
use Rattle.interpreter.specs.Playing.{Playing, page_with, played, ended_by, needing, play_next, play_one, goes_on, play_for}
use Rattle.interpreter.specs.Rounds.{is_over, printed_on}
use Rattle.interpreter.proofs.Sheets.{lines_by, still, sheet_laws}

-- ---- a line on a page

module _ (bytes : List ℕ) (start : ℕ) (l : Line) (fits : leb (start + room) (length bytes) ≡ true) where
  page_long : length (print_of bytes start l).bytes ≡ length bytes
  unfolding print_of
  page_long = simp fits (length-sets bytes start (line_of l))

  page_next : (print_of bytes start l).next ≡ start + length (line_of l)
  unfolding print_of
  page_next = simp fits

  page_text : (print_of bytes start l).next ≤ length bytes → printed_on (print_of bytes start l) ≡ take start bytes ++ line_of l
  unfolding print_of
  page_text h =
      let within : start + length (line_of l) ≤ length bytes = omega (arith, page_next, h) in
      let front = length-take-le start bytes (omega (arith, within)) in
      simp fits
      (ap (take (start + length (line_of l))) (sets-eq (line_of l) bytes start within)
      ∙ take_at (take start bytes ++ line_of l) _ _
      (length-append (take start bytes) (line_of l) ∙ ap (λ n. n + length (line_of l)) front))

-- ---- one try

module _ (bytes more : List ℕ) where
  -- the lines of what is not played
  abbrev ahead : Playing → List ℕ
  ahead p = text (lines_from p.session (script_of (drop p.read bytes ++ more)))

  abbrev due_at : Playing → List ℕ
  due_at p = if is_over p.needs then [] else ahead p

  pub record Keeps (p q : Playing) : Type 0 where
    pub long : length q.page.bytes ≡ length p.page.bytes
    pub grows : p.page.next ≤ q.page.next
    pub same : q.page.next ≤ length p.page.bytes → printed_on q.page ++ due_at q ≡ printed_on p.page ++ ahead p

  module _ (p : Playing) where
    stays : (n : Needs) → is_over n ≡ false → Keeps p (needing n p)
    stays n e = record { long = refl; grows = omega arith; same = λ h. simp e }

    -- a line of its own, and then what is due
    prints : (q : Playing) (l : Line) → leb (p.page.next + room) (length p.page.bytes) ≡ true → q.page ≡ page_with p l
        → ahead p ≡ line_of l ++ due_at q → Keeps p q
    prints q l fits e h = record {
      long = ap (λ (x : Page). length x.bytes) e ∙ page_long p.page.bytes p.page.next l fits;
      grows = omega (arith, ap (λ (x : Page). x.next) e, page_next p.page.bytes p.page.next l fits);
      same = λ within.
          (let here : (page_with p l).next ≤ length p.page.bytes = omega (arith, within, ap (λ (x : Page). x.next) e) in
          ap (λ (x : Page). printed_on x ++ due_at q) e
          ∙ ap (λ (t : List ℕ). t ++ due_at q) (page_text p.page.bytes p.page.next l fits here)
          ∙ append_assoc (printed_on p.page) (line_of l) (due_at q)
          ∙ ap (λ (t : List ℕ). printed_on p.page ++ t) (sym h));
    }

    module _ (fits : leb (p.page.next + room) (length p.page.bytes) ≡ true) where
      command : (c : Command) (n : ℕ) → command_from (drop p.read bytes) ≡ Ok (c, n) → Keeps p (played p c (p.read + n))
      unfolding text
      command c n e =
          let d = perform_of p.session c in
          let behind = drop-append-le n (drop p.read bytes) more (whole_within _ c n e).1
          ∙ ap (λ (l : List ℕ). l ++ more) (drop-drop n p.read bytes) in
          prints (played p c (p.read + n)) d.line fits refl
          (ap text (sheet_laws.command p.session _ c n (still _ more (Ok (c, n)) refl e))
          ∙ ap (λ (l : List ℕ). line_of d.line ++ text (lines_from d.session (script_of l))) behind)

      ending : (r : Refusal) → lines_from p.session (script_of (drop p.read bytes ++ more)) ≡ Refused r ∷ []
          → Keeps p (ended_by p r)
      unfolding text
      ending r e = prints (ended_by p r) (Refused r) fits refl (ap text e)

      -- nothing is due where the sheet has ended
      nothing : lines_from p.session (script_of (drop p.read bytes ++ more)) ≡ [] → Keeps p (needing Needs.Over p)
      unfolding text
      nothing e = record {
        long = refl;
        grows = omega arith;
        same = λ h. ap (λ (l : List ℕ). printed_on p.page ++ l) (sym (ap text e));
      }

-- ---- all tries

module _ (bytes more : List ℕ) (ended : Bool) (seen : ended ≡ true → more ≡ []) where
  all_seen : (at : ℕ) → ended ≡ true → drop at bytes ++ more ≡ drop at bytes
  all_seen at t = ap (λ (l : List ℕ). drop at bytes ++ l) (seen t) ∙ append-nil (drop at bytes)

  module _ (p : Playing) (fits : leb (p.page.next + room) (length p.page.bytes) ≡ true) where
    by_decoded : (d : Decoded) → command_from (drop p.read bytes) ≡ d → (t : Bool) → ended ≡ t
        → Keeps bytes more p (play_next p (rest_by t d))
    unfolding rest_by performed_all
    by_decoded (Ok (c, n)) e t f = command bytes more p fits c n e
    by_decoded (Err Unknown) e t f = ending bytes more p fits UnknownCommand (sheet_laws.unknown p.session _ more e)
    by_decoded (Err Short) e true f =
        ending bytes more p fits CutShort (sheet_laws.cut_short p.session _ (ap command_from (all_seen p.read f) ∙ e))
    by_decoded (Err Short) e false f = stays bytes more p Needs.Bytes refl
    by_decoded (Err End) e true f = nothing bytes more p fits (lines_by _ (Err End) (ap command_from (all_seen p.read f) ∙ e) p.session)
    by_decoded (Err End) e false f = stays bytes more p Needs.Bytes refl

  one_keeps : (p : Playing) → Keeps bytes more p (play_one bytes ended p)
  unfolding play_one rest_of
  one_keeps p = by (leb (p.page.next + room) (length p.page.bytes)) refl
    where
      by : (t : Bool) → leb (p.page.next + room) (length p.page.bytes) ≡ t → Keeps bytes more p (play_one bytes ended p)
      by true e = simp e (by_decoded p e (command_from (drop p.read bytes)) refl ended refl)
      by false e = simp e (stays bytes more p Needs.Page refl)

  chain : (p q r : Playing) → is_over q.needs ≡ false → Keeps bytes more p q → Keeps bytes more q r → Keeps bytes more p r
  chain p q r on a b = record {
    long = b.long ∙ a.long;
    grows = omega (arith, a.grows, b.grows);
    same = λ h.
        (b.same (omega (arith, h, a.long))
        ∙ ap (λ (l : List ℕ). printed_on q.page ++ l) (simp on)
        ∙ a.same (omega (arith, h, b.grows)));
  }

  goes_not_over : (n : Needs) → goes_on n ≡ true → is_over n ≡ false
  goes_not_over Needs.Nothing e = refl
  goes_not_over Needs.Page e = refl
  goes_not_over Needs.Bytes e = refl
  goes_not_over Needs.Over e = cc

  pub keeps : (n : ℕ) (p : Playing) → is_over p.needs ≡ false → Keeps bytes more p (play_for n bytes ended p)
  unfolding play_for
  keeps zero p on = record { long = refl; grows = omega arith; same = λ h. simp on }
  keeps (suc n) p on = by (goes_on q.needs) refl (keeps n q)
    where
      q : Playing
      q = play_one bytes ended p

      by : (t : Bool) → goes_on q.needs ≡ t → (is_over q.needs ≡ false → Keeps bytes more q (play_for n bytes ended q))
          → Keeps bytes more p (play_for (suc n) bytes ended p)
      by true e rest = let o = goes_not_over q.needs e in simp e (chain p q _ o (one_keeps p) (rest o))
      by false e rest = simp e (one_keeps p)
