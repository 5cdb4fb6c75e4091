-- Where a run stands after its tries: it needs a page only where one is full, and bytes only where none of them is a command.
use Prim.Native.Nat.{ℕ, zero, suc, ◌+◌, ◌≤◌, ◌<◌}
use mathlib.Core.Bool.{Bool, true, false, true≢false}
use mathlib.Core.List.{List}
use mathlib.Core.Path.{◌≡◌, refl, sym, ap, subst, ◌∙◌}
use native.Mathlib.Omega.{arith}
use lib.Dec.{leb}
use lib.ListN.{length, drop, length-drop}
use borrow.Author.Tests.{leb-false}
use Rattle.model.proofs.Tests.{by_eq}
use Rattle.decoder.specs.declared.types.Command.{Command}
use Rattle.std.specs.Prelude.{Ok, Err}
use Rattle.decoder.specs.Types.{Decoded}
use Rattle.decoder.specs.declared.types.DecodeError.TheVariants.{Unknown, Short, End}
use Rattle.decoder.specs.Commands.{longest_command, command_from}
use Rattle.decoder.proofs.Pieces.{whole_within, short_below, end_empty}
use Rattle.ending.specs.Rest.{rest_by, rest_of}
use Rattle.printer.specs.Lines.{room}
use Rattle.interpreter.specs.declared.types.Needs.{Needs}
use Rattle.interpreter.specs.Playing.{Playing, played, play_next, play_one, goes_on, play_for, play_of}
use Rattle.interpreter.specs.Rounds.{is_over}
use Rattle.interpreter.proofs.Playing.{last}

module _ (bytes : List ℕ) (ended : Bool) where
  -- why a run stops, or that it has gone on at every try
  abbrev Stands : (tries from : ℕ) → Needs → Playing → Type 0
  Stands tries from Needs.Nothing q = from + tries ≤ q.read
  Stands tries from Needs.Page q = length q.page.bytes < q.page.next + room
  Stands tries from Needs.Bytes q = (ended ≡ false) × (length (drop q.read bytes) < longest_command)
  Stands tries from Needs.Over q = Unit {0}

  pub record Advances (tries : ℕ) (p q : Playing) : Type 0 where
    pub read : p.read ≤ q.read
    pub within : p.read ≤ length bytes → q.read ≤ length bytes
    pub idle : q.read ≡ p.read → is_over q.needs ≡ false → q.page.next ≡ p.page.next
    pub stands : Stands tries p.read q.needs q

  module _ (p : Playing) where
    command : (c : Command) (n : ℕ) → command_from (drop p.read bytes) ≡ Ok (c, n) → Advances 1 p (played p c (p.read + n))
    command c n e =
        let w = whole_within _ c n e in
        let l = length-drop p.read bytes in
        record {
          read = omega arith;
          within = λ h. omega (arith, h, l, w.0, w.1);
          idle = λ z o. absurd (omega (arith, z, w.0));
          stands = omega (arith, w.0);
        }

    by_decoded : (d : Decoded) → command_from (drop p.read bytes) ≡ d → (t : Bool) → ended ≡ t
        → Advances 1 p (play_next p (rest_by t d))
    unfolding rest_by
    by_decoded (Ok (c, n)) e t f = command c n e
    by_decoded (Err Unknown) e t f = record { read = omega arith; within = λ h. h; idle = λ z o. cc; stands = tt }
    by_decoded (Err Short) e true f = record { read = omega arith; within = λ h. h; idle = λ z o. cc; stands = tt }
    by_decoded (Err Short) e false f = record { read = omega arith; within = λ h. h; idle = λ z o. refl; stands = (f, short_below _ e) }
    by_decoded (Err End) e true f = record { read = omega arith; within = λ h. h; idle = λ z o. refl; stands = tt }
    by_decoded (Err End) e false f = record {
      read = omega arith;
      within = λ h. h;
      idle = λ z o. refl;
      stands = (f, omega (arith, ap (λ (l : List ℕ). length l) (end_empty _ e)));
    }

    pub one_advances : Advances 1 p (play_one bytes ended p)
    unfolding play_one rest_of
    one_advances = by (leb (p.page.next + room) (length p.page.bytes)) refl
      where
        by : (t : Bool) → leb (p.page.next + room) (length p.page.bytes) ≡ t → Advances 1 p (play_one bytes ended p)
        by true e = simp e (by_decoded (command_from (drop p.read bytes)) refl ended refl)
        by false e =
            let full = leb-false (p.page.next + room) (length p.page.bytes) e in
            simp e (record { read = omega arith; within = λ h. h; idle = λ z o. refl; stands = omega (arith, full) })

  later : (n from from' : ℕ) (needs : Needs) (q : Playing) → from + 1 ≤ from' → Stands n from' needs q → Stands (suc n) from needs q
  later n from from' Needs.Nothing q h s = omega (arith, h, s)
  later n from from' Needs.Page q h s = s
  later n from from' Needs.Bytes q h s = s
  later n from from' Needs.Over q h s = s

  went_on : (p q : Playing) → goes_on q.needs ≡ true → Advances 1 p q → p.read + 1 ≤ q.read
  went_on p q e a = by q.needs e a.stands
    where
      by : (n : Needs) → goes_on n ≡ true → Stands 1 p.read n q → p.read + 1 ≤ q.read
      by Needs.Nothing e s = s
      by Needs.Page e s = absurd (true≢false (sym e))
      by Needs.Bytes e s = absurd (true≢false (sym e))
      by Needs.Over e s = absurd (true≢false (sym e))

  chain : (n : ℕ) (p q r : Playing) → goes_on q.needs ≡ true → Advances 1 p q → Advances n q r → Advances (suc n) p r
  chain n p q r on a b =
      let more = went_on p q on a in
      record {
        read = omega (arith, a.read, b.read);
        within = λ h. b.within (a.within h);
        idle = λ z o. absurd (omega (arith, z, more, b.read));
        stands = later n p.read q.read r.needs r more b.stands;
      }

  stopped : (n : ℕ) (p q : Playing) → goes_on q.needs ≡ false → Advances 1 p q → Advances n p q
  stopped n p q off a = record { read = a.read; within = a.within; idle = a.idle; stands = by q.needs off a.stands }
    where
      by : (m : Needs) → goes_on m ≡ false → Stands 1 p.read m q → Stands n p.read m q
      by Needs.Nothing e s = absurd (true≢false e)
      by Needs.Page e s = s
      by Needs.Bytes e s = s
      by Needs.Over e s = s

  advances : (n : ℕ) (p : Playing) → Advances (suc n) p (play_for (suc n) bytes ended p)
  unfolding play_for
  advances zero p = subst (Advances 1 p) (last bytes ended p (play_one bytes ended p) refl 1 refl) (one_advances p)
  advances (suc n) p = by (goes_on q.needs) refl (advances n q)
    where
      q : Playing
      q = play_one bytes ended p

      by : (t : Bool) → goes_on q.needs ≡ t → Advances (suc n) q (play_for (suc n) bytes ended q)
          → Advances (suc (suc n)) p (play_for (suc (suc n)) bytes ended p)
      by true e rest = simp e (chain (suc n) p q _ e (one_advances p) rest)
      by false e rest = simp e (stopped _ p q e (one_advances p))

  -- a whole run: it stops, since there are more tries than bytes
  module _ (p : Playing) where
    abbrev q : Playing
    q = play_of bytes ended p

    pub all_advances : Advances (suc (length bytes)) p q
    unfolding play_of
    all_advances = advances (length bytes) p

    -- more bytes are needed only where fewer are left than a command can have
    pub few : q.needs ≡ Needs.Bytes → length (drop q.read bytes) < longest_command
    few e = by q.needs e all_advances.stands
      where
        by : (n : Needs) → n ≡ Needs.Bytes → Stands (suc (length bytes)) p.read n q → length (drop q.read bytes) < longest_command
        by Needs.Nothing e s = absurd (true≢false (ap goes_on e))
        by Needs.Page e s = let z : ◌≡◌ {A = ℕ} 0 1 = cc in absurd (omega (arith, z))
        by Needs.Bytes e s = s.1
        by Needs.Over e s = absurd (true≢false (ap is_over e))

    -- at the end of the sheet, on a page with room for a line: the run is over, or a command was played
    pub moves : ended ≡ true → p.page.next + room ≤ length q.page.bytes → is_over q.needs ≡ false
        → p.read < q.read
    moves t fits on = by q.needs on all_advances.stands all_advances.idle
      where
        by : (n : Needs) → is_over n ≡ false → Stands (suc (length bytes)) p.read n q
            → (q.read ≡ p.read → is_over n ≡ false → q.page.next ≡ p.page.next) → p.read < q.read
        by Needs.Nothing o s i = omega (arith, s)
        by Needs.Page o s i =
            by_eq q.read p.read (λ z. absurd (omega (arith, s, fits, i z o))) (λ ne. omega (arith, ne, all_advances.read))
        by Needs.Bytes o s i = absurd (true≢false (sym t ∙ s.0))
        by Needs.Over o s i = absurd (true≢false o)
