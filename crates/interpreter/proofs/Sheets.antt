-- The laws of a sheet: a command takes a byte at least, so a count of the bytes is count enough of the commands.
use Prim.Native.Nat.{ℕ, zero, suc, ◌≤◌}
use mathlib.Core.Bool.{true}
use mathlib.Core.List.{List, [], ◌∷◌, ◌++◌, append-nil}
use mathlib.Core.Path.{◌≡◌, refl, sym, ap, ◌∙◌}
use native.Mathlib.Omega.{arith}
use lib.ListN.{length, drop, length-drop}
use lib.Seq.{drop-append-le}
use Rattle.model.specs.declared.types.Refusal.TheVariants.{UnknownCommand, CutShort}
use Rattle.decoder.specs.declared.types.Command.{Command}
use Rattle.std.specs.Prelude.{Ok, Err}
use Rattle.decoder.specs.Types.{Decoded}
use Rattle.decoder.specs.declared.types.DecodeError.TheVariants.{Unknown, Short, End}
use Rattle.decoder.specs.Commands.{command_from}
use Rattle.decoder.proofs.Pieces.{settled, stays, whole_within, end_empty}
use Rattle.printer.specs.declared.types.Line.{Line}
use Rattle.printer.specs.declared.types.Line.TheVariants.{Refused}
use Rattle.buffers.specs.Session.{Session}
use Rattle.executor.specs.Perform.{performed_all}
use Rattle.interpreter.specs.Sheet.{Script, first, ends, script_by, script_for, script_of, lines_from, first_session, sheet_of}
use Rattle.interpreter.specs.Sheet.{Complete, SheetLaws}

-- ---- enough commands

by_alike : (d : Decoded) (a b : ℕ → Script) → ((c : Command) (n : ℕ) → d ≡ Ok (c, n) → a n ≡ b n) → script_by d a ≡ script_by d b
by_alike (Ok (c, n)) a b h = ap (first c) (h c n refl)
by_alike (Err Unknown) a b h = refl
by_alike (Err Short) a b h = refl
by_alike (Err End) a b h = refl

shorter : (bytes : List ℕ) (c : Command) (n m : ℕ) → command_from bytes ≡ Ok (c, n) → length bytes ≤ suc m
    → length (drop n bytes) ≤ m
shorter bytes c n m e h = let w = whole_within bytes c n e in omega (arith, length-drop n bytes, w.0, w.1, h)

enough : (f g : ℕ) (bytes : List ℕ) → length bytes ≤ f → length bytes ≤ g → script_for f bytes ≡ script_for g bytes
unfolding script_for command_from
enough zero zero bytes h k = refl
enough zero (suc g) [] h k = refl
enough zero (suc g) (b ∷ bytes) h k = let z : ◌≡◌ {A = ℕ} 0 1 = omega (arith, h) in cc
enough (suc f) zero [] h k = refl
enough (suc f) zero (b ∷ bytes) h k = let z : ◌≡◌ {A = ℕ} 0 1 = omega (arith, k) in cc
enough (suc f) (suc g) bytes h k = by_alike (command_from bytes) _ _ λ c n e.
    enough f g (drop n bytes) (shorter bytes c n f e h) (shorter bytes c n g e k)

-- what the bytes begin with decides
pub script_by_lem : (bytes : List ℕ) → script_of bytes ≡ script_by (command_from bytes) (λ n. script_of (drop n bytes))
unfolding script_of script_for command_from
script_by_lem [] = refl
script_by_lem (b ∷ bytes) = by_alike (command_from (b ∷ bytes)) _ _ λ c n e.
    (let rest = drop n (b ∷ bytes) in
    enough (length bytes) (length rest) rest (shorter (b ∷ bytes) c n (length bytes) e (omega arith)) (omega arith))

module _ (bytes : List ℕ) (d : Decoded) (e : command_from bytes ≡ d) where
  pub begins : script_of bytes ≡ script_by d (λ n. script_of (drop n bytes))
  begins = script_by_lem bytes ∙ ap (λ (x : Decoded). script_by x (λ n. script_of (drop n bytes))) e

  pub lines_by : (w : Session) → lines_from w (script_of bytes) ≡ lines_from w (script_by d (λ n. script_of (drop n bytes)))
  lines_by w = ap (lines_from w) begins

-- ---- bytes behind others

-- what is decided stays so, whatever stands behind
pub still : (xs ys : List ℕ) (d : Decoded) → settled d ≡ true → command_from xs ≡ d → command_from (xs ++ ys) ≡ d
still xs ys d s e = stays xs ys (ap settled e ∙ s) ∙ e

abbrev joined : Script → Script → Script
joined a b = record { commands = a.commands ++ b.commands; ending = b.ending }

abbrev Joins : (front bytes : List ℕ) → Type 0
Joins front bytes = Complete front → script_of (front ++ bytes) ≡ joined (script_of front) (script_of bytes)

module _ (bytes front : List ℕ) where
  ended : (d : Decoded) (l : Line) → command_from front ≡ d → script_by d (λ n. script_of (drop n front)) ≡ ends (l ∷ [])
      → Joins front bytes
  ended d l e h none = let z = ap (λ (s : Script). s.ending) (sym h ∙ sym (begins front d e)) ∙ none in cc

  command_first : (c : Command) (n : ℕ) → command_from front ≡ Ok (c, n) → Joins (drop n front) bytes → Joins front bytes
  command_first c n e h none =
      let first_of = begins front (Ok (c, n)) e in
      begins (front ++ bytes) (Ok (c, n)) (still front bytes (Ok (c, n)) refl e)
      ∙ ap (λ (l : List ℕ). first c (script_of l)) (drop-append-le n front bytes (whole_within front c n e).1)
      ∙ ap (first c) (h (ap (λ (s : Script). s.ending) (sym first_of) ∙ none))
      ∙ ap (λ (s : Script). joined s (script_of bytes)) (sym first_of)

  by_first : (d : Decoded) → command_from front ≡ d
      → ((c : Command) (n : ℕ) → command_from front ≡ Ok (c, n) → Joins (drop n front) bytes) → Joins front bytes
  unfolding script_of script_for
  by_first (Ok (c, n)) e h = command_first c n e (h c n e)
  by_first (Err Unknown) e h = ended (Err Unknown) (Refused UnknownCommand) e refl
  by_first (Err Short) e h = ended (Err Short) (Refused CutShort) e refl
  by_first (Err End) e h = λ none. rw (end_empty front e) refl

joins : (bytes : List ℕ) (m : ℕ) (front : List ℕ) → length front ≤ m → Joins front bytes
joins bytes zero front h = by_first bytes front (command_from front) refl λ c n e.
    (let w = whole_within front c n e in absurd (omega (arith, h, w.0, w.1)))
joins bytes (suc m) front h = by_first bytes front (command_from front) refl λ c n e.
    joins bytes m (drop n front) (shorter front c n m e h)

-- a run that ends with a line behind whole commands
ends_with : (front bytes : List ℕ) (l : Line) → Complete front → script_of bytes ≡ ends (l ∷ [])
    → sheet_of (front ++ bytes) ≡ sheet_of front ++ (l ∷ [])
unfolding sheet_of
ends_with front bytes l whole e =
    let commands = (script_of front).commands in
    ap (lines_from first_session) (joins bytes (length front) front (omega arith) whole ∙ ap (joined (script_of front)) e)
    ∙ ap (λ (cs : List Command). (performed_all first_session cs).lines ++ (l ∷ [])) (append-nil commands)
    ∙ ap (λ (ls : List Line). ls ++ (l ∷ [])) (sym (append-nil (performed_all first_session commands).lines))
    ∙ ap (λ (ls : List Line). (performed_all first_session commands).lines ++ ls ++ (l ∷ [])) (sym whole)

pub sheet_laws : SheetLaws
unfolding performed_all sheet_of script_of script_for
sheet_laws = record {
  command = λ w bytes c n e. lines_by bytes (Ok (c, n)) e w;
  empty = refl;
  unknown = λ w bytes more e. lines_by (bytes ++ more) (Err Unknown) (still bytes more (Err Unknown) refl e) w;
  cut_short = λ w bytes e. lines_by bytes (Err Short) e w;
  unknown_ends = λ front bytes more whole e.
      ends_with front (bytes ++ more) _ whole (begins (bytes ++ more) (Err Unknown) (still bytes more (Err Unknown) refl e));
  cut_short_ends = λ front bytes whole e. ends_with front bytes _ whole (begins bytes (Err Short) e);
}
