-- Reading in pieces: what more bytes can change, and how many a caller must hold.
use Prim.Native.Nat.{ℕ, zero, suc, ◌+◌, ◌≤◌, ◌<◌}
use mathlib.Core.Path.{◌≡◌, refl, ap}
use mathlib.Core.Bool.{Bool, true, false}
use mathlib.Core.List.{List, [], ◌∷◌, ◌++◌}
use native.Mathlib.Omega.{arith}
use lib.Dec.{eqb, ltb}
use lib.ListN.{length, drop, length-append, length-drop}
use lib.Seq.{take-append-le, drop-append-le}
use borrow.Author.Tests.{le-ltb, ltb-true, ltb-false}
use Rattle.std.specs.Prelude.{Ok, Err}
use Rattle.decoder.specs.Types.{Command, Decoded, Unknown, Short, End}
use Rattle.decoder.specs.Commands.{Form, Opcode, opcodes, total, widest, longest_command, operand, command_with, form_from, code_from, command_from}

-- What holds of an unknown byte and of each form holds of every byte; of two lists of bytes behind it, too.
code_cases : (P : Decoded → Decoded → Type 0) (os : List Opcode) (code : ℕ) (xs zs : List ℕ) → P (Err Unknown) (Err Unknown)
    → ((f : Form) → total f.widths ≤ widest os → P (form_from f xs) (form_from f zs)) → P (code_from os code xs) (code_from os code zs)
unfolding code_from
code_cases P [] code xs zs u h = u
code_cases P (o ∷ os) code xs zs u h = by (eqb code o.code) refl (code_cases P os code xs zs u λ g l. h g (omega arith))
  where
    by : (t : Bool) → eqb code o.code ≡ t → P (code_from os code xs) (code_from os code zs) → P (code_from (o ∷ os) code xs) (code_from (o ∷ os) code zs)
    by true e rest = simp e (h o.form (omega arith))
    by false e rest = simp e rest

-- ---- more bytes

-- what more bytes leave as it is
abbrev pub settled : Decoded → Bool
settled (Ok x) = true
settled (Err Unknown) = true
settled (Err Short) = false
settled (Err End) = false

operand_more : (widths xs ys : List ℕ) → total widths ≤ length xs → (i : ℕ) → operand widths (xs ++ ys) i ≡ operand widths xs i
operand_more [] xs ys h i = refl
operand_more (w ∷ widths) xs ys h zero = rw (take-append-le w xs ys (omega arith))
operand_more (w ∷ widths) xs ys h (suc i) =
    rw (drop-append-le w xs ys (omega arith)) (operand_more widths (drop w xs) ys (rw length-drop (omega arith)) i)

form_stays : (f : Form) (xs ys : List ℕ) → settled (form_from f xs) ≡ true → form_from f (xs ++ ys) ≡ form_from f xs
unfolding form_from
form_stays f xs ys = by (ltb (length xs) (total f.widths)) refl
  where
    by : (t : Bool) → ltb (length xs) (total f.widths) ≡ t → settled (form_from f xs) ≡ true → form_from f (xs ++ ys) ≡ form_from f xs
    by true e h = let z : ◌≡◌ {A = Bool} false true = simp e at h in cc
    by false e h =
        let enough : total f.widths ≤ length xs = ltb-false (length xs) (total f.widths) e in
        let more : total f.widths ≤ length (xs ++ ys) = rw length-append (omega arith) in
        let same : command_with f (xs ++ ys) ≡ command_with f xs = ap f.command (λ j i. operand_more f.widths xs ys enough i j) in
        simp (e, le-ltb _ _ more, same)

-- a whole command and an unknown byte stay what they are, whatever is read behind them
pub stays : (xs ys : List ℕ) → settled (command_from xs) ≡ true → command_from (xs ++ ys) ≡ command_from xs
unfolding command_from
stays [] ys h = let z : ◌≡◌ {A = Bool} false true = h in cc
stays (code ∷ xs) ys h =
    code_cases (λ d e. settled d ≡ true → e ≡ d) opcodes code xs (xs ++ ys) (λ s. refl) (λ f l. form_stays f xs ys) h

-- ---- lengths

-- how many bytes a whole command has
abbrev count : Decoded → ℕ
count (Ok x) = x.1
count (Err e) = 0

form_within : (f : Form) (xs : List ℕ) (c : Command) (n : ℕ) → form_from f xs ≡ Ok (c, n) → (1 ≤ n) × (n ≤ suc (length xs))
unfolding form_from
form_within f xs c n = by (ltb (length xs) (total f.widths)) refl
  where
    by : (t : Bool) → ltb (length xs) (total f.widths) ≡ t → form_from f xs ≡ Ok (c, n) → (1 ≤ n) × (n ≤ suc (length xs))
    by true e h = let z : ◌≡◌ {A = Decoded} (Err Short) (Ok (c, n)) = simp e at h in let q : ◌≡◌ {A = ℕ} 0 1 = cc in omega arith
    by false e h =
        let w : ◌≡◌ {A = Decoded} (Ok (command_with f xs, 1 + total f.widths)) (Ok (c, n)) = simp e at h in
        let q : 1 + total f.widths ≡ n = ap count w in
        let enough = ltb-false (length xs) (total f.widths) e in
        omega arith

-- a whole command has a byte at least, and lies within the bytes
pub whole_within : (xs : List ℕ) (c : Command) (n : ℕ) → command_from xs ≡ Ok (c, n) → (1 ≤ n) × (n ≤ length xs)
unfolding command_from
whole_within [] c n h = let q : ◌≡◌ {A = ℕ} 0 1 = cc in omega arith
whole_within (code ∷ xs) c n h =
    code_cases (λ d e. d ≡ Ok (c, n) → (1 ≤ n) × (n ≤ suc (length xs))) opcodes code xs xs
    (λ e. let q : ◌≡◌ {A = ℕ} 0 1 = cc in omega arith)
    (λ f l. form_within f xs c n)
    h

form_short : (f : Form) (xs : List ℕ) → form_from f xs ≡ Err Short → length xs < total f.widths
unfolding form_from
form_short f xs = by (ltb (length xs) (total f.widths)) refl
  where
    by : (t : Bool) → ltb (length xs) (total f.widths) ≡ t → form_from f xs ≡ Err Short → length xs < total f.widths
    by true e h = ltb-true (length xs) (total f.widths) e
    by false e h = let w : ◌≡◌ {A = Decoded} (Ok (command_with f xs, 1 + total f.widths)) (Err Short) = simp e at h in let q : ◌≡◌ {A = ℕ} 0 1 = cc in omega arith

-- whoever holds as many bytes as the longest command has is never told that they are too few
pub short_below : (xs : List ℕ) → command_from xs ≡ Err Short → length xs < longest_command
unfolding command_from
short_below [] h = let q : ◌≡◌ {A = ℕ} 0 1 = cc in omega arith
short_below (code ∷ xs) h =
    code_cases (λ d e. d ≡ Err Short → suc (length xs) < longest_command) opcodes code xs xs
    (λ e. let q : ◌≡◌ {A = ℕ} 0 1 = cc in omega arith)
    (λ f l e. let few = form_short f xs e in omega arith)
    h

form_some : (f : Form) (xs : List ℕ) → form_from f xs ≡ Err End → ◌≡◌ {A = ℕ} 0 1
unfolding form_from
form_some f xs = by (ltb (length xs) (total f.widths)) refl
  where
    by : (t : Bool) → ltb (length xs) (total f.widths) ≡ t → form_from f xs ≡ Err End → ◌≡◌ {A = ℕ} 0 1
    by true e h = let z : ◌≡◌ {A = Decoded} (Err Short) (Err End) = simp e at h in cc
    by false e h = let z : ◌≡◌ {A = Decoded} (Ok (command_with f xs, 1 + total f.widths)) (Err End) = simp e at h in cc

-- an end is where no byte stands
pub end_empty : (xs : List ℕ) → command_from xs ≡ Err End → xs ≡ []
unfolding command_from
end_empty [] h = refl
end_empty (code ∷ xs) h =
    let z = code_cases (λ d e. d ≡ Err End → ◌≡◌ {A = ℕ} 0 1) opcodes code xs xs (λ e. cc) (λ f l. form_some f xs) h in
    cc
