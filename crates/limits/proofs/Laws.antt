-- Laws of the tests of refusal 10: the order in which they are asked, and a length divided once.
use Prim.Native.Nat.{ℕ, ◌+◌, ◌*◌, ◌/◌, ◌<◌}
use mathlib.Core.Bool.{Bool, true, false, ◌&&◌, and-eq-true_iff}
use mathlib.Core.Path.{◌≡◌, refl, sym}
use native.Mathlib.Nat.{div-add-mod, div-le_of_le-mul, le-div_iff_mul-le, mul-le-mul_left}
use native.Mathlib.Omega.{arith}
use lib.Dec.{leb, ltb, eqb}
use Rattle.model.specs.Layout.{capacity}
use Rattle.model.specs.State.{within, lawful_length}
use Rattle.model.proofs.Tests.{leb_iff, eqb_iff}

-- one test that fails is enough
pub and-false : (b : Bool) → (b && false) ≡ false
and-false true = refl
and-false false = refl

-- four tests after others, taken two by two: the first with the third
pub in_pairs : (before a b c d : Bool) → before && a && b && c && d ≡ before && (a && c) && (b && d)
in_pairs false a b c d = refl
in_pairs true false b c d = refl
in_pairs true true false c d = sym (and-false c)
in_pairs true true true c d = refl

-- two tests are equal where each follows from the other
same_test : (a b : Bool) → (a ≡ true → b ≡ true) → (b ≡ true → a ≡ true) → a ≡ b
same_test true b f g = sym (f refl)
same_test false true f g = g refl
same_test false false f g = refl

-- where the quotient's product is the length, no remainder is left, and bounds on the one are bounds on the other
pub one_division : (words most n used : ℕ) → 0 < words
    → within 2 (most + 1) (n / words) && eqb (words * (n / words)) n && ltb used (n / words)
    ≡ lawful_length words most n && leb used (capacity words n)
unfolding lawful_length capacity
one_division words most n used some =
    let whole = div-add-mod n words in
    same_test _ _
    (λ h.
    let f = simp (and-eq-true_iff, leb_iff, eqb_iff) at h in
    let most-words = mul-le-mul_left words f.0.0.1 in
    simp (and-eq-true_iff, leb_iff, eqb_iff)
    ((((le-div_iff_mul-le some).0 f.0.0.0, omega arith), omega arith), omega arith))
    (λ h.
    let f = simp (and-eq-true_iff, leb_iff, eqb_iff) at h in
    let two = (le-div_iff_mul-le some).1 f.0.0.0 in
    let few = div-le_of_le-mul words f.0.0.1 in
    simp (and-eq-true_iff, leb_iff, eqb_iff) (((two, omega arith), omega arith), omega arith))
