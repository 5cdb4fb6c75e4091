-- Words by name: so many from a position on, and a list that is all of them.
use Prim.Native.Nat.{ℕ, zero, suc, ◌+◌, ◌≤◌}
use mathlib.Core.List.{List, [], ◌∷◌, ◌++◌, append-nil}
use mathlib.Core.Path.{◌≡◌, sym, ap, ◌∙◌}
use native.Mathlib.Omega.{arith}
use lib.ListN.{length, get_or, drop, drop_of_length-le}
use lib.Seq.{drop-cons}

-- k words from a position on, by name
abbrev pub heads : (k at : ℕ) → List ℕ → List ℕ
heads zero at w = []
heads (suc k) at w = get_or w at 0 ∷ heads k (suc at) w

pub heads_are : (k at : ℕ) (w : List ℕ) → at + k ≤ length w → drop at w ≡ heads k at w ++ drop (at + k) w
heads_are zero at w h = let e : at ≡ at + 0 = omega arith in ap (λ n. drop n w) e
heads_are (suc k) at w h =
    let e : suc at + k ≡ at + suc k = omega arith in
    drop-cons w at 0 (omega (arith, h))
    ∙ ap (λ r. get_or w at 0 ∷ r) (heads_are k (suc at) w (omega (arith, h)) ∙ ap (λ n. heads k (suc at) w ++ drop n w) e)

-- a list of n words, by name
pub spelt : (n : ℕ) (w : List ℕ) → length w ≡ n → heads n 0 w ≡ w
spelt n w h =
    let past : length w ≤ 0 + n = omega (arith, h) in
    let none : drop (0 + n) w ≡ [] = drop_of_length-le w past in
    sym (append-nil (heads n 0 w)) ∙ ap (λ r. heads n 0 w ++ r) (sym none) ∙ sym (heads_are n 0 w (omega (arith, h)))
