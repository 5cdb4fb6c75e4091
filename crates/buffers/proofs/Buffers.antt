-- The table at the start of a buffer, however short the buffer is.
use Prim.Native.Nat.{ℕ, zero, suc, min}
use mathlib.Core.Path.{◌≡◌, ap, ◌∙◌}
use mathlib.Core.List.{List, [], ◌∷◌}
use native.Mathlib.Nat.{suc-min-suc, min-zero, zero-min}
use native.Mathlib.Omega.{arith}
use lib.ListN.{length, take, drop}
use Rattle.buffers.specs.Session.{Lends}

-- a buffer has no more words than it has
take_min : (n : ℕ) (l : List ℕ) → take (min n (length l)) l ≡ take n l
take_min zero l = ap (λ k. take k l) (zero-min (length l))
take_min (suc n) [] = ap (λ k. take k []) (min-zero (suc n))
take_min (suc n) (x ∷ l) = ap (λ k. take k (x ∷ l)) (suc-min-suc n (length l)) ∙ ap (λ k. x ∷ k) (take_min n l)

drop_min : (n : ℕ) (l : List ℕ) → drop (min n (length l)) l ≡ drop n l
drop_min zero l = ap (λ k. drop k l) (zero-min (length l))
drop_min (suc n) [] = ap (λ k. drop k []) (min-zero (suc n))
drop_min (suc n) (x ∷ l) = ap (λ k. drop k (x ∷ l)) (suc-min-suc n (length l)) ∙ drop_min n l

pub lends : (n words : ℕ) (buffer : List ℕ) → n ≡ min words (length buffer) → Lends n words buffer
lends n words buffer e = record {
  within = omega (arith, e);
  lent = ap (λ k. take k buffer) e ∙ take_min words buffer;
  left = ap (λ k. drop k buffer) e ∙ drop_min words buffer;
}
