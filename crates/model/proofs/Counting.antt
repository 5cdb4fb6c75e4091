-- Counting the numbers 1 to n that pass a test: a test that more numbers pass has a greater count, so one that no fewer
-- pass than a wider one is passed by the same numbers.
use Prim.Native.Nat.{ℕ, zero, suc, ◌+◌, ◌≤◌, ◌<◌}
use mathlib.Core.Bool.{Bool, true, false, not, ◌&&◌}
use mathlib.Core.Logic.{◌≢◌}
use mathlib.Core.Path.{◌≡◌, refl, sym, subst}
use native.Mathlib.Omega.{arith}
use lib.Dec.{T, eqb}
use Rattle.std.specs.Prelude.{if◌then◌else◌}
use Rattle.model.proofs.Tests.{by_test, by_eq, ne→neqb, neqb→ne, and→, →and, T-absurd}

unfoldable pub count : (ℕ → Bool) → ℕ → ℕ
count f zero = 0
count f (suc n) = (if f (suc n) then 1 else 0) + count f n

-- every number from 1 to n that passes f passes g
abbrev pub Within : ℕ → (f g : ℕ → Bool) → Type 0
Within n f g = (x : ℕ) → 1 ≤ x → x ≤ n → T (f x) → T (g x)

one_mono : (a b : Bool) → (T a → T b) → (if a then 1 else 0) ≤ (if b then 1 else 0)
one_mono true true h = omega arith
one_mono true false h = absurd (h tt)
one_mono false b h = omega arith

pub count_mono : (f g : ℕ → Bool) (n : ℕ) → Within n f g → count f n ≤ count g n
unfolding count
count_mono f g zero h = omega arith
count_mono f g (suc n) h = omega (
  arith,
  one_mono (f (suc n)) (g (suc n)) (h (suc n) (omega arith) (omega arith)),
  count_mono f g n (λ x a b. h x a (omega arith)),
)

pub count_most : (f : ℕ → Bool) (n : ℕ) → count f n ≤ n
unfolding count
count_most f zero = omega arith
count_most f (suc n) = omega (arith, one_mono (f (suc n)) true (λ _. tt), count_most f n)

pub count_none : (f : ℕ → Bool) (n : ℕ) → ((x : ℕ) → 1 ≤ x → x ≤ n → T (f x) → ⊥) → count f n ≡ 0
unfolding count
count_none f zero h = refl
count_none f (suc n) h = omega (
  arith,
  one_mono (f (suc n)) false (h (suc n) (omega arith) (omega arith)),
  count_none f n (λ x a b. h x a (omega arith)),
)

-- ---- one number less

abbrev pub without : (ℕ → Bool) → ℕ → ℕ → Bool
without f y x = f x && not (eqb x y)

pub without→ : (f : ℕ → Bool) (y x : ℕ) → T (without f y x) → T (f x) × (x ≢ y)
without→ f y x t = let p = and→ (f x) (not (eqb x y)) t in (p.0, neqb→ne x y p.1)

pub →without : (f : ℕ → Bool) (y x : ℕ) → T (f x) → x ≢ y → T (without f y x)
→without f y x t ne = →and (f x) (not (eqb x y)) t (ne→neqb x y ne)

pub count_without : (f : ℕ → Bool) (n y : ℕ) → 1 ≤ y → y ≤ n → T (f y) → count f n ≡ suc (count (without f y) n)
unfolding count
count_without f zero y a b t = absurd (omega arith)
count_without f (suc n) y a b t = by_eq y (suc n) last (λ ne. before ne (count_without f n y a (omega arith) t))
  where
    last : y ≡ suc n → count f (suc n) ≡ suc (count (without f y) (suc n))
    last e = omega (
      arith,
      one_mono true (f (suc n)) (λ _. subst (λ x. T (f x)) e t),
      one_mono (f (suc n)) true (λ _. tt),
      one_mono (without f y (suc n)) false (λ u. (without→ f y (suc n) u).1 (sym e)),
      count_mono f (without f y) n (λ x i j u. →without f y x u (omega arith)),
      count_mono (without f y) f n (λ x i j u. (without→ f y x u).0),
    )

    before : y ≢ suc n → count f n ≡ suc (count (without f y) n) → count f (suc n) ≡ suc (count (without f y) (suc n))
    before ne e = omega (
      arith,
      one_mono (f (suc n)) (without f y (suc n)) (λ u. →without f y (suc n) u (omega arith)),
      one_mono (without f y (suc n)) (f (suc n)) (λ u. (without→ f y (suc n) u).0),
    )

-- ---- f wider than g

-- by a number that passes f alone: f's count is greater
pub count_less : (f g : ℕ → Bool) (n y : ℕ) → 1 ≤ y → y ≤ n → T (f y) → (T (g y) → ⊥) → Within n g f
    → count g n < count f n
count_less f g n y a b t alone h = omega (
  arith,
  count_without f n y a b t,
  count_mono g (without f y) n (λ x i j u. →without f y x (h x i j u) (λ e. alone (subst (λ z. T (g z)) e u))),
)

-- so by none, if f's count is not greater
pub count_all : (f g : ℕ → Bool) (n : ℕ) → Within n g f → count f n ≤ count g n → Within n f g
count_all f g n h le x a b t = by_test (g x) (λ u. u)
    (λ u. absurd (omega (arith, count_less f g n x a b t (λ v. T-absurd (g x) v u) h)))
