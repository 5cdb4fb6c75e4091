-- Facts from tests: how a fact about a choice is proved, by a fact of each branch.
use Prim.Native.Nat.{ℕ, ◌≤◌, ◌<◌}
use mathlib.Core.Bool.{Bool, true, false, not, ◌&&◌}
use mathlib.Core.Logic.{◌≢◌, ◌↔◌}
use mathlib.Core.Path.{◌≡◌, refl, sym, subst}
use lib.Dec.{T, eqb, leb, ltb, eqb→eq, eqb_refl, leb→le, nleb→lt}
use borrow.Author.Tests.{leb-true, le-leb, eqb-true, eq-eqb}
use Rattle.std.specs.Prelude.{if◌then◌else◌}

pub if-by : {A : Type 0} (P : A → Type 0) (b : Bool) {x y : A} → (T b → P x) → (T (not b) → P y) → P (if b then x else y)
if-by P true f g = f tt
if-by P false f g = g tt

pub if_yes : {A : Type 0} (b : Bool) (x y : A) → T b → (if b then x else y) ≡ x
if_yes true x y t = refl
if_yes false x y t = absurd t

pub if_no : {A : Type 0} (b : Bool) (x y : A) → T (not b) → (if b then x else y) ≡ y
if_no true x y t = absurd t
if_no false x y t = refl

pub by_test : {P : Type 0} (b : Bool) → (T b → P) → (T (not b) → P) → P
by_test true f g = f tt
by_test false f g = g tt

pub T-absurd : (b : Bool) → T b → T (not b) → ⊥
T-absurd true p q = q
T-absurd false p q = p

pub not_not : (b : Bool) → T b → T (not (not b))
not_not true t = tt
not_not false t = t

pub T_true : {b : Bool} → b ≡ true → T b
T_true e = subst (λ b. T b) (sym e) tt

pub is_true : (b : Bool) → T b → b ≡ true
is_true true t = refl
is_true false t = absurd t

pub and→ : (a b : Bool) → T (a && b) → T a × T b
and→ true b t = (tt, t)
and→ false b t = absurd t

pub →and : (a b : Bool) → T a → T b → T (a && b)
→and true b p q = q
→and false b p q = p

pub neqb→ne : (m n : ℕ) → T (not (eqb m n)) → m ≢ n
neqb→ne m n t e = T-absurd (eqb m n) (subst (λ k. T (eqb m k)) e (eqb_refl m)) t

pub eq→eqb : (m n : ℕ) → m ≡ n → T (eqb m n)
eq→eqb m n e = subst (λ k. T (eqb m k)) e (eqb_refl m)

pub ne→neqb : (m n : ℕ) → m ≢ n → T (not (eqb m n))
ne→neqb m n ne = by_test (eqb m n) (λ t. absurd (ne (eqb→eq m n t))) (λ t. t)

-- what a test tells, for `simp`
pub leb_iff : (a b : ℕ) → (leb a b ≡ true) ↔ (a ≤ b)
leb_iff a b = (leb-true a b, le-leb a b)

pub eqb_iff : (a b : ℕ) → (eqb a b ≡ true) ↔ (a ≡ b)
eqb_iff a b = (eqb-true a b, eq-eqb a b)

-- two numbers are equal or not
pub by_eq : {P : Type 0} (m n : ℕ) → (m ≡ n → P) → (m ≢ n → P) → P
by_eq m n f g = by_test (eqb m n) (λ t. f (eqb→eq m n t)) (λ t. g (neqb→ne m n t))

pub by_le : {P : Type 0} (m n : ℕ) → (m ≤ n → P) → (n < m → P) → P
by_le m n f g = by_test (leb m n) (λ t. f (leb→le m n t)) (λ t. g (nleb→lt m n t))

-- ---- the branch taken, by the number's test

-- a choice by equality
pub if-eq : {A : Type 0} (P : A → Type 0) (m n : ℕ) {x y : A} → (m ≡ n → P x) → (m ≢ n → P y) → P (if eqb m n then x else y)
if-eq P m n f g = if-by P (eqb m n) (λ t. f (eqb→eq m n t)) (λ t. g (neqb→ne m n t))

pub if-le : {A : Type 0} (P : A → Type 0) (m n : ℕ) {x y : A} → (m ≤ n → P x) → (n < m → P y) → P (if leb m n then x else y)
if-le P m n f g = if-by P (leb m n) (λ t. f (leb→le m n t)) (λ t. g (nleb→lt m n t))

pub if-lt : {A : Type 0} (P : A → Type 0) (m n : ℕ) {x y : A} → (m < n → P x) → (n ≤ m → P y) → P (if ltb m n then x else y)
if-lt P m n f g = if-by P (ltb m n) (λ t. f (lib.Dec.ltb→lt m n t)) (λ t. g (lib.Dec.nltb→le m n t))
