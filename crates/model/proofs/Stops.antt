-- Tests that stop at the first one met: what passing a test says, and when two runs of tests agree.
use mathlib.Core.Bool.{Bool, true, false, not}
use mathlib.Core.Path.{◌≡◌, refl}
use lib.Dec.{T}
use Rattle.std.specs.Prelude.{if◌then◌else◌}

-- where stopping is impossible, the test was passed
pub if-passed : {A : Type 0} (P : A → Type 0) (b : Bool) {x y : A}
    → (T b → P x → ⊥) → P (if b then x else y) → T (not b) × P y
if-passed P true out h = absurd (out tt h)
if-passed P false out h = (tt, h)

-- where going on is impossible, the test was met
pub if-met : {A : Type 0} (P : A → Type 0) (b : Bool) {x y : A}
    → (T (not b) → P y → ⊥) → P (if b then x else y) → T b × P x
if-met P true out h = (tt, h)
if-met P false out h = absurd (out tt h)

-- runs that stop alike agree where they agree behind the test
pub if-same : {A : Type 0} (b : Bool) (x : A) {y z : A}
    → (T (not b) → y ≡ z) → (if b then x else y) ≡ (if b then x else z)
if-same true x h = refl
if-same false x h = h tt

pub not-not→ : (b : Bool) → T (not (not b)) → T b
not-not→ true t = tt
not-not→ false t = t

-- two tests that pass together are one
pub T-ext : (a b : Bool) → (T a → T b) → (T b → T a) → a ≡ b
T-ext true true f g = refl
T-ext false false f g = refl
T-ext true false f g = absurd (f tt)
T-ext false true f g = absurd (g tt)
