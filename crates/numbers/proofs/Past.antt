-- A number that is none of the first ones is past them, one at a time.
use Prim.Native.Nat.{ℕ, suc, ◌≤◌}
use mathlib.Core.List.{[], ◌∷◌}
use native.Mathlib.Omega.{arith}
use types.Run.{OneOf}

pub past : (k n : ℕ) → k ≤ n → (OneOf (k ∷ []) n → ⊥) → suc k ≤ n
past k n h r = omega (arith, h, r)
