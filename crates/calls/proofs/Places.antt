-- A process's place lies in the array, and is its own where there is such a process.
use Prim.Native.Nat.{ℕ, ◌%◌, ◌<◌}
use mathlib.Core.Path.{◌≡◌}
use native.Mathlib.Omega.{arith}
use Rattle.model.specs.Layout.{limits}

pub slot_below : (i j : ℕ) → j ≡ i % limits.processes → j < limits.processes
slot_below i j e = omega arith

pub slot_own : (i j : ℕ) → j ≡ i % limits.processes → i < limits.processes → j ≡ i
slot_own i j e h = omega arith
