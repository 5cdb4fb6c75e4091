-- The loop keeps: what lies as many places behind i as are left is what the whole look shows.
use Prim.Native.Nat.{◌-◌, ◌≤◌}
use mathlib.Core.Path.{◌≡◌}
use Rattle.model.specs.Calls.{back_from}
use Rattle.queries.proofs.look.version_back.Given as goal

abbrev pub invariant-loop : goal.invariant-loop
invariant-loop l = (l.i ≤ l.from) × (back_from l.versions l.back l.from ≡ back_from l.versions (l.back - l.counter) l.i)
