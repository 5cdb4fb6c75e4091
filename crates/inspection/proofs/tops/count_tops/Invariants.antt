-- The loop keeps the counts over the nodes before x.
use Prim.Native.Nat.{◌+◌, ◌-◌, ◌≤◌}
use mathlib.Core.Path.{◌≡◌}
use lib.ListN.{length}
use Rattle.model.specs.Layout.{levels}
use Rattle.inspection.specs.Tops.{TopCounts}
use Rattle.inspection.proofs.tops.count_tops.Given as goal

abbrev pub invariant-loop-x : goal.invariant-loop-x
invariant-loop-x l = (l.x ≤ l.used + 1) × (length l.counts ≡ levels) × TopCounts l.nodes (l.x - 1) l.counts
