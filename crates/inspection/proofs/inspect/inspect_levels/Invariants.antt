-- The chain loop keeps: what is left of the pass gives the node's answer. The links loop keeps: what is left of the level's walk gives the
use Prim.Native.Nat.{suc, ◌+◌, ◌-◌, ◌≤◌}
use mathlib.Core.Path.{◌≡◌}
use Rattle.model.specs.Layout.{top_level, levels}
use Rattle.model.specs.Inspection.{reaching, level_from, levels_from, inspection}
use Rattle.model.proofs.LevelBound.{ahead}
use Rattle.tables.specs.Room.{memory}
use Rattle.inspection.specs.Faults.{chain_start}
use Rattle.inspection.proofs.ChainTurns.{left}
use Rattle.inspection.proofs.inspect.inspect_levels.Given as goal

abbrev pub invariant-chain : goal.invariant-chain
invariant-chain l =
    let m = memory l.nodes l.versions l.counts in
    (l.version ≤ l.counts.versions) × (left m l.level l.node (chain_start l.nodes l.level l.node) ≡ left m l.level l.node l.version)

abbrev pub decreases-chain : goal.decreases-chain
decreases-chain l = l.version

abbrev pub invariant-links : goal.invariant-links
invariant-links l =
    let m = memory l.nodes l.versions l.counts in
    (l.node ≤ l.counts.nodes)
    × (l.seen + ahead m l.level l.node ≤ l.counts.nodes)
    × (level_from m l.level (l.counts.nodes + 1) 0 0 ≡ level_from m l.level (suc (ahead m l.level l.node)) l.seen l.node)

abbrev pub decreases-links : goal.decreases-links
decreases-links l = ahead (memory l.nodes l.versions l.counts) l.level l.node

abbrev pub invariant-loop-level : goal.invariant-loop-level
invariant-loop-level l =
    let m = memory l.nodes l.versions l.counts in
    (l.level ≤ top_level → l.due ≡ reaching l.nodes l.level l.counts.nodes) × (inspection m ≡ levels_from m (levels - l.level) l.level)
