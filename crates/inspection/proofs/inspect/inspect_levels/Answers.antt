-- The chain loop keeps: what is left of the pass gives the node's answer. The links loop keeps: what is left of the level's walk gives the
-- level's. The levels loop keeps: what is left of the levels gives the inspection's. Places fall, fewer nodes lie ahead, levels are left.
use Rattle.model.specs.Types.{no_fault, fault_at}
use Prim.Native.Nat.{ℕ, suc, ◌+◌, ◌-◌, ◌≤◌, ◌<◌}
use mathlib.Core.Bool.{true, false}
use mathlib.Core.Path.{◌≡◌, refl, ◌∙◌, sym}
use native.Mathlib.Omega.{arith}
use Rattle.model.specs.Layout.{Memory, top_level, levels}
use Rattle.model.specs.Inspection.{level_from, levels_from, inspection}
use Rattle.model.proofs.LevelBound.{ahead, ahead_most}
use Rattle.tables.specs.Room.{memory}
use Rattle.inspection.specs.Faults.{chain_start, node_fault}
use Rattle.inspection.proofs.ChainTurns.{left, pass_ends, pass_stops, pass_goes}
use Rattle.inspection.proofs.LevelTurns.{node_stops, link_stops, level_short, level_whole, level_goes, level_starts}
use Rattle.inspection.proofs.LevelTurns.{levels_stop, levels_go, levels_end}
use Rattle.inspection.proofs.NodeTurns.{wrong, node_wrong, chain_starts, chain_wrong, chain_right}
use Rattle.inspection.proofs.TopTurns.{reaching_all, reaching_less}
use Rattle.inspection.proofs.inspect.inspect_levels.Goals.{then-level-lt-TOP, else-level-lt-TOP}
use Rattle.inspection.proofs.inspect.inspect_levels.Goals as goal

-- what a level's walk gives is what its loop has left, and the inspection is what the levels have left
module _ (m : Memory) (lev node seen : ℕ) (low : lev ≤ top_level) (levels-left : inspection m ≡ levels_from m (levels - lev) lev)
    (walk-left : level_from m lev (m.counts.nodes + 1) 0 0 ≡ level_from m lev (suc (ahead m lev node)) seen node) where
  stops : level_from m lev (suc (ahead m lev node)) seen node ≡ fault_at lev node → fault_at lev node ≡ inspection m
  stops e = sym (levels-left ∙ levels_stop m lev low node (walk-left ∙ e))

  passes : level_from m lev (suc (ahead m lev node)) seen node ≡ no_fault → inspection m ≡ levels_from m (levels - (lev + 1)) (lev + 1)
  passes e = levels-left ∙ levels_go m lev low (walk-left ∙ e)

-- at a node without a fault of its own: what its chain has left to pass
module _ (m : Memory) (lev node version : ℕ) (faultless : node_fault m lev node ≡ false)
    (chain-left : left m lev node (chain_start m.nodes lev node) ≡ left m lev node version) where
  -- a chain that is passed to its end
  right : version ≡ 0 → wrong m lev node ≡ false
  right e = chain_right m lev node faultless (chain-left ∙ pass_ends m lev node version e)

  -- one that is not
  wrong_chain : left m lev node version ≡ fault_at lev node → wrong m lev node ≡ true
  wrong_chain e = chain_wrong m lev node faultless (chain-left ∙ e)

pub loop-level-init : goal.loop-level-init
unfolding inspection
loop-level-init c =
    let a = c.args in
    (λ _. sym (reaching_all a.nodes.now a.counts.nodes), refl)

pub links-init : goal.links-init
links-init c =
    let a = c.args in
    let m = memory a.nodes.now a.versions.now a.counts in
    let h = ahead_most m c.loop-level.level 0 in
    (omega arith, omega arith, level_starts m c.loop-level.level)

pub chain-init : goal.chain-init
chain-init c =
    let a = c.args in
    let m = memory a.nodes.now a.versions.now a.counts in
    let faultless = sym (c.node_fault.ensures m.versions) ∙ c.if-node_fault.false in
    let e = c.chain_start-version.ensures in
    (rw e (chain_starts m c.loop-level.level c.links.node faultless), rw e)

pub chain-preserved : goal.chain-preserved
chain-preserved c =
    let a = c.args in
    let m = memory a.nodes.now a.versions.now a.counts in
    let o = pass_goes m c.loop-level.level c.links.node c.chain.version (λ z. omega arith) c.chain.invariant.0
    _ c.prev_at-prev.ensures _ c.version_fault.ensures c.if-version_fault.false in
    (omega arith, c.chain.invariant.1 ∙ o.1)

pub links-smaller : goal.links-smaller
links-smaller c =
    let a = c.args in
    let m = memory a.nodes.now a.versions.now a.counts in
    let l = c.loop-level in
    let k = c.links in
    let faultless = sym (c.node_fault.ensures m.versions) ∙ c.if-node_fault.false in
    let r = right m l.level k.node c.chain.version faultless c.chain.invariant.1 (omega arith) in
    let o = level_goes m l.level k.seen k.node r _ c.next_at-next.ensures c.if-next-eq0.false
    _ (c.link_fault.ensures m.versions m.counts.versions) c.if-link_fault.false in
    o.nears

pub links-preserved : goal.links-preserved
links-preserved c =
    let a = c.args in
    let m = memory a.nodes.now a.versions.now a.counts in
    let l = c.loop-level in
    let k = c.links in
    let faultless = sym (c.node_fault.ensures m.versions) ∙ c.if-node_fault.false in
    let r = right m l.level k.node c.chain.version faultless c.chain.invariant.1 (omega arith) in
    let o = level_goes m l.level k.seen k.node r _ c.next_at-next.ensures c.if-next-eq0.false
    _ (c.link_fault.ensures m.versions m.counts.versions) c.if-link_fault.false in
    (o.used, omega arith, k.invariant.2 ∙ o.goes)

pub overflow_sub-due : goal.overflow_sub-due
overflow_sub-due c =
    let rises : c.loop-level.level < top_level = omega arith in
    let fewer = c.count_tops-tops.ensures c.loop-level.level rises in
    let less = reaching_less c.args.nodes.now c.loop-level.level c.args.counts.nodes in
    omega (arith, c.loop-level.invariant.0 (omega arith))

pub loop-level-preserved : goal.loop-level-preserved
loop-level-preserved c =
    let a = c.args in
    let m = memory a.nodes.now a.versions.now a.counts in
    let l = c.loop-level in
    let k = c.links in
    let low : l.level ≤ top_level = omega arith in
    let due = l.invariant.0 low in
    let less = reaching_less a.nodes.now l.level a.counts.nodes in
    let faultless = sym (c.node_fault.ensures m.versions) ∙ c.if-node_fault.false in
    let r = right m l.level k.node c.chain.version faultless c.chain.invariant.1 (omega arith) in (
      λ above. elim c.if-level-lt-TOP.branch [
        | then-level-lt-TOP w ↦ omega (arith, w.due-is, due, less, c.count_tops-tops.ensures l.level (omega arith))
        | else-level-lt-TOP w ↦ absurd (omega (arith, w.if-level-lt-TOP.false))
      ],
      passes m l.level k.node k.seen low l.invariant.1 k.invariant.2
          (level_whole m l.level k.seen k.node r _ c.next_at-next.ensures c.if-next-eq0.true _ due (omega arith)),
    )

pub returns-then-node_fault : goal.returns-then-node_fault
returns-then-node_fault c =
    let a = c.args in
    let m = memory a.nodes.now a.versions.now a.counts in
    let l = c.loop-level in
    let k = c.links in
    let w = node_wrong m l.level k.node (sym (c.node_fault.ensures m.versions) ∙ c.if-node_fault.true) in
    stops m l.level k.node k.seen (omega arith) l.invariant.1 k.invariant.2 (node_stops m l.level k.seen k.node w)

pub returns-then-version_fault : goal.returns-then-version_fault
returns-then-version_fault c =
    let a = c.args in
    let m = memory a.nodes.now a.versions.now a.counts in
    let l = c.loop-level in
    let k = c.links in
    let faultless = sym (c.node_fault.ensures m.versions) ∙ c.if-node_fault.false in
    let w = wrong_chain m l.level k.node c.chain.version faultless c.chain.invariant.1
    (pass_stops m l.level k.node c.chain.version (λ z. omega arith) c.chain.invariant.0
    _ c.prev_at-prev.ensures _ c.version_fault.ensures c.if-version_fault.true) in
    stops m l.level k.node k.seen (omega arith) l.invariant.1 k.invariant.2 (node_stops m l.level k.seen k.node w)

pub returns-then-link_fault : goal.returns-then-link_fault
returns-then-link_fault c =
    let a = c.args in
    let m = memory a.nodes.now a.versions.now a.counts in
    let l = c.loop-level in
    let k = c.links in
    let faultless = sym (c.node_fault.ensures m.versions) ∙ c.if-node_fault.false in
    let r = right m l.level k.node c.chain.version faultless c.chain.invariant.1 (omega arith) in
    stops m l.level k.node k.seen (omega arith) l.invariant.1 k.invariant.2
    (link_stops m l.level k.seen k.node r _ c.next_at-next.ensures c.if-next-eq0.false
    _ (c.link_fault.ensures m.versions m.counts.versions) c.if-link_fault.true)

pub returns-then-seen-due : goal.returns-then-seen-due
returns-then-seen-due c =
    let a = c.args in
    let m = memory a.nodes.now a.versions.now a.counts in
    let l = c.loop-level in
    let k = c.links in
    let faultless = sym (c.node_fault.ensures m.versions) ∙ c.if-node_fault.false in
    let r = right m l.level k.node c.chain.version faultless c.chain.invariant.1 (omega arith) in
    stops m l.level k.node k.seen (omega arith) l.invariant.1 k.invariant.2
    (level_short m l.level k.seen k.node r _ c.next_at-next.ensures c.if-next-eq0.true _ (l.invariant.0 (omega arith)) (omega arith))

pub returns-after-loop-level : goal.returns-after-loop-level
returns-after-loop-level c =
    let a = c.args in
    let l = c.loop-level in
    sym (l.invariant.1 ∙ levels_end (memory a.nodes.now a.versions.now a.counts) l.level (omega (arith, l.auto.level-end)))
