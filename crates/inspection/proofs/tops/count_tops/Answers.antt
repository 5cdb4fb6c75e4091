-- The loop keeps the counts over the nodes before x.
use Prim.Native.Nat.{◌+◌, ◌-◌}
use mathlib.Core.Path.{◌≡◌, refl}
use mathlib.Core.Logic.{inl, inr}
use native.Mathlib.Omega.{arith}
use lib.Dec.{eqb}
use Rattle.model.specs.Layout.{top}
use Rattle.model.proofs.Counting.{count_most}
use Rattle.inspection.proofs.TopTurns.{counts_none, counts_next}
use Rattle.inspection.proofs.tops.count_tops.Goals.{then-top-lt-TOP, else-top-lt-TOP}
use Rattle.inspection.proofs.tops.count_tops.Goals as goal

pub loop-x-init : goal.loop-x-init
loop-x-init c = (omega arith, refl, counts_none c.args.nodes.now)

-- a count is not above the number of nodes passed
pub overflow_add-counts : goal.overflow_add-counts
overflow_add-counts c =
    let l = c.loop-x in
    let t = c.top_at-top.result in
    omega (arith, l.invariant.2 t (omega arith), count_most (λ x. eqb (top c.args.nodes.now x) t) (l.x - 1))

pub loop-x-preserved : goal.loop-x-preserved
loop-x-preserved c =
    let l = c.loop-x in
    let next = c.if-top-lt-TOP.counts in
    let this : l.x + 1 - 1 ≡ l.x = omega arith in
    let counted = counts_next c.args.nodes.now l.counts next l.x _ l.auto.x c.top_at-top.ensures l.invariant.1 l.invariant.2
    (elim c.if-top-lt-TOP.branch [ then-top-lt-TOP w ↦ inl (w.if-top-lt-TOP.true, w.counts-is) | else-top-lt-TOP w ↦ inr (w.if-top-lt-TOP.false, w.counts-is) ]) in
    (omega arith, counted.0, rw this counted.1)

pub returns-after-top-lt-TOP : goal.returns-after-top-lt-TOP
returns-after-top-lt-TOP c =
    let l = c.loop-x in
    let next = c.if-top-lt-TOP.counts in
    let this : c.args.used ≡ l.x = omega arith in
    rw this (counts_next c.args.nodes.now l.counts next l.x _ l.auto.x c.top_at-top.ensures l.invariant.1 l.invariant.2
    (elim c.if-top-lt-TOP.branch [ then-top-lt-TOP w ↦ inl (w.if-top-lt-TOP.true, w.counts-is) | else-top-lt-TOP w ↦ inr (w.if-top-lt-TOP.false, w.counts-is) ])).1
