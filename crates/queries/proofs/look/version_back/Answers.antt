-- The loop keeps: what lies as many places behind i as are left is what the whole look shows.
use mathlib.Core.Path.{◌∙◌, sym}
use native.Mathlib.Omega.{arith}
use Prim.Native.Nat.{◌+◌, ◌-◌}
use mathlib.Core.Path.{◌≡◌}
use Rattle.queries.proofs.LookTurns.{back_damaged, back_short, back_on, back_end}
use Rattle.queries.proofs.look.version_back.Goals as goal

pub returns-then-i-prev : goal.returns-then-i-prev
returns-then-i-prev c =
    let a = c.args in
    let l = c.loop in
    sym (l.invariant.1 ∙ back_damaged a.versions.now (a.back - l.counter) l.i _ (omega arith) c.prev_at-prev.ensures c.if-i-prev.true)

pub returns-then-prev-eq0 : goal.returns-then-prev-eq0
returns-then-prev-eq0 c =
    let a = c.args in
    let l = c.loop in
    sym
    (l.invariant.1
    ∙ back_short a.versions.now (a.back - l.counter) l.i _ (omega arith) c.prev_at-prev.ensures c.if-i-prev.false c.if-prev-eq0.true)

pub loop-preserved : goal.loop-preserved
loop-preserved c =
    let a = c.args in
    let l = c.loop in
    let left : a.back - (l.counter + 1) ≡ a.back - l.counter - 1 = omega arith in (
      omega arith,
      rw left (l.invariant.1
          ∙ back_on a.versions.now (a.back - l.counter) l.i _ (omega arith) c.prev_at-prev.ensures c.if-i-prev.false c.if-prev-eq0.false),
    )

pub returns : goal.returns
returns c =
    let a = c.args in
    let l = c.loop in
    simp c.version_at.ensures (sym (l.invariant.1 ∙ back_end a.versions.now (a.back - l.counter) l.i (omega arith)))
