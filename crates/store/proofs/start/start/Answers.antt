-- A start that is let pass puts the call at its process's number.
use native.Mathlib.Omega.{arith}
use Rattle.refusals.proofs.Laws.{may_start}
use Rattle.model.specs.Calls.{start_by}
use mathlib.Core.Path.{sym}
use borrow.Author.Rules.{rules}
use Rattle.calls.proofs.Places.{slot_own}
use Rattle.store.proofs.start.start.Goals as goal
use Rattle.std.specs.Prelude.{Ok, Err}

-- in each, the permit is the definition's: the kind was read at the process's own place
pub overflow_add-tick : goal.overflow_add-tick
overflow_add-tick c =
    let a = c.args in
    let is = c.start_permit.ensures a.s
    (record { same = sym c.header_of-h.ensures; found = λ h. simp (slot_own _ _ c.slot-i.ensures h) }) in
    let f = may_start _ _ _ _ _ _ is c.in-Ok.is in
    search rules

pub returns-in-Err : goal.returns-in-Err
unfolding start_by
returns-in-Err c =
    let a = c.args in
    let is = c.start_permit.ensures a.s
    (record { same = sym c.header_of-h.ensures; found = λ h. simp (slot_own _ _ c.slot-i.ensures h) }) in
    simp (← is, c.in-Err.is)

pub returns-in-Ok : goal.returns-in-Ok
unfolding start_by
returns-in-Ok c =
    let a = c.args in
    let is = c.start_permit.ensures a.s
    (record { same = sym c.header_of-h.ensures; found = λ h. simp (slot_own _ _ c.slot-i.ensures h) }) in
    let f = may_start _ _ _ _ _ _ is c.in-Ok.is in
    let i = slot_own _ _ c.slot-i.ensures (omega arith) in
    simp (c.begin.ensures, i, ← is, c.in-Ok.is)
