-- A step denied or refused leaves the state; any other is its advance put into it: Laws `step_refused` and `step_passed`.
use mathlib.Core.Path.{sym}
use native.Mathlib.Omega.{arith}
use Rattle.refusals.proofs.Laws.{may_step}
use Rattle.storestep.proofs.Laws.{step_refused, step_granted, step_passed}
use Rattle.calls.proofs.Places.{slot_own}
use Rattle.storestep.proofs.step.step.Goals as goal

-- in each, the permit is the definition's: the kind was read at the process's own place

pub attempt-requires : goal.attempt-requires
attempt-requires c g =
    let a = c.args in
    let is = c.step_permit-permit.ensures a.s
    (record { same = sym c.header_of-h.ensures; found = λ h. simp (slot_own _ _ c.slot-i.ensures h) }) in
    let f = may_step _ _ is g in
    let l = f.start.lawful in
    record {
      lent = l.lent;
      answers = f.tally;
      few = omega (arith, f.start.process, l.processes);
      left = omega (arith, f.start.event, l.limit);
    }

pub overflow_add-s : goal.overflow_add-s
overflow_add-s c =
    let a = c.args in
    let is = c.step_permit-permit.ensures a.s
    (record { same = sym c.header_of-h.ensures; found = λ h. simp (slot_own _ _ c.slot-i.ensures h) }) in
    let g = step_granted _ _ _ (slot_own _ _ c.slot-i.ensures) _ is _ _ _ _ c.attempt.ensures _ c.in-Ok.is in
    let f = (may_step _ _ is g).start in
    let l = f.lawful.limit in
    omega (arith, f.event)

pub returns-in-Err : goal.returns-in-Err
returns-in-Err c =
    let a = c.args in
    let is = c.step_permit-permit.ensures a.s
    (record { same = sym c.header_of-h.ensures; found = λ h. simp (slot_own _ _ c.slot-i.ensures h) }) in
    step_refused _ _ _ (slot_own _ _ c.slot-i.ensures) _ is _ _ _ _ c.attempt.ensures _ c.in-Err.is

pub returns-in-Ok : goal.returns-in-Ok
returns-in-Ok c =
    let a = c.args in
    let is = c.step_permit-permit.ensures a.s
    (record { same = sym c.header_of-h.ensures; found = λ h. simp (slot_own _ _ c.slot-i.ensures h) }) in
    step_passed _ _ _ (slot_own _ _ c.slot-i.ensures) _ is _ _ _ _ c.attempt.ensures _ c.in-Ok.is
