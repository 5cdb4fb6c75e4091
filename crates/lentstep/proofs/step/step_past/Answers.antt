-- Refused as a step without words is: no lawful state has so many processes.
use mathlib.Core.Path.{sym, ◌∙◌}
use native.Mathlib.Omega.{arith}
use Rattle.std.proofs.lemmas.Result.{err_from_is_err_and}
use Rattle.refusals.proofs.Laws.{may_step}
use Rattle.layout.specs.StateWords.{state_from}
use Rattle.layout.proofs.Written.{part_facts, header_at}
use Rattle.lent.proofs.Laws.{permit_unknown, permit_known, step_denied}
use Rattle.lentstep.proofs.step.step_past.Goals as goal

pub returns-then-not-is_state_at : goal.returns-then-not-is_state_at
returns-then-not-is_state_at c =
    step_denied _ _ _ _ _ _ (sym (permit_unknown _ _ _ _ _ (sym c.is_state_at.ensures ∙ c.if-not-is_state_at.true)))

pub slice_bounds-header-end : goal.slice_bounds-header-end
slice_bounds-header-end c =
    let a = c.args in
    let long = (part_facts a.words.now a.process (sym c.is_state_at.ensures ∙ c.if-not-is_state_at.false)).0 in
    omega arith

pub returns-in_err-step_permit : goal.returns-in_err-step_permit
returns-in_err-step_permit c =
    let a = c.args in
    let known = sym c.is_state_at.ensures ∙ c.if-not-is_state_at.false in
    let permit = c.step_permit.ensures (state_from a.words.now)
    (record {
      same = header_at a.words.now a.process known;
      found = λ h. absurd (omega (arith, h, c.requires));
    }) in
    let p = err_from_is_err_and c.from_residual.result c.from_residual.ensures.1 in
    rw (p.1, p.2) (step_denied _ _ _ _ _ _ (sym (permit_known _ _ _ _ _ known) ∙ sym permit ∙ c.in_err-step_permit.was))

pub returns : goal.returns
returns c =
    let a = c.args in
    let known = sym c.is_state_at.ensures ∙ c.if-not-is_state_at.false in
    let permit = c.step_permit.ensures (state_from a.words.now)
    (record {
      same = header_at a.words.now a.process known;
      found = λ h. absurd (omega (arith, h, c.requires));
    }) in
    let f = (may_step _ _ permit c.in_ok-step_permit.was).start in
    let l = f.lawful.processes in
    absurd (omega (arith, f.process, c.requires))
