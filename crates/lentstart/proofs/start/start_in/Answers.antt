-- A start that is let pass writes its process into its part of the words: Laws `start_granted`.
use Prim.Native.Nat.{◌<◌}
use mathlib.Core.Path.{◌≡◌, refl, sym, ◌∙◌}
use native.Mathlib.Omega.{arith}
use lib.ListN.{length}
use borrow.Author.Rules.{rules}
use Rattle.std.specs.Prelude.{◌≢◌}
use Rattle.process.specs.ProcessWords.{sizes}
use Rattle.std.proofs.lemmas.Result.{err_from_is_err_and}
use Rattle.calls.proofs.Places.{slot_own}
use Rattle.model.specs.Layout.{limits}
use Rattle.refusals.proofs.Laws.{may_start}
use Rattle.layout.specs.StateWords.{state_from}
use Rattle.layout.proofs.Written.{other_length, header_at, events_at}
use Rattle.store.specs.Clauses.{timed}
use Rattle.lent.proofs.Laws.{kind_at, start_unknown, start_denied, start_granted}
use Rattle.lentstart.proofs.start.start_in.Goals as goal

pub returns-in_default : goal.returns-in_default
returns-in_default c =
    let a = c.args in
    let other : length a.words.now ≢ sizes.state = search rules in
    start_unknown _ _ _ (timed a.asked) (other_length a.words.now a.process other)

-- in each, the permit is the definition's: the kind was read at the process's own place
pub returns-in_err-start_permit : goal.returns-in_err-start_permit
returns-in_err-start_permit c =
    let a = c.args in
    let same : c.in-Some.words.now ≡ a.words.now = search rules in
    let known = sym c.is_state_at.ensures ∙ c.if-not-is_state_at.false in
    let permit = c.start_permit.ensures (state_from c.in-Some.words.now)
    (record {
      same = header_at c.in-Some.words.now a.process known;
      found = λ h. kind_at c.in-Some.words.now a.process _ (slot_own _ _ c.slot.ensures h) h ∙ sym c.from_number-running.ensures;
    }) in
    let p = err_from_is_err_and c.from_residual.result c.from_residual.ensures.1 in
    rw (p.1, p.2, ← same) (start_denied _ _ _ (timed a.asked) known _ (sym permit ∙ c.in_err-start_permit.was))

pub overflow_add-tick : goal.overflow_add-tick
overflow_add-tick c =
    let a = c.args in
    let known = sym c.is_state_at.ensures ∙ c.if-not-is_state_at.false in
    let permit = c.start_permit.ensures (state_from c.in-Some.words.now)
    (record {
      same = header_at c.in-Some.words.now a.process known;
      found = λ h. kind_at c.in-Some.words.now a.process _ (slot_own _ _ c.slot.ensures h) h ∙ sym c.from_number-running.ensures;
    }) in
    let f = may_start _ _ _ _ _ _ permit c.in_ok-start_permit.was in
    let e = f.lawful.limit in
    omega (arith, f.event, events_at c.in-Some.words.now)

pub returns : goal.returns
returns c =
    let a = c.args in
    let same : c.in-Some.words.now ≡ a.words.now = search rules in
    let known = sym c.is_state_at.ensures ∙ c.if-not-is_state_at.false in
    let permit = c.start_permit.ensures (state_from c.in-Some.words.now)
    (record {
      same = header_at c.in-Some.words.now a.process known;
      found = λ h. kind_at c.in-Some.words.now a.process _ (slot_own _ _ c.slot.ensures h) h ∙ sym c.from_number-running.ensures;
    }) in
    let f = may_start _ _ _ _ _ _ permit c.in_ok-start_permit.was in
    let l = f.lawful.processes in
    let few : a.process < limits.processes = omega (arith, f.process) in
    rw (← same) (start_granted _ _ _ (timed a.asked) known _ _ _ (sym permit ∙ c.in_ok-start_permit.was)
    (events_at c.in-Some.words.now) (slot_own _ _ c.slot.ensures few) few
    (λ t. refl) c.begin_in.ensures)
