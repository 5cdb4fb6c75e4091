-- Refused, nothing changes; let pass, what the advance leaves.
use mathlib.Core.Path.{ap, sym, ◌∙◌}
use Rattle.std.specs.Prelude.{ℕ, List, ◌≡◌, ◌<◌}
use Rattle.std.proofs.Math.ListN.{get_or}
use Rattle.model.specs.Layout.{limits}
use Rattle.model.specs.State.{process_at}
use Rattle.model.specs.declared.types.Kind.{Kind}
use Rattle.model.specs.Numbers.{kind_from}
use Rattle.process.specs.ProcessWords.{process_offsets}
use Rattle.std.proofs.lemmas.Result.{err_from_is_err_and}
use Rattle.layout.specs.StateWords.{state_from, part}
use Rattle.layout.proofs.Laws.{process_at_lem}
use Rattle.layout.proofs.Written.{header_at}
use Rattle.lent.proofs.Laws.{lawful_state_lem, permit_known, step_denied}
use Rattle.lentstep.proofs.step.step_known.Goals as goal

kind_at : (w : List ℕ) (i : ℕ) → {l : List ℕ} → l ≡ part w i → {k : Kind} → k ≡ kind_from (get_or l process_offsets.kind 0)
    → i < limits.processes → (process_at (state_from w) i).call.kind ≡ k
kind_at w i own read h =
    ap (λ p. p.call.kind) (process_at_lem w i h)
    ∙ ap (λ l. kind_from (get_or l process_offsets.kind 0)) (sym own)
    ∙ sym read

-- in each, the permit is the definition's: the kind was read in the process's own words
pub advance_in-requires : goal.advance_in-requires
advance_in-requires c =
    let a = c.args in
    let known = lawful_state_lem _ _ _ _ c.requires.lawful in
    let permit = c.step_permit.ensures (state_from a.words.now)
    (record {
      same = header_at a.words.now a.process known;
      found = kind_at _ _ c.process_at.ensures c.from_number-kind.ensures;
    })
    ∙ permit_known _ _ _ _ _ known in
    sym permit ∙ c.in_ok-step_permit.was

pub returns-in_err-step_permit : goal.returns-in_err-step_permit
returns-in_err-step_permit c =
    let a = c.args in
    let known = lawful_state_lem _ _ _ _ c.requires.lawful in
    let permit = c.step_permit.ensures (state_from a.words.now)
    (record {
      same = header_at a.words.now a.process known;
      found = kind_at _ _ c.process_at.ensures c.from_number-kind.ensures;
    })
    ∙ permit_known _ _ _ _ _ known in
    let p = err_from_is_err_and c.from_residual.result c.from_residual.ensures.1 in
    rw (p.1, p.2) (step_denied _ _ _ _ _ _ (sym permit ∙ c.in_err-step_permit.was))
