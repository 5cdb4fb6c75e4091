-- The test of refusal 11 gives what the phases ask for.
use mathlib.Core.Path.{sym, ◌∙◌}
use Rattle.process.specs.ProcessWords.{process_from}
use Rattle.transition.proofs.Laws.{lawful_facts, lawful_by}
use Rattle.transition.proofs.step.transition.Goals as goal

pub by_phase-requires : goal.by_phase-requires
by_phase-requires c =
    let a = c.args in
    let m = a.memory.now in
    let q = process_from a.w.now in
    let is = lawful_by q _ _ _ _ _ c.call_in.ensures c.cursor_in.ensures c.effect_in.ensures
    (c.lawful.ensures q.preds m.nodes.now m.versions.now m.counts.versions) in
    let f = lawful_facts _ _ (sym is ∙ c.if-not-lawful.false) in
    record { pred = f.1; level = f.0 }
