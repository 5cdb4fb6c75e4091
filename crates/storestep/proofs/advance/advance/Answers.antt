-- A refused move leaves process and tally; any other is told, counted and put into the process.
use Rattle.std.proofs.Common.{rules}
use Rattle.std.proofs.lemmas.Result.{err_from_is_err_and}
use lib.ListN.{length}
use mathlib.Core.Path.{◌≡◌, sym, ◌∙◌}
use Rattle.process.specs.ProcessWords.{sizes}
use Rattle.storestep.proofs.Laws.{advance_refused, advance_level, advance_passed}
use Rattle.storestep.proofs.advance.advance.Goals as goal

pub returns-in_err-progress : goal.returns-in_err-progress
returns-in_err-progress c =
    let a = c.args in
    let long : length c.words_of.result ≡ sizes.process = search rules in
    let p = err_from_is_err_and c.from_residual.result c.from_residual.ensures.1 in
    let left = advance_refused a.holder a.tick a.p _ c.words_of.ensures long _ a.tally.now _ _ _ _ c.transition-mv.ensures.moved
    _ (sym c.outcome_of.ensures ∙ c.in_err-progress.was) in
    rw (p.1, p.2) (search rules)

pub process_after-requires : goal.process_after-requires
process_after-requires c =
    let a = c.args in
    let long : length c.words_of.result ≡ sizes.process = search rules in
    advance_level a.holder a.tick a.p _ c.words_of.ensures long _ a.tally.now _ _ _ _ c.transition-mv.ensures.moved
    _ (sym c.outcome_of.ensures ∙ c.in_ok-progress.was)

pub returns : goal.returns
returns c =
    let a = c.args in
    let long : length c.words_of.result ≡ sizes.process = search rules in
    let left = advance_passed a.holder a.tick a.p _ c.words_of.ensures long _ a.tally.now _ _ _ _ c.transition-mv.ensures.moved
    _ _ _ (sym c.outcome_of.ensures ∙ c.in_ok-progress.was) c.process_after.ensures c.count_end.ensures in
    search rules
