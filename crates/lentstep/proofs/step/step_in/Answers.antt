-- Words that are no lawful state are refused, and nothing changes.
use mathlib.Core.Path.{◌≡◌, sym, ap, ◌∙◌}
use lib.ListN.{length}
use borrow.Author.Rules.{rules}
use Rattle.std.specs.Prelude.{◌≢◌}
use Rattle.process.specs.ProcessWords.{sizes}
use Rattle.layout.proofs.Written.{other_length}
use Rattle.lent.specs.Calls.{step_in}
use Rattle.lent.proofs.Laws.{unlawful, permit_unknown, step_denied}
use Rattle.lentstep.proofs.step.step_in.Goals as goal

pub returns-then-not-lawful_in : goal.returns-then-not-lawful_in
returns-then-not-lawful_in c =
    let a = c.args in
    let same : c.in-Some.words.now ≡ a.words.now = search rules in
    step_denied _ _ _ _ _ _ (unlawful _ _ _ _ _ (sym c.lawful_in.ensures ∙ c.if-not-lawful_in.true))
    ∙ ap (λ w. step_in w a.nodes.now a.versions.now a.tally.now a.process) same

pub returns-in_default : goal.returns-in_default
returns-in_default c =
    let a = c.args in
    let other : length a.words.now ≢ sizes.state = search rules in
    step_denied _ _ _ _ _ _ (sym (permit_unknown _ _ _ _ _ (other_length a.words.now a.process other)))
