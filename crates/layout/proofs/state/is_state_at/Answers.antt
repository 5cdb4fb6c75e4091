-- The head, then the process's own words.
use mathlib.Core.Path.{◌≡◌, ap, ◌∙◌}
use borrow.Author.Rules.{rules}
use Rattle.process.specs.ProcessWords.{known_process}
use Rattle.layout.specs.StateWords.{part}
use Rattle.layout.proofs.Known.{no_head, by_one, by_none}
use Rattle.layout.proofs.state.is_state_at.Goals as goal

pub returns-then-not-is_head : goal.returns-then-not-is_head
returns-then-not-is_head c = (no_head _ _ _ c.is_head.ensures (c.if-not-is_head.true)).1

pub returns-then-process-ge-PROCESSES : goal.returns-then-process-ge-PROCESSES
returns-then-process-ge-PROCESSES c = by_none _ _ _ c.is_head.ensures (c.if-not-is_head.false) c.if-process-ge-PROCESSES.true

pub returns : goal.returns
returns c =
    let same : c.unwrap.result.now ≡ c.args.words.now = search rules in
    c.is_process.ensures ∙ ap known_process (c.process_at.ensures ∙ ap (λ w. part w c.args.process) same)
    ∙ by_one _ _ _ c.is_head.ensures (c.if-not-is_head.false)
