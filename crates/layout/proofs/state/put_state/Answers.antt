-- The head, then the processes.
use mathlib.Core.List.{◌++◌}
use mathlib.Core.Path.{ap, ◌∙◌}
use lib.ListN.{take}
use borrow.Author.Rules.{rules}
use Rattle.process.specs.ProcessWords.{sizes}
use Rattle.layout.specs.StateWords.{all_words, state_words}
use Rattle.layout.proofs.Whole.{head_front}
use Rattle.layout.proofs.state.put_state.Goals as goal

pub returns : goal.returns
unfolding state_words
returns c =
    let ps = c.args.s.process in
    c.put_processes.ensures
    ∙ ap (λ w. take sizes.head w ++ all_words ps) c.put_head.ensures
    ∙ ap (λ h. h ++ all_words ps) (head_front c.args.s c.args.words.now (search rules))
