-- The part of that number.
use mathlib.Core.Path.{ap, ◌∙◌}
use lib.ListN.{get_or}
use mathlib.Core.List.{[]}
use Rattle.model.specs.Layout.{limits}
use Rattle.process.specs.ProcessWords.{sizes}
use Rattle.layout.proofs.Parts.{part_at}
use Rattle.layout.proofs.state.process_at.Goals as goal

pub returns : goal.returns
returns c =
    let a = c.args in
    ap (λ ps. get_or ps a.process []) c.processes.ensures ∙ part_at limits.processes a.process sizes.head a.words.now c.requires
