-- Those read stand at the front.
use mathlib.Core.Path.{◌≡◌}
use lib.ListN.{length, take, drop}
use Rattle.model.specs.Layout.{limits}
use Rattle.process.specs.ProcessWords.{sizes}
use Rattle.layout.specs.StateWords.{all_from}
use Rattle.layout.proofs.state.processes_in.Given as goal

abbrev pub invariant-loop-i : goal.invariant-loop-i
invariant-loop-i l = (take l.i l.process ≡ all_from l.i (drop sizes.head l.words)) × (length l.process ≡ limits.processes)
