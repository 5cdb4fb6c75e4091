-- Those written stand at the front.
use mathlib.Core.List.{◌++◌}
use mathlib.Core.Path.{◌≡◌}
use lib.ListN.{length, take}
use Rattle.process.specs.ProcessWords.{sizes}
use Rattle.layout.specs.StateWords.{all_words, start_of}
use Rattle.layout.proofs.state.put_processes.Given as goal

abbrev pub invariant-loop-i : goal.invariant-loop-i
invariant-loop-i l =
    (length l.words ≡ sizes.state) × (take (start_of l.i) l.words ≡ take sizes.head l.initial.words ++ all_words (take l.i l.process))
