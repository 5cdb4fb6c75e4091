-- What a move leaves of the words and of the tally, and what the step answers.
use Rattle.model.specs.Types.{Stepping}
use Rattle.std.specs.Prelude.{ℕ, List, take, drop}
use Rattle.std.proofs.lemmas.List.Edits.{sets}
use Rattle.model.specs.declared.types.Counts.{Counts}
use Rattle.model.specs.declared.types.Move.{Move}
use Rattle.model.specs.declared.types.Process.{Process}
use Rattle.std.specs.Prelude.{if◌then◌else◌}
use Rattle.model.specs.Calls.{process_after, outcome_of, tally_after}
use Rattle.model.specs.Phases.{refuses}
use Rattle.process.specs.ProcessWords.{sizes, process_words, process_from}
use Rattle.layout.specs.StateWords.{put_event}

pub record LeftIn : Type 0 where
  pub outcome : Stepping
  pub words : List ℕ
  pub tally : List ℕ

-- the process whose words begin at a place
abbrev pub process_in : (words : List ℕ) (at : ℕ) → Process
process_in w at = process_from (take sizes.process (drop at w))

-- the words after an event: that process, the events and the counts are written over
abbrev pub evented : (words : List ℕ) (at tick : ℕ) → Counts → Process → List ℕ
evented w at tick counts p = put_event (sets w at (process_words p)) tick counts

-- a refused move is no event
abbrev pub leave_in : (tick : ℕ) → Counts → Move → (words : List ℕ) (at : ℕ) (tally : List ℕ) → LeftIn
leave_in tick counts v w at tally = record {
  outcome = outcome_of tick (process_in w at).call v;
  words = if refuses v then w else evented w at tick counts (process_after tick (process_in w at) v);
  tally = tally_after tally v;
}
