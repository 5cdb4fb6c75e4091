-- One step of one process beside the state: what its move leaves.
use Rattle.model.specs.Types.{Stepping}
use Rattle.std.specs.Prelude.{ℕ, Bool, List}
use Rattle.model.specs.declared.types.Process.{Process}
use Rattle.model.specs.Layout.{Memory}
use Rattle.model.specs.Phases.{Moved, transition_of, refuses}
use Rattle.model.specs.Calls.{process_after, outcome_of, tally_after}

pub record Advance : Type 0 where
  pub refused : Bool
  pub outcome : Stepping
  pub process : Process
  pub memory : Memory
  pub tally : List ℕ

unfoldable pub advance_by : (tick : ℕ) → Process → (tally : List ℕ) → Moved → Advance
advance_by tick p tally v = record {
  refused = refuses v.move;
  outcome = outcome_of tick p.call v.move;
  process = process_after tick p v.move;
  memory = v.memory;
  tally = tally_after tally v.move;
}

unfoldable pub advance_of : (holder tick : ℕ) → Process → Memory → (tally : List ℕ) → Advance
advance_of holder tick p m tally = advance_by tick p tally (transition_of holder tick p m)
