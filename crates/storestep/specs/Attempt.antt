-- A step that is denied or let pass, beside the state, and all that a step leaves.
use Rattle.model.specs.Types.{Permit, StepResult, Ok, Err}
use Rattle.std.specs.Prelude.{ℕ, ◌+◌, ◌<◌, true, false, List, ◌≡◌, length, Result}
use Rattle.model.specs.declared.types.Refusal.{Refusal}
use Rattle.model.specs.declared.types.Counts.{Counts}
use Rattle.model.specs.declared.types.Process.{Process}
use Rattle.model.specs.Layout.{Memory, limits}
use Rattle.model.specs.Calls.{Stepped, store_of}
use Rattle.tables.specs.Room.{Lent, memory}
use Rattle.storestep.specs.declared.types.Advanced.{Advanced}
use Rattle.calls.specs.Advance.{Advance, advance_of}

-- a step that is denied leaves its process and the memory
unfoldable pub attempt_of : Permit → (process events : ℕ) → Process → Memory → (tally : List ℕ) → Advance
attempt_of (Err r) i events p m tally = record {
  refused = true;
  outcome = Err r;
  process = p;
  memory = m;
  tally = tally;
}
attempt_of (Ok _) i events p m tally = advance_of (i + 1) (events + 1) p m tally

-- what a step that is let pass can count on
pub record Passed (nodes versions : List ℕ) (counts : Counts) (tally : List ℕ) (process events : ℕ) : Type 0 where
  pub lent : Lent nodes versions counts
  pub answers : length tally ≡ limits.tally
  pub few : process < limits.processes
  pub left : events < limits.events

-- what a step leaves of this process and these counts: where it is refused, both as they were
abbrev pub advanced : Process → Counts → Result Advanced Refusal → (nodes versions tally : List ℕ) → Advance
advanced p counts (Err r) nodes versions tally = record {
  refused = true;
  outcome = Err r;
  process = p;
  memory = memory nodes versions counts;
  tally = tally;
}
advanced p counts (Ok a) nodes versions tally = record {
  refused = false;
  outcome = Ok a.progress;
  process = a.process;
  memory = memory nodes versions a.counts;
  tally = tally;
}

-- a step: outcome, state, both tables and the tally
abbrev pub stepped : StepResult → (nodes versions tally : List ℕ) → Stepped
stepped r nodes versions tally = record { outcome = r.outcome; store = store_of r.state nodes versions tally }
