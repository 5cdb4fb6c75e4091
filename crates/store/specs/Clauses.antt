-- How the contracts name what a call is asked for and all that it leaves.
use Rattle.model.specs.Types.{OpenResult, StartResult}
use Rattle.std.specs.Prelude.{ℕ, ◌+◌, List}
use Rattle.model.specs.declared.types.Call.{Call}
use Rattle.model.specs.declared.types.State.{State}
use Rattle.model.specs.Calls.{Opened, start_permit, start_by}

-- an opening: outcome, state and both tables
abbrev pub opened : OpenResult → (nodes versions : List ℕ) → Opened
opened r nodes versions = record { result = r; nodes = nodes; versions = versions }

-- a call with the tick of its start
abbrev pub timed : Call → (tick : ℕ) → Call
timed c tick = record { kind = c.kind; key = c.key; last = c.last; value = c.value; timestamp = c.timestamp; top = c.top; start = tick }

-- a start with a call that has no tick yet: it gets that of the event that the start is
abbrev pub start_with : State → (nodes versions : List ℕ) → (process : ℕ) → (call : (tick : ℕ) → Call) → StartResult
start_with s nodes versions i call =
    let c = call (s.events + 1) in start_by (start_permit s nodes versions i c.key c.last) s i c
