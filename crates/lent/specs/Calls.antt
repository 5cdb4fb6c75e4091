-- Each call on a state in words: decode, the store's call, encode. "Each is given if its condition is the first met", so a call
-- tests the words that it reads: where these are no state's it is refused 10, and nothing changes.
use Rattle.model.specs.Types.{Opening, Starting, StartResult, Stepping, Looking, Inspecting, Status, Permit, Err}
use Rattle.std.specs.Prelude.{ℕ, Bool, ◌&&◌, List, eqb, length}
use Rattle.model.specs.declared.types.Call.{Call}
use Rattle.model.specs.declared.types.Refusal.TheVariants.{Corrupt}
use Rattle.std.specs.Prelude.{if◌then◌else◌}
use Rattle.model.specs.Calls.{Opened, open_of, begun, start_of, Stepped, store_of, step_permit, step_of, look_of, status_of}
use Rattle.model.specs.Inspection.{inspect_of}
use Rattle.model.specs.State.{lawful_store}
use Rattle.model.specs.Requests.{Operation}
use Rattle.process.specs.ProcessWords.{sizes}
use Rattle.layout.specs.StateWords.{state_words, state_from, known_head, is_state_below, is_state_at, written}
use Rattle.apply.specs.Leave.{evented}
use Rattle.store.specs.Clauses.{start_with}

-- ---- open: whatever stood in the words, as long as there are enough of them

pub record OpenIn : Type 0 where
  pub outcome : Opening
  pub words : List ℕ
  pub nodes : List ℕ
  pub versions : List ℕ

-- all that it leaves
abbrev pub opened_in : Opening → (words nodes versions : List ℕ) → OpenIn
opened_in o w nodes versions = record { outcome = o; words = w; nodes = nodes; versions = versions }

abbrev pub open_encoded : Opened → OpenIn
open_encoded o = opened_in o.result.outcome (state_words o.result.state) o.nodes o.versions

unfoldable pub open_in : (words nodes versions : List ℕ) (processes limit : ℕ) → OpenIn
open_in w nodes versions processes limit =
    if eqb (length w) sizes.state then open_encoded (open_of nodes versions processes limit)
    else opened_in (Err Corrupt) w nodes versions

-- ---- start: the head and the process that is started are read and written, and no other word of the state

pub record StartIn : Type 0 where
  pub outcome : Starting
  pub words : List ℕ

-- all that it leaves: no start writes a table
abbrev pub started_in : Starting → (words : List ℕ) → StartIn
started_in o w = record { outcome = o; words = w }

-- A refusal "changes no lent word": a state that was not changed is written as it stands (layout/proofs/Written `written_same`).
abbrev pub start_written : (words : List ℕ) → ℕ → StartResult → StartIn
start_written w i r = started_in r.outcome (written w i r.state)

abbrev pub start_unless : (words : List ℕ) → ℕ → StartResult → StartIn
start_unless w i r = if is_state_at w i then start_written w i r else started_in (Err Corrupt) w

-- the words with a call begun in those of the process at a place, and its event
abbrev pub begun_in : (words : List ℕ) (at : ℕ) → Call → List ℕ
begun_in w at c = evented w at c.start (state_from w).counts (begun c)

-- a start with a call that has no tick yet
abbrev pub start_with_in : (words nodes versions : List ℕ) (process : ℕ) → (call : (tick : ℕ) → Call) → StartIn
start_with_in w nodes versions i call = start_unless w i (start_with (state_from w) nodes versions i call)

unfoldable pub start_in : (words nodes versions : List ℕ) (process : ℕ) → Operation → StartIn
start_in w nodes versions i op = start_unless w i (start_of (state_from w) nodes versions i op)

-- ---- step: as a start, the process that is turned

pub record StepIn : Type 0 where
  pub outcome : Stepping
  pub words : List ℕ
  pub nodes : List ℕ
  pub versions : List ℕ
  pub tally : List ℕ

-- all that it leaves
abbrev pub stepped_in : Stepping → (words nodes versions tally : List ℕ) → StepIn
stepped_in o w nodes versions tally = record { outcome = o; words = w; nodes = nodes; versions = versions; tally = tally }

abbrev pub step_written : (words : List ℕ) → ℕ → Stepped → StepIn
step_written w i r =
    stepped_in r.outcome (written w i r.store.state) r.store.nodes r.store.versions r.store.tally

-- what a step reads of the words is a state's, and lawful with these tables
abbrev pub lawful_in : (words nodes versions : List ℕ) (process : ℕ) → Bool
lawful_in w nodes versions i = is_state_at w i && lawful_store (state_from w) nodes versions

-- the refusals of a step, words that are no state first
unfoldable pub step_permit_in : (words nodes versions tally : List ℕ) (process : ℕ) → Permit
step_permit_in w nodes versions tally i =
    if is_state_at w i then step_permit (store_of (state_from w) nodes versions tally) i else Err Corrupt

unfoldable pub step_in : (words nodes versions tally : List ℕ) (process : ℕ) → StepIn
step_in w nodes versions tally i =
    if is_state_at w i then step_written w i (step_of (store_of (state_from w) nodes versions tally) i)
    else stepped_in (Err Corrupt) w nodes versions tally

-- ---- the calls that change nothing

-- a look reads the head alone
unfoldable pub look_in : (words nodes versions : List ℕ) (key back : ℕ) → Looking
look_in w nodes versions k back = if known_head w then look_of (state_from w) nodes versions k back else Err Corrupt

-- an inspection also the processes below the count, which are to be idle
unfoldable pub inspect_in : (words nodes versions : List ℕ) → Inspecting
inspect_in w nodes versions =
    if is_state_below w (state_from w).processes then inspect_of (state_from w) nodes versions else Err Corrupt

-- a standing also the process asked
unfoldable pub status_in : (words : List ℕ) (process : ℕ) → Status
status_in w i = if is_state_at w i then status_of (state_from w) i else Err Corrupt
