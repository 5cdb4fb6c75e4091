-- Document 01, "Sheet program": what a command does to the store, which stands in two buffers that its tables are lent from.
use Rattle.model.specs.Types.{Opening, StartResult, Ok, Err}
use Rattle.std.specs.Prelude.{ℕ, ◌+◌, ◌*◌, ◌≤◌, ◌≡◌, List, ◌++◌, length, take, drop, replicate}
use Rattle.model.specs.declared.types.State.{State}
use Rattle.model.specs.Layout.{node_words, version_words, limits}
use Rattle.model.specs.Calls.{Opened, open_of, start_of, Store, Stepped, step_of, look_of}
use Rattle.model.specs.Requests.{Operation, put, get}
use Rattle.model.specs.Inspection.{inspect_of}
use Rattle.decoder.specs.declared.types.Command.{Command}
use Rattle.decoder.specs.declared.types.Command.TheVariants.{Open, Put, Get, Step, Look, Inspect}
use Rattle.printer.specs.declared.types.Line.{Line}
use Rattle.lines.specs.Outcomes.{open_line, start_line, step_line, look_line, inspect_line}
use Rattle.buffers.specs.declared.types.Buffers.{Buffers}
use Rattle.buffers.specs.declared.types.Performed.{Performed}

-- the state, both buffers and the tally
pub record Session : Type 0 where
  pub state : State
  pub nodes : List ℕ
  pub versions : List ℕ
  pub tally : List ℕ

abbrev pub session : State → (nodes versions tally : List ℕ) → Session
session s nodes versions tally = record { state = s; nodes = nodes; versions = versions; tally = tally }

-- what a command leaves
pub record Done : Type 0 where
  pub line : Line
  pub session : Session

abbrev pub done : Performed → (nodes versions tally : List ℕ) → Done
done r nodes versions tally = record { line = r.line; session = session r.state nodes versions tally }

-- ---- tables in buffers

-- a table at the start of its buffer, as long as the state says
abbrev pub nodes_in : State → (buffer : List ℕ) → List ℕ
nodes_in s buffer = take s.lengths.nodes buffer

abbrev pub versions_in : State → (buffer : List ℕ) → List ℕ
versions_in s buffer = take s.lengths.versions buffer

-- the store whose tables stand at the start of each buffer
abbrev pub lent : Session → Store
lent w = record {
  state = w.state;
  nodes = nodes_in w.state w.nodes;
  versions = versions_in w.state w.versions;
  tally = w.tally;
}

-- a table of so many words back at the start of its buffer
abbrev pub back : (words : ℕ) (table buffer : List ℕ) → List ℕ
back words table buffer = table ++ drop words buffer

-- n words of a buffer are all that it has of a table of so many words
pub record Lends (n words : ℕ) (buffer : List ℕ) : Type 0 where
  pub within : n ≤ length buffer
  pub lent : take n buffer ≡ take words buffer
  pub left : drop n buffer ≡ drop words buffer

-- "Open asks for tables of 16 × (K + 1) and 3 × (V + 1) words."
abbrev pub table_words : (words count : ℕ) → ℕ
table_words words count = words * (count + 1)

-- buffers for any table that can be accepted, and one record more: a table that is too long can be asked for, and is refused
abbrev pub buffers : Buffers
buffers = record {
  nodes = table_words node_words (limits.nodes + 1);
  versions = table_words version_words (limits.versions + 1);
  tally = limits.tally;
}

-- ---- commands

-- an opened store counts "From zero"; "A refused call [..] changes no word of the tables, the tally or the state."
abbrev pub opened_tally : Opening → (tally : List ℕ) → List ℕ
opened_tally (Ok _) tally = replicate (length tally) 0
opened_tally (Err r) tally = tally

abbrev pub opened_on : Session → (keys versions processes limit : ℕ) → Opened → Done
opened_on w k v p limit o = record {
  line = open_line k v p limit o.result.outcome;
  session = session o.result.state
      (back (table_words node_words k) o.nodes w.nodes)
      (back (table_words version_words v) o.versions w.versions)
      (opened_tally o.result.outcome w.tally);
}

-- "Each open replaces the store"
unfoldable pub open_on : Session → (keys versions processes limit : ℕ) → Done
open_on w k v p limit = opened_on w k v p limit
    (open_of (take (table_words node_words k) w.nodes) (take (table_words version_words v) w.versions) p limit)

abbrev pub started : (process : ℕ) → StartResult → Performed
started i r = record { line = start_line i r.outcome; state = r.state }

abbrev pub start_on : State → (nodes versions : List ℕ) → (process : ℕ) → Operation → Performed
start_on s nodes versions i op = started i (start_of s (nodes_in s nodes) (versions_in s versions) i op)

-- a start leaves both buffers and the tally
abbrev pub started_on : Session → Performed → Done
started_on w r = done r w.nodes w.versions w.tally

abbrev pub stepped_on : Session → (process : ℕ) → Stepped → Done
stepped_on w i r = record {
  line = step_line i r.outcome;
  session = session r.store.state
      (back w.state.lengths.nodes r.store.nodes w.nodes)
      (back w.state.lengths.versions r.store.versions w.versions)
      r.store.tally;
}

abbrev pub look_on : State → (nodes versions : List ℕ) → (key back : ℕ) → Line
look_on s nodes versions k n = look_line k n (look_of s (nodes_in s nodes) (versions_in s versions) k n)

abbrev pub inspect_on : State → (nodes versions : List ℕ) → Line
inspect_on s nodes versions = inspect_line (inspect_of s (nodes_in s nodes) (versions_in s versions))

unfoldable pub call_on : Session → Command → Done
call_on w (Open k v p limit) = open_on w k v p limit
call_on w (Put i k v t draw) = started_on w (start_on w.state w.nodes w.versions i (put k v t draw))
call_on w (Get i k) = started_on w (start_on w.state w.nodes w.versions i (get k))
call_on w (Step i) = stepped_on w i (step_of (lent w) i)
call_on w (Look k n) = record { line = look_on w.state w.nodes w.versions k n; session = w }
call_on w Inspect = record { line = inspect_on w.state w.nodes w.versions; session = w }
