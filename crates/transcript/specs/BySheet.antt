-- The store that the commands of a sheet play, as a system: a call is a command, and its outcome is what its line tells. But no command
-- starts a scan, and no line has words for what a scan shows: such a start is the store's own call on the session, and a step answers what
-- the store's step answers, which the lines of a sheet tell too (Sheets `such_list`). No command asks for standing, tally and
-- counts: these are read from the session.
use Rattle.std.specs.Prelude.{ℕ, ◌≡◌, length}
use Rattle.model.specs.Layout.{node_words, version_words}
use Rattle.model.specs.Requests.{Fitting, Operation, put, get, scan}
use Rattle.model.specs.Calls.{step_of, status_of}
use Rattle.model.specs.System.{Opens, After, System}
use Rattle.model.specs.ByValue.{opens_by}
use Rattle.buffers.specs.Session.{Session, Done, lent, table_words, buffers, start_on, started_on}
use Rattle.executor.specs.Perform.{perform_of}
use Rattle.transcript.specs.Types.{Open, Put, Get, Step, Look, Inspect, Line}
use Rattle.transcript.specs.Meanings.{open_meant, start_meant, look_meant, inspect_meant}

-- both buffers and the tally are as long as the program lends them, whatever they hold
pub record BufferLengths (w : Session) : Type 0 where
  pub nodes : length w.nodes ≡ buffers.nodes
  pub versions : length w.versions ≡ buffers.versions
  pub tally : length w.tally ≡ buffers.tally

-- the operands of an open, and the session that it finds: "Each open replaces the store"
pub record Asked : Type 0 where
  pub before : Session
  pub lengths : BufferLengths before
  pub keys : ℕ
  pub versions : ℕ
  pub processes : ℕ
  pub limit : ℕ

-- "Open asks for tables of 16 × (K + 1) and 3 × (V + 1) words.": its refusals read the command's numbers, not the buffers
abbrev pub fitting_for : (keys versions processes limit : ℕ) → Fitting
fitting_for k v p limit = record {
  nodes = table_words node_words k;
  versions = table_words version_words v;
  processes = p;
  limit = limit;
}

abbrev pub opens_by_line : Done → Opens Session
opens_by_line d = opens_by (open_meant d.line) d.session

abbrev pub started_by : Session → (process : ℕ) → Operation → Done
started_by w i (put k v t draw) = perform_of w (Put i k v t draw)
started_by w i (get k) = perform_of w (Get i k)
started_by w i (scan first last) = started_on w (start_on w.state w.nodes w.versions i (scan first last))

-- what is read from a command's line, and the session that it leaves
abbrev pub answered : {O : Type 0} → (meant : Line → O) → Done → After O Session
answered meant d = record { outcome = meant d.line; store = d.session }

abbrev pub by_sheet : System
by_sheet = record {
  Carrier = Session;
  Setup = Asked;
  fitting = λ s. fitting_for s.keys s.versions s.processes s.limit;
  fresh = λ s. opens_by_line (perform_of s.before (Open s.keys s.versions s.processes s.limit));
  start = λ w i op. answered start_meant (started_by w i op);
  step = λ w i. record { outcome = (step_of (lent w) i).outcome; store = (perform_of w (Step i)).session };
  look = λ w k back. look_meant (perform_of w (Look k back)).line;
  status = λ w i. status_of w.state i;
  inspect = λ w. inspect_meant (perform_of w Inspect).line;
  tally = λ w. w.tally;
  counts = λ w. w.state.counts;
  events = λ w. w.state.events;
}
