-- The store by value as a system: its state, and the words lent with it.
use Rattle.std.specs.Prelude.{ℕ, List, length, replicate}
use Rattle.model.specs.Types.{State, Opening, Ok, Err}
use Rattle.model.specs.Layout.{limits}
use Rattle.model.specs.Calls.{Opened, open_of, start_of, Store, step_of, look_of, status_of}
use Rattle.model.specs.Inspection.{inspect_of}
use Rattle.model.specs.Requests.{Fitting}
use Rattle.model.specs.System.{Opens, refused, opened, System}

abbrev pub with_state : Store → State → Store
with_state w s = record { state = s; nodes = w.nodes; versions = w.versions; tally = w.tally }

-- "A fresh store is the state and tables that any accepted opening leaves. The tally of zeroes has as many words as
-- there are counts."
abbrev pub fresh_store : Opened → Store
fresh_store o =
    record { state = o.result.state; nodes = o.nodes; versions = o.versions; tally = replicate limits.tally 0 }

-- what the fitter lends and asks for
pub record Given : Type 0 where
  pub nodes : List ℕ
  pub versions : List ℕ
  pub processes : ℕ
  pub limit : ℕ

abbrev pub fitting_of : Given → Fitting
fitting_of g = record { nodes = length g.nodes; versions = length g.versions; processes = g.processes; limit = g.limit }

-- what an opening gives, whatever holds the store
abbrev pub opens_by : {C : Type 0} → Opening → C → Opens C
opens_by (Err r) w = refused r
opens_by (Ok _) w = opened w

abbrev pub by_value : System
by_value = record {
  Carrier = Store;
  Setup = Given;
  fitting = fitting_of;
  fresh = λ g.
      (let o = open_of g.nodes g.versions g.processes g.limit in opens_by o.result.outcome (fresh_store o));
  start = λ w i op.
      (let o = start_of w.state w.nodes w.versions i op in record { outcome = o.outcome; store = with_state w o.state });
  step = λ w i. (let o = step_of w i in record { outcome = o.outcome; store = o.store });
  look = λ w k back. look_of w.state w.nodes w.versions k back;
  status = λ w i. status_of w.state i;
  inspect = λ w. inspect_of w.state w.nodes w.versions;
  tally = λ w. w.tally;
  counts = λ w. w.state.counts;
  events = λ w. w.state.events;
}
