-- The store in lent words as a system: whoever calls lends all its words anew each time, and it keeps nothing itself.
use Rattle.std.specs.Prelude.{ℕ, List, ◌≡◌, length, replicate}
use Rattle.model.specs.Layout.{limits}
use Rattle.model.specs.System.{System}
use Rattle.model.specs.ByValue.{Given, fitting_of, opens_by}
use Rattle.process.specs.ProcessWords.{sizes}
use Rattle.layout.specs.StateWords.{state_from}
use Rattle.lent.specs.Calls.{OpenIn, open_in, start_in, StepIn, step_in, look_in, inspect_in, status_in}

-- the state in words, both tables and the tally
pub record Lent : Type 0 where
  pub words : List ℕ
  pub nodes : List ℕ
  pub versions : List ℕ
  pub tally : List ℕ

-- What an opening is lent and asked for: beside what the store by value is given, words for the state, whatever they hold.
-- They are as many as a state has: over more or fewer it is refused 10, which is none of document 01's refusals at open.
pub record Lending : Type 0 where
  pub given : Given
  pub words : List ℕ
  pub long : length words ≡ sizes.state

-- "The tally of zeroes has as many words as there are counts." It is not lent to an opening: its owner zeroes it.
abbrev pub fresh_lent : OpenIn → Lent
fresh_lent o = record { words = o.words; nodes = o.nodes; versions = o.versions; tally = replicate limits.tally 0 }

abbrev pub with_words : Lent → List ℕ → Lent
with_words w words = record { words = words; nodes = w.nodes; versions = w.versions; tally = w.tally }

abbrev pub stepped_lent : StepIn → Lent
stepped_lent o = record { words = o.words; nodes = o.nodes; versions = o.versions; tally = o.tally }

-- the counts in use and the count of events are read where the words have them
abbrev pub lent_words : System
lent_words = record {
  Carrier = Lent;
  Setup = Lending;
  fitting = λ l. fitting_of l.given;
  fresh = λ l.
      (let g = l.given in
      let o = open_in l.words g.nodes g.versions g.processes g.limit in
      opens_by o.outcome (fresh_lent o));
  start = λ w i op.
      (let o = start_in w.words w.nodes w.versions i op in
      record { outcome = o.outcome; store = with_words w o.words });
  step = λ w i.
      (let o = step_in w.words w.nodes w.versions w.tally i in
      record { outcome = o.outcome; store = stepped_lent o });
  look = λ w k back. look_in w.words w.nodes w.versions k back;
  status = λ w i. status_in w.words i;
  inspect = λ w. inspect_in w.words w.nodes w.versions;
  tally = λ w. w.tally;
  counts = λ w. (state_from w.words).counts;
  events = λ w. (state_from w.words).events;
}
