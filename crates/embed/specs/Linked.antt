-- The exported functions as a system: C owns the words and lends them to each call, and what it is told in numbers is taken
-- for what they mean.
use Rattle.std.specs.Prelude.{ℕ, List, ◌≡◌, eqb, get_or, Ok, Err}
use Rattle.model.specs.Types.{Opening, Starting, Stepping, Looking, Inspecting, Status, no_fault, fault_at, idle_status, running_status}
use Rattle.model.specs.declared.types.Progress.{Progress}
use Rattle.model.specs.declared.types.Refusal.{Refusal}
use Rattle.std.specs.Prelude.{if◌then◌else◌}
use Rattle.model.specs.Layout.{joined}
use Rattle.model.specs.Numbers.{refusal_of, answer_of, kind_from}
use Rattle.model.specs.Requests.{Operation}
use Rattle.model.specs.System.{System}
use Rattle.model.specs.ByValue.{fitting_of, opens_by}
use Rattle.layout.specs.StateWords.{state_from}
use Rattle.lent.specs.Calls.{OpenIn, opened_in, StartIn, started_in, StepIn, stepped_in}
use Rattle.lent.specs.Lent.{Lent, Lending, fresh_lent, with_words, stepped_lent}
use Rattle.replies.specs.Told.{Told, moved, waited, shown, open_told, start_told, step_told, look_told, inspect_told, status_told}
use Rattle.embed.specs.Calls.{TrayOpen, tray_open, TrayStart, tray_start, TrayStep, tray_step, tray_look, tray_inspect, tray_standing}

-- ---- what a number and answer words mean: the way back from `open_told` .. `status_told`

-- 0, or the refusal's number
abbrev pub by_number : {O : Type 0} → (number : ℕ) → (accepted : O) → (refused : Refusal → O) → O
by_number n accepted refused = if eqb n 0 then accepted else refused (refusal_of n)

unfoldable pub open_meant : (number : ℕ) → Opening
open_meant n = by_number n (Ok tt) Err

-- word n of the answer
abbrev pub word : Told → ℕ → ℕ
word t n = get_or t.answer n 0

unfoldable pub start_meant : Told → Starting
start_meant t = by_number t.number (Ok (word t 0)) Err

-- what the step did, and the tick
abbrev pub stepped_meant : Told → Stepping
stepped_meant t =
    if eqb (word t 0) moved then Ok (Progress.Moved (word t 1))
    else if eqb (word t 0) waited then Ok (Progress.Waited (word t 1))
    else if eqb (word t 0) shown then Ok (Progress.Shown (word t 1) (record {
      key = joined (word t 2) (word t 3);
      version = record { value = word t 4; timestamp = word t 5 };
    }))
    else Ok (Progress.Finished (record {
      kind = kind_from (word t 2);
      answer = answer_of (word t 3);
      value = word t 4;
      timestamp = word t 5;
      start = word t 6;
      effect = word t 7;
      finish = word t 1;
    }))

unfoldable pub step_meant : Told → Stepping
step_meant t = by_number t.number (stepped_meant t) Err

unfoldable pub look_meant : Told → Looking
look_meant t = by_number t.number (Ok (record { value = word t 0; timestamp = word t 1 })) Err

unfoldable pub inspect_meant : Told → Inspecting
inspect_meant t =
    by_number t.number (if eqb (word t 0) 0 then no_fault else fault_at (word t 1) (word t 2))
    Err

unfoldable pub status_meant : Told → Status
status_meant t =
    by_number t.number (if eqb (word t 0) 0 then idle_status else running_status (kind_from (word t 0)) (word t 1) (word t 2))
    Err

-- beside the words that the call leaves: the way back from `open_reply` .. `step_reply`
abbrev pub open_read : TrayOpen → OpenIn
open_read o = opened_in (open_meant o.number) o.words o.nodes o.versions

abbrev pub start_read : TrayStart → StartIn
start_read o = started_in (start_meant o.told) o.words

abbrev pub step_read : TrayStep → StepIn
step_read o = stepped_in (step_meant o.told) o.words o.nodes o.versions o.tally

-- ---- the system

-- No function tells the counts in use and the count of events: they are read in the state's words, where the header shows them.
abbrev pub linked : System
linked = record {
  Carrier = Lent;
  Setup = Lending;
  fitting = λ l. fitting_of l.given;
  fresh = λ l.
      (let g = l.given in
      let o = open_read (tray_open l.words g.nodes g.versions g.processes g.limit) in
      opens_by o.outcome (fresh_lent o));
  start = λ w i op.
      (let o = start_read (tray_start w.words w.nodes w.versions i op) in
      record { outcome = o.outcome; store = with_words w o.words });
  step = λ w i.
      (let o = step_read (tray_step w.words w.nodes w.versions w.tally i) in
      record { outcome = o.outcome; store = stepped_lent o });
  look = λ w k back. look_meant (tray_look w.words w.nodes w.versions k back);
  status = λ w i. status_meant (tray_standing w.words i);
  inspect = λ w. inspect_meant (tray_inspect w.words w.nodes w.versions);
  tally = λ w. w.tally;
  counts = λ w. (state_from w.words).counts;
  events = λ w. (state_from w.words).events;
}

-- What is read from the numbers tells the same numbers again: reading them loses nothing, and no number is told for another.
pub record NumbersTell : Type 0 where
  pub opening : (words nodes versions : List ℕ) (processes limit : ℕ)
      → let n = (tray_open words nodes versions processes limit).number in open_told (open_meant n) ≡ n
  pub start : (words nodes versions : List ℕ) (i : ℕ) (op : Operation)
      → let t = (tray_start words nodes versions i op).told in start_told (start_meant t) ≡ t
  pub step : (words nodes versions tally : List ℕ) (i : ℕ)
      → let t = (tray_step words nodes versions tally i).told in step_told (step_meant t) ≡ t
  pub look : (words nodes versions : List ℕ) (k back : ℕ)
      → let t = tray_look words nodes versions k back in look_told (look_meant t) ≡ t
  pub inspect : (words nodes versions : List ℕ)
      → let t = tray_inspect words nodes versions in inspect_told (inspect_meant t) ≡ t
  pub standing : (words : List ℕ) (i : ℕ) → let t = tray_standing words i in status_told (status_meant t) ≡ t
