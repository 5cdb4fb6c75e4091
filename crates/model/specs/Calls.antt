-- The public calls of the store, each with all its refusals in document 01's order: open, start, step, look, standing
-- (`status_of`) and the tally. Inspection has a file of its own.
use Rattle.std.specs.Prelude.{ℕ, zero, suc, ◌+◌, Bool, not, ◌&&◌, List, eqb, ltb, leb, length, get_or, set, replicate}
use Rattle.std.specs.Int.Count.{count_trailing_zeros}
use Rattle.model.specs.Types.{Kind, Put, Get, Scan, Walk, Answer, None, Refusal, NodeLength, VersionLength, ProcessCount, EventLimit, NoProcess, BadKey, BadRange, Busy, NoCall, Spent, Corrupt, Damaged, NoKey, NoVersion, Call, Process, State, Permit, Ok, Err, Move, Refuse, Wait, Go, Note, Commit, Show, End, OpenResult, StartResult, Stepping, Looking, Status, Progress, idle_status, running_status}
use Rattle.std.specs.Prelude.{if◌then◌else◌}
use Rattle.model.specs.Layout.{Memory, top_level, levels, limits, key, newest, prev, version_at, fresh_nodes}
use Rattle.model.specs.Numbers.{answer_number, is_counted}
use Rattle.model.specs.Roles.{is_idle}
use Rattle.model.specs.Requests.{Fitting, Operation, put, get, scan, first_of, last_of}
use Rattle.model.specs.State.{idle_process, process_at, fresh_state, closed_state, with_event, memory_of, within, lawful_nodes, lawful_versions, lawful_key, lawful_state, lawful_store}
use Rattle.model.specs.Phases.{Moved, refuses, used_version, transition_of}

-- "Each is given if its condition is the first met in the order below, and never otherwise."
abbrev pub deny_if : Bool → Refusal → Permit → Permit
deny_if b r rest = if b then Err r else rest

-- ---- open

-- "The fitter, at open, in order: 1 node table length; 2 reading table length; 3 stations; 4 event limit."
unfoldable pub open_due : Fitting → Permit
open_due f =
    deny_if (not (lawful_nodes f.nodes)) NodeLength
    (deny_if (not (lawful_versions f.versions)) VersionLength
    (deny_if (not (within 1 limits.processes f.processes)) ProcessCount
    (deny_if (not (within 1 limits.events f.limit)) EventLimit
    (Ok tt))))

abbrev pub open_permit : (nodes versions : List ℕ) (processes limit : ℕ) → Permit
open_permit nodes versions processes limit =
    open_due (record { nodes = length nodes; versions = length versions; processes = processes; limit = limit })

-- what an opening leaves: outcome and state, and both tables
pub record Opened : Type 0 where
  pub result : OpenResult
  pub nodes : List ℕ
  pub versions : List ℕ

-- "Opening zeroes both tables and sets word 2 of node 0 to 5." A refusal "changes no lent word"; "He gets a closed state."
unfoldable pub open_by : Permit → (nodes versions : List ℕ) (processes limit : ℕ) → Opened
open_by (Err r) nodes versions processes limit = record {
  result = record { outcome = Err r; state = closed_state };
  nodes = nodes;
  versions = versions;
}
open_by (Ok _) nodes versions processes limit = record {
  result = record {
    outcome = (Ok tt);
    state = fresh_state processes limit (record { nodes = length nodes; versions = length versions });
  };
  nodes = fresh_nodes (length nodes);
  versions = replicate (length versions) 0;
}

unfoldable pub open_of : (nodes versions : List ℕ) (processes limit : ℕ) → Opened
open_of nodes versions processes limit = open_by (open_permit nodes versions processes limit) nodes versions processes limit

-- ---- start

-- "Its top level is the count of trailing zero bits in the draw, at most 5; draw 0 gives 5."
unfoldable pub top_of : (draw : ℕ) → ℕ
top_of draw = if ltb (count_trailing_zeros 16 draw) top_level then count_trailing_zeros 16 draw else top_level

-- "5 station number not below the count"
abbrev pub no_such : State → ℕ → Bool
no_such s i = leb s.processes i

-- "9 event limit spent"
abbrev pub spent : State → Bool
spent s = leb s.limit s.events

-- "7 busy"; "Start: 10, 5, 6, 7, 9." P1: "6 reads both ends"; "17, first above last, after 6"
unfoldable pub start_permit : State → (nodes versions : List ℕ) → (process first last : ℕ) → Permit
start_permit s nodes versions i first last =
    deny_if (not (lawful_store s nodes versions)) Corrupt
    (deny_if (no_such s i) NoProcess
    (deny_if (not (lawful_key first && lawful_key last)) BadKey
    (deny_if (ltb last first) BadRange
    (deny_if (not (is_idle (process_at s i).call.kind)) Busy
    (deny_if (spent s) Spent
    (Ok tt))))))

-- "Walk (start: L 5, p 0)"; nothing remembered, nothing made, "(before it, none and 0)"
abbrev pub begun : Call → Process
begun call = record {
  call = call;
  cursor = record { phase = Walk; level = top_level; pred = 0; made = 0 };
  effect = record { answer = None; tick = 0 };
  preds = replicate levels 0;
}

-- A refusal "changes no lent word and returns the state it was given."
unfoldable pub start_by : Permit → State → ℕ → Call → StartResult
start_by (Err r) s i call = record { outcome = Err r; state = s }
start_by (Ok _) s i call = record { outcome = Ok (s.events + 1); state = with_event s i s.counts (begun call) }

-- the call that a process keeps: of a draw the top level that it gives
unfoldable pub call_for : Operation → (start : ℕ) → Call
call_for (put k v t draw) tick = record { kind = Put; key = k; last = k; value = v; timestamp = t; top = top_of draw; start = tick }
call_for (get k) tick = record { kind = Get; key = k; last = k; value = 0; timestamp = 0; top = 0; start = tick }
call_for (scan first last) tick = record { kind = Scan; key = first; last = last; value = 0; timestamp = 0; top = 0; start = tick }

unfoldable pub start_of : State → (nodes versions : List ℕ) → (process : ℕ) → Operation → StartResult
start_of s nodes versions i op = start_by (start_permit s nodes versions i (first_of op) (last_of op)) s i (call_for op (s.events + 1))

-- ---- step

-- the state and the words lent with it
pub record Store : Type 0 where
  pub state : State
  pub nodes : List ℕ
  pub versions : List ℕ
  pub tally : List ℕ

-- the state and the words lent with it
abbrev pub store_of : State → (nodes versions tally : List ℕ) → Store
store_of s nodes versions tally = record { state = s; nodes = nodes; versions = versions; tally = tally }

pub record Stepped : Type 0 where
  pub outcome : Stepping
  pub store : Store

-- "8 step with no call running"; "Step: 10, 5, 8, 9, 11."; 10 "at a step a tally of more or fewer words than there are counts"; for 11 see the phases
unfoldable pub step_permit : Store → (process : ℕ) → Permit
step_permit w i =
    deny_if (not (lawful_store w.state w.nodes w.versions && eqb (length w.tally) limits.tally)) Corrupt
    (deny_if (no_such w.state i) NoProcess
    (deny_if (is_idle (process_at w.state i).call.kind) NoCall
    (deny_if (spent w.state) Spent
    (Ok tt))))

-- the process after a move at this tick
unfoldable pub process_after : (tick : ℕ) → Process → Move → Process
process_after tick p Refuse = p
process_after tick p Wait = p
process_after tick p (Go c) = record { call = p.call; cursor = c; effect = p.effect; preds = p.preds }
process_after tick p (Note c) = record {
  call = p.call;
  cursor = c;
  effect = p.effect;
  preds = set p.preds p.cursor.level p.cursor.pred;
}
process_after tick p (Commit c a) = record { call = p.call; cursor = c; effect = record { answer = a; tick = tick }; preds = p.preds }
process_after tick p (Show c x) = record { call = p.call; cursor = c; effect = p.effect; preds = p.preds }
process_after tick p (End a v e) = idle_process

-- "A finishing step answers kind, answer, value, stamp [..] and the ticks of start, effect and finish."
unfoldable pub outcome_of : (tick : ℕ) → Call → Move → Stepping
outcome_of tick call Refuse = Err Damaged
outcome_of tick call Wait = Ok (Progress.Waited tick)
outcome_of tick call (Go c) = Ok (Progress.Moved tick)
outcome_of tick call (Note c) = Ok (Progress.Moved tick)
outcome_of tick call (Commit c a) = Ok (Progress.Moved tick)
-- P1: "shows its number and newest reading"
outcome_of tick call (Show c x) = Ok (Progress.Shown tick x)
outcome_of tick call (End a v e) = Ok (Progress.Finished (record {
  kind = call.kind;
  answer = a;
  value = v.value;
  timestamp = v.timestamp;
  start = call.start;
  effect = e;
  finish = tick;
}))

-- "the one count of that answer grows by one in place, and a count at 4,294,967,295 stays"; of a sweep P1 says: "no tally counts it"
unfoldable pub counted : List ℕ → Answer → List ℕ
counted t a =
    if is_counted a && ltb (get_or t (answer_number a) 0) limits.count
    then set t (answer_number a) (get_or t (answer_number a) 0 + 1)
    else t

unfoldable pub tally_after : List ℕ → Move → List ℕ
tally_after t Refuse = t
tally_after t Wait = t
tally_after t (Go c) = t
tally_after t (Note c) = t
tally_after t (Commit c a) = t
tally_after t (Show c x) = t
tally_after t (End a v e) = counted t a

-- one event of process i: its move, and the memory that it left
abbrev pub evented : Store → ℕ → Move → Memory → Store
evented w i v m = record {
  state = with_event w.state i m.counts (process_after (w.state.events + 1) (process_at w.state i) v);
  nodes = m.nodes;
  versions = m.versions;
  tally = tally_after w.tally v;
}

abbrev pub store_after : Store → ℕ → Move → Memory → Store
store_after w i v m = if refuses v then w else evented w i v m

unfoldable pub step_by : Permit → Store → ℕ → Moved → Stepped
step_by (Err r) w i v = record { outcome = Err r; store = w }
step_by (Ok _) w i v = record {
  outcome = outcome_of (w.state.events + 1) (process_at w.state i).call v.move;
  store = store_after w i v.move v.memory;
}

unfoldable pub step_of : Store → (process : ℕ) → Stepped
step_of w i = step_by (step_permit w i) w i
    (transition_of (i + 1) (w.state.events + 1) (process_at w.state i) (memory_of w.state w.nodes w.versions))

-- ---- look

-- "A look takes tray and a count of places back from the newest."; "It is no event."
-- "It finds the first node from 1 with that tray number": among `left` nodes from x on, or 0
unfoldable pub find_from : List ℕ → (key left x : ℕ) → ℕ
find_from t k zero x = 0
find_from t k (suc left) x = if eqb (key t x) k then x else find_from t k left (x + 1)

-- "and follows previous places"; 13 "fewer readings than asked", 11 "a previous place not smaller"
unfoldable pub back_from : (versions : List ℕ) → (back i : ℕ) → Looking
back_from t zero i = Ok (version_at t i)
back_from t (suc back) i =
    if leb i (prev t i) then Err Damaged
    else if eqb (prev t i) 0 then Err NoVersion
    else back_from t back (prev t i)

-- "Whoever looks: 12 no such tray; 13 fewer readings than asked."
unfoldable pub look_node : Memory → (back x : ℕ) → Looking
look_node m back x =
    if eqb x 0 then Err NoKey
    else if not (used_version m (newest m.nodes x)) then Err Damaged
    else back_from m.versions back (newest m.nodes x)

-- "Look: 10, 6, 12, 11, 13 (11 before 13 along the chain)."
unfoldable pub look_permit : State → (nodes versions : List ℕ) → (key : ℕ) → Permit
look_permit s nodes versions k =
    deny_if (not (lawful_store s nodes versions)) Corrupt
    (deny_if (not (lawful_key k)) BadKey
    (Ok tt))

unfoldable pub look_by : Permit → Memory → (key back : ℕ) → Looking
look_by (Err r) m k back = Err r
look_by (Ok _) m k back = look_node m back (find_from m.nodes k m.counts.nodes 1)

unfoldable pub look_of : State → (nodes versions : List ℕ) → (key back : ℕ) → Looking
look_of s nodes versions k back = look_by (look_permit s nodes versions k) (memory_of s nodes versions) k back

-- ---- standing

-- "A station's standing is idle, or kind, start tick and effect tick (0 before effect)."
unfoldable pub standing : Kind → Process → Status
standing k p = if is_idle k then idle_status else running_status k p.call.start p.effect.tick

-- "Standing: 10, 5; it is lent no tables, so 10 there reads the state alone."
unfoldable pub status_permit : State → (process : ℕ) → Permit
status_permit s i =
    deny_if (not (lawful_state s)) Corrupt
    (deny_if (no_such s i) NoProcess
    (Ok tt))

unfoldable pub status_by : Permit → Process → Status
status_by (Err r) p = Err r
status_by (Ok _) p = standing p.call.kind p

unfoldable pub status_of : State → (process : ℕ) → Status
status_of s i = status_by (status_permit s i) (process_at s i)
