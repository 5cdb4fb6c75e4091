-- What is seen of a list of calls: each action with its outcome, and nothing of the store inside. From these alone are read the
-- events, the call that each process has and what it has shown, the finished calls, the looks, and which refusal was due.
use Rattle.std.specs.Prelude.{ℕ, suc, Bool, true, false, not, ◌&&◌, List, [], ◌∷◌, ◌++◌, eqb, ltb, leb, length}
use Rattle.model.specs.Types.{NoProcess, BadKey, BadRange, Busy, NoCall, Spent, Permit, Ok, Err, Item, Finish, Starting, Stepping, Looking, Progress}
use Rattle.std.specs.Prelude.{if◌then◌else◌}
use Rattle.model.specs.Requests.{Fitting, Operation, first_of, last_of}
use Rattle.model.specs.State.{lawful_key}
use Rattle.model.specs.Calls.{deny_if}
use Rattle.model.specs.System.{After, System}

-- the members of "the lists of demand 3"
pub data Action : Type 0 where
  start : (process : ℕ) → Operation → Action
  step : (process : ℕ) → Action
  look : (key back : ℕ) → Action

-- an action with its outcome
pub data Observation : Type 0 where
  started : (process : ℕ) → Operation → Starting → Observation
  stepped : (process : ℕ) → Stepping → Observation
  looked : (key back : ℕ) → Looking → Observation

abbrev pub action_of : Observation → Action
action_of (started i op o) = start i op
action_of (stepped i o) = step i
action_of (looked k back o) = look k back

-- the opening's numbers, and what was seen since, newest first
pub record History : Type 0 where
  pub processes : ℕ
  pub limit : ℕ
  pub entries : List Observation

-- ---- events

-- the refusal that an outcome tells, if any
abbrev pub refusal_in : Observation → Permit
refusal_in (started i op (Err r)) = Err r
refusal_in (started i op (Ok t)) = Ok tt
refusal_in (stepped i (Err r)) = Err r
refusal_in (stepped i (Ok (Progress.Moved t))) = Ok tt
refusal_in (stepped i (Ok (Progress.Waited t))) = Ok tt
refusal_in (stepped i (Ok (Progress.Shown t x))) = Ok tt
refusal_in (stepped i (Ok (Progress.Finished f))) = Ok tt
refusal_in (looked k back (Err r)) = Err r
refusal_in (looked k back (Ok v)) = Ok tt

abbrev pub accepted : Permit → Bool
accepted (Ok _) = true
accepted (Err r) = false

-- "Every accepted start and every step not refused is one event"; a look "is no event"
abbrev pub is_event : Observation → Bool
is_event (started i op o) = accepted (refusal_in (started i op o))
is_event (stepped i o) = accepted (refusal_in (stepped i o))
is_event (looked k back o) = false

-- the events, oldest first: that of tick t stands at t - 1
unfoldable pub log_of : List Observation → List Action
log_of [] = []
log_of (e ∷ es) = if is_event e then log_of es ++ (action_of e ∷ []) else log_of es

abbrev pub events_in : List Observation → ℕ
events_in es = length (log_of es)

-- of an event after these: "its tick is the count of events so far, itself included"
abbrev pub tick_after : List Observation → ℕ
tick_after es = suc (events_in es)

-- ---- calls

-- a call as its accepted start gave it, and the tick of that
pub record Invoked : Type 0 where
  pub operation : Operation
  pub start : ℕ

-- "A station has one call at most."
pub data Pending : Type 0 where
  no_call : Pending
  has_call : Invoked → Pending

-- what each process has, with that of process i replaced
unfoldable pub updated : {A : Type 0} → (ℕ → A) → (process : ℕ) → A → ℕ → A
updated f i x j = if eqb j i then x else f j

-- what each process has after an entry, an event of this tick if it is one
abbrev pub pending_after : Observation → (tick : ℕ) → (ℕ → Pending) → ℕ → Pending
pending_after (started i op (Err r)) tick f = f
pending_after (started i op (Ok t)) tick f = updated f i (has_call (record { operation = op; start = tick }))
pending_after (stepped i (Err r)) tick f = f
pending_after (stepped i (Ok (Progress.Moved t))) tick f = f
pending_after (stepped i (Ok (Progress.Waited t))) tick f = f
pending_after (stepped i (Ok (Progress.Shown t x))) tick f = f
pending_after (stepped i (Ok (Progress.Finished d))) tick f = updated f i no_call
pending_after (looked k back o) tick f = f

unfoldable pub pending_in : List Observation → (process : ℕ) → Pending
pending_in [] = λ i. no_call
pending_in (e ∷ es) = pending_after e (tick_after es) (pending_in es)

-- P1: what a step was seen to show, and the tick of that event
pub record Sight : Type 0 where
  pub item : Item
  pub tick : ℕ

-- what the last call of each process has shown after an entry, an event of this tick if it is one
abbrev pub sights_after : Observation → (tick : ℕ) → (ℕ → List Sight) → ℕ → List Sight
sights_after (started i op (Err r)) tick f = f
sights_after (started i op (Ok t)) tick f = updated f i []
sights_after (stepped i (Err r)) tick f = f
sights_after (stepped i (Ok (Progress.Moved t))) tick f = f
sights_after (stepped i (Ok (Progress.Waited t))) tick f = f
sights_after (stepped i (Ok (Progress.Shown t x))) tick f = updated f i (record { item = x; tick = tick } ∷ f i)
sights_after (stepped i (Ok (Progress.Finished d))) tick f = f
sights_after (looked k back o) tick f = f

-- newest first
unfoldable pub sights_in : List Observation → (process : ℕ) → List Sight
sights_in [] = λ i. []
sights_in (e ∷ es) = sights_after e (tick_after es) (sights_in es)

abbrev pub is_start : Observation → Bool
is_start (started i op o) = accepted (refusal_in (started i op o))
is_start (stepped i o) = false
is_start (looked k back o) = false

-- how many starts were accepted
unfoldable pub starts_in : List Observation → ℕ
starts_in [] = 0
starts_in (e ∷ es) = if is_start e then suc (starts_in es) else starts_in es

-- "Finished are the calls whose finishing answer was given within the list": what was shown, what was told, and the tick of the
-- event that ended it
pub record Completed : Type 0 where
  pub process : ℕ
  pub invoked : Invoked
  pub shown : List Sight
  pub told : Finish
  pub ended : ℕ

abbrev pub finished : Pending → (process : ℕ) → List Sight → Finish → (tick : ℕ) → List Completed → List Completed
finished no_call i ss d tick cs = cs
finished (has_call c) i ss d tick cs = record { process = i; invoked = c; shown = ss; told = d; ended = tick } ∷ cs

abbrev pub completed_after : Observation → (tick : ℕ) → (ℕ → Pending) → (ℕ → List Sight) → List Completed → List Completed
completed_after (started i op o) tick f g cs = cs
completed_after (stepped i (Err r)) tick f g cs = cs
completed_after (stepped i (Ok (Progress.Moved t))) tick f g cs = cs
completed_after (stepped i (Ok (Progress.Waited t))) tick f g cs = cs
completed_after (stepped i (Ok (Progress.Shown t x))) tick f g cs = cs
completed_after (stepped i (Ok (Progress.Finished d))) tick f g cs = finished (f i) i (g i) d tick cs
completed_after (looked k back o) tick f g cs = cs

unfoldable pub completed_in : List Observation → List Completed
completed_in [] = []
completed_in (e ∷ es) = completed_after e (tick_after es) (pending_in es) (sights_in es) (completed_in es)

-- ---- looks

-- a look, and the tick after which it meets the map
pub record Query : Type 0 where
  pub key : ℕ
  pub back : ℕ
  pub tick : ℕ
  pub outcome : Looking

abbrev pub queries_after : Observation → (tick : ℕ) → List Query → List Query
queries_after (started i op o) tick qs = qs
queries_after (stepped i o) tick qs = qs
queries_after (looked k back o) tick qs = record { key = k; back = back; tick = tick; outcome = o } ∷ qs

unfoldable pub queries_in : List Observation → List Query
queries_in [] = []
queries_in (e ∷ es) = queries_after e (events_in es) (queries_in es)

-- ---- which refusal is due

abbrev pub is_free : Pending → Bool
is_free no_call = true
is_free (has_call c) = false

-- "Start: 10, 5, 6, 7, 9.", by P1 with 17 after 6; "Step: 10, 5, 8, 9, 11. Look: 10, 6, 12, 11, 13": of these, what is due after so
-- many events, with these calls pending. 10 and 11 never are; 12 and 13 are the map's to say.
unfoldable pub due : (processes limit events : ℕ) → (ℕ → Pending) → Action → Permit
due processes limit events pending (start i op) =
    deny_if (leb processes i) NoProcess
    (deny_if (not (lawful_key (first_of op) && lawful_key (last_of op))) BadKey
    (deny_if (ltb (last_of op) (first_of op)) BadRange
    (deny_if (not (is_free (pending i))) Busy
    (deny_if (leb limit events) Spent
    (Ok tt)))))
due processes limit events pending (step i) =
    deny_if (leb processes i) NoProcess
    (deny_if (is_free (pending i)) NoCall
    (deny_if (leb limit events) Spent
    (Ok tt)))
due processes limit events pending (look k back) = deny_if (not (lawful_key k)) BadKey (Ok tt)

-- what is due of an action after these entries
abbrev pub due_after : (processes limit : ℕ) → List Observation → Action → Permit
due_after processes limit es a = due processes limit (events_in es) (pending_in es) a

-- ---- playing a list

-- the store, and what was seen of it
pub record Run (S : System) : Type 0 where
  pub store : S.Carrier
  pub history : History

abbrev pub act : (S : System) → S.Carrier → Action → After Observation S.Carrier
act S w (start i op) = let o = S.start w i op in record { outcome = started i op o.outcome; store = o.store }
act S w (step i) = let o = S.step w i in record { outcome = stepped i o.outcome; store = o.store }
act S w (look k back) = record { outcome = looked k back (S.look w k back); store = w }

abbrev pub noted : History → Observation → History
noted h e = record { processes = h.processes; limit = h.limit; entries = e ∷ h.entries }

unfoldable pub perform : {S : System} → Run S → Action → Run S
perform {S} r a = let o = act S r.store a in record { store = o.store; history = noted r.history o.outcome }

unfoldable pub perform_all : {S : System} → Run S → List Action → Run S
perform_all r [] = r
perform_all r (a ∷ rest) = perform_all (perform r a) rest

abbrev pub empty_history : Fitting → History
empty_history f = record { processes = f.processes; limit = f.limit; entries = [] }

-- a store as its opening left it
abbrev pub begin : (S : System) → S.Setup → S.Carrier → Run S
begin S s w = record { store = w; history = empty_history (S.fitting s) }
