-- The observer of the proofs: all that the specs read from a list of entries, in one record that grows by an entry.
use Prim.Native.Nat.{ℕ, suc, ◌+◌}
use mathlib.Core.Bool.{Bool, true, false, ◌&&◌}
use mathlib.Core.List.{List, [], ◌∷◌, ◌++◌}
use mathlib.Core.Path.{◌≡◌, refl}
use lib.Dec.{eqb}
use lib.ListN.{length}
use Rattle.model.specs.Types.{Refusal, Permit, Ok, Err, Starting, Stepping, Looking, Status, Progress}
use Rattle.std.specs.Prelude.{if◌then◌else◌}
use Rattle.model.specs.Numbers.{number_of}
use Rattle.model.specs.Requests.{Operation}
use Rattle.model.specs.History.{Action, start, step, Observation, started, stepped, looked, Pending, no_call, has_call, updated, Sight, due, Completed, finished, Query, History, log_of, pending_in, sights_in, starts_in, completed_in, queries_in, noted}
use Rattle.model.specs.Linearizability.{Effected, completed_effects, running_effects, effects_of}

pub record Seen : Type 0 where
  pub processes : ℕ  -- as the opening gave them
  pub limit : ℕ
  pub log : List Action  -- the events: that of tick t stands at t - 1
  pub pending : ℕ → Pending  -- the call of each process
  pub sights : ℕ → List Sight  -- what its last call has shown
  pub starts : ℕ  -- accepted starts
  pub completed : List Completed
  pub queries : List Query
  pub faults : ℕ

abbrev pub seen_of : (processes limit : ℕ) → List Action → (ℕ → Pending) → (ℕ → List Sight) → (starts : ℕ) → List Completed → List Query → (faults : ℕ)
    → Seen
seen_of processes limit log pending sights starts completed queries faults = record {
  processes = processes;
  limit = limit;
  log = log;
  pending = pending;
  sights = sights;
  starts = starts;
  completed = completed;
  queries = queries;
  faults = faults;
}

abbrev pub empty_seen : (processes limit : ℕ) → Seen
empty_seen processes limit = seen_of processes limit [] (λ i. no_call) (λ i. []) 0 [] [] 0

-- "its tick is the count of events so far, itself included"
abbrev pub tick_of : Seen → ℕ
tick_of h = suc (length h.log)

-- ---- the refusal that is due

abbrev pub seen_due : Seen → Action → Permit
seen_due h a = due h.processes h.limit (length h.log) h.pending a

abbrev pub is_granted : Permit → Bool
is_granted (Ok _) = true
is_granted (Err r) = false

abbrev pub is_denied : Permit → Refusal → Bool
is_denied (Ok _) r = false
is_denied (Err d) r = eqb (number_of d) (number_of r)

-- 1 where what was seen is wrong
abbrev pub unless : Bool → ℕ
unless right = if right then 0 else 1

-- ---- what is written down

-- "A refused start or step has no tick and gives the ledger nothing."
abbrev pub saw_refusal : Seen → Bool → Seen
saw_refusal h right =
    seen_of h.processes h.limit h.log h.pending h.sights h.starts h.completed h.queries (h.faults + unless right)

-- an event, that answered this tick
abbrev pub saw_event : Seen → Action → (ℕ → Pending) → (ℕ → List Sight) → (starts : ℕ) → List Completed → Permit → (tick : ℕ) → Seen
saw_event h a pending sights starts completed due tick =
    seen_of h.processes h.limit (h.log ++ (a ∷ [])) pending sights starts completed h.queries
    (h.faults + unless (is_granted due && eqb tick (tick_of h)))

unfoldable pub saw_start : Seen → (process : ℕ) → Operation → Starting → Seen
saw_start h i op (Err r) = saw_refusal h (is_denied (seen_due h (start i op)) r)
saw_start h i op (Ok t) =
    saw_event h (start i op) (updated h.pending i (has_call (record { operation = op; start = tick_of h }))) (updated h.sights i [])
    (suc h.starts) h.completed (seen_due h (start i op)) t

unfoldable pub saw_step : Seen → (process : ℕ) → Stepping → Seen
saw_step h i (Err r) = saw_refusal h (is_denied (seen_due h (step i)) r)
saw_step h i (Ok (Progress.Moved t)) = saw_event h (step i) h.pending h.sights h.starts h.completed (seen_due h (step i)) t
saw_step h i (Ok (Progress.Waited t)) = saw_event h (step i) h.pending h.sights h.starts h.completed (seen_due h (step i)) t
saw_step h i (Ok (Progress.Shown t x)) =
    saw_event h (step i) h.pending (updated h.sights i (record { item = x; tick = tick_of h } ∷ h.sights i)) h.starts h.completed
    (seen_due h (step i)) t
saw_step h i (Ok (Progress.Finished f)) =
    saw_event h (step i) (updated h.pending i no_call) h.sights h.starts
    (finished (h.pending i) i (h.sights i) f (tick_of h) h.completed) (seen_due h (step i)) f.finish

unfoldable pub saw_look : Seen → (key back : ℕ) → Looking → Seen
saw_look h k back o =
    seen_of h.processes h.limit h.log h.pending h.sights h.starts h.completed
    (record { key = k; back = back; tick = length h.log; outcome = o } ∷ h.queries) h.faults

-- ---- a list of entries, as the observer has it

unfoldable pub saw : Seen → Observation → Seen
saw s (started i op o) = saw_start s i op o
saw s (stepped i o) = saw_step s i o
saw s (looked k back o) = saw_look s k back o

unfoldable pub faults_of : (processes limit : ℕ) → List Observation → ℕ
faults_of p l [] = 0
faults_of p l (e ∷ es) =
    (saw (seen_of p l (log_of es) (pending_in es) (sights_in es) (starts_in es) (completed_in es) (queries_in es) (faults_of p l es)) e).faults

abbrev pub seen : History → Seen
seen h = seen_of h.processes h.limit (log_of h.entries) (pending_in h.entries) (sights_in h.entries)
    (starts_in h.entries) (completed_in h.entries) (queries_in h.entries) (faults_of h.processes h.limit h.entries)

pub seen_more : (h : History) (e : Observation) → seen (noted h e) ≡ saw (seen h) e
unfolding saw saw_start saw_step saw_look faults_of log_of pending_in sights_in starts_in completed_in queries_in
seen_more h (started i op (Err r)) = refl
seen_more h (started i op (Ok t)) = refl
seen_more h (stepped i (Err r)) = refl
seen_more h (stepped i (Ok (Progress.Moved t))) = refl
seen_more h (stepped i (Ok (Progress.Waited t))) = refl
seen_more h (stepped i (Ok (Progress.Shown t x))) = refl
seen_more h (stepped i (Ok (Progress.Finished f))) = refl
seen_more h (looked k back o) = refl

-- ---- the effects

unfoldable pub effects_seen : (ℕ → Status) → Seen → List Effected
effects_seen s h = completed_effects h.completed ++ running_effects s h.pending h.processes

pub effects_seen_lem : (s : ℕ → Status) (h : History) → effects_of s h ≡ effects_seen s (seen h)
unfolding effects_of effects_seen
effects_seen_lem s h = refl
