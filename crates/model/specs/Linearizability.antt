-- Demand 3: "The order in which calls take effect accounts for every answer, in whatever order the stations are turned."
--
-- Stated of any system (`System`), from what is seen of a list of calls (`History`) and what can be asked when the list is
-- done (`View`). The customer's words, and ours:
--   station                          process
--   tray, tray number                key
--   reading: value, stamp            version: value, timestamp
--   plain ledger, its K and V        the sequential map (`Map`), K and W
--   standing                         status
--   event; took effect               event: an accepted start, or a step not refused; effect: the linearization point
--   sweep of a span                  scan
use Rattle.std.specs.Prelude.{ℕ, zero, suc, ◌+◌, ◌*◌, ◌≤◌, ◌<◌, Bool, true, false, List, [], ◌∷◌, ◌++◌, ◌≢◌, ◌⊎◌, ◌≡◌, eqb, leb, length, get_or}
use Rattle.model.specs.Types.{Found, Swept, NoProcess, Busy, Permit, Ok, Err, Counts, Finish, Looking, Status, Some, Option, Progress, no_fault, idle_status}
use Rattle.std.specs.Prelude.{if◌then◌else◌}
use Rattle.model.specs.Layout.{limits, node_words, version_words}
use Rattle.model.specs.Numbers.{number_of, answer_number, no_version}
use Rattle.model.specs.Requests.{Fitting, Operation, put, get, scan, kind_of}
use Rattle.model.specs.Map.{Map, versions_of, held, Reply, get_from, applied, look_in}
use Rattle.model.specs.State.{lawful_key}
use Rattle.model.specs.Calls.{open_due}
use Rattle.model.specs.System.{Opens, refused, opened, System, View, view_of}
use Rattle.model.specs.History.{Action, step, look, Observation, started, stepped, looked, action_of, History, refusal_in, log_of, events_in, tick_after, Invoked, Pending, no_call, has_call, pending_in, Sight, sights_in, starts_in, Completed, completed_in, Query, queries_in, due_after, Run, perform_all, begin}

-- ---- lists

abbrev pub All : {A : Type 0} → (A → Type 0) → List A → Type 0
All P [] = Unit {0}
All P (x ∷ xs) = P x × All P xs

abbrev pub Any : {A : Type 0} → (A → Type 0) → List A → Type 0
Any P [] = ⊥
Any P (x ∷ xs) = P x ⊎ Any P xs

-- each entry, beside those before it
abbrev pub Along : (List Observation → Observation → Type 0) → List Observation → Type 0
Along P [] = Unit {0}
Along P (e ∷ es) = P es e × Along P es

-- ---- the calls that took effect, and the map that they make

pub record Effected : Type 0 where
  pub process : ℕ
  pub invoked : Invoked
  pub tick : ℕ

abbrev pub takes_effect : Operation → Bool
takes_effect (put k v t draw) = true
takes_effect (get k) = true
-- P1: "only finished puts and gets must have taken effect"
takes_effect (scan first last) = false

-- Whether a finished call must have taken effect: by what was started and what ended it, whatever was answered. A step ends
-- every call, today.
abbrev pub must_take_effect : Completed → Bool
must_take_effect c = takes_effect c.invoked.operation

-- of the finished calls, "at the ticks it reports"
unfoldable pub completed_effects : List Completed → List Effected
completed_effects [] = []
completed_effects (c ∷ cs) =
    if must_take_effect c
    then record { process = c.process; invoked = c.invoked; tick = c.told.effect } ∷ completed_effects cs
    else completed_effects cs

-- "Running are the calls that standing shows when the list is done; one has taken effect if its effect tick there is
-- above 0"
unfoldable pub shown_effect : Status → (process : ℕ) → Pending → List Effected
shown_effect (Err r) i c = []
shown_effect (Ok Option.None) i c = []
shown_effect (Ok (Some r)) i no_call = []
shown_effect (Ok (Some r)) i (has_call c) =
    if eqb r.effect 0 then [] else record { process = i; invoked = c; tick = r.effect } ∷ []

unfoldable pub running_effects : (status : ℕ → Status) → (ℕ → Pending) → (processes : ℕ) → List Effected
running_effects s f zero = []
running_effects s f (suc n) = shown_effect (s n) n (f n) ++ running_effects s f n

-- "The calls that took effect, finished or running"
unfoldable pub effects_of : (status : ℕ → Status) → History → List Effected
effects_of s h = completed_effects (completed_in h.entries) ++ running_effects s (pending_in h.entries) h.processes

-- the map after the call, if any, whose effect tick is t
unfoldable pub fed_at : List Effected → (tick : ℕ) → (K W : ℕ) → Map → Map
fed_at [] t K W b = b
fed_at (e ∷ es) t K W b = if eqb e.tick t then (applied K W b e.invoked.operation).map else fed_at es t K W b

-- "The ledger opens without lists, with the opening's K and V. It is fed the kind and arguments of each call that took
-- effect, in rising order of their effect ticks, and nothing else.": the map after the effects of events 1 to t
unfoldable pub map_after : List Effected → (tick : ℕ) → (K W : ℕ) → Map
map_after es zero K W = []
map_after es (suc t) K W = fed_at es (suc t) K W (map_after es t K W)

-- the map that the event of tick t meets
abbrev pub map_before : List Effected → (tick : ℕ) → (K W : ℕ) → Map
map_before es zero K W = []
map_before es (suc t) K W = map_after es t K W

-- no two calls took effect at one tick
abbrev pub Distinct : List Effected → Type 0
Distinct [] = Unit {0}
Distinct (e ∷ es) = All (λ (f : Effected). f.tick ≢ e.tick) es × Distinct es

-- the event of this tick is a step of this process
abbrev pub StepAt : List Action → (tick process : ℕ) → Type 0
StepAt log zero i = ⊥
StepAt log (suc t) i = get_or log t (look 0 0) ≡ step i

-- ---- P1: what a call shows

-- "Each reading shown was newest at its tick", and its tray lies in the span
pub record Sighted (K W : ℕ) (es : List Effected) (first last : ℕ) (s : Sight) : Type 0 where
  pub above : first ≤ s.item.key
  pub below : s.item.key ≤ last
  pub newest : get_from (map_after es s.tick K W) s.item.key ≡ record { answer = Found; version = s.item.version }

-- "trays rise": the newest sight, which stands first, has a greater key than every older one. So none is shown twice.
abbrev pub Rising : List Sight → Type 0
Rising [] = Unit {0}
Rising (s ∷ ss) = All (λ (t : Sight). t.item.key < s.item.key) ss × Rising ss

-- what a call may have shown so far: no call but a scan shows anything
abbrev pub Shows : (K W : ℕ) → List Effected → Operation → List Sight → Type 0
Shows K W es (put k v t draw) ss = ss ≡ []
Shows K W es (get k) ss = ss ≡ []
Shows K W es (scan first last) ss = All (Sighted K W es first last) ss × Rising ss

-- ---- a finished call

-- what it reports, but for its effect
pub record Reported (c : Completed) : Type 0 where
  -- "A call's kind and start tick are those of its accepted start"
  pub kind : c.told.kind ≡ kind_of c.invoked.operation
  pub start : c.told.start ≡ c.invoked.start
  -- "its finish tick is that of the event that ended it"
  pub finish : c.told.finish ≡ c.ended

-- an answer with its value and timestamp
abbrev pub reply_told : Finish → Reply
reply_told f = record { answer = f.answer; version = record { value = f.value; timestamp = f.timestamp } }

pub record TookEffect (K W : ℕ) (log : List Action) (es : List Effected) (c : Completed) : Type 0 where
  -- "each finished call took effect at a step of its own,"
  pub own_step : StepAt log c.told.effect c.process
  -- "after its start"
  pub after_start : c.invoked.start < c.told.effect
  -- "and no later than its finish, at the ticks it reports."
  pub in_time : c.told.effect ≤ c.told.finish
  -- "for each finished one it gives exactly the answer, value and stamp that the store gave."
  pub answer : (applied K W (map_before es c.told.effect K W) c.invoked.operation).reply ≡ reply_told c.told

-- a finished scan
pub record ScanEnded (K W : ℕ) (es : List Effected) (first last : ℕ) (c : Completed) : Type 0 where
  -- P1: "finishes, with answer 'swept', value 0 and stamp 0. The sweep's effect tick is 0"
  pub answer : reply_told c.told ≡ record { answer = Swept; version = no_version }
  pub effect : c.told.effect ≡ 0
  -- "when it finishes, every tray of the span held at its start was shown exactly once": at most once by `Rising`, as are later ones
  pub whole : (k : ℕ) → first ≤ k → k ≤ last → versions_of (map_after es c.invoked.start K W) k ≢ []
      → Any (λ (s : Sight). s.item.key ≡ k) c.shown

-- what ends a call that takes no effect
abbrev pub EndsWithout : (K W : ℕ) → List Effected → Completed → Operation → Type 0
EndsWithout K W es c (put k v t draw) = Unit {0}
EndsWithout K W es c (get k) = Unit {0}
EndsWithout K W es c (scan first last) = ScanEnded K W es first last c

pub record Settled (K W : ℕ) (log : List Action) (es : List Effected) (c : Completed) : Type 0 where
  pub reported : Reported c
  pub took_effect : must_take_effect c ≡ true → TookEffect K W log es c
  pub showed : Shows K W es c.invoked.operation c.shown
  pub ended : EndsWithout K W es c c.invoked.operation

-- ---- a running call, a look, a count, a refusal

-- status shows the call that was started, "and that too is the tick of a step of its station after its start"; P1: "The sweep's effect
-- tick is 0"
abbrev pub StandsFor : List Action → (process : ℕ) → Pending → Status → Type 0
StandsFor log i c (Err r) = ⊥
StandsFor log i no_call (Ok Option.None) = Unit {0}
StandsFor log i (has_call c) (Ok Option.None) = ⊥
StandsFor log i no_call (Ok (Some r)) = ⊥
StandsFor log i (has_call c) (Ok (Some r)) =
    (r.kind ≡ kind_of c.operation) × (r.start ≡ c.start) × (takes_effect c.operation ≡ false → r.effect ≡ 0)
    × (r.effect ≢ 0 → StepAt log r.effect i × (c.start < r.effect))

-- what a running call has shown so far
abbrev pub HasShown : (K W : ℕ) → List Effected → Pending → List Sight → Type 0
HasShown K W es no_call ss = Unit {0}
HasShown K W es (has_call c) ss = Shows K W es c.operation ss

-- what a lawful key shows; refusal 6 is said in `AsDue`
abbrev pub AnswersFrom : Map → Query → Type 0
AnswersFrom b q = lawful_key q.key ≡ true → q.outcome ≡ look_in b q.key q.back

-- the finished calls whose answer is counted at this place of the tally
unfoldable pub counted_at : (place : ℕ) → List Completed → ℕ
counted_at n [] = 0
counted_at n (c ∷ cs) = (if eqb (answer_number c.told.answer) n then 1 else 0) + counted_at n cs

abbrev pub running_as : Status → ℕ
running_as (Err r) = 0
running_as (Ok Option.None) = 0
running_as (Ok (Some r)) = 1

-- the processes below n that have a call
unfoldable pub running_below : (status : ℕ → Status) → ℕ → ℕ
running_below s zero = 0
running_below s (suc n) = running_as (s n) + running_below s n

-- "Damage is refusal 10 or 11."
abbrev pub NoDamage : Permit → Type 0
NoDamage (Ok _) = Unit {0}
NoDamage (Err r) = (number_of r ≢ 10) × (number_of r ≢ 11)

-- a look that is granted is the map's to answer
abbrev pub LookAsDue : Permit → Looking → Type 0
LookAsDue (Ok _) o = Unit {0}
LookAsDue (Err r) o = o ≡ Err r

-- "Each is given if its condition is the first met in the order below, and never otherwise."
abbrev pub AsDue : Permit → Observation → Type 0
AsDue d (started i op o) = refusal_in (started i op o) ≡ d
AsDue d (stepped i o) = refusal_in (stepped i o) ≡ d
AsDue d (looked k back o) = LookAsDue d o

-- an event is told its tick
abbrev pub TickTold : (tick : ℕ) → Observation → Type 0
TickTold tick (started i op (Err r)) = Unit {0}
TickTold tick (started i op (Ok t)) = t ≡ tick
TickTold tick (stepped i (Err r)) = Unit {0}
TickTold tick (stepped i (Ok (Progress.Moved t))) = t ≡ tick
TickTold tick (stepped i (Ok (Progress.Waited t))) = t ≡ tick
TickTold tick (stepped i (Ok (Progress.Shown t x))) = t ≡ tick
TickTold tick (stepped i (Ok (Progress.Finished f))) = f.finish ≡ tick
TickTold tick (looked k back o) = Unit {0}

abbrev pub counts_of : Map → Counts
counts_of b = record { nodes = length b; versions = held b }

-- ---- the claim

-- what demand 3 asks after a list
pub record Demanded (K W : ℕ) (v : View) (h : History) : Type 0 where
  -- "each finished call took effect at a step of its own, after its start and no later than its finish, at the ticks it
  -- reports.": see Reported and TookEffect
  pub completed : All (Settled K W (log_of h.entries) (effects_of v.status h)) (completed_in h.entries)
  -- "The calls that took effect, finished or running, are played one after another in that order on the plain ledger of
  -- document 01": by `map_after`; status shows those that run, and no two have one tick
  pub running : (i : ℕ) → i < h.processes → StandsFor (log_of h.entries) i (pending_in h.entries i) (v.status i)
  pub distinct : Distinct (effects_of v.status h)
  -- P1: "Each reading shown was newest at its tick; trays rise": of the finished scans in `Settled`, of the running ones here
  pub shown : (i : ℕ) → i < h.processes
      → HasShown K W (effects_of v.status h) (pending_in h.entries i) (sights_in h.entries i)
  -- "Each look answers from that ledger as it then stood."
  pub looks : All (λ (q : Query). AnswersFrom (map_after (effects_of v.status h) q.tick K W) q) (queries_in h.entries)
  -- "Each tally count is the number of finished calls with its answer."
  pub tally : (n : ℕ) → n < limits.tally → get_or v.tally n 0 ≡ counted_at n (completed_in h.entries)
  -- "Accepted starts = finished calls + running calls."
  pub starts : starts_in h.entries ≡ length (completed_in h.entries) + running_below v.status h.processes
  -- "No damage is reported."
  pub no_damage : All (λ (e : Observation). NoDamage (refusal_in e)) h.entries
  -- "at the ticks it reports."; document 01: "Invented ticks or tallies break 3: ticks count events of the list"
  pub ticks : Along (λ es e. TickTold (tick_after es) e) h.entries

-- what we promise beyond it; the quotations are document 01's
pub record Beyond (K W : ℕ) (v : View) (h : History) : Type 0 where
  -- "Every accepted start and every step not refused is one event; its tick is the count of events so far, itself
  -- included."
  pub events : v.events ≡ events_in h.entries
  -- "the count of events in the state never passes it"
  pub limit : events_in h.entries ≤ h.limit
  -- the counts of nodes and versions in use are the map's
  pub counts : v.counts ≡ counts_of (map_after (effects_of v.status h) (events_in h.entries) K W)
  -- refusals 5 to 9 and 17 are given just when they are due
  pub refusals : Along (λ es e. AsDue (due_after h.processes h.limit es (action_of e)) e) h.entries
  -- "There are seven counts"
  pub tally_words : length v.tally ≡ limits.tally
  -- "Standing: 10, 5": of these only 5, and just where it is due
  pub no_such_process : (i : ℕ) → h.processes ≤ i → v.status i ≡ Err NoProcess
  -- "7 busy (also inspection while any station below the count has a call)"
  pub busy_inspected : (i : ℕ) → i < h.processes → v.status i ≢ idle_status → v.inspected ≡ Err Busy
  -- "An idle store after any list of demand 3 is sound."
  pub idle_sound : ((i : ℕ) → i < h.processes → v.status i ≡ idle_status) → v.inspected ≡ no_fault

pub record Claim (K W : ℕ) (v : View) (h : History) : Type 0 where
  pub demanded : Demanded K W v h
  pub beyond : Beyond K W v h

-- ---- the theorem

-- an opening is refused as due, and else accepted
abbrev pub OpensAs : {C : Type 0} → Permit → Opens C → Type 0
OpensAs (Ok _) (opened w) = Unit {0}
OpensAs (Ok _) (refused r) = ⊥
OpensAs (Err d) (opened w) = ⊥
OpensAs (Err d) (refused r) = r ≡ d

abbrev pub effects_in : {S : System} → Run S → List Effected
effects_in {S} r = effects_of (S.status r.store) r.history

unfoldable pub up_to : (tick : ℕ) → List Effected → List Effected
up_to t [] = []
up_to t (e ∷ es) = if leb e.tick t then e ∷ up_to t es else up_to t es

abbrev pub Among : List Effected → List Effected → Type 0
Among es fs = All (λ (e : Effected). Any (λ (f : Effected). f ≡ e) fs) es

-- what took effect stays so, at its tick, and nothing joins it later
pub record EffectsStay {S : System} (now later : Run S) : Type 0 where
  pub kept : Among (effects_in now) (effects_in later)
  pub none_later : Among (up_to (events_in now.history.entries) (effects_in later)) (effects_in now)

-- "This holds for every list of starts and steps as 2 fixes them, and of looks, refused ones included, from a fresh store and
-- a tally of zeroes. Each of these gets state, tables and tally as the one before left them, and nobody else writes them."
pub record Linearizable (S : System) : Type 0 where
  -- whatever an opening may lawfully ask for can be asked of it
  pub asks : (f : Fitting) → open_due f ≡ (Ok tt) → (s : S.Setup) × (S.fitting s ≡ f)
  -- "Each is given if its condition is the first met in the order below, and never otherwise."
  pub opens : (s : S.Setup) → OpensAs (open_due (S.fitting s)) (S.fresh s)
  -- tables of whole nodes and versions, of which node 0 and version 0 hold none
  pub claim : (s : S.Setup) (w : S.Carrier) → S.fresh s ≡ opened w
      → (K W : ℕ) → (S.fitting s).nodes ≡ node_words * suc K → (S.fitting s).versions ≡ version_words * suc W
      → (actions : List Action)
      → let r = perform_all (begin S s w) actions in
      Claim K W (view_of S r.store) r.history
  pub effects_stay : (s : S.Setup) (w : S.Carrier) → S.fresh s ≡ opened w
      → (actions more : List Action)
      → EffectsStay (perform_all (begin S s w) actions) (perform_all (begin S s w) (actions ++ more))
