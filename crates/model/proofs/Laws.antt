-- What the definitions say on every state, tables and tally: their numbers, that a refusal changes nothing, that an
-- event is one tick, that a wait is only that, and that a look ends.
use Prim.Native.Nat.{ℕ, zero, suc, ◌+◌, ◌*◌, ◌-◌, ◌/◌, ◌%◌, ◌≤◌, ◌<◌}
use mathlib.Core.Bool.{Bool, true, false, not, ◌&&◌, and-eq-true_iff}
use mathlib.Core.List.{List, [], ◌∷◌, map}
use mathlib.Core.Logic.{◌≢◌, ◌↔◌}
use mathlib.Core.Path.{◌≡◌, refl, sym, ap, ◌∙◌}
use native.Mathlib.Omega.{arith}
use borrow.Author.Rules.{rules}
use borrow.Author.Tests.{leb-true, leb-false, ltb-true, eqb-false, not-false}
use lib.Count.{count_trailing_zeros}
use lib.Dec.{leb, ltb, eqb}
use lib.ListN.{length, get_or, length-set}
use lib.Seq.{set-get_or}
use Rattle.model.specs.Types.{Answer, TooOld, VersionsFull, Added, KeysFull, New, Found, None, Swept, Progress}
use Rattle.model.specs.Types.{Refusal, NodeLength, VersionLength, ProcessCount, EventLimit, NoProcess, BadKey}
use Rattle.model.specs.Types.{Busy, NoCall, Spent, Corrupt, Damaged, NoKey, NoVersion, NotOpen, UnknownCommand, CutShort, BadRange}
use Rattle.model.specs.Types.{Phase, Walk, Read, Seek, Lock, Check, Update, Make, Link, Release, Follow}
use Rattle.model.specs.Types.{Ahead, Unused, Less, Equal, Past, Move, Refuse, Wait, Go, Note, Commit, Show, End}
use Rattle.model.specs.Types.{Permit, Ok, Err, Call, Cursor, Effect, Process, State, Version, Starting, Stepping, Looking}
use Rattle.std.specs.Prelude.{if◌then◌else◌}
use Rattle.model.specs.Layout.{limits, top_level, levels, Memory, newest, prev}
use Rattle.model.specs.Numbers.{number_of, answer_number, is_counted, refusals, refusal_of, answers, answer_of}
use Rattle.model.specs.Requests.{Fitting, Operation, first_of, last_of}
use Rattle.model.specs.State.{closed_state, memory_of, within, lawful_length, lawful_nodes, lawful_versions, lawful_key}
use Rattle.model.proofs.Tests.{leb_iff, eqb_iff, if-by}
use Rattle.model.specs.Phases.{Moved, moved, refuses, used_version, lock_of, check_by, check_of, update_node, update_at}
use Rattle.model.specs.Phases.{update_of, make_of, link_of, rise, released, freed, release_of, phase_of, transition_of}
use Rattle.model.specs.Calls.{deny_if, open_due, open_permit, Opened, open_by, open_of, top_of, start_permit, start_by, start_of}
use Rattle.model.specs.Calls.{Store, step_permit, process_after, outcome_of, counted, tally_after, step_by, step_of}
use Rattle.model.specs.Calls.{back_from, look_node, look_permit, look_by, look_of}

-- ---- numbers

-- the limits of Layout, in its order, are document 01's numbers
pub constants :
    limits.nodewords ∷ limits.versionwords ∷ limits.top ∷ limits.nodes ∷ limits.versions ∷ limits.processes
    ∷ limits.events ∷ limits.key ∷ limits.tally ∷ limits.count ∷ levels ∷ []
    ≡ 16 ∷ 3 ∷ 5 ∷ 1_023 ∷ 4_095 ∷ 8 ∷ 1_000_000_000 ∷ 18_446_744_073_709_551_614 ∷ 7 ∷ 4_294_967_295 ∷ 6 ∷ []
constants = refl

-- the refusals are numbered 1 to 17 in order, the answers from 0; all of these but the last are counted
pub numbers : map number_of refusals ≡ 1 ∷ 2 ∷ 3 ∷ 4 ∷ 5 ∷ 6 ∷ 7 ∷ 8 ∷ 9 ∷ 10 ∷ 11 ∷ 12 ∷ 13 ∷ 14 ∷ 15 ∷ 16 ∷ 17 ∷ []
unfolding number_of
numbers = refl

pub answer_numbers : map answer_number answers ≡ 0 ∷ 1 ∷ 2 ∷ 3 ∷ 4 ∷ 5 ∷ 6 ∷ 7 ∷ []
unfolding answer_number
answer_numbers = refl

pub counted_answers : map is_counted answers ≡ true ∷ true ∷ true ∷ true ∷ true ∷ true ∷ true ∷ false ∷ []
unfolding answer_number
counted_answers = refl

-- no refusal is missing in that order: each is found at its number
pub refusal_at : (r : Refusal) → refusal_of (number_of r) ≡ r
unfolding number_of
refusal_at NodeLength = refl
refusal_at VersionLength = refl
refusal_at ProcessCount = refl
refusal_at EventLimit = refl
refusal_at NoProcess = refl
refusal_at BadKey = refl
refusal_at Busy = refl
refusal_at NoCall = refl
refusal_at Spent = refl
refusal_at Corrupt = refl
refusal_at Damaged = refl
refusal_at NoKey = refl
refusal_at NoVersion = refl
refusal_at NotOpen = refl
refusal_at UnknownCommand = refl
refusal_at CutShort = refl
refusal_at BadRange = refl

-- 0 is none's
pub numbered : (r : Refusal) → number_of r ≢ 0
unfolding number_of
numbered r e = let one : number_of r ≡ 1 = ap number_of (sym (refusal_at r) ∙ ap refusal_of e) in omega (arith, e, one)

-- nor is an answer
pub answer_at : (a : Answer) → answer_of (answer_number a) ≡ a
unfolding answer_number
answer_at TooOld = refl
answer_at VersionsFull = refl
answer_at Added = refl
answer_at KeysFull = refl
answer_at New = refl
answer_at Found = refl
answer_at None = refl
answer_at Swept = refl

pub answer_below : (a : Answer) → answer_number a < length answers
unfolding answer_number
answer_below = search rules

-- a number tells its refusal, and its answer
pub number_injective : (r d : Refusal) → number_of r ≡ number_of d → r ≡ d
number_injective r d e = sym (refusal_at r) ∙ ap refusal_of e ∙ refusal_at d

pub answer_injective : (a b : Answer) → answer_number a ≡ answer_number b → a ≡ b
answer_injective a b e = sym (answer_at a) ∙ ap answer_of e ∙ answer_at b

-- each of the tally's seven words is an answer's
pub place_at : (n : ℕ) → n < limits.tally → answer_number (answer_of n) ≡ n
unfolding answer_number
place_at zero lt = refl
place_at (suc zero) lt = refl
place_at (suc (suc zero)) lt = refl
place_at (suc (suc (suc zero))) lt = refl
place_at (suc (suc (suc (suc zero)))) lt = refl
place_at (suc (suc (suc (suc (suc zero))))) lt = refl
place_at (suc (suc (suc (suc (suc (suc zero)))))) lt = refl
place_at (suc (suc (suc (suc (suc (suc (suc n))))))) lt = absurd (omega arith)

-- a key is lawful from 1 to 2 to the 64th less 2
pub lawful_key_lem : (k : ℕ) → (lawful_key k ≡ true) ↔ ((1 ≤ k) × (k ≤ 18_446_744_073_709_551_614))
lawful_key_lem k = simp (and-eq-true_iff, leb_iff) ((λ h. h), (λ h. h))

-- what holds of both branches holds of the choice
choice : {A : Type 0} (P : A → Type 0) (b : Bool) (x y : A) → (b ≡ true → P x) → (b ≡ false → P y)
    → P (if b then x else y)
choice P true x y f g = f refl
choice P false x y f g = g refl

-- no draw gives a top above 5
pub top_at_most : (draw : ℕ) → top_of draw ≤ top_level
unfolding top_of
top_at_most draw =
    choice (λ (n : ℕ). n ≤ top_level) (ltb (count_trailing_zeros 16 draw) top_level) (count_trailing_zeros 16 draw) top_level
    (λ h. omega (arith, ltb-true)) (λ h. omega arith)

-- ---- opening

-- what is granted has met no refusal
pub granted_iff : (b : Bool) (r : Refusal) (rest : Permit)
    → (deny_if b r rest ≡ (Ok tt)) ↔ ((b ≡ false) × (rest ≡ (Ok tt)))
granted_iff false r rest = (λ e. (refl, e), λ f. f.1)
granted_iff true r rest = (λ e. (cc, cc), λ f. cc f.0)

-- "Node table: a multiple of 16 words, 32 to 16,384, so K = 1 to 1,023 trays. Reading table: a multiple of 3 words, 6 to 12,288,
-- so V = 1 to 4,095 readings. Stations 1 to 8."; "The event limit, 1 to 1,000,000,000"
pub record Fits (f : Fitting) : Type 0 where
  pub nodes : (K : ℕ) × (f.nodes ≡ 16 * suc K) × (1 ≤ K) × (K ≤ 1_023)
  pub versions : (W : ℕ) × (f.versions ≡ 3 * suc W) × (1 ≤ W) × (W ≤ 4_095)
  pub processes : (1 ≤ f.processes) × (f.processes ≤ 8)
  pub limit : (1 ≤ f.limit) × (f.limit ≤ 1_000_000_000)

-- just such an opening is not refused
pub granted_fits : (f : Fitting) → open_due f ≡ (Ok tt) → Fits f
unfolding open_due lawful_length
granted_fits f e =
    let g = simp granted_iff at e in
    let n = simp (and-eq-true_iff, leb_iff, eqb_iff) at (not-false (lawful_nodes f.nodes) g.0) in
    let v = simp (and-eq-true_iff, leb_iff, eqb_iff) at (not-false (lawful_versions f.versions) g.1.0) in
    let p = simp (and-eq-true_iff, leb_iff) at (not-false (within 1 8 f.processes) g.1.1.0) in
    let l = simp (and-eq-true_iff, leb_iff) at (not-false (within 1 1_000_000_000 f.limit) g.1.1.1.0) in
    record {
      nodes = (f.nodes / 16 - 1, omega (arith, n), omega (arith, n), omega (arith, n));
      versions = (f.versions / 3 - 1, omega (arith, v), omega (arith, v), omega (arith, v));
      processes = p;
      limit = l;
    }

pub fits_granted : (f : Fitting) → Fits f → open_due f ≡ (Ok tt)
unfolding open_due lawful_length
fits_granted f h =
    let K = h.nodes in
    let W = h.versions in
    rw (
      (leb_iff 32 f.nodes).1 (omega (arith, K.1, K.2)),
      (leb_iff f.nodes 16_384).1 (omega (arith, K.1, K.3)),
      (eqb_iff (f.nodes % 16) 0).1 (omega (arith, K.1)),
      (leb_iff 6 f.versions).1 (omega (arith, W.1, W.2)),
      (leb_iff f.versions 12_288).1 (omega (arith, W.1, W.3)),
      (eqb_iff (f.versions % 3) 0).1 (omega (arith, W.1)),
      (leb_iff 1 f.processes).1 h.processes.0,
      (leb_iff f.processes 8).1 h.processes.1,
      (leb_iff 1 f.limit).1 h.limit.0,
      (leb_iff f.limit 1_000_000_000).1 h.limit.1,
    )

-- both tables are those lent, and the state is closed
pub record Untouched (nodes versions : List ℕ) (o : Opened) : Type 0 where
  pub same_nodes : o.nodes ≡ nodes
  pub same_versions : o.versions ≡ versions
  pub closed : o.result.state ≡ closed_state

open_refused_by : (p : Permit) (nodes versions : List ℕ) (processes limit : ℕ) (r : Refusal)
    → (open_by p nodes versions processes limit).result.outcome ≡ Err r
    → Untouched nodes versions (open_by p nodes versions processes limit)
unfolding open_by
open_refused_by (Err d) nodes versions processes limit r e =
    record { same_nodes = refl; same_versions = refl; closed = refl }
open_refused_by (Ok _) nodes versions processes limit r e = record { same_nodes = cc; same_versions = cc; closed = cc }

-- a refused opening changes no lent word and gives a closed state
pub open_refused : (nodes versions : List ℕ) (processes limit : ℕ) (r : Refusal)
    → (open_of nodes versions processes limit).result.outcome ≡ Err r
    → Untouched nodes versions (open_of nodes versions processes limit)
unfolding open_of
open_refused nodes versions processes limit =
    open_refused_by (open_permit nodes versions processes limit) nodes versions processes limit

-- an opening within the limits is accepted, whatever the tables hold
pub open_accepted : (nodes versions : List ℕ) (processes limit : ℕ) → lawful_nodes (length nodes) ≡ true
    → lawful_versions (length versions) ≡ true → within 1 limits.processes processes ≡ true
    → within 1 limits.events limit ≡ true → (open_of nodes versions processes limit).result.outcome ≡ (Ok tt)
unfolding open_of open_due open_by
open_accepted nodes versions processes limit a b c d = rw (a, b, c, d)

-- ---- starts

-- "Every accepted start and every step not refused is one event; its tick is the count of events so far, itself
-- included. The event limit [..] is given at opening, and the count of events in the state never passes it."
pub record Event (before after : State) (tick : ℕ) : Type 0 where
  pub counts : after.events ≡ before.events + 1
  pub ticks : tick ≡ after.events
  pub same_limit : after.limit ≡ before.limit
  pub within_limit : after.events ≤ after.limit

-- a start is refused and returns the state that it was given, or it is an event
abbrev pub Starts : (before after : State) → Starting → Type 0
Starts before after (Err r) = after ≡ before
Starts before after (Ok t) = Event before after t

module _ (s : State) (nodes versions : List ℕ) (i : ℕ) where
  may_start : (first last : ℕ) → start_permit s nodes versions i first last ≡ (Ok tt) → s.events < s.limit
  unfolding start_permit
  may_start first last e = let f = simp granted_iff at e in leb-false _ _ f.1.1.1.1.1.0

  starts_by : (p : Permit) → (p ≡ (Ok tt) → s.events < s.limit) → (call : Call)
      → let o = start_by p s i call in Starts s o.state o.outcome
  unfolding start_by
  starts_by (Err r) h call = refl
  starts_by (Ok _) h call = omega (arith, h refl)

  pub starts : (op : Operation) → let o = start_of s nodes versions i op in Starts s o.state o.outcome
  unfolding start_of
  starts op = starts_by (start_permit s nodes versions i (first_of op) (last_of op)) (may_start (first_of op) (last_of op)) _

  -- whenever a start is refused, its state is the one given
  pub start_refused : (op : Operation) (r : Refusal)
      → (start_of s nodes versions i op).outcome ≡ Err r → (start_of s nodes versions i op).state ≡ s
  start_refused op r e = rw e at (starts op)

-- ---- moves

pub refused_is : (v : Move) → refuses v ≡ true → v ≡ Refuse
refused_is Refuse e = refl
refused_is Wait e = cc
refused_is (Go c) e = cc
refused_is (Note c) e = cc
refused_is (Commit c a) e = cc
refused_is (Show c x) e = cc
refused_is (End a r t) e = cc

pub length_tally : (t : List ℕ) (v : Move) → length (tally_after t v) ≡ length t
unfolding tally_after counted
length_tally t Refuse = refl
length_tally t Wait = refl
length_tally t (Go c) = refl
length_tally t (Note c) = refl
length_tally t (Commit c a) = refl
length_tally t (Show c x) = refl
length_tally t (End a v e) = if-by (λ (u : List ℕ). length u ≡ length t) (is_counted a && ltb (get_or t (answer_number a) 0) limits.count)
    (λ h. length-set t (answer_number a) _) (λ h. refl)

-- ---- one turn: of its moves, refuse and wait change no memory

pub record Keeps (m : Memory) (v : Moved) : Type 0 where
  pub refused : v.move ≡ Refuse → v.memory ≡ m
  pub waits : v.move ≡ Wait → v.memory ≡ m

-- a move that leaves the memory, and the moves that are neither
kept : (m : Memory) (v : Move) → Keeps m (moved m v)
kept m v = record { refused = λ e. refl; waits = λ e. refl }

goes : (m after : Memory) (c : Cursor) → Keeps m (moved after (Go c))
goes m after c = record { refused = λ e. cc; waits = λ e. cc }

commits : (m after : Memory) (c : Cursor) (a : Answer) → Keeps m (moved after (Commit c a))
commits m after c a = record { refused = λ e. cc; waits = λ e. cc }

ends : (m after : Memory) (a : Answer) (v : Version) (t : ℕ) → Keeps m (moved after (End a v t))
ends m after a v t = record { refused = λ e. cc; waits = λ e. cc }

keeps_if : {m : Memory} {x y : Moved} (b : Bool) → Keeps m x → Keeps m y → Keeps m (if b then x else y)
keeps_if true f g = f
keeps_if false f g = g

freed_if : {m : Memory} (c : Cursor) (b : Bool) (x y : Move) → Keeps m (freed c m x) → Keeps m (freed c m y)
    → Keeps m (freed c m (if b then x else y))
freed_if c true x y f g = f
freed_if c false x y f g = g

ruleset keeping = (kept, goes, commits, ends, keeps_if, freed_if)

keeps_lock : (c : Cursor) (holder : ℕ) (m : Memory) → Keeps m (lock_of c holder m)
unfolding lock_of
keeps_lock c holder m = search keeping

keeps_check : (c : Cursor) (m : Memory) (a : Ahead) → Keeps m (check_by c m a)
unfolding check_by
keeps_check c m Unused = search keeping
keeps_check c m (Less y) = search keeping
keeps_check c m (Equal y) = search keeping
keeps_check c m Past = search keeping

keeps_update : (call : Call) (c : Cursor) (x : ℕ) (m : Memory) → Keeps m (update_at call c x m)
unfolding update_at update_node
keeps_update call c x m = search keeping

keeps_make : (call : Call) (c : Cursor) (m : Memory) → Keeps m (make_of call c m)
unfolding make_of
keeps_make call c m = search keeping

keeps_link : (c : Cursor) (m : Memory) → Keeps m (link_of c m)
unfolding link_of
keeps_link c m = search keeping

keeps_release : (call : Call) (c : Cursor) (e : Effect) (preds : List ℕ) (m : Memory)
    → Keeps m (release_of call c e preds m)
unfolding release_of released rise freed
keeps_release call c e preds m = search keeping

keeps_phase : (phase : Phase) (holder tick : ℕ) (p : Process) (m : Memory) → Keeps m (phase_of phase holder tick p m)
unfolding phase_of check_of update_of
keeps_phase Walk holder tick p m = kept m _
keeps_phase Read holder tick p m = kept m _
keeps_phase Seek holder tick p m = kept m _
keeps_phase Lock holder tick p m = keeps_lock _ _ _
keeps_phase Check holder tick p m = keeps_check _ _ _
keeps_phase Update holder tick p m = keeps_update _ _ _ _
keeps_phase Make holder tick p m = keeps_make _ _ _
keeps_phase Link holder tick p m = keeps_link _ _
keeps_phase Release holder tick p m = keeps_release _ _ _ _ _
keeps_phase Follow holder tick p m = kept m _

-- damage found, or a lock held: the memory is the one given
pub transition_keeps : (holder tick : ℕ) (p : Process) (m : Memory) → Keeps m (transition_of holder tick p m)
unfolding transition_of
transition_keeps holder tick p m = search (keeping, keeps_phase)

-- ---- steps

-- a step is refused and returns the state and all that was lent, or it is an event
abbrev pub Steps : (before after : Store) → Stepping → Type 0
Steps before after (Err r) = after ≡ before
Steps before after (Ok (Progress.Moved t)) = Event before.state after.state t
Steps before after (Ok (Progress.Waited t)) = Event before.state after.state t
Steps before after (Ok (Progress.Shown t x)) = Event before.state after.state t
Steps before after (Ok (Progress.Finished f)) = Event before.state after.state f.finish

-- one event more, and all else as it was
abbrev pub waited : Store → Store
waited w = let s = w.state in record {
  state = record {
    opened = s.opened;
    processes = s.processes;
    limit = s.limit;
    events = s.events + 1;
    lengths = s.lengths;
    counts = s.counts;
    process = s.process;
  };
  nodes = w.nodes;
  versions = w.versions;
  tally = w.tally;
}

module _ (w : Store) (i : ℕ) where
  may_step : step_permit w i ≡ (Ok tt) → w.state.events < w.state.limit
  unfolding step_permit
  may_step e = let f = simp granted_iff at e in leb-false _ _ f.1.1.1.0

  steps_by : (p : Permit) → (p ≡ (Ok tt) → w.state.events < w.state.limit) → (v : Move) (m : Memory)
      → let o = step_by p w i (moved m v) in Steps w o.store o.outcome
  unfolding step_by outcome_of
  steps_by (Err r) h v m = refl
  steps_by (Ok _) h Refuse m = refl
  steps_by (Ok _) h Wait m = omega (arith, h refl)
  steps_by (Ok _) h (Go c) m = omega (arith, h refl)
  steps_by (Ok _) h (Note c) m = omega (arith, h refl)
  steps_by (Ok _) h (Commit c a) m = omega (arith, h refl)
  steps_by (Ok _) h (Show c x) m = omega (arith, h refl)
  steps_by (Ok _) h (End a v e) m = omega (arith, h refl)

  -- so for every step
  pub steps : let o = step_of w i in Steps w o.store o.outcome
  unfolding step_of
  steps = steps_by (step_permit w i) may_step _ _

  -- whenever a step is refused, its store is the one given
  pub step_refused : (r : Refusal) → (step_of w i).outcome ≡ Err r → (step_of w i).store ≡ w
  step_refused r e = rw e at steps

  waits_by : (p : Permit) (v : Move) (m : Memory) (t : ℕ)
      → (v ≡ Wait → m ≡ memory_of w.state w.nodes w.versions)
      → (step_by p w i (moved m v)).outcome ≡ Ok (Progress.Waited t)
      → (step_by p w i (moved m v)).store ≡ waited w
  unfolding step_by outcome_of process_after tally_after
  waits_by (Err r) v m t h e = cc
  waits_by (Ok _) Refuse m t h e = cc
  waits_by (Ok _) Wait m t h e = rw (h refl) (simp set-get_or)
  waits_by (Ok _) (Go c) m t h e = cc
  waits_by (Ok _) (Note c) m t h e = cc
  waits_by (Ok _) (Commit c a) m t h e = cc
  waits_by (Ok _) (Show c x) m t h e = cc
  waits_by (Ok _) (End a v x) m t h e = cc

  -- "the step answers 'wait' and changes only the event count"
  pub step_waits : (t : ℕ) → (step_of w i).outcome ≡ Ok (Progress.Waited t) → (step_of w i).store ≡ waited w
  unfolding step_of
  step_waits t = waits_by (step_permit w i) _ _ t (transition_keeps _ _ _ _).waits

-- ---- looks

-- an outcome that is shown only where fewer than n versions back were asked
abbrev ShownBelow : (n back : ℕ) → Looking → Type 0
ShownBelow n back o = (v : Version) → o ≡ Ok v → back < n

not_shown : (n back : ℕ) (r : Refusal) → ShownBelow n back (Err r)
not_shown n back r v e = let z : ◌≡◌ {A = ℕ} 0 1 = cc in omega arith

-- each hop back goes to a smaller place
back_falls : (t : List ℕ) (back i : ℕ) → 1 ≤ i → ShownBelow i back (back_from t back i)
unfolding back_from
back_falls t zero i h = λ v e. h
back_falls t (suc back) i h =
    choice (ShownBelow i (suc back)) (leb i (prev t i)) _ _ (λ a. not_shown _ _ _)
    (λ a. choice (ShownBelow i (suc back)) (eqb (prev t i) 0) _ _ (λ b. not_shown _ _ _)
    (λ b v e.
    let low : 1 ≤ prev t i = omega (arith, eqb-false (prev t i) 0 b) in
    omega (arith, leb-false, back_falls t back (prev t i) low v e)))

node_falls : (m : Memory) (back x : ℕ) → ShownBelow m.counts.versions back (look_node m back x)
unfolding look_node
node_falls m back x =
    choice (ShownBelow m.counts.versions back) (eqb x 0) _ _ (λ a. not_shown _ _ _)
    (λ a. choice (ShownBelow m.counts.versions back) (not (used_version m i)) _ _ (λ b. not_shown _ _ _)
    (λ b v e.
    let used = simp and-eq-true_iff at (not-false (used_version m i) b) in
    omega (arith, leb-true, back_falls m.versions back i (leb-true _ _ used.0) v e)))
  where
    i : ℕ
    i = newest m.nodes x

look_falls : (p : Permit) (m : Memory) (k back : ℕ) → ShownBelow m.counts.versions back (look_by p m k back)
unfolding look_by
look_falls (Err r) m k back = not_shown _ _ _
look_falls (Ok _) m k back = node_falls m back _

-- a look shows no version further back than there are versions in use
pub look_shows : (s : State) (nodes versions : List ℕ) (k back : ℕ) (v : Version)
    → look_of s nodes versions k back ≡ Ok v → back < s.counts.versions
unfolding look_of
look_shows s nodes versions k back = look_falls (look_permit s nodes versions k) _ k back
