-- Steps of one call on process and memory are steps of the store: in a store of demand 3 none is refused, and each changes only
-- that process, memory and the count of events.
use Prim.Native.Nat.{ℕ, zero, suc, ◌+◌, ◌≤◌, ◌<◌}
use mathlib.Core.Bool.{Bool, true, false, not, ◌&&◌}
use mathlib.Core.List.{[], ◌∷◌}
use mathlib.Core.Logic.{◌≢◌}
use mathlib.Core.Path.{◌≡◌, refl, sym, ap, ◌∙◌, subst}
use native.Mathlib.Nat.{add-zero, add_assoc}
use native.Mathlib.Numerals.{add-one}
use native.Mathlib.Omega.{arith}
use lib.Dec.{T, eqb, leb, leb→le}
use lib.ListN.{length, set}
use lib.Seq.{get_or-set_same, set-get_or, set-set}
use Rattle.model.specs.Layout.{Memory, limits}
use Rattle.model.specs.State.{no_process}
use Rattle.model.specs.Phases.{Moved, moved, lawful_at, lawful_process, transition_of}
use Rattle.model.specs.Calls.{Store, Stepped, step_permit, process_after, outcome_of, tally_after, step_by, step_of}
use Rattle.model.specs.Roles.{is_idle, role_of}
use Rattle.model.proofs.Seen.{Seen, saw_step}
use Rattle.model.proofs.Tests.{is_true, if_no, eq→eqb}
use Rattle.linearizability.proofs.Live.{memory, slot, Live, core_lawful}
use Rattle.linearizability.proofs.Stepped.{step_live}
use Rattle.figure.specs.Types.{Kind, Idle, Put, Get, Scan, Role, Searching, Reading, Writing, Releasing, Following, Answer, Process, Version, Move, Refuse, Wait, Go, Note, Commit, Show, End, Ok, Progress}
use Rattle.figure.specs.Alone.{Ran, ran, moves, rested}
use Rattle.figure.proofs.Runs.{Going, Place, at_place, stepped, place_after, Goes}

-- ---- an accepted step

-- a process without a call makes no move
idle_refuses : (holder tick : ℕ) (pr : Process) (m : Memory) → pr.call.kind ≡ Idle → transition_of holder tick pr m ≡ moved m Refuse
unfolding transition_of lawful_process lawful_at
idle_refuses holder tick pr m e = if_no (lawful_process pr m) _ _ (unlawful e)
  where
    and_no : (a b : Bool) → T (not b) → T (not (a && b))
    and_no true b t = t
    and_no false b t = tt

    idle_not : (role : Role) → T (not (lawful_at pr.call.kind role pr.effect))
    idle_not Searching = rw e tt
    idle_not Reading = rw e tt
    idle_not Writing = rw e tt
    idle_not Releasing = rw e tt
    idle_not Following = rw e tt

    unlawful : pr.call.kind ≡ Idle → T (not (lawful_process pr m))
    unlawful e = and_no (leb pr.cursor.level 5 && leb pr.cursor.pred m.counts.nodes)
        (lawful_at pr.call.kind (role_of pr.cursor.phase) pr.effect) (idle_not (role_of pr.cursor.phase))

no_idle : (kind : Kind) → kind ≢ Idle → is_idle kind ≡ false
no_idle Idle ne = absurd (ne refl)
no_idle Put ne = refl
no_idle Get ne = refl
no_idle Scan ne = refl

pub not_le : (a b : ℕ) → b < a → leb a b ≡ false
not_le a b lt = go (leb a b) refl
  where
    go : (x : Bool) → leb a b ≡ x → leb a b ≡ false
    go true e = absurd (omega (arith, leb→le a b (Rattle.model.proofs.Tests.T_true e)))
    go false e = e

-- the store n events later, with this process and memory
abbrev pub later : Store → (i n : ℕ) → Place → Store
later w i n x = record {
  state = record {
    opened = w.state.opened;
    processes = w.state.processes;
    limit = w.state.limit;
    events = w.state.events + n;
    lengths = w.state.lengths;
    counts = x.memory.counts;
    process = set w.state.process i x.process;
  };
  nodes = x.memory.nodes;
  versions = x.memory.versions;
  tally = w.tally;
}

-- where process i stands
abbrev pub place_in : Store → ℕ → Place
place_in w i = at_place (slot w i) (memory w)

module _ {K W : ℕ} {w : Store} {h : Seen} (l : Live K W w h) (i : ℕ) (below : i < w.state.processes)
    (time : w.state.events < w.state.limit) where
  abbrev tick : ℕ
  tick = w.state.events + 1

  granted : (slot w i).call.kind ≢ Idle → step_permit w i ≡ (Ok tt)
  unfolding step_permit
  granted busy = rw (
    core_lawful l.core,
    is_true (eqb (length w.tally) limits.tally) (eq→eqb (length w.tally) limits.tally l.core.tally),
    not_le w.state.processes i below,
    no_idle (slot w i).call.kind busy,
    not_le w.state.limit w.state.events time,
  )

  -- a step that makes a move is not refused
  pub step_is : (v : Move) (m : Memory) → stepped i tick (place_in w i) ≡ moved m v → v ≢ Refuse
      → step_of w i ≡ step_by (Ok tt) w i (moved m v)
  unfolding step_of
  step_is v m e moves = rw (granted busy, e)
    where
      busy : (slot w i).call.kind ≢ Idle
      busy idle = moves (ap (λ (r : Moved). r.move) (sym e ∙ idle_refuses (i + 1) tick (slot w i) (memory w) idle))

  goes_by : (v : Move) (m : Memory) → Going v
      → step_by (Ok tt) w i (moved m v)
      ≡ record { outcome = Ok (Progress.Moved tick); store = later w i 1 (at_place (process_after tick (slot w i) v) m) }
  unfolding step_by outcome_of tally_after
  goes_by Refuse m g = absurd g
  goes_by Wait m g = absurd g
  goes_by (Go c) m g = refl
  goes_by (Note c) m g = refl
  goes_by (Commit c a) m g = refl
  goes_by (Show c x) m g = absurd g
  goes_by (End a v e) m g = absurd g

  going_moves : (v : Move) → Going v → v ≢ Refuse
  going_moves v g e = subst Going e g

  step_goes : (v : Move) (m : Memory) → stepped i tick (place_in w i) ≡ moved m v → Going v
      → step_of w i ≡ record { outcome = Ok (Progress.Moved tick); store = later w i 1 (at_place (process_after tick (slot w i) v) m) }
  step_goes v m e g = step_is v m e (going_moves v g) ∙ goes_by v m g

  pub step_ends : (m : Memory) (a : Answer) (v : Version) (e : ℕ) → stepped i tick (place_in w i) ≡ moved m (End a v e)
      → step_of w i ≡ record {
        outcome = Ok (Progress.Finished (record {
          kind = (slot w i).call.kind;
          answer = a;
          value = v.value;
          timestamp = v.timestamp;
          start = (slot w i).call.start;
          effect = e;
          finish = tick;
        }));
        store = rested w i 1 m a;
      }
  unfolding step_by outcome_of process_after tally_after
  step_ends m a v e q = step_is (End a v e) m q (λ z. let n : ◌≡◌ {A = ℕ} 0 1 = cc in omega arith)

-- ---- many steps

-- a step, then n more
abbrev pub then : (i n : ℕ) → Stepped → Ran
then i n o = record { outcomes = o.outcome ∷ (ran o.store i n).outcomes; store = (ran o.store i n).store }

later_on : (w : Store) (i a b : ℕ) (x y : Place) → later (later w i a x) i b y ≡ later w i (a + b) y
later_on w i a b x y = rw (set-set w.state.process i x.process y.process, add_assoc w.state.events a b)

later_none : (w : Store) (i : ℕ) → later w i 0 (place_in w i) ≡ w
later_none w i = rw (set-get_or w.state.process i no_process, add-zero w.state.events)

-- there process i stands where it was put
pub placed : {K W : ℕ} {w : Store} {h : Seen} → Live K W w h → (i : ℕ) → i < w.state.processes → (n : ℕ) (y : Place)
    → place_in (later w i n y) i ≡ y
placed {w = w} l i below n y = ap (λ (p : Process). at_place p y.memory)
    (get_or-set_same w.state.process i y.process no_process (omega (arith, l.core.array, l.core.processes)))

-- the store after n steps, and that it is one of demand 3
pub record Turns (K W : ℕ) (w : Store) (i n : ℕ) (y : Place) : Type 0 where
  pub turns : ran w i n ≡ record { outcomes = moves (w.state.events + 1) n; store = later w i n y }
  pub history : Seen
  pub live : Live K W (later w i n y) history

pub lift : {K W : ℕ} (i n : ℕ) {w : Store} {h : Seen} → Live K W w h → i < w.state.processes
    → w.state.events + n ≤ w.state.limit → (y : Place) → Goes i (w.state.events + 1) n (place_in w i) y → Turns K W w i n y
unfolding ran moves
lift {K} {W} i zero {w} {h} l below time y go = subst (λ z. Turns K W w i 0 z) go (record {
  turns = ap (λ (z : Store). record { outcomes = []; store = z }) (sym (later_none w i));
  history = h;
  live = rw later_none l;
})
lift {K} {W} i (suc n) {w} {h} l below time y go =
    let t = w.state.events + 1 in
    let x = place_after i t (place_in w i) in
    let v = (stepped i t (place_in w i)).move in
    let w₁ = later w i 1 x in
    let s : step_of w i ≡ record { outcome = Ok (Progress.Moved t); store = w₁ } =
    step_goes l i below (omega arith) v x.memory refl go.0 in
    let l₁ : Live K W w₁ (saw_step h i (Ok (Progress.Moved t))) =
    subst (λ (o : Stepped). Live K W o.store (saw_step h i o.outcome)) s (step_live l i) in
    let here : place_in w₁ i ≡ x = placed l i below 1 x in
    let rest = lift i n l₁ below (omega arith) y (rw (add-one t, here) go.1) in
    let e : later w₁ i n y ≡ later w i (suc n) y = later_on w i 1 n x y ∙ ap (λ k. later w i k y) (one_more n) in
    record {
      turns = ap (then i n) s
          ∙ ap (λ (r : Ran). record { outcomes = Ok (Progress.Moved t) ∷ r.outcomes; store = r.store }) rest.turns
          ∙ ap (λ (z : Store). record { outcomes = Ok (Progress.Moved t) ∷ moves (t + 1) n; store = z }) e;
      history = rest.history;
      live = subst (λ z. Live K W z rest.history) e rest.live;
    }
  where
    one_more : (k : ℕ) → 1 + k ≡ suc k
    one_more k = omega arith
