-- A put that comes to a lock that is held waits there: each of its steps changes only the event count.
use Prim.Native.Nat.{ℕ, zero, suc, ◌+◌, ◌*◌, ◌≤◌, ◌<◌}
use mathlib.Core.List.{◌∷◌}
use mathlib.Core.Path.{◌≡◌, refl, sym, ap, ◌∙◌, subst}
use native.Mathlib.Nat.{add-zero, add_assoc}
use native.Mathlib.Omega.{arith}
use lib.Seq.{set-get_or}
use Rattle.model.specs.Layout.{Memory}
use Rattle.model.specs.State.{no_process, with_event}
use Rattle.model.specs.Phases.{moved}
use Rattle.model.specs.Calls.{begun, start_permit, call_for, start_of, top_of, Store, Stepped, process_after, outcome_of, tally_after, step_by, step_of}
use Rattle.model.specs.Requests as Requests
use Rattle.model.specs.History as History
use Rattle.model.proofs.Seen.{Seen, saw_step}
use Rattle.model.specs.ByValue.{with_state}
use Rattle.linearizability.proofs.Live.{memory, Live}
use Rattle.linearizability.proofs.Stepped.{step_live}
use Rattle.figure.specs.Types.{Call, State, Wait, Ok, Progress}
use Rattle.figure.specs.Figure.{put}
use Rattle.figure.specs.Steps.{search_steps}
use Rattle.figure.specs.Alone.{left_below, Ran, ran, memory_in, waits, waited, Waits, PutWaits}
use Rattle.figure.proofs.Runs.{Place, at_place, stepped, Waiting}
use Rattle.figure.proofs.Walking.{put_call, asked_put}
use Rattle.figure.proofs.Putting.{put_waits}
use Rattle.figure.proofs.Lifted.{then, later, place_in, step_is, placed, lift}
use Rattle.figure.proofs.Called.{accepted, Lives, reached_lives, acted_lives, here}

wait_step : {K W : ℕ} {w : Store} {h : Seen} → Live K W w h → (i : ℕ) → i < w.state.processes
    → w.state.events < w.state.limit
    → stepped i (w.state.events + 1) (place_in w i) ≡ moved (memory w) Wait
    → step_of w i ≡ record { outcome = Ok (Progress.Waited (w.state.events + 1)); store = waited w 1 }
unfolding step_by outcome_of process_after tally_after
wait_step {w = w} l i below time e =
    step_is l i below time Wait (memory w) e (λ z. let n : ◌≡◌ {A = ℕ} 0 1 = cc in omega arith)
    ∙ rw (set-get_or w.state.process i no_process)

waited_on : (w : Store) (a b : ℕ) → waited (waited w a) b ≡ waited w (a + b)
waited_on w a b = rw (add_assoc w.state.events a b)

stays : {K W : ℕ} (i n : ℕ) {w : Store} {h : Seen} → Live K W w h → i < w.state.processes
    → w.state.events + n ≤ w.state.limit
    → ((tick : ℕ) → stepped i tick (place_in w i) ≡ moved (memory w) Wait)
    → ran w i n ≡ record { outcomes = waits (w.state.events + 1) n; store = waited w n }
unfolding ran waits
stays i zero {w} l below time still = rw (add-zero w.state.events)
stays {K} {W} i (suc n) {w} {h} l below time still =
    let t = w.state.events + 1 in
    let s : step_of w i ≡ record { outcome = Ok (Progress.Waited t); store = waited w 1 } =
    wait_step l i below (omega arith) (still t) in
    let l₁ : Live K W (waited w 1) (saw_step h i (Ok (Progress.Waited t))) =
    subst (λ (o : Stepped). Live K W o.store (saw_step h i o.outcome)) s (step_live l i) in
    ap (then i n) s
    ∙ ap (λ (r : Ran). record { outcomes = Ok (Progress.Waited t) ∷ r.outcomes; store = r.store })
    (stays i n l₁ below (omega arith) still)
    ∙ ap (λ (z : Store). record { outcomes = Ok (Progress.Waited t) ∷ waits (t + 1) n; store = z })
    (waited_on w 1 n ∙ ap (waited w) (one_more n))
  where
    one_more : (k : ℕ) → 1 + k ≡ suc k
    one_more k = omega arith

-- ---- the put

module _ {K W : ℕ} (w : Store) (i : ℕ) (call : Call) {h : Seen}
    (l : Live K W (with_state w (with_event w.state i w.state.counts (begun call))) h) (below : i < w.state.processes)
    (start_is : call.start ≡ w.state.events + 1) where
  abbrev w₁ : Store
  w₁ = with_state w (with_event w.state i w.state.counts (begun call))

  abbrev start : ℕ
  start = w.state.events + 1

  waits_there : (n : ℕ) (left : Memory) → Waiting i start n (at_place (begun call) (memory w)) left → start + n ≤ w.state.limit
      → Waits w₁ i start n left
  waits_there n left there time =
      let y = at_place there.process left in
      let w₂ = later w₁ i n y in
      let T = lift i n l below time y (rw (here w i call l below start_is) there.run.goes) in
      record {
        comes = ap (λ (r : Ran). r.outcomes) T.turns;
        leaves = ap (λ (r : Ran). memory_in r.store) T.turns;
        stays = λ more time. subst (λ (z : Store). ran z i more
            ≡ record { outcomes = waits (start + n + 1) more; store = waited z more })
            (sym (ap (λ (r : Ran). r.store) T.turns))
            (stays i more T.live below time (λ tick. ap (λ (z : Place). stepped i tick z) (placed l i below n y)
            ∙ there.waits tick));
      }

pub put_waits_alone : PutWaits
unfolding start_of call_for put
put_waits_alone w reached bound enough i k v t draw l begun-at le free taken new o time =
    let m = memory_in w in
    let now = w.state.events + 1 in
    let call = put_call k v t draw now in
    let a = accepted w i begun-at call (start_permit w.state w.nodes w.versions i k k) refl o in
    let lives = reached_lives reached in
    let c = lives.live.core in
    let l₁ = subst (λ (s : State). Lives (with_state w s)) a.state_is (acted_lives lives (History.start i (Requests.put k v t draw))) in
    let n = search_steps bound m k + 1 + 5 * l in
    let e = put_waits c.nodes c.book (asked_put k v t draw now a.range) bound enough i now l le free taken new in
    rw (a.state_is, a.start_is)
    (waits_there w i call l₁.live a.below refl n (left_below i bound m k v t (top_of draw) l) e
    (omega (arith, a.start_is)))
