-- A call of a store of demand 3 that is started, and whose steps end it on process and memory, ends it in the store.
use Prim.Native.Nat.{ℕ, zero, suc, ◌+◌, ◌-◌, ◌≤◌, ◌<◌}
use mathlib.Core.Bool.{◌&&◌, and-eq-true_iff}
use mathlib.Core.List.{[], ◌∷◌, ◌++◌}
use mathlib.Core.Path.{◌≡◌, refl, ap, ◌∙◌, subst}
use native.Mathlib.Omega.{arith}
use borrow.Author.Tests.{leb-true, leb-false, not-false}
use lib.ListN.{length, set, length-set}
use lib.Seq.{get_or-set_same, set-set}
use Rattle.model.specs.Layout.{Memory, limits}
use Rattle.model.specs.State.{idle_process, no_process, with_event, lawful_key}
use Rattle.model.specs.Phases.{moved, transition_of}
use Rattle.model.specs.Calls.{begun, start_permit, start_by, Store, Stepped, step_of}
use Rattle.model.specs.History.{Action, act, perform_all, begin}
use Rattle.model.specs.ByValue.{with_state, by_value}
use Rattle.model.proofs.Laws.{granted_iff}
use Rattle.linearizability.proofs.Live.{memory, slot, Live}
use Rattle.model.proofs.Seen.{Seen, seen}
use Rattle.linearizability.proofs.Linearized.{act_live, performed_live, fresh_live}
use Rattle.figure.specs.Types.{Kind, Answer, Call, Version, End, Permit, Ok, Err, Refusal, StartResult, Progress}
use Rattle.figure.specs.Figure.{MAX}
use Rattle.figure.specs.Alone.{Ran, ran, moves, Reached, rested}
use Rattle.figure.proofs.Runs.{Place, at_place, stepped, Run, Ended, run_call}
use Rattle.figure.proofs.Lifted.{later, place_in, step_ends, placed, Turns, lift}

-- one step more
pub ran_more : (w : Store) (i n : ℕ) → let before = ran w i n in let o = step_of before.store i in
    ran w i (suc n) ≡ record { outcomes = before.outcomes ++ (o.outcome ∷ []); store = o.store }
unfolding ran
ran_more w i zero = refl
ran_more w i (suc n) =
    ap (λ (r : Ran). record { outcomes = (step_of w i).outcome ∷ r.outcomes; store = r.store })
    (ran_more (step_of w i).store i n)

-- ---- an accepted start

-- what an accepted start was given, and the state that it left
pub record Accepted (w : Store) (i : ℕ) (call : Call) (start : ℕ) (begins : StartResult) : Type 0 where
  pub below : i < w.state.processes
  pub range : (1 ≤ call.key) × (call.key < MAX)
  pub start_is : start ≡ w.state.events + 1
  pub state_is : begins.state ≡ with_event w.state i w.state.counts (begun call)

started≢refused : {r : Refusal} {t : ℕ} → Err r ≡ Ok t → ⊥
started≢refused e = let z : ◌≡◌ {A = ℕ} 0 1 = cc in omega arith

pub accepted : (w : Store) (i start : ℕ) (call : Call) (p : Permit)
    → start_permit w.state w.nodes w.versions i call.key call.last ≡ p
    → (start_by p w.state i call).outcome ≡ Ok start → Accepted w i call start (start_by p w.state i call)
unfolding start_by start_permit
accepted w i start call (Err r) e o = absurd (started≢refused o)
accepted w i start call (Ok _) e o =
    let f = simp granted_iff at e in
    let key = simp and-eq-true_iff at (not-false (lawful_key call.key && lawful_key call.last) f.1.1.0) in
    record {
      below = leb-false w.state.processes i f.1.0;
      range = (leb-true 1 call.key key.0.0, omega (arith, leb-true call.key limits.key key.0.1));
      start_is = cc;
      state_is = refl;
    }

-- ---- the call to its end

module _ (w : Store) (i : ℕ) (call : Call) where
  -- the store after its start
  abbrev w₁ : Store
  w₁ = with_state w (with_event w.state i w.state.counts (begun call))

  abbrev start : ℕ
  start = w.state.events + 1

  -- what a call that ends says and leaves
  abbrev Says : (moved : ℕ) → Kind → (begun : ℕ) → Answer → Version → (effect finish : ℕ) → Store → Ran
  Says moved kind begun a v effect finish left = record {
    outcomes = moves (start + 1) moved ++ (Ok (Progress.Finished (record {
      kind = kind;
      answer = a;
      value = v.value;
      timestamp = v.timestamp;
      start = begun;
      effect = effect;
      finish = finish;
    })) ∷ []);
    store = left;
  }

  abbrev pub Finishes : (n : ℕ) → Memory → Answer → Version → (effect : ℕ) → Ran
  Finishes n m a v e = Says (n - 1) call.kind start a v e (start + n) (rested w i (n + 1) m a)

  module _ {K W : ℕ} {h : Seen} (l : Live K W w₁ h) (below : i < w.state.processes) (start_is : call.start ≡ start) where
    inside : i < length w.state.process
    inside = omega (arith, l.core.array, l.core.processes, length-set w.state.process i (begun call))

    pub here : slot w₁ i ≡ begun call
    here = get_or-set_same w.state.process i (begun call) no_process inside

    module _ (m : Memory) (a : Answer) (v : Version) (e before : ℕ) (y : Place)
        (run : Run i (start + 1) before (at_place (begun call) (memory w)) y)
        (ends : transition_of (i + 1) (start + suc before) y.process y.memory ≡ moved m (End a v e))
        (time : start + suc before ≤ w.state.limit) where
      abbrev w₂ : Store
      w₂ = later w₁ i before y

      turns : Turns K W w₁ i before y
      turns = lift i before l below (omega arith) y (rw here run.goes)

      there : place_in w₂ i ≡ y
      there = placed l i below before y

      same_call : (slot w₂ i).call ≡ call
      same_call = ap (λ (x : Place). x.process.call) there ∙ run_call run

      tick_is : w₂.state.events + 1 ≡ start + suc before
      tick_is = omega arith

      ends_there : stepped i (w₂.state.events + 1) (place_in w₂ i) ≡ moved m (End a v e)
      ends_there = ap (λ (z : Place). stepped i (w₂.state.events + 1) z) there ∙ ap (λ t. stepped i t y) tick_is ∙ ends

      left : rested w₂ i 1 m a ≡ rested w i (suc before + 1) m a
      left = rw (
        set-set (set w.state.process i (begun call)) i y.process idle_process,
        set-set w.state.process i (begun call) idle_process,
        sum w.state.events before,
      )
        where
          sum : (x z : ℕ) → x + 1 + z + 1 ≡ x + (suc z + 1)
          sum x z = omega arith

      -- all its steps
      finishes_in : ran w₁ i (suc before) ≡ Finishes (suc before) m a v e
      finishes_in =
          ran_more w₁ i before
          ∙ ap (λ (r : Ran). record {
            outcomes = r.outcomes ++ ((step_of r.store i).outcome ∷ []);
            store = (step_of r.store i).store;
          }) turns.turns
          ∙ ap (λ (o : Stepped). record { outcomes = moves (start + 1) before ++ (o.outcome ∷ []); store = o.store })
          (step_ends turns.live i below (omega arith) m a v e ends_there)
          ∙ ap (λ (c : Call). Says before c.kind c.start a v e (w₂.state.events + 1) (rested w₂ i 1 m a)) same_call
          ∙ ap (λ s. Says before call.kind s a v e (w₂.state.events + 1) (rested w₂ i 1 m a)) start_is
          ∙ ap (λ t. Says before call.kind start a v e t (rested w₂ i 1 m a)) tick_is
          ∙ ap (λ z. Says before call.kind start a v e (start + suc before) z) left
          ∙ ap (λ n. Says n call.kind start a v e (start + suc before) (rested w i (suc before + 1) m a)) (less before)
        where
          less : (n : ℕ) → n ≡ suc n - 1
          less n = omega arith

    pub finishes : (n : ℕ) (m : Memory) (a : Answer) (v : Version) (e : ℕ)
        → Ended i start n (at_place (begun call) (memory w)) m a v e
        → start + n ≤ w.state.limit → ran w₁ i n ≡ Finishes n m a v e
    finishes n m a v e E time =
        let q = E.steps_is in
        subst (λ k. ran w₁ i k ≡ Finishes k m a v e) q
        (finishes_in m a v e E.before E.last E.run (rw q E.ends) (omega (arith, q)))

-- ---- the stores of demand 3

pub record Lives (w : Store) : Type 0 where
  pub K : ℕ
  pub W : ℕ
  pub history : Seen
  pub live : Live K W w history

pub reached_lives : {w : Store} → Reached w → Lives w
reached_lives r =
    let run = begin by_value r.given r.fresh in
    subst Lives r.left (record {
      K = _;
      W = _;
      history = seen (perform_all run r.actions).history;
      live = performed_live run r.actions (fresh_live r.given r.fresh r.opens);
    })

-- one action more
pub acted_lives : {w : Store} (l : Lives w) (a : Action) → Lives (act by_value w a).store
acted_lives l a = record { K = l.K; W = l.W; history = _; live = act_live l.live a }
