-- Demand 3 of the store in lent words: on the words of a state each call answers as the store by value does, and leaves the
-- words of the state that it leaves.
use Rattle.model.specs.Types.{Permit, Ok, Err}
use Prim.Native.Nat.{ℕ, ◌+◌, ◌<◌}
use mathlib.Core.Bool.{true}
use mathlib.Core.Path.{◌≡◌, refl, sym, ap, subst, ◌∙◌, fun_ext}
use mathlib.Core.List.{List}
use native.Mathlib.Omega.{arith}
use lib.ListN.{length, get_or, set, length-set, replicate, length-replicate, get_or-replicate}
use lib.Seq.{get_or-set_same, get_or-set_other}
use borrow.Author.Tests.{eq-eqb}
use Rattle.model.specs.declared.types.Call.{Call}
use Rattle.model.specs.declared.types.Counts.{Counts}
use Rattle.model.specs.declared.types.Lengths.{Lengths}
use Rattle.model.specs.declared.types.Move.{Move}
use Rattle.model.specs.declared.types.Process.{Process}
use Rattle.model.specs.declared.types.State.{State}
use Rattle.model.specs.Layout.{Memory, levels, limits}
use Rattle.model.specs.State.{no_process, idle_process, process_at, fresh_state, with_event}
use Rattle.model.specs.Phases.{Moved, refuses}
use Rattle.model.specs.Calls.{open_permit, open_by, open_of, start_by, start_of, Store, store_after, step_permit, step_by, step_of, look_of, status_of}
use Rattle.model.specs.Requests.{Operation}
use Rattle.model.specs.System.{view_of}
use Rattle.model.specs.ByValue.{Given, fresh_store, opens_by, by_value}
use Rattle.model.specs.Linearizability.{Linearizable}
use Rattle.model.proofs.Tests.{if-by, by_eq}
use Rattle.linearizability.proofs.Linearized as linearized
use Rattle.linearizability.proofs.Simulated.{Same, SameOpening, Simulates, simulated}
use Rattle.process.specs.ProcessWords.{sizes}
use Rattle.layout.specs.StateWords.{state_words, state_from, is_state}
use Rattle.layout.proofs.Back.{Remembers, state_from_lem, state_known}
use Rattle.layout.proofs.Written.{state_head, state_below, state_at}
use Rattle.lent.specs.Calls.{OpenIn, open_encoded, open_in, StartIn, StepIn, look_in, inspect_in, status_in}
use Rattle.lent.specs.Lent.{Lent, Lending, fresh_lent, with_words, stepped_lent, lent_words}
use Rattle.lent.proofs.Encoded.{after_remembers, start_of_lem, step_of_lem}

-- ---- a state that its words mean: eight processes, each with a node at each level, as every value of its type has

pub record Whole (s : State) : Type 0 where
  pub eight : length s.process ≡ limits.processes
  pub six : Remembers s.process

whole_fresh : (processes limit : ℕ) (lengths : Lengths) → Whole (fresh_state processes limit lengths)
whole_fresh processes limit lengths = record {
  eight = refl;
  six = λ i lt. ap (λ (p : Process). length p.preds) (get_or-replicate limits.processes i idle_process no_process lt);
}

-- a process put past the last is lost
remembers_set : (ps : List Process) (i : ℕ) (p : Process) → (i < length ps → length p.preds ≡ levels) → Remembers ps
    → Remembers (set ps i p)
remembers_set ps i p h six j lt =
    let here : j < length ps = omega (arith, lt, length-set ps i p) in
    by_eq j i
    (λ e.
    let own : i < length ps = omega (arith, here, e) in
    ap (λ k. length (get_or (set ps i p) k no_process).preds) e
    ∙ ap (λ (q : Process). length q.preds) (get_or-set_same ps i p no_process own) ∙ h own)
    (λ ne. ap (λ (q : Process). length q.preds) (get_or-set_other ps i j p no_process ne) ∙ six j here)

whole_event : (s : State) (i : ℕ) (counts : Counts) (p : Process) → (i < length s.process → length p.preds ≡ levels)
    → Whole s → Whole (with_event s i counts p)
whole_event s i counts p h o = record {
  eight = length-set s.process i p ∙ o.eight;
  six = remembers_set s.process i p h o.six;
}

whole_start : (d : Permit) (s : State) (i : ℕ) (call : Call) → Whole s → Whole (start_by d s i call).state
unfolding start_by
whole_start (Err r) s i call o = o
whole_start (Ok _) s i call o = whole_event s i s.counts _ (λ lt. refl) o

whole_move : (x : Store) (i : ℕ) (v : Move) (m : Memory) → Whole x.state → Whole (store_after x i v m).state
whole_move x i v m o = if-by (λ (y : Store). Whole y.state) (refuses v) (λ t. o) λ t.
    whole_event x.state i m.counts _
    (λ lt. after_remembers (x.state.events + 1) (process_at x.state i) v (o.six i lt)) o

whole_step : (d : Permit) (x : Store) (i : ℕ) (v : Moved) → Whole x.state → Whole (step_by d x i v).store.state
unfolding step_by
whole_step (Err r) x i v o = o
whole_step (Ok _) x i v o = whole_move x i v.move v.memory o

-- ---- the words of a store, and each call on them

abbrev pub lent_of : Store → Lent
lent_of x = record { words = state_words x.state; nodes = x.nodes; versions = x.versions; tally = x.tally }

module _ (x : Store) (o : Whole x.state) where
  abbrev s : State
  s = x.state

  known : is_state (state_words s) ≡ true
  known = state_known s o.eight o.six

  back : state_from (state_words s) ≡ s
  back = state_from_lem s o.eight o.six

  looks : (k b : ℕ) → look_in (state_words s) x.nodes x.versions k b ≡ look_of s x.nodes x.versions k b
  unfolding look_in
  looks k b = simp (state_head (state_words s) known, back)

  stands : (i : ℕ) → status_in (state_words s) i ≡ status_of s i
  unfolding status_in
  stands i = simp (state_at (state_words s) known i, back)

  shows : view_of lent_words (lent_of x) ≡ view_of by_value x
  unfolding inspect_in
  shows = simp (state_below (state_words s) known s.processes, back, fun_ext stands)

-- ---- side by side

-- the words of a store whose state is whole
abbrev pub Holds : Lent → Store → Type 0
Holds w x = (w ≡ lent_of x) × Whole x.state

module _ (l : Lending) where
  abbrev g : Given
  g = l.given

  opened_as : open_in l.words g.nodes g.versions g.processes g.limit
      ≡ open_encoded (open_of g.nodes g.versions g.processes g.limit)
  unfolding open_in
  opened_as = simp (eq-eqb _ _ l.long)

  opens_by_lem : (d : Permit) → let b = open_by d g.nodes g.versions g.processes g.limit in
      SameOpening Holds (opens_by b.result.outcome (fresh_lent (open_encoded b))) (opens_by b.result.outcome (fresh_store b))
  unfolding open_by
  opens_by_lem (Err r) = refl
  opens_by_lem (Ok _) = (refl, whole_fresh g.processes g.limit _)

  opens_alike : SameOpening Holds (lent_words.fresh l) (by_value.fresh g)
  unfolding open_of
  opens_alike =
      subst (λ (o : OpenIn). SameOpening Holds (opens_by o.outcome (fresh_lent o)) (by_value.fresh g)) (sym opened_as)
      (opens_by_lem (open_permit g.nodes g.versions g.processes g.limit))

start_alike : (x : Store) → Whole x.state → (i : ℕ) (op : Operation)
    → Same Holds (lent_words.start (lent_of x) i op) (by_value.start x i op)
unfolding start_of
start_alike x o i op =
    let e = start_of_lem x.state x.nodes x.versions i op o.eight o.six in
    let words = ap (λ (r : StartIn). with_words (lent_of x) r.words) e in
    (ap (λ (r : StartIn). r.outcome) e, (words, whole_start _ x.state i _ o))

step_alike : (x : Store) → Whole x.state → (i : ℕ) → Same Holds (lent_words.step (lent_of x) i) (by_value.step x i)
unfolding step_of
step_alike x o i =
    let e = step_of_lem x.state x.nodes x.versions x.tally i o.eight o.six in
    (ap (λ (r : StepIn). r.outcome) e, (ap stepped_lent e, whole_step (step_permit x i) x i _ o))

pub as_by_value : Simulates lent_words by_value (λ l. l.given) Holds
as_by_value = record {
  asks = λ f lawful.
      (let g = linearized.asks f lawful in
      (record { given = g.0; words = replicate sizes.state 0; long = length-replicate {A = ℕ} sizes.state 0 }, g.1));
  fits = λ l. refl;
  opens = opens_alike;
  starts = λ w x q i op.
      subst (λ (v : Lent). Same Holds (lent_words.start v i op) (by_value.start x i op)) (sym q.0) (start_alike x q.1 i op);
  steps = λ w x q i.
      subst (λ (v : Lent). Same Holds (lent_words.step v i) (by_value.step x i)) (sym q.0) (step_alike x q.1 i);
  looks = λ w x q k back. ap (λ (v : Lent). lent_words.look v k back) q.0 ∙ looks x q.1 k back;
  shows = λ w x q. ap (λ (v : Lent). view_of lent_words v) q.0 ∙ shows x q.1;
}

-- Demand 3 of the store in lent words, whatever they held before.
pub linearizable : Linearizable lent_words
linearizable = simulated lent_words by_value (λ l. l.given) Holds as_by_value linearized.linearizable
