-- Calls that are ran one after another, each to its end, are the published procedures folded over the list.
use Prim.Native.Nat.{ℕ, zero, suc, ◌+◌, ◌-◌, ◌≤◌, ◌<◌}
use mathlib.Core.Bool.{true}
use mathlib.Core.List.{List, [], ◌∷◌, ◌++◌}
use mathlib.Core.Path.{◌≡◌, refl, sym, ap, ◌∙◌, subst}
use native.Mathlib.Omega.{arith}
use lib.ListN.{length}
use lib.Seq.{get_or-set_same, get_or-set_other}
use Rattle.model.specs.Layout.{Memory, node_words, version_words, capacity}
use Rattle.model.specs.Map.{Reply}
use Rattle.model.specs.State.{idle_process, no_process, lawful_key}
use Rattle.model.specs.Phases.{max_nodes}
use Rattle.model.specs.Calls.{open_of, start_permit, start_by, start_of, top_of, Store, standing}
use Rattle.model.specs.Requests as Requests
use Rattle.model.specs.History.{Action, start, step, act, Run, perform, perform_all, begin}
use Rattle.model.proofs.Seen.{empty_seen}
use Rattle.model.specs.ByValue.{opens_by, fresh_store, by_value}
use Rattle.model.specs.Requests.{Operation, first_of, last_of}
use Rattle.model.specs.Linearizability.{All}
use Rattle.model.proofs.Tests.{by_eq}
use Rattle.model.proofs.Laws.{top_at_most}
use Rattle.linearizability.proofs.Opened.{opened_live}
use Rattle.linearizability.proofs.Live.{slot, Live, core_lawful, status_is}
use Rattle.figure.specs.Types.{Idle, Answer, Call, Process, Finish, Opening, Ok, Progress}
use Rattle.figure.specs.Figure.{get, alone, put}
use Rattle.figure.specs.Steps.{steps_of}
use Rattle.figure.specs.Alone.{Ran, ran, moves, Reached, memory_in, rested, Resting}
use Rattle.figure.specs.OneByOne.{Request, putting, getting, process_of, figure_reply, figure_memory, figure_all, figure_left, figure_steps, figure_events, store_does, told, store_all, store_left, Lawful, StoreFolds, StoreImplements}
use Rattle.figure.proofs.Lifted.{not_le}
use Rattle.figure.proofs.Called.{Lives, reached_lives}
use Rattle.figure.proofs.GetAlone.{get_alone}
use Rattle.figure.proofs.PutAlone.{put_alone}
use Rattle.figure.proofs.Unlocked.{resting_idle, rest_unlocks, unlocked_frees}
use Rattle.figure.proofs.Implements.{all_does, opened_ordered}

-- ---- the stores of demand 3 go on

all_more : (r : Run by_value) (actions : List Action) (a : Action) → perform_all r (actions ++ (a ∷ [])) ≡ perform (perform_all r actions) a
unfolding perform_all
all_more r [] a = refl
all_more r (b ∷ actions) a = all_more (perform r b) actions a

reached_on : {w : Store} → Reached w → (a : Action) → Reached (act by_value w a).store
reached_on {w} r a =
    record {
      given = r.given;
      fresh = r.fresh;
      opens = r.opens;
      actions = r.actions ++ (a ∷ []);
      left = ap (λ (z : Run by_value). z.store) (all_more (begin by_value r.given r.fresh) r.actions a)
          ∙ (unfold perform in (ap (λ (z : Store). (act by_value z a).store) r.left));
    }

reached_ran : (i n : ℕ) {w : Store} → Reached w → Reached (ran w i n).store
unfolding ran
reached_ran i zero r = r
reached_ran i (suc n) r = reached_ran i n (reached_on r (step i))

-- ---- a start that nothing speaks against

module _ (w : Store) (lives : Lives w) (i k : ℕ) (below : i < w.state.processes) (lawful : lawful_key k ≡ true)
    (idle : (slot w i).call.kind ≡ Idle)
    (time : w.state.events < w.state.limit) where
  may_start : start_permit w.state w.nodes w.versions i k k ≡ (Ok tt)
  unfolding start_permit
  may_start = rw (
    core_lawful lives.live.core,
    not_le w.state.processes i below,
    lawful,
    not_le (suc k) k (omega arith),
    idle,
    not_le w.state.limit w.state.events time,
  )

  starts : (op : Operation) → first_of op ≡ k → last_of op ≡ k
      → (start_of w.state w.nodes w.versions i op).outcome ≡ Ok (w.state.events + 1)
  unfolding start_of start_by
  starts op e f = rw (e, f, may_start)

-- ---- what one call tells

told_end : (t n : ℕ) (f : Finish) → told (moves t n ++ (Ok (Progress.Finished f) ∷ []))
    ≡ record { answer = f.answer; version = record { value = f.value; timestamp = f.timestamp } } ∷ []
unfolding told moves
told_end t zero f = refl
told_end t (suc n) f = told_end (t + 1) n f

-- ---- one call

pub record Called (bound : ℕ) (w : Store) (r : Request) : Type 0 where
  pub reached : Reached (store_does bound w r).store
  pub tells : told (store_does bound w r).outcomes ≡ figure_reply bound (memory_in w) r ∷ []
  pub left_is : (store_does bound w r).store
      ≡ rested w (process_of r) (figure_steps bound (memory_in w) r + 1) (figure_memory bound (memory_in w) r)
      (figure_reply bound (memory_in w) r).answer

module _ (w : Store) (reached : Reached w) (rest : Resting w) (bound : ℕ) (enough : w.state.counts.nodes < bound) where
  lives : Lives w
  lives = reached_lives reached

  abbrev Time : Request → Type 0
  Time r = w.state.events + suc (figure_steps bound (memory_in w) r) ≤ w.state.limit

  called_get : (i k : ℕ) → Lawful (getting i k) → i < w.state.processes → Time (getting i k) → Called bound w (getting i k)
  unfolding store_does figure_reply figure_memory figure_steps
  called_get i k lawful below time =
      let m = memory_in w in
      let r = get bound m k in
      let n = steps_of bound m k r.answer 0 in
      let q = get_alone w reached bound enough i k (w.state.events + 1)
      (starts w lives i k below lawful (resting_idle lives rest i) (omega arith) (Requests.get k) refl refl) (omega arith) in
      record {
        reached = reached_ran i n (reached_on reached (start i (Requests.get k)));
        tells = ap (λ (x : Ran). told x.outcomes) q ∙ told_end (w.state.events + 1 + 1) (n - 1) _;
        left_is = ap (λ (x : Ran). x.store) q;
      }

  called_put : (i k v t draw : ℕ) → Lawful (putting i k v t draw) → i < w.state.processes → Time (putting i k v t draw)
      → Called bound w (putting i k v t draw)
  unfolding store_does figure_reply figure_memory figure_steps
  called_put i k v t draw lawful below time =
      let m = memory_in w in
      let o = put alone i bound m k v t draw in
      let n = steps_of bound m k o.answer (top_of draw) in
      let free = unlocked_frees w reached (rest_unlocks w reached rest) bound enough k (top_of draw) o.answer lawful (top_at_most draw) in
      let q = put_alone w reached bound enough i k v t draw (w.state.events + 1) free
      (starts w lives i k below lawful (resting_idle lives rest i) (omega arith) (Requests.put k v t draw) refl refl) (omega arith) in
      record {
        reached = reached_ran i n (reached_on reached (start i (Requests.put k v t draw)));
        tells = ap (λ (x : Ran). told x.outcomes) q ∙ told_end (w.state.events + 1 + 1) (n - 1) _;
        left_is = ap (λ (x : Ran). x.store) q;
      }

  called : (r : Request) → Lawful r → process_of r < w.state.processes → Time r → Called bound w r
  called (putting i k v t draw) = called_put i k v t draw
  called (getting i k) = called_get i k

  -- the store that it leaves rests again
  rests : (i n : ℕ) (m : Memory) (a : Answer) → i < w.state.processes → Reached (rested w i n m a) → Resting (rested w i n m a)
  unfolding standing
  rests i n m a below r j lt =
      status_is (reached_lives r).live.core j lt ∙ ap (λ kind. standing kind (slot (rested w i n m a) j)) idle
    where
      idle : (slot (rested w i n m a) j).call.kind ≡ Idle
      idle = by_eq j i
          (λ e. rw e (ap (λ (p : Process). p.call.kind) (get_or-set_same w.state.process i idle_process no_process
          (omega (arith, lives.live.core.array, lives.live.core.processes)))))
          (λ ne. ap (λ (p : Process). p.call.kind) (get_or-set_other w.state.process i j idle_process no_process ne)
          ∙ resting_idle lives rest j)

  -- and its tables are as long
  same_room : (i n : ℕ) (m : Memory) (a : Answer) → Reached (rested w i n m a) → max_nodes m ≡ max_nodes (memory_in w)
  same_room i n m a r = ap (capacity node_words) ((reached_lives r).live.core.nodes_lent ∙ sym lives.live.core.nodes_lent)

-- ---- all calls

folds : (bound : ℕ) (rs : List Request) (w : Store) → Reached w → Resting w → max_nodes (memory_in w) < bound
    → All (λ r. Lawful r × (process_of r < w.state.processes)) rs
    → w.state.events + figure_events bound (memory_in w) rs ≤ w.state.limit
    → (store_all bound w rs ≡ figure_all bound (memory_in w) rs)
    × (memory_in (store_left bound w rs) ≡ figure_left bound (memory_in w) rs)
unfolding store_all store_left figure_all figure_left figure_events
folds bound [] w reached rest enough all time = (refl, refl)
folds bound (r ∷ rs) w reached rest enough all time =
    let m = memory_in w in
    let used : w.state.counts.nodes < bound = omega (arith, (reached_lives reached).live.core.nodes.room) in
    let C = called w reached rest bound used r all.0.0 all.0.1 (omega arith) in
    let n = figure_steps bound m r + 1 in
    let left = figure_memory bound m r in
    let a = (figure_reply bound m r).answer in
    let w' = rested w (process_of r) n left a in
    let r' = subst Reached C.left_is C.reached in
    let q = folds bound rs w' r' (rests w reached rest bound used (process_of r) n left a all.0.1 r')
    (omega (arith, same_room w reached rest bound used (process_of r) n left a r')) all.1 (omega arith) in (
      ap (λ (os : List Reply). os ++ store_all bound (store_does bound w r).store rs) C.tells
          ∙ ap (λ (z : Store). figure_reply bound m r ∷ store_all bound z rs) C.left_is
          ∙ ap (λ (os : List Reply). figure_reply bound m r ∷ os) q.0,
      ap (λ (z : Store). memory_in (store_left bound z rs)) C.left_is ∙ q.1,
    )

pub store_folds : StoreFolds
store_folds w reached rest bound enough rs = folds bound rs w reached rest enough

-- ---- from a fresh store

pub store_implements : StoreImplements
store_implements nodes versions processes limit opened bound enough rs all time =
    let O = opened_ordered nodes versions processes limit opened in
    (folds bound rs w fresh rest (omega (arith, O.K-is))
    (subst (λ n. All (λ r. Lawful r × (process_of r < n)) rs) l.hist.processes_is all)
    (omega (arith, l.hist.ticks, l.hist.limit_is))).0
    ∙ all_does bound enough rs O (lawful rs all)
  where
    w : Store
    w = fresh_store (open_of nodes versions processes limit)

    l : Live (capacity node_words (length nodes)) (capacity version_words (length versions)) w (empty_seen processes limit)
    l = opened_live nodes versions processes limit opened

    fresh : Reached w
    fresh = record {
      given = record { nodes = nodes; versions = versions; processes = processes; limit = limit };
      fresh = w;
      opens = ap (λ (o : Opening). opens_by o w) opened;
      actions = [];
      left = unfold perform_all in refl;
    }

    rest : Resting w
    rest j lt = status_is l.core j lt
        ∙ ap (λ kind. standing kind (slot w j)) (ap (λ (c : Call). c.kind) (l.hist.track j).same)
        ∙ (unfold standing in refl)

    lawful : (rs : List Request) → All (λ r. Lawful r × (process_of r < processes)) rs → All Lawful rs
    lawful [] a = tt
    lawful (r ∷ rs) a = (a.0.0, lawful rs a.1)
