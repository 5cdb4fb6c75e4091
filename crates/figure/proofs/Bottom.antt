-- At the bottom level a put that is ran alone does what the figure's tryInsert does, up to its release.
use Prim.Native.Nat.{ℕ, ◌+◌, ◌≤◌, ◌<◌}
use mathlib.Core.Bool.{Bool, true, false, not}
use mathlib.Core.List.{List}
use mathlib.Core.Logic.{◌≢◌, ◌⊎◌, inl, inr}
use mathlib.Core.Option.{Option, none, some}
use mathlib.Core.Path.{◌≡◌, refl, sym, ap, ◌∙◌}
use native.Mathlib.Omega.{arith}
use lib.Dec.{T, eqb, leb, ltb, nleb→lt, ltb→lt}
use lib.ListN.{length, set}
use Rattle.std.specs.Prelude.{if◌then◌else◌}
use Rattle.model.specs.Layout.{Memory, node_words, top_level, capacity, newest, next, lock, timestamp}
use Rattle.model.specs.Map.{Map}
use Rattle.model.specs.Phases.{moved, used_node, used_version, max_nodes, max_versions, ahead, walked, descend, walk_by, check_by, committed, add_version, update_node, update_at, update_of, add_node, make_of, phase_of, transition_of}
use Rattle.model.specs.Calls.{process_after}
use Rattle.model.specs.Roles.{class_of}
use Rattle.model.proofs.Tests.{if_yes, if_no, if-by, by_test, not_not}
use Rattle.model.proofs.Words.{length_word, word_field}
use Rattle.linearizability.proofs.Invariant.{Ghost, Nodes, Book}
use Rattle.linearizability.proofs.Step.{place_in, within_T}
use Rattle.figure.specs.Types.{Put, Phase, Walk, Seek, Check, Update, Make, Release, Answer, TooOld, VersionsFull, Added, KeysFull, New, None, OtherPut, Call, Cursor, Process, Ahead, Equal, Past, Refuse, Note}
use Rattle.figure.specs.Figure.{key_of, Pair, Inserted, create_and_link, update, Locked, release, acquire, alone, try_insert}
use Rattle.figure.proofs.Search.{key_same, Finds}
use Rattle.figure.proofs.Runs.{at_place, Run, run_one, run_on}
use Rattle.figure.proofs.Walking.{Asked, put≢idle, pose, before, ahead_equal, ahead_past, ahead_stop, walk_transition}
use Rattle.figure.proofs.Writing.{make_is}
use Rattle.figure.proofs.Locking.{Ready, finds_ready, work_transition, held_ready, to_check, check_transition, find_lock_lem}

-- the new node, 0 for none
abbrev pub made_of : Option ℕ → ℕ
made_of none = 0
made_of (some n) = n

-- the answers of a put that makes no node
abbrev pub Plain : Answer → Type 0
Plain a = class_of a ≡ OtherPut

pub new_not_plain : ¬ (Plain New)
new_not_plain e = let z : ◌≡◌ {A = ℕ} 0 1 = cc in omega arith

-- what the figure leaves before it frees the lock of q
unfoldable pub done : Memory → Call → (i q : ℕ) → Inserted
done m call i q =
    let m₁ = acquire alone i m q 0 in
    let y = next m₁.nodes 0 q in
    if eqb call.key (key_of m₁ y) then update m₁ y call.value call.timestamp
    else create_and_link m₁ q call.key call.value call.timestamp call.top

-- and after
abbrev pub closed : (q : ℕ) → Inserted → Inserted
closed q o = record { memory = release o.memory q 0; answer = o.answer; node = o.node }

-- no node is made, and no lock but that of q is written
pub record Settles (m : Memory) (i q : ℕ) (o : Inserted) : Type 0 where
  pub node : o.node ≡ none
  pub answer : Plain o.answer
  pub same : o.memory.counts.nodes ≡ m.counts.nodes
  pub size : length o.memory.nodes ≡ length m.nodes
  pub locks : (l x : ℕ) → l ≤ top_level → lock o.memory.nodes l x ≡ lock (acquire alone i m q 0).nodes l x

abbrev pub make_cursor : (q : ℕ) → Cursor
make_cursor q = record { phase = Make; level = 0; pred = q; made = 0 }

-- a node is made
pub record Makes (m : Memory) (call : Call) (i q : ℕ) (o : Inserted) : Type 0 where
  pub node : o.node ≡ some (m.counts.nodes + 1)
  pub answer : o.answer ≡ New
  pub memory : o.memory ≡ add_node call (make_cursor q) (acquire alone i m q 0)
  pub room : m.counts.nodes < max_nodes m

module _ {m : Memory} {g : Ghost} {b : Map} (N : Nodes m g) (B : Book m b) {call : Call} (P : Asked Put call) (i : ℕ) {r : Pair}
    (f : Finds m g call.key 0 r) (preds : List ℕ) where
  abbrev k : ℕ
  k = call.key

  abbrev q : ℕ
  q = r.pred

  R : Ready m k 0 q
  R = finds_ready N P.key_high f

  abbrev preds₀ : List ℕ
  preds₀ = set preds 0 q

  abbrev here : Phase → Process
  here ph = before call ph 0 q preds₀

  abbrev m₁ : Memory
  m₁ = acquire alone i m q 0

  abbrev y : ℕ
  y = next m₁.nodes 0 q

  pub walk_on : (tick : ℕ) → Run i tick 1 (at_place (before call Walk 0 q preds) m) (at_place (here Seek) m)
  unfolding walk_by descend walked process_after
  walk_on tick =
      let c = (before call Walk 0 q preds).cursor in
      let down : (found : ℕ) → moved m (walked call.kind call c tick found) ≡ moved m (Note (here Seek).cursor) =
      λ found. ap (λ kind. moved m (walked kind call c tick found)) P.kind_is in
      run_one (walk_transition N P put≢idle i tick 0 q preds f.spot
      ∙ ahead_stop m k P.key_high 0 q R.linked (λ x. moved m (walk_by call c tick x) ≡ moved m (Note (here Seek).cursor))
      R.stop
      (down (next m.nodes 0 q)) (down 0)) tt

  to_here : (tick : ℕ) → lock m.nodes 0 q ≡ 0
      → Run i tick 3 (at_place (before call Walk 0 q preds) m) (at_place (here Check) m₁)
  to_here tick free = run_on (walk_on tick) (to_check P i 0 None 0 tt R preds₀ (tick + 1) free)

  R₁ : Ready m₁ k 0 q
  R₁ = held_ready P i 0 None 0 tt R preds₀

  second_look : (tick : ℕ) (x : Ahead) → ahead m₁ 0 q k ≡ x
      → transition_of (i + 1) tick (here Check) m₁ ≡ check_by (here Check).cursor m₁ x
  second_look = check_transition P i 0 None 0 tt R preds₀

  -- ---- the figure's outcome

  pub try_is : (bound : ℕ) → 1 ≤ bound
      → try_insert alone i bound m q k call.value call.timestamp call.top ≡ closed q (done m call i q)
  unfolding try_insert done
  try_is bound pos = ap after (find_lock_lem P i 0 None 0 tt R preds₀ bound pos)
    where
      after : Locked → Inserted
      after r = let o = if eqb k (key_of r.memory r.succ) then update r.memory r.succ call.value call.timestamp
          else create_and_link r.memory r.pred k call.value call.timestamp call.top in
          record { memory = release o.memory r.pred 0; answer = o.answer; node = o.node }

  -- ---- update

  abbrev u : Inserted
  u = update m₁ y call.value call.timestamp

  updates : moved u.memory (committed (here Update).cursor (made_of u.node) u.answer)
      ≡ update_node call (here Update).cursor y (newest m₁.nodes y) m₁
  unfolding update update_node add_version
  updates = by (ltb call.timestamp (timestamp m₁.versions (newest m₁.nodes y)))
      (leb (max_versions m₁) m.counts.versions)
    where
      by : (old full : Bool)
          → let o : Inserted = if old then record { memory = m₁; answer = TooOld; node = none }
          else if full then record { memory = m₁; answer = VersionsFull; node = none }
          else record { memory = add_version call y m₁; answer = Added; node = none } in
          moved o.memory (committed (here Update).cursor (made_of o.node) o.answer)
          ≡ (if old then moved m₁ (committed (here Update).cursor 0 TooOld)
          else if full then moved m₁ (committed (here Update).cursor 0 VersionsFull)
          else moved (add_version call y m₁) (committed (here Update).cursor 0 Added))
      by true full = refl
      by false true = refl
      by false false = refl

  -- memory is as it was when the lock was taken
  untouched : (a : Answer) → Plain a → Settles m i q (record { memory = m₁; answer = a; node = none })
  untouched a p = record {
    node = refl;
    answer = p;
    same = refl;
    size = length_word m.nodes q 10 (i + 1);
    locks = λ l x l5. refl;
  }

  update_settles : Settles m i q u
  unfolding update
  update_settles = if-by (Settles m i q) (ltb call.timestamp (timestamp m₁.versions (newest m₁.nodes y)))
      (λ t. untouched TooOld refl)
      (λ t. if-by (Settles m i q) (leb (max_versions m₁) m.counts.versions)
      (λ z. untouched VersionsFull refl)
      (λ z. record {
        node = refl;
        answer = refl;
        same = refl;
        size = length_word m₁.nodes y 1 (m.counts.versions + 1) ∙ length_word m.nodes q 10 (i + 1);
        locks = λ l x l5. word_field m₁.nodes y x 1 (10 + l) (m.counts.versions + 1) (omega arith) (omega arith)
            (omega arith);
      }))

  update_transition : (tick : ℕ) → y ≢ 0
      → transition_of (i + 1) tick (here Update) m₁ ≡ moved u.memory (committed (here Update).cursor (made_of u.node) u.answer)
  unfolding phase_of update_of update_at
  update_transition tick ne =
      let used-y : y ≤ m.counts.nodes = R₁.linked ne in
      let p = place_in m g b N B y (omega arith) used-y in
      let x = newest m₁.nodes y in
      let e : x ≡ newest m.nodes y = word_field m.nodes q y 10 1 (i + 1) (omega arith) (omega arith) (omega arith) in
      work_transition P i 0 None 0 tt m₁ Update 0 q preds₀ refl (omega arith) R.used tick
      ∙ if_no (not (used_node m₁ y)) _ _ (not_not (used_node m₁ y)
      (within_T {low = 1} {high = m.counts.nodes} {n = y} (omega arith) used-y))
      ∙ if_no (not (used_version m₁ x)) _ _ (not_not (used_version m₁ x)
      (within_T {low = 1} {high = m.counts.versions} {n = x} (omega arith) (omega arith)))
      ∙ sym updates

  -- ---- make

  abbrev c : Inserted
  c = create_and_link m₁ q k call.value call.timestamp call.top

  -- the node that make writes is the figure's, created and linked
  abbrev c' : (keys versions : Bool) → Memory → Inserted
  c' keys versions made = if keys then record { memory = m₁; answer = KeysFull; node = none }
      else if versions then record { memory = m₁; answer = VersionsFull; node = none }
      else record { memory = made; answer = New; node = some (m.counts.nodes + 1) }

  create_is : c
      ≡ c' (leb (max_nodes m₁) m.counts.nodes) (leb (max_versions m₁) m.counts.versions) (add_node call (here Make).cursor m₁)
  unfolding create_and_link
  create_is = ap (c' (leb (max_nodes m₁) m.counts.nodes) (leb (max_versions m₁) m.counts.versions))
      (make_is call (here Make).cursor m₁ R.used)

  make_transition : (tick : ℕ)
      → transition_of (i + 1) tick (here Make) m₁ ≡ moved c.memory (committed (here Make).cursor (made_of c.node) c.answer)
  unfolding phase_of make_of
  make_transition tick =
      work_transition P i 0 None 0 tt m₁ Make 0 q preds₀ refl (omega arith) R.used tick
      ∙ by (leb (max_nodes m₁) m.counts.nodes) (leb (max_versions m₁) m.counts.versions) (ltb top_level call.top) low
      ∙ ap (λ (o : Inserted). moved o.memory (committed (here Make).cursor (made_of o.node) o.answer)) (sym create_is)
    where
      low : T (not (ltb top_level call.top))
      low = by_test (ltb top_level call.top) (λ t. absurd (omega (arith, ltb→lt top_level call.top t, P.top_high))) (λ t. t)

      by : (keys versions high : Bool) → T (not high)
          → (if keys then moved m₁ (committed (here Make).cursor 0 KeysFull)
          else if versions then moved m₁ (committed (here Make).cursor 0 VersionsFull)
          else if high then moved m₁ Refuse
          else moved (add_node call (here Make).cursor m₁) (committed (here Make).cursor (m.counts.nodes + 1) New))
          ≡ (let o = c' keys versions (add_node call (here Make).cursor m₁) in moved o.memory (committed (here Make).cursor (made_of o.node) o.answer))
      by true versions high t = refl
      by false true high t = refl
      by false false true t = absurd t
      by false false false t = refl

  make_sorts : Settles m i q c ⊎ Makes m call i q c
  make_sorts = rw create_is (if-by Sorts (leb (max_nodes m₁) m.counts.nodes)
      (λ t. inl (untouched KeysFull refl))
      (λ t. if-by Sorts (leb (max_versions m₁) m.counts.versions)
      (λ z. inl (untouched VersionsFull refl))
      (λ z. inr (record {
        node = refl;
        answer = refl;
        memory = refl;
        room = omega (
          arith,
          nleb→lt (max_nodes m₁) m.counts.nodes t,
          ap (capacity node_words) (length_word m.nodes q 10 (i + 1)),
        );
      }))))
    where
      Sorts : Inserted → Type 0
      Sorts o = Settles m i q o ⊎ Makes m call i q o

  -- ---- up to the release

  abbrev Bottomed : (tick : ℕ) → Inserted → Type 0
  Bottomed tick o =
      Run i tick 5 (at_place (before call Walk 0 q preds) m)
      (at_place (pose call Release 0 q preds₀ (made_of o.node) o.answer (tick + 4)) o.memory)
      × (Settles m i q o ⊎ Makes m call i q o)

  module _ (free : lock m.nodes 0 q ≡ 0) where
    by_update : (tick : ℕ) → T (eqb k (key_of m₁ y)) → Bottomed tick u
    unfolding check_by process_after
    by_update tick t = (
      run_on (run_on (to_here tick free) (run_one
          (second_look (tick + 3) (Equal y) (ahead_equal m₁ k P.key_high 0 q R₁.linked t)) tt))
          (run_one (update_transition (tick + 4) (key_same m₁ k P.key_high y t).0) tt),
      inl update_settles,
    )

    by_make : (tick : ℕ) → T (not (eqb k (key_of m₁ y))) → Bottomed tick c
    unfolding check_by process_after
    by_make tick t = (
      run_on (run_on (to_here tick free) (run_one
          (second_look (tick + 3) Past (ahead_past m₁ k P.key_high 0 q R₁.linked R₁.stop t)) tt))
          (run_one (make_transition (tick + 4)) tt),
      make_sorts,
    )

    pub bottom : (tick : ℕ) → Bottomed tick (done m call i q)
    unfolding done
    bottom tick = by_test (eqb k (key_of m₁ y))
        (λ t. rw (if_yes (eqb k (key_of m₁ y)) u c t) (by_update tick t))
        (λ t. rw (if_no (eqb k (key_of m₁ y)) u c t) (by_make tick t))
