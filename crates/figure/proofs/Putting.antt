-- A put that is ran alone, where the locks that it needs are free, leaves the memory and gives the answer of the figure's putH.
use Prim.Native.Nat.{ℕ, zero, suc, ◌+◌, ◌*◌, ◌≤◌, ◌<◌}
use mathlib.Core.List.{List}
use mathlib.Core.Logic.{◌≢◌, ◌⊎◌, inl, inr}
use mathlib.Core.Option.{Option, none, some}
use mathlib.Core.Path.{◌≡◌, refl, sym, ap, ◌∙◌, subst}
use native.Mathlib.Nat.{add-zero}
use native.Mathlib.Omega.{arith}
use lib.Dec.{leb, ltb, le→leb}
use lib.ListN.{get_or, set, replicate}
use lib.Seq.{get_or-set_other}
use Rattle.model.specs.Layout.{Memory, top_level, lock}
use Rattle.model.specs.Map.{Map}
use Rattle.model.specs.Phases.{moved, own_version, rise, released, freed, release_of, lawful_at, phase_of, transition_of}
use Rattle.model.specs.Calls.{begun}
use Rattle.model.proofs.Tests.{if_yes, if_no, by_eq}
use Rattle.model.proofs.Words.{word_same, word_other}
use Rattle.linearizability.proofs.Invariant.{Ghost, Nodes, Book}
use Rattle.figure.specs.Types.{Put, Lock, Release, Answer, New, None, Call, End}
use Rattle.figure.specs.Figure.{HMAX, head, Pair, find_all, Inserted, release, alone, insert_above, insert_all, put_h}
use Rattle.figure.specs.Alone.{Free, left_below}
use Rattle.figure.specs.Steps.{hops_down, search_steps, steps_after, steps_of}
use Rattle.figure.proofs.Search.{Finds, at_head, all_finds, all_next}
use Rattle.figure.proofs.Runs.{at_place, Run, run_on, run_same, Ended, Waiting}
use Rattle.figure.proofs.Walking.{Asked, put≢idle, pose, transition_is, Walked, walk_down}
use Rattle.figure.proofs.Bottom.{made_of, Plain, new_not_plain, done, closed, try_is, Settles, Makes, walk_on, bottom}
use Rattle.figure.proofs.Locking.{finds_ready, seek_on, lock_waits}
use Rattle.figure.proofs.Rising.{Risen, made_risen}
use Rattle.figure.proofs.Climbing.{above, releases, release_transition, Climbed, climb, rises, seeks, waits}

module _ {m : Memory} {g : Ghost} {b : Map} (N : Nodes m g) (B : Book m b) {call : Call} (P : Asked Put call)
    (bound : ℕ) (enough : m.counts.nodes < bound) (i start : ℕ) where
  abbrev k : ℕ
  k = call.key

  abbrev h : ℕ
  h = call.top

  -- the predecessor at a level
  abbrev path : ℕ → ℕ
  path l = (find_all bound m head k HMAX l).pred

  finds_at : (l : ℕ) → l ≤ HMAX → Finds m g k l (find_all bound m head k HMAX l)
  finds_at l le = all_finds N P.key_high bound (omega arith) HMAX head l le (at_head N P.key_high P.key_low)

  -- what the figure has left when it has come up to level l
  abbrev out : ℕ → Inserted
  out l = insert_all alone i bound m (path l) k call.value call.timestamp h l

  out_next : (l : ℕ) → l < HMAX → out (suc l) ≡ insert_above alone i bound (out l) (path (suc l)) (suc l) (out l).node
  unfolding insert_all
  out_next l lt = ap (λ (r : Pair). let o = insert_all alone i bound m r.pred k call.value call.timestamp h l in
      insert_above alone i bound o (path (suc l)) (suc l) o.node) (sym (all_next m k bound head HMAX l lt))

  -- ---- the walk

  W : Walked N P put≢idle i bound (start + 1) HMAX head (replicate 6 0)
  W = walk_down N P put≢idle i bound (omega arith) HMAX head (start + 1) (replicate 6 0) (omega arith)
      (at_head N P.key_high P.key_low)

  abbrev walked : ℕ
  walked = hops_down bound m head k HMAX + HMAX

  abbrev preds : List ℕ
  preds = set W.preds' 0 (path 0)

  known : (l : ℕ) → suc l ≤ HMAX → get_or preds (suc l) 0 ≡ path (suc l)
  known l le = get_or-set_other W.preds' 0 (suc l) (path 0) 0 (omega arith) ∙ W.known (suc l) (omega arith) le

  -- the tick of its effect
  abbrev effect : ℕ
  effect = start + 1 + walked + 4

  effect_is : effect ≡ start + (search_steps bound m k + 4)
  unfolding search_steps
  effect_is = omega arith

  -- ---- the bottom

  abbrev o : Inserted
  o = done m call i (path 0)

  out_zero : out 0 ≡ closed (path 0) o
  unfolding insert_all
  out_zero = try_is N B P i (finds_at 0 (omega arith)) W.preds' bound (omega arith)

  low : lock m.nodes 0 (path 0) ≡ 0
      → Run i (start + 1) (walked + 5) (at_place (begun call) m)
      (at_place (pose call Release 0 (path 0) preds (made_of o.node) o.answer effect) o.memory)
      × (Settles m i (path 0) o ⊎ Makes m call i (path 0) o)
  low free =
      let r = bottom N B P i (finds_at 0 (omega arith)) W.preds' free (start + 1 + walked) in
      (run_on W.run r.0, r.1)

  -- what is to be shown of the figure's outcome
  abbrev Ends : Inserted → Type 0
  Ends r = Ended i start (steps_of bound m k r.answer h) (at_place (begun call) m) r.memory r.answer (own_version call)
      (start + (search_steps bound m k + 4))

  -- ---- a put that made no node: its release is its end

  plain_transition : (m₂ : Memory) (made tick e : ℕ) (a : Answer) → Plain a → path 0 ≤ m₂.counts.nodes
      → transition_of (i + 1) tick (pose call Release 0 (path 0) preds made a e) m₂
      ≡ moved (release m₂ (path 0) 0) (End a (own_version call) e)
  unfolding phase_of release_of released freed lawful_at
  plain_transition m₂ made tick e a p used =
      transition_is (i + 1) tick (pose call Release 0 (path 0) preds made a e) m₂ (omega arith) used (rw (P.kind_is, p) tt) ∙ rw p refl

  plain_steps : (a : Answer) → Plain a → suc (walked + 5) ≡ steps_of bound m k a h
  unfolding steps_of search_steps steps_after
  plain_steps a p = rw p (omega arith)

  -- then no level above is come to
  settled_out : Settles m i (path 0) o → (l : ℕ) → l ≤ HMAX → out l ≡ closed (path 0) o
  unfolding insert_above
  settled_out s zero le = out_zero
  settled_out s (suc l) le = out_next l (omega arith)
      ∙ ap (λ (r : Inserted). insert_above alone i bound r (path (suc l)) (suc l) r.node) (settled_out s l (omega arith))
      ∙ ap (λ (n : Option ℕ). insert_above alone i bound (closed (path 0) o) (path (suc l)) (suc l) n) s.node

  settled_ends : lock m.nodes 0 (path 0) ≡ 0 → Settles m i (path 0) o → Ends (closed (path 0) o)
  settled_ends free s = record {
    before = walked + 5;
    steps_is = plain_steps o.answer s.answer;
    last = at_place (pose call Release 0 (path 0) preds (made_of o.node) o.answer effect) o.memory;
    run = (low free).0;
    ends = plain_transition o.memory (made_of o.node) _ effect o.answer s.answer
        (omega (arith, s.same, (finds_at 0 (omega arith)).spot.used))
        ∙ ap (λ t. moved (release o.memory (path 0) 0) (End o.answer (own_version call) t)) effect_is;
  }

  -- ---- a put that made a node climbs as far as the locks are free

  abbrev Up : (l : ℕ) → Type 0
  Up l = Climbed N P i start effect (at_place (begun call) m) preds (walked + 5 + 5 * l) l (path l) (out l)

  made_up : lock m.nodes 0 (path 0) ≡ 0 → Makes m call i (path 0) o → Up 0
  made_up free M = record {
    held = o.memory;
    run = run_same (omega arith) (subst (λ (r : Inserted). Run i (start + 1) (walked + 5) (at_place (begun call) m)
        (at_place (pose call Release 0 (path 0) preds (made_of r.node) r.answer effect) r.memory)) shape (low free).0);
    used = omega (arith, risen.nodes_is, used);
    out_is = out_zero ∙ ap (closed (path 0)) shape;
    risen = risen;
  }
    where
      shape : o ≡ record { memory = o.memory; answer = New; node = some (m.counts.nodes + 1) }
      shape = rw (← M.answer, ← M.node) refl

      used : path 0 ≤ m.counts.nodes
      used = (finds_at 0 (omega arith)).spot.used

      risen : Risen m (release o.memory (path 0) 0) k 0
      risen = rw M.memory (made_risen m call i (path 0) N.size M.room used free)

  climbs : (l : ℕ) → suc l ≤ h → lock m.nodes (suc l) (path (suc l)) ≡ 0 → Up l → Up (suc l)
  climbs l le free U = subst
      (λ (r : Inserted). Climbed N P i start effect (at_place (begun call) m) preds (walked + 5 + 5 * suc l) (suc l)
      (path (suc l)) r)
      (sym (out_next l (omega arith)))
      (subst (λ n. Climbed N P i start effect (at_place (begun call) m) preds n (suc l) (path (suc l))
      (insert_above alone i bound (out l) (path (suc l)) (suc l) (out l).node)) (sum walked l)
      (climb N P i start effect (at_place (begun call) m) preds bound (omega arith) (walked + 5 + 5 * l) l (path l) (out l)
      U le (finds_at (suc l) (omega arith)) (known l (omega arith)) free))
    where
      sum : (w l : ℕ) → w + 5 + 5 * l + 5 ≡ w + 5 + 5 * suc l
      sum w l = omega arith

  all_up : Makes m call i (path 0) o → (l : ℕ) → l ≤ h → ((j : ℕ) → j ≤ l → lock m.nodes j (path j) ≡ 0) → Up l
  all_up M zero le free = made_up (free 0 (omega arith)) M
  all_up M (suc l) le free = climbs l le (free (suc l) (omega arith)) (all_up M l (omega arith) (λ j jl. free j (omega arith)))

  top_transition : (held : Memory) (tick : ℕ) → path h ≤ held.counts.nodes
      → transition_of (i + 1) tick (releases P i preds (m.counts.nodes + 1) effect h (path h)) held
      ≡ moved (release held (path h) h) (End New (own_version call) effect)
  unfolding rise freed
  top_transition held tick used =
      release_transition P i preds (m.counts.nodes + 1) effect held h (path h) tick P.top_high used
      ∙ ap (λ v. freed (releases P i preds (m.counts.nodes + 1) effect h (path h)).cursor held v)
      (if_no (ltb top_level h) _ _ (above top_level h P.top_high) ∙ if_yes (leb h h) _ _ (le→leb h h (omega arith)))

  made_ends : Up h → Ends (out h)
  unfolding steps_of search_steps steps_after
  made_ends U = rw U.out_is (record {
    before = walked + 5 + 5 * h;
    steps_is = omega arith;
    last = at_place (releases P i preds (m.counts.nodes + 1) effect h (path h)) U.held;
    run = U.run;
    ends = top_transition U.held _ U.used
        ∙ ap (λ t. moved (release U.held (path h) h) (End New (own_version call) t)) effect_is;
  })

  -- ---- where a lock is held, it comes to it and waits

  waits_low : lock m.nodes 0 (path 0) ≢ 0 → Waiting i start (search_steps bound m k + 1) (at_place (begun call) m) m
  unfolding search_steps
  waits_low taken =
      let f = finds_at 0 (omega arith) in
      let R = finds_ready N P.key_high f in
      record {
        process = pose call Lock 0 (path 0) preds 0 None 0;
        run = run_same (omega arith) (run_on (run_on W.run (walk_on N B P i f W.preds' (start + 1 + walked)))
            (seek_on P i 0 None 0 tt R preds (start + 1 + (walked + 1))));
        waits = λ tick. lock_waits P i 0 None 0 tt R preds tick taken;
      }

  waits_up : (l : ℕ) → suc l ≤ h → lock m.nodes (suc l) (path (suc l)) ≢ 0 → Up l
      → Waiting i start (search_steps bound m k + 1 + 5 * suc l) (at_place (begun call) m) (out l).memory
  unfolding search_steps
  waits_up l le taken U =
      let f = finds_at (suc l) (omega arith) in
      let x = at_place (begun call) m in
      rw U.out_is (record {
        process = pose call Lock (suc l) (path (suc l)) preds (m.counts.nodes + 1) New effect;
        run = run_same (omega arith) (run_on (run_on U.run
            (rises N P i start effect x preds bound (omega arith) (walked + 5 + 5 * l) l (path l) (out l) U le f
            (known l (omega arith)) (start + 1 + (walked + 5 + 5 * l))))
            (seeks N P i start effect x preds bound (omega arith) (walked + 5 + 5 * l) l (path l) (out l) U le f
            (known l (omega arith)) (start + 1 + (walked + 5 + 5 * l + 1))));
        waits = λ tick. waits N P i start effect x preds bound (omega arith) (walked + 5 + 5 * l) l (path l) (out l) U le f
            (known l (omega arith)) tick taken;
      })

  -- the answer is that of the bottom level
  answers : (l : ℕ) → l ≤ HMAX → (out l).answer ≡ o.answer
  unfolding insert_above
  answers zero le = ap (λ (r : Inserted). r.answer) out_zero
  answers (suc l) le = ap (λ (r : Inserted). r.answer) (out_next l (omega arith)) ∙ kept (out l) (out l).node
      ∙ answers l (omega arith)
    where
      kept : (r : Inserted) (n : Option ℕ) → (insert_above alone i bound r (path (suc l)) (suc l) n).answer ≡ r.answer
      kept r none = refl
      kept r (some n) = refl

  pub put_waits : (l : ℕ) → l ≤ h → ((j : ℕ) → j < l → lock m.nodes j (path j) ≡ 0) → lock m.nodes l (path l) ≢ 0
      → (l ≢ 0 → (put_h alone i bound m k call.value call.timestamp h).answer ≡ New)
      → Waiting i start (search_steps bound m k + 1 + 5 * l) (at_place (begun call) m)
      (left_below i bound m k call.value call.timestamp h l)
  unfolding put_h left_below
  put_waits zero le free taken new =
      subst (λ n. Waiting i start n (at_place (begun call) m) m) (sym (add-zero (search_steps bound m k + 1))) (waits_low taken)
  put_waits (suc l) le free taken new = by (low (free 0 (omega arith))).1
    where
      by : Settles m i (path 0) o ⊎ Makes m call i (path 0) o
          → Waiting i start (search_steps bound m k + 1 + 5 * suc l) (at_place (begun call) m) (out l).memory
      by (inl s) = absurd (new_not_plain (subst Plain (sym (answers h P.top_high) ∙ new (λ e. omega arith)) s.answer))
      by (inr M) = waits_up l le taken (all_up M l (omega arith) (λ j jl. free j (omega arith)))

  -- ---- the whole put, where the locks that it needs are free

  module _ (free : Free bound m k h (put_h alone i bound m k call.value call.timestamp h).answer) where
    free₀ : lock m.nodes 0 (path 0) ≡ 0
    free₀ = free 0 (omega arith) (λ ne. absurd (ne refl))

    all_free : Makes m call i (path 0) o → (l : ℕ) → l ≤ h → lock m.nodes l (path l) ≡ 0
    unfolding put_h
    all_free M l le = free l le (λ _. answers h P.top_high ∙ M.answer)

    pub put_ends : Ends (put_h alone i bound m k call.value call.timestamp h)
    unfolding put_h
    put_ends = by (low free₀).1
      where
        by : Settles m i (path 0) o ⊎ Makes m call i (path 0) o → Ends (out h)
        by (inl s) = rw (settled_out s h P.top_high) (settled_ends free₀ s)
        by (inr M) = made_ends (all_up M h (omega arith) (all_free M))

    -- ---- its locks are free again

    abbrev LocksKept : Memory → Type 0
    LocksKept M = (l x : ℕ) → l ≤ top_level → (x ≤ m.counts.nodes → lock M.nodes l x ≡ lock m.nodes l x)
        × (m.counts.nodes < x → x ≤ M.counts.nodes → lock M.nodes l x ≡ 0)

    settled_locks : Settles m i (path 0) o → LocksKept (release o.memory (path 0) 0)
    settled_locks s l x l5 = (kept, λ lt le. absurd (omega (arith, s.same)))
      where
        q : ℕ
        q = path 0

        used : q ≤ m.counts.nodes
        used = (finds_at 0 (omega arith)).spot.used

        kept : x ≤ m.counts.nodes → lock (release o.memory q 0).nodes l x ≡ lock m.nodes l x
        kept hx = by_eq x q
            (λ ex. by_eq l 0
            (λ el. rw (ex, el) (word_same o.memory.nodes q 10 0 (omega arith) (omega (arith, s.size, N.size, N.room, used))
            ∙ sym free₀))
            (λ nl. other (λ e. omega arith)))
            (λ nx. other (λ e. absurd (nx e)))
          where
            other : (x ≡ q → 10 + l ≢ 10) → lock (release o.memory q 0).nodes l x ≡ lock m.nodes l x
            other ne =
                word_other o.memory.nodes q x 10 (10 + l) 0 (omega arith) (omega arith) ne ∙ s.locks l x l5
                ∙ word_other m.nodes q x 10 (10 + l) (i + 1) (omega arith) (omega arith) ne

    made_locks : Up h → LocksKept (out h).memory
    made_locks U = rw U.out_is (λ l x l5. (
      λ hx. U.risen.locks l x l5 hx,
      λ lt le. rw (own U.held.counts.nodes m.counts.nodes U.risen.nodes_is x lt le) (U.risen.own_locks l l5),
    ))
      where
        own : (a b : ℕ) → a ≡ b + 1 → (x : ℕ) → b < x → x ≤ a → x ≡ b + 1
        own a b e x lt le = omega arith

    pub put_locks : LocksKept (put_h alone i bound m k call.value call.timestamp h).memory
    unfolding put_h
    put_locks = by (low free₀).1
      where
        by : Settles m i (path 0) o ⊎ Makes m call i (path 0) o → LocksKept (out h).memory
        by (inl s) = rw (settled_out s h P.top_high) (settled_locks s)
        by (inr M) = made_locks (all_up M h (omega arith) (all_free M))
