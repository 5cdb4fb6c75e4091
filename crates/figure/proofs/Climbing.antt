-- One level up: a put that stands at its release with its node linked below does what the figure's insert does there, up to the
-- next release. Said once for every level.
use Prim.Native.Nat.{ℕ, suc, ◌+◌, ◌≤◌, ◌<◌}
use mathlib.Core.Bool.{Bool, true, false, not, ◌||◌}
use mathlib.Core.List.{List}
use mathlib.Core.Logic.{◌≢◌}
use mathlib.Core.Option.{some}
use mathlib.Core.Path.{◌≡◌, refl, sym, ap, ◌∙◌}
use native.Mathlib.Numerals.{add-one}
use native.Mathlib.Omega.{arith}
use lib.Dec.{T, eqb, leb, ltb, leb→le, ltb→lt}
use lib.ListN.{get_or}
use Rattle.std.specs.Prelude.{if◌then◌else◌}
use Rattle.model.specs.Layout.{Memory, top_level, next, lock}
use Rattle.model.specs.Numbers.{no_version}
use Rattle.model.specs.Phases.{moved, at, ended, used_node, ahead, check_by, add_link, link_of, rise, released, freed, release_of, no_effect, lawful_at, phase_of, transition_of}
use Rattle.model.specs.Calls.{process_after}
use Rattle.model.specs.Roles.{from_put}
use Rattle.model.proofs.Tests.{if_yes, if_no, by_test, ne→neqb}
use Rattle.model.proofs.Words.{word_node}
use Rattle.linearizability.proofs.Invariant.{Ghost, Nodes}
use Rattle.linearizability.proofs.Step.{within_T}
use Rattle.figure.specs.Types.{Put, Phase, Seek, Lock, Check, Update, Make, Link, Release, New, Call, Process, Ahead, Wait, Go}
use Rattle.figure.specs.Figure.{Pair, Inserted, link, Locked, release, acquire, alone, find_lock, insert, insert_above}
use Rattle.figure.proofs.Search.{Finds}
use Rattle.figure.proofs.Runs.{Place, at_place, Run, run_one, run_on, run_same}
use Rattle.figure.proofs.Walking.{Asked, pose, transition_is, ahead_stop}
use Rattle.figure.proofs.Writing.{link_is}
use Rattle.figure.proofs.Locking.{key_kept, Ready, finds_ready, work_transition, held_ready, seek_on, lock_waits, to_check, check_transition, find_lock_lem}
use Rattle.figure.proofs.Rising.{Risen, linked_risen}

or_right : (a c : Bool) → T c → T (a || c)
or_right true c t = tt
or_right false c t = t

-- a test that fails
pub above : (a b : ℕ) → b ≤ a → T (not (ltb a b))
above a b le = by_test (ltb a b) (λ t. absurd (omega (arith, ltb→lt a b t))) (λ t. t)

pub beneath : (a b : ℕ) → b < a → T (not (leb a b))
beneath a b lt = by_test (leb a b) (λ t. absurd (omega (arith, leb→le a b t))) (λ t. t)

module _ {call : Call} (P : Asked Put call) (i : ℕ) (preds : List ℕ) (made effect : ℕ) where
  -- at its release, its node linked
  abbrev pub releases : (l q : ℕ) → Process
  releases l q = pose call Release l q preds made New effect

  pub release_transition : (m : Memory) (l q tick : ℕ) → l ≤ top_level → q ≤ m.counts.nodes
      → transition_of (i + 1) tick (releases l q) m
      ≡ freed (releases l q).cursor m (rise call (releases l q).cursor preds m (ended call New no_version effect))
  unfolding phase_of release_of released lawful_at
  release_transition m l q tick l5 used = transition_is (i + 1) tick (releases l q) m l5 used (rw P.kind_is tt)

module _ {m : Memory} {g : Ghost} (N : Nodes m g) {call : Call} (P : Asked Put call) (i start effect : ℕ) (x : Place)
    (preds : List ℕ) where
  abbrev k : ℕ
  k = call.key

  abbrev made : ℕ
  made = m.counts.nodes + 1

  -- After so many steps the put stands at its release of level l, its node linked there behind q; `out` is what the figure has
  -- then left, with the lock freed.
  pub record Climbed (steps l q : ℕ) (out : Inserted) : Type 0 where
    pub held : Memory
    pub run : Run i (start + 1) steps x (at_place (releases P i preds made effect l q) held)
    pub used : q ≤ held.counts.nodes
    pub out_is : out ≡ record { memory = release held q l; answer = New; node = some made }
    pub risen : Risen m (release held q l) k l

  module _ (bound : ℕ) (pos : 1 ≤ bound) (steps l q : ℕ) {r : Pair} (out : Inserted) (C : Climbed steps l q out)
      (higher : suc l ≤ call.top)
      (f : Finds m g k (suc l) r) (known : get_or preds (suc l) 0 ≡ r.pred) where
    abbrev L : ℕ
    L = suc l

    abbrev p : ℕ
    p = r.pred

    abbrev M : Memory
    M = release C.held q l

    R : Risen m M k l
    R = C.risen

    abbrev S : Phase → Process
    S ph = pose call ph L p preds made New effect

    Q : Ready m k L p
    Q = finds_ready N P.key_high f

    next_M : next M.nodes L p ≡ next m.nodes L p
    next_M = R.links L p (omega arith) (omega arith) Q.used

    -- what findLock needs, where the levels below are done
    Q-M : Ready M k L p
    Q-M = record {
      level = omega arith;
      used = omega (arith, R.nodes_is, Q.used);
      linked = rw next_M (λ ne. omega (arith, Q.linked ne, R.nodes_is));
      stop = rw (next_M, key_kept m M (next m.nodes L p) (λ ne. R.keys (next m.nodes L p) (Q.linked ne))) Q.stop;
    }

    abbrev M₁ : Memory
    M₁ = acquire alone i M p L

    lawful : T (no_effect (record { answer = New; tick = effect }) || from_put New)
    lawful = or_right (no_effect (record { answer = New; tick = effect })) (from_put New) tt

    -- release, and up
    pub rises : (tick : ℕ)
        → Run i tick 1 (at_place (releases P i preds made effect l q) C.held)
        (at_place (pose call Seek L p preds made New effect) M)
    unfolding rise freed process_after
    rises tick =
        let h = C.held in
        let c = (releases P i preds made effect l q).cursor in
        let z = get_or preds (l + 1) 0 in
        let e : z ≡ p = ap (λ j. get_or preds j 0) (add-one l) ∙ known in
        let up : rise call c preds h (ended call New no_version effect) ≡ Go (S Seek).cursor =
        if_no (ltb top_level call.top) _ _ (above top_level call.top P.top_high)
        ∙ if_no (leb call.top l) _ _ (beneath call.top l higher)
        ∙ if_no (ltb h.counts.nodes z) _ _ (above h.counts.nodes z (omega (arith, e, Q-M.used)))
        ∙ ap (λ j. Go (at c Seek j (get_or preds j 0))) (add-one l) ∙ ap (λ y. Go (at c Seek L y)) known in
        run_one (release_transition P i preds made effect h l q tick (omega arith) C.used ∙ ap (λ v. freed c h v) up) tt

    -- seek
    pub seeks : (tick : ℕ)
        → Run i tick 1 (at_place (pose call Seek L p preds made New effect) M)
        (at_place (pose call Lock L p preds made New effect) M)
    seeks = seek_on P i made New effect lawful Q-M preds

    -- a lock that is held
    pub waits : (tick : ℕ) → lock m.nodes L p ≢ 0
        → transition_of (i + 1) tick (pose call Lock L p preds made New effect) M ≡ moved M Wait
    waits tick taken = lock_waits P i made New effect lawful Q-M preds tick
        (λ e. taken (sym (R.locks L p (omega arith) Q.used) ∙ e))

    -- seek and lock
    locks : (tick : ℕ) → lock m.nodes L p ≡ 0 → Run i tick 2 (at_place (S Seek) M) (at_place (S Check) M₁)
    locks tick free = to_check P i made New effect lawful Q-M preds tick (R.locks L p (omega arith) Q.used ∙ free)

    -- check
    checks : (tick : ℕ) → Run i tick 1 (at_place (S Check) M₁) (at_place (S Link) M₁)
    unfolding check_by process_after
    checks tick =
        let H = held_ready P i made New effect lawful Q-M preds in
        let goal : Ahead → Type 0 = λ a. check_by (S Check).cursor M₁ a ≡ moved M₁ (Go (S Link).cursor) in
        let to-link : (bottom : Phase)
        → moved M₁ (Go (at (S Check).cursor (if eqb L 0 then bottom else Link) L p)) ≡ moved M₁ (Go (S Link).cursor) =
        λ bottom. ap (λ ph. moved M₁ (Go (at (S Check).cursor ph L p)))
        (if_no (eqb L 0) bottom Link (ne→neqb L 0 (omega arith))) in
        run_one (check_transition P i made New effect lawful Q-M preds tick (ahead M₁ L p k) refl
        ∙ ahead_stop M₁ k P.key_high L p H.linked goal H.stop (to-link Update) (to-link Make)) tt

    abbrev held' : Memory
    held' = add_link (S Link).cursor M₁

    -- link
    links : (tick : ℕ) → Run i tick 1 (at_place (S Link) M₁) (at_place (S Release) held')
    unfolding phase_of link_of process_after
    links tick = run_one (work_transition P i made New effect lawful M₁ Link L p preds refl (omega arith) Q-M.used tick
        ∙ if_yes (used_node M₁ made) _ _ (within_T {low = 1} {high = M.counts.nodes} {n = made} (omega arith)
        (omega (arith, R.nodes_is)))) tt

    -- ---- the figure's insert

    own_free : lock M₁.nodes L made ≡ 0
    own_free = word_node M.nodes p made (10 + L) (10 + L) (i + 1) (omega arith) (omega arith) (omega (arith, Q.used))
        ∙ R.own_locks L (omega arith)

    insert_is : insert alone i bound M p L made ≡ release held' p L
    unfolding insert
    insert_is = ap after (ap (λ z. find_lock alone i bound M p z L) R.key_is
        ∙ find_lock_lem P i made New effect lawful Q-M preds bound pos)
        ∙ ap (λ (z : Memory). release z p L) (link_is (S Link).cursor M₁ (omega arith) own_free)
      where
        after : Locked → Memory
        after r = release (link r.memory r.pred L made) r.pred L

    above_is : insert_above alone i bound out p L out.node
        ≡ record { memory = release held' p L; answer = New; node = some made }
    unfolding insert_above
    above_is = ap (λ (o : Inserted). insert_above alone i bound o p L o.node) C.out_is
        ∙ ap (λ (z : Memory). record { memory = z; answer = New; node = some made }) insert_is

    pub climb : lock m.nodes L p ≡ 0 → Climbed (steps + 5) L p (insert_above alone i bound out p L out.node)
    climb free = record {
      held = held';
      run = run_same (omega arith) (run_on C.run
          (run_on (rises (start + 1 + steps)) (run_on (locks (start + 1 + steps + 1) free)
          (run_on (checks (start + 1 + steps + 1 + 2)) (links (start + 1 + steps + 1 + 2 + 1))))));
      used = unfold add_link in Q-M.used;
      out_is = above_is;
      risen = linked_risen m M k l i p R (omega arith) Q.used free;
    }
