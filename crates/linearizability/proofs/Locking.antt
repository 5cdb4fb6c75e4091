-- The steps that take and give back a lock: lock, check and release. Nodes, keys and links stay; who else holds a lock
-- keeps it.
use Prim.Native.Nat.{ℕ, zero, suc, ◌+◌, ◌≤◌}
use mathlib.Core.Logic.{◌≢◌, inl, inr}
use mathlib.Core.Path.{◌≡◌, refl, sym, ap, ◌∙◌, subst}
use native.Mathlib.Omega.{arith}
use native.Mathlib.Numerals.{add-one}
use lib.ListN.{get_or}
use Rattle.linearizability.specs.Types.{Phase, Seek, Lock, Check, Update, Make, Link, Class, Inserted, OtherPut, Hit, Miss, Scanned, Call, Cursor, Process, Ahead, Unused, Less, Equal, Past, Move, Wait, Go, End}
use Rattle.model.specs.Layout.{Memory, top_level, top, next, lock}
use Rattle.model.specs.Map.{Map}
use Rattle.model.specs.Phases.{Moved, at, own_version, ahead, with_holder, lock_of, check_by, check_of, rise, released, freed, release_of}
use Rattle.model.specs.Calls.{process_after}
use Rattle.model.specs.Roles.{class_of}
use Rattle.model.proofs.Tests.{if-eq, if-le, if-lt}
use Rattle.linearizability.proofs.Invariant.{Ghost, Nodes, Book, At, PlacedOf, Made, Stage, StageOf, Settled, SettledOf, HoldsOf, Puts, Fits, fits_at, Climbs}
use Rattle.linearizability.proofs.Frame.{Grown, Frame, placed_kept, stage_of_kept, stage_kept}
use Rattle.linearizability.proofs.Alike.{lock_alike, lock_set, lock_book, lock_frame, nodes_kept, grown_alike, risen_alike, risen_same}
use Rattle.linearizability.proofs.Step.{Does, Good, GoodStep, Related, related, link_in, not_unused, along, level6, idle_fits, still, goes}

module _ (m : Memory) (g : Ghost) (i : ℕ) (pr : Process) (tick : ℕ) (b : Map) (N : Nodes m g) (B : Book m b) where
  abbrev call : Call
  call = pr.call

  abbrev c : Cursor
  c = pr.cursor

  abbrev R : Moved → Type 0
  R r = GoodStep m g i pr tick b r

  -- ---- lock

  pub lock_good : Puts pr → c.phase ≡ Lock → PlacedOf m g pr → StageOf m g i pr → R (lock_of c (i + 1) m)
  unfolding lock_of process_after
  lock_good w ep q s = if-eq R (lock m.nodes c.level c.pred) 0
      (λ e.
      let l6 = level6 m g b N B q.spot in
      let a = lock_alike m g N c (i + 1) l6 q.spot.used in
      let f : (j : ℕ) → Frame m (with_holder m c (i + 1)) g g j = λ j. lock_frame m g N c (i + 1) l6 q.spot.used j (omega arith) in
      record {
        node_words_lem = a.length_is;
        version_words_lem = refl;
        g' = g;
        b' = b;
        nodes = nodes_kept a N;
        book = lock_book m g N c (i + 1) l6 q.spot.used B;
        fits = fits_at Check refl w
            (placed_kept (f i).grown q, stage_of_kept (f i).grown pr s, lock_set m g N c (i + 1) l6 q.spot.used ∙ add-one i);
        frame = λ j ne. f j;
        does = (refl, refl);
        risen = risen_same a (λ x k. record { kind = k.kind; answer = k.answer; made = k.made });
      })
      (λ ne. still m g i pr tick b N B Wait (fits_at Lock ep w (q, s)) refl
      (risen_same (Rattle.linearizability.proofs.Alike.alike_refl m g) (λ x k. k)))

  -- ---- the lock given back

  abbrev free : Memory
  free = with_holder m c 0

  free_grown : PlacedOf m g pr → Grown m free g g i
  free_grown q = grown_alike i (lock_alike m g N c 0 (level6 m g b N B q.spot) q.spot.used)

  free_good : (v : Move) → PlacedOf m g pr → HoldsOf m i pr → Fits free g i (process_after tick pr v) → Does m pr tick b b v
      → ((x : ℕ) → x ≤ m.counts.nodes → Climbs pr x → ¬ (Climbs (process_after tick pr v) x) → g.high x ≡ suc (top m.nodes x))
      → Good m g i pr tick b v free
  free_good v q h f d give =
      let l6 = level6 m g b N B q.spot in
      let a = lock_alike m g N c 0 l6 q.spot.used in
      record {
        node_words_lem = a.length_is;
        version_words_lem = refl;
        g' = g;
        b' = b;
        nodes = nodes_kept a N;
        book = lock_book m g N c 0 l6 q.spot.used B;
        fits = f;
        frame = λ j ne. lock_frame m g N c 0 l6 q.spot.used j (λ e. clash j ne (sym h ∙ e));
        does = d;
        risen = risen_alike a give;
      }
    where
      clash : (j : ℕ) → j ≢ i → suc i ≡ suc j → ⊥
      clash j ne e = omega arith

  -- the put goes on to seek, from p at level l, with what it has in hand
  seek_again : (l p : ℕ) → Puts pr → PlacedOf m g pr → HoldsOf m i pr → At m g l p call.key
      → Stage m g i pr.effect call.top c.made call.key l → Good m g i pr tick b (Go (at c Seek l p)) free
  unfolding process_after
  seek_again l p w q h a s = free_good (Go (at c Seek l p)) q h
      (fits_at Seek refl w (
        placed_kept (free_grown q) (record { top5 = q.top5; six = q.six; spot = a; memo = q.memo }),
        stage_kept (free_grown q) pr.effect call.top c.made call.key l s,
      ))
      (refl, refl)
      (λ x u k no_more. absurd (no_more (record { kind = k.kind; answer = k.answer; made = k.made })))

  -- ---- check

  -- above level 0 no other node has the key: the put has made the one that has it
  no_twin : (l : ℕ) → c.level ≡ suc l → PlacedOf m g pr → Stage m g i pr.effect call.top c.made call.key (suc l)
      → (y : ℕ) → Related m c.level c.pred call.key (Equal y) → ⊥
  no_twin l el q s y r =
      let z = next m.nodes c.level c.pred in
      let n = (link_in m g b N B q.spot r.1.some).0 in
      let f = s.3 in
      let e : z ≡ c.made = N.inj z c.made n.0 f.used (r.1.key_is ∙ sym f.key_is) in
      omega (arith, n.1, ap g.high e, f.height_is)

  to_phase : (ph : Phase)
      → Fits m g i (record { call = call; cursor = at c ph c.level c.pred; effect = pr.effect; preds = pr.preds })
      → Good m g i pr tick b (Go (at c ph c.level c.pred)) m
  unfolding process_after
  to_phase ph f = goes m g i pr tick b N B (at c ph c.level c.pred) refl f

  -- the phase that a check at this level goes to
  abbrev Goes : (bottom : Phase) → Phase → Type 0
  Goes bottom ph = Good m g i pr tick b (Go (at c ph c.level c.pred)) m

  stage_up : (l : ℕ) → c.level ≡ l → l ≢ 0 → StageOf m g i pr
      → (j : ℕ) × (l ≡ suc j) × Stage m g i pr.effect call.top c.made call.key (suc j)
  stage_up zero el ne s = absurd (ne refl)
  stage_up (suc j) el ne s = (j, refl, subst (λ l. Stage m g i pr.effect call.top c.made call.key l) el s)

  check_by_good : (a : Ahead) → Related m c.level c.pred call.key a → Puts pr → PlacedOf m g pr
      → StageOf m g i pr → HoldsOf m i pr
      → R (check_by c m a)
  unfolding check_by
  check_by_good Unused r w q s h = absurd (not_unused m g b N B q.spot r)
  check_by_good (Less y) r w q s h = seek_again c.level y w q h (along m g b N B q.spot r) s
  check_by_good (Equal y) r w q s h = if-eq (Goes Update) c.level 0
      (λ el. to_phase Update (fits_at Update refl w (q, s, h, el, r.1)))
      (λ ne. let u = stage_up c.level refl ne s in absurd (no_twin u.0 u.1 q u.2 y r))
  check_by_good Past r w q s h = if-eq (Goes Make) c.level 0
      (λ el. to_phase Make (fits_at Make refl w (q, s, h, el, r)))
      (λ ne. to_phase Link (fits_at Link refl w (q, s, h, omega arith, r)))

  pub check_good : Puts pr → PlacedOf m g pr → StageOf m g i pr → HoldsOf m i pr → R (check_of call c m)
  unfolding check_of
  check_good w q s h =
      check_by_good (ahead m c.level c.pred call.key) (related m c.level c.pred call.key) w q s h

  -- ---- release

  -- the call ends with the answer it had
  end_good : Puts pr → pr.effect.tick ≢ 0 → PlacedOf m g pr → HoldsOf m i pr
      → ((x : ℕ) → Climbs pr x → g.high x ≡ suc (top m.nodes x))
      → Good m g i pr tick b (End pr.effect.answer (own_version call) pr.effect.tick) free
  unfolding process_after
  end_good w ne q h give = free_good (End pr.effect.answer (own_version call) pr.effect.tick) q h (idle_fits free g i)
      (refl, inr (inl (w, ne, refl, refl, refl))) (λ x u k no_more. give x k)

  rise_good : class_of pr.effect.answer ≡ Inserted → Puts pr → pr.effect.tick ≢ 0 → PlacedOf m g pr → HoldsOf m i pr
      → (c.level ≤ call.top) × Made m g i c.made call.key call.top (suc c.level)
      → R (freed c m (rise call c pr.preds m (End pr.effect.answer (own_version call) pr.effect.tick)))
  unfolding rise freed
  rise_good ec w ne q h s =
      let up = get_or pr.preds (c.level + 1) 0 in
      let P : Move → Type 0 = λ v. R (freed c m v) in
      if-lt P top_level call.top (λ t. absurd (omega (arith, q.top5))) λ t.
      if-le P call.top c.level
      (λ ge. end_good w ne q h (λ x k.
      subst (λ y. g.high y ≡ suc (top m.nodes y)) k.made (let f = s.1 in omega (arith, f.height_is, f.top_is, s.0)))) λ lt.
      let a : At m g (c.level + 1) up call.key = q.memo (c.level + 1) (omega (arith, q.top5)) in
      if-lt P m.counts.nodes up
      (λ u. absurd (omega (arith, a.used)))
      (λ u. seek_again (c.level + 1) up w q h a (rw (add-one c.level) (ne, ec, lt, s.1)))

  other≢inserted : OtherPut ≡ Inserted → ⊥
  other≢inserted e = let z : ◌≡◌ {A = ℕ} 0 1 = cc in omega arith

  release_by_good : (k : Class) → class_of pr.effect.answer ≡ k → Puts pr → pr.effect.tick ≢ 0 → PlacedOf m g pr
      → HoldsOf m i pr
      → Settled m g i call.top c.made call.key c.level k
      → R (freed c m (released call c pr.effect pr.preds m))
  unfolding released freed
  release_by_good Inserted ec w ne q h s = rw ec (rise_good ec w ne q h s)
  release_by_good OtherPut ec w ne q h s = rw ec (end_good w ne q h (λ x k. absurd (other≢inserted (sym ec ∙ k.answer))))
  release_by_good Hit ec w ne q h s = absurd s
  release_by_good Miss ec w ne q h s = absurd s
  release_by_good Scanned ec w ne q h s = absurd s

  pub release_good : Puts pr → pr.effect.tick ≢ 0 → PlacedOf m g pr → HoldsOf m i pr → SettledOf m g i pr
      → R (release_of call c pr.effect pr.preds m)
  unfolding release_of
  release_good w ne q h s = release_by_good (class_of pr.effect.answer) refl w ne q h s
