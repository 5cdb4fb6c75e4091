-- Any step of a process in order is good: the tests of every step pass, and each phase keeps the invariant.
use Prim.Native.Nat.{ℕ, zero, suc, ◌+◌, ◌≤◌, ◌<◌}
use mathlib.Core.Bool.{Bool, true, false, ◌&&◌, ◌||◌}
use mathlib.Core.Logic.{◌≢◌}
use mathlib.Core.Path.{◌≡◌, sym, subst}
use native.Mathlib.Omega.{arith}
use lib.Dec.{T, leb, le→leb}
use Rattle.linearizability.specs.Types.{Idle, Phase, Walk, Read, Seek, Lock, Check, Update, Make, Link, Release, Follow, Class, Inserted, OtherPut, Hit, Miss, Scanned, None, Process}
use Rattle.model.specs.Layout.{Memory, top_level, levels}
use Rattle.model.specs.Map.{Map}
use Rattle.model.specs.Phases.{Moved, no_effect, lawful_effect, lawful_at, lawful_process, phase_of, transition_of}
use Rattle.model.specs.Roles.{is_put, role_of, plays, put_class, class_of, from_put}
use Rattle.model.proofs.Tests.{if-by, is_true, T-absurd, eq→eqb}
use Rattle.linearizability.proofs.Invariant.{Ghost, Nodes, Book, At, Stage, StageOf, Settled, AtPhase, Scans, Fits}
use Rattle.linearizability.proofs.Step.{GoodStep, walk_good, read_good, seek_good}
use Rattle.linearizability.proofs.Locking.{lock_good, check_good, release_good}
use Rattle.linearizability.proofs.Update.{update_good}
use Rattle.linearizability.proofs.Make.{make_good}
use Rattle.linearizability.proofs.Link.{link_good}
use Rattle.linearizability.proofs.Following.{ScanDoes, follow_good, walk_scans, scan_by}

module _ (m : Memory) (g : Ghost) (i : ℕ) (pr : Process) (tick : ℕ) (b : Map) (N : Nodes m g) (B : Book m b) where
  -- ---- the tests of every step

  abbrev pub Basic : Type 0
  Basic = (pr.cursor.level < levels) × (pr.cursor.pred ≤ m.counts.nodes)

  at_basic : At m g pr.cursor.level pr.cursor.pred pr.call.key → Basic
  at_basic a = (omega (arith, a.up, N.high pr.cursor.pred a.used), a.used)

  ok_basic : (ph : Phase) → AtPhase m g i pr ph → Basic
  ok_basic Walk c = at_basic c.0.spot
  ok_basic Read c = (omega (arith, c.0.low), c.0.used)
  ok_basic Seek c = at_basic c.0.spot
  ok_basic Lock c = at_basic c.0.spot
  ok_basic Check c = at_basic c.0.spot
  ok_basic Update c = at_basic c.0.spot
  ok_basic Make c = at_basic c.0.spot
  ok_basic Link c = at_basic c.0.spot
  ok_basic Release c = at_basic c.0.spot
  ok_basic Follow c = (omega (arith, c.0), c.1.0)

  pub basic : Fits m g i pr → pr.call.kind ≢ Idle → Basic
  basic f nn = ok_basic f.phase (f.ok nn)

  settled_right : (a : Class) → Settled m g i pr.call.top pr.cursor.made pr.call.key pr.cursor.level a
      → T (put_class a)
  settled_right Inserted c = tt
  settled_right OtherPut c = tt
  settled_right Hit c = c
  settled_right Miss c = c
  settled_right Scanned c = c

  or_left : (a c : Bool) → T a → T (a || c)
  or_left true c t = tt
  or_left false c t = absurd t

  or_right : (a c : Bool) → T c → T (a || c)
  or_right true c t = tt
  or_right false c t = t

  unset_right : (c : Bool) → pr.effect.tick ≡ 0 → T (no_effect pr.effect || c)
  unset_right c e = or_left (no_effect pr.effect) c (eq→eqb pr.effect.tick 0 e)

  -- no effect yet, or an answer that a put gives
  stage_right : (l : ℕ) → Stage m g i pr.effect pr.call.top pr.cursor.made pr.call.key l
      → T (no_effect pr.effect || from_put pr.effect.answer)
  stage_right zero c = unset_right (from_put pr.effect.answer) c.0
  stage_right (suc l) c = or_right (no_effect pr.effect) (from_put pr.effect.answer) (rw c.1 tt)

  effect_right : (ph : Phase) → AtPhase m g i pr ph → T (lawful_effect pr.call.kind (role_of ph) pr.effect)
  effect_right Walk c = unset_right (is_put pr.call.kind && from_put pr.effect.answer) c.1.0
  effect_right Read c = eq→eqb pr.effect.tick 0 c.1
  effect_right Seek c = stage_right pr.cursor.level c.1
  effect_right Lock c = stage_right pr.cursor.level c.1
  effect_right Check c = stage_right pr.cursor.level c.1
  effect_right Update c = stage_right pr.cursor.level c.1
  effect_right Make c = stage_right pr.cursor.level c.1
  effect_right Link c = stage_right pr.cursor.level c.1
  effect_right Release c = settled_right (class_of pr.effect.answer) c.3
  effect_right Follow c = eq→eqb pr.effect.tick 0 c.2.0

  lawful : Fits m g i pr → pr.call.kind ≢ Idle → T (lawful_process pr m)
  unfolding lawful_process lawful_at
  lawful f nn =
      let q = basic f nn in
      rw (
        is_true (leb pr.cursor.level top_level) (le→leb pr.cursor.level top_level (omega arith)),
        is_true (leb pr.cursor.pred m.counts.nodes) (le→leb pr.cursor.pred m.counts.nodes q.1),
        f.phase_is,
        is_true (plays pr.call.kind (role_of f.phase)) (f.role nn),
        is_true (lawful_effect pr.call.kind (role_of f.phase) pr.effect) (effect_right f.phase (f.ok nn)),
      ) tt

  -- ---- the phase

  -- at level 0 a put has no effect yet
  stage₀ : pr.cursor.level ≡ 0 → StageOf m g i pr → (pr.effect.tick ≡ 0) × (pr.effect.answer ≡ None)
  stage₀ el c = subst (λ l. Stage m g i pr.effect pr.call.top pr.cursor.made pr.call.key l) el c

  phase_good : (ph : Phase) → tick ≢ 0 → pr.cursor.phase ≡ ph → pr.call.kind ≢ Idle
      → T (plays pr.call.kind (role_of ph)) → AtPhase m g i pr ph
      → GoodStep m g i pr tick b (phase_of ph (i + 1) tick pr m)
  unfolding phase_of
  phase_good Walk tp ep nn w c = walk_good m g i pr tick b N B nn c.0 c.1
  phase_good Read tp ep nn w c = read_good m g i pr tick b N B w c.0 c.1
  phase_good Seek tp ep nn w c = seek_good m g i pr tick b N B w c.0 c.1
  phase_good Lock tp ep nn w c = lock_good m g i pr tick b N B w ep c.0 c.1
  phase_good Check tp ep nn w c = check_good m g i pr tick b N B w c.0 c.1 c.2
  phase_good Update tp ep nn w c =
      let u = stage₀ c.3 c.1 in update_good m g i pr tick b N B tp w u.0 u.1 c.0 c.2 c.3 c.4
  phase_good Make tp ep nn w c =
      let u = stage₀ c.3 c.1 in make_good m g i pr tick b N B tp w u.0 u.1 c.0 c.2 c.3 c.4
  phase_good Link tp ep nn w c = link_good m g i pr tick b N B w c.0 c.2 c.4 c.3 c.1
  phase_good Release tp ep nn w c = release_good m g i pr tick b N B w c.1 c.0 c.2 c.3
  phase_good Follow tp ep nn w c = (follow_good m g i pr tick b N B w c.0 c.1 c.2).0

  pub transition_good : tick ≢ 0 → Fits m g i pr → pr.call.kind ≢ Idle → GoodStep m g i pr tick b (transition_of (i + 1) tick pr m)
  unfolding transition_of
  transition_good tp f nn = if-by (GoodStep m g i pr tick b) (lawful_process pr m)
      (λ t. subst (λ ph. GoodStep m g i pr tick b (phase_of ph (i + 1) tick pr m)) (sym f.phase_is)
      (phase_good f.phase tp f.phase_is nn (f.role nn) (f.ok nn)))
      (λ t. absurd (T-absurd (lawful_process pr m) (lawful f nn) t))

  -- a scan's move comes nearer, shows, or ends
  pub transition_scans : Fits m g i pr → pr.call.kind ≢ Idle → Scans pr → ScanDoes m pr b (transition_of (i + 1) tick pr m).move
  unfolding transition_of phase_of
  transition_scans f nn s = if-by (λ (r : Moved). ScanDoes m pr b r.move) (lawful_process pr m)
      (λ t. subst (λ ph. ScanDoes m pr b (phase_of ph (i + 1) tick pr m).move) (sym f.phase_is)
      (scan_by (λ ph. AtPhase m g i pr ph → ScanDoes m pr b (phase_of ph (i + 1) tick pr m).move) pr.call.kind f.phase s (f.role nn)
      (λ c. walk_scans m g i pr tick b N B s c.0) (λ c. (follow_good m g i pr tick b N B s c.0 c.1 c.2).1) (f.ok nn)))
      (λ t. absurd (T-absurd (lawful_process pr m) (lawful f nn) t))
