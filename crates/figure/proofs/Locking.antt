-- Where the predecessor is found already and its lock is free, seek, lock and check do what the figure's findLock does: one round.
use Prim.Native.Nat.{ℕ, zero, suc, ◌+◌, ◌≤◌, ◌<◌}
use mathlib.Core.Bool.{◌||◌}
use mathlib.Core.List.{List}
use mathlib.Core.Logic.{◌≢◌}
use mathlib.Core.Path.{◌≡◌, refl, sym, ap, ◌∙◌, subst}
use native.Mathlib.Omega.{arith}
use lib.Dec.{T, eqb, leb}
use Rattle.model.specs.Layout.{Memory, key, next, lock, with_word, top_level}
use Rattle.model.specs.Phases.{moved, ahead, seek_by, seek_of, lock_of, check_by, check_of, no_effect, lawful_at, phase_of, transition_of}
use Rattle.model.specs.Calls.{process_after}
use Rattle.model.specs.Roles.{role_of, from_put}
use Rattle.model.proofs.Tests.{if_yes, if_no, by_eq, eq→eqb, ne→neqb}
use Rattle.model.proofs.Words.{same_key, word_field}
use Rattle.linearizability.proofs.Invariant.{Ghost, Nodes}
use Rattle.figure.specs.Types.{Put, Phase, Seek, Lock, Check, Writing, Answer, Call, Process, Ahead, Wait, Go}
use Rattle.figure.specs.Figure.{MAX, tail, key_of, Pair, acquire, alone, find_lock}
use Rattle.figure.proofs.Search.{Finds, find_stop, link_used, level5}
use Rattle.figure.proofs.Runs.{at_place, Run, run_one, run_on}
use Rattle.figure.proofs.Walking.{Asked, pose, transition_is, ahead_stop}

-- a key is what it was where the node's key word is
pub key_kept : (m m' : Memory) (y : ℕ) → (y ≢ tail → key m'.nodes y ≡ key m.nodes y) → key_of m' y ≡ key_of m y
unfolding key_of
key_kept m m' y e = by_eq y tail
    (λ z. if_yes {A = ℕ} (eqb y tail) _ _ (eq→eqb y tail z) ∙ sym (if_yes {A = ℕ} (eqb y tail) _ _ (eq→eqb y tail z)))
    (λ n. if_no {A = ℕ} (eqb y tail) _ _ (ne→neqb y tail n) ∙ e n ∙ sym (if_no {A = ℕ} (eqb y tail) _ _ (ne→neqb y tail n)))

-- q is in use on level l, and its link there leads to k or past it: where findLock takes the lock
pub record Ready (m : Memory) (k l q : ℕ) : Type 0 where
  pub level : l ≤ top_level
  pub used : q ≤ m.counts.nodes
  pub linked : next m.nodes l q ≢ 0 → next m.nodes l q ≤ m.counts.nodes
  pub stop : T (leb k (key_of m (next m.nodes l q)))

-- find stops so
pub finds_ready : {m : Memory} {g : Ghost} → Nodes m g → {k l : ℕ} {r : Pair} → k < MAX → Finds m g k l r → Ready m k l r.pred
finds_ready N k-max f = record {
  level = level5 N k-max f.spot;
  used = f.spot.used;
  linked = link_used N k-max f.spot;
  stop = rw f.succ_is at f.stop;
}

-- the phases of a put that stands under no lock or works under one; its effect is before it, or its answer one of a put's
abbrev Works : Phase → Type 0
Works ph = role_of ph ≡ Writing

module _ {call : Call} (P : Asked Put call) (i made : ℕ) (a : Answer) (e : ℕ)
    (lawful : T (no_effect (record { answer = a; tick = e }) || from_put a)) where
  lawful_at_lem : (ph : Phase) → Works ph → T (lawful_at Put (role_of ph) (record { answer = a; tick = e }))
  unfolding lawful_at
  lawful_at_lem ph w = rw w lawful

  pub work_transition : (m : Memory) (ph : Phase) (l q : ℕ) (preds : List ℕ) → Works ph → l ≤ top_level → q ≤ m.counts.nodes → (tick : ℕ)
      → transition_of (i + 1) tick (pose call ph l q preds made a e) m ≡ phase_of ph (i + 1) tick (pose call ph l q preds made a e) m
  work_transition m ph l q preds w l5 used tick = transition_is (i + 1) tick (pose call ph l q preds made a e) m l5 used
      (subst (λ kind. T (lawful_at kind (role_of ph) (record { answer = a; tick = e }))) (sym P.kind_is) (lawful_at_lem ph w))

  module _ {m : Memory} {l q : ℕ} (R : Ready m call.key l q) (preds : List ℕ) where
    abbrev k : ℕ
    k = call.key

    abbrev stands : Phase → Process
    stands ph = pose call ph l q preds made a e

    -- memory when the lock is taken
    abbrev held : Memory
    held = acquire alone i m q l

    next_held : next held.nodes l q ≡ next m.nodes l q
    next_held = word_field m.nodes q q (10 + l) (4 + l) (i + 1) (omega (arith, R.level)) (omega (arith, R.level))
        (omega arith)

    key_held : (x : ℕ) → key held.nodes x ≡ key m.nodes x
    key_held x = same_key (with_word m.nodes q (10 + l) (i + 1)) x m.nodes x
        λ f k. word_field m.nodes q x (10 + l) f (i + 1) (omega (arith, R.level)) (omega arith) (omega arith)

    -- nothing of this has changed then
    pub held_ready : Ready held k l q
    held_ready = record {
      level = R.level;
      used = R.used;
      linked = rw next_held R.linked;
      stop = rw (next_held, key_kept m held (next m.nodes l q) (λ _. key_held (next m.nodes l q))) R.stop;
    }

    pub seek_on : (tick : ℕ) → Run i tick 1 (at_place (stands Seek) m) (at_place (stands Lock) m)
    unfolding phase_of seek_of seek_by process_after
    seek_on tick = run_one (work_transition m Seek l q preds refl R.level R.used tick
        ∙ ahead_stop m k P.key_high l q R.linked
        (λ x. moved m (seek_by (stands Seek).cursor x) ≡ moved m (Go (stands Lock).cursor)) R.stop refl refl) tt

    lock_transition : (tick : ℕ) → transition_of (i + 1) tick (stands Lock) m ≡ lock_of (stands Lock).cursor (i + 1) m
    unfolding phase_of
    lock_transition = work_transition m Lock l q preds refl R.level R.used

    lock_on : (tick : ℕ) → lock m.nodes l q ≡ 0 → Run i tick 1 (at_place (stands Lock) m) (at_place (stands Check) held)
    unfolding lock_of process_after
    lock_on tick free = run_one (lock_transition tick
        ∙ if_yes (eqb (lock m.nodes l q) 0) _ _ (eq→eqb (lock m.nodes l q) 0 free)) tt

    -- a lock that is held
    pub lock_waits : (tick : ℕ) → lock m.nodes l q ≢ 0 → transition_of (i + 1) tick (stands Lock) m ≡ moved m Wait
    unfolding lock_of
    lock_waits tick taken = lock_transition tick ∙ if_no (eqb (lock m.nodes l q) 0) _ _ (ne→neqb (lock m.nodes l q) 0 taken)

    pub to_check : (tick : ℕ) → lock m.nodes l q ≡ 0 → Run i tick 2 (at_place (stands Seek) m) (at_place (stands Check) held)
    to_check tick free = run_on (seek_on tick) (lock_on (tick + 1) free)

    -- the second look, under the lock
    pub check_transition : (tick : ℕ) (x : Ahead) → ahead held l q k ≡ x
        → transition_of (i + 1) tick (stands Check) held ≡ check_by (stands Check).cursor held x
    unfolding phase_of check_of
    check_transition tick x z = work_transition held Check l q preds refl R.level R.used tick
        ∙ ap (λ o. check_by (stands Check).cursor held o) z

    pub find_lock_lem : (bound : ℕ) → 1 ≤ bound
        → find_lock alone i bound m q k l ≡ record { memory = held; pred = q; succ = next held.nodes l q }
    unfolding find_lock
    find_lock_lem zero pos = absurd (omega arith)
    find_lock_lem (suc bound) pos =
        rw (find_stop (suc bound) m q k l R.stop) (if_yes (leb k (key_of held (next held.nodes l q))) _ _ held_ready.stop)
