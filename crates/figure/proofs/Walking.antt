-- A walk that is ran alone finds what the figure's find and findAll find: a step for each hop, and one for the end of each
-- level.
use Prim.Native.Nat.{ℕ, zero, suc, ◌+◌, ◌-◌, ◌≤◌, ◌<◌}
use mathlib.Core.Bool.{not, ◌&&◌}
use mathlib.Core.List.{List}
use mathlib.Core.Logic.{◌≢◌}
use mathlib.Core.Path.{◌≡◌, refl, sym, ap, ◌∙◌, subst}
use native.Mathlib.Omega.{arith}
use lib.Dec.{T, eqb, leb, ltb, le→leb, lt→ltb}
use lib.ListN.{length, get_or, set, length-set}
use lib.Seq.{get_or-set_same, get_or-set_other}
use Rattle.model.specs.Layout.{Memory, top_level, key, next}
use Rattle.model.specs.Phases.{moved, at, ahead, descend, walk_by, walk_of, lawful_at, lawful_process, phase_of, transition_of}
use Rattle.model.specs.Calls.{top_of, process_after}
use Rattle.model.specs.Roles.{role_of, plays}
use Rattle.model.proofs.Tests.{if_yes, if_no, by_eq, by_test, →and, eq→eqb, ne→neqb}
use Rattle.model.proofs.Laws.{top_at_most}
use Rattle.linearizability.proofs.Invariant.{Ghost, Nodes, At}
use Rattle.linearizability.proofs.Step.{searches}
use Rattle.figure.specs.Types.{Kind, Idle, Put, Get, Phase, Walk, Answer, None, Call, Process, Ahead, Less, Equal, Past, Note}
use Rattle.figure.specs.Figure.{HMAX, MAX, key_of, Pair, find, find_all}
use Rattle.figure.specs.Steps.{hops, hops_down}
use Rattle.figure.proofs.Search.{key_below, key_from, key_same, key_other, left, left_most, link_used, level5, lower, along, finds, all_here, all_down}
use Rattle.figure.proofs.Runs.{Place, at_place, Run, run_none, run_one, run_on, run_same}

-- ---- where a link leads, by the figure's tests

module _ (m : Memory) (k : ℕ) (k-max : k < MAX) (l p : ℕ)
    (used : next m.nodes l p ≢ 0 → next m.nodes l p ≤ m.counts.nodes) where
  abbrev y : ℕ
  y = next m.nodes l p

  not_beyond : y ≢ 0 → T (not (ltb m.counts.nodes y))
  not_beyond ne = by_test (ltb m.counts.nodes y) (λ t. absurd (omega (arith, lib.Dec.ltb→lt m.counts.nodes y t, used ne)))
      (λ t. t)

  pub ahead_less : T (not (leb k (key_of m y))) → ahead m l p k ≡ Less y
  unfolding ahead
  ahead_less t =
      let b = key_below m k k-max y t in
      if_no (eqb y 0) _ _ (ne→neqb y 0 b.0) ∙ if_no (ltb m.counts.nodes y) _ _ (not_beyond b.0)
      ∙ if_yes (ltb (key m.nodes y) k) _ _ (lt→ltb (key m.nodes y) k b.1)

  not_less : T (leb k (key_of m y)) → y ≢ 0 → T (not (ltb (key m.nodes y) k))
  not_less t ne = by_test (ltb (key m.nodes y) k)
      (λ u. absurd (omega (arith, lib.Dec.ltb→lt (key m.nodes y) k u, key_from m k k-max y t ne))) (λ u. u)

  pub ahead_equal : T (eqb k (key_of m y)) → ahead m l p k ≡ Equal y
  unfolding ahead
  ahead_equal t =
      let b = key_same m k k-max y t in
      if_no (eqb y 0) _ _ (ne→neqb y 0 b.0) ∙ if_no (ltb m.counts.nodes y) _ _ (not_beyond b.0)
      ∙ if_no (ltb (key m.nodes y) k) _ _ (by_test (ltb (key m.nodes y) k)
      (λ u. absurd (omega (arith, lib.Dec.ltb→lt (key m.nodes y) k u, b.1))) (λ u. u))
      ∙ if_yes (eqb (key m.nodes y) k) _ _ (eq→eqb (key m.nodes y) k b.1)

  pub ahead_past : T (leb k (key_of m y)) → T (not (eqb k (key_of m y))) → ahead m l p k ≡ Past
  unfolding ahead
  ahead_past t u = by_eq y 0
      (λ e. if_yes (eqb y 0) _ _ (eq→eqb y 0 e))
      (λ ne. if_no (eqb y 0) _ _ (ne→neqb y 0 ne) ∙ if_no (ltb m.counts.nodes y) _ _ (not_beyond ne)
      ∙ if_no (ltb (key m.nodes y) k) _ _ (not_less t ne)
      ∙ if_no (eqb (key m.nodes y) k) _ _ (ne→neqb (key m.nodes y) k (key_other m k k-max y u ne)))

  -- it leads to the key or past it: what holds in both cases
  pub ahead_stop : (P : Ahead → Type 0) → T (leb k (key_of m y)) → P (Equal y) → P Past → P (ahead m l p k)
  ahead_stop P t equal past = by_test (eqb k (key_of m y))
      (λ u. subst P (sym (ahead_equal u)) equal) (λ u. subst P (sym (ahead_past t u)) past)

-- ---- a call on its way

-- a call of this kind, as an accepted start has it
pub record Asked (kind : Kind) (call : Call) : Type 0 where
  pub kind_is : call.kind ≡ kind
  pub key_low : 1 ≤ call.key
  pub key_high : call.key < MAX
  pub top_high : call.top ≤ HMAX

pub put≢idle : Put ≢ Idle
put≢idle e = let z : ◌≡◌ {A = ℕ} 0 1 = cc in omega arith

pub get≢idle : Get ≢ Idle
get≢idle e = let z : ◌≡◌ {A = ℕ} 0 1 = cc in omega arith

abbrev pub put_call : (k v t draw start : ℕ) → Call
put_call k v t draw start = record { kind = Put; key = k; last = k; value = v; timestamp = t; top = top_of draw; start = start }

abbrev pub get_call : (k start : ℕ) → Call
get_call k start = record { kind = Get; key = k; last = k; value = 0; timestamp = 0; top = 0; start = start }

pub asked_put : (k v t draw start : ℕ) → (1 ≤ k) × (k < MAX) → Asked Put (put_call k v t draw start)
asked_put k v t draw start range = record { kind_is = refl; key_low = range.0; key_high = range.1; top_high = top_at_most draw }

pub asked_get : (k start : ℕ) → (1 ≤ k) × (k < MAX) → Asked Get (get_call k start)
asked_get k start range = record { kind_is = refl; key_low = range.0; key_high = range.1; top_high = omega arith }

abbrev pub pose : Call → Phase → (l p : ℕ) → (preds : List ℕ) → (made : ℕ) → Answer → (tick : ℕ) → Process
pose call phase l p preds made a tick = record {
  call = call;
  cursor = record { phase = phase; level = l; pred = p; made = made };
  effect = record { answer = a; tick = tick };
  preds = preds;
}

-- before its effect
abbrev pub before : Call → Phase → (l p : ℕ) → (preds : List ℕ) → Process
before call phase l p preds = pose call phase l p preds 0 None 0

-- the tests of every step pass, and its phase decides
pub transition_is : (holder tick : ℕ) (pr : Process) (m : Memory) → pr.cursor.level ≤ top_level → pr.cursor.pred ≤ m.counts.nodes
    → T (lawful_at pr.call.kind (role_of pr.cursor.phase) pr.effect)
    → transition_of holder tick pr m ≡ phase_of pr.cursor.phase holder tick pr m
unfolding transition_of lawful_process
transition_is holder tick pr m l5 used t =
    let low = leb pr.cursor.level top_level in
    let known = leb pr.cursor.pred m.counts.nodes in
    let lawful = lawful_at pr.call.kind (role_of pr.cursor.phase) pr.effect in
    if_yes (low && known && lawful) _ _
    (→and (low && known) lawful
    (→and low known (le→leb pr.cursor.level top_level l5) (le→leb pr.cursor.pred m.counts.nodes used)) t)

lawful_walk : (kind : Kind) → kind ≢ Idle → T (lawful_at kind (role_of Walk) (record { answer = None; tick = 0 }))
unfolding lawful_at
lawful_walk kind busy = →and (plays kind (role_of Walk)) _ (searches kind busy) tt

-- ---- the walk

module _ {m : Memory} {g : Ghost} (N : Nodes m g) {kind : Kind} {call : Call} (P : Asked kind call) (busy : kind ≢ Idle)
    (i : ℕ) where
  abbrev k : ℕ
  k = call.key

  abbrev link : (l p : ℕ) → ℕ
  link l p = next m.nodes l p

  abbrev pub walks : (l p : ℕ) → List ℕ → Place
  walks l p preds = at_place (before call Walk l p preds) m

  pub walk_transition : (tick l p : ℕ) (preds : List ℕ) → At m g l p k
      → transition_of (i + 1) tick (before call Walk l p preds) m
      ≡ moved m (walk_by call (before call Walk l p preds).cursor tick (ahead m l p k))
  unfolding phase_of walk_of
  walk_transition tick l p preds a =
      transition_is (i + 1) tick (before call Walk l p preds) m (level5 N P.key_high a) a.used
      (lawful_walk call.kind (λ e. busy (sym P.kind_is ∙ e)))

  walk_hop : (tick l p : ℕ) (preds : List ℕ) → At m g l p k → T (not (leb k (key_of m (link l p))))
      → Run i tick 1 (walks l p preds) (walks l (link l p) preds)
  unfolding walk_by process_after
  walk_hop tick l p preds a t =
      let c = (before call Walk l p preds).cursor in
      run_one (walk_transition tick l p preds a
      ∙ ap (λ q. moved m (walk_by call c tick q)) (ahead_less m k P.key_high l p (link_used N P.key_high a) t)) tt

  -- along a level: a step for each hop of find
  walk_along : (bound l p : ℕ) (preds : List ℕ) → left m k p ≤ bound → At m g l p k → (tick : ℕ)
      → Run i tick (hops bound m p k l) (walks l p preds) (walks l (find bound m p k l).pred preds)
  walk_along bound l p preds = along N P.key_high l
      (λ p r n. (tick : ℕ) → Run i tick n (walks l p preds) (walks l r.pred preds))
      (λ p a t tick. run_none)
      (λ p r n a t h go tick. run_same (omega arith) (run_on (walk_hop tick l p preds a t) (go (tick + 1))))
      bound p

  -- the end of a level above the bottom: the predecessor is remembered, and the level falls
  pub walk_end : (tick l p : ℕ) (preds : List ℕ) → At m g (suc l) p k → T (leb k (key_of m (link (suc l) p)))
      → Run i tick 1 (walks (suc l) p preds) (walks l p (set preds (suc l) p))
  unfolding walk_by descend process_after
  walk_end tick l p preds a t =
      let c = (before call Walk (suc l) p preds).cursor in
      run_one (walk_transition tick (suc l) p preds a
      ∙ ahead_stop m k P.key_high (suc l) p (link_used N P.key_high a)
      (λ q. moved m (walk_by call c tick q) ≡ moved m (Note (at c Walk l p))) t (down (link (suc l) p)) (down 0)) tt
    where
      down : (found : ℕ) → moved m (descend call (before call Walk (suc l) p preds).cursor tick found)
          ≡ moved m (Note (at (before call Walk (suc l) p preds).cursor Walk l p))
      down found = ap (moved m) (if_no (eqb (suc l) 0) _ _ (ne→neqb (suc l) 0 (omega arith))
          ∙ ap (λ n. Note (at (before call Walk (suc l) p preds).cursor Walk n p)) (less l))
        where
          less : (n : ℕ) → suc n - 1 ≡ n
          less n = omega arith

  -- From level l down to the bottom: the predecessor at each level is remembered, and is the one that findAll finds there.
  pub record Walked (bound tick l p : ℕ) (preds : List ℕ) : Type 0 where
    pub preds' : List ℕ
    pub run : Run i tick (hops_down bound m p k l + l) (walks l p preds) (walks 0 (find_all bound m p k l 0).pred preds')
    pub six : length preds' ≡ length preds
    pub known : (j : ℕ) → 1 ≤ j → j ≤ l → get_or preds' j 0 ≡ (find_all bound m p k l j).pred
    pub kept : (j : ℕ) → l < j → get_or preds' j 0 ≡ get_or preds j 0

  pub walk_down : (bound : ℕ) → m.counts.nodes ≤ bound → (l p tick : ℕ) (preds : List ℕ) → l < length preds → At m g l p k
      → Walked bound tick l p preds
  unfolding hops_down
  walk_down bound enough zero p tick preds long a = record {
    preds' = preds;
    run = rw (all_here m k bound p 0) (run_same (omega arith)
        (walk_along bound 0 p preds (omega (arith, left_most m k p)) a tick));
    six = refl;
    known = λ j j1 j0. absurd (omega arith);
    kept = λ j h. refl;
  }
  walk_down bound enough (suc l) p tick preds long a =
      let q = (find bound m p k (suc l)).pred in
      let f = finds N P.key_high bound enough a in
      let stop : T (leb k (key_of m (link (suc l) q))) = rw f.succ_is at f.stop in
      let first = walk_along bound (suc l) p preds (omega (arith, left_most m k p)) a tick in
      let h = hops bound m p k (suc l) in
      let rest =
      walk_down bound enough l q (tick + (h + 1)) (set preds (suc l) q) (omega (arith, length-set preds (suc l) q))
      (lower N P.key_high f.spot) in
      let down : (d : ℕ) → d ≤ l → find_all bound m p k (suc l) d ≡ find_all bound m q k l d = all_down m k bound p l in
      record {
        preds' = rest.preds';
        run = rw (down 0 (omega arith)) (run_same (omega arith)
            (run_on (run_on first (walk_end (tick + h) l q preds f.spot stop)) rest.run));
        six = rest.six ∙ length-set preds (suc l) q;
        known = λ j j1 jl. by_eq j (suc l)
            (λ e. rw (e, all_here m k bound p (suc l)) (rest.kept (suc l) (omega arith) ∙ get_or-set_same preds (suc l) q 0 long))
            (λ ne. rest.known j j1 (omega arith) ∙ ap (λ (r : Pair). r.pred) (sym (down j (omega arith))));
        kept = λ j h. rest.kept j (omega arith) ∙ get_or-set_other preds (suc l) j q 0 (omega arith);
      }
