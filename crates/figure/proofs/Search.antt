-- What the figure's find and findAll find in a store in order: the last node of the level before the key, with its successor.
-- Each hop leaves one node fewer ahead, so a bound above the count of nodes never shows.
use Prim.Native.Nat.{ℕ, zero, suc, ◌+◌, ◌≤◌, ◌<◌}
use mathlib.Core.Bool.{Bool, not, ◌&&◌}
use mathlib.Core.Logic.{◌≢◌}
use mathlib.Core.Path.{◌≡◌, refl, sym, ap, ◌∙◌}
use native.Mathlib.Omega.{arith}
use lib.Dec.{T, eqb, leb, ltb, leb→le, nleb→lt, ltb→lt, lt→ltb}
use Rattle.model.specs.Layout.{Memory, key, next}
use Rattle.model.proofs.Tests.{if-eq, if_yes, if_no, by_eq, by_test, and→, →and, ne→neqb, eq→eqb, T-absurd}
use Rattle.model.proofs.Counting.{count, count_less, count_mono, count_most}
use Rattle.linearizability.proofs.Invariant.{Ghost, Nodes, At}
use Rattle.figure.specs.Figure.{HMAX, MAX, head, tail, key_of, Pair, find, find_all}
use Rattle.figure.specs.Steps.{hops, hops_down, smaller}

-- ---- the key of a successor

module _ (m : Memory) (k : ℕ) (k-max : k < MAX) (y : ℕ) where
  pub key_below : T (not (leb k (key_of m y))) → (y ≢ tail) × (key m.nodes y < k)
  unfolding key_of
  key_below = if-eq (λ (n : ℕ). T (not (leb k n)) → (y ≢ tail) × (key m.nodes y < k)) y tail
      (λ e t. absurd (omega (arith, nleb→lt k MAX t)))
      (λ ne t. (ne, nleb→lt k (key m.nodes y) t))

  pub key_from : T (leb k (key_of m y)) → y ≢ tail → k ≤ key m.nodes y
  unfolding key_of
  key_from = if-eq (λ (n : ℕ). T (leb k n) → y ≢ tail → k ≤ key m.nodes y) y tail
      (λ e t ne. absurd (ne e))
      (λ ne t _. leb→le k (key m.nodes y) t)

  pub key_same : T (eqb k (key_of m y)) → (y ≢ tail) × (key m.nodes y ≡ k)
  unfolding key_of
  key_same = if-eq (λ (n : ℕ). T (eqb k n) → (y ≢ tail) × (key m.nodes y ≡ k)) y tail
      (λ e t. absurd (omega (arith, lib.Dec.eqb→eq k MAX t)))
      (λ ne t. (ne, sym (lib.Dec.eqb→eq k (key m.nodes y) t)))

  pub key_other : T (not (eqb k (key_of m y))) → y ≢ tail → key m.nodes y ≢ k
  unfolding key_of
  key_other = if-eq (λ (n : ℕ). T (not (eqb k n)) → y ≢ tail → key m.nodes y ≢ k) y tail
      (λ e t ne. absurd (ne e))
      (λ ne t _ e. T-absurd (eqb k (key m.nodes y)) (eq→eqb k (key m.nodes y) (sym e)) t)

-- ---- find

pub find_stop : (bound : ℕ) (m : Memory) (p k l : ℕ) → T (leb k (key_of m (next m.nodes l p)))
    → find bound m p k l ≡ record { pred = p; succ = next m.nodes l p }
unfolding find
find_stop zero m p k l t = refl
find_stop (suc bound) m p k l t = if_yes (leb k (key_of m (next m.nodes l p))) _ _ t

pub find_hop : (bound : ℕ) (m : Memory) (p k l : ℕ) → T (not (leb k (key_of m (next m.nodes l p))))
    → find (suc bound) m p k l ≡ find bound m (next m.nodes l p) k l
unfolding find
find_hop bound m p k l t = if_no (leb k (key_of m (next m.nodes l p))) _ _ t

pub hops_stop : (bound : ℕ) (m : Memory) (p k l : ℕ) → T (leb k (key_of m (next m.nodes l p))) → hops bound m p k l ≡ 0
unfolding hops
hops_stop zero m p k l t = refl
hops_stop (suc bound) m p k l t = if_yes (leb k (key_of m (next m.nodes l p))) _ _ t

pub hops_hop : (bound : ℕ) (m : Memory) (p k l : ℕ) → T (not (leb k (key_of m (next m.nodes l p))))
    → hops (suc bound) m p k l ≡ suc (hops bound m (next m.nodes l p) k l)
unfolding hops
hops_hop bound m p k l t = if_no (leb k (key_of m (next m.nodes l p))) _ _ t

-- ---- findAll

module _ (m : Memory) (k : ℕ) where
  -- at its last level it is find
  pub all_here : (bound p l : ℕ) → find_all bound m p k l l ≡ find bound m p k l
  unfolding find_all
  all_here bound p zero = refl
  all_here bound p (suc l) = if_yes (eqb (suc l) (suc l)) _ _ (eq→eqb (suc l) (suc l) refl)

  pub all_down : (bound p l d : ℕ) → d ≤ l
      → find_all bound m p k (suc l) d ≡ find_all bound m (find bound m p k (suc l)).pred k l d
  unfolding find_all
  all_down bound p l d le = if_no (eqb (suc l) d) _ _ (ne→neqb (suc l) d (omega arith))

  -- one level lower it goes on from where it stopped
  pub all_next : (bound p l d : ℕ) → d < l → find_all bound m p k l d ≡ find bound m (find_all bound m p k l (suc d)).pred k d
  all_next bound p zero d lt = absurd (omega arith)
  all_next bound p (suc l) d lt = by_eq d l
      (λ e. rw e (all_down bound p l l (omega arith) ∙ all_here bound (find bound m p k (suc l)).pred l
      ∙ ap (λ (r : Pair). find bound m r.pred k l) (sym (all_here bound p (suc l)))))
      (λ ne. all_down bound p l d (omega arith) ∙ all_next bound (find bound m p k (suc l)).pred l d (omega arith)
      ∙ ap (λ (r : Pair). find bound m r.pred k d) (sym (all_down bound p l (suc d) (omega arith))))

-- ---- what they find

-- the last node before k on level l, and its successor
pub record Finds (m : Memory) (g : Ghost) (k l : ℕ) (r : Pair) : Type 0 where
  pub spot : At m g l r.pred k
  pub succ_is : r.succ ≡ next m.nodes l r.pred
  pub stop : T (leb k (key_of m r.succ))

-- the nodes with a key between p's and k
abbrev pub between : Memory → (k p x : ℕ) → Bool
between m k p x = ltb (key m.nodes p) (key m.nodes x) && ltb (key m.nodes x) k

-- how many of them
abbrev pub left : Memory → (k p : ℕ) → ℕ
left m k p = count (between m k p) m.counts.nodes

pub left_most : (m : Memory) (k p : ℕ) → left m k p ≤ m.counts.nodes
left_most m k p = count_most (between m k p) m.counts.nodes

module _ {m : Memory} {g : Ghost} (N : Nodes m g) {k : ℕ} (k-max : k < MAX) where
  between→ : (p x : ℕ) → T (between m k p x) → (key m.nodes p < key m.nodes x) × (key m.nodes x < k)
  between→ p x t =
      let q = and→ (ltb (key m.nodes p) (key m.nodes x)) (ltb (key m.nodes x) k) t in
      (ltb→lt (key m.nodes p) (key m.nodes x) q.0, ltb→lt (key m.nodes x) k q.1)

  →between : (p x : ℕ) → key m.nodes p < key m.nodes x → key m.nodes x < k → T (between m k p x)
  →between p x a b =
      →and (ltb (key m.nodes p) (key m.nodes x)) (ltb (key m.nodes x) k) (lt→ltb (key m.nodes p) (key m.nodes x) a)
      (lt→ltb (key m.nodes x) k b)

  -- the link of a node of the level leads to one in use
  pub link_used : {l p : ℕ} → At m g l p k → next m.nodes l p ≢ 0 → next m.nodes l p ≤ m.counts.nodes
  link_used {l} {p} a ne = ((N.levels l).step p (a.used, a.up) ne).0.0

  pub level5 : {l p : ℕ} → At m g l p k → l ≤ HMAX
  level5 {l} {p} a = omega (arith, a.up, N.high p a.used)

  pub lower : {l p : ℕ} → At m g (suc l) p k → At m g l p k
  lower a = record { used = a.used; up = omega (arith, a.up); low = a.low }

  -- the head stands at every level, before every key
  pub at_head : 1 ≤ k → At m g HMAX head k
  at_head low = record { used = omega arith; up = omega (arith, N.head_high); low = omega (arith, N.head_key) }

  -- a hop: the next node stands on the level before k too, and fewer are left
  pub record Hop (l p : ℕ) : Type 0 where
    pub spot : At m g l (next m.nodes l p) k
    pub fewer : left m k (next m.nodes l p) < left m k p

  pub hop : {l p : ℕ} → At m g l p k → T (not (leb k (key_of m (next m.nodes l p)))) → Hop l p
  hop {l} {p} a t =
      let y = next m.nodes l p in
      let b = key_below m k k-max y t in
      let s = (N.levels l).step p (a.used, a.up) b.0 in
      record {
        spot = record { used = s.0.0; up = s.0.1; low = b.1 };
        fewer = count_less (between m k p) (between m k y) m.counts.nodes y (omega (arith, b.0)) s.0.0
            (→between p y s.1 b.1)
            (λ u. omega (arith, between→ y y u))
            (λ x i j u. let q = between→ y x u in →between p x (omega (arith, s.1)) q.1);
      }

  -- Whatever holds where find stops, and of a node whose hop leads to where it holds, holds of find and of its hops.
  pub along : (l : ℕ) (P : (p : ℕ) → Pair → (n : ℕ) → Type 0)
      → ((p : ℕ) → At m g l p k → T (leb k (key_of m (next m.nodes l p)))
      → P p (record { pred = p; succ = next m.nodes l p }) 0)
      → ((p : ℕ) (r : Pair) (n : ℕ) → At m g l p k → T (not (leb k (key_of m (next m.nodes l p)))) → Hop l p
      → P (next m.nodes l p) r n → P p r (suc n))
      → (bound p : ℕ) → left m k p ≤ bound → At m g l p k → P p (find bound m p k l) (hops bound m p k l)
  along l P stops hops-on zero p enough a = by_test (leb k (key_of m (next m.nodes l p)))
      (λ t. rw (find_stop 0 m p k l t, hops_stop 0 m p k l t) (stops p a t))
      (λ t. absurd (omega (arith, (hop a t).fewer)))
  along l P stops hops-on (suc bound) p enough a = by_test (leb k (key_of m (next m.nodes l p)))
      (λ t. rw (find_stop (suc bound) m p k l t, hops_stop (suc bound) m p k l t) (stops p a t))
      (λ t.
      let h = hop a t in
      rw (find_hop bound m p k l t, hops_hop bound m p k l t)
      (hops-on p _ _ a t h (along l P stops hops-on bound (next m.nodes l p) (omega (arith, h.fewer)) h.spot)))

  pub find_finds : (bound l p : ℕ) → left m k p ≤ bound → At m g l p k → Finds m g k l (find bound m p k l)
  find_finds bound l p = along l (λ p r n. Finds m g k l r)
      (λ p a t. record { spot = a; succ_is = refl; stop = t })
      (λ p r n a t h f. f) bound p

  -- no more hops than nodes that are passed
  pub hops_few : (bound l p : ℕ) → left m k p ≤ bound → At m g l p k
      → hops bound m p k l + left m k (find bound m p k l).pred ≤ left m k p
  hops_few bound l p = along l (λ p r n. n + left m k r.pred ≤ left m k p)
      (λ p a t. omega arith)
      (λ p r n a t h f. omega (arith, h.fewer)) bound p

  module _ (bound : ℕ) (enough : m.counts.nodes ≤ bound) where
    pub finds : {l p : ℕ} → At m g l p k → Finds m g k l (find bound m p k l)
    finds {l} {p} a = find_finds bound l p (omega (arith, left_most m k p)) a

    pub all_finds : (l p d : ℕ) → d ≤ l → At m g l p k → Finds m g k d (find_all bound m p k l d)
    all_finds zero p d le a = let e : d ≡ 0 = omega arith in rw (e, all_here m k bound p 0) (finds a)
    all_finds (suc l) p d le a = by_eq d (suc l)
        (λ e. rw (e, all_here m k bound p (suc l)) (finds a))
        (λ ne. rw (all_down m k bound p l d (omega arith))
        (all_finds l (find bound m p k (suc l)).pred d (omega arith) (lower (finds a).spot)))

    -- the hops of all levels pass each node at most once
    pub down_few : (l p : ℕ) → At m g l p k → hops_down bound m p k l ≤ left m k p
    unfolding hops_down
    down_few zero p a = omega (arith, hops_few bound 0 p (omega (arith, left_most m k p)) a)
    down_few (suc l) p a =
        let q = (find bound m p k (suc l)).pred in
        omega (arith, hops_few bound (suc l) p (omega (arith, left_most m k p)) a, down_few l q (lower (finds a).spot))

  -- no more than have a smaller key
  pub left_smaller : left m k head ≤ smaller m k
  unfolding smaller
  left_smaller = count_mono (between m k head) (λ x. ltb (key m.nodes x) k) m.counts.nodes
      (λ x i j t. lt→ltb (key m.nodes x) k (between→ head x t).1)
