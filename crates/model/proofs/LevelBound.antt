-- Keys rise along a level, so fewer and fewer nodes lie ahead of the walk: a bound above their count never cuts it
-- short.
use Prim.Native.Nat.{ℕ, zero, suc, ◌+◌, ◌≤◌, ◌<◌}
use mathlib.Core.Bool.{Bool, not, ◌&&◌}
use mathlib.Core.Logic.{◌≢◌}
use mathlib.Core.Path.{◌≡◌}
use native.Mathlib.Omega.{arith}
use lib.Dec.{T, eqb, leb, ltb, leb→le, nleb→lt, ltb→lt, nltb→le, le→leb, lt→ltb}
use Rattle.model.specs.Layout.{Memory, key, top, next, lock}
use Rattle.model.specs.Inspection.{versions_sound, level_from}
use Rattle.model.specs.Soundness.{On}
use Rattle.model.proofs.Tests.{neqb→ne, and→, →and}
use Rattle.model.proofs.Stops.{if-same}
use Rattle.model.proofs.Counting.{count, count_less, count_most}

module _ (m : Memory) (l : ℕ) where
  abbrev key_of : ℕ → ℕ
  key_of x = key m.nodes x

  abbrev to : ℕ → ℕ
  to x = next m.nodes l x

  -- ---- the nodes of the level with a key above k, and how many of them lie ahead of x

  abbrev pub above : ℕ → ℕ → Bool
  above k z = leb l (top m.nodes z) && ltb k (key_of z)

  abbrev pub ahead : ℕ → ℕ
  ahead x = count (above (key_of x)) m.counts.nodes

  pub above→ : (k z : ℕ) → z ≤ m.counts.nodes → T (above k z) → On m l z × (k < key_of z)
  above→ k z h t =
      let p = and→ (leb l (top m.nodes z)) (ltb k (key_of z)) t in
      ((h, λ _. leb→le l (top m.nodes z) p.0), ltb→lt k (key_of z) p.1)

  pub →above : (k z : ℕ) → z ≢ 0 → On m l z → k < key_of z → T (above k z)
  →above k z nz o lt =
      →and (leb l (top m.nodes z)) (ltb k (key_of z)) (le→leb l (top m.nodes z) (o.1 nz)) (lt→ltb k (key_of z) lt)

  pub fewer_ahead : (x y : ℕ) → y ≢ 0 → On m l y → key_of x < key_of y → ahead y < ahead x
  fewer_ahead x y ny o lt =
      count_less (above (key_of x)) (above (key_of y)) m.counts.nodes y (omega arith) o.0
      (→above (key_of x) y ny o lt)
      (λ t. let a = above→ (key_of y) y o.0 t in omega arith)
      (λ z i h t. let a = above→ (key_of y) z h t in →above (key_of x) z (omega arith) a.0 (omega arith))

  pub ahead_most : (x : ℕ) → ahead x < m.counts.nodes + 1
  ahead_most x = omega (arith, count_most (above (key_of x)) m.counts.nodes)

  -- ---- any two bounds above the count of those ahead give one answer

  pub level_fuel : (f g seen x : ℕ) → ahead x < f → ahead x < g → level_from m l f seen x ≡ level_from m l g seen x
  unfolding level_from
  level_fuel zero g seen x a b = absurd (omega arith)
  level_fuel (suc f) zero seen x a b = absurd (omega arith)
  level_fuel (suc f) (suc g) seen x a b =
      if-same (not (eqb (lock m.nodes l x) 0)) _ λ _.
      if-same (not (versions_sound m l x)) _ λ _.
      if-same (eqb (to x) 0) _ λ e.
      if-same (ltb m.counts.nodes (to x)) _ λ u.
      if-same (leb (key_of (to x)) (key_of x)) _ λ k.
      if-same (ltb (top m.nodes (to x)) l) _ λ t.
      let o : On m l (to x) = (nltb→le m.counts.nodes (to x) u, λ _. nltb→le (top m.nodes (to x)) l t) in
      let h = fewer_ahead x (to x) (neqb→ne (to x) 0 e) o (nleb→lt (key_of (to x)) (key_of x) k) in
      level_fuel f g (seen + 1) (to x) (omega arith) (omega arith)

  -- the inspection's bound, which starts at node 0
  pub level_bound : (fuel seen x : ℕ) → m.counts.nodes + 1 ≤ fuel
      → level_from m l fuel seen x ≡ level_from m l (m.counts.nodes + 1) seen x
  level_bound fuel seen x h =
      let a = ahead_most x in
      level_fuel fuel (m.counts.nodes + 1) seen x (omega arith) (omega arith)
