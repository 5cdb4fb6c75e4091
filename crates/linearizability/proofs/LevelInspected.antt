-- The walk of a level finds no fault just when the level is sound: it passes as many nodes as reach the level, in
-- rising order of keys, so it passes each of them.
use Prim.Native.Nat.{ℕ, zero, suc, ◌+◌, ◌≤◌, ◌<◌}
use mathlib.Core.Bool.{Bool}
use mathlib.Core.List.{List}
use mathlib.Core.Logic.{◌≢◌}
use mathlib.Core.Path.{◌≡◌, refl, ap}
use native.Mathlib.Omega.{arith}
use lib.Dec.{T, leb, ltb, leb→le, le→leb}
use Rattle.std.specs.Prelude.{if◌then◌else◌}
use Rattle.model.specs.Layout.{Memory, key, top, next, lock}
use Rattle.model.specs.Inspection.{versions_sound, reaching, level_from}
use Rattle.model.specs.Soundness.{On, LevelSound}
use Rattle.model.proofs.Tests.{by_eq, and→}
use Rattle.model.proofs.Counting.{count, Within, count_mono, count_none, count_all, without, without→, →without, count_without}
use Rattle.model.proofs.LevelBound.{above, ahead, above→, →above, fewer_ahead, ahead_most}
use Rattle.linearizability.proofs.LevelTurn.{Faultless, faultless_turn, turn_faultless}

reaching_count : (t : List ℕ) (l n : ℕ) → reaching t l n ≡ count (λ x. leb l (top t x)) n
unfolding reaching count
reaching_count t l zero = refl
reaching_count t l (suc n) = ap (λ k. (if leb l (top t (suc n)) then 1 else 0) + k) (reaching_count t l n)

module _ (m : Memory) (l : ℕ) where
  abbrev key_of : ℕ → ℕ
  key_of x = key m.nodes x

  abbrev to : ℕ → ℕ
  to x = next m.nodes l x

  abbrev left : ℕ → ℕ
  left x = ahead m l x

  abbrev after : ℕ → ℕ → Bool
  after x z = above m l (key_of x) z

  -- the nodes whose top reaches the level, by a test and by their count
  abbrev reaches : ℕ → Bool
  reaches x = leb l (top m.nodes x)

  abbrev all : ℕ
  all = reaching m.nodes l m.counts.nodes

  -- the level, and the versions of its nodes
  abbrev pub LevelRight : Type 0
  LevelRight = LevelSound m l × ((x : ℕ) → On m l x → T (versions_sound m l x))

  -- ---- no fault found, so sound

  -- those seen and those ahead are together at least the nodes that reach the level
  enough : (fuel seen x : ℕ) → left x < fuel → Faultless (level_from m l fuel seen x) → all ≤ seen + left x
  enough zero seen x f s = absurd (omega arith)
  enough (suc fuel) seen x f s = let t = faultless_turn m l fuel seen x s in by_eq (to x) 0
      (λ e. omega (arith, t.ended e))
      (λ ne. let o = t.onward ne in
      let h = fewer_ahead m l x (to x) ne o.0 o.1 in
      omega (arith, enough fuel (seen + 1) (to x) (omega arith) o.2))

  not_head : (x z : ℕ) → key_of 0 ≤ key_of x → key_of x < key_of z → z ≢ 0
  not_head x z low lt e = omega (arith, ap key_of e)

  none_after : (x : ℕ) → left x ≡ 0 → key_of 0 ≤ key_of x → (z : ℕ) → On m l z → key_of x < key_of z → ⊥
  none_after x e low z o lt =
      let nz = not_head x z low lt in
      omega (arith, count_without (after x) m.counts.nodes z (omega arith) o.0 (→above m l (key_of x) z nz o lt))

  -- since they are no more, the walk leaves out none: it goes to the node that is next in order of keys
  next_in_order : (seen x : ℕ) → On m l (to x) → to x ≢ 0 → key_of x < key_of (to x) → key_of 0 ≤ key_of x
      → seen + left x ≤ all → all ≤ seen + 1 + left (to x)
      → (z : ℕ) → On m l z → key_of x < key_of z → z ≢ to x → key_of (to x) < key_of z
  next_in_order seen x o ne lt low most least z oz zx nz =
      let n = m.counts.nodes in
      let rest = without (after x) (to x) in
      let one = count_without (after x) n (to x) (omega arith) o.0 (→above m l (key_of x) (to x) ne o lt) in
      let within : Within n (after (to x)) rest = λ w i h t.
      let a = above→ m l (key_of (to x)) w h t in
      →without (after x) (to x) w (→above m l (key_of x) w (omega arith) a.0 (omega arith))
      (λ e. omega (arith, ap key_of e)) in
      let head = not_head x z low zx in
      let t = →without (after x) (to x) z (→above m l (key_of x) z head oz zx) nz in
      let u = count_all rest (after (to x)) n within (omega arith) z (omega arith) oz.0 t in
      (above→ m l (key_of (to x)) z oz.0 u).1

  abbrev Alone : ℕ → Type 0
  Alone x = (z : ℕ) → On m l z → key_of z ≡ key_of x → z ≡ x

  -- what is known of a node that the walk has passed
  record Passed (x : ℕ) : Type 0 where
    free : lock m.nodes l x ≡ 0
    versions : T (versions_sound m l x)
    rises : to x ≢ 0 → On m l (to x) × (key_of x < key_of (to x))
    nearest : (z : ℕ) → On m l z → key_of x < key_of z → (to x ≢ 0) × (key_of (to x) ≤ key_of z)
    alone : Alone x

  passed : (fuel seen x : ℕ) → left x < fuel → seen + left x ≤ all → key_of 0 ≤ key_of x → Alone x
      → Faultless (level_from m l fuel seen x) → Passed x × ((z : ℕ) → On m l z → key_of x < key_of z → Passed z)
  passed zero seen x f most low alone s = absurd (omega arith)
  passed (suc fuel) seen x f most low alone s = let t = faultless_turn m l fuel seen x s in by_eq (to x) 0
      (λ e. let none = none_after x (omega (arith, t.ended e)) low in (
        record {
          free = t.free;
          versions = t.versions;
          alone = alone;
          rises = λ ne. absurd (ne e);
          nearest = λ z o lt. absurd (none z o lt);
        },
        λ z o lt. absurd (none z o lt),
      ))
      (λ ne. let o = t.onward ne in
      let h = fewer_ahead m l x (to x) ne o.0 o.1 in
      let least = enough fuel (seen + 1) (to x) (omega arith) o.2 in
      let later = next_in_order seen x o.0 ne o.1 low most least in
      let alone-next : Alone (to x) = λ z oz e.
      by_eq z (to x) (λ same. same) (λ nz. absurd (omega (arith, later z oz (omega arith) nz))) in
      let rest = passed fuel (seen + 1) (to x) (omega arith) (omega arith) (omega arith) alone-next o.2 in (
        record {
          free = t.free;
          versions = t.versions;
          alone = alone;
          rises = λ _. (o.0, o.1);
          nearest = λ z oz lt.
              (ne, by_eq z (to x) (λ e. omega (arith, ap key_of e)) (λ nz. omega (arith, later z oz lt nz)));
        },
        λ z oz lt. by_eq z (to x) (λ e. rw e rest.0) (λ nz. rest.1 z oz (later z oz lt nz)),
      ))

  after_reaches : Within m.counts.nodes (after 0) reaches
  after_reaches x i h t = (and→ (reaches x) (ltb (key_of 0) (key_of x)) t).0

  pub level_means : Faultless (level_from m l (m.counts.nodes + 1) 0 0) → LevelRight
  level_means s = (
    record {
      free = λ x o. (every x o).free;
      rises = λ x o. (every x o).rises;
      nearest = λ x z o. (every x o).nearest z;
      distinct = λ x z ox oz e. (every z oz).alone x ox e;
      first = first;
    },
    λ x o. (every x o).versions,
  )
    where
      counted : all ≡ count reaches m.counts.nodes
      counted = reaching_count m.nodes l m.counts.nodes

      first : (z : ℕ) → On m l z → z ≢ 0 → key_of 0 < key_of z
      first z o nz = (above→ m l (key_of 0) z o.0 (count_all reaches (after 0) m.counts.nodes after_reaches
          (omega (arith, counted, enough (m.counts.nodes + 1) 0 0 (ahead_most m l 0) s))
          z (omega arith) o.0 (le→leb l (top m.nodes z) (o.1 nz)))).1

      head_alone : Alone 0
      head_alone z o e = by_eq z 0 (λ same. same) (λ nz. absurd (omega (arith, first z o nz)))

      walked : Passed 0 × ((z : ℕ) → On m l z → key_of 0 < key_of z → Passed z)
      walked = passed (m.counts.nodes + 1) 0 0 (ahead_most m l 0)
          (omega (arith, counted, count_mono (after 0) reaches m.counts.nodes after_reaches)) (omega arith)
          head_alone s

      every : (x : ℕ) → On m l x → Passed x
      every x o = by_eq x 0 (λ e. rw e walked.0) (λ nz. walked.1 x o (first x o nz))

  -- ---- sound, so no fault found

  last_node : LevelSound m l → (x : ℕ) → On m l x → to x ≡ 0 → left x ≡ 0
  last_node r x o e = count_none (after x) m.counts.nodes λ z i h t.
      let a = above→ m l (key_of x) z h t in
      (r.nearest x z o a.0 a.1).0 e

  one_passed : LevelSound m l → (x : ℕ) → On m l x → to x ≢ 0 → left x ≤ suc (left (to x))
  one_passed r x o ne =
      let n = m.counts.nodes in
      let q = r.rises x o ne in
      let t = →above m l (key_of x) (to x) ne q.0 q.1 in
      omega (
        arith,
        count_without (after x) n (to x) (omega arith) q.0.0 t,
        count_mono (without (after x) (to x)) (after (to x)) n λ z i h t.
            let p = without→ (after x) (to x) z t in
            let a = above→ m l (key_of x) z h p.0 in
            let near = r.nearest x z o a.0 a.1 in
            let other : key_of z ≢ key_of (to x) = λ e. p.1 (r.distinct z (to x) a.0 q.0 e) in
            →above m l (key_of (to x)) z (omega arith) a.0 (omega arith),
      )

  means_from : LevelRight → (fuel seen x : ℕ) → On m l x → all ≤ seen + left x → Faultless (level_from m l fuel seen x)
  unfolding level_from
  means_from r zero seen x o h = refl
  means_from r (suc fuel) seen x o h = turn_faultless m l fuel seen x (record {
    free = r.0.free x o;
    versions = r.1 x o;
    ended = λ e. omega (arith, last_node r.0 x o e);
    onward = λ ne. let q = r.0.rises x o ne in
        (q.0, q.1, means_from r fuel (seen + 1) (to x) q.0 (omega (arith, one_passed r.0 x o ne)));
  })

  pub means_level : LevelRight → (fuel : ℕ) → Faultless (level_from m l fuel 0 0)
  means_level r fuel = means_from r fuel 0 0 (omega arith, λ ne. absurd (ne refl))
      (omega (
        arith,
        reaching_count m.nodes l m.counts.nodes,
        count_mono reaches (after 0) m.counts.nodes λ z i h t.
            let o : On m l z = (h, λ _. leb→le l (top m.nodes z) t) in
            →above m l (key_of 0) z (omega arith) o (r.0.first z o (omega arith)),
      ))
