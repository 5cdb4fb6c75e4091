-- Places fall along a chain, so a bound that the first place does not pass never cuts the walk of the chain short.
use Prim.Native.Nat.{ℕ, zero, suc, min, ◌+◌, ◌≤◌, ◌<◌}
use mathlib.Core.Bool.{not}
use mathlib.Core.Logic.{◌≢◌}
use mathlib.Core.Path.{◌≡◌}
use native.Mathlib.Omega.{arith}
use lib.Dec.{T, eqb, leb, ltb, eqb→eq, leb→le, nleb→lt, ltb→lt, nltb→le, le→leb}
use Rattle.model.specs.Layout.{Memory, timestamp, prev}
use Rattle.model.specs.Phases.{used_version}
use Rattle.model.specs.Inspection.{chain_falls, chain_ages}
use Rattle.model.specs.Soundness.{InUse}
use Rattle.model.proofs.Tests.{if-by, T-absurd, neqb→ne, and→, →and}
use Rattle.model.proofs.Stops.{if-passed, not-not→, T-ext}

module _ (m : Memory) where
  abbrev back : ℕ → ℕ
  back i = prev m.versions i

  abbrev stamp : ℕ → ℕ
  stamp i = timestamp m.versions i

  -- ---- what one turn says, of places and of timestamps

  pub falls_turn : (fuel i : ℕ) → T (chain_falls m (suc fuel) i)
      → InUse m i × (back i < i) × (back i ≢ 0 → T (chain_falls m fuel (back i)))
  unfolding chain_falls
  falls_turn fuel i t =
      let a = if-passed (λ b. T b) (not (used_version m i)) (λ _ f. f) t in
      let u = and→ (leb 1 i) (leb i m.counts.versions) (not-not→ (used_version m i) a.0) in
      let b = if-passed (λ b. T b) (leb i (back i)) (λ _ f. f) a.1 in (
        (leb→le 1 i u.0, leb→le i m.counts.versions u.1),
        nleb→lt i (back i) b.0,
        λ ne. (if-passed (λ b. T b) (eqb (back i) 0) (λ z _. ne (eqb→eq (back i) 0 z)) b.1).1,
      )

  pub turn_falls : (fuel i : ℕ) → InUse m i → back i < i → (back i ≢ 0 → T (chain_falls m fuel (back i)))
      → T (chain_falls m (suc fuel) i)
  unfolding chain_falls
  turn_falls fuel i u lt rest =
      if-by (λ b. T b) (not (used_version m i)) (λ t. T-absurd (used_version m i) used t)
      λ _. if-by (λ b. T b) (leb i (back i)) (λ t. absurd (omega (arith, leb→le i (back i) t)))
      λ _. if-by (λ b. T b) (eqb (back i) 0) (λ _. tt)
      λ t. rest (neqb→ne (back i) 0 t)
    where
      used : T (used_version m i)
      used = →and (leb 1 i) (leb i m.counts.versions) (le→leb 1 i u.0) (le→leb i m.counts.versions u.1)

  pub ages_turn : (fuel i : ℕ) → T (chain_ages m (suc fuel) i)
      → back i ≢ 0 → (stamp (back i) ≤ stamp i) × T (chain_ages m fuel (back i))
  unfolding chain_ages
  ages_turn fuel i t ne =
      let a = if-passed (λ b. T b) (eqb (back i) 0) (λ z _. ne (eqb→eq (back i) 0 z)) t in
      let b = if-passed (λ b. T b) (ltb (stamp i) (stamp (back i))) (λ _ f. f) a.1 in
      (nltb→le (stamp i) (stamp (back i)) b.0, b.1)

  pub turn_ages : (fuel i : ℕ) → (back i ≢ 0 → (stamp (back i) ≤ stamp i) × T (chain_ages m fuel (back i)))
      → T (chain_ages m (suc fuel) i)
  unfolding chain_ages
  turn_ages fuel i rest =
      if-by (λ b. T b) (eqb (back i) 0) (λ _. tt)
      λ t. let r = rest (neqb→ne (back i) 0 t) in
      if-by (λ b. T b) (ltb (stamp i) (stamp (back i)))
      (λ u. absurd (omega (arith, ltb→lt (stamp i) (stamp (back i)) u))) (λ _. r.1)

  -- ---- enough turns for the chain from i: one, and as many as places that it can still fall

  abbrev pub Enough : (fuel i : ℕ) → Type 0
  Enough fuel i = (1 ≤ fuel) × (min i m.counts.versions ≤ fuel)

  pub enough_back : (fuel i : ℕ) → Enough (suc fuel) i → InUse m i → back i < i → back i ≢ 0 → Enough fuel (back i)
  enough_back fuel i e u lt ne = omega arith

  falls_more : (f g i : ℕ) → Enough f i → Enough g i → T (chain_falls m f i) → T (chain_falls m g i)
  falls_more zero g i a b t = absurd (omega arith)
  falls_more (suc f) zero i a b t = absurd (omega arith)
  falls_more (suc f) (suc g) i a b t =
      let h = falls_turn f i t in
      turn_falls g i h.0 h.1 λ ne.
      falls_more f g (back i) (enough_back f i a h.0 h.1 ne) (enough_back g i b h.0 h.1 ne) (h.2 ne)

  ages_more : (f g i : ℕ) → Enough f i → Enough g i → T (chain_falls m f i) → T (chain_ages m f i) → T (chain_ages m g i)
  ages_more zero g i a b t s = absurd (omega arith)
  ages_more (suc f) zero i a b t s = absurd (omega arith)
  ages_more (suc f) (suc g) i a b t s =
      let h = falls_turn f i t in
      turn_ages g i λ ne. let r = ages_turn f i s ne in (
        r.0,
        ages_more f g (back i) (enough_back f i a h.0 h.1 ne) (enough_back g i b h.0 h.1 ne)
            (h.2 ne) r.1,
      )

  -- any two bounds that are enough give one answer
  pub falls_fuel : (f g i : ℕ) → Enough f i → Enough g i → chain_falls m f i ≡ chain_falls m g i
  falls_fuel f g i a b = T-ext (chain_falls m f i) (chain_falls m g i) (falls_more f g i a b) (falls_more g f i b a)

  pub ages_fuel : (f g i : ℕ) → Enough f i → Enough g i → T (chain_falls m f i) → chain_ages m f i ≡ chain_ages m g i
  ages_fuel f g i a b t = T-ext (chain_ages m f i) (chain_ages m g i)
      (ages_more f g i a b t) (ages_more g f i b a (falls_more f g i a b t))

  -- the inspection's bound
  pub falls_bound : (fuel i : ℕ) → m.counts.versions + 1 ≤ fuel
      → chain_falls m fuel i ≡ chain_falls m (m.counts.versions + 1) i
  falls_bound fuel i h = falls_fuel fuel (m.counts.versions + 1) i (omega arith) (omega arith)

  pub ages_bound : (fuel i : ℕ) → m.counts.versions + 1 ≤ fuel
      → T (chain_falls m fuel i) → chain_ages m fuel i ≡ chain_ages m (m.counts.versions + 1) i
  ages_bound fuel i h t = ages_fuel fuel (m.counts.versions + 1) i (omega arith) (omega arith) t
