-- Walks of a chain with enough turns find no fault just when the chain is sound.
use Prim.Native.Nat.{ℕ, zero, suc, ◌+◌}
use native.Mathlib.Omega.{arith}
use lib.Dec.{T}
use Rattle.model.specs.Layout.{Memory, newest, prev}
use Rattle.model.specs.Inspection.{chain_falls, chain_ages, chain_sound}
use Rattle.model.specs.Soundness.{InUse, ChainSound, oldest, older}
use Rattle.model.proofs.Tests.{by_eq, and→, →and}
use Rattle.model.proofs.ChainBound.{Enough, enough_back, falls_turn, turn_falls, ages_turn, turn_ages}

module _ (m : Memory) where
  abbrev back : ℕ → ℕ
  back i = prev m.versions i

  walks_mean : (fuel i : ℕ) → Enough m fuel i → T (chain_falls m fuel i) → T (chain_ages m fuel i) → ChainSound m i
  walks_mean zero i e t s = absurd (omega arith)
  walks_mean (suc fuel) i e t s =
      let h = falls_turn m fuel i t in
      by_eq (back i) 0 (λ z. oldest h.0 z)
      λ ne. let r = ages_turn m fuel i s ne in
      older h.0 h.1 r.0 (walks_mean fuel (back i) (enough_back m fuel i e h.0 h.1 ne) (h.2 ne) r.1)

  means_walks : (fuel i : ℕ) → Enough m fuel i → ChainSound m i → T (chain_falls m fuel i) × T (chain_ages m fuel i)
  means_walks zero i e c = absurd (omega arith)
  means_walks (suc fuel) i e (oldest u z) =
      (turn_falls m fuel i u (omega arith) (λ ne. absurd (ne z)), turn_ages m fuel i (λ ne. absurd (ne z)))
  means_walks (suc fuel) i e (older u lt le c) = (
    turn_falls m fuel i u lt (λ ne. (means_walks fuel (back i) (enough_back m fuel i e u lt ne) c).0),
    turn_ages m fuel i (λ ne. (le, (means_walks fuel (back i) (enough_back m fuel i e u lt ne) c).1)),
  )

  pub chain_means : (x : ℕ) → T (chain_sound m x) → ChainSound m (newest m.nodes x)
  unfolding chain_sound
  chain_means x t =
      let i = newest m.nodes x in
      let v = m.counts.versions + 1 in
      let p = and→ (chain_falls m v i) (chain_ages m v i) t in
      walks_mean v i (omega arith) p.0 p.1

  first_used : (i : ℕ) → ChainSound m i → InUse m i
  first_used i (oldest u z) = u
  first_used i (older u lt le c) = u

  pub means_chain : (x : ℕ) → ChainSound m (newest m.nodes x) → T (chain_sound m x)
  unfolding chain_sound
  means_chain x c =
      let i = newest m.nodes x in
      let v = m.counts.versions + 1 in
      let u = first_used i c in
      let p = means_walks v i (omega arith) c in
      →and (chain_falls m v i) (chain_ages m v i) p.0 p.1
