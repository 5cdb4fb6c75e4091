-- The inspection answers sound just when the store is sound.
use Prim.Native.Nat.{ℕ, zero, suc, ◌+◌, ◌≤◌, ◌<◌}
use mathlib.Core.Path.{◌≡◌, refl}
use native.Mathlib.Omega.{arith}
use lib.Dec.{T}
use Rattle.linearizability.specs.Types.{Inspecting, Ok, Err, Some, Option, no_fault}
use Rattle.model.specs.Layout.{Memory, levels, newest}
use Rattle.model.specs.Inspection.{versions_sound, level_from, then_inspect, levels_from, inspection}
use Rattle.model.specs.Soundness.{On, ChainSound, Sound}
use Rattle.model.proofs.Tests.{by_eq}
use Rattle.linearizability.proofs.ChainInspected.{chain_means, means_chain}
use Rattle.linearizability.proofs.LevelTurn.{Faultless}
use Rattle.linearizability.proofs.LevelInspected.{LevelRight, level_means, means_level}

-- ---- one level after another

both_faultless : (a b : Inspecting) → Faultless (then_inspect a b) → Faultless a × Faultless b
both_faultless (Err r) b e = absurd (let z : ◌≡◌ {A = ℕ} 0 1 = cc in omega arith)
both_faultless (Ok (Some f)) b e = absurd (let z : ◌≡◌ {A = ℕ} 0 1 = cc in omega arith)
both_faultless (Ok Option.None) b e = (refl, e)

module _ (m : Memory) where
  abbrev walk : ℕ → Inspecting
  walk l = level_from m l (m.counts.nodes + 1) 0 0

  levels_mean : (left l : ℕ) → Faultless (levels_from m left l) → (k : ℕ) → l ≤ k → k < l + left → Faultless (walk k)
  unfolding levels_from
  levels_mean zero l e k low high = absurd (omega arith)
  levels_mean (suc left) l e k low high =
      let p = both_faultless (walk l) (levels_from m left (l + 1)) e in
      by_eq k l (λ same. rw same p.0) (λ ne. levels_mean left (l + 1) p.1 k (omega arith) (omega arith))

  means_levels : (left l : ℕ) → ((k : ℕ) → l ≤ k → k < l + left → Faultless (walk k)) → Faultless (levels_from m left l)
  unfolding levels_from
  means_levels zero l h = refl
  means_levels (suc left) l h =
      rw (h l (omega arith) (omega arith)) (means_levels left (l + 1) (λ k low high. h k (omega arith) (omega arith)))

  -- ---- the versions, which level 0 looks at

  versions_mean : (x : ℕ) → 1 ≤ x → T (versions_sound m 0 x) → ChainSound m (newest m.nodes x)
  unfolding versions_sound
  versions_mean zero a t = absurd (omega arith)
  versions_mean (suc x) a t = chain_means m (suc x) t

  means_versions : Sound m → (l x : ℕ) → On m l x → T (versions_sound m l x)
  unfolding versions_sound
  means_versions s zero zero o = tt
  means_versions s zero (suc x) o = means_chain m (suc x) (s.chains (suc x) (omega arith) o.0)
  means_versions s (suc l) x o = tt

  -- ---- the inspection

  pub sound_means : inspection m ≡ no_fault → Sound m
  unfolding inspection
  sound_means e = record {
    levels = λ l h. (right l h).0;
    chains = λ x a b. versions_mean x a ((right 0 (omega arith)).1 x (b, λ _. omega arith));
  }
    where
      right : (l : ℕ) → l < levels → LevelRight m l
      right l h = level_means m l (levels_mean levels 0 e l (omega arith) h)

  pub means_sound : Sound m → inspection m ≡ no_fault
  unfolding inspection
  means_sound s = means_levels levels 0 λ l low high.
      means_level m l (s.levels l high, means_versions s l) (m.counts.nodes + 1)
