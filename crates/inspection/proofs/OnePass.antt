-- P2's law: along a chain one pass answers what the two passes of document 01 answer, on any memory, from any version on and under
-- any bound. It may stop at another version than they do.
use Rattle.model.specs.Types.{no_fault, fault_at}
use Prim.Native.Nat.{ℕ, zero, suc, ◌+◌, ◌<◌}
use mathlib.Core.Bool.{Bool, true, false, not, ◌&&◌}
use mathlib.Core.Logic.{◌≢◌}
use mathlib.Core.Path.{◌≡◌, refl, sym, ◌∙◌}
use lib.Dec.{eqb, ltb, leb}
use borrow.Author.Tests.{ne_eqb, le-leb, lt-leb, lt-ltb}
use Rattle.std.specs.Prelude.{if◌then◌else◌}
use Rattle.model.specs.Layout.{Memory, newest, timestamp, prev}
use Rattle.model.specs.Phases.{used_version}
use Rattle.model.specs.Inspection.{chain_falls, chain_ages, chain_sound}
use Rattle.model.specs.Soundness.{InUse}
use Rattle.inspection.specs.OnePass.{two_passes, one_pass}

-- One turn, by its tests: the version not in use, the place before it not smaller, none before it, the timestamp before it greater.
-- `falls` and `ages` are what the two passes find further back.
by_tests : {A : Type 0} (unused rises oldest younger falls ages : Bool) (fault sound rest : A)
    → rest ≡ (if not falls then fault else if not ages then fault else sound)
    → (if unused then fault else if rises then fault else if oldest then sound else if younger then fault else rest)
    ≡ (if not (if unused then false else if rises then false else if oldest then true else falls) then fault
    else if not (if oldest then true else if younger then false else ages) then fault else sound)
by_tests true rises oldest younger falls ages fault sound rest e = refl
by_tests false true oldest younger falls ages fault sound rest e = refl
by_tests false false true younger falls ages fault sound rest e = refl
-- a timestamp is wrong here: the two passes stop at this node too, at a place further back or here
by_tests false false false true false ages fault sound rest e = refl
by_tests false false false true true ages fault sound rest e = refl
by_tests false false false false falls ages fault sound rest e = e

both : {A : Type 0} (a b : Bool) (fault sound : A)
    → (if not a then fault else if not b then fault else sound) ≡ (if a && b then sound else fault)
both true true fault sound = refl
both true false fault sound = refl
both false b fault sound = refl

module _ (m : Memory) (l x : ℕ) where
  pub one_pass_lem : (fuel i : ℕ) → one_pass m l x fuel i ≡ two_passes m l x fuel i
  unfolding one_pass two_passes chain_falls chain_ages
  one_pass_lem zero i = refl
  one_pass_lem (suc fuel) i =
      let p = prev m.versions i in
      by_tests (not (used_version m i)) (leb i p) (eqb p 0) (ltb (timestamp m.versions i) (timestamp m.versions p))
      (chain_falls m fuel p) (chain_ages m fuel p) (fault_at l x) no_fault (one_pass m l x fuel p) (one_pass_lem fuel p)

  -- From a version on whose timestamp is less than the one before it, the one pass stops at once. The two passes first go on for places,
  -- and may stop at one further back. Whatever lies there, both answer this level and this node.
  pub timestamp_first : (fuel i : ℕ) → InUse m i → prev m.versions i < i → prev m.versions i ≢ 0
      → timestamp m.versions i < timestamp m.versions (prev m.versions i)
      → (one_pass m l x (suc fuel) i ≡ fault_at l x) × (two_passes m l x (suc fuel) i ≡ fault_at l x)
  unfolding one_pass
  timestamp_first fuel i used falls nz younger =
      let e : one_pass m l x (suc fuel) i ≡ fault_at l x =
      simp (le-leb _ _ used.0, le-leb _ _ used.1, lt-leb _ _ falls, ne_eqb _ _ nz, lt-ltb _ _ younger) in
      (e, sym (one_pass_lem (suc fuel) i) ∙ e)

  -- so it finds the chain of a node sound just where the inspection of document 01 does
  pub one_pass_sound : one_pass m l x (m.counts.versions + 1) (newest m.nodes x)
      ≡ (if chain_sound m x then no_fault else fault_at l x)
  unfolding two_passes chain_sound
  one_pass_sound =
      let i = newest m.nodes x in
      let fuel = m.counts.versions + 1 in
      one_pass_lem fuel i ∙ both (chain_falls m fuel i) (chain_ages m fuel i) (fault_at l x) no_fault
