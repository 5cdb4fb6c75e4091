-- One turn of the pass along a chain, under the inspection's own bound: places fall, so the bound need not fall with them.
-- p and b are what the code read and found.
use Rattle.model.specs.Types.{Inspecting, no_fault, fault_at}
use Prim.Native.Nat.{ℕ, suc, ◌+◌, ◌≤◌, ◌<◌}
use mathlib.Core.Bool.{Bool, true, false, not, ◌&&◌, ◌||◌}
use mathlib.Core.Logic.{◌≢◌}
use mathlib.Core.Path.{◌≡◌, refl, sym, ◌∙◌}
use native.Mathlib.Numerals.{add-one}
use native.Mathlib.Omega.{arith}
use lib.Dec.{T, eqb, leb, ltb, leb→le, eqb→eq}
use borrow.Author.Tests.{eq-eqb, ne_eqb, le-leb, leb-false}
use Rattle.std.specs.Prelude.{if◌then◌else◌}
use Rattle.model.specs.Layout.{Memory, timestamp, prev}
use Rattle.model.specs.Inspection.{chain_falls}
use Rattle.model.proofs.Tests.{by_eq}
use Rattle.model.proofs.Stops.{if-same, not-not→}
use Rattle.model.proofs.ChainBound.{Enough, falls_fuel, ages_fuel}
use Rattle.inspection.specs.Faults.{version_fault}
use Rattle.inspection.specs.OnePass.{two_passes, one_pass}
use Rattle.inspection.proofs.OnePass.{one_pass_lem}

pub or_false : (a b : Bool) → a || b ≡ false → (a ≡ false) × (b ≡ false)
or_false true b h = absurd (let z : ◌≡◌ {A = ℕ} 0 1 = cc in omega arith)
or_false false b h = (refl, h)

grouped : {A : Type 0} (rises oldest younger : Bool) (fault sound rest : A) → (T rises → T oldest → ⊥)
    → (if rises then fault else if oldest then sound else if younger then fault else rest)
    ≡ (if not oldest && (rises || younger) then fault else if oldest then sound else rest)
grouped true true younger fault sound rest h = absurd (h tt tt)
grouped true false younger fault sound rest h = refl
grouped false true younger fault sound rest h = refl
grouped false false true fault sound rest h = refl
grouped false false false fault sound rest h = refl

module _ (m : Memory) (l x : ℕ) where
  -- two bounds that are enough give one answer, since they do for each of the two passes
  pass_fuel : (f g i : ℕ) → Enough m f i → Enough m g i → one_pass m l x f i ≡ one_pass m l x g i
  unfolding two_passes
  pass_fuel f g i a b = one_pass_lem m l x f i ∙ two_fuel ∙ sym (one_pass_lem m l x g i)
    where
      two_fuel : two_passes m l x f i ≡ two_passes m l x g i
      two_fuel = rw (← falls_fuel m f g i a b)
          (if-same (not (chain_falls m f i)) _ λ t. rw (ages_fuel m f g i a b (not-not→ (chain_falls m f i) t)))

  -- what is left of the pass from version i on; 0 is behind the oldest
  abbrev pub left : ℕ → Inspecting
  left i = if eqb i 0 then no_fault else one_pass m l x (m.counts.versions + 1) i

  pub pass_ends : (i : ℕ) → i ≡ 0 → left i ≡ no_fault
  pass_ends i z = simp (eq-eqb i 0 z)

  module _ (i : ℕ) (nz : i ≢ 0) (used : i ≤ m.counts.versions) (p : ℕ) (ep : p ≡ prev m.versions i) where
    -- the tests of a version in use, grouped as in the code: where none is before it, p is 0 and so smaller than i
    pass_turn : (fuel : ℕ) → one_pass m l x (suc fuel) i
        ≡ (if version_fault m.versions i p then fault_at l x else if eqb p 0 then no_fault else one_pass m l x fuel p)
    unfolding one_pass
    pass_turn fuel = simp (le-leb 1 i (omega arith), le-leb i m.counts.versions used, ← ep)
        (grouped (leb i p) (eqb p 0) (ltb (timestamp m.versions i) (timestamp m.versions p)) _ _ _
        λ r z. let a = leb→le i p r in let c = eqb→eq p 0 z in omega arith)

    module _ (b : Bool) (eb : b ≡ version_fault m.versions i p) where
      pub pass_stops : b ≡ true → left i ≡ fault_at l x
      pass_stops h = simp (ne_eqb i 0 nz) (rw add-one (pass_turn m.counts.versions ∙ simp (← eb, h)))

      pub pass_goes : b ≡ false → (p < i) × (left i ≡ left p)
      pass_goes h = (
        by_eq p 0 (λ z. omega arith) λ ne.
            let e = simp (ne_eqb p 0 ne) at (sym eb ∙ h) in
            leb-false i p (or_false (leb i p) (ltb (timestamp m.versions i) (timestamp m.versions p)) e).0,
        simp (ne_eqb i 0 nz) (rw add-one (pass_turn m.counts.versions ∙ simp (← eb, h)
            (if-same (eqb p 0) _ λ ne. pass_fuel m.counts.versions (suc m.counts.versions) p (omega arith) (omega arith)))),
      )
