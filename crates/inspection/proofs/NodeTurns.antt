-- The tests of the node reached, in document 01's order and in the code's: a fault of the node, else what the one pass along its chain
-- answers. Its versions are looked at on level 0 alone.
use Rattle.model.specs.Types.{no_fault, fault_at}
use Prim.Native.Nat.{ℕ, zero, suc, ◌≤◌}
use mathlib.Core.Bool.{Bool, true, false, not, ◌&&◌, ◌||◌}
use mathlib.Core.Path.{◌≡◌, refl, sym, ◌∙◌}
use native.Mathlib.Numerals.{add-one}
use native.Mathlib.Omega.{arith}
use lib.Dec.{T, eqb, leb, leb→le}
use borrow.Author.Tests.{ne_eqb}
use Rattle.std.specs.Prelude.{if◌then◌else◌}
use Rattle.model.specs.Layout.{Memory, newest, lock}
use Rattle.model.specs.Phases.{used_version}
use Rattle.model.specs.Inspection.{chain_falls, chain_sound, versions_sound}
use Rattle.model.proofs.Tests.{T_true, and→}
use Rattle.inspection.specs.Faults.{has_versions, chain_start, node_fault}
use Rattle.inspection.proofs.ChainTurns.{left, or_false}
use Rattle.inspection.proofs.OnePass.{one_pass_sound}

-- what document 01 tests: a lock held, or versions that are not sound
abbrev pub wrong : Memory → (level x : ℕ) → Bool
wrong m l x = not (eqb (lock m.nodes l x) 0) || not (versions_sound m l x)

unused : (m : Memory) (x : ℕ) → used_version m (newest m.nodes x) ≡ false → chain_sound m x ≡ false
unfolding chain_sound chain_falls
unused m x h = rw add-one (simp h)

-- `pass` is what the pass along the chain answers, which is asked where the chain begins at a version in use
answers : {A : Type 0} (held used chain : Bool) (fault sound pass : A)
    → (used ≡ false → chain ≡ false) → (used ≡ true → pass ≡ (if chain then sound else fault))
    → (if held || not chain then fault else sound) ≡ (if held || not used then fault else pass)
answers true used chain fault sound pass f g = refl
answers false false chain fault sound pass f g = simp (f refl)
answers false true true fault sound pass f g = sym (g refl)
answers false true false fault sound pass f g = sym (g refl)

node_answers : (m : Memory) (l x : ℕ) → (if wrong m l x then fault_at l x else no_fault)
    ≡ (if node_fault m l x then fault_at l x else left m l x (chain_start m.nodes l x))
unfolding versions_sound
node_answers m zero zero = refl
node_answers m zero (suc x) =
    let i = newest m.nodes (suc x) in
    simp (ne_eqb (suc x) 0 (omega arith))
    (answers (not (eqb (lock m.nodes 0 (suc x)) 0)) (used_version m i) (chain_sound m (suc x)) _ _ (left m 0 (suc x) i)
    (unused m (suc x))
    (λ u. let h = leb→le 1 i (and→ (leb 1 i) (leb i m.counts.versions) (T_true u)).0 in
    simp (ne_eqb i 0 (omega arith)) (one_pass_sound m 0 (suc x))))
node_answers m (suc l) x = simp (ne_eqb (suc l) 0 (omega arith))

starts : (has used : Bool) (n k : ℕ) → has && not used ≡ false → (T used → n ≤ k) → (if has then n else 0) ≤ k
starts true true n k h f = f tt
starts true false n k h f = absurd (let z : ◌≡◌ {A = ℕ} 0 1 = cc in omega arith)
starts false used n k h f = omega arith

tells_wrong : (l x : ℕ) (b : Bool) → (if b then fault_at l x else no_fault) ≡ fault_at l x → b ≡ true
tells_wrong l x true e = refl
tells_wrong l x false e = absurd (let z : ◌≡◌ {A = ℕ} 0 1 = cc in omega arith)

tells_right : (l x : ℕ) (b : Bool) → (if b then fault_at l x else no_fault) ≡ no_fault → b ≡ false
tells_right l x true e = absurd (let z : ◌≡◌ {A = ℕ} 0 1 = cc in omega arith)
tells_right l x false e = refl

module _ (m : Memory) (l x : ℕ) where
  pub node_wrong : node_fault m l x ≡ true → wrong m l x ≡ true
  node_wrong h = tells_wrong l x (wrong m l x) (node_answers m l x ∙ simp h)

  module _ (h : node_fault m l x ≡ false) where
    pub chain_starts : chain_start m.nodes l x ≤ m.counts.versions
    chain_starts =
        let i = newest m.nodes x in
        let e = or_false (not (eqb (lock m.nodes l x) 0)) (has_versions l x && not (used_version m i)) h in
        starts (has_versions l x) (used_version m i) i m.counts.versions e.1
        λ u. leb→le i m.counts.versions (and→ (leb 1 i) (leb i m.counts.versions) u).1

    pub chain_wrong : left m l x (chain_start m.nodes l x) ≡ fault_at l x → wrong m l x ≡ true
    chain_wrong e = tells_wrong l x (wrong m l x) (node_answers m l x ∙ simp h e)

    pub chain_right : left m l x (chain_start m.nodes l x) ≡ no_fault → wrong m l x ≡ false
    chain_right e = tells_right l x (wrong m l x) (node_answers m l x ∙ simp h e)
