-- One turn of the walk of a level: what it says where no fault is found.
use Prim.Native.Nat.{ℕ, suc, ◌+◌, ◌≤◌, ◌<◌}
use mathlib.Core.Bool.{not}
use mathlib.Core.Logic.{◌≢◌}
use mathlib.Core.Path.{◌≡◌, refl}
use native.Mathlib.Omega.{arith}
use lib.Dec.{T, eqb, leb, ltb, eqb→eq, leb→le, nleb→lt, ltb→lt, nltb→le}
use Rattle.linearizability.specs.Types.{Inspecting, no_fault, fault_at}
use Rattle.model.specs.Layout.{Memory, key, top, next, lock}
use Rattle.model.specs.Inspection.{versions_sound, reaching, level_from}
use Rattle.model.specs.Soundness.{On}
use Rattle.model.proofs.Tests.{if-by, neqb→ne, T-absurd}
use Rattle.model.proofs.Stops.{if-passed, if-met, not-not→}

abbrev pub Faultless : Inspecting → Type 0
Faultless v = v ≡ no_fault

module _ (m : Memory) (l : ℕ) where
  abbrev key_of : ℕ → ℕ
  key_of x = key m.nodes x

  abbrev to : ℕ → ℕ
  to x = next m.nodes l x

  abbrev locked : ℕ → ℕ
  locked x = lock m.nodes l x

  abbrev top_of : ℕ → ℕ
  top_of x = top m.nodes x

  -- the nodes whose top reaches the level
  abbrev all : ℕ
  all = reaching m.nodes l m.counts.nodes

  pub record Turn (fuel seen x : ℕ) : Type 0 where
    pub free : locked x ≡ 0
    pub versions : T (versions_sound m l x)
    pub ended : to x ≡ 0 → all ≤ seen
    pub onward : to x ≢ 0 → On m l (to x) × (key_of x < key_of (to x)) × Faultless (level_from m l fuel (seen + 1) (to x))

  fault : (x : ℕ) → Faultless (fault_at l x) → ⊥
  fault x e = let z : ◌≡◌ {A = ℕ} 0 1 = cc in omega arith

  pub faultless_turn : (fuel seen x : ℕ) → Faultless (level_from m l (suc fuel) seen x) → Turn fuel seen x
  unfolding level_from
  faultless_turn fuel seen x s =
      let a = if-passed Faultless (not (eqb (locked x) 0)) (λ _. fault x) s in
      let b = if-passed Faultless (not (versions_sound m l x)) (λ _. fault x) a.1 in
      record {
        free = eqb→eq (locked x) 0 (not-not→ (eqb (locked x) 0) a.0);
        versions = not-not→ (versions_sound m l x) b.0;
        ended = λ e.
            let c = if-met Faultless (eqb (to x) 0) (λ t _. neqb→ne (to x) 0 t e) b.1 in
            nltb→le seen all (if-passed Faultless (ltb seen all) (λ _. fault x) c.1).0;
        onward = λ ne.
            let c = if-passed Faultless (eqb (to x) 0) (λ t _. ne (eqb→eq (to x) 0 t)) b.1 in
            let u = if-passed Faultless (ltb m.counts.nodes (to x)) (λ _. fault x) c.1 in
            let k = if-passed Faultless (leb (key_of (to x)) (key_of x)) (λ _. fault x) u.1 in
            let t = if-passed Faultless (ltb (top_of (to x)) l) (λ _. fault x) k.1 in (
              (nltb→le m.counts.nodes (to x) u.0, λ _. nltb→le (top_of (to x)) l t.0),
              nleb→lt (key_of (to x)) (key_of x) k.0,
              t.1,
            );
      }

  pub turn_faultless : (fuel seen x : ℕ) → Turn fuel seen x → Faultless (level_from m l (suc fuel) seen x)
  unfolding level_from
  turn_faultless fuel seen x t =
      if-by Faultless (not (eqb (locked x) 0)) (λ b. absurd (neqb→ne (locked x) 0 b t.free))
      λ _. if-by Faultless (not (versions_sound m l x)) (λ b. absurd (T-absurd (versions_sound m l x) t.versions b))
      λ _. if-by Faultless (eqb (to x) 0)
      (λ e. let r = t.ended (eqb→eq (to x) 0 e) in
      if-by Faultless (ltb seen all) (λ b. absurd (omega (arith, ltb→lt seen all b))) (λ _. refl))
      λ e. let ne = neqb→ne (to x) 0 e in
      let o = t.onward ne in
      let r = o.0.1 ne in
      if-by Faultless (ltb m.counts.nodes (to x))
      (λ b. absurd (omega (arith, ltb→lt m.counts.nodes (to x) b)))
      λ _. if-by Faultless (leb (key_of (to x)) (key_of x))
      (λ b. absurd (omega (arith, leb→le (key_of (to x)) (key_of x) b)))
      λ _. if-by Faultless (ltb (top_of (to x)) l) (λ b. absurd (omega (arith, ltb→lt (top_of (to x)) l b)))
      λ _. o.2
