-- One turn of the walk of a level, as the definition has it: its tests in the groups of the code, under a bound that is just enough
-- from the node reached. y, n and d are what the code found.
use Rattle.model.specs.Types.{Inspecting, no_fault, fault_at}
use Prim.Native.Nat.{ℕ, suc, ◌+◌, ◌-◌, ◌≤◌, ◌<◌}
use mathlib.Core.Bool.{Bool, true, false, not, ◌||◌}
use mathlib.Core.Path.{◌≡◌, refl, sym, ◌∙◌}
use native.Mathlib.Omega.{arith}
use lib.Dec.{eqb, ltb, leb}
use borrow.Author.Tests.{eq-eqb, ne_eqb, lt-ltb, le-ltb, leb-false, ltb-false}
use Rattle.std.specs.Prelude.{if◌then◌else◌}
use Rattle.model.specs.Layout.{Memory, top_level, levels, key, top, next, lock}
use Rattle.model.specs.Inspection.{versions_sound, reaching, level_from, then_inspect, levels_from}
use Rattle.model.proofs.LevelBound.{ahead, fewer_ahead, ahead_most, level_fuel}
use Rattle.inspection.specs.Faults.{link_fault}
use Rattle.inspection.proofs.ChainTurns.{or_false}
use Rattle.inspection.proofs.NodeTurns.{wrong}

stops : {A : Type 0} (a b c d e f : Bool) (fault end on : A)
    → (if a then fault else if b then fault else if c then end else if d then fault else if e then fault else if f then fault else on)
    ≡ (if a || b then fault else if c then end else if d || e || f then fault else on)
stops true b c d e f fault end on = refl
stops false true c d e f fault end on = refl
stops false false true d e f fault end on = refl
stops false false false true e f fault end on = refl
stops false false false false true f fault end on = refl
stops false false false false false true fault end on = refl
stops false false false false false false fault end on = refl

module _ (m : Memory) (l seen x : ℕ) where
  abbrev rest : Inspecting
  rest = level_from m l (suc (ahead m l x)) seen x

  abbrev to : ℕ
  to = next m.nodes l x

  abbrev last : Inspecting
  last = if ltb seen (reaching m.nodes l m.counts.nodes) then fault_at l x else no_fault

  level_turn : rest ≡ (if wrong m l x then fault_at l x else if eqb to 0 then last
      else if link_fault m l x to then fault_at l x else level_from m l (ahead m l x) (seen + 1) to)
  unfolding level_from
  level_turn =
      stops (not (eqb (lock m.nodes l x) 0)) (not (versions_sound m l x)) (eqb to 0)
      (ltb m.counts.nodes to) (leb (key m.nodes to) (key m.nodes x)) (ltb (top m.nodes to) l) _ _ _

  -- on to node y, which is in use and has fewer nodes ahead
  pub record Onward (y : ℕ) : Type 0 where
    pub used : y ≤ m.counts.nodes
    pub nears : ahead m l y < ahead m l x
    pub goes : rest ≡ level_from m l (suc (ahead m l y)) (seen + 1) y

  pub node_stops : wrong m l x ≡ true → rest ≡ fault_at l x
  node_stops h = level_turn ∙ simp h

  module _ (r : wrong m l x ≡ false) (y : ℕ) (ey : y ≡ to) where
    module _ (z : y ≡ 0) (n : ℕ) (en : n ≡ reaching m.nodes l m.counts.nodes) where
      pub level_short : seen < n → rest ≡ fault_at l x
      level_short q = level_turn ∙ simp (r, ← ey, eq-eqb _ _ z, ← en, lt-ltb _ _ q)

      pub level_whole : n ≤ seen → rest ≡ no_fault
      level_whole q = level_turn ∙ simp (r, ← ey, eq-eqb _ _ z, ← en, le-ltb _ _ q)

    module _ (nz : y ≡ 0 → ⊥) (d : Bool) (ed : d ≡ link_fault m l x y) where
      pub link_stops : d ≡ true → rest ≡ fault_at l x
      link_stops g = level_turn ∙ simp (r, ← ey, ne_eqb _ _ nz, ← ed, g)

      pub level_goes : d ≡ false → Onward y
      level_goes g =
          let out = ltb m.counts.nodes y || leb (key m.nodes y) (key m.nodes x) in
          let a = or_false out (ltb (top m.nodes y) l) (sym ed ∙ g) in
          let b = or_false (ltb m.counts.nodes y) (leb (key m.nodes y) (key m.nodes x)) a.0 in
          let used = ltb-false m.counts.nodes y b.0 in
          let nears = fewer_ahead m l x y nz (used, λ _. ltb-false _ _ a.1) (leb-false _ _ b.1) in
          let same = level_fuel m l (ahead m l x) (suc (ahead m l y)) (seen + 1) y (omega arith) (omega arith) in
          record { used = used; nears = nears; goes = level_turn ∙ simp (r, ← ey, ne_eqb _ _ nz, ← ed, g) same }

-- ---- the levels

pub level_starts : (m : Memory) (l : ℕ) → level_from m l (m.counts.nodes + 1) 0 0 ≡ level_from m l (suc (ahead m l 0)) 0 0
level_starts m l = level_fuel m l (m.counts.nodes + 1) (suc (ahead m l 0)) 0 0 (ahead_most m l 0) (omega arith)

module _ (m : Memory) (l : ℕ) (h : l ≤ top_level) where
  abbrev this : Inspecting
  this = level_from m l (m.counts.nodes + 1) 0 0

  first : levels_from m (levels - l) l ≡ then_inspect this (levels_from m (levels - (l + 1)) (l + 1))
  unfolding levels_from
  first = let n : levels - l ≡ suc (levels - (l + 1)) = omega arith in rw n

  pub levels_stop : (x : ℕ) → this ≡ fault_at l x → levels_from m (levels - l) l ≡ fault_at l x
  levels_stop x e = first ∙ simp e

  pub levels_go : this ≡ no_fault → levels_from m (levels - l) l ≡ levels_from m (levels - (l + 1)) (l + 1)
  levels_go e = first ∙ simp e

pub levels_end : (m : Memory) (l : ℕ) → l ≡ levels → levels_from m (levels - l) l ≡ no_fault
unfolding levels_from
levels_end m l e = rw e
