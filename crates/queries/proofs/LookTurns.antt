-- The search and the walk back of a look, as the definitions have them.
use Rattle.model.specs.Types.{Ok, Err}
use Prim.Native.Nat.{ℕ, zero, suc, ◌+◌, ◌-◌, ◌≤◌, ◌<◌}
use mathlib.Core.Path.{◌≡◌, refl}
use mathlib.Core.List.{List}
use native.Mathlib.Omega.{arith}
use lib.Dec.{eqb}
use borrow.Author.Tests.{eq-eqb, ne_eqb, le-leb, lt-leb}
use Rattle.std.specs.Prelude.{Option, Some, None}
use Rattle.model.specs.declared.types.Refusal.TheVariants.{Damaged, NoVersion}
use Rattle.model.specs.Layout.{key, prev, version_at}
use Rattle.model.specs.Calls.{find_from, back_from}
use Rattle.model.proofs.Tests.{if-by, by_eq}
use Rattle.queries.specs.Found.{node_found}

-- ---- the search

-- one turn of it: x nodes are passed, and k is the key of the next
module _ (t : List ℕ) (wanted used x k : ℕ) (h : x < used) (e : k ≡ key t (x + 1)) where
  pub find_hit : k ≡ wanted → find_from t wanted (used - x) (x + 1) ≡ x + 1
  unfolding find_from
  find_hit q = let n : used - x ≡ suc (used - (x + 1)) = omega arith in rw n (simp (← e, eq-eqb _ _ q))

  pub find_miss : (k ≡ wanted → ⊥) → find_from t wanted (used - x) (x + 1) ≡ find_from t wanted (used - (x + 1)) (x + 1 + 1)
  unfolding find_from
  find_miss q = let n : used - x ≡ suc (used - (x + 1)) = omega arith in rw n (simp (← e, ne_eqb _ _ q))

pub find_end : (t : List ℕ) (wanted used x : ℕ) → used ≤ x → find_from t wanted (used - x) (x + 1) ≡ 0
unfolding find_from
find_end t wanted used x h = let n : used - x ≡ 0 = omega arith in rw n

module _ (t : List ℕ) (wanted : ℕ) where
  none_found : (left x : ℕ) → ((j : ℕ) → x ≤ j → j < x + left → key t j ≡ wanted → ⊥) → find_from t wanted left x ≡ 0
  unfolding find_from
  none_found zero x h = refl
  none_found (suc left) x h =
      simp (ne_eqb _ _ (h x (omega arith) (omega arith)))
      (none_found left (x + 1) λ j low high. h j (omega arith) (omega arith))

  first_found : (left x i : ℕ) → x ≤ i → i < x + left → key t i ≡ wanted → ((j : ℕ) → x ≤ j → j < i → key t j ≡ wanted → ⊥)
      → find_from t wanted left x ≡ i
  unfolding find_from
  first_found zero x i low high e before = absurd (omega arith)
  first_found (suc left) x i low high e before =
      by_eq x i (λ same. simp (eq-eqb (key t x) wanted (rw same e)) same)
      λ other. simp (ne_eqb _ _ (before x (omega arith) (omega arith)))
      (first_found left (x + 1) i (omega arith) (omega arith) e λ j l h. before j (omega arith) h)

  -- what a search of the nodes 1 to `used` answers, where none has the key, and where the first that has it is i
  pub found_is : (used : ℕ) (r : Option ℕ)
      → (r ≡ None → (j : ℕ) → 1 ≤ j → j ≤ used → key t j ≡ wanted → ⊥)
      → ((i : ℕ) → r ≡ Some i → (1 ≤ i) × (i ≤ used) × (key t i ≡ wanted))
      → ((i : ℕ) → r ≡ Some i → (j : ℕ) → 1 ≤ j → j < i → key t j ≡ wanted → ⊥)
      → r ≡ node_found (find_from t wanted used 1)
  unfolding node_found
  found_is used None none some before =
      rw (none_found used 1 λ j low high. none refl j low (omega arith)) refl
  found_is used (Some zero) none some before = absurd (omega (arith, (some zero refl).0))
  found_is used (Some (suc i)) none some before =
      let s = some (suc i) refl in
      rw (first_found used 1 (suc i) (omega arith) (omega (arith, s.1)) s.2 (before (suc i) refl)) refl

pub node_none : (n : ℕ) {r : Option ℕ} → r ≡ node_found n → r ≡ None → n ≡ 0
unfolding node_found
node_none zero e none = refl
node_none (suc n) e none = absurd (let z : ◌≡◌ {A = ℕ} 0 1 = cc in omega arith)

pub node_some : (n : ℕ) {r : Option ℕ} (x : ℕ) → r ≡ node_found n → r ≡ Some x → (x ≡ n) × (1 ≤ x)
unfolding node_found
node_some zero x e some = absurd (let z : ◌≡◌ {A = ℕ} 0 1 = cc in omega arith)
node_some (suc n) x e some = let same : x ≡ suc n = cc in (same, omega arith)

-- the node found is one of those looked at, or 0
pub find_within : (t : List ℕ) (wanted left x : ℕ) → 1 ≤ x → find_from t wanted left x < x + left
unfolding find_from
find_within t wanted zero x h = omega arith
find_within t wanted (suc left) x h =
    if-by (λ r. r < x + suc left) (eqb (key t x) wanted) (λ _. omega arith)
    (λ _. omega (arith, find_within t wanted left (x + 1) (omega arith)))

-- ---- the walk back; p is what the code read

module _ (t : List ℕ) (left i p : ℕ) (h : 0 < left) (e : p ≡ prev t i) where
  pub back_damaged : i ≤ p → back_from t left i ≡ Err Damaged
  unfolding back_from
  back_damaged q = let n : left ≡ suc (left - 1) = omega arith in rw n (simp (← e, le-leb _ _ q))

  pub back_short : p < i → p ≡ 0 → back_from t left i ≡ Err NoVersion
  unfolding back_from
  back_short q z = let n : left ≡ suc (left - 1) = omega arith in rw n (simp (← e, lt-leb _ _ q, eq-eqb _ _ z))

  back_by : (rest : ℕ) → left ≡ suc rest → p < i → (p ≡ 0 → ⊥) → back_from t left i ≡ back_from t rest p
  unfolding back_from
  back_by rest n q z = rw n (simp (← e, lt-leb _ _ q, ne_eqb _ _ z))

  pub back_on : p < i → (p ≡ 0 → ⊥) → back_from t left i ≡ back_from t (left - 1) p
  back_on = back_by (left - 1) (omega arith)

pub back_end : (t : List ℕ) (left i : ℕ) → left ≤ 0 → back_from t left i ≡ Ok (version_at t i)
unfolding back_from
back_end t left i h = let n : left ≡ 0 = omega arith in rw n
