-- Fewer nodes reach a level than the one below it, by those whose top that is; and one node more is counted at its top.
use Prim.Native.Nat.{ℕ, zero, suc, ◌+◌, ◌-◌, ◌≤◌, ◌<◌}
use mathlib.Core.List.{List}
use mathlib.Core.Logic.{◌≢◌, ◌⊎◌, inl, inr}
use mathlib.Core.Path.{◌≡◌, refl, sym, ◌∙◌, subst}
use native.Mathlib.Numerals.{add-one}
use native.Mathlib.Omega.{arith}
use lib.Dec.{eqb, leb}
use lib.ListN.{length, length-set, get_or, set, replicate, get_or-replicate}
use lib.Seq.{get_or-set_same, get_or-set_other}
use borrow.Author.Tests.{eq-eqb, ne_eqb, le-leb, lt-leb}
use Rattle.std.specs.Prelude.{if◌then◌else◌}
use Rattle.model.specs.Layout.{top_level, levels, top}
use Rattle.model.specs.Inspection.{reaching}
use Rattle.model.proofs.Tests.{if_yes, if_no, by_eq, by_le, eq→eqb, ne→neqb}
use Rattle.model.proofs.Counting.{count}
use Rattle.inspection.specs.Tops.{top_count, TopCounts}

-- ---- how many nodes reach a level

pub reaching_all : (nodes : List ℕ) (n : ℕ) → reaching nodes 0 n ≡ n
unfolding reaching
reaching_all nodes zero = refl
reaching_all nodes (suc n) = let l = le-leb 0 (top nodes (suc n)) (omega arith) in simp l (omega (arith, reaching_all nodes n))

-- a node with top t reaches l just where t is l or it reaches the level above
one_less : (l t : ℕ) → (if leb l t then 1 else 0) ≡ (if eqb t l then 1 else 0) + (if leb (l + 1) t then 1 else 0)
one_less l t =
    by_eq t l (λ e. simp (eq-eqb t l e, le-leb l t (omega arith), lt-leb (l + 1) t (omega arith)))
    λ ne. by_le l t (λ a. simp (ne_eqb t l ne, le-leb l t a, le-leb (l + 1) t (omega arith)))
    λ b. simp (ne_eqb t l ne, lt-leb l t b, lt-leb (l + 1) t (omega arith))

pub reaching_less : (nodes : List ℕ) (l n : ℕ) → reaching nodes l n ≡ top_count nodes l n + reaching nodes (l + 1) n
unfolding reaching count
reaching_less nodes l zero = refl
reaching_less nodes l (suc n) = omega (arith, one_less l (top nodes (suc n)), reaching_less nodes l n)

-- ---- the counts of no node, and of one node more, whose top is t

pub counts_none : (nodes : List ℕ) → TopCounts nodes 0 (replicate levels 0)
unfolding count
counts_none nodes l h = get_or-replicate levels l 0 0 (omega arith)

module _ (nodes counts : List ℕ) (n t : ℕ) (e : t ≡ top nodes (n + 1)) (c : TopCounts nodes n counts) where
  one_more : (l : ℕ) → top_count nodes l (n + 1) ≡ (if eqb t l then 1 else 0) + top_count nodes l n
  unfolding count
  one_more l = rw (e, add-one n)

  other : (l : ℕ) → t ≢ l → top_count nodes l (n + 1) ≡ top_count nodes l n
  other l ne = omega (arith, one_more l, if_no {A = ℕ} (eqb t l) 1 0 (ne→neqb t l ne))

  counts_more : length counts ≡ levels → t < top_level → TopCounts nodes (n + 1) (set counts t (get_or counts t 0 + 1))
  counts_more len low l h = by_eq t l here there
    where
      more : List ℕ
      more = set counts t (get_or counts t 0 + 1)

      here : t ≡ l → get_or more l 0 ≡ top_count nodes l (n + 1)
      here e =
          let same = get_or-set_same counts t (get_or counts t 0 + 1) 0 (omega arith) in
          rw (← e) (omega (arith, same, c t low, one_more t, if_yes {A = ℕ} (eqb t t) 1 0 (eq→eqb t t refl)))

      there : t ≢ l → get_or more l 0 ≡ top_count nodes l (n + 1)
      there ne = omega (arith, get_or-set_other counts t l (get_or counts t 0 + 1) 0 (λ e. ne (sym e)), c l h, other l ne)

  counts_same : top_level ≤ t → TopCounts nodes (n + 1) counts
  counts_same high l h = omega (arith, c l h, other l (λ e. omega arith))

-- node x is counted at its top t, where a level lies above it
pub counts_next : (nodes counts next : List ℕ) (x t : ℕ) → 1 ≤ x → t ≡ top nodes x → length counts ≡ levels → TopCounts nodes (x - 1) counts
    → ((t < top_level) × (next ≡ set counts t (get_or counts t 0 + 1))) ⊎ ((top_level ≤ t) × (next ≡ counts))
    → (length next ≡ levels) × TopCounts nodes x next
counts_next nodes counts next x t first e len c (inl b) =
    let this : x - 1 + 1 ≡ x = omega arith in
    let more = counts_more nodes counts (x - 1) t (rw this e) c len b.0 in
    rw b.1 (length-set counts t _ ∙ len, subst (λ n. TopCounts nodes n (set counts t (get_or counts t 0 + 1))) this more)
counts_next nodes counts next x t first e len c (inr b) =
    let this : x - 1 + 1 ≡ x = omega arith in
    rw b.1 (len, subst (λ n. TopCounts nodes n counts) this (counts_same nodes counts (x - 1) t (rw this e) c b.0))
