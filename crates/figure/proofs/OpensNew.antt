-- What an accepted opening leaves is what the figure's new leaves.
use Prim.Native.Nat.{ℕ, zero, suc, ◌≤◌, ◌<◌}
use mathlib.Core.List.{List, [], ◌∷◌}
use mathlib.Core.Path.{◌≡◌, refl, sym, ap, ◌∙◌}
use native.Mathlib.Omega.{arith}
use lib.ListN.{length, get_or, set, replicate}
use lib.Seq.{sets, set-get_or, get_or-set_other}
use Rattle.model.specs.Layout.{with_word, fresh_nodes, node_record}
use Rattle.model.specs.Calls.{open_permit, open_by, open_of}
use Rattle.model.specs.ByValue.{fresh_store}
use Rattle.model.proofs.Words.{filled}
use Rattle.figure.specs.Types.{Permit, Ok, Err, Refusal, Opening}
use Rattle.figure.specs.Figure.{HMAX, AllocN, ref_node, init_locks, new}
use Rattle.figure.specs.Alone.{memory_in, OpensNew}
use Rattle.figure.proofs.Writing.{sets_set}

-- zeroes written over zeroes
same_set : (l : List ℕ) (i : ℕ) → get_or l i 0 ≡ 0 → set l i 0 ≡ l
same_set l i e = ap (λ (v : ℕ). set l i v) (sym e) ∙ set-get_or l i 0

same_sets : (k i : ℕ) (l : List ℕ) → ((j : ℕ) → i ≤ j → get_or l j 0 ≡ 0) → sets l i (replicate k 0) ≡ l
same_sets zero i l z = refl
same_sets (suc k) i l z = ap (λ (t : List ℕ). sets t (suc i) (replicate k 0)) (same_set l i (z i (omega arith)))
    ∙ same_sets k (suc i) l (λ j le. z j (omega arith))

-- so the left sentinel is word 2
fresh_is : (n : ℕ) → sets (replicate n 0) 0 (node_record 0 0 5 0) ≡ fresh_nodes n
unfolding fresh_nodes with_word
fresh_is n =
    let t : List ℕ = replicate n 0 in
    let rest : List ℕ = replicate 13 0 in
    ap (λ (l : List ℕ). sets (set (set l 1 0) 2 5) 3 rest) (same_set t 0 (filled {A = ℕ} n 0 0))
    ∙ ap (λ (l : List ℕ). sets (set l 2 5) 3 rest) (same_set t 1 (filled {A = ℕ} n 1 0))
    ∙ same_sets 13 3 (set t 2 5) (λ j le. get_or-set_other t 2 j 5 0 (omega arith) ∙ filled {A = ℕ} n j 0)

-- the left sentinel with locks of these contents
abbrev sentinel : (a b c d e f : ℕ) → List ℕ
sentinel a b c d e f = 0 ∷ 0 ∷ 5 ∷ 0 ∷ 0 ∷ 0 ∷ 0 ∷ 0 ∷ 0 ∷ 0 ∷ a ∷ b ∷ c ∷ d ∷ e ∷ f ∷ []

-- each lock is made in its turn
locks_by_one : (t : List ℕ) (x : ℕ)
    → set (set (set (set (set (set (sets t 0 (sentinel x x x x x x)) 10 0) 11 0) 12 0) 13 0) 14 0) 15 0
    ≡ sets t 0 (sentinel 0 0 0 0 0 0)
locks_by_one t x =
    ap (λ (l : List ℕ). set (set (set (set (set l 11 0) 12 0) 13 0) 14 0) 15 0)
    (sets_set (sentinel x x x x x x) t 0 10 0 (omega arith))
    ∙ ap (λ (l : List ℕ). set (set (set (set l 12 0) 13 0) 14 0) 15 0) (sets_set (sentinel 0 x x x x x) t 0 11 0 (omega arith))
    ∙ ap (λ (l : List ℕ). set (set (set l 13 0) 14 0) 15 0) (sets_set (sentinel 0 0 x x x x) t 0 12 0 (omega arith))
    ∙ ap (λ (l : List ℕ). set (set l 14 0) 15 0) (sets_set (sentinel 0 0 0 x x x) t 0 13 0 (omega arith))
    ∙ ap (λ (l : List ℕ). set l 15 0) (sets_set (sentinel 0 0 0 0 x x) t 0 14 0 (omega arith))
    ∙ sets_set (sentinel 0 0 0 0 0 x) t 0 15 0 (omega arith)

-- beyond the highest level initLocks does nothing
locks_done : (bound : ℕ) (t : List ℕ) → init_locks bound t 6 ≡ t
unfolding init_locks
locks_done zero t = refl
locks_done (suc bound) t = refl

locks_made : (bound n unmade : ℕ)
    → init_locks (suc (suc (suc (suc (suc (suc bound)))))) (ref_node (replicate n 0) 0 0 0 5 (AllocN 6 unmade) (AllocN 6 0)) 0
    ≡ fresh_nodes n
unfolding init_locks ref_node with_word
locks_made bound n unmade = locks_done bound _ ∙ locks_by_one (replicate n 0) unmade ∙ fresh_is n

new_is : (bound nodes versions unmade : ℕ) → HMAX < bound
    → record { nodes = fresh_nodes nodes; versions = replicate versions 0; counts = record { nodes = 0; versions = 0 } }
    ≡ new bound nodes versions unmade
unfolding new
new_is zero n v x lt = absurd (omega arith)
new_is (suc zero) n v x lt = absurd (omega arith)
new_is (suc (suc zero)) n v x lt = absurd (omega arith)
new_is (suc (suc (suc zero))) n v x lt = absurd (omega arith)
new_is (suc (suc (suc (suc zero)))) n v x lt = absurd (omega arith)
new_is (suc (suc (suc (suc (suc zero))))) n v x lt = absurd (omega arith)
new_is (suc (suc (suc (suc (suc (suc bound)))))) n v x lt =
    ap (λ (t : List ℕ). record { nodes = t; versions = replicate v 0; counts = record { nodes = 0; versions = 0 } })
    (sym (locks_made bound n x))

pub opens_new : OpensNew
unfolding open_of
opens_new nodes versions processes limit opened bound lt unmade = go (open_permit nodes versions processes limit) opened
  where
    go : (p : Permit) → (open_by p nodes versions processes limit).result.outcome ≡ (Ok tt)
        → memory_in (fresh_store (open_by p nodes versions processes limit))
        ≡ new bound (length nodes) (length versions) unmade
    go (Err r) e = absurd (unfold open_by in (refused≢opened r e))
      where
        refused≢opened : (r : Refusal) → ◌≡◌ {A = Opening} (Err r) (Ok tt) → ⊥
        refused≢opened r e = let z : ◌≡◌ {A = ℕ} 0 1 = cc in omega arith
    go (Ok _) e = unfold open_by in (new_is bound (length nodes) (length versions) unmade lt)
