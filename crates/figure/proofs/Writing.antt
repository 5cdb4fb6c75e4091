-- The figure's writes are the store's: a new node that is written and then linked is the record that make writes with its link,
-- and a new lock is as free as it was.
use Prim.Native.Nat.{ℕ, zero, suc, ◌+◌, ◌*◌, ◌≤◌, ◌<◌}
use mathlib.Core.List.{List, [], ◌∷◌}
use mathlib.Core.Path.{◌≡◌, refl, sym, ap, ◌∙◌}
use native.Mathlib.Nat.{add-zero}
use native.Mathlib.Omega.{arith}
use lib.ListN.{length, set}
use lib.Seq.{sets, set-set, set_comm, set-get_or}
use Rattle.model.specs.Layout.{Memory, node_words, word, with_word, next, lock, with_next, with_lock, with_node, with_version, node_record, top_level}
use Rattle.model.specs.Phases.{own_version, add_node, add_link}
use Rattle.model.proofs.Words.{word_field, node_out}
use Rattle.figure.specs.Types.{Call, Cursor}
use Rattle.figure.specs.Figure.{AllocN, ref_node, with_nodes, link, create}

-- ---- a word set in a run of words

sets_past : (vs l : List ℕ) (i j v : ℕ) → j < i → set (sets l i vs) j v ≡ sets (set l j v) i vs
sets_past [] l i j v h = refl
sets_past (a ∷ vs) l i j v h =
    sets_past vs (set l i a) (suc i) j v (omega arith) ∙ ap (λ (z : List ℕ). sets z (suc i) vs) (set_comm l i j a v (omega arith))

pub sets_set : (vs l : List ℕ) (i j v : ℕ) → j < length vs → set (sets l i vs) (i + j) v ≡ sets l i (set vs j v)
sets_set [] l i j v h = absurd (omega arith)
sets_set (a ∷ vs) l i zero v h =
    ap (λ (n : ℕ). set (sets (set l i a) (suc i) vs) n v) (add-zero i)
    ∙ sets_past vs (set l i a) (suc i) i v (omega arith) ∙ ap (λ (z : List ℕ). sets z (suc i) vs) (set-set l i a v)
sets_set (a ∷ vs) l i (suc j) v h =
    ap (λ (n : ℕ). set (sets (set l i a) (suc i) vs) n v) (shift i j) ∙ sets_set vs (set l i a) (suc i) j v (omega arith)
  where
    shift : (i j : ℕ) → i + suc j ≡ suc i + j
    shift i j = omega arith

-- ---- the figure's link

-- a record without links that is then given its link and its lock
linked_record : (t : List ℕ) (x k v tp y : ℕ) → with_word (with_word (with_node t x k v tp 0) x 4 y) x 10 0 ≡ with_node t x k v tp y
unfolding with_node with_word
linked_record t x k v tp y =
    ap (λ (z : List ℕ). set z (node_words * x + 10) 0) (sets_set (node_record k v tp 0) t (node_words * x) 4 y (omega arith))
    ∙ sets_set (node_record k v tp y) t (node_words * x) 10 0 (omega arith)

-- a word that is written as it stands
same_word : (t : List ℕ) (x f : ℕ) → word t x f ≡ 0 → with_word t x f 0 ≡ t
unfolding word with_word
same_word t x f e = ap (λ (v : ℕ). set t (node_words * x + f) v) (sym e) ∙ set-get_or t (node_words * x + f) 0

-- above the bottom
pub link_is : (c : Cursor) (m : Memory) → c.level ≤ top_level → lock m.nodes c.level c.made ≡ 0
    → link m c.pred c.level c.made ≡ add_link c m
unfolding link add_link
link_is c m l5 free =
    let l = c.level in
    let x = c.made in
    let y = next m.nodes l c.pred in
    ap (λ (z : List ℕ). with_nodes m (with_next z l c.pred x))
    (same_word (with_next m.nodes l x y) x (10 + l)
    (word_field m.nodes x x (4 + l) (10 + l) y (omega arith) (omega arith) (omega arith) ∙ free))

-- at the bottom, of the node just created
ref_is : (t : List ℕ) (n k val h : ℕ) → ref_node t n k val h (AllocN 6 0) (AllocN 6 0) ≡ with_node t n k val h 0
unfolding ref_node with_node
ref_is t n k val h = refl

pub make_is : (call : Call) (c : Cursor) (m : Memory) → c.pred ≤ m.counts.nodes
    → link (create m call.key call.value call.timestamp call.top) c.pred 0 (m.counts.nodes + 1)
    ≡ add_node call c m
unfolding link create add_node
make_is call c m used =
    let x = m.counts.nodes + 1 in
    let i = m.counts.versions + 1 in
    let t = with_node m.nodes x call.key i call.top 0 in
    let left : List ℕ → Memory = λ z. record {
      nodes = with_next z 0 c.pred x;
      versions = with_version m.versions i (own_version call) 0;
      counts = record { nodes = x; versions = i };
    } in
    ap (λ (z : List ℕ). left (with_lock (with_next z 0 x (next z 0 c.pred)) 0 x 0))
    (ref_is m.nodes x call.key i call.top)
    ∙ ap (λ (y : ℕ). left (with_lock (with_next t 0 x y) 0 x 0))
    (node_out m.nodes x call.key i call.top 0 c.pred 4 (omega arith) (omega arith))
    ∙ ap left (linked_record m.nodes x call.key i call.top (next m.nodes 0 c.pred))
