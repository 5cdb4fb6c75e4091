-- What a put that makes a node leaves of every word that matters to the levels it has not come to: the node stands in its record,
-- and links above its level and all locks of other nodes are as they were.
use Prim.Native.Nat.{ℕ, suc, ◌+◌, ◌*◌, ◌≤◌, ◌<◌}
use mathlib.Core.List.{List}
use mathlib.Core.Logic.{◌≢◌}
use mathlib.Core.Path.{◌≡◌, refl, sym, ◌∙◌}
use native.Mathlib.Omega.{arith}
use lib.ListN.{length, get_or}
use Rattle.model.specs.Layout.{Memory, node_words, word, with_word, key, next, lock, with_node, node_record, top_level}
use Rattle.model.specs.Phases.{max_nodes, add_node, add_link}
use Rattle.model.proofs.Tests.{by_eq}
use Rattle.model.proofs.Words.{same_key, written_key, length_word, word_same, word_field, word_node, length_node, node_in, node_out, node_locks}
use Rattle.figure.specs.Types.{Call, Cursor, Make, Link}
use Rattle.figure.specs.Figure.{release, acquire, alone}

-- memory M is m with one node more, of key k, linked at the levels up to l
pub record Risen (m M : Memory) (k l : ℕ) : Type 0 where
  pub nodes_is : M.counts.nodes ≡ m.counts.nodes + 1
  pub size : length M.nodes ≡ length m.nodes
  pub room : node_words * (m.counts.nodes + 1) + node_words ≤ length m.nodes
  pub keys : (x : ℕ) → x ≤ m.counts.nodes → key M.nodes x ≡ key m.nodes x
  pub key_is : key M.nodes (m.counts.nodes + 1) ≡ k
  pub links : (j x : ℕ) → l < j → j ≤ top_level → x ≤ m.counts.nodes → next M.nodes j x ≡ next m.nodes j x
  pub locks : (j x : ℕ) → j ≤ top_level → x ≤ m.counts.nodes → lock M.nodes j x ≡ lock m.nodes j x
  pub own_locks : (j : ℕ) → j ≤ top_level → lock M.nodes j (m.counts.nodes + 1) ≡ 0

-- ---- the node is made at the bottom

module _ (m : Memory) (call : Call) (i q : ℕ) (size : length m.nodes ≡ node_words * max_nodes m + node_words)
    (room : m.counts.nodes < max_nodes m) (used : q ≤ m.counts.nodes) (free : lock m.nodes 0 q ≡ 0) where
  abbrev x : ℕ
  x = m.counts.nodes + 1

  abbrev c : Cursor
  c = record { phase = Make; level = 0; pred = q; made = 0 }

  abbrev m₁ : Memory
  m₁ = acquire alone i m q 0

  abbrev t₁ : List ℕ
  t₁ = m₁.nodes

  abbrev v : ℕ
  v = m.counts.versions + 1

  abbrev t₂ : List ℕ
  t₂ = with_node t₁ x call.key v call.top (next t₁ 0 q)

  abbrev t₃ : List ℕ
  t₃ = with_word t₂ q 4 x

  long : node_words * x + node_words ≤ length t₁
  long = omega (arith, size, length_word m.nodes q 10 (i + 1))

  long₃ : length t₃ ≡ length m.nodes
  long₃ = length_word t₂ q 4 x ∙ length_node t₁ x call.key v call.top (next t₁ 0 q) ∙ length_word m.nodes q 10 (i + 1)

  -- a word that is neither a bottom link nor a bottom lock, of an older node and of the new one
  older : (z f : ℕ) → f < node_words → f ≢ 4 → f ≢ 10 → z ≤ m.counts.nodes → word (with_word t₃ q 10 0) z f ≡ word m.nodes z f
  older z f hf n4 n10 hz =
      word_field t₃ q z 10 f 0 (omega arith) hf n10 ∙ word_field t₂ q z 4 f x (omega arith) hf n4
      ∙ node_out t₁ x call.key v call.top (next t₁ 0 q) z f hf (omega arith)
      ∙ word_field m.nodes q z 10 f (i + 1) (omega arith) hf n10

  newer : (f : ℕ) → f < node_words → word (with_word t₃ q 10 0) x f ≡ get_or (node_record call.key v call.top (next t₁ 0 q)) f 0
  newer f hf =
      word_node t₃ q x 10 f 0 (omega arith) hf (omega arith) ∙ word_node t₂ q x 4 f x (omega arith) hf (omega arith)
      ∙ node_in t₁ x call.key v call.top (next t₁ 0 q) f hf long

  -- the bottom locks: q's was taken and freed
  bottom_lock : (z : ℕ) → z ≤ m.counts.nodes → lock (with_word t₃ q 10 0) 0 z ≡ lock m.nodes 0 z
  bottom_lock z hz = by_eq z q
      (λ e. rw e (word_same t₃ q 10 0 (omega arith) (omega (arith, long₃, size)) ∙ sym free))
      (λ ne. word_node t₃ q z 10 10 0 (omega arith) (omega arith) ne
      ∙ word_field t₂ q z 4 10 x (omega arith) (omega arith) (omega arith)
      ∙ node_out t₁ x call.key v call.top (next t₁ 0 q) z 10 (omega arith) (omega arith)
      ∙ word_node m.nodes q z 10 10 (i + 1) (omega arith) (omega arith) ne)

  pub made_risen : Risen m (release (add_node call c m₁) q 0) call.key 0
  unfolding add_node
  made_risen = record {
    nodes_is = refl;
    size = length_word t₃ q 10 0 ∙ long₃;
    room = omega (arith, size);
    keys = λ z hz. same_key (with_word t₃ q 10 0) z m.nodes z λ f k. older z f (omega arith) (omega arith) (omega arith) hz;
    key_is = written_key (with_word t₃ q 10 0) x call.key v call.top (next t₁ 0 q) λ f k. newer f (omega arith);
    links = λ j z hj j5 hz. older z (4 + j) (omega arith) (omega arith) (omega arith) hz;
    locks = λ j z j5 hz. by_eq j 0 (λ e. rw e (bottom_lock z hz))
        (λ ne. older z (10 + j) (omega arith) (omega arith) (omega arith) hz);
    own_locks = λ j j5. newer (10 + j) (omega arith) ∙ node_locks call.key v call.top (next t₁ 0 q) j (omega arith);
  }

-- ---- it is linked one level higher

module _ (m M : Memory) (k l i p : ℕ) (R : Risen m M k l) (l5 : suc l ≤ top_level) (used : p ≤ m.counts.nodes)
    (free : lock m.nodes (suc l) p ≡ 0) where
  abbrev n : ℕ
  n = m.counts.nodes + 1

  abbrev L : ℕ
  L = suc l

  abbrev M₁ : Memory
  M₁ = acquire alone i M p L

  abbrev pub link_cursor : Cursor
  link_cursor = record { phase = Link; level = L; pred = p; made = n }

  abbrev s₂ : List ℕ
  s₂ = with_word M₁.nodes n (4 + L) (next M₁.nodes L p)

  abbrev s₃ : List ℕ
  s₃ = with_word s₂ p (4 + L) n

  long₄ : length s₃ ≡ length m.nodes
  long₄ = length_word s₂ p (4 + L) n ∙ length_word M₁.nodes n (4 + L) (next M₁.nodes L p)
      ∙ length_word M.nodes p (10 + L) (i + 1) ∙ R.size

  -- a word that is neither a link nor a lock of this level
  spared : (z f : ℕ) → f < node_words → f ≢ 4 + L → f ≢ 10 + L → word (with_word s₃ p (10 + L) 0) z f ≡ word M.nodes z f
  spared z f hf n4 n10 =
      word_field s₃ p z (10 + L) f 0 (omega arith) hf n10 ∙ word_field s₂ p z (4 + L) f n (omega arith) hf n4
      ∙ word_field M₁.nodes n z (4 + L) f (next M₁.nodes L p) (omega arith) hf n4
      ∙ word_field M.nodes p z (10 + L) f (i + 1) (omega arith) hf n10

  kept_key : (z : ℕ) → key (with_word s₃ p (10 + L) 0) z ≡ key M.nodes z
  kept_key z = same_key (with_word s₃ p (10 + L) 0) z M.nodes z λ f k. spared z f (omega arith) (omega arith) (omega arith)

  -- the locks of this level: p's was taken and freed
  other_lock : (z : ℕ) → z ≢ p → lock (with_word s₃ p (10 + L) 0) L z ≡ lock M.nodes L z
  other_lock z ne =
      word_node s₃ p z (10 + L) (10 + L) 0 (omega arith) (omega arith) ne
      ∙ word_field s₂ p z (4 + L) (10 + L) n (omega arith) (omega arith) (omega arith)
      ∙ word_field M₁.nodes n z (4 + L) (10 + L) (next M₁.nodes L p) (omega arith) (omega arith) (omega arith)
      ∙ word_node M.nodes p z (10 + L) (10 + L) (i + 1) (omega arith) (omega arith) ne

  level_lock : (z : ℕ) → z ≤ m.counts.nodes → lock (with_word s₃ p (10 + L) 0) L z ≡ lock m.nodes L z
  level_lock z hz = by_eq z p
      (λ e. rw e (word_same s₃ p (10 + L) 0 (omega arith) (omega (arith, long₄, R.room)) ∙ sym free))
      (λ ne. other_lock z ne ∙ R.locks L z l5 hz)

  pub linked_risen : Risen m (release (add_link link_cursor M₁) p L) k L
  unfolding add_link
  linked_risen = record {
    nodes_is = R.nodes_is;
    size = length_word s₃ p (10 + L) 0 ∙ long₄;
    room = R.room;
    keys = λ z hz. kept_key z ∙ R.keys z hz;
    key_is = kept_key n ∙ R.key_is;
    links = λ j z hj j5 hz. spared z (4 + j) (omega arith) (omega arith) (omega arith) ∙ R.links j z (omega arith) j5 hz;
    locks = λ j z j5 hz. by_eq j L
        (λ e. rw e (level_lock z hz)) (λ ne. spared z (10 + j) (omega arith) (omega arith) (omega arith) ∙ R.locks j z j5 hz);
    own_locks = λ j j5. by_eq j L
        (λ e. rw e (other_lock n (omega arith) ∙ R.own_locks L l5))
        (λ ne. spared n (10 + j) (omega arith) (omega arith) (omega arith) ∙ R.own_locks j j5);
  }
