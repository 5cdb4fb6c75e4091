-- What a write leaves of the words of the tables: the word written, and every other as it was.
use Prim.Native.Nat.{ℕ, zero, suc, ◌+◌, ◌*◌, ◌≤◌, ◌<◌}
use mathlib.Core.List.{List, [], ◌∷◌}
use mathlib.Core.Logic.{◌≢◌}
use mathlib.Core.Path.{◌≡◌, refl, ap, ◌∙◌}
use native.Mathlib.Nat.{add-zero}
use native.Mathlib.Omega.{arith}
use lib.ListN.{length, get_or, set, replicate, length-set}
use lib.Seq.{sets, length-sets, get_or-set_same, get_or-set_other}
use Rattle.model.specs.Types.{Version}
use Rattle.model.specs.Layout.{node_words, version_words, levels, word_size, low_half, high_half, joined, word, with_word, node_offsets, lock_at, key, field, node_record, with_node, with_version}
use Rattle.model.proofs.Tests.{by_eq, by_le}

-- ---- one word of a node

pub length_word : (t : List ℕ) (x f v : ℕ) → length (with_word t x f v) ≡ length t
unfolding with_word
length_word t x f v = length-set t (node_words * x + f) v

pub word_same : (t : List ℕ) (x f v : ℕ) → f < node_words → node_words * x + node_words ≤ length t → word (with_word t x f v) x f ≡ v
unfolding word with_word
word_same t x f v hf hx = get_or-set_same t (node_words * x + f) v 0 (omega arith)

pub word_field : (t : List ℕ) (x y f g v : ℕ) → f < node_words → g < node_words → g ≢ f → word (with_word t x f v) y g ≡ word t y g
unfolding word with_word
word_field t x y f g v hf hg ne = get_or-set_other t (node_words * x + f) (node_words * y + g) v 0 (λ e. ne (go x y e))
  where
    go : (x y : ℕ) → node_words * y + g ≡ node_words * x + f → g ≡ f
    go x y e = omega arith

pub word_node : (t : List ℕ) (x y f g v : ℕ) → f < node_words → g < node_words → y ≢ x → word (with_word t x f v) y g ≡ word t y g
unfolding word with_word
word_node t x y f g v hf hg ne = get_or-set_other t (node_words * x + f) (node_words * y + g) v 0 (λ e. omega arith)

-- another node, or another word of the same
pub word_other : (t : List ℕ) (x y f g v : ℕ) → f < node_words → g < node_words → (y ≡ x → g ≢ f)
    → word (with_word t x f v) y g ≡ word t y g
word_other t x y f g v hf hg ne = by_eq y x (λ e. word_field t x y f g v hf hg (ne e)) (λ e. word_node t x y f g v hf hg e)

-- ---- a key, of two words

pub joined_halves : (k : ℕ) → joined (low_half k) (high_half k) ≡ k
unfolding joined
joined_halves k = omega arith

pub low_joined : (low high : ℕ) → low < word_size → low_half (joined low high) ≡ low
unfolding joined
low_joined low high h = omega arith

pub high_joined : (low high : ℕ) → low < word_size → high_half (joined low high) ≡ high
unfolding joined
high_joined low high h = omega arith

-- The words of a key are neither its newest version's, nor its top's, nor links nor locks. Which they are, only these laws know.
abbrev pub KeyField : ℕ → Type 0
KeyField f = (f < node_offsets.links) × (f ≢ node_offsets.newest) × (f ≢ node_offsets.top)

low_field : KeyField node_offsets.keylow
low_field = (omega arith, omega arith, omega arith)

high_field : KeyField node_offsets.keyhigh
high_field = (omega arith, omega arith, omega arith)

module _ (t : List ℕ) (x : ℕ) where
  pub same_key : (u : List ℕ) (y : ℕ) → ((f : ℕ) → KeyField f → word t x f ≡ word u y f) → key t x ≡ key u y
  same_key u y h = let low = h _ low_field in let high = h _ high_field in cc

  pub written_key : (k v tp y : ℕ) → ((f : ℕ) → KeyField f → word t x f ≡ get_or (node_record k v tp y) f 0) → key t x ≡ k
  unfolding joined
  written_key k v tp y h =
      let low : word t x node_offsets.keylow ≡ low_half k = h _ low_field in
      let high : word t x node_offsets.keyhigh ≡ high_half k = h _ high_field in
      omega arith

  pub zero_key : ((f : ℕ) → KeyField f → word t x f ≡ 0) → key t x ≡ 0
  unfolding joined
  zero_key h = omega (arith, h _ low_field, h _ high_field)

-- ---- a run of words

sets_below : (vs l : List ℕ) (i k : ℕ) → k < i → get_or (sets l i vs) k 0 ≡ get_or l k 0
sets_below [] l i k h = refl
sets_below (a ∷ vs) l i k h = sets_below vs (set l i a) (suc i) k (omega arith) ∙ get_or-set_other l i k a 0 (omega arith)

sets_above : (vs l : List ℕ) (i k : ℕ) → i + length vs ≤ k → get_or (sets l i vs) k 0 ≡ get_or l k 0
sets_above [] l i k h = refl
sets_above (a ∷ vs) l i k h = sets_above vs (set l i a) (suc i) k (omega arith) ∙ get_or-set_other l i k a 0 (omega arith)

sets_in : (vs l : List ℕ) (i j : ℕ) → j < length vs → i + length vs ≤ length l → get_or (sets l i vs) (i + j) 0 ≡ get_or vs j 0
sets_in [] l i j h k = absurd (omega arith)
sets_in (a ∷ vs) l i zero h k =
    ap (λ (n : ℕ). get_or (sets (set l i a) (suc i) vs) n 0) (add-zero i)
    ∙ sets_below vs (set l i a) (suc i) i (omega arith) ∙ get_or-set_same l i a 0 (omega arith)
sets_in (a ∷ vs) l i (suc j) h k =
    ap (λ (n : ℕ). get_or (sets (set l i a) (suc i) vs) n 0) (shift i j)
    ∙ sets_in vs (set l i a) (suc i) j (omega arith) (omega (arith, length-set l i a))
  where
    shift : (i j : ℕ) → i + suc j ≡ suc i + j
    shift i j = omega arith

-- a record of w words at record x: inside it, its own; elsewhere, what was there
pub record_in : (w : ℕ) (vs t : List ℕ) (x f : ℕ) → length vs ≡ w → f < w → w * x + w ≤ length t
    → get_or (sets t (w * x) vs) (w * x + f) 0 ≡ get_or vs f 0
record_in w vs t x f e hf h = sets_in vs t (w * x) f (omega arith) (omega arith)

-- ---- one node's record, one version's record

module _ (t : List ℕ) (x k v tp y : ℕ) where
  pub length_node : length (with_node t x k v tp y) ≡ length t
  unfolding with_node
  length_node = length-sets t (node_words * x) (node_record k v tp y)

  pub node_in : (f : ℕ) → f < node_words → node_words * x + node_words ≤ length t
      → word (with_node t x k v tp y) x f ≡ get_or (node_record k v tp y) f 0
  unfolding with_node word
  node_in f hf h = sets_in (node_record k v tp y) t (node_words * x) f hf h

  pub node_out : (z f : ℕ) → f < node_words → z ≢ x → word (with_node t x k v tp y) z f ≡ word t z f
  unfolding with_node word
  node_out z f hf ne = by_le x z
      (λ h. sets_above (node_record k v tp y) t (node_words * x) (node_words * z + f) (omega arith))
      (λ h. sets_below (node_record k v tp y) t (node_words * x) (node_words * z + f) (omega arith))

module _ (t : List ℕ) (i : ℕ) (v : Version) (p : ℕ) where
  pub length_version : length (with_version t i v p) ≡ length t
  unfolding with_version
  length_version = length-sets t (version_words * i) (v.value ∷ v.timestamp ∷ p ∷ [])

  pub version_in : (f : ℕ) → f < version_words → version_words * i + version_words ≤ length t
      → field (with_version t i v p) i f ≡ get_or (v.value ∷ v.timestamp ∷ p ∷ []) f 0
  unfolding with_version field
  version_in f hf h = sets_in (v.value ∷ v.timestamp ∷ p ∷ []) t (version_words * i) f hf h

  pub version_out : (j f : ℕ) → f < version_words → j ≢ i → field (with_version t i v p) j f ≡ field t j f
  unfolding with_version field
  version_out j f hf ne = by_le i j
      (λ h. sets_above (v.value ∷ v.timestamp ∷ p ∷ []) t (version_words * i) (version_words * j + f) (omega arith))
      (λ h. sets_below (v.value ∷ v.timestamp ∷ p ∷ []) t (version_words * i) (version_words * j + f) (omega arith))

-- a new node's locks are free at every level
pub node_locks : (k v tp y l : ℕ) → l < levels → get_or (node_record k v tp y) (lock_at l) 0 ≡ 0
node_locks k v tp y zero h = refl
node_locks k v tp y (suc zero) h = refl
node_locks k v tp y (suc (suc zero)) h = refl
node_locks k v tp y (suc (suc (suc zero))) h = refl
node_locks k v tp y (suc (suc (suc (suc zero)))) h = refl
node_locks k v tp y (suc (suc (suc (suc (suc zero))))) h = refl
node_locks k v tp y (suc (suc (suc (suc (suc (suc l)))))) h = absurd (omega arith)

-- a list of one word, wherever it is read
pub filled : {A : Type 0} (n i : ℕ) (a : A) → get_or (replicate n a) i a ≡ a
filled zero i a = refl
filled (suc n) zero a = refl
filled (suc n) (suc i) a = filled n i a
