-- Document 01, "Memory": sizes, limits, and where each word stands in the two tables.
use Rattle.std.specs.Prelude.{ℕ, suc, ◌+◌, ◌*◌, ◌-◌, ◌/◌, ◌%◌, List, [], ◌∷◌, ◌++◌, get_or, set, replicate}
use Rattle.std.proofs.lemmas.List.Edits.{sets}
use Rattle.model.specs.Types.{Counts, Limits, NodeOffsets, VersionOffsets, Version}

-- ---- sizes and limits, each said once

abbrev pub limits : Limits
limits = record {
  nodewords = 16;  -- "The node table holds 16 words a node"
  versionwords = 3;  -- "The reading table holds 3 words a reading"
  top = 5;  -- "links of levels 0 to 5"
  nodes = 1_023;  -- "so K = 1 to 1,023 trays"
  versions = 4_095;  -- "so V = 1 to 4,095 readings"
  processes = 8;  -- "Stations 1 to 8"
  events = 1_000_000_000;  -- "The event limit, 1 to 1,000,000,000"
  key = 18_446_744_073_709_551_614;  -- P3: "Trays run from 1 to 18,446,744,073,709,551,614"
  tally = 7;  -- "There are seven counts"
  count = 4_294_967_295;  -- "a count at 4,294,967,295 stays"
}

abbrev pub node_words : ℕ
node_words = limits.nodewords

abbrev pub version_words : ℕ
version_words = limits.versionwords

abbrev pub top_level : ℕ
top_level = limits.top

abbrev pub levels : ℕ
levels = suc top_level

-- K or V of a table: what a table of so many words holds beside its first record. "Node 0 is the left sentinel"; "Place 0
-- is unused."
unfoldable pub capacity : (words size : ℕ) → ℕ
capacity words size = size / words - 1

-- ---- a key in two words

-- "All words are 32 bits.": how many numbers a word can hold
abbrev pub word_size : ℕ
word_size = 4_294_967_296

abbrev pub low_half : ℕ → ℕ
low_half k = k % word_size

abbrev pub high_half : ℕ → ℕ
high_half k = k / word_size

-- the key whose halves are these
unfoldable pub joined : (low high : ℕ) → ℕ
joined low high = low + word_size * high

-- ---- the node table

-- word f of node x
unfoldable pub word : List ℕ → ℕ → ℕ → ℕ
word t x f = get_or t (node_words * x + f) 0

unfoldable pub with_word : List ℕ → ℕ → ℕ → ℕ → List ℕ
with_word t x f v = set t (node_words * x + f) v

-- where each word of a node stands
abbrev pub node_offsets : NodeOffsets
node_offsets = record {
  keylow = 0;  -- "word 0 tray number"
  newest = 1;  -- "1 place of the newest reading"
  top = 2;  -- "2 top level"
  keyhigh = 3;  -- P3: "Word 3 of a node takes the high half"
  links = 4;  -- "4 to 9 links of levels 0 to 5"
  locks = 10;  -- "10 to 15 locks of levels 0 to 5."
}

abbrev pub key : List ℕ → ℕ → ℕ
key t x = joined (word t x node_offsets.keylow) (word t x node_offsets.keyhigh)

abbrev pub newest : List ℕ → ℕ → ℕ
newest t x = word t x node_offsets.newest

abbrev pub top : List ℕ → ℕ → ℕ
top t x = word t x node_offsets.top

-- the word of a node that has its link, and its lock, at level l
abbrev pub link_at : ℕ → ℕ
link_at l = node_offsets.links + l

abbrev pub lock_at : ℕ → ℕ
lock_at l = node_offsets.locks + l

abbrev pub next : List ℕ → ℕ → ℕ → ℕ
next t l x = word t x (link_at l)

abbrev pub lock : List ℕ → ℕ → ℕ → ℕ
lock t l x = word t x (lock_at l)

abbrev pub with_newest : List ℕ → ℕ → ℕ → List ℕ
with_newest t x v = with_word t x node_offsets.newest v

abbrev pub with_next : List ℕ → ℕ → ℕ → ℕ → List ℕ
with_next t l x y = with_word t x (link_at l) y

abbrev pub with_lock : List ℕ → ℕ → ℕ → ℕ → List ℕ
with_lock t l x holder = with_word t x (lock_at l) holder

-- the sixteen words in their order
abbrev pub node_with : (key newest top : ℕ) (links locks : List ℕ) → List ℕ
node_with k v t links locks = low_half k ∷ v ∷ t ∷ high_half k ∷ links ++ locks

-- "A new tray's sixteen words are written as one record": "Its link at level 0 is the one p had, its other links and
-- its locks are 0"
abbrev pub node_record : (key newest top next : ℕ) → List ℕ
node_record k v t y = node_with k v t (y ∷ replicate top_level 0) (replicate levels 0)

unfoldable pub with_node : List ℕ → ℕ → (key newest top next : ℕ) → List ℕ
with_node t x k v tp y = sets t (node_words * x) (node_record k v tp y)

-- "Opening zeroes both tables and sets word 2 of node 0 to 5."
unfoldable pub fresh_nodes : ℕ → List ℕ
fresh_nodes n = with_word (replicate n 0) 0 node_offsets.top top_level

-- ---- the version table

-- word f of version i
unfoldable pub field : List ℕ → ℕ → ℕ → ℕ
field t i f = get_or t (version_words * i + f) 0

-- "value, stamp, place of the previous one (0 for none)"
abbrev pub version_offsets : VersionOffsets
version_offsets = record { value = 0; timestamp = 1; prev = 2 }

abbrev pub value : List ℕ → ℕ → ℕ
value t i = field t i version_offsets.value

abbrev pub timestamp : List ℕ → ℕ → ℕ
timestamp t i = field t i version_offsets.timestamp

abbrev pub prev : List ℕ → ℕ → ℕ
prev t i = field t i version_offsets.prev

abbrev pub version_at : List ℕ → ℕ → Version
version_at t i = record { value = value t i; timestamp = timestamp t i }

unfoldable pub with_version : List ℕ → ℕ → Version → (prev : ℕ) → List ℕ
with_version t i v p = sets t (version_words * i) (v.value ∷ v.timestamp ∷ p ∷ [])

-- ---- both

-- Both tables and the counts in use. "In use are nodes 0 up to the count of trays made and places 1 up to the count of
-- readings held, both counts in the state."
pub record Memory : Type 0 where
  pub nodes : List ℕ
  pub versions : List ℕ
  pub counts : Counts
