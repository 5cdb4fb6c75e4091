-- What a sound store is, said without a walk (docs/DECISIONS.md, O21). proofs/Inspected.antt holds the inspection of
-- document 01 against it.
use Rattle.std.specs.Prelude.{ℕ, ◌≤◌, ◌<◌, ◌≢◌, ◌≡◌}
use Rattle.model.specs.Layout.{Memory, levels, key, newest, top, next, lock, timestamp, prev}

-- ---- a level: just the nodes whose top reaches it stand linked behind the head in rising order, up to the end

module _ (m : Memory) (l : ℕ) where
  abbrev key_of : ℕ → ℕ
  key_of x = key m.nodes x

  abbrev to : ℕ → ℕ
  to x = next m.nodes l x

  -- node x stands at level l: it is in use, and its "top reaches it". The head, node 0, stands at every level.
  abbrev pub On : ℕ → Type 0
  On x = (x ≤ m.counts.nodes) × (x ≢ 0 → l ≤ top m.nodes x)

  pub record LevelSound : Type 0 where
    -- a fault: "its lock at this level not 0"
    pub free : (x : ℕ) → On x → lock m.nodes l x ≡ 0
    -- faults: "its link not in use; the next tray number not greater; the next node's top below the level"
    pub rises : (x : ℕ) → On x → to x ≢ 0 → On (to x) × (key_of x < key_of (to x))
    -- a fault: "at the level's end, fewer nodes seen than those whose top reaches it". No node of the level stands
    -- between a node and the next, beside another with the same key, or before the head.
    pub nearest : (x z : ℕ) → On x → On z → key_of x < key_of z → (to x ≢ 0) × (key_of (to x) ≤ key_of z)
    pub distinct : (x z : ℕ) → On x → On z → key_of x ≡ key_of z → x ≡ z
    pub first : (z : ℕ) → On z → z ≢ 0 → key_of 0 < key_of z

-- ---- a chain: places in use that fall, and timestamps that do not rise going back

-- "In use are [..] places 1 up to the count of readings held"
abbrev pub InUse : Memory → ℕ → Type 0
InUse m i = (1 ≤ i) × (i ≤ m.counts.versions)

-- the chain from place i. Faults: "a reading place that is 0 or not in use, a previous place not smaller, or an older
-- reading with a greater stamp"
pub data ChainSound (m : Memory) : ℕ → Type 0 where
  oldest : {i : ℕ} → InUse m i → prev m.versions i ≡ 0 → ChainSound m i
  older : {i : ℕ} → InUse m i → prev m.versions i < i
      → timestamp m.versions (prev m.versions i) ≤ timestamp m.versions i
      → ChainSound m (prev m.versions i) → ChainSound m i

-- ---- the store

-- At level 0 every node in use stands, so each node is linked there and has a sound chain.
pub record Sound (m : Memory) : Type 0 where
  pub levels : (l : ℕ) → l < levels → LevelSound m l
  pub chains : (x : ℕ) → 1 ≤ x → x ≤ m.counts.nodes → ChainSound m (newest m.nodes x)
