-- What a read or a write of a table asks: that its node, level or version stands in the table; and how contracts name the memory.
use Rattle.std.specs.Prelude.{ℕ, ◌+◌, ◌*◌, ◌≤◌, suc, List, length}
use Rattle.model.specs.declared.types.Counts.{Counts}
use Rattle.model.specs.Layout.{Memory, node_words, version_words, top_level, limits}

-- record x of a table whose records have so many words
abbrev pub RecordRoom : (words : ℕ) → (table : List ℕ) → ℕ → Type 0
RecordRoom words table x = words * x + words ≤ length table

-- node x
abbrev pub NodeRoom : (nodes : List ℕ) → ℕ → Type 0
NodeRoom = RecordRoom node_words

-- a link or a lock of node x
pub record LevelRoom (nodes : List ℕ) (l x : ℕ) : Type 0 where
  pub node : NodeRoom nodes x
  pub level : l ≤ top_level

-- version i
abbrev pub VersionRoom : (versions : List ℕ) → ℕ → Type 0
VersionRoom = RecordRoom version_words

-- both tables have the nodes and versions in use, and lawful lengths
pub record Lent (nodes versions : List ℕ) (counts : Counts) : Type 0 where
  pub node : NodeRoom nodes counts.nodes
  pub version : VersionRoom versions counts.versions
  pub few_nodes : length nodes ≤ node_words * suc limits.nodes
  pub few_versions : length versions ≤ version_words * suc limits.versions

-- both tables and the counts in use
abbrev pub memory : (nodes versions : List ℕ) → Counts → Memory
memory nodes versions counts = record { nodes = nodes; versions = versions; counts = counts }

-- A function that is lent the node table alone is told the last node in use there; the rest of the memory is any.
abbrev pub nodes_in : (nodes : List ℕ) (used : ℕ) (versions : List ℕ) (n : ℕ) → Memory
nodes_in nodes used versions n = memory nodes versions (record { nodes = used; versions = n })
