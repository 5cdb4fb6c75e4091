-- The faults of document 01's inspection in three groups: those of the node reached, those of a version and the one before it,
-- and those of the link that leads on.
use Rattle.std.specs.Prelude.{ℕ, Bool, not, ◌&&◌, ◌||◌, List, eqb, ltb, leb}
use Rattle.std.specs.Prelude.{if◌then◌else◌}
use Rattle.model.specs.Layout.{Memory, key, newest, top, lock, timestamp}
use Rattle.model.specs.Phases.{used_version}

-- "at level 0, for a node other than 0"
abbrev pub has_versions : (level x : ℕ) → Bool
has_versions l x = eqb l 0 && not (eqb x 0)

-- where the chain of a node begins; 0 where none is followed
abbrev pub chain_start : (nodes : List ℕ) (level x : ℕ) → ℕ
chain_start t l x = if has_versions l x then newest t x else 0

-- "at the node reached, its lock at this level not 0; at level 0, for a node other than 0, a reading place that is 0 or not in use"
abbrev pub node_fault : Memory → (level x : ℕ) → Bool
node_fault m l x = not (eqb (lock m.nodes l x) 0) || has_versions l x && not (used_version m (newest m.nodes x))

-- "a previous place not smaller, or an older reading with a greater stamp": of version i and the one before it, where there is one
abbrev pub version_fault : (versions : List ℕ) (i prev : ℕ) → Bool
version_fault t i p = not (eqb p 0) && (leb i p || ltb (timestamp t i) (timestamp t p))

-- "its link not in use; the next tray number not greater; the next node's top below the level"
abbrev pub link_fault : Memory → (level x next : ℕ) → Bool
link_fault m l x y = ltb m.counts.nodes y || leb (key m.nodes y) (key m.nodes x) || ltb (top m.nodes y) l
