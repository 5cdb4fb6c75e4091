-- What the phases ask of their cursor.
use Rattle.std.specs.Prelude.{◌≤◌}
use Rattle.phases.specs.Types.{Cursor}
use Rattle.model.specs.Layout.{top_level}
use Rattle.versiontable.specs.declared.memory.Memory.{Memory}

-- its predecessor is a node in use, and its level is one
pub record Placed (c : Cursor) (m : Memory) : Type 0 where
  pub pred : c.pred ≤ m.counts.nodes
  pub level : c.level ≤ top_level
