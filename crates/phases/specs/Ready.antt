-- What the phases that are lent the node table alone ask of their arguments.
use Rattle.std.specs.Prelude.{ℕ, ◌≤◌, List}
use Rattle.phases.specs.Types.{Cursor}
use Rattle.model.specs.Layout.{top_level}
use Rattle.tables.specs.Room.{NodeRoom}

-- the cursor's link and lock stand in the table, and so does every node in use
pub record Ready (nodes : List ℕ) (used : ℕ) (c : Cursor) : Type 0 where
  pub room : NodeRoom nodes used
  pub pred : c.pred ≤ used
  pub level : c.level ≤ top_level
