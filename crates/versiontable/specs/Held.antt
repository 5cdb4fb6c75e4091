-- How contracts name lent memory: as the memory that it holds.
use Rattle.std.specs.Prelude.{◌≡◌}
use Rattle.model.specs.Layout.{Memory}
use Rattle.tables.specs.Room.{memory}
use Rattle.versiontable.specs.declared.memory.Memory.{Memory as Tables}

abbrev pub held : Tables → Memory
held m = memory m.nodes.now m.versions.now m.counts

-- the same two tables are lent after a call as before it
pub record SameTables (before after : Tables) : Type 0 where
  pub nodes : after.nodes.ghost_name ≡ before.nodes.ghost_name
  pub versions : after.versions.ghost_name ≡ before.versions.ghost_name
