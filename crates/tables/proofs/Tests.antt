-- What the tests of a full table tell of its room.
use Prim.Native.Nat.{ℕ, ◌+◌}
use mathlib.Core.Path.{◌≡◌}
use mathlib.Core.Bool.{false}
use lib.Dec.{leb}
use lib.ListN.{length}
use mathlib.Core.List.{List}
use native.Mathlib.Omega.{arith}
use borrow.Author.Tests.{leb-false}
use Rattle.model.specs.Layout.{capacity, node_words, version_words}
use Rattle.tables.specs.Room.{NodeRoom, VersionRoom}

-- a table that is not full has room for one record more
pub node_room : (nodes : List ℕ) (used : ℕ) → leb (capacity node_words (length nodes)) used ≡ false
    → NodeRoom nodes (used + 1)
unfolding capacity
node_room nodes used h = omega (arith, leb-false)

pub version_room : (versions : List ℕ) (used : ℕ) → leb (capacity version_words (length versions)) used ≡ false
    → VersionRoom versions (used + 1)
unfolding capacity
version_room versions used h = omega (arith, leb-false)
