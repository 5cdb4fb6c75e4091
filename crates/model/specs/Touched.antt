-- The words that a step may write, by its phase: what a buyer reads of a step without its definition.
use Rattle.std.specs.Prelude.{ℕ, ◌+◌, ◌⊎◌, ◌≡◌}
use Rattle.model.specs.Types.{Phase, Walk, Read, Seek, Lock, Check, Update, Make, Link, Release, Follow, Cursor}
use Rattle.model.specs.Layout.{Memory, node_offsets, link_at, lock_at, next}

-- word f of node x
abbrev pub MayWriteNode : Phase → Cursor → Memory → (x f : ℕ) → Type 0
MayWriteNode Walk c m x f = ⊥
MayWriteNode Read c m x f = ⊥
MayWriteNode Seek c m x f = ⊥
MayWriteNode Lock c m x f = (x ≡ c.pred) × (f ≡ lock_at c.level)
MayWriteNode Check c m x f = (x ≡ c.pred) × (f ≡ lock_at c.level)
MayWriteNode Update c m x f = (x ≡ next m.nodes 0 c.pred) × (f ≡ node_offsets.newest)
MayWriteNode Make c m x f = (x ≡ m.counts.nodes + 1) ⊎ ((x ≡ c.pred) × (f ≡ link_at 0))
MayWriteNode Link c m x f = ((x ≡ c.made) ⊎ (x ≡ c.pred)) × (f ≡ link_at c.level)
MayWriteNode Release c m x f = (x ≡ c.pred) × (f ≡ lock_at c.level)
MayWriteNode Follow c m x f = ⊥

-- a word of version i
abbrev pub MayWriteVersion : Phase → Memory → (i : ℕ) → Type 0
MayWriteVersion Walk m i = ⊥
MayWriteVersion Read m i = ⊥
MayWriteVersion Seek m i = ⊥
MayWriteVersion Lock m i = ⊥
MayWriteVersion Check m i = ⊥
MayWriteVersion Update m i = i ≡ m.counts.versions + 1
MayWriteVersion Make m i = i ≡ m.counts.versions + 1
MayWriteVersion Link m i = ⊥
MayWriteVersion Release m i = ⊥
MayWriteVersion Follow m i = ⊥
