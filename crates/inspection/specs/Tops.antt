-- The nodes in use counted by top level, once for all levels: fewer reach a level than the one below it, by those whose top that is.
use Rattle.std.specs.Prelude.{ℕ, ◌<◌, List, ◌≡◌, eqb, get_or}
use Rattle.model.specs.Layout.{top_level, top}
use Rattle.model.proofs.Counting.{count}

-- the nodes 1 to n whose top is this level
abbrev pub top_count : (nodes : List ℕ) (level n : ℕ) → ℕ
top_count t l n = count (λ x. eqb (top t x) l) n

-- these counts in a list, for each level that has one above it
abbrev pub TopCounts : (nodes : List ℕ) (n : ℕ) (counts : List ℕ) → Type 0
TopCounts t n counts = (l : ℕ) → l < top_level → get_or counts l 0 ≡ top_count t l n
