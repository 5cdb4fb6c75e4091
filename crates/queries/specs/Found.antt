-- Nodes are numbered from 1; where the definitions find none they answer 0.
use Rattle.std.specs.Prelude.{ℕ, zero, suc, Option, Some, None}

-- the node found, if there is one
unfoldable pub node_found : ℕ → Option ℕ
node_found zero = None
node_found (suc x) = Some (suc x)
