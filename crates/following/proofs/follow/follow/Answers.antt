-- The link leads to the end, to no node in use, or to a node.
use Rattle.model.specs.Phases.{follow_of}
use borrow.Author.Tests.{eq-eqb}
use Rattle.following.proofs.follow.follow.Goals as goal

pub returns-then-node-eq0 : goal.returns-then-node-eq0
unfolding follow_of
returns-then-node-eq0 c = simp (c.end.ensures c.args.call, eq-eqb _ _ c.if-node-eq0.true, ← c.next_at-node.ensures)
