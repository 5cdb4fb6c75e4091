-- Past the last, before the first, or in the range.
use Rattle.model.specs.Phases.{follow_at}
use borrow.Author.Tests.{lt-ltb}
use Rattle.following.proofs.follow.follow_at.Goals as goal

pub returns-then-call-key : goal.returns-then-call-key
unfolding follow_at
returns-then-call-key c = simp (c.end.ensures c.args.call, lt-ltb _ _ c.if-call-key.true, ← c.key_at-key.ensures)
