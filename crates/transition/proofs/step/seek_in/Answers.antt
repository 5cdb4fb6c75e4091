-- Of any version table and count, those that the memory has.
use Rattle.transition.proofs.step.seek_in.Goals as goal

pub returns : goal.returns
returns c = let m = c.args.memory.now in c.seek.ensures m.versions.now m.counts.versions
