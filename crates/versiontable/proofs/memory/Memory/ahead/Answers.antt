-- The table of nodes was asked, for whatever versions: these are the memory's.
use Rattle.versiontable.proofs.memory.Memory.ahead.Goals as goal

pub returns-clause-ahead : goal.returns-clause-ahead
returns-clause-ahead c = let m = c.args.self.now in c.ahead.ensures.ahead m.versions.now m.counts.versions
