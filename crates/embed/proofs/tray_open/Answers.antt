-- The opening on lent words, its outcome told.
use Rattle.embed.specs.Calls.{tray_open}
use Rattle.embed.proofs.Laws.{open_told_lem}
use Rattle.embed.proofs.tray_open.Goals as goal

pub returns : goal.returns
unfolding tray_open
returns c = open_told_lem _ _ _ _ _ _ c.tell_open.ensures c.open_in.ensures
