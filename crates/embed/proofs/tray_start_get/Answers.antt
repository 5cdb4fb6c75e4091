-- The start on lent words, its outcome told.
use Rattle.embed.specs.Calls.{tray_start}
use Rattle.embed.proofs.Laws.{start_told_lem}
use Rattle.embed.proofs.tray_start_get.Goals as goal

pub returns : goal.returns
unfolding tray_start
returns c = start_told_lem _ _ _ _ c.tell_start.ensures c.start_get_in.ensures
