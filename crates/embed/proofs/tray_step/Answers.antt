-- The step on lent words, its outcome told.
use Rattle.embed.specs.Calls.{tray_step}
use Rattle.embed.proofs.Laws.{step_told_lem}
use Rattle.embed.proofs.tray_step.Goals as goal

pub returns : goal.returns
unfolding tray_step
returns c = step_told_lem _ _ _ _ _ _ _ c.tell_step.ensures c.step_in.ensures
