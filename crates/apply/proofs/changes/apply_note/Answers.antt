-- The predecessor is written at its level, then the cursor: `notes`.
use mathlib.Core.Path.{◌∙◌}
use Rattle.apply.proofs.Applied.{notes}
use Rattle.apply.proofs.changes.apply_note.Goals as goal

pub returns : goal.returns
returns c tick =
    c.put_cursor.ensures ∙ notes c.args.w.now c.requires.len c.requires.known tick _
