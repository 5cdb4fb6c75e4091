-- The cursor is written, then the effect: `commits`.
use Rattle.apply.proofs.Applied.{commits}
use Rattle.apply.proofs.changes.apply_commit.Goals as goal

pub returns : goal.returns
returns c =
    simp (c.put_effect.ensures, c.put_cursor.ensures)
    (commits c.args.w.now c.requires.len c.requires.known c.args.tick _ _)
