-- What is written is the page up to where its lines end, and whether it could be decides.
use Rattle.std.proofs.Common.{true, false, refl}
use Rattle.sheet.proofs.Running.{settled_plays}
use Rattle.sheet.proofs.pages.print_page.Goals as goal

pub returns-then-is_err-clause-plays : goal.returns-then-is_err-clause-plays
returns-then-is_err-clause-plays c =
    let p = c.play_page-q in
    settled_plays _ false p.result _ _ _ _ _ _ p.ensures.plays refl p.ensures.next_in_bounds

pub returns-clause-plays : goal.returns-clause-plays
returns-clause-plays c =
    let p = c.play_page-q in
    settled_plays _ true p.result _ _ _ _ _ _ p.ensures.plays refl p.ensures.next_in_bounds
