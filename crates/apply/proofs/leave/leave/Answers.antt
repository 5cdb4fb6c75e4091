-- Each arm's move is known: what it leaves of the process in its part, and the event, by `left_moved`.
use Prim.Native.Nat.{◌+◌, ◌≤◌}
use mathlib.Core.Path.{refl, ◌∙◌}
use native.Mathlib.Omega.{arith}
use lib.ListN.{length}
use Rattle.model.specs.Calls.{outcome_of, tally_after}
use Rattle.process.specs.ProcessWords.{sizes}
use Rattle.layout.proofs.Known.{part_long}
use Rattle.apply.proofs.Left.{left_moved, left_waits, left_goes, left_shows}
use Rattle.apply.proofs.leave.leave.Goals as goal

pub returns-in-Wait : goal.returns-in-Wait
returns-in-Wait c =
    let a = c.args in
    let fits : a.at + sizes.process ≤ length a.words.now = omega (arith, c.told-words, c.requires.fits) in
    rw c.in-Wait.is (left_waits a.words.now _ a.at a.tick a.counts fits c.requires.known _
    c.put_event.ensures)

pub returns-in-Go : goal.returns-in-Go
returns-in-Go c =
    let a = c.args in
    let fits : a.at + sizes.process ≤ length a.words.now = omega (arith, c.told-words, c.requires.fits) in
    let p = c.put_cursor in
    left_goes a.words.now _ a.at a.tick a.counts fits c.requires.known _ _ p.new.w _
    c.in-Go.is p.ensures (p.auto.w ∙ part_long a.words.now a.at fits)
    c.put_event-in-Go.ensures

pub returns-in-Note : goal.returns-in-Note
unfolding outcome_of tally_after
returns-in-Note c =
    let a = c.args in
    let fits : a.at + sizes.process ≤ length a.words.now = omega (arith, c.told-words, c.requires.fits) in
    let p = c.apply_note in
    rw c.in-Note.is (left_moved a.words.now _ a.at a.tick a.counts fits _ p.new.w _ _ _ refl
    (p.ensures a.tick) (p.auto.w ∙ part_long a.words.now a.at fits) c.put_event-in-Note.ensures refl refl)

pub returns-in-Commit : goal.returns-in-Commit
unfolding outcome_of tally_after
returns-in-Commit c =
    let a = c.args in
    let fits : a.at + sizes.process ≤ length a.words.now = omega (arith, c.told-words, c.requires.fits) in
    let p = c.apply_commit in
    rw c.in-Commit.is (left_moved a.words.now _ a.at a.tick a.counts fits _ p.new.w _ _ _ refl
    p.ensures (p.auto.w ∙ part_long a.words.now a.at fits) c.put_event-in-Commit.ensures refl refl)

pub returns-in-Show : goal.returns-in-Show
returns-in-Show c =
    let a = c.args in
    let fits : a.at + sizes.process ≤ length a.words.now = omega (arith, c.told-words, c.requires.fits) in
    let p = c.put_cursor-in-Show in
    left_shows a.words.now _ a.at a.tick a.counts fits c.requires.known _ _ _ p.new.w _
    c.in-Show.is p.ensures (p.auto.w ∙ part_long a.words.now a.at fits)
    c.put_event-in-Show.ensures
