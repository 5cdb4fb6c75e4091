-- The loop's word and the byte behind it, a space or the line's end.
use Rattle.std.proofs.Common.{arith, add-one, ◌<◌, suc, length, ◌≡◌, ◌≤◌}
use Rattle.printer.proofs.Writing.{word_room, word_written, line_written}
use Rattle.printer.proofs.text.put_line.Goals as goal
use Rattle.printer.proofs.text.put_line.Goals.{then-i-words, else-i-words}

pub loop-i-preserved : goal.loop-i-preserved
loop-i-preserved c =
    let i = c.loop-i.i in
    let words = c.args.words.now in
    let inv = c.loop-i.invariant in
    let p = c.put_word-next in
    let room = word_room _ _ _ words i _ c.loop-i-test.true p.ensures.upper_bound inv.room in
    let space : suc i < length words → c.if-i-words.out ≡ 32 =
    λ h. elim c.if-i-words.branch [ then-i-words w ↦ w.out-is | else-i-words w ↦ absurd (omega arith) ] in
    let end : length words ≤ suc i → c.if-i-words.out ≡ 10 =
    λ h. elim c.if-i-words.branch [ then-i-words w ↦ absurd (omega arith) | else-i-words w ↦ w.out-is ] in
    record {
      left = simp add-one (simp add-one at (word_written words i _ _ c.loop-i-test.true space end inv.left p.ensures.wrote p.auto.out (omega (arith, room))));
      room = simp add-one (simp add-one at room);
    }

pub returns-clause-wrote : goal.returns-clause-wrote
returns-clause-wrote c =
    let inv = c.loop-i.invariant in
    line_written c.args.words.now c.loop-i.i c.requires.some c.loop-i-test.false (omega arith) inv.left
