-- What is left to write is the line from the loop's word on; each turn writes a word and the byte behind it.
use Rattle.std.proofs.Common.{◌+◌, ◌≤◌, drop}
use Rattle.printer.specs.Words.{room_for}
use Rattle.printer.proofs.Writing.{Left, line_left}
use Rattle.printer.proofs.text.put_line.Given as goal

abbrev pub invariant-loop-i : goal.invariant-loop-i
invariant-loop-i l = record {
  left : Left l.initial.out l.out l.at l.next (line_left l.words) (line_left (drop l.i l.words));
  room : l.next + room_for (drop l.i l.words) ≤ l.at + room_for l.words;
}
