-- As many tries are left as commands could be, and one more: the run of those still to make is the whole run.
use Rattle.std.proofs.Common.{suc, ◌-◌, ◌≡◌, length}
use Rattle.interpreter.specs.Playing.{playing, Within, play_for}
use Rattle.interpreter.proofs.play.play.Given as goal

abbrev pub invariant-loop : goal.invariant-loop
invariant-loop l = record {
  out_long : length l.out ≡ length l.initial.out;
  run : play_for (suc l.end - l.counter) l.bytes l.ended (playing l.at l.nodes l.versions l.tally l.out)
      ≡ play_for (suc l.end) l.bytes l.ended (playing l.initial.at l.initial.nodes l.initial.versions l.initial.tally l.initial.out);
  within : Within l.initial.at l.bytes l.initial.out → Within l.at l.bytes l.initial.out;
}
