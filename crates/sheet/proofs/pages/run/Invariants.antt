-- The rounds made so far are those of the definition, and the run is ready for the next.
use Rattle.std.proofs.Common.{◌≡◌, length}
use Rattle.sheet.specs.Runs.{Ready, memory, first_memory}
use Rattle.sheet.proofs.Running.{Ran}
use Rattle.sheet.proofs.pages.run.Given as goal

abbrev pub invariant-loop : goal.invariant-loop
invariant-loop l = record {
  bytes_long : length l.bytes ≡ length l.initial.bytes;
  ready : Ready l.at (length l.bytes);
  ran : Ran (first_memory l.initial.bytes l.initial.nodes l.initial.versions l.initial.tally l.initial.out)
      (memory l.at l.bytes l.nodes l.versions l.tally l.out) l.counter;
}
