-- As many tries are left as commands could be, and one more: the run of those still to make is the whole run.
use Rattle.std.proofs.Common.{arith, sym, ◌∙◌}
use Rattle.interpreter.specs.Playing.{play_of}
use Rattle.interpreter.proofs.Playing.{goes_on_test, again, stops, last, none_left}
use Rattle.interpreter.proofs.Tries.{same_page}
use Rattle.interpreter.proofs.play.play.Goals as goal

pub loop-preserved : goal.loop-preserved
loop-preserved c =
    let e = c.play_one-at.ensures in
    let l = c.loop.invariant in
    let on = goes_on_test _ _ (sym c.if-ne.false ∙ c.ne.ensures) in
    record {
      out_long = omega (arith, l.out_long, c.play_one-at.auto.out);
      run = again _ _ _ _ e.plays _ _ (omega arith) on ∙ l.run;
      within = λ h. same_page _ l.out_long (e.within (same_page _ (sym l.out_long) (l.within h)));
    }

pub returns-then-ne-clause-plays : goal.returns-then-ne-clause-plays
unfolding play_of
returns-then-ne-clause-plays c =
    let stop = goes_on_test _ _ (sym c.if-ne.true ∙ c.ne.ensures) in
    stops _ _ _ _ c.play_one-at.ensures.plays _ (omega arith) stop ∙ c.loop.invariant.run

pub returns-else-ne-clause-plays : goal.returns-else-ne-clause-plays
unfolding play_of
returns-else-ne-clause-plays c =
    last _ _ _ _ c.play_one-at.ensures.plays _ (omega arith) ∙ c.loop.invariant.run

pub returns-clause-plays : goal.returns-clause-plays
unfolding play_of
returns-clause-plays c = none_left _ _ _ _ (omega arith) ∙ c.loop.invariant.run
