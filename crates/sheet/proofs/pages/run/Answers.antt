-- The rounds made so far are those of the definition, and the run is ready for the next.
use Rattle.std.proofs.Common.{refl, sym, subst, ◌∙◌, length, rules}
use Rattle.sheet.specs.declared.types.Run.{Run}
use Rattle.sheet.specs.Runs.{Ready}
use Rattle.sheet.proofs.Standing.{first_ready, over_test}
use Rattle.sheet.proofs.Running.{none_made, next_round, last_round}
use Rattle.sheet.proofs.pages.run.Goals as goal

pub loop-init : goal.loop-init
loop-init c =
    let size = length c.args.bytes.now in
    let first = c.first-at.ensures in
    record {
      bytes_long = refl;
      ready = subst (λ (r : Run). Ready r size) (sym first) (first_ready size c.requires.longest_command_in_bounds);
      ran = none_made _ _ _ _ _ _ first;
    }

pub returns-then-eq : goal.returns-then-eq
returns-then-eq c =
    let s = c.supply-at.ensures.supplies in
    let over = over_test _ _ c.eq.ensures ∙ c.if-eq.true in
    last_round _ _ _ c.loop.invariant.ran _ s.input s.behind (s.same _ _ _ _) over

pub loop-preserved : goal.loop-preserved
loop-preserved c =
    let s = c.supply-at.ensures.supplies in
    let p = c.print_page-at.ensures in
    let on = over_test _ _ c.eq.ensures ∙ c.if-eq.false in
    record {
      bytes_long = search rules;
      ready = p.ready;
      ran = next_round _ _ _ c.loop.invariant.ran _ s.input s.behind (s.same _ _ _ _) _ on p.plays;
    }
