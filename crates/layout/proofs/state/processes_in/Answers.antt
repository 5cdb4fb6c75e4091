-- Those read stand at the front.
use mathlib.Core.Path.{◌≡◌, refl, sym, ap, ◌∙◌}
use native.Mathlib.Omega.{arith}
use lib.ListN.{drop, length-set}
use lib.Seq.{take_all}
use borrow.Author.Rules.{rules}
use Rattle.model.specs.Layout.{limits}
use Rattle.process.specs.ProcessWords.{sizes, process_from}
use Rattle.layout.specs.StateWords.{all_from}
use Rattle.layout.proofs.Whole.{read_next}
use Rattle.layout.proofs.state.processes_in.Goals as goal

pub loop-i-init : goal.loop-i-init
unfolding all_from
loop-i-init c = (refl, search rules)

pub loop-i-preserved : goal.loop-i-preserved
loop-i-preserved c =
    let l = c.loop-i in
    let own = c.process_in.ensures ∙ ap process_from c.process_at.ensures in (
      read_next l.process l.i c.args.words.now c.process_in.result (omega (arith, l.invariant.1, c.loop-i-test.true)) l.invariant.0 own,
      length-set l.process l.i c.process_in.result ∙ l.invariant.1,
    )

pub returns : goal.returns
returns c =
    let l = c.loop-i in
    let e : l.i ≡ limits.processes = search rules in
    sym (take_all l.i l.process (omega (arith, e, l.invariant.1))) ∙ l.invariant.0 ∙ ap (λ n. all_from n (drop sizes.head c.args.words.now)) e
