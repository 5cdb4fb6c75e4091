-- Those written stand at the front.
use Prim.Native.Nat.{◌+◌, ◌*◌}
use mathlib.Core.Path.{◌≡◌, refl, sym, ◌∙◌}
use mathlib.Core.List.{append-nil}
use native.Mathlib.Omega.{arith}
use lib.ListN.{length, take}
use borrow.Author.Rules.{rules}
use Rattle.model.specs.Layout.{limits}
use Rattle.process.specs.ProcessWords.{sizes}
use Rattle.layout.specs.StateWords.{all_words}
use Rattle.layout.proofs.Known.{part_long}
use Rattle.layout.proofs.Whole.{write_next, write_all}
use Rattle.layout.proofs.state.put_processes.Goals as goal

pub loop-i-init : goal.loop-i-init
unfolding all_words
loop-i-init c = (search rules, sym (append-nil (take sizes.head c.args.words.now)))

pub loop-i-preserved : goal.loop-i-preserved
loop-i-preserved c =
    let l = c.loop-i in
    let a = c.args in
    let at = sizes.head + sizes.process * l.i in
    let eight : length a.process ≡ limits.processes = search rules in
    let f = write_next (take sizes.head a.words.now) a.process eight l.words _ at l.i _
    c.loop-i-test.true refl l.invariant.0 (c.copy_from_slice.ensures.len ∙ part_long l.words at (omega (arith, l.invariant.0, c.loop-i-test.true)))
    (c.copy_from_slice.ensures.after ∙ c.words_of.ensures) l.invariant.1 in
    (f.0, f.1)

pub returns : goal.returns
returns c =
    let l = c.loop-i in
    let a = c.args in
    let eight : length a.process ≡ limits.processes = search rules in
    let e : l.i ≡ limits.processes = search rules in
    write_all (take sizes.head a.words.now) a.process eight l.words l.i (omega (arith, e)) (omega (arith, e)) l.invariant.0 l.invariant.1
