-- The process put into its part of the words, then the event.
use Prim.Native.Nat.{◌+◌, ◌-◌, ◌≤◌}
use mathlib.Core.Path.{refl, ap, ◌∙◌}
use native.Mathlib.Omega.{arith}
use lib.ListN.{length}
use borrow.Rule.Slice.PartMut.{put_mid}
use Rattle.model.specs.Calls.{begun}
use Rattle.process.specs.ProcessWords.{sizes, process_words}
use Rattle.layout.specs.StateWords.{state_from, put_event}
use Rattle.apply.proofs.Left.{put_sets}
use Rattle.lentstart.proofs.start.begin_in.Goals as goal

pub returns : goal.returns
returns c =
    let n = c.counts_in-counts in
    let p = c.copy_from_slice in
    let w = c.args.words.now in
    let at = c.args.at in
    let tick = c.args.call.start in
    let q = process_words (begun c.args.call) in
    let fits : at + sizes.process ≤ length w = omega (arith, c.told-words, c.requires) in
    c.put_event.ensures
    ∙ ap (λ r. put_event (put_mid at (at + sizes.process - at) w r) tick n.result)
    (p.ensures.after ∙ c.words_of.ensures ∙ ap process_words c.begin.ensures)
    ∙ ap (put_event (put_mid at (at + sizes.process - at) w q) tick) n.ensures
    ∙ ap (λ u. put_event u tick (state_from w).counts) (put_sets w q at refl fits)
