-- The idle process in its part, and the event: `left_moved`.
use Prim.Native.Nat.{◌+◌, ◌-◌, ◌≤◌}
use mathlib.Core.Path.{◌≡◌, sym, ap, ◌∙◌}
use borrow.Author.Rules.{rules}
use lib.ListN.{length, take, drop}
use native.Mathlib.Omega.{arith}
use Rattle.model.specs.Calls.{process_after, outcome_of}
use Rattle.process.specs.ProcessWords.{sizes, process_words, process_from}
use Rattle.layout.proofs.Known.{part_is, part_long}
use Rattle.apply.proofs.Left.{left_moved}
use Rattle.apply.proofs.leave.finish.Goals as goal

pub returns : goal.returns
returns c =
    let a = c.args in
    let fits : a.at + sizes.process ≤ length a.words.now = omega (arith, c.told-words, c.requires.fits) in
    let p = c.copy_from_slice in
    let lent : c.unwrap.result.now ≡ take (a.at + sizes.process - a.at) (drop a.at a.words.now) = search rules in
    let ends = ap (λ w. process_after a.tick (process_from w) a.mv) (part_is a.words.now a.at) ∙ c.requires.ends in
    left_moved a.words.now _ a.at a.tick a.counts fits a.mv p.new.self _ _ _ c.requires.accepted
    (p.ensures.after ∙ c.words_of.ensures ∙ ap process_words (c.idle.ensures ∙ sym ends)) (p.ensures.len ∙ part_long a.words.now a.at fits)
    c.put_event.ensures
    (c.outcome_of.ensures ∙ ap (λ k. outcome_of a.tick k a.mv) (c.call_in-call.ensures ∙ ap (λ w. (process_from w).call) lent)) c.count_end.ensures
