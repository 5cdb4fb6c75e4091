-- The head, then the processes below the count, of which there are at most all.
use Prim.Native.Nat.{min}
use mathlib.Core.Path.{◌≡◌, ap, ◌∙◌}
use lib.ListN.{get_or, drop}
use borrow.Author.Rules.{rules}
use Rattle.model.specs.Layout.{limits}
use Rattle.process.specs.ProcessWords.{sizes}
use Rattle.layout.specs.Head.{header_offsets, head_at}
use Rattle.layout.specs.StateWords.{is_state_below, all_known}
use Rattle.layout.proofs.Known.{no_head, by_least, count_at}
use Rattle.layout.proofs.state.is_state_below_count.Goals as goal

pub returns-then-not-is_head : goal.returns-then-not-is_head
returns-then-not-is_head c = (no_head _ _ _ c.is_head.ensures (c.if-not-is_head.true)).0

pub returns : goal.returns
returns c =
    let w = c.args.words.now in
    let least : c.min-n.result ≡ min (get_or w (head_at header_offsets.processes) 0) limits.processes = search rules in
    let same : c.unwrap.result.now ≡ w = search rules in
    c.all_known.ensures
    ∙ ap (λ v. all_known c.min-n.result (drop sizes.head v)) same
    ∙ ap (λ n. all_known n (drop sizes.head w)) least
    ∙ by_least w _ _ c.is_head.ensures (c.if-not-is_head.false)
    ∙ ap (is_state_below w) (count_at w)
