-- Words that are no state below the count are refused; any other are decoded.
use mathlib.Core.Path.{sym, ◌∙◌}
use borrow.Author.Rules.{rules}
use Rattle.lent.proofs.Laws.{below_long}
use Rattle.lent.proofs.query.inspect_in.Goals as goal

pub unwrap-requires : goal.unwrap-requires
unwrap-requires c =
    let long = below_long _ _ (sym c.is_state_below_count.ensures ∙ c.if-not-is_state_below_count.false) in
    search (long, rules)
