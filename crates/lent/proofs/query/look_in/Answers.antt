-- The head's test, the permit on its words, and what a look that is let pass shows: Laws `look_by_lem`.
use mathlib.Core.Path.{◌≡◌, sym, ap, ◌∙◌}
use borrow.Author.Rules.{rules}
use Rattle.std.specs.Prelude.{Ok, Err}
use Rattle.std.proofs.lemmas.Result.{err_from_is_err_and}
use Rattle.model.specs.Calls.{look_by}
use Rattle.refusals.proofs.Laws.{may_look}
use Rattle.tables.specs.Room.{memory}
use Rattle.layout.specs.StateWords.{state_from}
use Rattle.layout.proofs.Known.{head_long}
use Rattle.lent.proofs.Laws.{header_known, look_headless, look_by_lem}
use Rattle.lent.proofs.query.look_in.Goals as goal

pub returns-then-not-is_head : goal.returns-then-not-is_head
returns-then-not-is_head c = look_headless _ _ _ _ _ (sym c.is_head.ensures ∙ c.if-not-is_head.true)

pub unwrap-requires : goal.unwrap-requires
unwrap-requires c =
    let long = head_long c.args.words.now (sym c.is_head.ensures ∙ c.if-not-is_head.false) in
    search (long, rules)

pub returns-in_err-look_permit : goal.returns-in_err-look_permit
unfolding look_by
returns-in_err-look_permit c =
    let known = sym c.is_head.ensures ∙ c.if-not-is_head.false in
    let permit = c.look_permit.ensures (state_from c.args.words.now) (header_known _ known) in
    let p = err_from_is_err_and c.from_residual.result c.from_residual.ensures.1 in
    rw (p.1, p.2) (look_by_lem _ _ _ _ _ (Err _) known (sym permit ∙ c.in_err-look_permit.was))

pub look_granted-requires : goal.look_granted-requires
look_granted-requires c =
    let known = sym c.is_head.ensures ∙ c.if-not-is_head.false in
    let permit = c.look_permit.ensures (state_from c.args.words.now) (header_known _ known) in
    let same : c.unwrap.result.now ≡ c.args.words.now = search rules in
    simp (c.counts_in-counts.ensures, same) (may_look _ _ _ _ (sym permit ∙ c.in_ok-look_permit.was)).lent

pub returns : goal.returns
returns c =
    let a = c.args in
    let known = sym c.is_head.ensures ∙ c.if-not-is_head.false in
    let permit = c.look_permit.ensures (state_from c.args.words.now) (header_known _ known) in
    let same : c.unwrap.result.now ≡ c.args.words.now = search rules in
    let counts = c.counts_in-counts.ensures ∙ ap (λ w. (state_from w).counts) same in
    c.look_granted.ensures
    ∙ ap (λ n. look_by (Ok tt) (memory a.nodes.now a.versions.now n) a.key a.back) counts
    ∙ look_by_lem _ _ _ _ _ (Ok tt) known (sym permit ∙ c.in_ok-look_permit.was)
