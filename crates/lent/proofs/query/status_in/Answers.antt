-- The test of the process asked, the permit on the head's words, and what the process's own tell: Laws `status_by_lem`.
use mathlib.Core.Path.{◌≡◌, sym, ap, ◌∙◌}
use borrow.Author.Rules.{rules}
use native.Mathlib.Omega.{arith}
use Rattle.model.specs.Calls.{standing, status_by}
use Rattle.refusals.proofs.Laws.{may_tell}
use Rattle.process.specs.ProcessWords.{process_from}
use Rattle.layout.specs.StateWords.{state_from, part}
use Rattle.layout.proofs.Laws.{process_at_lem}
use Rattle.layout.proofs.Written.{part_facts, header_at}
use Rattle.lent.proofs.Laws.{status_unknown, status_by_lem}
use Rattle.lent.proofs.query.status_in.Goals as goal
use Rattle.std.specs.Prelude.{Ok, Err}
use Rattle.std.proofs.lemmas.Result.{err_from_is_err_and}

pub returns-then-not-is_state_at : goal.returns-then-not-is_state_at
returns-then-not-is_state_at c = status_unknown _ _ (sym c.is_state_at.ensures ∙ c.if-not-is_state_at.true)

pub slice_bounds-status_permit-end : goal.slice_bounds-status_permit-end
slice_bounds-status_permit-end c =
    let known = sym c.is_state_at.ensures ∙ c.if-not-is_state_at.false in
    let long = (part_facts _ _ known).0 in
    omega arith

pub unwrap-requires : goal.unwrap-requires
unwrap-requires c =
    let long = (part_facts _ _ (sym c.is_state_at.ensures ∙ c.if-not-is_state_at.false)).0 in
    search (long, rules)

pub process_at-of-requires : goal.process_at-of-requires
process_at-of-requires c =
    let known = sym c.is_state_at.ensures ∙ c.if-not-is_state_at.false in
    let permit = c.status_permit.ensures (state_from c.args.words.now) (header_at _ _ known) in
    may_tell _ _ permit c.in_ok-status_permit.was

pub returns-in_err-status_permit : goal.returns-in_err-status_permit
unfolding status_by
returns-in_err-status_permit c =
    let known = sym c.is_state_at.ensures ∙ c.if-not-is_state_at.false in
    let permit = c.status_permit.ensures (state_from c.args.words.now) (header_at _ _ known) in
    let p = err_from_is_err_and c.from_residual.result c.from_residual.ensures.1 in
    rw (p.1, p.2) (status_by_lem _ _ (Err _) known (sym permit ∙ c.in_err-status_permit.was))

pub returns : goal.returns
unfolding status_by
returns c =
    let a = c.args in
    let known = sym c.is_state_at.ensures ∙ c.if-not-is_state_at.false in
    let permit = c.status_permit.ensures (state_from c.args.words.now) (header_at _ _ known) in
    let few = may_tell _ _ permit c.in_ok-status_permit.was in
    let same : c.unwrap.result.now ≡ a.words.now = search rules in
    let found = c.process_in.ensures ∙ ap process_from (c.process_at-of.ensures ∙ ap (λ w. part w a.process) same)
    ∙ sym (process_at_lem a.words.now a.process few) in
    c.standing.ensures ∙ ap (λ p. standing p.call.kind p) found
    ∙ status_by_lem _ _ (Ok tt) known (sym permit ∙ c.in_ok-status_permit.was)
