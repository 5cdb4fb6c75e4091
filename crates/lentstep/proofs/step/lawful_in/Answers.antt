-- The head, then the store that it shows, then the process.
use mathlib.Core.Path.{sym, ◌∙◌}
use Rattle.layout.specs.StateWords.{state_from}
use Rattle.lent.proofs.Laws.{header_known, lawful_headless, lawful_unlawful, lawful_known}
use Rattle.lentstep.proofs.step.lawful_in.Goals as goal

pub returns-then-not-is_head : goal.returns-then-not-is_head
returns-then-not-is_head c = lawful_headless _ _ _ _ (sym c.is_head.ensures ∙ c.if-not-is_head.true)

pub returns-then-not-lawful_store : goal.returns-then-not-lawful_store
returns-then-not-lawful_store c =
    let head = sym c.is_head.ensures ∙ c.if-not-is_head.false in
    let store = c.lawful_store.ensures (state_from c.args.words.now) (header_known _ head) in
    lawful_unlawful _ _ _ _ (sym store ∙ c.if-not-lawful_store.true)

pub returns : goal.returns
returns c =
    let head = sym c.is_head.ensures ∙ c.if-not-is_head.false in
    let store = c.lawful_store.ensures (state_from c.args.words.now) (header_known _ head) in
    c.is_state_at.ensures ∙ lawful_known _ _ _ _ (sym store ∙ c.if-not-lawful_store.false)
