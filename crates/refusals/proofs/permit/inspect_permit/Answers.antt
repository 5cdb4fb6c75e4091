-- A lawful state has at most eight processes, so the loop stays in the array.
use mathlib.Core.Path.{sym, ◌∙◌}
use Rattle.refusals.proofs.Laws.{lawful_store_lem}
use borrow.Author.Rules.{rules}
use Rattle.refusals.proofs.permit.inspect_permit.Goals as goal

pub idle_below-requires : goal.idle_below-requires
idle_below-requires c =
    let a = c.args in
    let f = lawful_store_lem a.s a.nodes.now a.versions.now
    (sym (c.lawful_store.ensures a.s (sym c.header_of-h.ensures)) ∙ c.if-not-lawful_store.false) in
    search rules
