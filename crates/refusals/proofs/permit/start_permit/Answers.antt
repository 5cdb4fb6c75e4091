-- The kind counts only for a number below the count.
use borrow.Author.Rules.{rules}
use mathlib.Core.Path.{◌≡◌, ap}
use Rattle.model.specs.Roles.{is_idle}
use Rattle.layout.specs.Head.{header_offsets}
use Rattle.refusals.proofs.Laws.{and_deny, start_kind}
use lib.Dec.{leb}
use lib.ListN.{get_or}
use Rattle.refusals.proofs.permit.start_permit.Goals as goal

pub returns : goal.returns
returns c =
    let a = c.args in
    let idle : c.eq-idle.result ≡ is_idle a.kind = search (rules, c.eq-idle.ensures) in
    λ s e.
    simp (
      start_kind s a.nodes.now a.versions.now a.process a.kind e.found a.first a.last,
      c.and-5.ensures,
      c.and-4.ensures,
      c.and-3.ensures,
      c.and-2.ensures,
      c.and.ensures,
      c.refuse_if.ensures,
      c.refuse_if-2.ensures,
      c.refuse_if-3.ensures,
      c.refuse_if-4.ensures,
      c.refuse_if-5.ensures,
      c.refuse_if-6.ensures,
      c.lawful_store.ensures s e.same,
      c.lawful_key.ensures,
      c.lawful_key-2.ensures,
      idle,
      ap (λ h. leb (get_or h header_offsets.processes 0) a.process) e.same,
      ap (λ h. leb (get_or h header_offsets.limit 0) (get_or h header_offsets.events 0)) e.same,
      and_deny,
    )
