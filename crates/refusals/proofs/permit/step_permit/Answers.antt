-- The refusals one after another; the kind counts only for a number below the count.
use mathlib.Core.Bool.{true, false}
use mathlib.Core.Path.{refl, sym, ap, ◌∙◌}
use lib.Dec.{leb, eqb}
use lib.ListN.{length, get_or}
use borrow.Author.Rules.{rules}
use borrow.Author.Tests.{le-leb, lt-leb, eq-eqb, ne_eqb}
use Rattle.model.specs.Layout.{limits}
use Rattle.model.specs.Calls.{no_such, spent}
use Rattle.model.specs.Roles.{is_idle}
use Rattle.layout.specs.Head.{header_offsets}
use Rattle.refusals.proofs.Laws.{step_by_lem}
use Rattle.refusals.proofs.permit.step_permit.Goals as goal

pub returns-then-not-lawful_store : goal.returns-then-not-lawful_store
returns-then-not-lawful_store c =
    λ s e.
    let a = c.args in
    step_by_lem s a.nodes.now a.versions.now a.process a.kind e.found a.tally.now
    false (eqb (length a.tally.now) limits.tally) (no_such s a.process) (is_idle a.kind) (spent s)
    (sym (c.lawful_store.ensures s e.same) ∙ c.if-not-lawful_store.true)
    refl
    refl
    refl
    refl

pub returns-then-tally : goal.returns-then-tally
returns-then-tally c =
    λ s e.
    let a = c.args in
    step_by_lem s a.nodes.now a.versions.now a.process a.kind e.found a.tally.now
    true false (no_such s a.process) (is_idle a.kind) (spent s)
    (sym (c.lawful_store.ensures s e.same) ∙ c.if-not-lawful_store.false)
    (ne_eqb _ _ c.if-tally.true)
    refl
    refl
    refl

pub returns-then-h-process : goal.returns-then-h-process
returns-then-h-process c =
    λ s e.
    let a = c.args in
    step_by_lem s a.nodes.now a.versions.now a.process a.kind e.found a.tally.now
    true true true (is_idle a.kind) (spent s)
    (sym (c.lawful_store.ensures s e.same) ∙ c.if-not-lawful_store.false)
    (eq-eqb _ _ c.if-tally.false)
    (ap (λ h. leb (get_or h header_offsets.processes 0) a.process) e.same ∙ le-leb _ _ c.if-h-process.true)
    refl
    refl

pub returns-then-eq : goal.returns-then-eq
returns-then-eq c =
    λ s e.
    let a = c.args in
    step_by_lem s a.nodes.now a.versions.now a.process a.kind e.found a.tally.now
    true true false true (spent s)
    (sym (c.lawful_store.ensures s e.same)
    ∙ c.if-not-lawful_store.false)
    (eq-eqb _ _ c.if-tally.false)
    (ap (λ h. leb (get_or h header_offsets.processes 0) a.process) e.same ∙ lt-leb _ _ c.if-h-process.false)
    (search rules)
    refl

pub returns-then-h : goal.returns-then-h
returns-then-h c =
    λ s e.
    let a = c.args in
    step_by_lem s a.nodes.now a.versions.now a.process a.kind e.found a.tally.now
    true true false false true
    (sym (c.lawful_store.ensures s e.same)
    ∙ c.if-not-lawful_store.false)
    (eq-eqb _ _ c.if-tally.false)
    (ap (λ h. leb (get_or h header_offsets.processes 0) a.process) e.same ∙ lt-leb _ _ c.if-h-process.false)
    (search rules)
    (ap (λ h. leb (get_or h header_offsets.limit 0) (get_or h header_offsets.events 0)) e.same ∙ le-leb _ _ c.if-h.true)

pub returns : goal.returns
returns c =
    λ s e.
    let a = c.args in
    step_by_lem s a.nodes.now a.versions.now a.process a.kind e.found a.tally.now
    true true false false false
    (sym (c.lawful_store.ensures s e.same)
    ∙ c.if-not-lawful_store.false)
    (eq-eqb _ _ c.if-tally.false)
    (ap (λ h. leb (get_or h header_offsets.processes 0) a.process) e.same ∙ lt-leb _ _ c.if-h-process.false)
    (search rules)
    (ap (λ h. leb (get_or h header_offsets.limit 0) (get_or h header_offsets.events 0)) e.same ∙ lt-leb _ _ c.if-h.false)
