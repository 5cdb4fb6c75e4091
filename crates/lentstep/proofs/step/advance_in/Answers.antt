-- The turn of the process in its part of the words, and what its move leaves: Laws `step_left`.
use Prim.Native.Nat.{◌+◌, ◌≤◌}
use mathlib.Core.Path.{sym, ap, subst, ◌∙◌}
use native.Mathlib.Omega.{arith}
use lib.ListN.{get_or}
use borrow.Author.Rules.{rules}
use Rattle.model.specs.Layout.{top_level}
use Rattle.model.specs.Phases.{transition_of, refuses}
use Rattle.tables.specs.Room.{memory}
use Rattle.transition.proofs.Laws.{level_fits}
use Rattle.process.specs.ProcessWords.{process_from}
use Rattle.layout.proofs.Written.{events_at}
use Rattle.lent.proofs.Laws.{step_left}
use Rattle.lentstep.proofs.Passes.{passes}
use Rattle.lentstep.proofs.step.advance_in.Goals as goal

pub overflow_add-tick : goal.overflow_add-tick
overflow_add-tick c = let p = passes _ _ _ _ _ c.requires in omega (arith, p.unspent)

pub process_at-of-requires : goal.process_at-of-requires
process_at-of-requires c = (passes _ _ _ _ _ c.requires).few

pub overflow_add-process : goal.overflow_add-process
overflow_add-process c = let p = passes _ _ _ _ _ c.requires in omega (arith, p.few)

pub invariant_of-memory : goal.invariant_of-memory
invariant_of-memory c = record { lent = simp c.counts_in.ensures (passes _ _ _ _ _ c.requires).lent }

pub leave-requires-clause-fits : goal.leave-requires-clause-fits
leave-requires-clause-fits c = let p = passes _ _ _ _ _ c.requires in omega (arith, p.few)

pub leave-requires-clause-known : goal.leave-requires-clause-known
leave-requires-clause-known c = (passes _ _ _ _ _ c.requires).process

pub leave-requires-clause-tally_len : goal.leave-requires-clause-tally_len
leave-requires-clause-tally_len c = (passes _ _ _ _ _ c.requires).tally_len

pub leave-requires-clause-level : goal.leave-requires-clause-level
leave-requires-clause-level c =
    λ h. subst (λ r. (process_from r).cursor.level ≤ top_level) c.process_at-of.ensures
    (level_fits _ _ _ _ (sym (ap (λ v. refuses v.move) c.transition-mv.ensures.moved) ∙ h))

pub returns : goal.returns
returns c =
    let a = c.args in
    let w = a.words.now in
    let p = passes w a.nodes.now a.versions.now a.tally.now a.process c.requires in
    let t = c.transition-mv in
    let n = c.counts_in in
    let left = step_left w _ _ _ _ p.known _ _ _ _ (events_at w) n.ensures p.permit p.few
    (t.ensures.moved ∙ ap (λ r. transition_of (a.process + 1) (get_or w 4 0 + 1) (process_from r) (memory a.nodes.now a.versions.now n.result))
    c.process_at-of.ensures) _ c.leave.ensures in
    search rules
