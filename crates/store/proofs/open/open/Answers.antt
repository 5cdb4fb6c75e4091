-- A refusal leaves both tables; where none is due, the lengths fit 32 bits and the head has room.
use Rattle.model.specs.Calls.{open_by, open_of}
use Rattle.refusals.proofs.Laws.{may_open}
use borrow.Author.Rules.{rules}
use Rattle.store.proofs.open.open.Goals as goal
use Rattle.std.specs.Prelude.{Ok, Err}

pub overflow_cast-lengths : goal.overflow_cast-lengths
overflow_cast-lengths c =
    let a = c.args in
    let f = may_open _ _ a.processes a.limit c.open_permit.ensures c.in-Ok.is in
    search rules

pub overflow_cast-lengths-in-Ok : goal.overflow_cast-lengths-in-Ok
overflow_cast-lengths-in-Ok c =
    let a = c.args in
    let f = may_open _ _ a.processes a.limit c.open_permit.ensures c.in-Ok.is in
    search rules

pub clear_nodes-requires : goal.clear_nodes-requires
clear_nodes-requires c =
    let a = c.args in
    let f = may_open _ _ a.processes a.limit c.open_permit.ensures c.in-Ok.is in
    search rules

pub returns-in-Err : goal.returns-in-Err
unfolding open_of open_by
returns-in-Err c = simp (c.closed.ensures, ← c.open_permit.ensures, c.in-Err.is)

pub returns-in-Ok : goal.returns-in-Ok
unfolding open_of open_by
returns-in-Ok c =
    simp (
      c.fresh.ensures,
      c.fill.ensures.after (λ y h. h),
      c.clear_nodes.ensures,
      ← c.open_permit.ensures,
      c.in-Ok.is,
    )
