-- Room for a line and what stands at the place, or the run stands.
use Rattle.std.proofs.Common.{arith, sym, ap, ◌∙◌, [], refl}
use Rattle.interpreter.proofs.Tries.{full, plays, next_within}
use Rattle.interpreter.proofs.play.play_one.Goals as goal

pub returns-then-not-has_room-clause-plays : goal.returns-then-not-has_room-clause-plays
returns-then-not-has_room-clause-plays c = full _ _ _ _ _ _ _ (sym c.has_room.ensures ∙ c.if-not-has_room.true)

pub overflow_add-read : goal.overflow_add-read
overflow_add-read c = let w = next_within _ _ _ _ _ c.in-Next.ensures in omega (arith, w)

pub returns-in-Next-clause-plays : goal.returns-in-Next-clause-plays
returns-in-Next-clause-plays c =
    let room = sym c.has_room.ensures ∙ c.if-not-has_room.false in
    plays _ _ _ _ _ _ _ _ _ room c.in-Next.ensures c.play_command.ensures.plays

pub returns-in-Next-clause-within : goal.returns-in-Next-clause-within
returns-in-Next-clause-within c =
    let e = c.play_command.ensures in
    let w = next_within _ _ _ _ _ c.in-Next.ensures in
    λ h. record { read = omega (arith, w, h.read, ap (λ q. q.read) e.plays); next = e.next_in_bounds h.next }

pub returns-in-More-clause-plays : goal.returns-in-More-clause-plays
returns-in-More-clause-plays c =
    let room = sym c.has_room.ensures ∙ c.if-not-has_room.false in
    plays _ _ _ _ _ _ _ _ _ room c.in-More.ensures refl

pub returns-in-Over-clause-plays : goal.returns-in-Over-clause-plays
returns-in-Over-clause-plays c =
    let room = sym c.has_room.ensures ∙ c.if-not-has_room.false in
    plays _ _ _ _ _ _ _ _ _ room c.in-Over.ensures refl

pub returns-in-Ends-clause-plays : goal.returns-in-Ends-clause-plays
returns-in-Ends-clause-plays c =
    let room = sym c.has_room.ensures ∙ c.if-not-has_room.false in
    plays _ _ _ _ _ _ _ _ _ room c.in-Ends.ensures (c.end.ensures.ends _ _ _)

pub returns-in-Ends-clause-within : goal.returns-in-Ends-clause-within
returns-in-Ends-clause-within c =
    let e = c.end.ensures in
    λ h. record { read = omega (arith, h.read, ap (λ q. q.read) (e.ends [] [] [])); next = e.next_in_bounds h.next }
