-- From every store that a list of demand 3 leaves, a get that is ran alone does what the figure's get does.
use Prim.Native.Nat.{◌+◌}
use mathlib.Core.Path.{refl, subst}
use native.Mathlib.Omega.{arith}
use Rattle.model.specs.Calls.{start_permit, call_for, start_of}
use Rattle.model.specs.Requests as Requests
use Rattle.model.specs.History as History
use Rattle.model.specs.ByValue.{with_state}
use Rattle.figure.specs.Types.{State}
use Rattle.figure.specs.Figure.{get}
use Rattle.figure.specs.Steps.{steps_of}
use Rattle.figure.specs.Alone.{memory_in, GetAlone}
use Rattle.figure.proofs.Walking.{get_call, asked_get}
use Rattle.figure.proofs.Getting.{get_ends}
use Rattle.figure.proofs.Called.{accepted, finishes, Lives, reached_lives, acted_lives}

pub get_alone : GetAlone
unfolding start_of call_for
get_alone w reached bound enough i k start o time =
    let m = memory_in w in
    let now = w.state.events + 1 in
    let call = get_call k now in
    let r = get bound m k in
    let n = steps_of bound m k r.answer 0 in
    let a = accepted w i start call (start_permit w.state w.nodes w.versions i k k) refl o in
    let l = reached_lives reached in
    let l₁ = subst (λ (s : State). Lives (with_state w s)) a.state_is (acted_lives l (History.start i (Requests.get k))) in
    let e = get_ends l.live.core.nodes l.live.core.book (asked_get k now a.range) bound (omega arith) i now in
    rw (a.state_is, a.start_is)
    (finishes w i call l₁.live a.below refl n m r.answer r.version (now + n) e (omega (arith, a.start_is)))
