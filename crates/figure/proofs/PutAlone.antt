-- From every store that a list of demand 3 leaves, a put that is ran alone where its locks are free does what the figure's put
-- does.
use Prim.Native.Nat.{◌+◌}
use mathlib.Core.Path.{refl, subst}
use native.Mathlib.Omega.{arith}
use Rattle.model.specs.Phases.{own_version}
use Rattle.model.specs.Calls.{start_permit, call_for, start_of, top_of}
use Rattle.model.specs.Requests as Requests
use Rattle.model.specs.History as History
use Rattle.model.specs.ByValue.{with_state}
use Rattle.figure.specs.Types.{State}
use Rattle.figure.specs.Figure.{alone, put}
use Rattle.figure.specs.Steps.{search_steps, steps_of}
use Rattle.figure.specs.Alone.{memory_in, PutAlone}
use Rattle.figure.proofs.Walking.{put_call, asked_put}
use Rattle.figure.proofs.Putting.{put_ends}
use Rattle.figure.proofs.Called.{accepted, finishes, Lives, reached_lives, acted_lives}

pub put_alone : PutAlone
unfolding start_of call_for put
put_alone w reached bound enough i k v t draw start free o time =
    let m = memory_in w in
    let now = w.state.events + 1 in
    let call = put_call k v t draw now in
    let r = put alone i bound m k v t draw in
    let n = steps_of bound m k r.answer (top_of draw) in
    let a = accepted w i start call (start_permit w.state w.nodes w.versions i k k) refl o in
    let l = reached_lives reached in
    let l₁ = subst (λ (s : State). Lives (with_state w s)) a.state_is (acted_lives l (History.start i (Requests.put k v t draw))) in
    let e = put_ends l.live.core.nodes l.live.core.book (asked_put k v t draw now a.range) bound enough i now free in
    rw (a.state_is, a.start_is)
    (finishes w i call l₁.live a.below refl n r.memory r.answer (own_version call)
    (now + (search_steps bound m k + 4)) e (omega (arith, a.start_is)))
