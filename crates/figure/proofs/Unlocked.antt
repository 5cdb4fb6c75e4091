-- Where no call runs no lock is held; then the locks are free that any put needs, and it frees them again.
use Prim.Native.Nat.{ℕ, zero, suc, ◌≤◌, ◌<◌}
use mathlib.Core.Bool.{true, and-eq-true_iff}
use mathlib.Core.Path.{◌≡◌, refl, sym, ◌∙◌}
use native.Mathlib.Omega.{arith}
use borrow.Author.Tests.{leb-true}
use Rattle.model.specs.Layout.{limits, lock}
use Rattle.model.specs.State.{lawful_key}
use Rattle.model.specs.Calls.{Store, standing, top_of}
use Rattle.model.proofs.Tests.{by_le}
use Rattle.model.proofs.Laws.{top_at_most}
use Rattle.linearizability.proofs.Live.{slot, status_is}
use Rattle.figure.specs.Types.{Kind, Idle, Put, Get, Scan, Process, idle_status}
use Rattle.figure.specs.Figure.{HMAX, MAX, head, alone, put}
use Rattle.figure.specs.Alone.{memory_in, Resting, RestUnlocks, UnlockedFrees, PutUnlocks}
use Rattle.figure.proofs.Search.{at_head, all_finds}
use Rattle.figure.proofs.Walking.{asked_put}
use Rattle.figure.proofs.Putting.{put_locks}
use Rattle.figure.proofs.Called.{Lives, reached_lives}

-- standing says idle of a process without a call alone
shown_idle : (kind : Kind) (pr : Process) → standing kind pr ≡ idle_status → kind ≡ Idle
unfolding standing
shown_idle Idle pr e = refl
shown_idle Put pr e = absurd (let z : ◌≡◌ {A = ℕ} 0 1 = cc in omega arith)
shown_idle Get pr e = absurd (let z : ◌≡◌ {A = ℕ} 0 1 = cc in omega arith)
shown_idle Scan pr e = absurd (let z : ◌≡◌ {A = ℕ} 0 1 = cc in omega arith)

-- no process has a call
pub resting_idle : {w : Store} → Lives w → Resting w → (j : ℕ) → (slot w j).call.kind ≡ Idle
resting_idle {w} lives rest j = by_le w.state.processes j (lives.live.core.beyond j)
    (λ lt. shown_idle (slot w j).call.kind (slot w j) (sym (status_is lives.live.core j lt) ∙ rest j lt))

pub rest_unlocks : RestUnlocks
rest_unlocks w reached rest l x l5 hx = by (lock w.nodes l x) refl
  where
    lives : Lives w
    lives = reached_lives reached

    by : (n : ℕ) → lock w.nodes l x ≡ n → lock w.nodes l x ≡ 0
    by zero e = e
    by (suc j) e = absurd ((lives.live.core.locks j l x (omega arith) hx e).kind (resting_idle lives rest j))

pub key_range : (k : ℕ) → lawful_key k ≡ true → (1 ≤ k) × (k < MAX)
key_range k e = let f = simp and-eq-true_iff at e in (leb-true 1 k f.0, omega (arith, leb-true k limits.key f.1))

pub unlocked_frees : UnlockedFrees
unlocked_frees w reached free bound enough k h a lawful h5 l le _ =
    let lives = reached_lives reached in
    let r = key_range k lawful in
    let m = memory_in w in
    let N = lives.live.core.nodes in
    let f = all_finds N r.1 bound (omega arith) HMAX head l (omega arith) (at_head N r.1 r.0) in
    free l _ (omega arith) f.spot.used

pub put_unlocks : PutUnlocks
unfolding put
put_unlocks w reached free bound enough i k v t draw lawful l x l5 hx =
    let c = (reached_lives reached).live.core in
    let a = (put alone i bound (memory_in w) k v t draw).answer in
    let frees = unlocked_frees w reached free bound enough k (top_of draw) a lawful (top_at_most draw) in
    let kept = put_locks c.nodes c.book (asked_put k v t draw 0 (key_range k lawful)) bound enough i 0 frees l x l5 in
    by_le x w.state.counts.nodes (λ le. kept.0 le ∙ free l x l5 le) (λ lt. kept.1 lt hx)
