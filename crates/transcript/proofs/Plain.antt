-- No command starts a scan, so that no process has one: the line of every step tells its outcome.
use Prim.Native.Nat.{ℕ, zero, suc}
use mathlib.Core.Bool.{true, false}
use mathlib.Core.List.{List, [], ◌∷◌}
use mathlib.Core.Path.{◌≡◌, refl, sym, ap, subst, ◌∙◌}
use native.Mathlib.Omega.{arith}
use lib.ListN.{get_or, set, replicate}
use Rattle.model.specs.State.{no_process, process_at}
use Rattle.model.specs.Phases.{Moved, refuses}
use Rattle.model.specs.Calls.{open_by, open_of, begun, start_by, start_of, call_for, Store, step_permit, process_after, step_by, step_of}
use Rattle.model.proofs.Tests.{if-by}
use Rattle.buffers.specs.Session.{Session, Done, lent, opened_on, open_on, call_on}
use Rattle.executor.specs.Perform.{opens, perform_of}
use Rattle.transcript.specs.Types.{Command, Open, Put, Get, Step, Look, Inspect, Line, Permit, Ok, Err, Call, Process, State}
use Rattle.transcript.specs.Types.{Move, Refuse, Wait, Go, Note, Commit, Show, End}
use Rattle.transcript.specs.Meanings.{step_meant}
use Rattle.transcript.proofs.Meanings.{step_meant_lem}
use Rattle.transcript.proofs.Steps.{NoScan, step_unshown}
use Rattle.transcript.proofs.BySheet.{performs, performs_open}

-- ---- processes

abbrev Each : List Process → Type 0
Each ps = (j : ℕ) → NoScan (get_or ps j no_process)

set_each : (ps : List Process) (i : ℕ) (p : Process) → Each ps → NoScan p → Each (set ps i p)
set_each [] i p all none j = all j
set_each (q ∷ ps) zero p all none zero = none
set_each (q ∷ ps) zero p all none (suc j) = all (suc j)
set_each (q ∷ ps) (suc i) p all none zero = all zero
set_each (q ∷ ps) (suc i) p all none (suc j) = set_each ps i p (λ j. all (suc j)) none j

same_each : (n : ℕ) (p : Process) → NoScan p → Each (replicate n p)
same_each zero p none j = refl
same_each (suc n) p none zero = none
same_each (suc n) p none (suc j) = same_each n p none j

after : (tick : ℕ) (p : Process) (v : Move) → NoScan p → NoScan (process_after tick p v)
unfolding process_after
after tick p Refuse none = none
after tick p Wait none = none
after tick p (Go c) none = none
after tick p (Note c) none = none
after tick p (Commit c a) none = none
after tick p (Show c x) none = none
after tick p (End a v e) none = refl

-- ---- the state

-- the store is open, and no process has a scan
pub record Plain (s : State) : Type 0 where
  pub open_now : s.opened ≡ true
  pub no_scans : Each s.process

start_plain : (d : Permit) (s : State) (i : ℕ) (call : Call) → Plain s → NoScan (begun call) → Plain (start_by d s i call).state
unfolding start_by
start_plain (Err r) s i call p none = p
start_plain (Ok _) s i call p none = record { open_now = p.open_now; no_scans = set_each s.process i _ p.no_scans none }

step_plain : (d : Permit) (w : Store) (i : ℕ) (v : Moved) → Plain w.state → Plain (step_by d w i v).store.state
unfolding step_by
step_plain (Err r) w i v p = p
step_plain (Ok _) w i v p =
    if-by (λ (x : Store). Plain x.state) (refuses v.move) (λ t. p)
    (λ t. record {
      open_now = p.open_now;
      no_scans = set_each w.state.process i _ p.no_scans (after _ (process_at w.state i) v.move (p.no_scans i));
    })

-- ---- commands

call_plain : (w : Session) (c : Command) → opens c ≡ false → Plain w.state → Plain (call_on w c).session.state
unfolding call_on start_of step_of call_for
call_plain w (Open k v p limit) no-open q = absurd (let z : ◌≡◌ {A = ℕ} 0 1 = cc in omega arith)
call_plain w (Put i k v t draw) no-open q = start_plain _ w.state i _ q refl
call_plain w (Get i k) no-open q = start_plain _ w.state i _ q refl
call_plain w (Step i) no-open q = step_plain (step_permit (lent w) i) (lent w) i _ q
call_plain w (Look k back) no-open q = q
call_plain w Inspect no-open q = q

pub stays_plain : (w : Session) (c : Command) → opens c ≡ false → Plain w.state → Plain (perform_of w c).session.state
stays_plain w c no-open q =
    subst (λ (d : Done). Plain d.session.state) (sym (performs w q.open_now c)) (call_plain w c no-open q)

pub step_told_lem : (w : Session) → Plain w.state → (i : ℕ) → step_meant (perform_of w (Step i)).line ≡ (step_of (lent w) i).outcome
step_told_lem w q i = ap (λ (d : Done). step_meant d.line) (performs w q.open_now (Step i))
    ∙ (unfold call_on in (step_meant_lem i (step_of (lent w) i).outcome (step_unshown (lent w) i (q.no_scans i))))

-- an accepted open leaves no call
module _ (w : Session) (k v p limit : ℕ) where
  opened_by : (d : Permit) (nodes versions : List ℕ) → let o = opened_on w k v p limit (open_by d nodes versions p limit) in
      o.line ≡ Line.Opened k v p limit → Plain o.session.state
  unfolding open_by
  opened_by (Err r) nodes versions e = absurd (let z : ◌≡◌ {A = ℕ} 0 1 = cc in omega arith)
  opened_by (Ok _) nodes versions e = record { open_now = refl; no_scans = same_each 8 _ refl }

  pub opens_plain : (perform_of w (Open k v p limit)).line ≡ Line.Opened k v p limit
      → Plain (perform_of w (Open k v p limit)).session.state
  opens_plain = subst (λ (d : Done). d.line ≡ Line.Opened k v p limit → Plain d.session.state)
      (sym (performs_open w k v p limit)) (unfold open_on open_of in (opened_by _ _ _))
