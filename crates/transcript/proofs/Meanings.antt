-- A line tells the outcome that printed it, and that outcome prints it again.
use Prim.Native.Nat.{ℕ}
use mathlib.Core.Bool.{◌||◌}
use mathlib.Core.Path.{◌≡◌, refl}
use Rattle.model.specs.Calls.{step_of}
use Rattle.model.proofs.Tests.{if-by}
use Rattle.lines.specs.Outcomes.{open_line, start_line, step_line, look_line, inspect_line}
use Rattle.buffers.specs.Session.{Session, Done, lent, open_on, call_on}
use Rattle.executor.specs.Perform.{opens, perform_of}
use Rattle.transcript.specs.Types.{Command, Open, Put, Get, Step, Look, Inspect, Line, NotOpen, Ok, Err, Progress, Some, Option}
use Rattle.transcript.specs.Types.{Opening, Starting, Stepping, Looking, Inspecting}
use Rattle.transcript.specs.Meanings.{open_meant, start_meant, step_meant, look_meant, inspect_meant}
use Rattle.transcript.specs.Sheets.{printed_again}

pub open_meant_lem : (k v p limit : ℕ) (o : Opening) → open_meant (open_line k v p limit o) ≡ o
open_meant_lem k v p limit (Err r) = refl
open_meant_lem k v p limit (Ok _) = refl

pub start_meant_lem : (i : ℕ) (o : Starting) → start_meant (start_line i o) ≡ o
start_meant_lem i (Err r) = refl
start_meant_lem i (Ok t) = refl

-- what a step shows, its line does not tell
abbrev pub Unshown : Stepping → Type 0
Unshown (Err r) = Unit {0}
Unshown (Ok (Progress.Moved t)) = Unit {0}
Unshown (Ok (Progress.Waited t)) = Unit {0}
Unshown (Ok (Progress.Shown t x)) = ⊥
Unshown (Ok (Progress.Finished f)) = Unit {0}

pub step_meant_lem : (i : ℕ) (o : Stepping) → Unshown o → step_meant (step_line i o) ≡ o
step_meant_lem i (Err r) u = refl
step_meant_lem i (Ok (Progress.Moved t)) u = refl
step_meant_lem i (Ok (Progress.Waited t)) u = refl
step_meant_lem i (Ok (Progress.Shown t x)) u = absurd u
step_meant_lem i (Ok (Progress.Finished f)) u = refl

step_again : (i : ℕ) (o : Stepping) → step_line i (step_meant (step_line i o)) ≡ step_line i o
step_again i (Err r) = refl
step_again i (Ok (Progress.Moved t)) = refl
step_again i (Ok (Progress.Waited t)) = refl
step_again i (Ok (Progress.Shown t x)) = refl
step_again i (Ok (Progress.Finished f)) = refl

pub look_meant_lem : (k back : ℕ) (o : Looking) → look_meant (look_line k back o) ≡ o
look_meant_lem k back (Err r) = refl
look_meant_lem k back (Ok v) = refl

pub inspect_meant_lem : (o : Inspecting) → inspect_meant (inspect_line o) ≡ o
inspect_meant_lem (Err r) = refl
inspect_meant_lem (Ok Option.None) = refl
inspect_meant_lem (Ok (Some f)) = refl

abbrev Again : Command → Line → Type 0
Again c l = printed_again c l ≡ l

call_again : (w : Session) (c : Command) → Again c (call_on w c).line
unfolding call_on open_on
call_again w (Open k v p limit) = simp open_meant_lem
call_again w (Put i k v t draw) = simp start_meant_lem
call_again w (Get i k) = simp start_meant_lem
call_again w (Step i) = step_again i (step_of (lent w) i).outcome
call_again w (Look k back) = simp look_meant_lem
call_again w Inspect = simp inspect_meant_lem

not_open_again : (c : Command) → Again c (Line.Refused NotOpen)
not_open_again (Open k v p limit) = refl
not_open_again (Put i k v t draw) = refl
not_open_again (Get i k) = refl
not_open_again (Step i) = refl
not_open_again (Look k back) = refl
not_open_again Inspect = refl

pub line_again : (w : Session) (c : Command) → Again c (perform_of w c).line
unfolding perform_of
line_again w c =
    if-by (λ (d : Done). Again c d.line) (w.state.opened || opens c) (λ t. call_again w c) (λ t. not_open_again c)
