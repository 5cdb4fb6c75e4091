-- Which line the outcome of each call prints. "(a finishing step prints only `done`; [..])"
use Rattle.model.specs.Types.{Opening, Starting, Stepping, Looking, Inspecting}
use Rattle.model.specs.declared.types.Progress.{Progress}
use Rattle.std.specs.Prelude.{ℕ, Ok, Err, Some, None}
use Rattle.printer.specs.declared.types.Line.{Line}

abbrev pub open_line : (keys versions processes limit : ℕ) → Opening → Line
open_line keys versions processes limit (Err r) = Line.Refused r
open_line keys versions processes limit (Ok _) = Line.Opened keys versions processes limit

abbrev pub start_line : (process : ℕ) → Starting → Line
start_line process (Err r) = Line.Refused r
start_line process (Ok tick) = Line.Started process tick

abbrev pub step_line : (process : ℕ) → Stepping → Line
step_line process (Err r) = Line.Refused r
step_line process (Ok (Progress.Moved tick)) = Line.Stepped process tick
step_line process (Ok (Progress.Waited tick)) = Line.Waited process tick
-- no command starts a scan, so no step of a sheet shows: never printed
step_line process (Ok (Progress.Shown tick x)) = Line.Stepped process tick
step_line process (Ok (Progress.Finished f)) = Line.Done process f

abbrev pub look_line : (key back : ℕ) → Looking → Line
look_line key back (Err r) = Line.Refused r
look_line key back (Ok v) = Line.Looked key back v.value v.timestamp

abbrev pub inspect_line : Inspecting → Line
inspect_line (Err r) = Line.Refused r
inspect_line (Ok None) = Line.Sound
inspect_line (Ok (Some f)) = Line.Fault f.level f.node
