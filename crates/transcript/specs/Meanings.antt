-- What the line of a command tells: the outcome that prints it. A line that such a command does not print is taken for
-- damage, refusal 10, which demand 3 excludes. No step of a sheet shows anything, so `on` tells that it moved.
use Rattle.transcript.specs.Types.{Line, Corrupt, Opening, Starting, Stepping, Looking, Inspecting, Ok, Err, Progress, no_fault, fault_at}

abbrev pub open_meant : Line → Opening
open_meant (Line.Opened keys versions processes limit) = Ok tt
open_meant (Line.Started i t) = Err Corrupt
open_meant (Line.Stepped i t) = Err Corrupt
open_meant (Line.Waited i t) = Err Corrupt
open_meant (Line.Done i f) = Err Corrupt
open_meant (Line.Looked k back v t) = Err Corrupt
open_meant Line.Sound = Err Corrupt
open_meant (Line.Fault level node) = Err Corrupt
open_meant (Line.Refused r) = Err r

abbrev pub start_meant : Line → Starting
start_meant (Line.Opened keys versions processes limit) = Err Corrupt
start_meant (Line.Started i t) = Ok t
start_meant (Line.Stepped i t) = Err Corrupt
start_meant (Line.Waited i t) = Err Corrupt
start_meant (Line.Done i f) = Err Corrupt
start_meant (Line.Looked k back v t) = Err Corrupt
start_meant Line.Sound = Err Corrupt
start_meant (Line.Fault level node) = Err Corrupt
start_meant (Line.Refused r) = Err r

abbrev pub step_meant : Line → Stepping
step_meant (Line.Opened keys versions processes limit) = Err Corrupt
step_meant (Line.Started i t) = Err Corrupt
step_meant (Line.Stepped i t) = Ok (Progress.Moved t)
step_meant (Line.Waited i t) = Ok (Progress.Waited t)
step_meant (Line.Done i f) = Ok (Progress.Finished f)
step_meant (Line.Looked k back v t) = Err Corrupt
step_meant Line.Sound = Err Corrupt
step_meant (Line.Fault level node) = Err Corrupt
step_meant (Line.Refused r) = Err r

abbrev pub look_meant : Line → Looking
look_meant (Line.Opened keys versions processes limit) = Err Corrupt
look_meant (Line.Started i t) = Err Corrupt
look_meant (Line.Stepped i t) = Err Corrupt
look_meant (Line.Waited i t) = Err Corrupt
look_meant (Line.Done i f) = Err Corrupt
look_meant (Line.Looked k back v t) = Ok (record { value = v; timestamp = t })
look_meant Line.Sound = Err Corrupt
look_meant (Line.Fault level node) = Err Corrupt
look_meant (Line.Refused r) = Err r

abbrev pub inspect_meant : Line → Inspecting
inspect_meant (Line.Opened keys versions processes limit) = Err Corrupt
inspect_meant (Line.Started i t) = Err Corrupt
inspect_meant (Line.Stepped i t) = Err Corrupt
inspect_meant (Line.Waited i t) = Err Corrupt
inspect_meant (Line.Done i f) = Err Corrupt
inspect_meant (Line.Looked k back v t) = Err Corrupt
inspect_meant Line.Sound = no_fault
inspect_meant (Line.Fault level node) = fault_at level node
inspect_meant (Line.Refused r) = Err r
