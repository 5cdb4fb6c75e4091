-- The types of src/types.rt under one roof. Constructors that two types share are written through their type, as `Option.None`.
pub use Rattle.model.specs.declared.types.Kind.{Kind}
pub use Rattle.model.specs.declared.types.Kind.TheVariants.{Idle, Put, Get, Scan}
pub use Rattle.model.specs.declared.types.Phase.{Phase}
pub use Rattle.model.specs.declared.types.Phase.TheVariants.{Walk, Read, Seek, Lock, Check, Update, Make, Link, Release, Follow}
pub use Rattle.model.specs.declared.types.Role.{Role}
pub use Rattle.model.specs.declared.types.Role.TheVariants.{Searching, Reading, Writing, Releasing, Following}
pub use Rattle.model.specs.declared.types.Answer.{Answer}
pub use Rattle.model.specs.declared.types.Answer.TheVariants.{TooOld, VersionsFull, Added, KeysFull, New, Found, None, Swept}
pub use Rattle.model.specs.declared.types.Class.{Class}
pub use Rattle.model.specs.declared.types.Class.TheVariants.{Inserted, OtherPut, Hit, Miss, Scanned}
pub use Rattle.model.specs.declared.types.Refusal.{Refusal}
pub use Rattle.model.specs.declared.types.Refusal.TheVariants.{NodeLength, VersionLength, ProcessCount, EventLimit, NoProcess, BadKey, Busy, NoCall, Spent, Corrupt, Damaged, NoKey, NoVersion, NotOpen, UnknownCommand, CutShort, BadRange}
pub use Rattle.model.specs.declared.types.Call.{Call}
pub use Rattle.model.specs.declared.types.Cursor.{Cursor}
pub use Rattle.model.specs.declared.types.Effect.{Effect}
pub use Rattle.model.specs.declared.types.Process.{Process}
pub use Rattle.model.specs.declared.types.Counts.{Counts}
pub use Rattle.model.specs.declared.types.Lengths.{Lengths}
pub use Rattle.model.specs.declared.types.State.{State}
pub use Rattle.model.specs.declared.types.Version.{Version}
pub use Rattle.model.specs.declared.types.Item.{Item}
pub use Rattle.model.specs.declared.types.Ahead.{Ahead}
pub use Rattle.model.specs.declared.types.Ahead.TheVariants.{Unused, Less, Equal, Past}
pub use Rattle.model.specs.declared.types.Move.{Move}
pub use Rattle.model.specs.declared.types.Move.TheVariants.{Refuse, Wait, Go, Note, Commit, Show, End}
pub use Rattle.model.specs.declared.types.Finish.{Finish}
pub use Rattle.model.specs.declared.types.Progress.{Progress}
pub use Rattle.model.specs.declared.types.Answered.{Answered}
pub use Rattle.model.specs.declared.types.Fault.{Fault}
pub use Rattle.model.specs.declared.types.Running.{Running}
pub use Rattle.model.specs.declared.types.Limits.{Limits}
pub use Rattle.model.specs.declared.types.NodeOffsets.{NodeOffsets}
pub use Rattle.model.specs.declared.types.VersionOffsets.{VersionOffsets}
pub use Rattle.std.specs.Prelude.{Result, Ok, Err, Option, Some}
use Rattle.std.specs.Prelude.{ℕ}

-- The outcomes, as src/types.rt names them: what a call tells, or its refusal.
abbrev pub Permit : Type 0
Permit = Result (Unit {0}) Refusal

abbrev pub Opening : Type 0
Opening = Result (Unit {0}) Refusal

abbrev pub Starting : Type 0
Starting = Result ℕ Refusal

abbrev pub Stepping : Type 0
Stepping = Result Progress Refusal

abbrev pub Looking : Type 0
Looking = Result Version Refusal

abbrev pub Inspecting : Type 0
Inspecting = Result (Option Fault) Refusal

abbrev pub Status : Type 0
Status = Result (Option Running) Refusal

-- outcomes beside the state that they leave
abbrev pub OpenResult : Type 0
OpenResult = Answered (Unit {0})

abbrev pub StartResult : Type 0
StartResult = Answered ℕ

abbrev pub StepResult : Type 0
StepResult = Answered Progress

-- an inspection that finds nothing, and one that stops at a fault
abbrev pub no_fault : Inspecting
no_fault = Ok Option.None

abbrev pub fault_at : (level node : ℕ) → Inspecting
fault_at level node = Ok (Some (record { level = level; node = node }))

-- the standing of a process without a call, and of one that has one
abbrev pub idle_status : Status
idle_status = Ok Option.None

abbrev pub running_status : Kind → (start effect : ℕ) → Status
running_status kind start effect = Ok (Some (record { kind = kind; start = start; effect = effect }))
