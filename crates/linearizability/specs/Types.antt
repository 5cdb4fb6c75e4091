-- The types that the proofs name.
pub use Rattle.model.specs.declared.types.Kind.{Kind}
pub use Rattle.model.specs.declared.types.Kind.TheVariants.{Idle, Put, Get, Scan}
pub use Rattle.model.specs.declared.types.Phase.{Phase}
pub use Rattle.model.specs.declared.types.Phase.TheVariants.{Walk, Read, Seek, Lock, Check, Update, Make, Link, Release, Follow}
pub use Rattle.model.specs.declared.types.Role.{Role}
pub use Rattle.model.specs.declared.types.Role.TheVariants.{Searching, Reading, Writing, Releasing, Following}
pub use Rattle.model.specs.declared.types.Answer.{Answer}
pub use Rattle.model.specs.declared.types.Answer.TheVariants.{TooOld, VersionsFull, Added, KeysFull, New, Found, None, Swept}
pub use Rattle.model.specs.declared.types.Class.{Class}
pub use Rattle.model.specs.declared.types.Class.TheVariants.{Inserted, OtherPut, Hit, Miss, Scanned}
pub use Rattle.model.specs.declared.types.Refusal.{Refusal}
pub use Rattle.model.specs.declared.types.Refusal.TheVariants.{NodeLength, VersionLength, ProcessCount, EventLimit, NoProcess, BadKey, Busy, NoCall, Spent, Corrupt, Damaged, NoKey, NoVersion, NotOpen, UnknownCommand, CutShort, BadRange}
pub use Rattle.model.specs.declared.types.Call.{Call}
pub use Rattle.model.specs.declared.types.Cursor.{Cursor}
pub use Rattle.model.specs.declared.types.Effect.{Effect}
pub use Rattle.model.specs.declared.types.Process.{Process}
pub use Rattle.model.specs.declared.types.Counts.{Counts}
pub use Rattle.model.specs.declared.types.Lengths.{Lengths}
pub use Rattle.model.specs.declared.types.State.{State}
pub use Rattle.model.specs.declared.types.Version.{Version}
pub use Rattle.model.specs.declared.types.Item.{Item}
pub use Rattle.model.specs.declared.types.Ahead.{Ahead}
pub use Rattle.model.specs.declared.types.Ahead.TheVariants.{Unused, Less, Equal, Past}
pub use Rattle.model.specs.declared.types.Move.{Move}
pub use Rattle.model.specs.declared.types.Move.TheVariants.{Refuse, Wait, Go, Note, Commit, Show, End}
pub use Rattle.model.specs.declared.types.Finish.{Finish}
pub use Rattle.model.specs.declared.types.Limits.{Limits}
pub use Rattle.model.specs.declared.types.Progress.{Progress}
pub use Rattle.model.specs.declared.types.Fault.{Fault}
pub use Rattle.model.specs.declared.types.Running.{Running}
pub use Rattle.model.specs.Types.{Permit, Opening, OpenResult, Starting, StartResult, Stepping, StepResult, Looking, Inspecting, Status, no_fault, fault_at, idle_status, running_status}
pub use Rattle.std.specs.Prelude.{Ok, Err, Option, Some}
