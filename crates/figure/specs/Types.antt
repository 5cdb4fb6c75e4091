-- The types of model/src/types.rt that this crate names.
pub use Rattle.model.specs.declared.types.Kind.{Kind}
pub use Rattle.model.specs.declared.types.Kind.TheVariants.{Idle, Put, Get, Scan}
pub use Rattle.model.specs.declared.types.Phase.{Phase}
pub use Rattle.model.specs.declared.types.Phase.TheVariants.{Walk, Read, Seek, Lock, Check, Update, Make, Link, Release}
pub use Rattle.model.specs.declared.types.Role.{Role}
pub use Rattle.model.specs.declared.types.Role.TheVariants.{Searching, Reading, Writing, Releasing, Following}
pub use Rattle.model.specs.declared.types.Answer.{Answer}
pub use Rattle.model.specs.declared.types.Answer.TheVariants.{TooOld, VersionsFull, Added, KeysFull, New, Found, None}
pub use Rattle.model.specs.declared.types.Class.{Class}
pub use Rattle.model.specs.declared.types.Class.TheVariants.{Inserted, OtherPut, Hit, Miss, Scanned}
pub use Rattle.model.specs.declared.types.Refusal.{Refusal}
pub use Rattle.model.specs.declared.types.Call.{Call}
pub use Rattle.model.specs.declared.types.Cursor.{Cursor}
pub use Rattle.model.specs.declared.types.Effect.{Effect}
pub use Rattle.model.specs.declared.types.Process.{Process}
pub use Rattle.model.specs.declared.types.State.{State}
pub use Rattle.model.specs.declared.types.Version.{Version}
pub use Rattle.model.specs.declared.types.Ahead.{Ahead}
pub use Rattle.model.specs.declared.types.Ahead.TheVariants.{Less, Equal, Past}
pub use Rattle.model.specs.declared.types.Move.{Move}
pub use Rattle.model.specs.declared.types.Move.TheVariants.{Refuse, Wait, Go, Note, Commit, Show, End}
pub use Rattle.model.specs.declared.types.Finish.{Finish}
pub use Rattle.model.specs.declared.types.Progress.{Progress}
pub use Rattle.model.specs.Types.{Permit, Opening, Starting, StartResult, Stepping, Status, idle_status, running_status}
pub use Rattle.std.specs.Prelude.{Ok, Err, Option, Some}
