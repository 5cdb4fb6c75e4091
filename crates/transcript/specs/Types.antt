-- The types of `model`, `decoder` and `printer` that this crate names. Constructors that two types share are written through their type.
pub use Rattle.decoder.specs.declared.types.Command.{Command}
pub use Rattle.decoder.specs.declared.types.Command.TheVariants.{Open, Put, Get, Step, Look, Inspect}
pub use Rattle.printer.specs.declared.types.Line.{Line}
pub use Rattle.model.specs.declared.types.Kind.{Kind}
pub use Rattle.model.specs.declared.types.Phase.{Phase}
pub use Rattle.model.specs.declared.types.Phase.TheVariants.{Walk, Read, Seek, Lock, Check, Update, Make, Link, Release, Follow}
pub use Rattle.model.specs.declared.types.Answer.{Answer}
pub use Rattle.model.specs.declared.types.Refusal.{Refusal}
pub use Rattle.model.specs.declared.types.Refusal.TheVariants.{Corrupt, NotOpen}
pub use Rattle.model.specs.declared.types.Call.{Call}
pub use Rattle.model.specs.declared.types.Cursor.{Cursor}
pub use Rattle.model.specs.declared.types.Effect.{Effect}
pub use Rattle.model.specs.declared.types.Process.{Process}
pub use Rattle.model.specs.declared.types.Lengths.{Lengths}
pub use Rattle.model.specs.declared.types.State.{State}
pub use Rattle.model.specs.declared.types.Ahead.{Ahead}
pub use Rattle.model.specs.declared.types.Ahead.TheVariants.{Unused, Less, Equal, Past}
pub use Rattle.model.specs.declared.types.Move.{Move}
pub use Rattle.model.specs.declared.types.Move.TheVariants.{Refuse, Wait, Go, Note, Commit, Show, End}
pub use Rattle.model.specs.Types.{Permit, Opening, Starting, StartResult, Stepping, Looking, Inspecting}
pub use Rattle.model.specs.declared.types.Progress.{Progress}
pub use Rattle.model.specs.Types.{no_fault, fault_at}
pub use Rattle.std.specs.Prelude.{Ok, Err, Option, Some}
