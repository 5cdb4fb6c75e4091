-- The types of src/types.rt.
use Rattle.std.specs.Prelude.{ℕ, Result}
pub use Rattle.decoder.specs.declared.types.Command.{Command}
pub use Rattle.decoder.specs.declared.types.Command.TheVariants.{Open, Put, Get, Step, Look, Inspect}
pub use Rattle.decoder.specs.declared.types.KeyWidth.{KeyWidth}
pub use Rattle.decoder.specs.declared.types.KeyWidth.TheVariants.{Four, Eight}
pub use Rattle.decoder.specs.declared.types.DecodeError.{DecodeError}
pub use Rattle.decoder.specs.declared.types.DecodeError.TheVariants.{Unknown, Short, End}

abbrev pub Decoded : Type 0
Decoded = Result (Command × ℕ) DecodeError
