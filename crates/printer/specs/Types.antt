-- The types of src/types.rt and those of `model` that lines name.
pub use Rattle.printer.specs.declared.types.Line.{Line}
pub use Rattle.printer.specs.declared.types.Line.TheVariants.{Opened, Started, Stepped, Waited, Done, Looked, Sound, Fault, Refused}
pub use Rattle.model.specs.declared.types.Kind.{Kind}
pub use Rattle.model.specs.declared.types.Answer.{Answer}
pub use Rattle.model.specs.declared.types.Answer.TheVariants.{TooOld, VersionsFull, Added, KeysFull, New, Found, None, Swept}
pub use Rattle.model.specs.declared.types.Refusal.{Refusal}
pub use Rattle.model.specs.declared.types.Finish.{Finish}
