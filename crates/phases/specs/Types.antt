-- The types that the contracts and proofs of this crate name.
pub use Rattle.model.specs.declared.types.Call.{Call}
pub use Rattle.model.specs.declared.types.Cursor.{Cursor}
pub use Rattle.model.specs.declared.types.Move.{Move}
pub use Rattle.model.specs.declared.types.Move.TheVariants.{Refuse, Wait, Go, Note, Commit, Show, End}
