-- How the contracts of this crate name a process that comes in its parts.
use Rattle.std.specs.Prelude.{ℕ, List}
use Rattle.model.specs.declared.types.Call.{Call}
use Rattle.model.specs.declared.types.Cursor.{Cursor}
use Rattle.model.specs.declared.types.Effect.{Effect}
use Rattle.model.specs.declared.types.Process.{Process}

abbrev pub process : Call → Cursor → Effect → List ℕ → Process
process call c e preds = record { call = call; cursor = c; effect = e; preds = preds }
