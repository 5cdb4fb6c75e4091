-- Document 01, "Sheet program": which commands are performed, and what they do.
use Rattle.std.specs.Prelude.{Bool, true, false, ◌||◌, List, [], ◌∷◌}
use Rattle.model.specs.declared.types.Refusal.TheVariants.{NotOpen}
use Rattle.std.specs.Prelude.{if◌then◌else◌}
use Rattle.decoder.specs.declared.types.Command.{Command}
use Rattle.decoder.specs.declared.types.Command.TheVariants.{Open, Put, Get, Step, Look, Inspect}
use Rattle.printer.specs.declared.types.Line.{Line}
use Rattle.printer.specs.declared.types.Line.TheVariants.{Refused}
use Rattle.buffers.specs.Session.{Session, Done, call_on}

abbrev pub opens : Command → Bool
opens (Open k v p limit) = true
opens (Put i k v t draw) = false
opens (Get i k) = false
opens (Step i) = false
opens (Look k n) = false
opens Inspect = false

-- "14 command before an accepted open"; "after a refused one, 14 applies": it leaves a closed state
unfoldable pub perform_of : Session → Command → Done
perform_of w c = if w.state.opened || opens c then call_on w c else record { line = Refused NotOpen; session = w }

-- ---- commands one after another

-- what they print, "one line each", and leave
pub record AllDone : Type 0 where
  pub lines : List Line
  pub session : Session

unfoldable pub performed_all : Session → List Command → AllDone
performed_all w [] = record { lines = []; session = w }
performed_all w (c ∷ rest) =
    let d = perform_of w c in
    let r = performed_all d.session rest in
    record { lines = d.line ∷ r.lines; session = r.session }
