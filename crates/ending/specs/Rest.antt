-- Document 01, "Sheet program": how a run goes on, or ends, at a place in its bytes.
use Rattle.std.specs.Prelude.{ℕ, Bool, List, drop, Ok, Err}
use Rattle.model.specs.declared.types.Refusal.TheVariants.{UnknownCommand, CutShort}
use Rattle.std.specs.Prelude.{if◌then◌else◌}
use Rattle.decoder.specs.Types.{Decoded}
use Rattle.decoder.specs.declared.types.DecodeError.TheVariants.{Unknown, Short, End}
use Rattle.decoder.specs.Commands.{command_from}
use Rattle.ending.specs.declared.types.Rest.{Rest}
use Rattle.ending.specs.declared.types.Rest.TheVariants.{Next, More, Over, Ends}

-- "15 unknown byte; 16 command cut short. 15 and 16 end the run, and come before 14.": what is cut short or at an end can
-- go on as long as the sheet has not ended
unfoldable pub rest_by : (ended : Bool) → Decoded → Rest
rest_by ended (Ok x) = Next x.0 x.1
rest_by ended (Err Unknown) = Ends UnknownCommand
rest_by ended (Err Short) = if ended then Ends CutShort else More
rest_by ended (Err End) = if ended then Over else More

unfoldable pub rest_of : (bytes : List ℕ) → (read : ℕ) → (ended : Bool) → Rest
rest_of bytes read ended = rest_by ended (command_from (drop read bytes))
