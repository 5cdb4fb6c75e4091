-- Document 01, "Sheet program": what a whole sheet prints.
use Rattle.std.specs.Prelude.{ℕ, zero, suc, List, [], ◌∷◌, ◌++◌, ◌≡◌, length, drop, replicate}
use Rattle.model.specs.declared.types.Refusal.TheVariants.{UnknownCommand, CutShort}
use Rattle.model.specs.State.{closed_state}
use Rattle.decoder.specs.declared.types.Command.{Command}
use Rattle.std.specs.Prelude.{Ok, Err}
use Rattle.decoder.specs.Types.{Decoded}
use Rattle.decoder.specs.declared.types.DecodeError.TheVariants.{Unknown, Short, End}
use Rattle.decoder.specs.Commands.{command_from}
use Rattle.printer.specs.declared.types.Line.{Line}
use Rattle.printer.specs.declared.types.Line.TheVariants.{Refused}
use Rattle.buffers.specs.Session.{Session, session, buffers}
use Rattle.executor.specs.Perform.{perform_of, performed_all}

-- ---- what its bytes say

-- the commands, and what is printed behind their lines
pub record Script : Type 0 where
  pub commands : List Command
  pub ending : List Line

abbrev pub first : Command → Script → Script
first c s = record { commands = c ∷ s.commands; ending = s.ending }

abbrev pub ends : List Line → Script
ends lines = record { commands = []; ending = lines }

-- "15 unknown byte; 16 command cut short. 15 and 16 end the run, and come before 14.": by what the bytes begin with, and what
-- they say behind so many of them
abbrev pub script_by : Decoded → (behind : ℕ → Script) → Script
script_by (Ok (c, n)) behind = first c (behind n)
script_by (Err Unknown) behind = ends (Refused UnknownCommand ∷ [])
script_by (Err Short) behind = ends (Refused CutShort ∷ [])
script_by (Err End) behind = ends []

unfoldable pub script_for : (commands : ℕ) → (bytes : List ℕ) → Script
script_for zero bytes = ends []
script_for (suc n) bytes = script_by (command_from bytes) (λ k. script_for n (drop k bytes))

-- a command has a byte at least
unfoldable pub script_of : (bytes : List ℕ) → Script
script_of bytes = script_for (length bytes) bytes

-- ---- what it prints

abbrev pub lines_from : Session → Script → List Line
lines_from w s = (performed_all w s.commands).lines ++ s.ending

-- no store is open yet
abbrev pub first_session : Session
first_session =
    session closed_state (replicate buffers.nodes 0) (replicate buffers.versions 0) (replicate buffers.tally 0)

-- "It prints one line each"
unfoldable pub sheet_of : (bytes : List ℕ) → List Line
sheet_of bytes = lines_from first_session (script_of bytes)

-- ---- what it comes to

-- front holds whole commands and nothing else
abbrev pub Complete : (front : List ℕ) → Type 0
Complete front = (script_of front).ending ≡ []

-- The bound of `script_for` never shows.
pub record SheetLaws : Type 0 where
  -- commands from the front, each performed and printed, from any session on
  pub command : (w : Session) (bytes : List ℕ) (c : Command) (n : ℕ) → command_from bytes ≡ Ok (c, n)
      → let d = perform_of w c in lines_from w (script_of bytes) ≡ d.line ∷ lines_from d.session (script_of (drop n bytes))
  -- "An empty sheet prints nothing."
  pub empty : sheet_of [] ≡ []
  -- "15 and 16 end the run, and come before 14": in any session, and whatever stands behind an unknown byte
  pub unknown : (w : Session) (bytes more : List ℕ) → command_from bytes ≡ Err Unknown
      → lines_from w (script_of (bytes ++ more)) ≡ Refused UnknownCommand ∷ []
  pub cut_short : (w : Session) (bytes : List ℕ) → command_from bytes ≡ Err Short → lines_from w (script_of bytes) ≡ Refused CutShort ∷ []
  -- of a whole sheet: what stands before them is printed as if it were all
  pub unknown_ends : (front bytes more : List ℕ) → Complete front → command_from bytes ≡ Err Unknown
      → sheet_of (front ++ (bytes ++ more)) ≡ sheet_of front ++ (Refused UnknownCommand ∷ [])
  pub cut_short_ends : (front bytes : List ℕ) → Complete front → command_from bytes ≡ Err Short
      → sheet_of (front ++ bytes) ≡ sheet_of front ++ (Refused CutShort ∷ [])
