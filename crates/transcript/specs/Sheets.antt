-- Demand 3 of a sheet, stated of its commands and of the lines that they print.
use Rattle.std.specs.Prelude.{ℕ, false, List, [], ◌∷◌, ◌++◌, ◌≡◌, length, replicate}
use Rattle.model.specs.Requests.{put, get}
use Rattle.model.specs.Calls.{open_due}
use Rattle.model.specs.System.{view_of}
use Rattle.model.specs.History.{Action, start, step, look, Observation, started, stepped, looked, Run, perform_all, empty_history}
use Rattle.model.specs.Linearizability.{All, Claim, EffectsStay, OpensAs}
use Rattle.lines.specs.Outcomes.{open_line, start_line, step_line, look_line, inspect_line}
use Rattle.buffers.specs.Session.{Session}
use Rattle.executor.specs.Perform.{opens, perform_of, AllDone, performed_all}
use Rattle.interpreter.specs.Sheet.{script_of, first_session, sheet_of}
use Rattle.transcript.specs.Types.{Command, Open, Put, Get, Step, Look, Inspect, Line, Refusal, NotOpen}
use Rattle.transcript.specs.Meanings.{open_meant, start_meant, step_meant, look_meant, inspect_meant}
use Rattle.transcript.specs.BySheet.{BufferLengths, fitting_for, opens_by_line, by_sheet}

-- a session that a sheet can come to, from any first one in buffers of the lent lengths
pub record Reached (w : Session) : Type 0 where
  pub first : Session
  pub lengths : BufferLengths first
  pub earlier : List Command
  pub left : (performed_all first earlier).session ≡ w

abbrev pub NoOpen : List Command → Type 0
NoOpen commands = All (λ (c : Command). opens c ≡ false) commands

-- ---- as a list of demand 3

-- "every list of starts and steps [..], and of looks": an inspection is no member of it, and an open begins another
abbrev pub action_in : Command → List Action
action_in (Open k v p limit) = []
action_in (Put i k v t draw) = start i (put k v t draw) ∷ []
action_in (Get i k) = start i (get k) ∷ []
action_in (Step i) = step i ∷ []
action_in (Look k back) = look k back ∷ []
action_in Inspect = []

unfoldable pub actions_in : List Command → List Action
actions_in [] = []
actions_in (c ∷ rest) = action_in c ++ actions_in rest

-- what is seen of a command that printed this line
abbrev pub entry_in : Command → Line → List Observation
entry_in (Open k v p limit) l = []
entry_in (Put i k v t draw) l = started i (put k v t draw) (start_meant l) ∷ []
entry_in (Get i k) l = started i (get k) (start_meant l) ∷ []
entry_in (Step i) l = stepped i (step_meant l) ∷ []
entry_in (Look k back) l = looked k back (look_meant l) ∷ []
entry_in Inspect l = []

-- each command beside its line; the newest first
unfoldable pub entries_in : List Command → List Line → List Observation
entries_in [] lines = []
entries_in (c ∷ rest) [] = []
entries_in (c ∷ rest) (l ∷ lines) = entries_in rest lines ++ entry_in c l

-- what commands after an open leave, and what is seen of them
abbrev pub run_of : (processes limit : ℕ) → List Command → AllDone → Run by_sheet
run_of p limit commands r = record {
  store = r.session;
  history = record { processes = p; limit = limit; entries = entries_in commands r.lines };
}

-- the line of the outcome that a line tells
abbrev pub printed_again : Command → Line → Line
printed_again (Open k v p limit) l = open_line k v p limit (open_meant l)
printed_again (Put i k v t draw) l = start_line i (start_meant l)
printed_again (Get i k) l = start_line i (start_meant l)
printed_again (Step i) l = step_line i (step_meant l)
printed_again (Look k back) l = look_line k back (look_meant l)
printed_again Inspect l = inspect_line (inspect_meant l)

-- ---- the theorem

-- of the commands after an accepted open, which left the session w, up to any one before the next open
pub record BetweenOpens (w : Session) (k v p limit : ℕ) (commands : List Command) : Type 0 where
  -- the run of their starts, steps and looks leaves the same session, and their lines tell its history
  pub such_list : perform_all (record { store = w; history = empty_history (fitting_for k v p limit) }) (actions_in commands)
      ≡ run_of p limit commands (performed_all w commands)
  -- demand 3 of what was printed
  pub claim : let r = run_of p limit commands (performed_all w commands) in Claim k v (view_of by_sheet r.store) r.history
  pub effects_stay : (more : List Command) → NoOpen more
      → EffectsStay (run_of p limit commands (performed_all w commands))
      (run_of p limit (commands ++ more) (performed_all w (commands ++ more)))

-- What the commands of any sheet do between two opens is a list of demand 3.
pub record SheetLinearizable : Type 0 where
  -- a sheet prints the lines of its commands from the first session on, and then what ends it
  pub prints : (bytes : List ℕ)
      → let s = script_of bytes in sheet_of bytes ≡ (performed_all first_session s.commands).lines ++ s.ending
  -- that session has buffers of the lent lengths, so that whatever a sheet has played is `Reached`
  pub begins : BufferLengths first_session
  -- what follows a part of a sheet begins with the session that the part left, and its lines follow
  pub parts : (w : Session) (commands more : List Command)
      → let a = performed_all w commands in
      let b = performed_all a.session more in
      performed_all w (commands ++ more) ≡ record { lines = a.lines ++ b.lines; session = b.session }
  -- what is read from a line prints it again: reading it loses nothing
  pub lines_tell : (w : Session) (c : Command) → let l = (perform_of w c).line in printed_again c l ≡ l
  -- an open is refused as due, and else accepted
  pub opening : (w : Session) → Reached w → (k v p limit : ℕ)
      → OpensAs (open_due (fitting_for k v p limit)) (opens_by_line (perform_of w (Open k v p limit)))
  pub between_opens : (w : Session) → Reached w → (k v p limit : ℕ)
      → let o = perform_of w (Open k v p limit) in
      o.line ≡ Line.Opened k v p limit
      → (commands : List Command) → NoOpen commands → BetweenOpens o.session k v p limit commands
  -- "14 command before an accepted open"
  pub before_open : (w : Session) → w.state.opened ≡ false → (commands : List Command) → NoOpen commands
      → performed_all w commands ≡ record { lines = replicate (length commands) (Line.Refused NotOpen); session = w }
  -- "after a refused one, 14 applies"
  pub after_refused : (w : Session) (k v p limit : ℕ) (r : Refusal)
      → let o = perform_of w (Open k v p limit) in
      o.line ≡ Line.Refused r → o.session.state.opened ≡ false
