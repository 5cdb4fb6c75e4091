-- The program's run: its bytes lie in a buffer, of which a round plays those that are held.
use Rattle.std.specs.Prelude.{ℕ, ◌+◌, ◌-◌, ◌≤◌, ◌<◌, min, Bool, true, false, List, [], ◌∷◌, ◌++◌, ◌≢◌, ◌≡◌, eqb, length, take, drop, Option, Some, None, Result, Ok, Err}
use Rattle.model.specs.declared.types.State.{State}
use Rattle.std.specs.Prelude.{if◌then◌else◌}
use Rattle.printer.specs.Lines.{room}
use Rattle.buffers.specs.Session.{session}
use Rattle.interpreter.specs.declared.types.Needs.{Needs}
use Rattle.interpreter.specs.Sheet.{first_session}
use Rattle.interpreter.specs.Playing.{Playing, on_page, play_of}
use Rattle.interpreter.specs.Rounds.{is_over}
use Rattle.sheet.specs.declared.types.Failed.{Failed}
use Rattle.sheet.specs.declared.types.Run.{Run}

-- ---- a read

-- the bytes that a run holds
abbrev pub held_in : Run → (bytes : List ℕ) → List ℕ
held_in r bytes = take (r.end - r.from) (drop r.from bytes)

-- in a buffer of so many bytes
pub record InBuffer (r : Run) (size : ℕ) : Type 0 where
  pub from : r.from ≤ r.end
  pub end : r.end ≤ size

-- where more bytes are needed, there is room for them
pub record Ready (r : Run) (size : ℕ) : Type 0 where
  pub inside : InBuffer r size
  pub room : r.needs ≡ Needs.Bytes → r.end - r.from < size

-- nothing is played while bytes are needed
abbrev pub Supplied : Run → Type 0
Supplied r = r.needs ≢ Needs.Bytes

-- before the first read
abbrev pub first_run : Run
first_run = record { state = first_session.state; from = 0; end = 0; ended = false; next = 0; needs = Needs.Bytes }

-- so many bytes, or none at the end of the input; or the read failed
abbrev pub Input : Type 0
Input = Result (Option ℕ) Failed

-- what a read's answer means that had room for so many bytes: "0 at the end of the input"; or it failed
abbrev pub input_of : (got : Result ℕ Failed) → (room : ℕ) → Input
input_of (Ok n) room = if eqb (min n room) 0 then Ok None else Ok (Some (min n room))
input_of (Err e) room = Err e

-- no more bytes than there is room for
abbrev pub InRoom : ℕ → Input → Type 0
InRoom most (Ok (Some n)) = n ≤ most
InRoom most (Ok None) = Unit {0}
InRoom most (Err e) = Unit {0}

-- the run with what was read behind the bytes held, which stand at the front; a read that fails ends it
abbrev pub took_of : State → (held : ℕ) → Input → Run
took_of s held (Ok (Some n)) = record { state = s; from = 0; end = held + n; ended = false; next = 0; needs = Needs.Nothing }
took_of s held (Ok None) = record { state = s; from = 0; end = held; ended = true; next = 0; needs = Needs.Nothing }
took_of s held (Err e) = record { state = s; from = 0; end = held; ended = false; next = 0; needs = Needs.Over }

-- ---- a page

-- what is played of the bytes held, on an empty page
abbrev pub page_of : Run → (bytes nodes versions tally out : List ℕ) → Playing
page_of r bytes nodes versions tally out = play_of (held_in r bytes) r.ended (on_page (session r.state nodes versions tally) out)

-- the run after a page
abbrev pub paged : Run → Playing → Run
paged r p = record {
  state = p.session.state;
  from = r.from + p.read;
  end = r.end;
  ended = r.ended;
  next = p.page.next;
  needs = p.needs;
}

-- a run that goes no further
abbrev pub stopped : Run → Run
stopped r = record { state = r.state; from = r.from; end = r.end; ended = r.ended; next = r.next; needs = Needs.Over }

-- a write that fails ends the run
abbrev pub settled : (written : Bool) → Run → Run
settled written r = if written then r else stopped r

-- ---- rounds

-- all that a run has: its bytes, the store's buffers and tally, and its page
pub record Memory : Type 0 where
  pub run : Run
  pub bytes : List ℕ
  pub nodes : List ℕ
  pub versions : List ℕ
  pub tally : List ℕ
  pub out : List ℕ

abbrev pub memory : Run → (bytes nodes versions tally out : List ℕ) → Memory
memory r bytes nodes versions tally out =
    record { run = r; bytes = bytes; nodes = nodes; versions = versions; tally = tally; out = out }

-- before the first read
abbrev pub first_memory : (bytes nodes versions tally out : List ℕ) → Memory
first_memory bytes nodes versions tally out = memory first_run bytes nodes versions tally out

-- what the system answers in a round: what a read brings, where bytes are needed, what then stands in the buffer behind those
-- held, and whether the page could be written
pub record Answers : Type 0 where
  pub input : Input
  pub behind : List ℕ
  pub written : Bool

-- more bytes, where they are needed: those held come to the front
abbrev pub supplied_by : Needs → Memory → Input → (behind : List ℕ) → Memory
supplied_by Needs.Bytes m i behind =
    let r = m.run in
    memory (took_of r.state (r.end - r.from) i) (held_in r m.bytes ++ behind) m.nodes m.versions m.tally m.out
supplied_by Needs.Nothing m i behind = m
supplied_by Needs.Page m i behind = m
supplied_by Needs.Over m i behind = m

unfoldable pub supplied_of : Memory → Input → (behind : List ℕ) → Memory
supplied_of m i behind = supplied_by m.run.needs m i behind

abbrev pub supplied_at : Memory → Answers → Memory
supplied_at m a = supplied_of m a.input a.behind

-- a page of what is held
unfoldable pub played_of : Memory → (written : Bool) → Memory
played_of m written =
    let p = page_of m.run m.bytes m.nodes m.versions m.tally m.out in
    memory (settled written (paged m.run p)) m.bytes p.session.nodes p.session.versions p.session.tally
    p.page.bytes

-- more bytes, then a page, if the run is not over
unfoldable pub round_of : Memory → Answers → Memory
round_of m a =
    let s = supplied_at m a in
    if is_over s.run.needs then s else played_of s a.written

unfoldable pub rounds_from : Memory → List Answers → Memory
rounds_from m [] = m
rounds_from m (a ∷ answers) = rounds_from (round_of m a) answers

-- each page that is played holds what is printed on it
abbrev pub PageHolds : Memory → Answers → Type 0
PageHolds m a =
    let s = supplied_at m a in
    is_over s.run.needs ≡ false → (played_of s true).run.next ≤ length s.out

abbrev pub PagesHold : Memory → List Answers → Type 0
PagesHold m [] = Unit {0}
PagesHold m (a ∷ answers) = PageHolds m a × PagesHold (round_of m a) answers

-- ---- what the functions promise: all that they leave, by what the system answered

-- the bytes held at the front, and what was read behind them
pub record Refilled (r q : Run) (bytes bytes' : List ℕ) : Type 0 where
  pub input : Input
  pub behind : List ℕ
  pub taken : q ≡ took_of r.state (r.end - r.from) input
  pub buffer : bytes' ≡ held_in r bytes ++ behind

pub record Supplies (r q : Run) (bytes bytes' : List ℕ) : Type 0 where
  pub input : Input
  pub behind : List ℕ
  pub same : (nodes versions tally out : List ℕ)
      → memory q bytes' nodes versions tally out ≡ supplied_of (memory r bytes nodes versions tally out) input behind

pub record Plays (m m' : Memory) : Type 0 where
  pub written : Bool
  pub same : m' ≡ played_of m written
  pub holds : (played_of m true).run.next ≤ length m.out

-- more rounds than any run has: a proved loop has to end
abbrev pub most_rounds : ℕ
most_rounds = 18_446_744_073_709_551_615

-- a run ends when it is over, or when so many rounds were made
pub record Runs (m m' : Memory) : Type 0 where
  pub answers : List Answers
  pub same : m' ≡ rounds_from m answers
  pub holds : PagesHold m answers
  pub over : m'.run.needs ≢ Needs.Over → length answers ≡ most_rounds

-- what the program lends itself at first, and a page with room for a line: on a shorter one no line would ever be printed
pub record Lends (nodes versions tally out : List ℕ) : Type 0 where
  pub session : session first_session.state nodes versions tally ≡ first_session
  pub page : room ≤ length out
