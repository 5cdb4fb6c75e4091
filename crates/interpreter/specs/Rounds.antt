-- A sheet in rounds: its bytes come in pieces of any size, and its lines go to pages of any length.
use Rattle.std.specs.Prelude.{ℕ, ◌≤◌, ◌<◌, Bool, true, false, ◌&&◌, List, [], ◌∷◌, ◌++◌, ◌≡◌, eqb, length, take, drop}
use Rattle.std.specs.Prelude.{if◌then◌else◌}
use Rattle.model.specs.Linearizability.{All}
use Rattle.decoder.specs.Commands.{longest_command}
use Rattle.printer.specs.Lines.{text, room, Page}
use Rattle.buffers.specs.Session.{Session}
use Rattle.interpreter.specs.declared.types.Needs.{Needs}
use Rattle.interpreter.specs.Sheet.{script_of, lines_from, first_session, sheet_of}
use Rattle.interpreter.specs.Playing.{Playing, on_page, play_of}

-- ---- rounds

-- how many bytes more are read, whether the end is noticed if all is read, and the page
pub record Round : Type 0 where
  pub bytes : ℕ
  pub looks : Bool
  pub page : List ℕ

-- a run between two rounds: the bytes that were read and not played, those that were not read, all that was printed
pub record Run : Type 0 where
  pub session : Session
  pub held : List ℕ
  pub unread : List ℕ
  pub printed : List ℕ
  pub needs : Needs

abbrev pub is_over : Needs → Bool
is_over Needs.Nothing = false
is_over Needs.Page = false
is_over Needs.Bytes = false
is_over Needs.Over = true

-- the bytes of a round, those that it leaves unread, and whether the sheet has ended with them
abbrev pub held_at : Run → Round → List ℕ
held_at r t = r.held ++ take t.bytes r.unread

abbrev pub unread_at : Run → Round → List ℕ
unread_at r t = drop t.bytes r.unread

abbrev pub ended_at : Run → Round → Bool
ended_at r t = t.looks && eqb (length (unread_at r t)) 0

-- what is played at a round
unfoldable pub played_at : Run → Round → Playing
played_at r t = play_of (held_at r t) (ended_at r t) (on_page r.session t.page)

abbrev pub printed_on : Page → List ℕ
printed_on page = take page.next page.bytes

-- what the round leaves
abbrev pub after : Run → Round → Playing → Run
after r t p = record {
  session = p.session;
  held = drop p.read (held_at r t);
  unread = unread_at r t;
  printed = r.printed ++ printed_on p.page;
  needs = p.needs;
}

unfoldable pub round_of : Run → Round → Run
round_of r t = if is_over r.needs then r else after r t (played_at r t)

unfoldable pub run_from : Run → List Round → Run
run_from r [] = r
run_from r (t ∷ rounds) = run_from (round_of r t) rounds

-- a sheet of which nothing was read
abbrev pub unplayed : (sheet : List ℕ) → Run
unplayed sheet = record { session = first_session; held = []; unread = sheet; printed = []; needs = Needs.Bytes }

-- ---- the theorem

-- each page holds what is printed on it: a premise here, which `play` promises of every call
abbrev pub Holds : Run → List Round → Type 0
Holds r [] = Unit {0}
Holds r (t ∷ rounds) = ((played_at r t).page.next ≤ length t.page) × Holds (round_of r t) rounds

-- what is still to be printed
abbrev pub due : Run → List ℕ
due r = if is_over r.needs then [] else text (lines_from r.session (script_of (r.held ++ r.unread)))

-- a round that looks for the end, on a page with room for a line
abbrev pub Ready : Round → Type 0
Ready t = (t.looks ≡ true) × (room ≤ length t.page)

-- However a sheet is cut and whatever the pages' lengths, what is played prints what the sheet prints.
pub record InRounds : Type 0 where
  -- after any rounds: what was printed, and behind it what is due
  pub always : (sheet : List ℕ) (rounds : List Round) → Holds (unplayed sheet) rounds
      → let r = run_from (unplayed sheet) rounds in r.printed ++ due r ≡ text (sheet_of sheet)
  -- all of it, and nothing else, once the run is over
  pub over : (sheet : List ℕ) (rounds : List Round) → Holds (unplayed sheet) rounds
      → let r = run_from (unplayed sheet) rounds in is_over r.needs ≡ true → r.printed ≡ text (sheet_of sheet)
  -- and when all is read, it is over after as many rounds as bytes are held, and one more
  pub ends : (r : Run) → r.unread ≡ [] → (rounds : List Round) → All Ready rounds → length r.held < length rounds
      → is_over (run_from r rounds).needs ≡ true
  -- more bytes are needed only where fewer are left than the longest command has, so a buffer of as many has room for them
  pub few : (bytes : List ℕ) (ended : Bool) (p : Playing)
      → let q = play_of bytes ended p in q.needs ≡ Needs.Bytes → length (drop q.read bytes) < longest_command
