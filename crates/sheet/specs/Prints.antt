-- What the program writes where its reads bring the sheet from its front on and its pages are taken: what the sheet prints.
use Rattle.std.specs.Prelude.{ℕ, ◌≤◌, true, false, List, [], ◌∷◌, ◌++◌, ◌≡◌, length, take, drop, Some, None, Ok, Err}
use Rattle.std.specs.Prelude.{if◌then◌else◌}
use Rattle.printer.specs.Lines.{text}
use Rattle.buffers.specs.Session.{session}
use Rattle.interpreter.specs.declared.types.Needs.{Needs}
use Rattle.interpreter.specs.Sheet.{first_session, sheet_of}
use Rattle.interpreter.specs.Rounds.{is_over}
use Rattle.sheet.specs.Runs.{Input, Memory, first_memory, Answers, supplied_at, played_of, round_of, rounds_from, PagesHold}

-- ---- what is written

-- the part of a page that is printed
abbrev pub printed_in : Memory → List ℕ
printed_in m = take m.run.next m.out

-- what a round writes: its page, if the run is not over
unfoldable pub written_in : Memory → Answers → List ℕ
written_in m a =
    let s = supplied_at m a in
    if is_over s.run.needs then [] else printed_in (played_of s true)

-- what rounds write, one behind another
unfoldable pub written_by : Memory → List Answers → List ℕ
written_by m [] = []
written_by m (a ∷ answers) = written_in m a ++ written_by (round_of m a) answers

-- ---- what the system answers

-- how many bytes an answer brings, where they are needed
abbrev pub count_in : Input → ℕ
count_in (Ok (Some n)) = n
count_in (Ok None) = 0
count_in (Err e) = 0

abbrev pub brought_by : Needs → Input → ℕ
brought_by Needs.Bytes i = count_in i
brought_by Needs.Nothing i = 0
brought_by Needs.Page i = 0
brought_by Needs.Over i = 0

-- a read brings the next bytes that are unread, or the end where there are none; it does not fail
abbrev pub ReadsOn : Input → (behind unread : List ℕ) → Type 0
ReadsOn (Ok (Some n)) behind unread = (n ≤ length behind) × (take n behind ≡ take n unread)
ReadsOn (Ok None) behind unread = unread ≡ []
ReadsOn (Err e) behind unread = ⊥

-- so in every round, where these bytes are unread; and every page is written
abbrev pub Honest : Memory → (unread : List ℕ) → List Answers → Type 0
Honest m unread [] = Unit {0}
Honest m unread (a ∷ answers) =
    (m.run.needs ≡ Needs.Bytes → ReadsOn a.input a.behind unread)
    × (is_over m.run.needs ≡ false → a.written ≡ true)
    × Honest (round_of m a) (drop (brought_by m.run.needs a.input) unread) answers

-- ---- the theorem

-- Of the rounds that `run` promises: `Runs` has their answers, and that the pages hold what is printed on them; `Lends` has the
-- first session.
pub record ProgramPrints : Type 0 where
  -- what was written is a beginning of what the sheet prints
  pub always : (sheet bytes nodes versions tally out : List ℕ) (answers : List Answers)
      → session first_session.state nodes versions tally ≡ first_session
      → let m = first_memory bytes nodes versions tally out in Honest m sheet answers → PagesHold m answers
      → take (length (written_by m answers)) (text (sheet_of sheet)) ≡ written_by m answers
  -- all of it, and nothing else, once the run is over
  pub over : (sheet bytes nodes versions tally out : List ℕ) (answers : List Answers)
      → session first_session.state nodes versions tally ≡ first_session
      → let m = first_memory bytes nodes versions tally out in Honest m sheet answers → PagesHold m answers
      → is_over (rounds_from m answers).run.needs ≡ true → written_by m answers ≡ text (sheet_of sheet)
