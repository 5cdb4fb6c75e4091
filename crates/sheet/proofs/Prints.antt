-- The program's rounds are rounds of the sheet: after each, both hold the same bytes and the same store, and need the same.
use Prim.Native.Nat.{ℕ, ◌+◌, ◌-◌, ◌≤◌}
use mathlib.Core.Bool.{Bool, true, false, true≢false, ◌&&◌}
use mathlib.Core.List.{List, [], ◌∷◌, ◌++◌, append_assoc, append-nil}
use mathlib.Core.Path.{◌≡◌, refl, sym, ap, subst, ◌∙◌}
use native.Mathlib.Omega.{arith}
use lib.Dec.{eqb}
use lib.ListN.{length, take, drop, length-append}
use lib.Seq.{take-append-add, take-append_seam, take_at}
use Rattle.printer.specs.Lines.{text}
use Rattle.buffers.specs.Session.{Session, session}
use Rattle.interpreter.specs.declared.types.Needs.{Needs}
use Rattle.interpreter.specs.Sheet.{first_session, sheet_of}
use Rattle.interpreter.specs.Playing.{Playing, on_page, play_of}
use Rattle.interpreter.specs.Rounds as Rounds
use Rattle.interpreter.specs.Rounds.{Round, is_over, held_at, unread_at, ended_at, played_at, after, run_from, unplayed, Holds, due}
use Rattle.interpreter.proofs.Progress.{all_advances}
use Rattle.interpreter.proofs.Rounds.{in_rounds}
use Rattle.std.specs.Prelude.{Some, None, Ok, Err}
use Rattle.sheet.specs.Runs.{Input}
use Rattle.sheet.specs.Runs.{held_in, InBuffer, page_of, Memory, Answers, supplied_by, supplied_of, played_of}
use Rattle.sheet.specs.Runs.{first_memory, supplied_at, round_of, rounds_from, PagesHold}
use Rattle.sheet.specs.Prints.{printed_in, written_in, written_by, brought_by, ReadsOn, Honest, ProgramPrints}
use Rattle.sheet.proofs.Standing.{is_over_lem}
use Rattle.sheet.proofs.Paging.{held_long, still_held}

abbrev session_in : Memory → Session
session_in m = session m.run.state m.nodes m.versions m.tally

-- a memory stands where a run over the sheet's own bytes does, with so many more of those unread
record Stands (m : Memory) (s : Rounds.Run) (count : ℕ) : Type 0 where
  held : held_in m.run m.bytes ≡ s.held ++ take count s.unread
  ended : m.run.ended ≡ true → drop count s.unread ≡ []
  session : session_in m ≡ s.session
  inside : InBuffer m.run (length m.bytes)
  on : is_over s.needs ≡ false → is_over m.run.needs ≡ false

record Follows (m : Memory) (s : Rounds.Run) : Type 0 where
  stands : Stands m s 0
  needs : m.run.needs ≡ s.needs

-- ---- a read

module _ (m : Memory) (s : Rounds.Run) (f : Stands m s 0) where
  abbrev bytes : List ℕ
  bytes = held_in m.run m.bytes

  abbrev size : ℕ
  size = m.run.end - m.run.from

  long : length bytes ≡ size
  long = held_long m.run m.bytes f.inside

  read_on : (i : Input) (behind : List ℕ) → ReadsOn i behind s.unread
      → Stands (supplied_by Needs.Bytes m i behind) s (brought_by Needs.Bytes i)
  read_on (Ok (Some n)) behind h = record {
    held =
        (let e : size + n - 0 ≡ length bytes + n = omega (arith, long) in
        ap (λ (k : ℕ). take k (bytes ++ behind)) e
        ∙ take-append-add bytes behind n
        ∙ ap (λ (l : List ℕ). bytes ++ l) h.1
        ∙ ap (λ (l : List ℕ). l ++ take n s.unread) (f.held ∙ append-nil s.held));
    ended = λ e. absurd (true≢false (sym e));
    session = f.session;
    inside = record { from = omega arith; end = omega (arith, long, h.0, length-append bytes behind) };
    on = λ o. refl;
  }
  read_on (Ok None) behind h = record {
    held = take_at bytes behind (size - 0) (omega (arith, long)) ∙ f.held;
    ended = λ e. h;
    session = f.session;
    inside = record { from = omega arith; end = omega (arith, long, length-append bytes behind) };
    on = λ o. refl;
  }
  read_on (Err e) behind h = absurd h

  supplied : (n : Needs) (i : Input) (behind : List ℕ) → (n ≡ Needs.Bytes → ReadsOn i behind s.unread)
      → Stands (supplied_by n m i behind) s (brought_by n i)
  supplied Needs.Bytes i behind h = read_on i behind (h refl)
  supplied Needs.Nothing i behind h = f
  supplied Needs.Page i behind h = f
  supplied Needs.Over i behind h = f

-- ---- a page

module _ (m : Memory) (s : Rounds.Run) (count : ℕ) (f : Stands m s count) where
  -- the sheet's round
  abbrev round : Round
  round = record { bytes = count; looks = m.run.ended; page = m.out }

  abbrev page : Playing
  page = page_of m.run m.bytes m.nodes m.versions m.tally m.out

  abbrev begun : Session → Playing
  begun w = on_page w m.out

  same_end : m.run.ended ≡ ended_at s round
  same_end = by m.run.ended f.ended
    where
      by : (b : Bool) → (b ≡ true → unread_at s round ≡ []) → b ≡ b && eqb (length (unread_at s round)) 0
      by true h = ap (λ (l : List ℕ). eqb (length l) 0) (sym (h refl))
      by false h = refl

  same_page : page ≡ played_at s round
  unfolding played_at
  same_page =
      ap (λ (l : List ℕ). play_of l m.run.ended (begun (session_in m))) f.held
      ∙ ap (λ (b : Bool). play_of (held_at s round) b (begun (session_in m))) same_end
      ∙ ap (λ (w : Session). play_of (held_at s round) (ended_at s round) (begun w)) f.session

  within : m.run.from + page.read ≤ m.run.end
  within =
      let a = all_advances (held_in m.run m.bytes) m.run.ended (begun (session_in m)) in
      omega (arith, a.within (omega arith), held_long m.run m.bytes f.inside, f.inside.from)

  page_follows : Follows (played_of m true) (after s round page)
  unfolding played_of
  page_follows = record {
    stands = record {
      held =
          still_held m.run m.bytes f.inside page within
          ∙ ap (drop page.read) f.held
          ∙ sym (append-nil (drop page.read (held_at s round)));
      ended = f.ended;
      session = refl;
      inside = record { from = within; end = f.inside.end };
      on = λ o. o;
    };
    needs = refl;
  }

-- ---- rounds

-- rounds of the sheet that print what the program writes
record Simulated (m : Memory) (s : Rounds.Run) (answers : List Answers) : Type 0 where
  rounds : List Round
  holds : Holds s rounds
  needs : (rounds_from m answers).run.needs ≡ (run_from s rounds).needs
  printed : (run_from s rounds).printed ≡ s.printed ++ written_by m answers

abbrev Continues : Memory → List Answers → Type 0
Continues m answers =
    (s : Rounds.Run) → Follows m s → Honest m s.unread answers → PagesHold m answers → Simulated m s answers

module _ (m : Memory) (a : Answers) (answers : List Answers) (s : Rounds.Run) (f : Follows m s)
    (h : Honest m s.unread (a ∷ answers)) (k : PagesHold m (a ∷ answers)) (rest : Continues (round_of m a) answers) where
  -- a run that is over stays where it is
  module _ (o : m.run.needs ≡ Needs.Over) where
    stays : (round_of m a ≡ m) × (written_in m a ≡ [])
    unfolding round_of supplied_of written_in
    stays = (simp o, simp o)

    when_over : Simulated m s (a ∷ answers)
    unfolding rounds_from written_by
    when_over =
        let unread : drop (brought_by m.run.needs a.input) s.unread ≡ s.unread = simp o in
        let honest = subst (λ (l : List ℕ). Honest (round_of m a) l answers) unread h.2 in
        let r = rest s (subst (λ (x : Memory). Follows x s) (sym stays.0) f) honest k.1 in
        record {
          rounds = r.rounds;
          holds = r.holds;
          needs = r.needs;
          printed = r.printed ∙ ap (λ (l : List ℕ). s.printed ++ (l ++ written_by (round_of m a) answers)) (sym stays.1);
        }

  -- one that is not plays the same page
  module _ (o : is_over m.run.needs ≡ false) where
    abbrev given : Memory
    given = supplied_at m a

    runs : is_over s.needs ≡ false
    runs = ap is_over (sym f.needs) ∙ o

    stands : Stands given s (brought_by m.run.needs a.input)
    unfolding supplied_of
    stands = supplied m s f.stands m.run.needs a.input a.behind h.0

    plays : (round_of m a ≡ played_of given true) × (written_in m a ≡ printed_in (played_of given true))
    unfolding round_of written_in
    plays = (simp (stands.on runs) (ap (λ (w : Bool). played_of given w) (h.1 o)), simp (stands.on runs))

    abbrev t : Round
    t = round given s _ stands

    abbrev next : Rounds.Run
    next = after s t (page given s _ stands)

    same_next : next ≡ Rounds.round_of s t
    unfolding Rounds.round_of
    same_next = simp runs (ap (λ (p : Playing). after s t p) (same_page given s _ stands))

    when_on : Simulated m s (a ∷ answers)
    unfolding rounds_from written_by run_from played_of
    when_on =
        let r = rest next (subst (λ (x : Memory). Follows x next) (sym plays.0) (page_follows given s _ stands)) h.2 k.1 in
        record {
          rounds = t ∷ r.rounds;
          holds = (
            subst (λ (p : Playing). p.page.next ≤ length given.out) (same_page given s _ stands) (k.0 (stands.on runs)),
            subst (λ (x : Rounds.Run). Holds x r.rounds) same_next r.holds,
          );
          needs = r.needs ∙ ap (λ (x : Rounds.Run). (run_from x r.rounds).needs) same_next;
          printed =
              ap (λ (x : Rounds.Run). (run_from x r.rounds).printed) (sym same_next)
              ∙ r.printed
              ∙ append_assoc s.printed (printed_in (played_of given true)) (written_by (round_of m a) answers)
              ∙ ap (λ (l : List ℕ). s.printed ++ (l ++ written_by (round_of m a) answers)) (sym plays.1);
        }

  one_more : (b : Bool) → is_over m.run.needs ≡ b → Simulated m s (a ∷ answers)
  one_more true o = when_over (is_over_lem m.run.needs o)
  one_more false o = when_on o

simulated : (answers : List Answers) (m : Memory) → Continues m answers
unfolding rounds_from written_by run_from
simulated [] m s f h k = record { rounds = []; holds = tt; needs = f.needs; printed = sym (append-nil s.printed) }
simulated (a ∷ answers) m s f h k =
    one_more m a answers s f h k (simulated answers (round_of m a)) (is_over m.run.needs) refl

-- ---- the theorem

module _ (sheet bytes nodes versions tally out : List ℕ) (answers : List Answers)
    (e : session first_session.state nodes versions tally ≡ first_session)
    (h : Honest (first_memory bytes nodes versions tally out) sheet answers)
    (k : PagesHold (first_memory bytes nodes versions tally out) answers) where
  abbrev m : Memory
  m = first_memory bytes nodes versions tally out

  run : Simulated m (unplayed sheet) answers
  run = simulated answers m (unplayed sheet) (record {
    stands = record {
      held = refl;
      ended = λ z. absurd (true≢false (sym z));
      session = e;
      inside = record { from = omega arith; end = omega arith };
      on = λ o. refl;
    };
    needs = refl;
  }) h k

  beginning : take (length (written_by m answers)) (text (sheet_of sheet)) ≡ written_by m answers
  beginning =
      let written = written_by m answers in
      let rest = due (run_from (unplayed sheet) run.rounds) in
      let whole = ap (λ (l : List ℕ). l ++ rest) (sym run.printed) ∙ in_rounds.always sheet run.rounds run.holds in
      ap (take (length written)) (sym whole) ∙ take-append_seam written rest

  all_written : is_over (rounds_from m answers).run.needs ≡ true → written_by m answers ≡ text (sheet_of sheet)
  all_written o = sym run.printed ∙ in_rounds.over sheet run.rounds run.holds (ap is_over (sym run.needs) ∙ o)

pub program_prints : ProgramPrints
program_prints = record { always = beginning; over = all_written }
