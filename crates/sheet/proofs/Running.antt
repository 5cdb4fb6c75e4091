-- Round by round: what the functions leave is what the definitions say, by what the system answered.
use Prim.Native.Nat.{ℕ, ◌+◌, ◌-◌, ◌≤◌}
use mathlib.Core.Bool.{Bool, true, false, true≢false}
use mathlib.Core.List.{List, [], ◌∷◌, ◌++◌}
use mathlib.Core.Path.{◌≡◌, refl, sym, ap, subst, ◌∙◌}
use native.Mathlib.Omega.{arith}
use lib.ListN.{length, length-append}
use Rattle.interpreter.specs.declared.types.Needs.{Needs}
use Rattle.interpreter.specs.Rounds.{is_over}
use Rattle.std.specs.Prelude.{None, Ok}
use Rattle.sheet.specs.Runs.{Input}
use Rattle.sheet.specs.declared.types.Run.{Run}
use Rattle.sheet.specs.Runs.{Ready, first_run, took_of, settled, Memory, memory, Answers}
use Rattle.sheet.specs.Runs.{supplied_by, supplied_of, played_of, round_of, rounds_from}
use Rattle.sheet.specs.Runs.{PageHolds, PagesHold, Refilled, Supplies, Plays, most_rounds, Runs}
use Rattle.sheet.proofs.Standing.{nothing_needed, page_needed, over_needs, over, is_over_lem}

-- ---- a write

-- a run is ready after a page that was written, and after one that was not
pub settled_ready : (written : Bool) (q r : Run) (size : ℕ) → q ≡ settled written r → Ready r size → Ready q size
settled_ready true q r size e h = rw e h
settled_ready false q r size e h = rw e (over _ size (record { from = h.inside.from; end = h.inside.end }) refl).0

pub settled_plays : (m : Memory) (written : Bool) (q q' : Run) (bytes nodes versions tally out : List ℕ)
    → memory q bytes nodes versions tally out ≡ played_of m true → q' ≡ settled written q → q.next ≤ length m.out
    → Plays m (memory q' bytes nodes versions tally out)
unfolding played_of
settled_plays m written q q' bytes nodes versions tally out e f h = record {
  holds = omega (arith, ap (λ (x : Memory). x.run.next) e, h);
  written = written;
  same =
      ap (λ (r : Run). memory r bytes nodes versions tally out) f
      ∙ ap (λ (x : Memory). memory (settled written x.run) x.bytes x.nodes x.versions x.tally x.out) e;
}

-- ---- a read

pub supplies_bytes : (r q : Run) (bytes bytes' : List ℕ) → r.needs ≡ Needs.Bytes → Refilled r q bytes bytes'
    → Supplies r q bytes bytes'
unfolding supplied_of
supplies_bytes r q bytes bytes' e f = record {
  input = f.input;
  behind = f.behind;
  same = λ nodes versions tally out.
      (ap (λ (x : Run). memory x bytes' nodes versions tally out) f.taken
      ∙ ap (λ (l : List ℕ). memory (took_of r.state (r.end - r.from) f.input) l nodes versions tally out) f.buffer
      ∙ ap (λ (n : Needs). supplied_by n (memory r bytes nodes versions tally out) f.input f.behind) (sym e));
}

-- nothing is read
supplied_none : (n : Needs) (m : Memory) → (n ≡ Needs.Bytes → ⊥) → supplied_by n m (Ok None) [] ≡ m
supplied_none Needs.Bytes m h = absurd (h refl)
supplied_none Needs.Nothing m h = refl
supplied_none Needs.Page m h = refl
supplied_none Needs.Over m h = refl

pub supplies_none : (r : Run) (bytes : List ℕ) → (r.needs ≡ Needs.Bytes → ⊥) → Supplies r r bytes bytes
unfolding supplied_of
supplies_none r bytes h = record {
  input = Ok None;
  behind = [];
  same = λ nodes versions tally out. sym (supplied_none r.needs (memory r bytes nodes versions tally out) h);
}

module _ (r : Run) (bytes : List ℕ) where
  pub supplies_nothing : r.needs ≡ Needs.Nothing → Supplies r r bytes bytes
  supplies_nothing e = supplies_none r bytes (nothing_needed r e)

  pub supplies_page : r.needs ≡ Needs.Page → Supplies r r bytes bytes
  supplies_page e = supplies_none r bytes (page_needed r e)

  pub supplies_over : r.needs ≡ Needs.Over → Supplies r r bytes bytes
  supplies_over e = supplies_none r bytes (over_needs r e)

-- ---- rounds

-- so many rounds
pub record Ran (m m' : Memory) (made : ℕ) : Type 0 where
  pub answers : List Answers
  pub same : m' ≡ rounds_from m answers
  pub holds : PagesHold m answers
  pub count : length answers ≡ made

snoc : (m : Memory) (answers : List Answers) (a : Answers) → rounds_from m (answers ++ (a ∷ [])) ≡ round_of (rounds_from m answers) a
unfolding rounds_from
snoc m [] a = refl
snoc m (b ∷ answers) a = snoc (round_of m b) answers a

holds_snoc : (m : Memory) (answers : List Answers) (a : Answers) → PagesHold m answers → PageHolds (rounds_from m answers) a
    → PagesHold m (answers ++ (a ∷ []))
unfolding rounds_from
holds_snoc m [] a h l = (l, tt)
holds_snoc m (b ∷ answers) a h l = (h.0, holds_snoc (round_of m b) answers a h.1 l)

pub none_made : (r : Run) (bytes nodes versions tally out : List ℕ) → r ≡ first_run
    → Ran (memory first_run bytes nodes versions tally out) (memory r bytes nodes versions tally out) 0
unfolding rounds_from
none_made r bytes nodes versions tally out e =
    record { answers = []; same = ap (λ (x : Run). memory x bytes nodes versions tally out) e; holds = tt; count = refl }

module _ (m₀ m : Memory) (made : ℕ) (ran : Ran m₀ m made) where
  added : (m' : Memory) (a : Answers) → m' ≡ round_of m a → m' ≡ rounds_from m₀ (ran.answers ++ (a ∷ []))
  added m' a e = e ∙ ap (λ (x : Memory). round_of x a) ran.same ∙ sym (snoc m₀ ran.answers a)

  held : (a : Answers) → PageHolds m a → PagesHold m₀ (ran.answers ++ (a ∷ []))
  held a h = holds_snoc m₀ ran.answers a ran.holds (subst (λ (x : Memory). PageHolds x a) ran.same h)

  module _ (m' : Memory) (input : Input) (behind : List ℕ) (s : m' ≡ supplied_of m input behind) where
    abbrev answers : Bool → Answers
    answers w = record { input = input; behind = behind; written = w }

    longer : (w : Bool) → length (ran.answers ++ (answers w ∷ [])) ≡ length ran.answers + 1
    longer w = length-append ran.answers (answers w ∷ [])

    needs_so : (b : Bool) → is_over m'.run.needs ≡ b → is_over (supplied_of m input behind).run.needs ≡ b
    needs_so b o = ap (λ (x : Memory). is_over x.run.needs) (sym s) ∙ o

    pub next_round : (m'' : Memory) → is_over m'.run.needs ≡ false → Plays m' m'' → Ran m₀ m'' (made + 1)
    unfolding round_of
    next_round m'' on p =
        let w = p.written in
        let e : m'' ≡ round_of m (answers w) = simp (needs_so false on) (p.same ∙ ap (λ (x : Memory). played_of x w) s) in
        record {
          answers = ran.answers ++ (answers w ∷ []);
          same = added m'' (answers w) e;
          holds = held (answers w) (λ o. subst (λ (x : Memory). (played_of x true).run.next ≤ length x.out) s p.holds);
          count = omega (arith, longer w, ran.count);
        }

    pub last_round : is_over m'.run.needs ≡ true → Runs m₀ m'
    unfolding round_of
    last_round o = record {
      answers = ran.answers ++ (answers true ∷ []);
      same = added m' (answers true) (simp (needs_so true o) s);
      holds = held (answers true) (λ off. absurd (true≢false (sym (needs_so true o) ∙ off)));
      over = λ n. absurd (n (is_over_lem m'.run.needs o));
    }

-- a run that made as many rounds as any does
pub all_made : (m₀ m : Memory) (made : ℕ) → made ≡ most_rounds → Ran m₀ m made → Runs m₀ m
all_made m₀ m made all ran = record {
  answers = ran.answers;
  same = ran.same;
  holds = ran.holds;
  over = λ n. ran.count ∙ all;
}
