-- A sheet in rounds: each round keeps what is printed and due together, and at the end of the sheet it comes nearer to it.
use Prim.Native.Nat.{ℕ, suc, ◌≤◌, ◌<◌}
use mathlib.Core.Bool.{Bool, true, false, ◌&&◌, and-eq-true_iff}
use mathlib.Core.List.{List, [], ◌∷◌, ◌++◌, append_assoc, append-nil}
use mathlib.Core.Path.{◌≡◌, refl, sym, ap, ◌∙◌}
use native.Mathlib.Omega.{arith}
use lib.Dec.{eqb}
use lib.ListN.{length, take, drop, length-drop, take-append-drop}
use lib.Seq.{take-nil, drop-nil}
use borrow.Author.Tests.{eqb-true}
use Rattle.std.specs.Prelude.{if◌then◌else◌}
use Rattle.model.specs.Linearizability.{All}
use Rattle.printer.specs.Lines.{text}
use Rattle.interpreter.specs.Sheet.{script_of, lines_from, sheet_of}
use Rattle.interpreter.specs.Playing.{Playing, on_page, play_of}
use Rattle.interpreter.specs.Rounds.{Round, Run, is_over, held_at, unread_at, ended_at, played_at, printed_on, after, round_of}
use Rattle.interpreter.specs.Rounds.{run_from, unplayed, Holds, due, Ready, InRounds}
use Rattle.interpreter.proofs.Printed.{Keeps, keeps}
use Rattle.interpreter.proofs.Progress.{all_advances, few, moves}

none_long : (l : List ℕ) → length l ≡ 0 → l ≡ []
none_long [] e = refl
none_long (x ∷ l) e = absurd (omega (arith, e))

-- ---- what is printed and due

abbrev whole : Run → List ℕ
whole r = r.printed ++ due r

-- where a round begins
abbrev begun : Run → Round → Playing
begun r t = on_page r.session t.page

module _ (r : Run) (t : Round) where
  abbrev q : Playing
  q = played_at r t

  seen : ended_at r t ≡ true → unread_at r t ≡ []
  seen e = none_long (unread_at r t) (eqb-true _ 0 ((and-eq-true_iff t.looks (eqb (length (unread_at r t)) 0)).0 e).1)

  -- all bytes that are not played
  same_bytes : held_at r t ++ unread_at r t ≡ r.held ++ r.unread
  same_bytes =
      append_assoc r.held (take t.bytes r.unread) (unread_at r t)
      ∙ ap (λ (l : List ℕ). r.held ++ l) (take-append-drop t.bytes r.unread)

  round_keeps : Keeps (held_at r t) (unread_at r t) (begun r t) q
  unfolding played_at play_of
  round_keeps = keeps (held_at r t) (unread_at r t) (ended_at r t) seen (suc (length (held_at r t))) (begun r t) refl

  round_printed : q.page.next ≤ length t.page
      → printed_on q.page ++ due (after r t q) ≡ text (lines_from r.session (script_of (r.held ++ r.unread)))
  round_printed h =
      round_keeps.same h
      ∙ ap (λ (l : List ℕ). text (lines_from r.session (script_of l))) same_bytes

  round_whole : q.page.next ≤ length t.page → whole (round_of r t) ≡ whole r
  unfolding round_of
  round_whole h = by (is_over r.needs) refl
    where
      by : (b : Bool) → is_over r.needs ≡ b → whole (round_of r t) ≡ whole r
      by true e = simp e
      by false e = simp e
          (append_assoc r.printed (printed_on q.page) (due (after r t q))
          ∙ ap (λ (l : List ℕ). r.printed ++ l) (round_printed h))

rounds_whole : (r : Run) (rounds : List Round) → Holds r rounds → whole (run_from r rounds) ≡ whole r
unfolding run_from
rounds_whole r [] h = refl
rounds_whole r (t ∷ rounds) h = rounds_whole (round_of r t) rounds h.1 ∙ round_whole r t h.0

-- ---- the end

over_stays : (r : Run) (rounds : List Round) → is_over r.needs ≡ true → is_over (run_from r rounds).needs ≡ true
unfolding run_from round_of
over_stays r [] e = e
over_stays r (t ∷ rounds) e = over_stays (round_of r t) rounds (simp e)

module _ (r : Run) (t : Round) (all : r.unread ≡ []) (ready : Ready t) where
  still_all : unread_at r t ≡ []
  still_all = ap (drop t.bytes) all ∙ drop-nil t.bytes

  same_held : held_at r t ≡ r.held
  same_held =
      ap (λ (l : List ℕ). r.held ++ take t.bytes l) all
      ∙ ap (λ (l : List ℕ). r.held ++ l) (take-nil t.bytes)
      ∙ append-nil r.held

  at_end : ended_at r t ≡ true
  at_end = ap (λ (b : Bool). b && eqb (length (unread_at r t)) 0) ready.0 ∙ ap (λ (l : List ℕ). eqb (length l) 0) still_all

  -- fewer bytes are held, if the run is not over
  nearer : is_over (played_at r t).needs ≡ false → length (drop (played_at r t).read (held_at r t)) < length r.held
  unfolding played_at
  nearer on =
      let bytes = held_at r t in
      let a = all_advances bytes (ended_at r t) (begun r t) in
      let m = moves bytes (ended_at r t) (begun r t) at_end (omega (arith, ready.1, (round_keeps r t).long)) on in
      omega (arith, m, a.within (omega arith), length-drop (played_at r t).read bytes, ap (λ (l : List ℕ). length l) same_held)

comes_to_end : (r : Run) → r.unread ≡ [] → (rounds : List Round) → All Ready rounds → length r.held < length rounds
    → is_over (run_from r rounds).needs ≡ true
unfolding run_from round_of
comes_to_end r all [] ready h = absurd (omega (arith, h))
comes_to_end r all (t ∷ rounds) ready h = by (is_over r.needs) refl (is_over (played_at r t).needs) refl
    (λ fewer. comes_to_end (after r t (played_at r t)) (still_all r t all ready.0) rounds ready.1 (omega (arith, fewer, h)))
  where
    next : Run
    next = after r t (played_at r t)

    by : (b : Bool) → is_over r.needs ≡ b → (c : Bool) → is_over (played_at r t).needs ≡ c
        → (length next.held < length r.held → is_over (run_from next rounds).needs ≡ true)
        → is_over (run_from (round_of r t) rounds).needs ≡ true
    by true e c f rest = over_stays (round_of r t) rounds (simp e)
    by false e true f rest = over_stays (round_of r t) rounds (simp e f)
    by false e false f rest = simp e (rest (nearer r t all ready.0 f))

-- ---- the theorem

pub in_rounds : InRounds
unfolding sheet_of
in_rounds = record {
  always = λ sheet rounds h. rounds_whole (unplayed sheet) rounds h;
  over = λ sheet rounds h e.
      (let r = run_from (unplayed sheet) rounds in
      sym (append-nil r.printed)
      ∙ ap (λ (b : Bool). r.printed ++ (if b then [] else text (lines_from r.session (script_of (r.held ++ r.unread))))) (sym e)
      ∙ rounds_whole (unplayed sheet) rounds h);
  ends = comes_to_end;
  few = few;
}
