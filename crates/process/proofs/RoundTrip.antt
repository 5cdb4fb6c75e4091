-- Words that are a process are the words of the process that they are decoded to, and a process is decoded from its words.
use Prim.Native.Nat.{ℕ, zero, suc, ◌≤◌, ◌<◌}
use mathlib.Core.Bool.{Bool, true, false, ◌&&◌, and-eq-true_iff}
use mathlib.Core.List.{List, ◌++◌}
use mathlib.Core.Path.{◌≡◌, refl, sym, ap, ◌∙◌}
use native.Mathlib.Omega.{arith}
use lib.Dec.{eqb, ltb}
use lib.ListN.{length, get_or, drop, length-drop}
use lib.Seq.{take_all, sets}
use borrow.Author.Rules.{rules}
use borrow.Author.Tests.{ltb-true, eqb-true, eqb-false, lt-ltb}
use Rattle.model.specs.declared.types.Process.{Process}
use Rattle.model.specs.Layout.{word_size, levels, low_half}
use Rattle.model.proofs.Laws.{answer_at, answer_below}
use Rattle.model.proofs.Words.{low_joined, high_joined, joined_halves}
use Rattle.process.specs.ProcessWords.{sizes, process_offsets, process_words, process_from, known_process, call_words, cursor_words, effect_words}
use Rattle.model.specs.declared.types.Kind.{Kind}
use Rattle.model.specs.declared.types.Phase.{Phase}
use Rattle.model.specs.Numbers.{answer_number, answers, answer_of, kind_number, kinds, kind_from, phase_number, phases, phase_from}
use Rattle.process.proofs.Heads.{heads, heads_are, spelt}

-- ---- numbers

-- a test that holds of every number below k, computed once
abbrev all_below : (k : ℕ) → (ℕ → Bool) → Bool
all_below zero f = true
all_below (suc k) f = f k && all_below k f

pub below : (k : ℕ) (f : ℕ → Bool) → all_below k f ≡ true → (n : ℕ) → n < k → f n ≡ true
below zero f t n h = let z : ◌≡◌ {A = ℕ} 0 1 = omega (arith, h) in cc
below (suc k) f t n h = cases (below k f ((and-eq-true_iff (f k) (all_below k f)).0 t).1 n) (eqb n k) refl
  where
    cases : (n < k → f n ≡ true) → (b : Bool) → eqb n k ≡ b → f n ≡ true
    cases smaller true e = ap f (eqb-true n k e) ∙ ((and-eq-true_iff (f k) (all_below k f)).0 t).0
    cases smaller false e = smaller (omega (arith, h, eqb-false n k e))

kind_back : (n : ℕ) → n < length kinds → kind_number (kind_from n) ≡ n
kind_back n h = eqb-true _ _ (below (length kinds) (λ n. eqb (kind_number (kind_from n)) n) refl n h)

phase_back : (n : ℕ) → n < length phases → phase_number (phase_from n) ≡ n
phase_back n h = eqb-true _ _ (below (length phases) (λ n. eqb (phase_number (phase_from n)) n) refl n h)

answer_back : (n : ℕ) → n < length answers → answer_number (answer_of n) ≡ n
unfolding answer_number
answer_back n h = eqb-true _ _ (below (length answers) (λ n. eqb (answer_number (answer_of n)) n) refl n h)

pub kind_from_lem : (k : Kind) → (kind_from (kind_number k) ≡ k) × (ltb (kind_number k) (length kinds) ≡ true)
kind_from_lem = search rules

phase_from_lem : (p : Phase) → (phase_from (phase_number p) ≡ p) × (ltb (phase_number p) (length phases) ≡ true)
phase_from_lem = search rules

-- ---- from words and back

known_facts : (w : List ℕ) → known_process w ≡ true
    → (get_or w process_offsets.keylow 0 < word_size) × (get_or w process_offsets.lastlow 0 < word_size)
    × (get_or w process_offsets.kind 0 < length kinds) × (get_or w process_offsets.phase 0 < length phases)
    × (get_or w process_offsets.answer 0 < length answers)
known_facts w k =
    let key = ltb (get_or w process_offsets.keylow 0) word_size in
    let last = ltb (get_or w process_offsets.lastlow 0) word_size in
    let kind = ltb (get_or w process_offsets.kind 0) (length kinds) in
    let phase = ltb (get_or w process_offsets.phase 0) (length phases) in
    let a = (and-eq-true_iff (key && last && kind && phase) (ltb (get_or w process_offsets.answer 0) (length answers))).0 k in
    let b = (and-eq-true_iff (key && last && kind) phase).0 a.0 in
    let c = (and-eq-true_iff (key && last) kind).0 b.0 in
    let d = (and-eq-true_iff key last).0 c.0 in
    (ltb-true _ _ d.0, ltb-true _ _ d.1, ltb-true _ _ c.1, ltb-true _ _ b.1, ltb-true _ _ a.1)

pub process_back : (w : List ℕ) → length w ≡ sizes.process → known_process w ≡ true → process_words (process_from w) ≡ w
process_back w h k =
    let f = known_facts w k in
    let rest : length (drop process_offsets.preds w) ≤ levels = rw length-drop (omega (arith, h)) in
    simp (
      low_joined (get_or w process_offsets.keylow 0) (get_or w process_offsets.keyhigh 0) f.0,
      high_joined (get_or w process_offsets.keylow 0) (get_or w process_offsets.keyhigh 0) f.0,
      low_joined (get_or w process_offsets.lastlow 0) (get_or w process_offsets.lasthigh 0) f.1,
      high_joined (get_or w process_offsets.lastlow 0) (get_or w process_offsets.lasthigh 0) f.1,
      kind_back (get_or w process_offsets.kind 0) f.2,
      phase_back (get_or w process_offsets.phase 0) f.3,
      answer_back (get_or w process_offsets.answer 0) f.4,
      take_all levels (drop process_offsets.preds w) rest,
    )
    (sym (heads_are process_offsets.preds 0 w (omega (arith, h))))

-- ---- to words and back: a process remembers a node at each level

pub process_long : (p : Process) → length p.preds ≡ levels → length (process_words p) ≡ sizes.process
process_long p h = simp h

pub process_short : (p : Process) → length (process_words p) ≡ sizes.process → length p.preds ≡ levels
process_short p h = omega (arith, h)

-- its words with the remembered nodes by name
by_name : (p : Process) → length p.preds ≡ levels → process_words (record {
  call = p.call;
  cursor = p.cursor;
  effect = p.effect;
  preds = heads levels 0 p.preds;
}) ≡ process_words p
by_name p h = ap (λ preds. process_words (record { call = p.call; cursor = p.cursor; effect = p.effect; preds = preds })) (spelt levels p.preds h)

pub process_from_lem : (p : Process) → length p.preds ≡ levels → process_from (process_words p) ≡ p
process_from_lem p h =
    ap process_from (sym (by_name p h))
    ∙ simp (joined_halves p.call.key, joined_halves p.call.last, (kind_from_lem p.call.kind).0, (phase_from_lem p.cursor.phase).0, answer_at p.effect.answer, spelt levels p.preds h)

pub process_known : (p : Process) → known_process (process_words p) ≡ true
process_known p = simp (
  lt-ltb (low_half p.call.key) word_size (omega arith),
  lt-ltb (low_half p.call.last) word_size (omega arith),
  (kind_from_lem p.call.kind).1,
  (phase_from_lem p.cursor.phase).1,
  lt-ltb _ _ (answer_below p.effect.answer),
)

-- ---- all parts written

-- a call, a cursor, an effect and the remembered nodes, each written over its own words
abbrev written_over : (w : List ℕ) → Process → (preds : List ℕ) → List ℕ
written_over w p preds =
    let called = sets w process_offsets.kind (call_words p.call) in
    let moved = sets called process_offsets.phase (cursor_words p.cursor) in
    sets (sets moved process_offsets.answer (effect_words p.effect)) process_offsets.preds preds

-- written one after another they leave the words of the process, whatever stood there
pub over_written : (w : List ℕ) (p : Process) → length w ≡ sizes.process → length p.preds ≡ levels → written_over w p
    p.preds ≡ process_words p
over_written w p h k =
    ap (λ w. written_over w p p.preds) (sym (spelt sizes.process w h))
    ∙ ap (written_over (heads sizes.process 0 w) p) (sym (spelt levels p.preds k))
    ∙ ap (λ preds. call_words p.call ++ cursor_words p.cursor ++ effect_words p.effect ++ preds) (spelt levels p.preds k)
