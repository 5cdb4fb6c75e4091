-- All processes read and written one after another.
use Prim.Native.Nat.{ℕ, zero, suc, ◌+◌, ◌*◌, ◌-◌, ◌≤◌, ◌<◌}
use mathlib.Core.List.{List, [], ◌∷◌, ◌++◌, append_assoc, append-nil}
use mathlib.Core.Path.{◌≡◌, refl, sym, ap, subst, ◌∙◌}
use native.Mathlib.Omega.{arith}
use lib.ListN.{length, get_or, set, take, drop, length-append, length-drop}
use lib.Seq.{sets, sets-eq, length-take-le, take_all, take_at, take-suc-set, drop-drop}
use borrow.Rule.Slice.PartMut.{put_mid}
use Rattle.model.specs.declared.types.Process.{Process}
use Rattle.model.specs.declared.types.State.{State}
use Rattle.model.specs.Layout.{limits}
use Rattle.process.specs.ProcessWords.{sizes, process_words, process_from}
use Rattle.layout.specs.Head.{head_offsets}
use Rattle.layout.specs.StateWords.{head_words, all_words, all_from, start_of}

-- ---- reading

from_last : (i : ℕ) (w : List ℕ)
    → all_from (suc i) w ≡ all_from i w ++ (process_from (take sizes.process (drop (sizes.process * i) w)) ∷ [])
unfolding all_from
from_last zero w = refl
from_last (suc i) w =
    let e : sizes.process + sizes.process * i ≡ sizes.process * suc i = omega arith in
    ap (λ r. process_from (take sizes.process w) ∷ r) (from_last i (drop sizes.process w))
    ∙ ap (λ r. process_from (take sizes.process w) ∷ all_from i (drop sizes.process w) ++ (process_from (take sizes.process r) ∷ []))
    (drop-drop (sizes.process * i) sizes.process w ∙ ap (λ k. drop k w) e)

pub read_next : (ps : List Process) (i : ℕ) (w : List ℕ) (p : Process) → i < length ps
    → take i ps ≡ all_from i (drop sizes.head w) → p ≡ process_from (take sizes.process (drop (start_of i) w))
    → take (i + 1) (set ps i p) ≡ all_from (i + 1) (drop sizes.head w)
read_next ps i w p h k e =
    let next : suc i ≡ i + 1 = omega arith in
    subst (λ n. take n (set ps i p) ≡ all_from n (drop sizes.head w)) next
    (take-suc-set ps i p h ∙ ap (λ r. r ++ (p ∷ [])) k
    ∙ ap (λ q. all_from i (drop sizes.head w) ++ (q ∷ [])) (e ∙ ap (λ r. process_from (take sizes.process r)) (sym (drop-drop (sizes.process * i) sizes.head w)))
    ∙ sym (from_last i (drop sizes.head w)))

-- ---- writing

words_last : (ps : List Process) (i : ℕ) (d : Process) → i < length ps
    → all_words (take (suc i) ps) ≡ all_words (take i ps) ++ process_words (get_or ps i d)
unfolding all_words
words_last [] i d h = let z : ◌≡◌ {A = ℕ} 0 1 = omega (arith, h) in cc
words_last (p ∷ ps) zero d h = append-nil (process_words p)
words_last (p ∷ ps) (suc i) d h =
    ap (λ r. process_words p ++ r) (words_last ps i d (omega (arith, h)))
    ∙ sym (append_assoc (process_words p) (all_words (take i ps)) (process_words (get_or ps i d)))

-- what a part that was lent leaves where it stood
pub put_part : (w part : List ℕ) (at : ℕ)
    → put_mid at (at + sizes.process - at) w part ≡ take at w ++ (part ++ drop (at + sizes.process) w)
put_part w part at =
    let e : at + sizes.process - at ≡ sizes.process = omega arith in
    ap (λ k. put_mid at k w part) e ∙ ap (λ r. take at w ++ (part ++ r)) (drop-drop sizes.process at w)

-- the head, then the processes
module _ (front : List ℕ) (ps : List Process) (eight : length ps ≡ limits.processes) where
  pub write_next : (w part : List ℕ) (at i : ℕ) (d : Process) → i < limits.processes → at ≡ start_of i → length w ≡ sizes.state
      → length part ≡ sizes.process → part ≡ process_words (get_or ps i d)
      → take (start_of i) w ≡ front ++ all_words (take i ps)
      → (length (put_mid at (at + sizes.process - at) w part) ≡ sizes.state)
      × (take (start_of (i + 1)) (put_mid at (at + sizes.process - at) w part) ≡ front ++ all_words (take (i + 1) ps))
  write_next w part at i d h start long b e k =
      let next : suc i ≡ i + 1 = omega arith in
      let p = get_or ps i d in
      let back =
      ap (λ at. put_mid at (at + sizes.process - at) w part) start ∙ put_part w part (start_of i)
      ∙ sym (append_assoc (take (start_of i) w) part (drop (start_of i + sizes.process) w)) in
      let a : length (take (start_of i) w) ≡ start_of i = length-take-le (start_of i) w (omega (arith, h, long)) in
      let n : length (take (start_of i) w ++ part) ≡ start_of (i + 1) = length-append (take (start_of i) w) part ∙ omega (arith, a, b) in
      let rest : length (drop (start_of i + sizes.process) w) ≡ sizes.state - (start_of i + sizes.process) = rw (length-drop, long) in (
        ap length back ∙ length-append (take (start_of i) w ++ part) (drop (start_of i + sizes.process) w) ∙ omega (arith, n, rest, h),
        ap (take (start_of (i + 1))) back ∙ take_at (take (start_of i) w ++ part) (drop (start_of i + sizes.process) w) (start_of (i + 1)) n
            ∙ ap (λ r. r ++ part) k ∙ ap (λ r. front ++ all_words (take i ps) ++ r) e
            ∙ append_assoc front (all_words (take i ps)) (process_words p)
            ∙ ap (λ r. front ++ r) (sym (words_last ps i d (omega (arith, h, eight)))) ∙ ap (λ n. front ++ all_words (take n ps)) next,
      )

  pub write_all : (w : List ℕ) (i : ℕ) → limits.processes ≤ i → i ≤ limits.processes → length w ≡ sizes.state
      → take (start_of i) w ≡ front ++ all_words (take i ps) → w ≡ front ++ all_words ps
  write_all w i h l long k =
      sym (take_all (start_of i) w (omega (arith, h, long))) ∙ k
      ∙ ap (λ r. front ++ all_words r) (take_all i ps (omega (arith, h, eight)))

-- the words that the head is written over begin with it
pub head_front : (s : State) (w : List ℕ) → length w ≡ sizes.state → take sizes.head (sets w head_offsets.version (head_words s)) ≡ head_words s
head_front s w h = ap (take sizes.head) (sets-eq (head_words s) w head_offsets.version (omega (arith, h)))
