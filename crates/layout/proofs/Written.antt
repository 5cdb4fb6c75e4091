-- What is written in place at an event: nothing where nothing happened, else the words of the state after it.
use Prim.Native.Nat.{ℕ, zero, suc, ◌+◌, ◌*◌, ◌-◌, ◌≤◌, ◌<◌}
use mathlib.Core.Bool.{Bool, true, false, and-eq-true_iff}
use mathlib.Core.List.{List, [], ◌∷◌, ◌++◌, append_assoc}
use mathlib.Core.Path.{◌≡◌, refl, sym, ap, ◌∙◌}
use native.Mathlib.Omega.{arith}
use lib.Dec.{ltb}
use lib.ListN.{length, get_or, take, drop, length-drop, take-append-drop}
use lib.Seq.{sets, sets-eq, set-get_or, set_out, get_or-set_same, length-take-le, drop-drop}
use borrow.Author.Tests.{ltb-true, ltb-false}
use Rattle.model.specs.declared.types.Counts.{Counts}
use Rattle.model.specs.declared.types.Process.{Process}
use Rattle.std.specs.Prelude.{◌≢◌, if◌then◌else◌}
use Rattle.model.specs.Layout.{limits}
use Rattle.model.specs.State.{no_process, process_at, with_event}
use Rattle.layout.specs.Head.{header_words, header_offsets, header_of, head_offsets, head_at}
use Rattle.process.specs.ProcessWords.{sizes, process_words, known_process}
use Rattle.layout.specs.StateWords.{state_words, all_from, state_from, all_known, known_head, is_state_below, is_state, start_of, part, is_state_at, put_event, written}
use Rattle.layout.proofs.Known.{none_known, head_long, behind_long, head_open, by_first, by_one, by_none}
use Rattle.process.proofs.Heads.{heads, heads_are}
use Rattle.layout.proofs.Laws.{bit_back, process_at_lem, known_rest, put_process, event_words_lem}
use Rattle.process.proofs.RoundTrip.{process_back}

-- ---- nothing happened

sets_past : (vs l : List ℕ) (i : ℕ) → length l ≤ i → sets l i vs ≡ l
sets_past [] l i h = refl
sets_past (v ∷ vs) l i h = ap (λ l. sets l (suc i) vs) (set_out l i v h) ∙ sets_past vs l (suc i) (omega (arith, h))

-- a part put where it was taken from
pub sets_part : (w : List ℕ) (at : ℕ) → at + sizes.process ≤ length w → sets w at (take sizes.process (drop at w)) ≡ w
sets_part w at h =
    let long : length (take sizes.process (drop at w)) ≡ sizes.process = length-take-le sizes.process (drop at w) (rw length-drop (omega (arith, h))) in
    sets-eq (take sizes.process (drop at w)) w at (rw long h)
    ∙ ap (λ k. take at w ++ take sizes.process (drop at w) ++ drop (at + k) w) long
    ∙ append_assoc (take at w) (take sizes.process (drop at w)) (drop (at + sizes.process) w)
    ∙ ap (λ r. take at w ++ (take sizes.process (drop at w) ++ r)) (sym (drop-drop sizes.process at w))
    ∙ ap (λ r. take at w ++ r) (take-append-drop sizes.process (drop at w))
    ∙ take-append-drop at w

-- what the test of one process tells
pub part_facts : (w : List ℕ) (i : ℕ) → is_state_at w i ≡ true → (length w ≡ sizes.state) × (known_process (part w i) ≡ true)
unfolding is_state_at
part_facts w i k = let a = (and-eq-true_iff (known_head w) (known_process (part w i))).0 k in (head_long w a.0, a.1)

-- words of another number are no state's
pub other_length : (w : List ℕ) (i : ℕ) → length w ≢ sizes.state → is_state_at w i ≡ false
other_length w i h = cases (is_state_at w i) refl
  where
    cases : (b : Bool) → is_state_at w i ≡ b → is_state_at w i ≡ false
    cases true e = absurd (h (part_facts w i e).0)
    cases false e = e

pub process_same : (w : List ℕ) (i : ℕ) → is_state_at w i ≡ true → sets w (start_of i) (process_words (process_at (state_from w) i)) ≡ w
process_same w i k = cases (ltb i limits.processes) refl
  where
    cases : (b : Bool) → ltb i limits.processes ≡ b → sets w (start_of i) (process_words (process_at (state_from w) i)) ≡ w
    cases true e =
        let f = part_facts w i k in
        let h = ltb-true i limits.processes e in
        let fits : start_of i + sizes.process ≤ length w = omega (arith, h, f.0) in
        let long : length (part w i) ≡ sizes.process = length-take-le sizes.process (drop (start_of i) w) (rw length-drop (omega (arith, fits))) in
        ap (λ p. sets w (start_of i) (process_words p)) (process_at_lem w i h)
        ∙ ap (sets w (start_of i)) (process_back (part w i) long f.1)
        ∙ sets_part w (start_of i) fits
    cases false e = sets_past (process_words (process_at (state_from w) i)) w (start_of i) (omega (arith, ltb-false i limits.processes e, (part_facts w i k).0))

pub written_same : (w : List ℕ) (i : ℕ) → is_state_at w i ≡ true → written w i (state_from w) ≡ w
unfolding written state_from
written_same w i k =
    simp (
      process_same w i k,
      set-get_or w (head_at header_offsets.events) 0,
      set-get_or w (head_at header_offsets.nodes) 0,
      set-get_or w (head_at header_offsets.versions) 0,
    )

-- ---- the head

-- the header of the state stands behind the first word
pub header_at : (w : List ℕ) (i : ℕ) → is_state_at w i ≡ true → header_of (state_from w) ≡ take header_words (drop head_offsets.header w)
unfolding is_state_at state_from
header_at w i k =
    let head = ((and-eq-true_iff (known_head w) (known_process (part w i))).0 k).0 in
    let fits : head_offsets.header + header_words ≤ length w = omega (arith, head_long w head) in
    ap (λ b. b ∷ heads (header_words - 1) (head_at header_offsets.processes) w) (bit_back (get_or w (head_at header_offsets.opened) 0) (head_open w head))
    ∙ sym (ap (take header_words) (heads_are header_words head_offsets.header w fits))

pub events_at : (w : List ℕ) → get_or w (head_at header_offsets.events) 0 ≡ (state_from w).events
unfolding state_from
events_at w = refl

-- ---- an event

pub written_over_lem : (w : List ℕ) (i : ℕ) (p : Process) (counts : Counts) → i < limits.processes
    → put_event (sets w (start_of i) (process_words p)) ((state_from w).events + 1) counts ≡ written w i (with_event (state_from w) i counts p)
unfolding written state_from all_from
written_over_lem w i p counts h =
    let found : process_at (with_event (state_from w) i counts p) i ≡ p = get_or-set_same (state_from w).process i p no_process h in
    ap (λ q. put_event (sets w (start_of i) (process_words q)) (get_or w (head_at header_offsets.events) 0 + 1) counts) (sym found)

written_event : (w : List ℕ) (i : ℕ) (p : Process) (counts : Counts) → is_state_at w i ≡ true → i < limits.processes
    → length (process_words p) ≡ sizes.process
    → put_event (put_process w i (process_words p)) ((state_from w).events + 1) counts ≡ written w i (with_event (state_from w) i counts p)
written_event w i p counts k h l =
    let f = part_facts w i k in
    let fits : start_of i + length (process_words p) ≤ length w = omega (arith, h, l, f.0) in
    let put : sets w (start_of i) (process_words p) ≡ put_process w i (process_words p) =
    sets-eq (process_words p) w (start_of i) fits
    ∙ ap (λ k. take (start_of i) w ++ process_words p ++ drop (start_of i + k) w) l
    ∙ append_assoc (take (start_of i) w) (process_words p) (drop (start_of i + sizes.process) w) in
    ap (λ v. put_event v ((state_from w).events + 1) counts) (sym put) ∙ written_over_lem w i p counts h

-- ---- words that are a state

known_at : (n i : ℕ) (w : List ℕ) → i < n → all_known n w ≡ true → known_process (take sizes.process (drop (sizes.process * i) w)) ≡ true
known_at zero i w h k = let z : ◌≡◌ {A = ℕ} 0 1 = omega (arith, h) in cc
known_at (suc n) zero w h k = (known_rest n w k).0
known_at (suc n) (suc i) w h k =
    let e : sizes.process + sizes.process * i ≡ sizes.process * suc i = omega arith in
    ap (λ r. known_process (take sizes.process r)) (sym (drop-drop (sizes.process * i) sizes.process w ∙ ap (λ k. drop k w) e))
    ∙ known_at n i (drop sizes.process w) (omega (arith, h)) (known_rest n w k).1

known_below : (m n : ℕ) (w : List ℕ) → length w ≡ sizes.process * m → all_known m w ≡ true → all_known n w ≡ true
unfolding all_known
known_below zero n [] l k = sym (none_known n)
known_below zero n (x ∷ w) l k = absurd (omega (arith, l))
known_below (suc m) zero w l k = refl
known_below (suc m) (suc n) w l k =
    let f = known_rest m w k in
    ap (λ b. if b then all_known n (drop sizes.process w) else false) f.0
    ∙ known_below m n (drop sizes.process w) (length-drop sizes.process w ∙ omega (arith, l)) f.1

module _ (w : List ℕ) (k : is_state w ≡ true) where
  both : (known_head w ≡ true) × (all_known limits.processes (drop sizes.head w) ≡ true)
  unfolding is_state_below
  both = (and-eq-true_iff (known_head w) (all_known limits.processes (drop sizes.head w))).0 k

  pub state_head : known_head w ≡ true
  state_head = both.0

  -- words that are a state are one below any number
  pub state_below : (n : ℕ) → is_state_below w n ≡ true
  state_below n =
      sym (by_first w n (known_head w) refl state_head)
      ∙ known_below limits.processes n (drop sizes.head w) (behind_long w state_head) both.1

  -- and at each of its processes, and at any other number
  pub state_at : (i : ℕ) → is_state_at w i ≡ true
  state_at i = cases (ltb i limits.processes) refl
    where
      cases : (b : Bool) → ltb i limits.processes ≡ b → is_state_at w i ≡ true
      cases true e =
          sym (by_one w i (known_head w) refl state_head)
          ∙ ap (λ r. known_process (take sizes.process r)) (sym (drop-drop (sizes.process * i) sizes.head w))
          ∙ known_at limits.processes i (drop sizes.head w) (ltb-true i limits.processes e) both.1
      cases false e = sym (by_none w i (known_head w) refl state_head (ltb-false i limits.processes e))

-- there the words written are the whole state encoded
pub written_state : (w : List ℕ) (i : ℕ) (p : Process) (counts : Counts) → is_state w ≡ true → i < limits.processes
    → length (process_words p) ≡ sizes.process
    → written w i (with_event (state_from w) i counts p) ≡ state_words (with_event (state_from w) i counts p)
written_state w i p counts k h l = sym (written_event w i p counts (state_at w k i) h l) ∙ event_words_lem w i p counts k h
