-- Processes known one after another.
use Prim.Native.Nat.{ℕ, zero, suc, ◌+◌, ◌*◌, ◌-◌, ◌≤◌, ◌<◌, min}
use mathlib.Core.Bool.{Bool, true, false, ◌&&◌, and-eq-true_iff}
use mathlib.Core.List.{List, [], ◌∷◌}
use mathlib.Core.Path.{◌≡◌, refl, sym, ap, ◌∙◌}
use native.Mathlib.Omega.{arith}
use lib.Dec.{eqb, ltb, leb}
use lib.ListN.{length, get_or, take, drop, length-drop, drop_of_length-le}
use lib.Seq.{length-take-le, drop-drop}
use borrow.Author.Tests.{eqb-true, eq-eqb, ltb-true, ltb-false, leb-true}
use Rattle.model.specs.Layout.{limits}
use Rattle.std.specs.Prelude.{if◌then◌else◌}
use Rattle.process.specs.ProcessWords.{sizes, known_process}
use Rattle.layout.specs.Head.{bit, header_offsets, head_offsets, head_at}
use Rattle.layout.specs.StateWords.{state_from, all_known, known_head, is_state_below, start_of, part, is_state_at}

-- the words of the process at a position, as a part that ends where the next begins
pub part_is : (w : List ℕ) (at : ℕ) → take (at + sizes.process - at) (drop at w) ≡ take sizes.process (drop at w)
part_is w at = let e : at + sizes.process - at ≡ sizes.process = omega arith in ap (λ n. take n (drop at w)) e

pub part_long : (w : List ℕ) (at : ℕ) → at + sizes.process ≤ length w → length (take (at + sizes.process - at) (drop at w)) ≡ sizes.process
part_long w at h = ap length (part_is w at) ∙ length-take-le sizes.process (drop at w) (rw length-drop (omega (arith, h)))

-- the first of those left decides, and behind it the others
module _ (w : List ℕ) (at left : ℕ) (some : 0 < left) (b : Bool) (found : b ≡ known_process (take (at + sizes.process - at)
    (drop at w))) where
  first : known_process (take sizes.process (drop at w)) ≡ b
  first = sym (found ∙ ap known_process (part_is w at))

  split : (m : ℕ) → left ≡ suc m → all_known left (drop at w) ≡ (if b then all_known m (drop (at + sizes.process) w) else false)
  unfolding all_known
  split m e = rw (e, first, drop-drop)

  pub unknown_first : b ≡ false → false ≡ all_known left (drop at w)
  unknown_first e = sym (split (left - 1) (omega (arith, some)) ∙ rw e)

  pub known_first : b ≡ true → all_known (left - 1) (drop (at + sizes.process) w) ≡ all_known left (drop at w)
  known_first e = sym (split (left - 1) (omega (arith, some)) ∙ rw e)

-- with no process left all are known
pub none_left : (w : List ℕ) (left : ℕ) → left ≡ 0 → true ≡ all_known left w
unfolding all_known
none_left w left e = rw e

-- past the last process there are no words
pub none_known : (n : ℕ) → true ≡ all_known n []
unfolding all_known
none_known zero = refl
none_known (suc n) = none_known n

all_past : (m n : ℕ) (w : List ℕ) → length w ≡ sizes.process * m → m ≤ n → all_known m w ≡ all_known n w
unfolding all_known
all_past zero n [] long h = none_known n
all_past zero n (x ∷ w) long h = absurd (omega (arith, long))
all_past (suc m) zero w long h = absurd (omega (arith, h))
all_past (suc m) (suc n) w long h =
    ap (λ r. if known_process (take sizes.process w) then r else false)
    (all_past m n (drop sizes.process w) (length-drop sizes.process w ∙ omega (arith, long)) (omega (arith, h)))

-- ---- the head, then one process or the first n

-- as many words as a state has, of this layout: the word that says whether it is open decides
pub head_by : (w : List ℕ) → length w ≡ sizes.state → get_or w head_offsets.version 0 ≡ sizes.version
    → leb (get_or w (head_at header_offsets.opened) 0) (bit true) ≡ known_head w
head_by w long version = simp (eq-eqb _ _ long, eq-eqb _ _ version)

module _ (w : List ℕ) (h : known_head w ≡ true) where
  abbrev long : Bool
  long = eqb (length w) sizes.state

  abbrev version : Bool
  version = eqb (get_or w head_offsets.version 0) sizes.version

  abbrev opened : Bool
  opened = leb (get_or w (head_at header_offsets.opened) 0) (bit true)

  pub head_long : length w ≡ sizes.state
  head_long = eqb-true _ _ ((and-eq-true_iff long version).0 ((and-eq-true_iff (long && version) opened).0 h).0).0

  pub behind_long : length (drop sizes.head w) ≡ sizes.process * limits.processes
  behind_long = length-drop sizes.head w ∙ omega (arith, head_long)

  pub head_open : get_or w (head_at header_offsets.opened) 0 ≤ bit true
  head_open = leb-true _ _ ((and-eq-true_iff (long && version) opened).0 h).1

module _ (w : List ℕ) (i : ℕ) (b : Bool) (head : b ≡ known_head w) where
  pub no_head : b ≡ false → (false ≡ is_state_below w i) × (false ≡ is_state_at w i)
  unfolding is_state_below is_state_at
  no_head e = (simp (← head, e), simp (← head, e))

  pub by_first : b ≡ true → all_known i (drop sizes.head w) ≡ is_state_below w i
  unfolding is_state_below
  by_first e = simp (← head, e)

  pub below_head : is_state_below w i ≡ true → known_head w ≡ true
  unfolding is_state_below
  below_head k = ((and-eq-true_iff (known_head w) (all_known i (drop sizes.head w))).0 k).0

  pub by_all : b ≡ true → limits.processes ≤ i → all_known limits.processes (drop sizes.head w) ≡ is_state_below w i
  by_all e h = all_past limits.processes i (drop sizes.head w) (behind_long w (sym head ∙ e)) h ∙ by_first e

  -- a count past the last process asks for all of them
  pub by_least : b ≡ true → all_known (min i limits.processes) (drop sizes.head w) ≡ is_state_below w i
  by_least e = cases (ltb limits.processes i) refl
    where
      cases : (past : Bool) → ltb limits.processes i ≡ past → all_known (min i limits.processes) (drop sizes.head w) ≡ is_state_below w i
      cases true p =
          let h = ltb-true limits.processes i p in
          let n : min i limits.processes ≡ limits.processes = omega (arith, h) in
          ap (λ n. all_known n (drop sizes.head w)) n ∙ by_all e (omega (arith, h))
      cases false p =
          let n : min i limits.processes ≡ i = omega (arith, ltb-false limits.processes i p) in
          ap (λ n. all_known n (drop sizes.head w)) n ∙ by_first e

  pub by_one : b ≡ true → known_process (part w i) ≡ is_state_at w i
  unfolding is_state_at
  by_one e = simp (← head, e)

  -- a number past the last process has no words
  pub by_none : b ≡ true → limits.processes ≤ i → true ≡ is_state_at w i
  by_none e h =
      let long = head_long w (sym head ∙ e) in
      let past : length w ≤ start_of i = omega (arith, long, h) in
      let none : drop (start_of i) w ≡ [] = drop_of_length-le w past in
      sym (ap (λ r. known_process (take sizes.process r)) none) ∙ by_one e

-- the count of processes is a word of the head
pub count_at : (w : List ℕ) → get_or w (head_at header_offsets.processes) 0 ≡ (state_from w).processes
unfolding state_from
count_at w = refl
