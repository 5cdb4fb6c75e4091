-- Words that are a state are the words of the state that they are decoded to.
use Prim.Native.Nat.{ℕ, zero, suc, ◌+◌, ◌*◌, ◌≤◌, ◌<◌}
use mathlib.Core.Bool.{Bool, true, false, ◌&&◌, and-eq-true_iff}
use mathlib.Core.List.{List, [], ◌∷◌, ◌++◌, append_assoc}
use mathlib.Core.Path.{◌≡◌, refl, sym, ap, ◌∙◌}
use native.Mathlib.Omega.{arith}
use lib.Dec.{eqb, leb}
use lib.ListN.{length, get_or, set, take, drop, length-drop, take-append-drop}
use lib.Seq.{length-take-le, drop-drop, take-add}
use borrow.Author.Tests.{leb-true, eqb-true}
use Rattle.model.specs.declared.types.Counts.{Counts}
use Rattle.model.specs.declared.types.Process.{Process}
use Rattle.std.specs.Prelude.{if◌then◌else◌}
use Rattle.model.specs.Layout.{limits}
use Rattle.model.specs.State.{no_process, process_at, with_event}
use Rattle.process.specs.ProcessWords.{sizes, process_words, process_from, known_process}
use Rattle.layout.specs.StateWords.{all_words, state_words, all_from, state_from, all_known, is_state_below, is_state, start_of, part, put_event}
use Rattle.layout.specs.Head.{bit, header_words, header_offsets, head_offsets, head_at}
use Rattle.process.proofs.Heads.{heads, heads_are}
use Rattle.process.proofs.RoundTrip.{process_back, below}

-- ---- all processes

-- the first is known, and so are the others
pub known_rest : (n : ℕ) (w : List ℕ) → all_known (suc n) w ≡ true
    → (known_process (take sizes.process w) ≡ true) × (all_known n (drop sizes.process w) ≡ true)
unfolding all_known
known_rest n w = cases (known_process (take sizes.process w))
  where
    cases : (b : Bool) → (if b then all_known n (drop sizes.process w) else false) ≡ true → (b ≡ true) × (all_known n (drop sizes.process w) ≡ true)
    cases true k = (refl, k)
    cases false k = (k, cc)

first_back : (n : ℕ) (w : List ℕ) → sizes.process * suc n ≡ length w → known_process (take sizes.process w) ≡ true
    → process_words (process_from (take sizes.process w)) ≡ take sizes.process w
first_back n w h k = process_back (take sizes.process w) (length-take-le sizes.process w (omega (arith, h))) k

rest_long : (n : ℕ) (w : List ℕ) → sizes.process * suc n ≡ length w → sizes.process * n ≡ length (drop sizes.process w)
rest_long n w h = rw length-drop (omega (arith, h))

all_back : (n : ℕ) (w : List ℕ) → sizes.process * n ≡ length w → all_known n w ≡ true → all_words (all_from n w) ≡ w
unfolding all_from all_words
all_back zero [] h k = refl
all_back zero (x ∷ w) h k = let z : ◌≡◌ {A = ℕ} 0 1 = omega (arith, h) in cc
all_back (suc n) w h k =
    let f = known_rest n w k in
    ap (λ a. a ++ all_words (all_from n (drop sizes.process w))) (first_back n w h f.0)
    ∙ ap (λ b. take sizes.process w ++ b) (all_back n (drop sizes.process w) (rest_long n w h) f.1)
    ∙ take-append-drop sizes.process w

-- ---- the state

pub bit_back : (n : ℕ) → n ≤ bit true → bit (eqb n (bit true)) ≡ n
bit_back n h = eqb-true _ _ (below (suc (bit true)) (λ n. eqb (bit (eqb n (bit true))) n) refl n (omega (arith, h)))

-- what the test tells
pub record Facts (w : List ℕ) : Type 0 where
  pub long : length w ≡ sizes.state
  pub version : get_or w head_offsets.version 0 ≡ sizes.version
  pub opened : get_or w (head_at header_offsets.opened) 0 ≤ bit true
  pub known : all_known limits.processes (drop sizes.head w) ≡ true

pub state_facts : (w : List ℕ) → is_state w ≡ true → Facts w
unfolding is_state_below
state_facts w k =
    let long = eqb (length w) sizes.state in
    let version = eqb (get_or w head_offsets.version 0) sizes.version in
    let opened = leb (get_or w (head_at header_offsets.opened) 0) (bit true) in
    let a = (and-eq-true_iff (long && version && opened) (all_known limits.processes (drop sizes.head w))).0 k in
    let b = (and-eq-true_iff (long && version) opened).0 a.0 in
    let c = (and-eq-true_iff long version).0 b.0 in
    record { long = eqb-true _ _ c.0; version = eqb-true _ _ c.1; opened = leb-true _ _ b.1; known = a.1 }

pub state_back : (w : List ℕ) → is_state w ≡ true → state_words (state_from w) ≡ w
unfolding state_words state_from
state_back w k =
    let f = state_facts w k in
    let left : sizes.process * limits.processes ≡ length (drop sizes.head w) = rw length-drop (omega (arith, f.long)) in
    simp (bit_back (get_or w (head_at header_offsets.opened) 0) f.opened, all_back limits.processes (drop sizes.head w) left f.known)
    (ap (λ v. v ∷ heads header_words head_offsets.header w ++ drop sizes.head w) (sym f.version) ∙ sym (heads_are sizes.head 0 w (omega (arith, f.long))))

-- ---- one process of the state

all_at : (n i : ℕ) (w : List ℕ) (d : Process) → i < n → get_or (all_from n w) i d ≡ process_from (take sizes.process (drop
    (sizes.process * i) w))
unfolding all_from
all_at zero i w d h = let z : ◌≡◌ {A = ℕ} 0 1 = omega (arith, h) in cc
all_at (suc n) zero w d h = refl
all_at (suc n) (suc i) w d h =
    let e : sizes.process + sizes.process * i ≡ sizes.process * suc i = omega arith in
    all_at n i (drop sizes.process w) d (omega (arith, h))
    ∙ ap (λ r. process_from (take sizes.process r)) (drop-drop (sizes.process * i) sizes.process w ∙ ap (λ k. drop k w) e)

pub process_at_lem : (w : List ℕ) (i : ℕ) → i < limits.processes → process_at (state_from w) i ≡ process_from (part w i)
unfolding state_from
process_at_lem w i h = all_at limits.processes i (drop sizes.head w) no_process h ∙ ap (λ r. process_from (take sizes.process r)) (drop-drop (sizes.process * i) sizes.head w)

-- another process in its place
all_set : (n i : ℕ) (w : List ℕ) (p : Process) → i < n → sizes.process * n ≡ length w → all_known n w ≡ true
    → all_words (set (all_from n w) i p) ≡ take (sizes.process * i) w ++ (process_words p ++ drop (sizes.process * i + sizes.process) w)
unfolding all_from all_words
all_set zero i w p h l k = let z : ◌≡◌ {A = ℕ} 0 1 = omega (arith, h) in cc
all_set (suc n) zero w p h l k = ap (λ r. process_words p ++ r) (all_back n (drop sizes.process w) (rest_long n w l) (known_rest n w k).1)
all_set (suc n) (suc i) w p h l k =
    let f = known_rest n w k in
    let e : sizes.process + sizes.process * i ≡ sizes.process * suc i = omega arith in
    let d : sizes.process + (sizes.process * i + sizes.process) ≡ sizes.process * suc i + sizes.process = omega arith in
    ap (λ a. a ++ all_words (set (all_from n (drop sizes.process w)) i p)) (first_back n w l f.0)
    ∙ ap (λ b. take sizes.process w ++ b) (all_set n i (drop sizes.process w) p (omega (arith, h)) (rest_long n w l) f.1)
    ∙ sym (append_assoc (take sizes.process w) (take (sizes.process * i) (drop sizes.process w)) (process_words p ++ drop (sizes.process * i + sizes.process) (drop sizes.process w)))
    ∙ ap (λ a. a ++ (process_words p ++ drop (sizes.process * i + sizes.process) (drop sizes.process w))) (sym (take-add sizes.process (sizes.process * i) w) ∙ ap (λ k. take k w) e)
    ∙ ap (λ b. take (sizes.process * suc i) w ++ (process_words p ++ b)) (drop-drop (sizes.process * i + sizes.process) sizes.process w ∙ ap (λ k. drop k w) d)

-- ---- an event

-- the words with another process at a place
abbrev pub put_process : (w : List ℕ) (i : ℕ) (part : List ℕ) → List ℕ
put_process w i part = take (start_of i) w ++ (part ++ drop (start_of i + sizes.process) w)

-- the head and what lies behind it
behind : (w : List ℕ) (i : ℕ) (part : List ℕ) → sizes.head ≤ length w
    → put_process w i part ≡ heads sizes.head 0 w ++ (take (sizes.process * i) (drop sizes.head w) ++ (part ++ drop (sizes.process * i + sizes.process) (drop sizes.head w)))
behind w i part h =
    let e : sizes.head + (sizes.process * i + sizes.process) ≡ start_of i + sizes.process = omega arith in
    let nine : take sizes.head w ≡ heads sizes.head 0 w =
    ap (take sizes.head) (heads_are sizes.head 0 w (omega (arith, h))) in
    ap (λ a. a ++ (part ++ drop (start_of i + sizes.process) w)) (take-add sizes.head (sizes.process * i) w)
    ∙ append_assoc (take sizes.head w) (take (sizes.process * i) (drop sizes.head w)) (part ++ drop (start_of i + sizes.process) w)
    ∙ ap (λ a. a ++ (take (sizes.process * i) (drop sizes.head w) ++ (part ++ drop (start_of i + sizes.process) w))) nine
    ∙ ap (λ b. heads sizes.head 0 w ++ (take (sizes.process * i) (drop sizes.head w) ++ (part ++ b))) (sym (drop-drop (sizes.process * i + sizes.process) sizes.head w ∙ ap (λ k. drop k w) e))

pub event_words_lem : (w : List ℕ) (i : ℕ) (p : Process) (counts : Counts) → is_state w ≡ true → i < limits.processes
    → put_event (put_process w i (process_words p)) ((state_from w).events + 1) counts ≡ state_words (with_event (state_from w) i counts p)
unfolding state_from state_words
event_words_lem w i p counts k h =
    let f = state_facts w k in
    let left : sizes.process * limits.processes ≡ length (drop sizes.head w) = rw length-drop (omega (arith, f.long)) in
    ap (λ v. put_event v (get_or w (head_at header_offsets.events) 0 + 1) counts) (behind w i (process_words p) (omega (arith, f.long)))
    ∙ simp (f.version, bit_back (get_or w (head_at header_offsets.opened) 0) f.opened, all_set limits.processes i (drop sizes.head w) p h left f.known)
