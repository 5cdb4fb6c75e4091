-- On words that are a state every call is: decode, the store's call, encode. On the words of a state it is the store's call.
use Rattle.model.specs.Types.{Permit, StartResult, Ok, Err}
use Prim.Native.Nat.{ℕ, ◌+◌, ◌≤◌, ◌<◌}
use mathlib.Core.Bool.{true}
use mathlib.Core.List.{List}
use mathlib.Core.Path.{◌≡◌, refl, sym, ap, ◌∙◌}
use native.Mathlib.Omega.{arith}
use lib.ListN.{length, drop, length-set, length-drop}
use lib.Seq.{length-take-le}
use Rattle.model.specs.declared.types.Call.{Call}
use Rattle.model.specs.declared.types.Move.{Move}
use Rattle.model.specs.declared.types.Move.TheVariants.{Refuse, Wait, Go, Note, Commit, Show, End}
use Rattle.model.specs.declared.types.Process.{Process}
use Rattle.model.specs.declared.types.State.{State}
use Rattle.model.specs.Layout.{Memory, levels, limits}
use Rattle.model.specs.State.{process_at, memory_of}
use Rattle.model.specs.Phases.{Moved, refuses, transition_of}
use Rattle.model.specs.Requests.{Operation, first_of, last_of}
use Rattle.model.specs.Calls.{begun, call_for, start_permit, start_by, start_of, process_after, Store, store_after, Stepped, step_permit, step_by, step_of, store_of}
use Rattle.model.proofs.Tests.{if-by}
use Rattle.refusals.proofs.Laws.{may_start, may_step}
use Rattle.process.specs.ProcessWords.{sizes, process_offsets}
use Rattle.layout.specs.StateWords.{state_words, state_from, is_state, part, written}
use Rattle.layout.specs.StateWords as words
use Rattle.layout.proofs.Laws.{process_at_lem, state_facts, state_back}
use Rattle.process.proofs.RoundTrip.{process_long}
use Rattle.layout.proofs.Back.{Remembers, state_from_lem, state_known}
use Rattle.layout.proofs.Written.{state_at, written_same, written_state}
use Rattle.lent.specs.Calls.{StartIn, started_in, start_in, StepIn, step_in}

-- a start's state encoded
abbrev pub start_encoded : StartResult → StartIn
start_encoded r = started_in r.outcome (state_words r.state)

-- a step's store, its state encoded
abbrev pub step_encoded : Stepped → StepIn
step_encoded r = record {
  outcome = r.outcome;
  words = state_words r.store.state;
  nodes = r.store.nodes;
  versions = r.store.versions;
  tally = r.store.tally;
}

-- a process keeps a node for each level
pub after_remembers : (tick : ℕ) (p : Process) (v : Move) → length p.preds ≡ levels → length (process_after tick p v).preds ≡ levels
unfolding process_after
after_remembers tick p Refuse h = h
after_remembers tick p Wait h = h
after_remembers tick p (Go c) h = h
after_remembers tick p (Note c) h = length-set p.preds p.cursor.level p.cursor.pred ∙ h
after_remembers tick p (Commit c a) h = h
after_remembers tick p (Show c x) h = h
after_remembers tick p (End a v e) h = refl

module _ (w : List ℕ) (i : ℕ) (known : is_state w ≡ true) where
  same : written w i (state_from w) ≡ state_words (state_from w)
  same = written_same w i (state_at w known i) ∙ sym (state_back w known)

-- ---- start

module _ (w nodes versions : List ℕ) (i : ℕ) (known : is_state w ≡ true) (op : Operation) where
  let_pass : (p : Permit) (c : Call) → start_permit (state_from w) nodes versions i (first_of op) (last_of op) ≡ p
      → written w i (start_by p (state_from w) i c).state ≡ state_words (start_by p (state_from w) i c).state
  unfolding start_by
  let_pass (Err r) c e = same w i known
  let_pass (Ok tt) c e =
      let f = may_start (state_from w) nodes versions i (first_of op) (last_of op) refl e in
      let l = f.lawful.processes in
      written_state w i (begun c) (state_from w).counts known (omega (arith, f.process)) (process_long (begun c) refl)

  -- decode, the store's start, encode
  pub start_encoded_lem : start_in w nodes versions i op ≡ start_encoded (start_of (state_from w) nodes versions i op)
  unfolding start_in start_of
  start_encoded_lem =
      simp (state_at w known i, let_pass (start_permit (state_from w) nodes versions i (first_of op) (last_of op)) (call_for op ((state_from w).events + 1)) refl)

-- on the words of a state: the store's start, encoded
pub start_of_lem : (s : State) (nodes versions : List ℕ) (i : ℕ) (op : Operation) → length s.process ≡ limits.processes → Remembers s.process
    → start_in (state_words s) nodes versions i op ≡ start_encoded (start_of s nodes versions i op)
start_of_lem s nodes versions i op eight six =
    start_encoded_lem (state_words s) nodes versions i (state_known s eight six) op
    ∙ ap (λ s. start_encoded (start_of s nodes versions i op)) (state_from_lem s eight six)

-- ---- step

module _ (w nodes versions tally : List ℕ) (i : ℕ) (known : is_state w ≡ true) where
  abbrev store : Store
  store = store_of (state_from w) nodes versions tally

  remembers : i < limits.processes → length (process_at (state_from w) i).preds ≡ levels
  remembers h =
      let fits : words.start_of i + sizes.process ≤ length w = omega (arith, h, (state_facts w known).long) in
      let long : length (part w i) ≡ sizes.process = length-take-le sizes.process (drop (words.start_of i) w) (rw length-drop (omega (arith, fits))) in
      ap (λ p. length p.preds) (process_at_lem w i h) ∙ length-take-le levels (drop process_offsets.preds (part w i)) (rw length-drop (omega (arith, long)))

  moved : i < limits.processes → (v : Move) (m : Memory) → written w i (store_after store i v m).state ≡ state_words (store_after store i v m).state
  moved h v m = if-by (λ (x : Store). written w i x.state ≡ state_words x.state) (refuses v) (λ t. same w i known) λ t.
      let p = process_after ((state_from w).events + 1) (process_at (state_from w) i) v in
      written_state w i p m.counts known h
      (process_long p (after_remembers ((state_from w).events + 1) (process_at (state_from w) i) v (remembers h)))

  permitted : (p : Permit) (v : Moved) → step_permit store i ≡ p → written w i (step_by p store i v).store.state ≡ state_words (step_by p store i v).store.state
  unfolding step_by
  permitted (Err r) v e = same w i known
  permitted (Ok _) v e =
      let f = (may_step store i refl e).start in
      let l = f.lawful.processes in
      moved (omega (arith, f.process)) v.move v.memory

  abbrev turned : Moved
  turned = transition_of (i + 1) ((state_from w).events + 1) (process_at (state_from w) i) (memory_of (state_from w) nodes versions)

  -- decode, the store's step, encode
  pub step_encoded_lem : step_in w nodes versions tally i ≡ step_encoded (step_of store i)
  unfolding step_in step_of
  step_encoded_lem = simp (state_at w known i, permitted (step_permit store i) turned refl)

-- on the words of a state: the store's step, encoded
pub step_of_lem : (s : State) (nodes versions tally : List ℕ) (i : ℕ) → length s.process ≡ limits.processes → Remembers s.process
    → step_in (state_words s) nodes versions tally i ≡ step_encoded (step_of (store_of s nodes versions tally) i)
step_of_lem s nodes versions tally i eight six =
    step_encoded_lem (state_words s) nodes versions tally i (state_known s eight six)
    ∙ ap (λ s. step_encoded (step_of (store_of s nodes versions tally) i)) (state_from_lem s eight six)
