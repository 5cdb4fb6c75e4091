-- Steps and starts in place: what is left of one process, put into the words, is what the store's call leaves, encoded.
use Rattle.model.specs.Types.{Permit, Ok, Err}
use Prim.Native.Nat.{ℕ, ◌+◌, ◌<◌}
use mathlib.Core.Bool.{Bool, true, false, ◌&&◌, and-true, and-false, and-eq-true_iff}
use mathlib.Core.List.{List}
use mathlib.Core.Path.{◌≡◌, refl, sym, ap, ◌∙◌}
use native.Mathlib.Omega.{arith}
use lib.ListN.{length, get_or, take, drop}
use lib.Seq.{get_or-take, get_or-drop}
use Rattle.model.specs.Numbers.{kind_from}
use Rattle.model.specs.declared.types.Call.{Call}
use Rattle.model.specs.declared.types.Counts.{Counts}
use Rattle.model.specs.declared.types.Move.{Move}
use Rattle.model.specs.declared.types.Refusal.{Refusal}
use Rattle.model.specs.declared.types.Refusal.TheVariants.{Corrupt}
use Rattle.model.specs.Layout.{Memory, limits}
use Rattle.model.specs.Phases.{moved, transition_of, refuses}
use Rattle.model.specs.State.{process_at, with_event, lawful_store}
use Rattle.model.specs.Calls.{process_after, begun, start_by, Store, store_of, step_permit, step_by, step_of, look_permit, look_by, look_of, status_permit, status_by, status_of}
use Rattle.tables.specs.Room.{memory}
use Rattle.layout.specs.Head.{header_words, header_of}
use Rattle.calls.specs.Advance.{Advance, advance_by, advance_of}
use Rattle.calls.proofs.Laws.{stays, moves, step_stays, step_moves}
use Rattle.process.specs.ProcessWords.{sizes, process_offsets}
use Rattle.layout.specs.StateWords.{state_from, known_head, is_state_below, is_state_at, start_of, written}
use Rattle.layout.proofs.Laws.{process_at_lem}
use Rattle.layout.proofs.Known.{head_long, below_head, by_none}
use Rattle.layout.proofs.Written.{header_at, written_same, written_over_lem}
use Rattle.apply.specs.Leave.{LeftIn, process_in, evented, leave_in}
use Rattle.lent.specs.Calls.{StartIn, started_in, start_unless, begun_in, StepIn, stepped_in, step_written, lawful_in, step_permit_in, step_in, look_in, status_in}

-- ---- step

-- the kind that the words of a process begin with
pub kind_at : (w : List ℕ) (i j : ℕ) → j ≡ i → i < limits.processes
    → (process_at (state_from w) i).call.kind ≡ kind_from (get_or w (start_of j + process_offsets.kind) 0)
kind_at w i j e h =
    let k = process_offsets.kind in
    ap (λ p. p.call.kind) (process_at_lem w i h)
    ∙ ap kind_from (get_or-take sizes.process (drop (start_of i) w) k 0 (omega arith) ∙ get_or-drop (start_of i) w k 0 ∙ ap (λ q. get_or w (start_of q + k) 0) (sym e))

abbrev unchanged : Refusal → (words nodes versions tally : List ℕ) → StepIn
unchanged r w nodes versions tally = stepped_in (Err r) w nodes versions tally

denied_is : {q r : Refusal} → ◌≡◌ {A = Permit} (Err q) (Err r) → q ≡ r
denied_is e = ap refusal_of e
  where
    refusal_of : Permit → Refusal
    refusal_of (Err r) = r
    refusal_of (Ok _) = Corrupt

-- what a step reads, lawful or not
module _ (w nodes versions : List ℕ) (i : ℕ) where
  headless : known_head w ≡ false → is_state_at w i ≡ false
  unfolding is_state_at
  headless e = simp e

  pub lawful_headless : known_head w ≡ false → false ≡ lawful_in w nodes versions i
  lawful_headless e = simp (headless e)

  pub lawful_unlawful : lawful_store (state_from w) nodes versions ≡ false → false ≡ lawful_in w nodes versions i
  lawful_unlawful e = sym (ap (λ b. is_state_at w i && b) e ∙ and-false (is_state_at w i))

  pub lawful_known : lawful_store (state_from w) nodes versions ≡ true → is_state_at w i ≡ lawful_in w nodes versions i
  lawful_known e = sym (ap (λ b. is_state_at w i && b) e ∙ and-true (is_state_at w i))

  pub lawful_state_lem : lawful_in w nodes versions i ≡ true → is_state_at w i ≡ true
  lawful_state_lem e = ((and-eq-true_iff (is_state_at w i) (lawful_store (state_from w) nodes versions)).0 e).0

module _ (w nodes versions tally : List ℕ) (i : ℕ) where
  abbrev store : Store
  store = store_of (state_from w) nodes versions tally

  -- ---- what is refused

  pub permit_known : is_state_at w i ≡ true → step_permit store i ≡ step_permit_in w nodes versions tally i
  unfolding step_permit_in
  permit_known e = simp e

  pub permit_unknown : is_state_at w i ≡ false → Err Corrupt ≡ step_permit_in w nodes versions tally i
  unfolding step_permit_in
  permit_unknown e = simp e

  denied_corrupt : lawful_store (state_from w) nodes versions ≡ false → step_permit store i ≡ Err Corrupt
  unfolding step_permit
  denied_corrupt e = simp e

  pub unlawful : lawful_in w nodes versions i ≡ false → step_permit_in w nodes versions tally i ≡ Err Corrupt
  unlawful e = cases (is_state_at w i) refl
    where
      cases : (b : Bool) → is_state_at w i ≡ b → step_permit_in w nodes versions tally i ≡ Err Corrupt
      cases false k = sym (permit_unknown k)
      cases true k = sym (permit_known k) ∙ denied_corrupt (sym (ap (λ b. b && lawful_store (state_from w) nodes versions) k) ∙ e)

  -- a step that is let pass finds a state in the words
  pub passed : step_permit_in w nodes versions tally i ≡ (Ok tt) → (is_state_at w i ≡ true) × (step_permit store i ≡ (Ok tt))
  passed e = cases (is_state_at w i) refl
    where
      cases : (b : Bool) → is_state_at w i ≡ b → (is_state_at w i ≡ true) × (step_permit store i ≡ (Ok tt))
      cases true k = (k, permit_known k ∙ e)
      cases false k = let z : Err Corrupt ≡ (Ok tt) = permit_unknown k ∙ e in (cc, cc)

  unknown : is_state_at w i ≡ false → unchanged Corrupt w nodes versions tally ≡ step_in w nodes versions tally i
  unfolding step_in
  unknown e = simp e

  in_words : is_state_at w i ≡ true → step_written w i (step_of store i) ≡ step_in w nodes versions tally i
  unfolding step_in
  in_words known = simp known

  denied : is_state_at w i ≡ true → (r : Refusal) → step_permit store i ≡ Err r
      → unchanged r w nodes versions tally ≡ step_written w i (step_of store i)
  unfolding step_of step_by
  denied known r e = simp (e, written_same w i known)

  pub step_denied : (r : Refusal) → step_permit_in w nodes versions tally i ≡ Err r
      → unchanged r w nodes versions tally ≡ step_in w nodes versions tally i
  step_denied r e = cases (is_state_at w i) refl
    where
      cases : (b : Bool) → is_state_at w i ≡ b → unchanged r w nodes versions tally ≡ step_in w nodes versions tally i
      cases true k = denied k r (permit_known k ∙ e) ∙ in_words k
      cases false k = ap (λ r. unchanged r w nodes versions tally) (sym (denied_is (permit_unknown k ∙ e))) ∙ unknown k

  -- ---- what is let pass

  module _ (known : is_state_at w i ≡ true) where
    -- the turn of the process that stands in its part of the words, and what its move leaves
    module _
        (events : ℕ)
        (counts : Counts)
        (v : Move)
        (m : Memory)
        (now : events ≡ (state_from w).events)
        (used : counts ≡ (state_from w).counts)
        (granted : step_permit store i ≡ (Ok tt))
        (few : i < limits.processes)
        (turned : moved m v ≡ transition_of (i + 1) (events + 1) (process_in w (start_of i)) (memory nodes versions counts))
      where
        found : process_in w (start_of i) ≡ process_at (state_from w) i
        found = sym (process_at_lem w i few)

        advance : Advance
        advance = advance_of (i + 1) ((state_from w).events + 1) (process_at (state_from w) i) (memory nodes versions (state_from w).counts) tally

        is : advance_by (events + 1) (process_in w (start_of i)) tally (moved m v) ≡ advance
        unfolding advance advance_of
        is =
            ap (advance_by (events + 1) (process_in w (start_of i)) tally) turned
            ∙ ap (λ e. advance_of (i + 1) (e + 1) (process_in w (start_of i)) (memory nodes versions counts) tally) now
            ∙ ap (λ p. advance_of (i + 1) ((state_from w).events + 1) p (memory nodes versions counts) tally) found
            ∙ ap (λ k. advance_of (i + 1) ((state_from w).events + 1) (process_at (state_from w) i) (memory nodes versions k) tally) used

        abbrev left : LeftIn → StepIn
        left l = stepped_in l.outcome l.words m.nodes m.versions l.tally

        abbrev leaving : LeftIn
        leaving = leave_in (events + 1) m.counts v w (start_of i) tally

        -- refused: the store's step leaves the state
        left_stays : refuses v ≡ true → left leaving ≡ step_written w i (step_of store i)
        unfolding advance advance_by
        left_stays e =
            let same : ◌≡◌ {A = List ℕ} leaving.words w = simp e in
            ap (λ u. left (record { outcome = leaving.outcome; words = u; tally = leaving.tally })) (same ∙ sym (written_same w i known))
            ∙ ap (λ a. step_written w i (stays store a)) is
            ∙ ap (step_written w i) (step_stays store i i (state_from w).counts refl refl granted advance refl (sym (ap (λ a. a.refused) is) ∙ e))

        -- moved: its process, the events and the counts are written over
        left_moves : refuses v ≡ false → left leaving ≡ step_written w i (step_of store i)
        unfolding advance advance_by
        left_moves e =
            let p = process_after (events + 1) (process_in w (start_of i)) v in
            let chosen : leaving.words ≡ evented w (start_of i) (events + 1) m.counts p = simp e in
            let over = chosen ∙ ap (λ n. evented w (start_of i) (n + 1) m.counts p) now ∙ written_over_lem w i p m.counts few in
            ap (λ u. left (record { outcome = leaving.outcome; words = u; tally = leaving.tally })) over
            ∙ ap (λ a. step_written w i (moves store i a)) is
            ∙ ap (step_written w i) (step_moves store i i (state_from w).counts refl refl granted advance refl (sym (ap (λ a. a.refused) is) ∙ e))

        pub step_left : (l : LeftIn) → l ≡ leaving → left l ≡ step_in w nodes versions tally i
        step_left l e = ap left e ∙ cases (refuses v) refl ∙ in_words known
          where
            cases : (b : Bool) → refuses v ≡ b → left leaving ≡ step_written w i (step_of store i)
            cases true e = left_stays e
            cases false e = left_moves e

-- the header behind a known first word
pub header_known : (w : List ℕ) → known_head w ≡ true → header_of (state_from w) ≡ take header_words (drop 1 w)
header_known w k = header_at w 8 (sym (by_none w 8 (known_head w) refl k (omega arith)))

-- ---- start

module _ (w : List ℕ) (i : ℕ) (permit : Permit) (call : ℕ → Call) where
  abbrev begins : StartIn
  begins = start_unless w i (start_by permit (state_from w) i (call ((state_from w).events + 1)))

  pub start_unknown : is_state_at w i ≡ false → started_in (Err Corrupt) w ≡ begins
  start_unknown e = simp e

  module _ (known : is_state_at w i ≡ true) where
    pub start_denied : (r : Refusal) → permit ≡ Err r → started_in (Err r) w ≡ begins
    unfolding start_by
    start_denied r e = simp (known, e, written_same w i known)

    begun_in_lem : permit ≡ (Ok tt)
        → started_in (Ok ((state_from w).events + 1))
        (written w i (with_event (state_from w) i (state_from w).counts (begun (call ((state_from w).events + 1))))) ≡ begins
    unfolding start_by
    begun_in_lem e = simp (known, e)

    -- the process at its walk in its own words, and the event
    pub start_granted : (j events : ℕ) (v : List ℕ) → permit ≡ (Ok tt) → events ≡ (state_from w).events → j ≡ i
        → i < limits.processes → ((tick : ℕ) → (call tick).start ≡ tick) → v ≡ begun_in w (start_of j) (call (events + 1))
        → started_in (Ok (events + 1)) v ≡ begins
    start_granted j events v e now slot few timed put =
        let tick = (state_from w).events + 1 in
        let q = begun (call tick) in
        ap (started_in (Ok (events + 1))) (put ∙ ap (λ j. begun_in w (start_of j) (call (events + 1))) slot)
        ∙ ap (λ n. started_in (Ok (n + 1)) (begun_in w (start_of i) (call (n + 1)))) now
        ∙ ap (started_in (Ok tick))
        (ap (λ t. evented w (start_of i) t (state_from w).counts q) (timed tick) ∙ written_over_lem w i q (state_from w).counts few)
        ∙ begun_in_lem e

-- ---- the calls that change nothing

module _ (w nodes versions : List ℕ) (k back : ℕ) where
  pub look_headless : known_head w ≡ false → Err Corrupt ≡ look_in w nodes versions k back
  unfolding look_in
  look_headless e = simp e

  pub look_by_lem : (permit : Permit) → known_head w ≡ true → look_permit (state_from w) nodes versions k ≡ permit
      → look_by permit (memory nodes versions (state_from w).counts) k back ≡ look_in w nodes versions k back
  unfolding look_in look_of
  look_by_lem permit known e = simp (known, e)

module _ (w : List ℕ) (i : ℕ) where
  pub status_unknown : is_state_at w i ≡ false → Err Corrupt ≡ status_in w i
  unfolding status_in
  status_unknown e = simp e

  pub status_by_lem : (permit : Permit) → is_state_at w i ≡ true → status_permit (state_from w) i ≡ permit
      → status_by permit (process_at (state_from w) i) ≡ status_in w i
  unfolding status_in status_of
  status_by_lem permit known e = simp (known, e)

pub below_long : (w : List ℕ) (n : ℕ) → is_state_below w n ≡ true → length w ≡ sizes.state
below_long w n k = head_long w (below_head w n (known_head w) refl k)
