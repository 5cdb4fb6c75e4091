-- A step is its advance put into the state.
use Rattle.model.specs.Types.{Stepping, Ok, Err}
use Prim.Native.Nat.{ℕ, ◌+◌}
use mathlib.Core.Bool.{true, false}
use mathlib.Core.List.{List}
use mathlib.Core.Path.{◌≡◌, sym, ap, ◌∙◌}
use Rattle.model.specs.declared.types.Counts.{Counts}
use Rattle.model.specs.declared.types.Move.{Move}
use Rattle.model.specs.declared.types.Process.{Process}
use Rattle.model.specs.declared.types.Refusal.TheVariants.{Damaged}
use Rattle.model.specs.Layout.{Memory}
use Rattle.model.specs.State.{process_at, memory_of, with_event}
use Rattle.model.specs.Phases.{Moved, moved, transition_of, refuses}
use Rattle.model.specs.Calls.{step_permit, Store, Stepped, step_by, step_of, process_after, outcome_of, tally_after}
use Rattle.model.proofs.Laws.{refused_is, transition_keeps}
use Rattle.tables.specs.Room.{memory}
use Rattle.calls.specs.Advance.{Advance, advance_by, advance_of}

-- ---- advance

-- a refusal leaves the process and the tally
pub refused_advance : (tick : ℕ) (p : Process) (tally : List ℕ) (v : Move) (m : Memory) → refuses v ≡ true
    → record {
      refused = true;
      outcome = Err Damaged;
      process = p;
      memory = m;
      tally = tally;
    } ≡ advance_by tick p tally (moved m v)
unfolding advance_by process_after outcome_of tally_after
refused_advance tick p tally v m e = simp (refused_is v e)

-- any other move is an advance of what it leaves
pub moved_advance : (tick : ℕ) (p : Process) (tally : List ℕ) (v : Move) (m : Memory) (o : Stepping) (q : Process) (t : List ℕ)
    → refuses v ≡ false → o ≡ outcome_of tick p.call v → q ≡ process_after tick p v → t ≡ tally_after tally v
    → record { refused = false; outcome = o; process = q; memory = m; tally = t } ≡ advance_by tick p tally (moved m v)
unfolding advance_by
moved_advance tick p tally v m o q t e f g h = simp (e, f, g, h)

-- ---- step

abbrev pub stays : Store → Advance → Stepped
stays w a = record {
  outcome = a.outcome;
  store = record { state = w.state; nodes = a.memory.nodes; versions = a.memory.versions; tally = a.tally };
}

abbrev pub moves : Store → ℕ → Advance → Stepped
moves w i a = record {
  outcome = a.outcome;
  store = record {
    state = with_event w.state i a.memory.counts a.process;
    nodes = a.memory.nodes;
    versions = a.memory.versions;
    tally = a.tally;
  };
}

abbrev advance_in : Store → (i j : ℕ) → Counts → Advance
advance_in w i j counts =
    advance_of (i + 1) (w.state.events + 1) (process_at w.state j) (memory w.nodes w.versions counts) w.tally

stays_by : (w : Store) (i : ℕ) (v : Moved) → refuses v.move ≡ true → v.memory ≡ memory_of w.state w.nodes w.versions
    → stays w (advance_by (w.state.events + 1) (process_at w.state i) w.tally v) ≡ step_by (Ok tt) w i v
unfolding advance_by step_by outcome_of tally_after
stays_by w i v e k = simp (refused_is v.move e, k)

moves_by : (w : Store) (i : ℕ) (v : Moved) → refuses v.move ≡ false
    → moves w i (advance_by (w.state.events + 1) (process_at w.state i) w.tally v) ≡ step_by (Ok tt) w i v
unfolding advance_by step_by
moves_by w i v e = simp e

-- the process was found at its slot, the counts in the header
module _
    (w : Store)
    (i j : ℕ)
    (counts : Counts)
    (slot : j ≡ i)
    (header : counts ≡ w.state.counts)
    (granted : step_permit w i ≡ (Ok tt))
    (a : Advance)
    (is : a ≡ advance_in w i j counts)
  where
    turned : Moved
    turned = transition_of (i + 1) (w.state.events + 1) (process_at w.state i) (memory_of w.state w.nodes w.versions)

    found : a ≡ advance_in w i i w.state.counts
    found = is ∙ ap (λ j. advance_in w i j counts) slot ∙ ap (advance_in w i i) header

    pub step_stays : a.refused ≡ true → stays w a ≡ step_of w i
    unfolding step_of advance_of advance_by turned
    step_stays e =
        let f = sym (ap (λ a. a.refused) found) ∙ e in
        ap (stays w) found
        ∙ stays_by w i turned f ((transition_keeps _ _ _ _).refused (refused_is _ f))
        ∙ sym (ap (λ p. step_by p w i turned) granted)

    pub step_moves : a.refused ≡ false → moves w j a ≡ step_of w i
    unfolding step_of advance_of advance_by turned
    step_moves e =
        let f = sym (ap (λ a. a.refused) found) ∙ e in
        ap (λ j. moves w j a) slot ∙ ap (moves w i) found
        ∙ moves_by w i turned f
        ∙ sym (ap (λ p. step_by p w i turned) granted)
