-- A step that is denied or let pass.
use Rattle.model.specs.Types.{Permit, Ok, Err}
use Rattle.model.specs.declared.types.Call.{Call}
use Rattle.model.specs.declared.types.Counts.{Counts}
use Rattle.model.specs.declared.types.Move.{Move}
use Rattle.model.specs.declared.types.Move.TheVariants.{Refuse, Wait, Go, Note, Commit, Show, End}
use Rattle.model.specs.declared.types.Process.{Process}
use Rattle.model.specs.declared.types.Progress.{Progress}
use Rattle.model.specs.declared.types.Refusal.{Refusal}
use Rattle.model.specs.declared.types.Refusal.TheVariants.{Damaged}
use Rattle.model.proofs.Laws.{transition_keeps}
use Rattle.process.specs.ProcessWords.{sizes, process_words, process_from}
use Rattle.process.proofs.RoundTrip.{process_from_lem, process_short}
use Rattle.transition.proofs.Laws.{level_fits}
use Rattle.calls.specs.Advance.{advance_by, advance_of}
use Rattle.calls.proofs.Laws.{refused_advance, moved_advance}
use mathlib.Core.List.{List}
use mathlib.Core.Path.{ap}
use lib.ListN.{length}
use Prim.Native.Nat.{ℕ, ◌<◌, ◌≤◌}
use mathlib.Core.Bool.{true, false}
use mathlib.Core.Path.{◌≡◌, refl, sym, ◌∙◌}
use native.Mathlib.Omega.{arith}
use Rattle.model.specs.Layout.{Memory, limits, top_level}
use Rattle.model.specs.Phases.{moved, transition_of, refuses}
use Rattle.model.specs.State.{process_at}
use Rattle.model.specs.Calls.{step_permit, Store, step_by, step_of, outcome_of, process_after, tally_after}
use Rattle.tables.specs.Room.{memory}
use Rattle.refusals.proofs.Laws.{may_step}
use Rattle.calls.specs.Advance.{Advance}
use Rattle.storestep.specs.Attempt.{attempt_of, advanced}
use Rattle.storestep.specs.declared.types.Advanced.{Advanced}
use Rattle.std.specs.Prelude.{Result}
use Rattle.calls.proofs.Laws.{stays, moves, step_stays, step_moves}

-- ---- one step of one process

-- only a refusing move is told as a refusal
refusing : (tick : ℕ) (call : Call) (v : Move) (r : Refusal) → outcome_of tick call v ≡ Err r → (v ≡ Refuse) × (r ≡ Damaged)
unfolding outcome_of
refusing tick call Refuse r e = (refl, cc)
refusing tick call Wait r e = cc
refusing tick call (Go c) r e = cc
refusing tick call (Note c) r e = cc
refusing tick call (Commit c a) r e = cc
refusing tick call (Show c x) r e = cc
refusing tick call (End a v t) r e = cc

not_refusing : (tick : ℕ) (call : Call) (v : Move) (o : Progress) → outcome_of tick call v ≡ Ok o → refuses v ≡ false
unfolding outcome_of
not_refusing tick call Refuse o e = cc
not_refusing tick call Wait o e = refl
not_refusing tick call (Go c) o e = refl
not_refusing tick call (Note c) o e = refl
not_refusing tick call (Commit c a) o e = refl
not_refusing tick call (Show c x) o e = refl
not_refusing tick call (End a v t) o e = refl

-- a process `p` in its words `w`, the memory lent, and what its transition left
module _
    (holder tick : ℕ)
    (p : Process)
    (w : List ℕ)
    (words : w ≡ process_words p)
    (long : length w ≡ sizes.process)
    (m : Memory)
    (tally : List ℕ)
    (v : Move)
    (nodes versions : List ℕ)
    (counts : Counts)
    (turned : moved (memory nodes versions counts) v ≡ transition_of holder tick (process_from w) m)
  where
    left : Memory
    left = memory nodes versions counts

    turned_of : moved left v ≡ transition_of holder tick p m
    unfolding left
    turned_of =
        let six = process_short p (sym (ap length words) ∙ long) in
        turned ∙ ap (λ (q : Process). transition_of holder tick q m) (ap process_from words ∙ process_from_lem p six)

    pub advance_refused : (r : Refusal) → outcome_of tick p.call v ≡ Err r
        → advanced p m.counts (Err r) nodes versions tally ≡ advance_of holder tick p m tally
    unfolding advance_of left
    advance_refused r e =
        let f = refusing tick p.call v r e in
        let keeps = (transition_keeps holder tick p m).refused (sym (ap (λ u. u.move) turned_of) ∙ f.0) in
        let same : left ≡ m = ap (λ u. u.memory) turned_of ∙ keeps in
        ap (λ k. advanced p k (Err r) nodes versions tally) (ap (λ (u : Memory). u.counts) (sym same))
        ∙ ap (λ r. advanced p counts (Err r) nodes versions tally) f.1
        ∙ refused_advance tick p tally v left (ap refuses f.0)
        ∙ ap (advance_by tick p tally) turned_of

    pub advance_level : (o : Progress) → outcome_of tick p.call v ≡ Ok o → p.cursor.level ≤ top_level
    advance_level o e = level_fits holder tick p m (sym (ap (λ u. refuses u.move) turned_of) ∙ not_refusing tick p.call v o e)

    pub advance_passed : (o : Progress) (q : Process) (t : List ℕ) → outcome_of tick p.call v ≡ Ok o → q ≡ process_after tick p v
        → t ≡ tally_after tally v
        → advanced p m.counts (Ok (record { progress = o; process = q; counts = counts })) nodes versions t
        ≡ advance_of holder tick p m tally
    unfolding advance_of left
    advance_passed o q t e f g =
        moved_advance tick p tally v left (Ok o) q t (not_refusing tick p.call v o e) (sym e) f g
        ∙ ap (advance_by tick p tally) turned_of

-- ---- in the state

-- denied or let pass
module _
    (w : Store)
    (i j : ℕ)
    (slot : i < limits.processes → j ≡ i)
    (permit : Permit)
    (tested : permit ≡ step_permit w i)
    (a : Advance)
    (is : a ≡ attempt_of permit i w.state.events (process_at w.state j) (memory w.nodes w.versions w.state.counts) w.tally)
  where
    at_slot : permit ≡ (Ok tt) → j ≡ i
    at_slot g =
        let f = (may_step w i tested g).start in
        let l = f.lawful.processes in
        slot (omega (arith, f.process))

    attempt_stays : a.refused ≡ true → stays w a ≡ step_of w i
    unfolding attempt_of step_of step_by
    attempt_stays e = cases permit refl
      where
        cases : (p : Permit) → permit ≡ p → stays w a ≡ step_of w i
        cases (Err r) k = simp (is, ← tested, k)
        cases (Ok _) k = step_stays w i j w.state.counts (at_slot k) refl (sym tested ∙ k) a (simp (is, k)) e

    attempt_passed : a.refused ≡ false → permit ≡ (Ok tt)
    unfolding attempt_of
    attempt_passed e = cases permit refl
      where
        cases : (p : Permit) → permit ≡ p → permit ≡ (Ok tt)
        cases (Err r) k = let z : true ≡ false = simp (is, k) at e in cc
        cases (Ok _) k = k

    attempt_moves : a.refused ≡ false → moves w j a ≡ step_of w i
    unfolding attempt_of
    attempt_moves e =
        let k = attempt_passed e in
        step_moves w i j w.state.counts (at_slot k) refl (sym tested ∙ k) a (simp (is, k)) e

-- the same of what the code hands back
module _
    (w : Store)
    (i j : ℕ)
    (slot : i < limits.processes → j ≡ i)
    (permit : Permit)
    (tested : permit ≡ step_permit w i)
    (r : Result Advanced Refusal)
    (nodes versions tally : List ℕ)
    (is : advanced (process_at w.state j) w.state.counts r nodes versions tally
    ≡ attempt_of permit i w.state.events (process_at w.state j) (memory w.nodes w.versions w.state.counts) w.tally)
  where
    abbrev pub handed : Result Advanced Refusal → Advance
    handed r = advanced (process_at w.state j) w.state.counts r nodes versions tally

    pub step_refused : (x : Refusal) → r ≡ Err x → stays w (handed (Err x)) ≡ step_of w i
    step_refused x e = attempt_stays w i j slot permit tested (handed (Err x)) (ap handed (sym e) ∙ is) refl

    pub step_granted : (a : Advanced) → r ≡ Ok a → permit ≡ (Ok tt)
    step_granted a e = attempt_passed w i j slot permit tested (handed (Ok a)) (ap handed (sym e) ∙ is) refl

    pub step_passed : (a : Advanced) → r ≡ Ok a → moves w j (handed (Ok a)) ≡ step_of w i
    step_passed a e = attempt_moves w i j slot permit tested (handed (Ok a)) (ap handed (sym e) ∙ is) refl
