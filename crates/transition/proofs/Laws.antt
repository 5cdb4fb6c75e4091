-- What a lawful process tells, and a phase and the test of a process that was read in its parts.
use Prim.Native.Nat.{ℕ, ◌≤◌}
use mathlib.Core.Bool.{Bool, true, false, and-eq-true_iff}
use mathlib.Core.List.{List}
use mathlib.Core.Path.{◌≡◌, refl, ap, ◌∙◌}
use native.Mathlib.Omega.{arith}
use Rattle.model.specs.declared.types.Call.{Call}
use Rattle.model.specs.declared.types.Cursor.{Cursor}
use Rattle.model.specs.declared.types.Effect.{Effect}
use Rattle.model.specs.declared.types.Process.{Process}
use Rattle.model.specs.declared.types.Move.TheVariants.{Refuse}
use Rattle.std.specs.Prelude.{if◌then◌else◌}
use Rattle.model.specs.Layout.{Memory, top_level}
use Rattle.model.specs.Phases.{Moved, moved, lawful_process, phase_of, transition_of, refuses}
use Rattle.model.proofs.Tests.{leb_iff}
use Rattle.transition.specs.Process.{process}

-- what the test of refusal 11 "at any step" tells of the cursor
pub lawful_facts : (p : Process) (m : Memory) → lawful_process p m ≡ true
    → (p.cursor.level ≤ top_level) × (p.cursor.pred ≤ m.counts.nodes)
unfolding lawful_process
lawful_facts p m h = let f = simp (and-eq-true_iff, leb_iff) at h in (f.0.0, f.0.1)

-- a phase of a process that was read in its parts
pub phase_by : (q : Process) (call : Call) (c : Cursor) (e : Effect) (preds : List ℕ) (holder tick : ℕ) (m : Memory) (left : Moved)
    → call ≡ q.call → c ≡ q.cursor → e ≡ q.effect → preds ≡ q.preds
    → left ≡ phase_of c.phase holder tick (process call c e preds) m → left ≡ phase_of q.cursor.phase holder tick q m
phase_by q call c e preds holder tick m left is_call is-cursor is-effect is-preds x =
    x ∙ ap (λ call. phase_of c.phase holder tick (process call c e preds) m) is_call
    ∙ ap (λ c. phase_of c.phase holder tick (process q.call c e preds) m) is-cursor
    ∙ ap (λ e. phase_of q.cursor.phase holder tick (process q.call q.cursor e preds) m) is-effect
    ∙ ap (λ preds. phase_of q.cursor.phase holder tick (process q.call q.cursor q.effect preds) m) is-preds

-- and the test of it
pub lawful_by : (q : Process) (call : Call) (c : Cursor) (e : Effect) (m : Memory) (b : Bool) → call ≡ q.call → c ≡ q.cursor
    → e ≡ q.effect → b ≡ lawful_process (process call c e q.preds) m → b ≡ lawful_process q m
lawful_by q call c e m b is_call is-cursor is-effect x =
    x ∙ ap (λ call. lawful_process (process call c e q.preds) m) is_call
    ∙ ap (λ c. lawful_process (process q.call c e q.preds) m) is-cursor
    ∙ ap (λ e. lawful_process (process q.call q.cursor e q.preds) m) is-effect

-- a move that is no refusal tells a lawful level
pub level_fits : (holder tick : ℕ) (p : Process) (m : Memory) → refuses (transition_of holder tick p m).move ≡ false
    → p.cursor.level ≤ top_level
unfolding transition_of
level_fits holder tick p m = cases (lawful_process p m) refl
  where
    cases : (b : Bool) → lawful_process p m ≡ b
        → refuses (if b then phase_of p.cursor.phase holder tick p m else moved m Refuse).move ≡ false
        → p.cursor.level ≤ top_level
    cases true e f = (lawful_facts p m e).0
    cases false e f = let z : ◌≡◌ {A = ℕ} 0 1 = cc in omega arith
