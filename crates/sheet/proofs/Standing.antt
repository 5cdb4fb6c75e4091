-- Where a run stands: supplied where it needs no bytes, ready for its first round, or over.
use Prim.Native.Nat.{ℕ, ◌≤◌}
use mathlib.Core.Bool.{Bool, true, true≢false}
use mathlib.Core.Path.{◌≡◌, refl, sym, ap, ◌∙◌}
use native.Mathlib.Omega.{arith}
use Rattle.decoder.specs.Commands.{longest_command}
use denote.Enum.Bare.{sameb}
use Rattle.interpreter.specs.contracts.types.Needs.{the_type}
use Rattle.interpreter.specs.declared.types.Needs.{Needs}
use Rattle.interpreter.specs.Playing.{goes_on}
use Rattle.interpreter.specs.Rounds.{is_over}
use Rattle.sheet.specs.declared.types.Run.{Run}
use Rattle.sheet.specs.Runs.{InBuffer, Ready, Supplied, first_run}

-- a run that needs no bytes is supplied, and ready wherever those that it holds lie inside the buffer
pub nothing_needed : (r : Run) → r.needs ≡ Needs.Nothing → Supplied r
nothing_needed r e n = true≢false (ap goes_on (sym e ∙ n))

pub page_needed : (r : Run) → r.needs ≡ Needs.Page → Supplied r
page_needed r e n = let z : ◌≡◌ {A = ℕ} 0 1 = cc in omega (arith, z)

pub over_needs : (r : Run) → r.needs ≡ Needs.Over → Supplied r
over_needs r e n = true≢false (ap is_over (sym e ∙ n))

module _ (r : Run) (size : ℕ) (inside : InBuffer r size) where
  supplied : Supplied r → Ready r size × Supplied r
  supplied s = (record { inside = inside; room = λ n. absurd (s n) }, s)

  pub go_on : r.needs ≡ Needs.Nothing → Ready r size × Supplied r
  go_on e = supplied (nothing_needed r e)

  pub over : r.needs ≡ Needs.Over → Ready r size × Supplied r
  over e = supplied (over_needs r e)

pub first_ready : (size : ℕ) → longest_command ≤ size → Ready first_run size
first_ready size h = record {
  inside = record { from = omega arith; end = omega arith };
  room = λ n. omega (arith, h);
}

-- the test of the code
pub over_test : (n : Needs) (same : Bool) → same ≡ sameb the_type n Needs.Over → is_over n ≡ same
over_test Needs.Nothing same e = sym e
over_test Needs.Page same e = sym e
over_test Needs.Bytes same e = sym e
over_test Needs.Over same e = sym e

-- the one need of a run that is over
pub is_over_lem : (n : Needs) → is_over n ≡ true → n ≡ Needs.Over
is_over_lem Needs.Nothing e = absurd (true≢false (sym e))
is_over_lem Needs.Page e = absurd (true≢false (sym e))
is_over_lem Needs.Bytes e = absurd (true≢false (sym e))
is_over_lem Needs.Over e = refl
