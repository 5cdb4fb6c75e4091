-- One try after another: a try after which the run goes on, one after which it does not, and the last one.
use Rattle.std.proofs.Common.{ℕ, zero, suc, ◌<◌, Bool, true, false, not, List, ◌≡◌, refl, sym, ap, ◌∙◌}
use Rattle.std.specs.Prelude.{if◌then◌else◌}
use denote.Enum.Bare.{sameb}
use Rattle.interpreter.specs.contracts.types.Needs.{the_type}
use Rattle.interpreter.specs.declared.types.Needs.{Needs}
use Rattle.interpreter.specs.Playing.{Playing, goes_on, play_one, play_for}

-- the test of the code
pub goes_on_test : (n : Needs) (differs : Bool) → differs ≡ not (sameb the_type n Needs.Nothing) → goes_on n ≡ not differs
goes_on_test Needs.Nothing differs e = rw e refl
goes_on_test Needs.Page differs e = rw e refl
goes_on_test Needs.Bytes differs e = rw e refl
goes_on_test Needs.Over differs e = rw e refl

either : (t : Bool) (q : Playing) → (if t then q else q) ≡ q
either true q = refl
either false q = refl

module _ (bytes : List ℕ) (ended : Bool) (p q : Playing) (e : q ≡ play_one bytes ended p) where
  goes : (b : Bool) → goes_on q.needs ≡ b → goes_on (play_one bytes ended p).needs ≡ b
  goes b g = ap (λ (x : Playing). goes_on x.needs) (sym e) ∙ g

  pub again : (left after : ℕ) → left ≡ suc after → goes_on q.needs ≡ true → play_for after bytes ended q ≡ play_for left bytes ended p
  unfolding play_for
  again left after s g = rw s (simp (goes true g) (ap (play_for after bytes ended) e))

  pub stops : (left : ℕ) → 0 < left → goes_on q.needs ≡ false → q ≡ play_for left bytes ended p
  unfolding play_for
  stops zero h g = elim h [ ]
  stops (suc left) h g = simp (goes false g) e

  pub last : (left : ℕ) → left ≡ 1 → q ≡ play_for left bytes ended p
  unfolding play_for
  last left s = rw s (e ∙ sym (either (goes_on (play_one bytes ended p).needs) (play_one bytes ended p)))

pub none_left : (bytes : List ℕ) (ended : Bool) (p : Playing) (left : ℕ) → left ≡ 0 → p ≡ play_for left bytes ended p
unfolding play_for
none_left bytes ended p left s = rw s refl
