-- What a step on lent words may go by once it is let pass.
use Prim.Native.Nat.{ℕ, ◌<◌}
use mathlib.Core.Bool.{true}
use mathlib.Core.List.{List}
use mathlib.Core.Path.{◌≡◌, refl}
use native.Mathlib.Omega.{arith}
use lib.ListN.{length, get_or}
use Rattle.std.specs.Prelude.{Ok}
use Rattle.model.specs.Layout.{limits}
use Rattle.model.specs.Calls.{store_of, step_permit}
use Rattle.tables.specs.Room.{Lent}
use Rattle.refusals.proofs.Laws.{may_step}
use Rattle.process.specs.ProcessWords.{known_process}
use Rattle.layout.specs.StateWords.{state_from, is_state_at, part}
use Rattle.layout.proofs.Written.{part_facts, events_at}
use Rattle.lent.specs.Calls.{step_permit_in}
use Rattle.lent.proofs.Laws.{passed}

pub record Passes (w nodes versions tally : List ℕ) (i : ℕ) : Type 0 where
  pub known : is_state_at w i ≡ true
  pub permit : step_permit (store_of (state_from w) nodes versions tally) i ≡ Ok tt
  pub few : i < limits.processes
  pub unspent : get_or w 4 0 < limits.events
  pub process : known_process (part w i) ≡ true
  pub lent : Lent nodes versions (state_from w).counts
  pub tally_len : length tally ≡ limits.tally

pub passes : (w nodes versions tally : List ℕ) (i : ℕ) → step_permit_in w nodes versions tally i ≡ Ok tt → Passes w nodes versions tally i
passes w nodes versions tally i g =
    let p = passed w nodes versions tally i g in
    let f = may_step (store_of (state_from w) nodes versions tally) i refl p.1 in
    let few : i < limits.processes = omega (arith, f.start.process, f.start.lawful.processes) in
    record {
      known = p.0;
      permit = p.1;
      few = few;
      unspent = omega (arith, f.start.event, f.start.lawful.limit, events_at w);
      process = (part_facts w i p.0).1;
      lent = f.start.lawful.lent;
      tally_len = f.tally;
    }
