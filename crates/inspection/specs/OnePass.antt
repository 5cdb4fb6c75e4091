-- P2: "both checks should be made in one pass over a chain"; "Every answer is the one the two passes give." Both ways along a chain from
-- version i on, of at most `fuel` versions, with what an inspection answers at node x of level l. That the answers are the same on any
-- memory is proofs/OnePass `one_pass_lem`.
use Rattle.model.specs.Types.{Inspecting, no_fault, fault_at}
use Rattle.std.specs.Prelude.{ℕ, zero, suc, not, eqb, ltb, leb}
use Rattle.std.specs.Prelude.{if◌then◌else◌}
use Rattle.model.specs.Layout.{Memory, timestamp, prev}
use Rattle.model.specs.Phases.{used_version}
use Rattle.model.specs.Inspection.{chain_falls, chain_ages}

-- document 01: "the chain is followed for places, then again for stamps"
unfoldable pub two_passes : Memory → (level x fuel i : ℕ) → Inspecting
two_passes m l x fuel i =
    if not (chain_falls m fuel i) then fault_at l x
    else if not (chain_ages m fuel i) then fault_at l x
    else no_fault

-- at each version whether it is in use, then the place before it, then the timestamp there. So a timestamp that is wrong is met before a
-- place that is wrong further back, which the two passes meet first.
unfoldable pub one_pass : Memory → (level x fuel i : ℕ) → Inspecting
one_pass m l x zero i = no_fault
one_pass m l x (suc fuel) i =
    if not (used_version m i) then fault_at l x
    else if leb i (prev m.versions i) then fault_at l x
    else if eqb (prev m.versions i) 0 then no_fault
    else if ltb (timestamp m.versions i) (timestamp m.versions (prev m.versions i)) then fault_at l x
    else one_pass m l x fuel (prev m.versions i)
