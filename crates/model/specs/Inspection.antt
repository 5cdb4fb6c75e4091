-- Document 01, "Inspection": the walk of every level along the links, to the first fault.
use Rattle.std.specs.Prelude.{ℕ, zero, suc, ◌+◌, Bool, true, false, not, ◌&&◌, List, eqb, ltb, leb}
use Rattle.model.specs.Types.{State, Corrupt, Busy, Permit, Ok, Err, Inspecting, Some, Option, no_fault, fault_at}
use Rattle.std.specs.Prelude.{if◌then◌else◌}
use Rattle.model.specs.Layout.{Memory, levels, key, newest, top, next, lock, timestamp, prev}
use Rattle.model.specs.State.{process_at, memory_of, lawful_store}
use Rattle.model.specs.Phases.{used_version}
use Rattle.model.specs.Calls.{deny_if}
use Rattle.model.specs.Roles.{is_idle}

-- "a reading place that is 0 or not in use, a previous place not smaller": the chain from version i, of at most `fuel` versions
unfoldable pub chain_falls : Memory → (fuel i : ℕ) → Bool
chain_falls m zero i = true
chain_falls m (suc fuel) i =
    if not (used_version m i) then false
    else if leb i (prev m.versions i) then false
    else if eqb (prev m.versions i) 0 then true
    else chain_falls m fuel (prev m.versions i)

-- "or an older reading with a greater stamp (the chain is followed for places, then again for stamps)"
unfoldable pub chain_ages : Memory → (fuel i : ℕ) → Bool
chain_ages m zero i = true
chain_ages m (suc fuel) i =
    if eqb (prev m.versions i) 0 then true
    else if ltb (timestamp m.versions i) (timestamp m.versions (prev m.versions i)) then false
    else chain_ages m fuel (prev m.versions i)

-- the chain of node x: one turn more than versions in use, so that the first place is tested even where none is
unfoldable pub chain_sound : Memory → ℕ → Bool
chain_sound m x =
    let i = newest m.nodes x in
    let fuel = m.counts.versions + 1 in
    chain_falls m fuel i && chain_ages m fuel i

-- "at level 0, for a node other than 0"
unfoldable pub versions_sound : Memory → (level x : ℕ) → Bool
versions_sound m zero zero = true
versions_sound m zero (suc x) = chain_sound m (suc x)
versions_sound m (suc l) x = true

-- the nodes 1 to n whose top reaches a level
unfoldable pub reaching : List ℕ → (level n : ℕ) → ℕ
reaching t l zero = 0
reaching t l (suc n) = (if leb l (top t (suc n)) then 1 else 0) + reaching t l n

-- "at the node reached, its lock at this level not 0; at level 0, [its versions]; its link not in use; the next tray
-- number not greater; the next node's top below the level; at the level's end, fewer nodes seen than those whose top
-- reaches it (node 0 not counted)": from node x on, of at most `fuel` nodes
unfoldable pub level_from : Memory → (level fuel seen x : ℕ) → Inspecting
level_from m l zero seen x = no_fault
level_from m l (suc fuel) seen x =
    let y = next m.nodes l x in
    if not (eqb (lock m.nodes l x) 0) then fault_at l x
    else if not (versions_sound m l x) then fault_at l x
    else if eqb y 0 then
    (if ltb seen (reaching m.nodes l m.counts.nodes) then fault_at l x else no_fault)
    else if ltb m.counts.nodes y then fault_at l x
    else if leb (key m.nodes y) (key m.nodes x) then fault_at l x
    else if ltb (top m.nodes y) l then fault_at l x
    else level_from m l fuel (seen + 1) y

abbrev pub then_inspect : Inspecting → Inspecting → Inspecting
then_inspect (Err r) rest = Err r
then_inspect (Ok (Some f)) rest = Ok (Some f)
then_inspect (Ok Option.None) rest = rest

-- "For levels 0 to 5, along the links from node 0, the inspection stops at the first fault"; "The answer is sound, or level
-- and node reached.": `left` levels from l on.
-- Keys rise along the links, so no level has more nodes than are in use.
unfoldable pub levels_from : Memory → (left level : ℕ) → Inspecting
levels_from m zero l = no_fault
levels_from m (suc left) l = then_inspect (level_from m l (m.counts.nodes + 1) 0 0) (levels_from m left (l + 1))

unfoldable pub inspection : Memory → Inspecting
inspection m = levels_from m levels 0

-- "7 busy (also inspection while any station below the count has a call)"
unfoldable pub idle_below : State → ℕ → Bool
idle_below s zero = true
idle_below s (suc n) = is_idle (process_at s n).call.kind && idle_below s n

-- "Inspection: 10, 7."
unfoldable pub inspect_permit : State → (nodes versions : List ℕ) → Permit
inspect_permit s nodes versions =
    deny_if (not (lawful_store s nodes versions)) Corrupt
    (deny_if (not (idle_below s s.processes)) Busy
    (Ok tt))

unfoldable pub inspect_by : Permit → Memory → Inspecting
inspect_by (Err r) m = Err r
inspect_by (Ok _) m = inspection m

unfoldable pub inspect_of : State → (nodes versions : List ℕ) → Inspecting
inspect_of s nodes versions = inspect_by (inspect_permit s nodes versions) (memory_of s nodes versions)
