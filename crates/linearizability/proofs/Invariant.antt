-- The invariant of memory and processes: every level is a chain of rising keys, a process's predecessor lies before its
-- key, and the map's entries are the nodes in the order of making, each with the chain of its versions.
use Prim.Native.Nat.{ℕ, zero, suc, ◌+◌, ◌*◌, ◌≤◌, ◌<◌}
use mathlib.Core.List.{List, [], ◌∷◌}
use mathlib.Core.Logic.{◌≢◌}
use mathlib.Core.Path.{◌≡◌}
use lib.Dec.{T}
use lib.ListN.{length, get_or}
use Rattle.linearizability.specs.Types.{Idle, Phase, Walk, Read, Seek, Lock, Check, Update, Make, Link, Release, Follow, Class, Inserted, OtherPut, Hit, Miss, Scanned, None, Effect, Process, Version}
use Rattle.model.specs.Layout.{Memory, node_words, version_words, key, newest, top, next, lock, value, timestamp, prev, levels, top_level}
use Rattle.model.specs.Map.{Map, held}
use Rattle.model.specs.Roles.{is_put, is_get, is_scan, role_of, plays, class_of}
use Rattle.model.specs.Phases.{max_nodes, max_versions}
use Rattle.linearizability.proofs.Level.{Level}
use Rattle.linearizability.proofs.MapLaws.{no_entry}

-- ---- nodes

-- Ghost: `high x` is the number of levels at which node x is linked, `own x` the process that made it, plus 1.
pub record Ghost : Type 0 where
  pub high : ℕ → ℕ
  pub own : ℕ → ℕ

-- node x is linked at level l
abbrev pub In : Memory → Ghost → ℕ → ℕ → Type 0
In m g l x = (x ≤ m.counts.nodes) × (l < g.high x)

pub record Nodes (m : Memory) (g : Ghost) : Type 0 where
  pub size : length m.nodes ≡ node_words * max_nodes m + node_words
  pub room : m.counts.nodes ≤ max_nodes m
  pub head_key : key m.nodes 0 ≡ 0
  pub head_high : g.high 0 ≡ levels
  pub high : (x : ℕ) → x ≤ m.counts.nodes → (1 ≤ g.high x) × (g.high x ≤ levels)
  pub inj : (x y : ℕ) → x ≤ m.counts.nodes → y ≤ m.counts.nodes → key m.nodes x ≡ key m.nodes y → x ≡ y
  pub levels : (l : ℕ) → Level (In m g l) (key m.nodes) (next m.nodes l)

-- ---- versions

-- the versions from place i on, of a table with n versions in use: places fall
abbrev pub Chain : List ℕ → ℕ → ℕ → List Version → Type 0
Chain t n i [] = i ≡ 0
Chain t n i (v ∷ vs) =
    (1 ≤ i) × (i ≤ n) × (value t i ≡ v.value) × (timestamp t i ≡ v.timestamp) × (prev t i < i) × Chain t n (prev t i) vs

-- timestamps do not rise from the newest version back
abbrev pub Below : ℕ → List Version → Type 0
Below t [] = Unit {0}
Below t (v ∷ vs) = v.timestamp ≤ t

abbrev pub Sorted : List Version → Type 0
Sorted [] = Unit {0}
Sorted (v ∷ vs) = Below v.timestamp vs × Sorted vs

-- the map that memory holds: entry i is node i + 1
pub record Book (m : Memory) (b : Map) : Type 0 where
  pub size : length m.versions ≡ version_words * max_versions m + version_words
  pub room : m.counts.versions ≤ max_versions m
  pub count : length b ≡ m.counts.nodes
  pub sum : m.counts.versions ≡ held b
  pub keys : (i : ℕ) → i < m.counts.nodes → (get_or b i no_entry).key ≡ key m.nodes (suc i)
  pub places : (i : ℕ) → i < m.counts.nodes
      → (1 ≤ newest m.nodes (suc i)) × (newest m.nodes (suc i) ≤ m.counts.versions)
  pub chains : (i : ℕ) → i < m.counts.nodes
      → Chain m.versions m.counts.versions (newest m.nodes (suc i)) (get_or b i no_entry).versions
  pub sorted : (i : ℕ) → i < m.counts.nodes → Sorted (get_or b i no_entry).versions

-- ---- a process

-- p is linked at level l and lies before k
pub record At (m : Memory) (g : Ghost) (l p k : ℕ) : Type 0 where
  pub used : p ≤ m.counts.nodes
  pub up : l < g.high p
  pub low : key m.nodes p < k

-- its predecessor and every remembered one (the head until set) lie before its key
pub record Placed (m : Memory) (g : Ghost) (top : ℕ) (preds : List ℕ) (l p k : ℕ) : Type 0 where
  pub top5 : top ≤ top_level
  pub six : length preds ≡ levels
  pub spot : At m g l p k
  pub memo : (j : ℕ) → j < levels → At m g j (get_or preds j 0) k

abbrev pub PlacedOf : Memory → Ghost → Process → Type 0
PlacedOf m g pr = Placed m g pr.call.top pr.preds pr.cursor.level pr.cursor.pred pr.call.key

-- p's link at l is the end or leads past k
abbrev pub Clear : Memory → ℕ → ℕ → ℕ → Type 0
Clear m l p k = next m.nodes l p ≢ 0 → (next m.nodes l p ≤ m.counts.nodes) × (k < key m.nodes (next m.nodes l p))

-- p's link at l leads to k's node
pub record Target (m : Memory) (l p k : ℕ) : Type 0 where
  pub some : next m.nodes l p ≢ 0
  pub used : next m.nodes l p ≤ m.counts.nodes
  pub key_is : key m.nodes (next m.nodes l p) ≡ k

-- a get has found its node
pub record FoundAt (m : Memory) (l p k : ℕ) : Type 0 where
  pub low : l ≡ 0
  pub used : p ≤ m.counts.nodes
  pub pos : 1 ≤ p
  pub key_is : key m.nodes p ≡ k

-- node x was made by process i for key k with this top, and is linked at the levels below `height`
pub record Made (m : Memory) (g : Ghost) (i x k tp height : ℕ) : Type 0 where
  pub used : x ≤ m.counts.nodes
  pub pos : 1 ≤ x
  pub height_is : g.high x ≡ height
  pub mine : g.own x ≡ suc i
  pub key_is : key m.nodes x ≡ k
  pub top_is : top m.nodes x ≡ tp

-- the process holds the lock of its predecessor at its level
abbrev pub Holds : Memory → ℕ → (l p : ℕ) → Type 0
Holds m i l p = lock m.nodes l p ≡ suc i

abbrev pub Unset : Effect → Type 0
Unset e = (e.tick ≡ 0) × (e.answer ≡ None)

-- a put before its release: without effect at level 0, climbing with its node above
abbrev pub Stage : Memory → Ghost → ℕ → Effect → (top made key level : ℕ) → Type 0
Stage m g i e tp x k zero = Unset e
Stage m g i e tp x k (suc l) = (e.tick ≢ 0) × (class_of e.answer ≡ Inserted) × (suc l ≤ tp) × Made m g i x k tp (suc l)

-- a put at its release
abbrev pub Settled : Memory → Ghost → ℕ → (top made key level : ℕ) → Class → Type 0
Settled m g i tp x k l Inserted = (l ≤ tp) × Made m g i x k tp (suc l)
Settled m g i tp x k l OtherPut = Unit {0}
Settled m g i tp x k l Hit = ⊥
Settled m g i tp x k l Miss = ⊥
Settled m g i tp x k l Scanned = ⊥

abbrev pub StageOf : Memory → Ghost → ℕ → Process → Type 0
StageOf m g i pr = Stage m g i pr.effect pr.call.top pr.cursor.made pr.call.key pr.cursor.level

abbrev pub SettledOf : Memory → Ghost → ℕ → Process → Type 0
SettledOf m g i pr = Settled m g i pr.call.top pr.cursor.made pr.call.key pr.cursor.level (class_of pr.effect.answer)

abbrev pub HoldsOf : Memory → ℕ → Process → Type 0
HoldsOf m i pr = Holds m i pr.cursor.level pr.cursor.pred

abbrev pub ClearOf : Memory → Process → Type 0
ClearOf m pr = Clear m pr.cursor.level pr.cursor.pred pr.call.key

abbrev pub TargetOf : Memory → Process → Type 0
TargetOf m pr = Target m pr.cursor.level pr.cursor.pred pr.call.key

abbrev pub FoundOf : Memory → Process → Type 0
FoundOf m pr = FoundAt m pr.cursor.level pr.cursor.pred pr.call.key

-- what is known of a call by its phase
abbrev pub AtPhase : Memory → Ghost → ℕ → Process → Phase → Type 0
AtPhase m g i pr Walk = PlacedOf m g pr × Unset pr.effect
AtPhase m g i pr Read = FoundOf m pr × (pr.effect.tick ≡ 0)
AtPhase m g i pr Seek = PlacedOf m g pr × StageOf m g i pr
AtPhase m g i pr Lock = PlacedOf m g pr × StageOf m g i pr
AtPhase m g i pr Check = PlacedOf m g pr × StageOf m g i pr × HoldsOf m i pr
AtPhase m g i pr Update = PlacedOf m g pr × StageOf m g i pr × HoldsOf m i pr × (pr.cursor.level ≡ 0) × TargetOf m pr
AtPhase m g i pr Make = PlacedOf m g pr × StageOf m g i pr × HoldsOf m i pr × (pr.cursor.level ≡ 0) × ClearOf m pr
AtPhase m g i pr Link = PlacedOf m g pr × StageOf m g i pr × HoldsOf m i pr × (1 ≤ pr.cursor.level) × ClearOf m pr
AtPhase m g i pr Release = PlacedOf m g pr × (pr.effect.tick ≢ 0) × HoldsOf m i pr × SettledOf m g i pr
AtPhase m g i pr Follow = (pr.cursor.level ≡ 0) × In m g 0 pr.cursor.pred × Unset pr.effect

abbrev pub Puts : Process → Type 0
Puts pr = T (is_put pr.call.kind)

abbrev pub Gets : Process → Type 0
Gets pr = T (is_get pr.call.kind)

abbrev pub Scans : Process → Type 0
Scans pr = T (is_scan pr.call.kind)

-- the process is in order: what call it has goes through its phase, and what is known there holds
pub record Fits (m : Memory) (g : Ghost) (i : ℕ) (pr : Process) : Type 0 where
  pub phase : Phase
  pub phase_is : pr.cursor.phase ≡ phase
  pub role : pr.call.kind ≢ Idle → T (plays pr.call.kind (role_of phase))
  pub ok : pr.call.kind ≢ Idle → AtPhase m g i pr phase

pub fits_at : {m : Memory} {g : Ghost} {i : ℕ} {pr : Process} (ph : Phase) → pr.cursor.phase ≡ ph
    → T (plays pr.call.kind (role_of ph)) → AtPhase m g i pr ph → Fits m g i pr
fits_at ph e r o = record { phase = ph; phase_is = e; role = λ n. r; ok = λ n. o }

-- the put has made node x and is still at work on it
pub record Climbs (pr : Process) (x : ℕ) : Type 0 where
  pub kind : Puts pr
  pub answer : class_of pr.effect.answer ≡ Inserted
  pub made : pr.cursor.made ≡ x

-- a node that the process has not in hand is linked up to its top: kept by a step, at one node
abbrev pub Risen : (m m' : Memory) (g g' : Ghost) (pr pr' : Process) → Type 0
Risen m m' g g' pr pr' = (x : ℕ) → x ≤ m'.counts.nodes
    → (x ≤ m.counts.nodes → ¬ (Climbs pr x) → g.high x ≡ suc (top m.nodes x))
    → ¬ (Climbs pr' x) → g'.high x ≡ suc (top m'.nodes x)
