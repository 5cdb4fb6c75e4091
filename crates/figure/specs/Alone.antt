-- A call that is started and then ran alone does what the published procedures do: the statement. "Alone" means that no
-- other call is made before it ends; other stations may stand anywhere in calls of theirs.
use Rattle.std.specs.Prelude.{ℕ, zero, suc, ◌+◌, ◌*◌, ◌-◌, ◌≤◌, ◌<◌, true, List, [], ◌∷◌, ◌++◌, ◌≢◌, ◌≡◌, length, set}
use Rattle.model.specs.Layout.{Memory, lock}
use Rattle.model.specs.State.{idle_process, memory_of, lawful_key}
use Rattle.model.specs.Calls.{open_of, start_of, top_of, Store, step_of, counted, status_of}
use Rattle.model.specs.Requests as Requests
use Rattle.model.specs.System.{opened}
use Rattle.model.specs.History.{Action, perform_all, begin}
use Rattle.model.specs.ByValue.{with_state, Given, fresh_store, by_value}
use Rattle.figure.specs.Types.{Put, Get, Answer, New, Stepping, Ok, Progress, idle_status}
use Rattle.figure.specs.Figure.{HMAX, head, new, find_all, get, alone, insert_all, put}
use Rattle.figure.specs.Steps.{search_steps, steps_of}

-- ---- steps of one process

-- what its steps said, and the store that they left
pub record Ran : Type 0 where
  pub outcomes : List Stepping
  pub store : Store

-- n steps of process i, and nothing between them
unfoldable pub ran : Store → (i n : ℕ) → Ran
ran w i zero = record { outcomes = []; store = w }
ran w i (suc n) =
    let o = step_of w i in
    let rest = ran o.store i n in
    record { outcomes = o.outcome ∷ rest.outcomes; store = rest.store }

-- n steps that all moved on, the first with this tick: no wait, no refusal, no end
unfoldable pub moves : (tick n : ℕ) → List Stepping
moves tick zero = []
moves tick (suc n) = Ok (Progress.Moved tick) ∷ moves (tick + 1) n

-- ---- the stores

-- a store that a list of demand 3 leaves
pub record Reached (w : Store) : Type 0 where
  pub given : Given
  pub fresh : Store
  pub opens : by_value.fresh given ≡ opened fresh
  pub actions : List Action
  pub left : (perform_all (begin by_value given fresh) actions).store ≡ w

abbrev pub memory_in : Store → Memory
memory_in w = memory_of w.state w.nodes w.versions

-- the store n events later, with this memory; process i is idle, and its call's answer counted
abbrev pub rested : Store → (i n : ℕ) → Memory → Answer → Store
rested w i n m a = record {
  state = record {
    opened = w.state.opened;
    processes = w.state.processes;
    limit = w.state.limit;
    events = w.state.events + n;
    lengths = w.state.lengths;
    counts = m.counts;
    process = set w.state.process i idle_process;
  };
  nodes = m.nodes;
  versions = m.versions;
  tally = counted w.tally a;
}

-- ---- get

-- Whatever other calls stand half done: an accepted get, with events enough for its steps, ends at the last of them without a
-- wait. It answers what the figure's get answers on the tables, which are as they were.
abbrev pub GetAlone : Type 0
GetAlone = (w : Store) → Reached w → (bound : ℕ) → w.state.counts.nodes < bound → (i k start : ℕ)
    → let begun = start_of w.state w.nodes w.versions i (Requests.get k) in
    let m = memory_in w in
    let r = get bound m k in
    let n = steps_of bound m k r.answer 0 in
    begun.outcome ≡ Ok start → start + n ≤ w.state.limit
    → ran (with_state w begun.state) i n ≡ record {
      outcomes = moves (start + 1) (n - 1) ++ (Ok (Progress.Finished (record {
        kind = Get;
        answer = r.answer;
        value = r.version.value;
        timestamp = r.version.timestamp;
        start = start;
        effect = start + n;
        finish = start + n;
      })) ∷ []);
      store = rested w i (n + 1) m r.answer;
    }

-- ---- put

-- The locks that a put of key k with top level h and this answer needs are free: at a level that of the predecessor that findAll
-- finds there; above the bottom it comes only where it makes a node.
abbrev pub Free : (bound : ℕ) → Memory → (k h : ℕ) → Answer → Type 0
Free bound m k h a = (l : ℕ) → l ≤ h → (l ≢ 0 → a ≡ New) → lock m.nodes l (find_all bound m head k HMAX l).pred ≡ 0

-- An accepted put, where these locks are free and with events enough for its steps, ends at the last of them without a wait. It
-- leaves the tables and counts that the figure's put leaves, word for word, and gives its answer. It takes effect four steps
-- after its search.
abbrev pub PutAlone : Type 0
PutAlone = (w : Store) → Reached w → (bound : ℕ) → w.state.counts.nodes < bound → (i k v t draw start : ℕ)
    → let begun = start_of w.state w.nodes w.versions i (Requests.put k v t draw) in
    let m = memory_in w in
    let o = put alone i bound m k v t draw in
    let n = steps_of bound m k o.answer (top_of draw) in
    Free bound m k (top_of draw) o.answer → begun.outcome ≡ Ok start → start + n ≤ w.state.limit
    → ran (with_state w begun.state) i n ≡ record {
      outcomes = moves (start + 1) (n - 1) ++ (Ok (Progress.Finished (record {
        kind = Put;
        answer = o.answer;
        value = v;
        timestamp = t;
        start = start;
        effect = start + (search_steps bound m k + 4);
        finish = start + n;
      })) ∷ []);
      store = rested w i (n + 1) o.memory o.answer;
    }

-- No lock is held. That is so where no call is running, and then the locks are free that any put needs; and a put that is
-- ran alone there frees its locks again.
abbrev pub Unlocked : Memory → Type 0
Unlocked m = (l x : ℕ) → l ≤ HMAX → x ≤ m.counts.nodes → lock m.nodes l x ≡ 0

abbrev pub Resting : Store → Type 0
Resting w = (i : ℕ) → i < w.state.processes → status_of w.state i ≡ idle_status

abbrev pub RestUnlocks : Type 0
RestUnlocks = (w : Store) → Reached w → Resting w → Unlocked (memory_in w)

abbrev pub UnlockedFrees : Type 0
UnlockedFrees = (w : Store) → Reached w → Unlocked (memory_in w)
    → (bound : ℕ) → w.state.counts.nodes < bound → (k h : ℕ) (a : Answer) → lawful_key k ≡ true → h ≤ HMAX
    → Free bound (memory_in w) k h a

abbrev pub PutUnlocks : Type 0
PutUnlocks = (w : Store) → Reached w → Unlocked (memory_in w)
    → (bound : ℕ) → w.state.counts.nodes < bound → (i k v t draw : ℕ) → lawful_key k ≡ true
    → Unlocked (put alone i bound (memory_in w) k v t draw).memory

-- ---- a put that meets a lock that is held

-- n steps that all waited, the first with this tick
unfoldable pub waits : (tick n : ℕ) → List Stepping
waits tick zero = []
waits tick (suc n) = Ok (Progress.Waited tick) ∷ waits (tick + 1) n

-- the store n events later, and all else as it was
abbrev pub waited : Store → (n : ℕ) → Store
waited w n = record {
  state = record {
    opened = w.state.opened;
    processes = w.state.processes;
    limit = w.state.limit;
    events = w.state.events + n;
    lengths = w.state.lengths;
    counts = w.state.counts;
    process = w.state.process;
  };
  nodes = w.nodes;
  versions = w.versions;
  tally = w.tally;
}

-- n steps move on and leave this memory; after them every step waits, and changes only the event count
pub record Waits (begun : Store) (i start n : ℕ) (left : Memory) : Type 0 where
  pub comes : (ran begun i n).outcomes ≡ moves (start + 1) n
  pub leaves : memory_in (ran begun i n).store ≡ left
  pub stays : (more : ℕ) → start + n + more ≤ begun.state.limit
      → ran (ran begun i n).store i more
      ≡ record { outcomes = waits (start + n + 1) more; store = waited (ran begun i n).store more }

-- What the figure's put has left of memory when it comes to the lock of level l: at the bottom nothing is written yet, and above
-- it the levels below are done.
unfoldable pub left_below : (i bound : ℕ) → Memory → (k v t h l : ℕ) → Memory
left_below i bound m k v t h zero = m
left_below i bound m k v t h (suc l) = (insert_all alone i bound m (find_all bound m head k HMAX l).pred k v t h l).memory

-- Of the locks that a put needs, that of level l is the first that is held; it comes there if l is 0 or it makes a node.
abbrev pub PutWaits : Type 0
PutWaits = (w : Store) → Reached w → (bound : ℕ) → w.state.counts.nodes < bound → (i k v t draw l start : ℕ)
    → let begun = start_of w.state w.nodes w.versions i (Requests.put k v t draw) in
    let m = memory_in w in
    let h = top_of draw in
    let n = search_steps bound m k + 1 + 5 * l in
    l ≤ h → ((j : ℕ) → j < l → lock m.nodes j (find_all bound m head k HMAX j).pred ≡ 0)
    → lock m.nodes l (find_all bound m head k HMAX l).pred ≢ 0
    → (l ≢ 0 → (put alone i bound m k v t draw).answer ≡ New)
    → begun.outcome ≡ Ok start → start + n ≤ w.state.limit
    → Waits (with_state w begun.state) i start n (left_below i bound m k v t h l)

-- ---- new

-- The tables that an accepted opening leaves are those of the figure's `new`: the left sentinel as document 01 lays it out, every
-- link leading to the right one, and every lock made, whatever it held before.
abbrev pub OpensNew : Type 0
OpensNew = (nodes versions : List ℕ) (processes limit : ℕ)
    → (open_of nodes versions processes limit).result.outcome ≡ (Ok tt)
    → (bound : ℕ) → HMAX < bound → (unmade : ℕ)
    → memory_in (fresh_store (open_of nodes versions processes limit))
    ≡ new bound (length nodes) (length versions) unmade
