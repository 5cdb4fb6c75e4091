-- Figure 1 of document 001, "Pseudocode for the lazy JellyFish skip list", over the store's two tables: each procedure under
-- its own name, in the spelling of this language, and under a quotation of its lines. Nothing here knows of steps.
-- A pointer to a node is the node's number: node 0 is the left sentinel, and as a successor 0 is the right one, which has no
-- record. A pointer to a value is the version's index, and NULL is 0.
-- Added to the figure, each said where it enters: the fixed tables and their "full" answers; and, since these are functions of
-- memory, the bound of a recursion, the process that runs it, and what others do while `acquire` waits.
use Rattle.std.specs.Prelude.{ℕ, zero, suc, ◌+◌, ◌*◌, List, eqb, ltb, leb, replicate}
use Rattle.std.proofs.Math.Option.{Option, none, some}
use Rattle.std.proofs.lemmas.List.Edits.{sets}
use Rattle.figure.specs.Types.{Answer, TooOld, VersionsFull, Added, KeysFull, New, Found, None}
use Rattle.std.specs.Prelude.{if◌then◌else◌}
use Rattle.model.specs.Layout.{limits, node_words, top_level, node_with, Memory, key, newest, next, timestamp, version_at, with_newest, with_next, with_lock, with_version}
use Rattle.model.specs.Numbers.{no_version}
use Rattle.model.specs.Map.{Reply}
use Rattle.model.specs.Phases.{max_nodes, max_versions}
use Rattle.model.specs.Calls.{top_of}

-- ---- nodes

abbrev pub HMAX : ℕ
HMAX = top_level

abbrev pub NULL : ℕ
NULL = 0

-- "two nodes, referred to as the left and right sentinels, with keys MIN and MAX [..]; these values bound the range of valid
-- keys": trays 0 and, by P3, 18,446,744,073,709,551,615, which start no call
abbrev pub MIN : ℕ
MIN = 0

abbrev pub MAX : ℕ
MAX = suc limits.key

-- the node that `p` points to
abbrev pub head : ℕ
head = 0

-- document 01: "Link 0 means the end, above every tray number."
abbrev pub tail : ℕ
tail = 0

-- succ.key
unfoldable pub key_of : Memory → (succ : ℕ) → ℕ
key_of m succ = if eqb succ tail then MAX else key m.nodes succ

-- newlock (): a lock that is free
abbrev pub newlock : ℕ
newlock = 0

-- ref (k, val, locks, next) as the record of node n, with its top level h in document 01's word 2
unfoldable pub ref_node : (nodes : List ℕ) → (n k val h : ℕ) → (locks next : List ℕ) → List ℕ
ref_node nodes n k val h locks next = sets nodes (node_words * n) (node_with k val h next locks)

-- AllocN n value: fixed tables, so every record of the node table has room for HMAX + 1 links and locks
abbrev pub AllocN : (n value : ℕ) → List ℕ
AllocN n value = replicate n value

abbrev pub with_nodes : Memory → List ℕ → Memory
with_nodes m nodes = record { nodes = nodes; versions = m.versions; counts = m.counts }

-- ---- new

-- initLocks locks lvl ≜
--   if lvl = HMAX + 1 then ()
--   else locks + lvl ← newlock ();
--        initLocks locks (lvl + 1)
-- `locks` are the left sentinel's. A bound above HMAX is enough, and a greater one changes nothing (`opens_new`).
unfoldable pub init_locks : (bound : ℕ) → (locks : List ℕ) → (lvl : ℕ) → List ℕ
init_locks zero locks lvl = locks
init_locks (suc bound) locks lvl =
    let further = init_locks bound (with_lock locks lvl head newlock) (lvl + 1) in
    if eqb lvl (HMAX + 1) then locks else further

-- new ≜
--   let tail = (MAX, NULL, NULL, NULL) in
--   let next = AllocN (HMAX + 1) (ref tail) in
--   let locks = AllocN (HMAX + 1) () in
--   initLocks locks 0;
--   ref (MIN, NULL, locks, next)
-- Fixed tables: they are lent, so many words long, and zeroed; the left sentinel is the first record of the node table. `()` is
-- whatever a lock holds that is not yet made.
unfoldable pub new : (bound : ℕ) → (nodes versions : ℕ) → (unmade : ℕ) → Memory
new bound nodes versions unmade =
    let next = AllocN (HMAX + 1) tail in
    let locks = AllocN (HMAX + 1) unmade in
    record {
      nodes = init_locks bound (ref_node (replicate nodes 0) head MIN NULL HMAX locks next) 0;
      versions = replicate versions 0;
      counts = record { nodes = 0; versions = 0 };
    }

-- ---- the search

-- (pred, succ)
pub record Pair : Type 0 where
  pub pred : ℕ
  pub succ : ℕ

-- find pred k lvl ≜
--   let succ = !!(pred.next + lvl) in
--   if k ≤ succ.key then (pred, succ)
--   else find succ k lvl
-- The bound: a find that may make as many hops as there are nodes in use stops at its test (`find_finds`).
unfoldable pub find : (bound : ℕ) → Memory → (pred k lvl : ℕ) → Pair
find zero m pred k lvl = record { pred = pred; succ = next m.nodes lvl pred }
find (suc bound) m pred k lvl =
    let succ = next m.nodes lvl pred in
    let further = find bound m succ k lvl in
    if leb k (key_of m succ) then record { pred = pred; succ = succ } else further

-- findAll pred k lvl h ≜
--   let (pred, succ) = find pred k lvl in
--   if lvl = h then (pred, succ)
--   else findAll pred k (lvl - 1) h
-- It is called with h at most lvl, so level 0 is the last. The text beside the figure lets a search end where it meets the key in
-- an upper level; the figure goes to level h always, and document 01 says: "the figure decides".
unfoldable pub find_all : (bound : ℕ) → Memory → (pred k lvl h : ℕ) → Pair
find_all bound m pred k zero h = find bound m pred k 0
find_all bound m pred k (suc l) h =
    let found = find bound m pred k (suc l) in
    let further = find_all bound m found.pred k l h in
    if eqb (suc l) h then found else further

-- ---- get

-- get p k ≜
--   let (_, succ) = findAll !p k HMAX 0 in
--   if k ≠ succ.key then None
--   else let v = !(succ.val) in Some (v.val, v.ts)
-- Its None is document 01's none, its Some found.
unfoldable pub get : (bound : ℕ) → Memory → (k : ℕ) → Reply
get bound m k =
    let succ = (find_all bound m head k HMAX 0).succ in
    let v = newest m.nodes succ in
    if eqb k (key_of m succ) then record { answer = Found; version = version_at m.versions v }
    else record { answer = None; version = no_version }

-- ---- put

-- what a procedure that inserts leaves: memory, document 01's answer, and the figure's result: the new node, or None
pub record Inserted : Type 0 where
  pub memory : Memory
  pub answer : Answer
  pub node : Option ℕ

-- link pred lvl n ≜
--   let new = !n in
--   new.next + lvl ← !(pred.next + lvl);
--   new.locks + lvl ← newlock ();
--   pred.next + lvl ← n
unfoldable pub link : Memory → (pred lvl n : ℕ) → Memory
link m pred lvl n =
    let linked = with_next m.nodes lvl n (next m.nodes lvl pred) in
    let locked = with_lock linked lvl n newlock in
    with_nodes m (with_next locked lvl pred n)

-- createAndLink pred k v t h ≜
--   let next = AllocN (h + 1) () in
--   let locks = AllocN (h + 1) () in
--   let val = ref (v, t, NULL) in
--   let n = ref (k, val, locks, next) in
--   link pred 0 n;
--   n
-- Fixed tables: n and val are the next records of their tables, and what they are not given is 0 (document 01: "its other links
-- and its locks are 0").
unfoldable pub create : Memory → (k v t h : ℕ) → Memory
create m k v t h =
    let next = AllocN (HMAX + 1) 0 in
    let locks = AllocN (HMAX + 1) 0 in
    let val = m.counts.versions + 1 in
    let n = m.counts.nodes + 1 in
    record {
      nodes = ref_node m.nodes n k val h locks next;
      versions = with_version m.versions val (record { value = v; timestamp = t }) NULL;
      counts = record { nodes = n; versions = val };
    }

-- and where one of them has no record left, nothing is made: trays full, or readings full
unfoldable pub create_and_link : Memory → (pred k v t h : ℕ) → Inserted
create_and_link m pred k v t h =
    let n = m.counts.nodes + 1 in
    if leb (max_nodes m) m.counts.nodes then record { memory = m; answer = KeysFull; node = none }
    else if leb (max_versions m) m.counts.versions then record { memory = m; answer = VersionsFull; node = none }
    else record { memory = link (create m k v t h) pred 0 n; answer = New; node = some n }

-- update node v t ≜
--   let val = !(node.val) in
--   if t < val.ts then ()
--   else node.val ← (v, t, ref val)
-- Fixed tables: the new value is the next record of its table, and the older one stays where it is; where no record is left,
-- readings full.
unfoldable pub update : Memory → (node v t : ℕ) → Inserted
update m node v t =
    let val = newest m.nodes node in
    let place = m.counts.versions + 1 in
    let updated : Memory = record {
      nodes = with_newest m.nodes node place;
      versions = with_version m.versions place (record { value = v; timestamp = t }) val;
      counts = record { nodes = m.counts.nodes; versions = place };
    } in
    if ltb t (timestamp m.versions val) then record { memory = m; answer = TooOld; node = none }
    else if leb (max_versions m) m.counts.versions then record { memory = m; answer = VersionsFull; node = none }
    else record { memory = updated; answer = Added; node = none }

-- with the lock that findLock took
pub record Locked : Type 0 where
  pub memory : Memory
  pub pred : ℕ
  pub succ : ℕ

-- release lock
abbrev pub release : Memory → (pred lvl : ℕ) → Memory
release m pred lvl = with_nodes m (with_lock m.nodes lvl pred newlock)

-- what others do where a call is alone: nothing
abbrev pub alone : Memory → Memory
alone m = m

-- The procedures below are run by process i: document 01's lock names its holder.
module _ (others : Memory → Memory) (i : ℕ) where
  -- acquire lock: it waits until the lock is free and takes it, in the memory that `others` have made by then. (Where nobody
  -- frees it the figure waits for ever, and so do the steps: `PutWaits`.)
  abbrev pub acquire : Memory → (pred lvl : ℕ) → Memory
  acquire m pred lvl = with_nodes (others m) (with_lock (others m).nodes lvl pred (i + 1))

  -- findLock pred k lvl ≜
  --   let (pred, _) = find pred k lvl in
  --   let lock = !(pred.locks + lvl) in
  --   acquire lock;
  --   let succ = !!(pred.next + lvl) in
  --   if k ≤ succ.key then (pred, succ)
  --   else release lock;
  --        findLock succ k lvl
  -- The bound is that of its finds and of its own rounds. A call that is alone makes one round (`find_lock_lem`).
  unfoldable pub find_lock : (bound : ℕ) → Memory → (pred k lvl : ℕ) → Locked
  find_lock zero m pred k lvl = record { memory = m; pred = pred; succ = next m.nodes lvl pred }
  find_lock (suc bound) m pred k lvl =
      let p = (find (suc bound) m pred k lvl).pred in
      let held = acquire m p lvl in
      let succ = next held.nodes lvl p in
      let further = find_lock bound (release held p lvl) succ k lvl in
      if leb k (key_of held succ) then record { memory = held; pred = p; succ = succ } else further

  -- insert pred lvl n ≜
  --   let k = !n.key in
  --   let (pred, _) = findLock pred k lvl in
  --   let lock = !(pred.locks + lvl) in
  --   link pred lvl n;
  --   release lock
  unfoldable pub insert : (bound : ℕ) → Memory → (pred lvl n : ℕ) → Memory
  insert bound m pred lvl n =
      let k = key m.nodes n in
      let found = find_lock bound m pred k lvl in
      release (link found.memory found.pred lvl n) found.pred lvl

  -- tryInsert pred k v t h ≜
  --   let (pred, succ) = findLock pred k 0 in
  --   let lock = !(pred.locks) in
  --   if k = succ.key
  --   then update succ v t;
  --        release lock;
  --        None
  --   else let n = createAndLink pred k v t h in
  --        release lock;
  --        Some n
  unfoldable pub try_insert : (bound : ℕ) → Memory → (pred k v t h : ℕ) → Inserted
  try_insert bound m pred k v t h =
      let found = find_lock bound m pred k 0 in
      let locked = found.memory in
      let done = if eqb k (key_of locked found.succ) then update locked found.succ v t
      else create_and_link locked found.pred k v t h in
      record { memory = release done.memory found.pred 0; answer = done.answer; node = done.node }

  -- insertAll curr k v t h lvl ≜
  --   if lvl = 0 then tryInsert curr k v t h
  --   else let (pred, _) = find curr k (lvl - 1) in
  --        let opt = insertAll pred k v t h (lvl - 1) in
  --        match opt with
  --        | None ⇒ None
  --        | Some n ⇒ insert curr lvl n;
  --                   Some n
  unfoldable pub insert_above : (bound : ℕ) → (opt : Inserted) → (curr lvl : ℕ) → Option ℕ → Inserted
  insert_above bound opt curr lvl none = opt
  insert_above bound opt curr lvl (some n) =
      record { memory = insert bound opt.memory curr lvl n; answer = opt.answer; node = some n }

  unfoldable pub insert_all : (bound : ℕ) → Memory → (curr k v t h lvl : ℕ) → Inserted
  insert_all bound m curr k v t h zero = try_insert bound m curr k v t h
  insert_all bound m curr k v t h (suc l) =
      let pred = (find bound m curr k l).pred in
      let opt = insert_all bound m pred k v t h l in
      insert_above bound opt curr (suc l) opt.node

  -- putH p k v t h ≜
  --   let (pred, _) = findAll !p k HMAX h in
  --   insertAll pred k v t h h
  unfoldable pub put_h : (bound : ℕ) → Memory → (k v t h : ℕ) → Inserted
  put_h bound m k v t h = insert_all bound m (find_all bound m head k HMAX h).pred k v t h h

  -- put p k v t ≜
  --   let h = randomLevel in
  --   let _ = putH p k v t h in ()
  -- There is no random source: the level is that of the call's draw.
  unfoldable pub put : (bound : ℕ) → Memory → (k v t draw : ℕ) → Inserted
  put bound m k v t draw = put_h bound m k v t (top_of draw)
