-- Altered memory on the test bench: refusals 10 and 11 and the faults of an inspection, beside neighbours that are no
-- damage. No list of calls comes to these stores, so nothing else pins what they answer.
use Prim.Native.Nat.{ℕ, ◌+◌, ◌*◌}
use mathlib.Core.Bool.{Bool, true, false}
use mathlib.Core.Path.{◌≡◌, refl}
use mathlib.Core.List.{List, [], ◌∷◌, ◌++◌, map}
use lib.ListN.{replicate, set}
use Rattle.model.specs.declared.types.Process.{Process}
use Rattle.model.specs.declared.types.Phase.{Phase}
use Rattle.model.specs.declared.types.Phase.TheVariants.{Walk, Read, Seek, Lock, Check, Update, Make, Link, Release, Follow}
use Rattle.model.specs.declared.types.Answer.{Answer}
use Rattle.model.specs.declared.types.Answer.TheVariants.{TooOld, VersionsFull, Added, KeysFull, New, Found, None, Swept}
use Rattle.model.specs.declared.types.Kind.TheVariants.{Put, Get, Scan}
use Rattle.model.specs.declared.types.Refusal.TheVariants.{Corrupt, Damaged, NoKey, NoVersion}
use Rattle.model.specs.Layout.{node_words, version_words, levels}
use Rattle.model.specs.Calls.{Store}
use Rattle.model.specs.History.{step, look}
use Rattle.model.proofs.Bench.{start_get, Question, call, inspect, status, Said, inspected, stands, Case, said}
use Rattle.model.proofs.Bench.{fit, put, on, done, shown, shows, no_start, no_step, no_look}
use Rattle.model.specs.Types.{Err, no_fault, fault_at, idle_status}

-- ---- alterations

same : Store → Store
same w = w

-- word f of node x, and of version i
node : (x f v : ℕ) → Store → Store
node x f v w = record {
  state = w.state;
  nodes = set w.nodes (node_words * x + f) v;
  versions = w.versions;
  tally = w.tally;
}

version : (i f v : ℕ) → Store → Store
version i f v w = record {
  state = w.state;
  nodes = w.nodes;
  versions = set w.versions (version_words * i + f) v;
  tally = w.tally;
}

-- the state, but for its processes: opened, processes, limit, events, the lengths and the counts of nodes and versions
state : Bool → (processes limit events nodes versions used-nodes used-versions : ℕ) → Store → Store
state o p l e n v un uv w = record {
  state = record {
    opened = o;
    processes = p;
    limit = l;
    events = e;
    lengths = record { nodes = n; versions = v };
    counts = record { nodes = un; versions = uv };
    process = w.state.process;
  };
  nodes = w.nodes;
  versions = w.versions;
  tally = w.tally;
}

-- process 0
station : Process → Store → Store
station p w = let s = w.state in record {
  state = record {
    opened = s.opened;
    processes = s.processes;
    limit = s.limit;
    events = s.events;
    lengths = s.lengths;
    counts = s.counts;
    process = set s.process 0 p;
  };
  nodes = w.nodes;
  versions = w.versions;
  tally = w.tally;
}

-- a put of tray 8, value 9, stamp 200, started at tick 20; `effect` is its effect tick
a_put : Phase → (level pred made top : ℕ) → Answer → (effect : ℕ) → Process
a_put phase level pred made top a effect = record {
  call = record { kind = Put; key = 8; last = 8; value = 9; timestamp = 200; top = top; start = 20 };
  cursor = record { phase = phase; level = level; pred = pred; made = made };
  effect = record { answer = a; tick = effect };
  preds = replicate levels 0;
}

-- the same at release, new, with this node remembered at levels 1 and 2
climber : (level top remembered : ℕ) → Process
climber level top x = record {
  call = record { kind = Put; key = 8; last = 8; value = 9; timestamp = 200; top = top; start = 20 };
  cursor = record { phase = Release; level = level; pred = 0; made = 1 };
  effect = record { answer = New; tick = 21 };
  preds = 0 ∷ x ∷ x ∷ 0 ∷ 0 ∷ 0 ∷ [];
}

a_get : Phase → (level pred effect : ℕ) → Process
a_get phase level pred effect = record {
  call = record { kind = Get; key = 7; last = 7; value = 0; timestamp = 0; top = 0; start = 20 };
  cursor = record { phase = phase; level = level; pred = pred; made = 1 };
  effect = record { answer = None; tick = effect };
  preds = replicate levels 0;
}

-- a sweep of the trays from first to last
a_scan : (first last : ℕ) → Phase → (level pred effect : ℕ) → Process
a_scan first last phase level pred effect = record {
  call = record { kind = Scan; key = first; last = last; value = 0; timestamp = 0; top = 0; start = 20 };
  cursor = record { phase = phase; level = level; pred = pred; made = 1 };
  effect = record { answer = None; tick = effect };
  preds = replicate levels 0;
}

-- ---- cases

-- K 2, V 3; tray 7 is node 1 of top 0, its versions (6, 101) at place 2 and (5, 100) at place 1; 24 events
altered : (Store → Store) → Question → Said → Case
altered f q s = record {
  bench = fit 2 3 1 400;
  actions = put 11 7 5 100 ++ put 11 7 6 101;
  alter = f;
  question = q;
  expected = s;
}

-- process 0, put in this place in a store so altered, makes a step
stepping : (Store → Store) → Process → Said → Case
stepping f p s = altered (λ w. station p (f w)) (call (step 0)) s

breaks : (Store → Store) → Process → Case
breaks f p = stepping f p (no_step Damaged)

moves : (Store → Store) → Process → Case
moves f p = stepping f p (on 25)

-- a step that finishes the put with this answer and effect tick
finishes : (Store → Store) → Process → Answer → (effect : ℕ) → Case
finishes f p a effect = stepping f p (done Put a 9 200 20 effect 25)

-- a step that shows tray 7's newest version, and one that finishes the sweep
seen : (Store → Store) → Process → Case
seen f p = stepping f p (shown 25 7 6 101)

sweeps : (Store → Store) → Process → Case
sweeps f p = stepping f p (done Scan Swept 0 0 20 0 25)

corrupt : (Store → Store) → Case
corrupt f = altered f (status 0) (stands (Err Corrupt))

lawful : (Store → Store) → Case
lawful f = altered f (status 0) (stands idle_status)

fault : (Store → Store) → (level node : ℕ) → Case
fault f l x = altered f inspect (inspected (fault_at l x))

sound : (Store → Store) → Case
sound f = altered f inspect (inspected no_fault)

pub cases : List Case
cases =
    -- "10 closed state, or its stations, limit, counts in use or table lengths outside the limits above [..], or events
    -- above the limit": standing reads the state alone
    lawful (state true 1 400 24 48 12 1 2) ∷
    corrupt (state false 1 400 24 48 12 1 2) ∷
    corrupt (state true 0 400 24 48 12 1 2) ∷
    lawful (state true 8 400 24 48 12 1 2) ∷
    corrupt (state true 9 400 24 48 12 1 2) ∷
    corrupt (state true 1 0 0 48 12 1 2) ∷
    lawful (state true 1 1_000_000_000 24 48 12 1 2) ∷
    corrupt (state true 1 1_000_000_001 24 48 12 1 2) ∷
    lawful (state true 1 400 400 48 12 1 2) ∷
    corrupt (state true 1 400 401 48 12 1 2) ∷
    corrupt (state true 1 400 24 16 12 0 2) ∷
    corrupt (state true 1 400 24 40 12 1 2) ∷
    lawful (state true 1 400 24 16_384 12 1_023 2) ∷
    corrupt (state true 1 400 24 16_384 12 1_024 2) ∷
    corrupt (state true 1 400 24 16_400 12 1 2) ∷
    corrupt (state true 1 400 24 48 3 1 0) ∷
    corrupt (state true 1 400 24 48 13 1 2) ∷
    lawful (state true 1 400 24 48 12_288 1 4_095) ∷
    corrupt (state true 1 400 24 48 12_288 1 4_096) ∷
    corrupt (state true 1 400 24 48 12_291 1 2) ∷
    lawful (state true 1 400 24 48 12 2 0) ∷
    -- "or unlike the tables lent"
    altered (state true 1 400 24 32 12 1 2) (call (start_get 0 7)) (no_start Corrupt) ∷
    altered (state true 1 400 24 64 12 1 2) (call (step 0)) (no_step Corrupt) ∷
    altered (state true 1 400 24 48 9 1 2) (call (look 7 0)) (no_look Corrupt) ∷
    altered (state true 1 400 24 48 15 1 2) inspect (inspected (Err Corrupt)) ∷
    -- "11 at any step a level above 5, p not in use"
    moves same (a_put Walk 5 0 0 0 None 0) ∷
    breaks same (a_put Walk 6 0 0 0 None 0) ∷
    breaks same (a_get Walk 6 0 0) ∷
    moves same (a_put Lock 0 1 0 0 None 0) ∷
    breaks same (a_put Lock 0 2 0 0 None 0) ∷
    breaks same (a_put Release 0 2 1 0 New 21) ∷
    -- "a get outside walk and read, a put in read"
    stepping same (a_get Read 0 1 0) (done Get Found 6 101 20 25 25) ∷
    breaks same (a_get Seek 0 0 0) ∷ breaks same (a_get Lock 0 0 0) ∷ breaks same (a_get Check 0 0 0) ∷
    breaks same (a_get Update 0 0 0) ∷ breaks same (a_get Make 0 0 0) ∷ breaks same (a_get Link 0 0 0) ∷
    breaks same (a_get Release 0 0 0) ∷
    breaks same (a_put Read 0 1 0 0 None 0) ∷
    -- "a call other than a put with an effect tick"
    breaks same (a_get Walk 0 0 21) ∷ breaks same (a_get Read 0 1 21) ∷
    -- "a put at release or with an effect tick whose answer no put gives"; one at release need have none
    breaks same (a_put Release 0 0 1 0 None 0) ∷ breaks same (a_put Release 0 0 1 0 Found 0) ∷
    finishes same (a_put Release 0 0 1 0 TooOld 21) TooOld 21 ∷
    finishes same (a_put Release 0 0 1 0 VersionsFull 21) VersionsFull 21 ∷
    finishes same (a_put Release 0 0 1 0 Added 21) Added 21 ∷
    finishes same (a_put Release 0 0 1 0 KeysFull 21) KeysFull 21 ∷
    finishes same (a_put Release 0 0 1 0 New 21) New 21 ∷
    finishes same (a_put Release 0 0 1 0 Added 0) Added 0 ∷
    breaks same (a_put Seek 1 0 1 1 None 21) ∷ breaks same (a_put Seek 1 0 1 1 Found 21) ∷
    moves same (a_put Seek 1 0 1 1 New 21) ∷ moves same (a_put Seek 1 0 1 1 None 0) ∷
    moves same (a_put Link 1 0 1 1 None 0) ∷
    -- a link that a step follows or compares leads to no node in use; lock does not read it, make and link only copy it
    breaks (node 0 4 2) (a_get Walk 0 0 0) ∷ breaks (node 0 4 2) (a_put Walk 0 0 0 0 None 0) ∷
    breaks (node 0 4 2) (a_put Seek 0 0 0 0 None 0) ∷ breaks (node 0 4 2) (a_put Check 0 0 0 0 None 0) ∷
    breaks (node 0 9 2) (a_put Walk 5 0 0 0 None 0) ∷ breaks (node 1 5 2) (a_put Seek 1 1 1 1 New 21) ∷
    moves (node 0 4 2) (a_put Lock 0 0 0 0 None 0) ∷
    moves (node 0 4 2) (a_put Make 0 0 0 0 None 0) ∷
    moves (node 0 7 2) (a_put Link 3 0 1 3 New 21) ∷
    -- read: the newest version is 0 or not in use
    breaks (node 1 1 0) (a_get Read 0 1 0) ∷ breaks (node 1 1 3) (a_get Read 0 1 0) ∷
    -- update: so too, or the end, or a node not in use; the previous version is not read
    moves same (a_put Update 0 0 0 0 None 0) ∷
    breaks (node 0 4 0) (a_put Update 0 0 0 0 None 0) ∷ breaks (node 0 4 2) (a_put Update 0 0 0 0 None 0) ∷
    breaks (node 1 1 0) (a_put Update 0 0 0 0 None 0) ∷ breaks (node 1 1 3) (a_put Update 0 0 0 0 None 0) ∷
    moves (version 2 2 77) (a_put Update 0 0 0 0 None 0) ∷
    -- make: a top above 5, if a node is made
    moves same (a_put Make 0 1 0 5 None 0) ∷
    breaks same (a_put Make 0 1 0 6 None 0) ∷
    moves (state true 1 400 24 48 12 2 2) (a_put Make 0 1 0 6 None 0) ∷
    moves (state true 1 400 24 48 12 1 3) (a_put Make 0 1 0 6 None 0) ∷
    -- link: a new node numbered 0 or not in use
    moves same (a_put Link 1 0 1 1 New 21) ∷
    breaks same (a_put Link 1 0 0 1 New 21) ∷ breaks same (a_put Link 1 0 2 1 New 21) ∷
    -- release: of a new put, a top above 5, or a node not in use that it takes up as p
    breaks same (a_put Release 0 0 1 6 New 21) ∷
    finishes same (a_put Release 0 0 1 6 Added 21) Added 21 ∷
    moves same (climber 0 1 1) ∷ breaks same (climber 0 1 2) ∷ breaks same (climber 1 2 2) ∷
    finishes same (climber 1 1 2) New 21 ∷
    -- P1: "A sweep outside its walk and this following, or another call in the following, is 11."; "swept" is no put's answer
    moves same (a_scan 7 9 Walk 0 0 0) ∷ seen same (a_scan 7 9 Follow 0 0 0) ∷
    breaks same (a_scan 7 9 Read 0 1 0) ∷ breaks same (a_scan 7 9 Seek 0 0 0) ∷ breaks same (a_scan 7 9 Lock 0 0 0) ∷
    breaks same (a_scan 7 9 Check 0 0 0) ∷ breaks same (a_scan 7 9 Update 0 0 0) ∷ breaks same (a_scan 7 9 Make 0 0 0) ∷
    breaks same (a_scan 7 9 Link 0 0 0) ∷ breaks same (a_scan 7 9 Release 0 0 0) ∷
    breaks same (a_get Follow 0 0 0) ∷ breaks same (a_put Follow 0 0 0 0 None 0) ∷ breaks same (a_put Follow 0 0 1 0 New 21) ∷
    breaks same (a_scan 7 9 Walk 0 0 21) ∷ breaks same (a_scan 7 9 Follow 0 0 21) ∷
    breaks same (a_scan 7 9 Walk 6 0 0) ∷ breaks same (a_scan 7 9 Follow 6 0 0) ∷ breaks same (a_scan 7 9 Follow 0 2 0) ∷
    breaks same (a_put Release 0 0 1 0 Swept 21) ∷ breaks same (a_put Seek 1 0 1 1 Swept 21) ∷
    -- follow: a link not in use, a newest version that is 0 or not in use; the link is that of level 0, whatever the level
    breaks (node 0 4 2) (a_scan 7 9 Walk 0 0 0) ∷ breaks (node 0 4 2) (a_scan 7 9 Follow 0 0 0) ∷
    breaks (node 1 1 0) (a_scan 7 9 Follow 0 0 0) ∷ breaks (node 1 1 3) (a_scan 7 9 Follow 0 0 0) ∷
    seen same (a_scan 7 9 Follow 3 0 0) ∷ seen (node 0 7 2) (a_scan 7 9 Follow 3 0 0) ∷
    -- what is not shown is not read, nor any older version; a tray past the last is "looked at first"
    moves (node 1 1 0) (a_scan 8 9 Follow 0 0 0) ∷ sweeps (node 1 1 0) (a_scan 5 6 Follow 0 0 0) ∷
    seen (version 2 2 77) (a_scan 7 9 Follow 0 0 0) ∷ sweeps same (a_scan 9 6 Follow 0 0 0) ∷
    sweeps (node 0 4 0) (a_scan 7 9 Follow 0 0 0) ∷
    -- "Look: 10, 6, 12, 11, 13 (11 before 13 along the chain)."; a node not in use is not found
    altered (node 2 0 8) (call (look 8 0)) (no_look NoKey) ∷
    altered (node 1 1 0) (call (look 7 0)) (no_look Damaged) ∷
    altered (node 1 1 3) (call (look 7 0)) (no_look Damaged) ∷
    altered (version 2 2 2) (call (look 7 0)) (shows 6 101) ∷
    altered (version 2 2 2) (call (look 7 1)) (no_look Damaged) ∷
    altered (version 2 2 3) (call (look 7 5)) (no_look Damaged) ∷
    altered (version 2 2 0) (call (look 7 1)) (no_look NoVersion) ∷
    altered (version 1 2 1) (call (look 7 1)) (shows 5 100) ∷
    altered (version 1 2 1) (call (look 7 2)) (no_look Damaged) ∷
    -- inspection: "at the node reached, its lock at this level not 0"
    sound same ∷
    fault (node 0 10 1) 0 0 ∷ fault (node 0 13 1) 3 0 ∷ fault (node 0 15 1) 5 0 ∷
    fault (node 1 10 1) 0 1 ∷ sound (node 1 11 1) ∷
    -- "at level 0, for a node other than 0, a reading place that is 0 or not in use, a previous place not smaller"
    fault (node 1 1 0) 0 1 ∷ fault (node 1 1 3) 0 1 ∷ sound (node 0 1 3) ∷ sound (node 1 1 1) ∷
    fault (state true 1 400 24 48 12 1 0) 0 1 ∷
    fault (version 2 2 2) 0 1 ∷ fault (version 2 2 3) 0 1 ∷ sound (version 2 2 0) ∷ fault (version 1 2 1) 0 1 ∷
    -- "or an older reading with a greater stamp"
    fault (version 1 1 102) 0 1 ∷ sound (version 1 1 101) ∷
    -- both, the stamp nearer the newest (P2: the pass for places comes first, and one pass meets the stamp)
    fault (λ w. version 1 1 102 (version 1 2 1 w)) 0 1 ∷
    -- "its link not in use; the next tray number not greater"
    fault (node 0 4 2) 0 0 ∷ fault (node 0 6 2) 2 0 ∷
    fault (node 0 0 7) 0 0 ∷ sound (node 0 0 6) ∷ fault (node 1 4 1) 0 1 ∷
    -- and of a tray number both halves: node 0 after tray 7, tray 3 + 2³² before tray 7
    fault (node 0 3 1) 0 0 ∷
    record {
      bench = fit 2 3 1 400;
      actions = put 11 3 5 100 ++ put 12 7 6 101;
      alter = node 1 3 1;
      question = inspect;
      expected = inspected (fault_at 0 1);
    } ∷
    -- a tray whose high half was altered is another tray: 7 + 9 · 2³²
    sound (node 1 3 9) ∷
    stepping (node 1 3 9) (a_get Walk 0 0 0) (done Get None 0 0 20 25 25) ∷
    altered (node 1 3 9) (call (look 7 0)) (no_look NoKey) ∷
    altered (node 1 3 9) (call (look 38_654_705_671 0)) (shows 6 101) ∷
    -- "the next node's top below the level; at the level's end, fewer nodes seen than those whose top reaches it"
    fault (node 0 5 1) 1 0 ∷ fault (node 0 4 0) 0 0 ∷ fault (node 1 2 1) 1 0 ∷
    sound (λ w. node 1 2 1 (node 0 5 1 w)) ∷
    fault (λ w. node 1 2 2 (node 0 5 1 w)) 2 0 ∷
    record {
      bench = fit 2 3 1 400;
      actions = put 11 3 5 100 ++ put 12 7 6 101;
      alter = node 1 4 0;
      question = inspect;
      expected = inspected (fault_at 0 1);
    } ∷
    -- the head's top, a top above 5 that is linked, and what is not in use make no fault
    sound (node 0 2 0) ∷ sound (node 2 2 5) ∷ sound (version 0 2 9) ∷
    sound (λ w. node 1 2 6 (node 0 5 1 (node 0 6 1 (node 0 7 1 (node 0 8 1 (node 0 9 1 w)))))) ∷
    []

-- every case says what is expected of it; `said` opens all that the calls go through
pub table : map said cases ≡ map (λ (c : Case). c.expected) cases
unfolding said cases same node version state station a_put climber a_get a_scan altered stepping breaks moves finishes seen
    sweeps corrupt lawful fault sound
table = refl
