-- The invariant of a run: the store in order, and the observer's history explained so far by a list of effects.
use Prim.Native.Nat.{ℕ, zero, suc, ◌+◌, ◌≤◌, ◌<◌}
use mathlib.Core.Bool.{Bool, true, false}
use mathlib.Core.List.{List, [], ◌∷◌, ◌++◌}
use mathlib.Core.Logic.{◌≢◌, ◌⊎◌, inl, inr}
use mathlib.Core.Path.{◌≡◌, refl, sym, ap, ◌∙◌, subst}
use native.Mathlib.Omega.{arith}
use lib.Dec.{T, eqb, leb, le→leb}
use lib.ListN.{length, get_or, set, length-append}
use lib.Seq.{get_or-set_same, get_or-set_other}
use Rattle.linearizability.specs.Types.{Kind, Idle, Put, Get, Scan, NoProcess, Call, Process, Err}
use Rattle.std.specs.Prelude.{if◌then◌else◌}
use Rattle.model.specs.Layout.{Memory, node_words, version_words, capacity, top, limits}
use Rattle.model.specs.Map.{Map}
use Rattle.model.specs.State.{no_process, idle_process, process_at, memory_of, with_event, lawful_nodes, lawful_versions, lawful_state, lawful_store}
use Rattle.model.specs.Phases.{own_version, max_nodes, max_versions}
use Rattle.model.specs.Calls.{call_for, Store, standing, status_permit, status_by, status_of}
use Rattle.model.specs.Requests.{Operation, put, get, scan, kind_of}
use Rattle.model.specs.History.{Action, Invoked, Pending, no_call, has_call, updated, is_free, Sight, Completed}
use Rattle.model.specs.Linearizability.{All, Any, counted_at}
use Rattle.model.specs.Roles.{is_idle}
use Rattle.model.proofs.Tests.{is_true, by_eq, if_yes, if_no, eq→eqb, ne→neqb}
use Rattle.linearizability.proofs.Invariant.{Ghost, Nodes, Book, Fits, Climbs}
use Rattle.linearizability.proofs.Locks.{Named}
use Rattle.linearizability.proofs.Effects.{Took, nothing, took, fed, played, played_snoc, Grows, all_map, Entered, Settles, LookedAt, entered_grow, settles_grow, looked_grow, effect_cases}
use Rattle.linearizability.proofs.Scanning.{Scanning, KeysStay, scanning_stays}
use Rattle.model.proofs.Seen.{Seen, saw_refusal}

abbrev pub memory : Store → Memory
memory w = memory_of w.state w.nodes w.versions

abbrev pub slot : Store → ℕ → Process
slot w i = process_at w.state i

pub record Core (w : Store) (g : Ghost) (b : Map) : Type 0 where
  pub opened : w.state.opened ≡ true
  pub processes : (1 ≤ w.state.processes) × (w.state.processes ≤ limits.processes)
  pub limit : (1 ≤ w.state.limit) × (w.state.limit ≤ 1_000_000_000)
  pub events : w.state.events ≤ w.state.limit
  pub node_length : T (lawful_nodes w.state.lengths.nodes)
  pub version_length : T (lawful_versions w.state.lengths.versions)
  pub nodes_lent : length w.nodes ≡ w.state.lengths.nodes
  pub versions_lent : length w.versions ≡ w.state.lengths.versions
  pub tally : length w.tally ≡ limits.tally
  pub array : length w.state.process ≡ limits.processes
  pub nodes : Nodes (memory w) g
  pub book : Book (memory w) b
  pub fits : (i : ℕ) → Fits (memory w) g i (slot w i)
  pub tops : (x : ℕ) → x ≤ w.state.counts.nodes → ((i : ℕ) → ¬ (Climbs (slot w i) x)) → g.high x ≡ suc (top w.nodes x)
  pub locks : (i : ℕ) → Named (memory w) i (slot w i)
  pub beyond : (i : ℕ) → w.state.processes ≤ i → (slot w i).call.kind ≡ Idle

-- what a process keeps of the call that it has
abbrev pub kept_of : Pending → Call
kept_of no_call = idle_process.call
kept_of (has_call c) = call_for c.operation c.start

pub record Track (K W : ℕ) (log : List Action) (eff : List Took) (i : ℕ) (c : Pending) (pr : Process) : Type 0 where
  pub same : pr.call ≡ kept_of c
  pub resting : pr.call.kind ≡ Idle → pr.effect.tick ≡ 0
  pub begun : pr.call.start ≤ length log
  pub entered : (d : Invoked) → c ≡ has_call d → pr.effect.tick ≢ 0
      → Entered K W log eff i d pr.effect.tick (record { answer = pr.effect.answer; version = own_version pr.call })

-- the call that took effect at event n + 1 is a finished one, or still runs
abbrev pub EndedAt : (n i : ℕ) → Invoked → Completed → Type 0
EndedAt n i c d = (d.process ≡ i) × (d.invoked ≡ c) × (d.told.effect ≡ suc n)

abbrev pub Left : Seen → Store → (n i : ℕ) → Invoked → Type 0
Left h w n i c = Any (EndedAt n i c) h.completed ⊎ ((h.pending i ≡ has_call c) × ((slot w i).effect.tick ≡ suc n))

-- the finished calls of a process ended before its next one started
abbrev pub Before : (ℕ → Pending) → List Completed → Type 0
Before f ds = (i : ℕ) (c : Invoked) → f i ≡ has_call c → All (λ (d : Completed). d.process ≡ i → d.ended < c.start) ds

abbrev pub Pairs : List Completed → Type 0
Pairs [] = Unit {0}
Pairs (d ∷ ds) = All (λ (e : Completed). e.process ≡ d.process → e.ended < d.invoked.start) ds × Pairs ds

-- the processes below n that have a call
unfoldable pub busy_below : List Process → ℕ → ℕ
busy_below l zero = 0
busy_below l (suc n) = (if is_idle (get_or l n no_process).call.kind then 0 else 1) + busy_below l n

pub record Hist (K W : ℕ) (w : Store) (h : Seen) (b : Map) (eff : List Took) : Type 0 where
  pub processes_is : h.processes ≡ w.state.processes
  pub limit_is : h.limit ≡ w.state.limit
  pub ticks : length h.log ≡ w.state.events
  pub one_each : length eff ≡ w.state.events
  pub K-is : max_nodes (memory w) ≡ K
  pub W-is : max_versions (memory w) ≡ W
  pub book_is : b ≡ played K W [] eff
  pub done : All (Settles K W h.log eff) h.completed
  pub track : (i : ℕ) → Track K W h.log eff i (h.pending i) (slot w i)
  pub scanning : (i : ℕ) → Scanning K W (memory w) eff (h.pending i) (slot w i).cursor.pred (h.sights i)
  pub nothing_else : (n i : ℕ) (c : Invoked) → get_or eff n nothing ≡ took i c → Left h w n i c
  pub looks : All (LookedAt K W eff) h.queries
  pub tally : (n : ℕ) → n < limits.tally → get_or w.tally n 0 ≡ counted_at n h.completed
  pub counted : h.starts ≡ length h.completed + busy_below w.state.process w.state.processes
  pub few : h.starts ≤ length h.log
  pub faults : h.faults ≡ 0
  pub past : Before h.pending h.completed
  pub pairs : Pairs h.completed

-- the effects are those of `from`, and more
pub record LiveFrom (from : List Took) (K W : ℕ) (w : Store) (h : Seen) : Type 0 where
  pub g : Ghost
  pub b : Map
  pub eff : List Took
  pub core : Core w g b
  pub hist : Hist K W w h b eff
  pub grows : Grows from eff

abbrev pub Live : (K W : ℕ) (w : Store) (h : Seen) → Type 0
Live = LiveFrom []

-- ---- the store is lawful, and standing shows each process

pub core_state : {w : Store} {g : Ghost} {b : Map} → Core w g b → T (lawful_state w.state)
unfolding lawful_state
core_state {w} c =
    let s = w.state in
    let K : ℕ = capacity node_words s.lengths.nodes in
    let W : ℕ = capacity version_words s.lengths.versions in
    rw (
      c.opened,
      is_true (leb 1 s.processes) (le→leb 1 s.processes c.processes.0),
      is_true (leb s.processes limits.processes) (le→leb s.processes limits.processes c.processes.1),
      is_true (leb 1 s.limit) (le→leb 1 s.limit c.limit.0),
      is_true (leb s.limit 1_000_000_000) (le→leb s.limit 1_000_000_000 c.limit.1),
      is_true (leb s.events s.limit) (le→leb s.events s.limit c.events),
      is_true (lawful_nodes s.lengths.nodes) c.node_length,
      is_true (lawful_versions s.lengths.versions) c.version_length,
      is_true (leb s.counts.nodes K) (le→leb s.counts.nodes K (omega (arith, c.nodes.room, ap (capacity node_words) c.nodes_lent))),
      is_true (leb s.counts.versions W) (le→leb s.counts.versions W (omega (arith, c.book.room, ap (capacity version_words) c.versions_lent))),
    ) tt

pub core_lawful : {w : Store} {g : Ghost} {b : Map} → Core w g b → lawful_store w.state w.nodes w.versions ≡ true
unfolding lawful_store
core_lawful {w} c = rw (
  is_true (lawful_state w.state) (core_state c),
  is_true (eqb (length w.nodes) w.state.lengths.nodes) (eq→eqb (length w.nodes) w.state.lengths.nodes c.nodes_lent),
  is_true (eqb (length w.versions) w.state.lengths.versions) (eq→eqb (length w.versions) w.state.lengths.versions c.versions_lent),
)

pub status_is : {w : Store} {g : Ghost} {b : Map} → Core w g b → (i : ℕ) → i < w.state.processes
    → status_of w.state i ≡ standing (slot w i).call.kind (slot w i)
unfolding status_of status_permit status_by
status_is {w} c i lt = rw (is_true (lawful_state w.state) (core_state c), not_le (leb w.state.processes i) refl)
  where
    not_le : (x : Bool) → leb w.state.processes i ≡ x → leb w.state.processes i ≡ false
    not_le true e = absurd (omega (arith, lib.Dec.leb→le w.state.processes i (Rattle.model.proofs.Tests.T_true e)))
    not_le false e = e

pub status_beyond : {w : Store} {g : Ghost} {b : Map} → Core w g b → (i : ℕ) → w.state.processes ≤ i
    → status_of w.state i ≡ Err NoProcess
unfolding status_of status_permit status_by
status_beyond {w} c i le = rw (
  is_true (lawful_state w.state) (core_state c),
  is_true (leb w.state.processes i) (le→leb w.state.processes i le),
)

-- ---- small laws

pub one_busy : (k : Kind) → k ≢ Idle → ◌≡◌ {A = ℕ} (if is_idle k then 0 else 1) 1
one_busy Idle ne = absurd (ne refl)
one_busy Put ne = refl
one_busy Get ne = refl
one_busy Scan ne = refl

pub none_busy : (k : Kind) → k ≡ Idle → ◌≡◌ {A = ℕ} (if is_idle k then 0 else 1) 0
none_busy k e = rw e refl

-- a process keeps a kind just when it has a call
pub kept_kind : (op : Operation) (start : ℕ) → (call_for op start).kind ≡ kind_of op
unfolding call_for
kept_kind (put k v t draw) start = refl
kept_kind (get k) start = refl
kept_kind (scan first last) start = refl

pub kind≢idle : (op : Operation) → kind_of op ≢ Idle
kind≢idle (put k v t draw) e = let z : ◌≡◌ {A = ℕ} 0 1 = cc in omega arith
kind≢idle (get k) e = let z : ◌≡◌ {A = ℕ} 0 1 = cc in omega arith
kind≢idle (scan first last) e = let z : ◌≡◌ {A = ℕ} 0 1 = cc in omega arith

pub idle_free : (c : Pending) → is_idle (kept_of c).kind ≡ is_free c
idle_free no_call = refl
idle_free (has_call c) = by c.operation
  where
    by : (op : Operation) → is_idle (call_for op c.start).kind ≡ false
    by (put k v t draw) = unfold call_for in refl
    by (get k) = unfold call_for in refl
    by (scan first last) = unfold call_for in refl

pub has_injective : {c d : Invoked} → has_call c ≡ has_call d → c ≡ d
has_injective e = cc

pub updated_same : {A : Type 0} (f : ℕ → A) (i : ℕ) (x : A) → updated f i x i ≡ x
unfolding updated
updated_same f i x = if_yes (eqb i i) x (f i) (eq→eqb i i refl)

pub updated_other : {A : Type 0} (f : ℕ → A) (i : ℕ) (x : A) (j : ℕ) → j ≢ i → updated f i x j ≡ f j
unfolding updated
updated_other f i x j ne = if_no (eqb j i) x (f j) (ne→neqb j i ne)

-- one process of the array is replaced
pub busy_set : (l : List Process) (i n : ℕ) (pr : Process) → i < n → i < length l
    → busy_below (set l i pr) n + (if is_idle (get_or l i no_process).call.kind then 0 else 1) ≡ busy_below l n + (if is_idle pr.call.kind then 0 else 1)
unfolding busy_below
busy_set l i zero pr h h' = absurd (omega arith)
busy_set l i (suc n) pr h h' = by_eq i n
    (λ e. rw (← e) (rw (get_or-set_same l i pr no_process h') (omega (arith, beyond_set i (omega arith)))))
    (λ ne. rw (get_or-set_other l i n pr no_process (λ q. ne (sym q))) (omega (arith, busy_set l i n pr (omega arith) h')))
  where
    beyond_set : (k : ℕ) → k ≤ i → busy_below (set l i pr) k ≡ busy_below l k
    beyond_set zero le = refl
    beyond_set (suc k) le =
        rw (get_or-set_other l i k pr no_process (omega arith)) (ap (λ z. (if is_idle (get_or l k no_process).call.kind then 0 else 1) + z) (beyond_set k (omega arith)))

-- ---- an event that is refused, and one that is not

pub refused_live : {from : List Took} {K W : ℕ} {w : Store} {h : Seen} (right : Bool) → T right → LiveFrom from K W w h → LiveFrom from K W w (saw_refusal h right)
refused_live {from} {K} {W} {w} {h} right t l =
    let k = l.hist in
    record {
      g = l.g;
      b = l.b;
      eff = l.eff;
      core = l.core;
      hist = record {
        processes_is = k.processes_is;
        limit_is = k.limit_is;
        ticks = k.ticks;
        one_each = k.one_each;
        K-is = k.K-is;
        W-is = k.W-is;
        book_is = k.book_is;
        done = k.done;
        track = k.track;
        scanning = k.scanning;
        nothing_else = k.nothing_else;
        looks = k.looks;
        tally = k.tally;
        counted = k.counted;
        few = k.few;
        faults = omega (arith, k.faults, if_yes {A = ℕ} right 0 1 t);
        past = k.past;
        pairs = k.pairs;
      };
      grows = l.grows;
    }

-- an event of process i: a call x that took effect or none, and what it leaves of store and history
module _ (K W : ℕ) (w : Store) (h : Seen) (b : Map) (eff : List Took) (k : Hist K W w h b eff)
    (eight : length w.state.process ≡ limits.processes)
    (i : ℕ) (i8 : i < limits.processes) (a : Action) (x : Took) (m : Memory) (pr : Process) (tly : List ℕ)
    (pending : ℕ → Pending) (sights : ℕ → List Sight) (starts : ℕ) (completed : List Completed) (faults : ℕ) (b' : Map) where
  abbrev pub w' : Store
  w' = record { state = with_event w.state i m.counts pr; nodes = m.nodes; versions = m.versions; tally = tly }

  abbrev pub h' : Seen
  h' = record {
    processes = h.processes;
    limit = h.limit;
    log = h.log ++ (a ∷ []);
    pending = pending;
    sights = sights;
    starts = starts;
    completed = completed;
    queries = h.queries;
    faults = faults;
  }

  even : length eff ≡ length h.log
  even = k.one_each ∙ sym k.ticks

  pub slot_same : slot w' i ≡ pr
  slot_same = get_or-set_same w.state.process i pr no_process (omega arith)

  pub slot_other : (j : ℕ) → j ≢ i → slot w' j ≡ slot w j
  slot_other j ne = get_or-set_other w.state.process i j pr no_process ne

  track_grow : {j : ℕ} {c : Pending} {q : Process} → Track K W h.log eff j c q
      → Track K W (h.log ++ (a ∷ [])) (eff ++ (x ∷ [])) j c q
  track_grow t = record {
    same = t.same;
    resting = t.resting;
    begun = omega (arith, t.begun, length-append h.log (a ∷ []));
    entered = λ d e ne. entered_grow K W h.log eff a x even (t.entered d e ne);
  }

  pub done_grow : All (Settles K W (h.log ++ (a ∷ [])) (eff ++ (x ∷ []))) h.completed
  done_grow = all_map (settles_grow K W h.log eff a x even) h.completed k.done

  -- what is to be shown of an event
  pub record Event : Type 0 where
    pub K-same : length m.nodes ≡ length w.nodes
    pub W-same : length m.versions ≡ length w.versions
    pub map_is : b' ≡ fed K W b x
    pub keys : KeysStay (memory w) m
    pub others : (j : ℕ) → j ≢ i → (pending j ≡ h.pending j) × (sights j ≡ h.sights j)
    pub track : Track K W (h.log ++ (a ∷ [])) (eff ++ (x ∷ [])) i (pending i) pr
    pub scanning : Scanning K W m (eff ++ (x ∷ [])) (pending i) pr.cursor.pred (sights i)
    pub done : All (Settles K W (h.log ++ (a ∷ [])) (eff ++ (x ∷ []))) completed
    pub kept : (n j : ℕ) (c : Invoked) → Any (EndedAt n j c) h.completed → Any (EndedAt n j c) completed
    pub old : (n : ℕ) (c : Invoked) → h.pending i ≡ has_call c → (slot w i).effect.tick ≡ suc n → Left h' w' n i c
    pub now : (n j : ℕ) (c : Invoked) → n ≡ length h.log → x ≡ took j c → Left h' w' n j c
    pub tally : (n : ℕ) → n < limits.tally → get_or tly n 0 ≡ counted_at n completed
    pub counted : starts ≡ length completed + busy_below (set w.state.process i pr) w.state.processes
    pub few : starts ≤ suc (length h.log)
    pub no_faults : faults ≡ 0
    pub past : Before pending completed
    pub pairs : Pairs completed

  pub event_hist : Event → Hist K W w' h' b' (eff ++ (x ∷ []))
  event_hist e = record {
    processes_is = k.processes_is;
    limit_is = k.limit_is;
    ticks = omega (arith, length-append h.log (a ∷ []), k.ticks);
    one_each = omega (arith, length-append eff (x ∷ []), k.one_each);
    K-is = ap (capacity node_words) e.K-same ∙ k.K-is;
    W-is = ap (capacity version_words) e.W-same ∙ k.W-is;
    book_is = e.map_is ∙ ap (λ y. fed K W y x) k.book_is ∙ sym (played_snoc K W [] eff x);
    done = e.done;
    track = λ j. by_eq j i
        (λ q. rw (q, slot_same) e.track)
        (λ ne. rw ((e.others j ne).0, slot_other j ne) (track_grow (k.track j)));
    scanning = λ j. by_eq j i
        (λ q. rw (q, slot_same) e.scanning)
        (λ ne. rw ((e.others j ne).0, (e.others j ne).1, slot_other j ne)
        (scanning_stays K W (memory w) m e.keys h.log eff a x even (h.pending j) (slot w j).cursor.pred (h.sights j) (k.scanning j)));
    nothing_else = λ n j c q. effect_cases K W h.log eff a x even n j c q
        (λ o. left n j c (k.nothing_else n j c o))
        (λ q r. e.now n j c q r);
    looks = all_map (looked_grow K W h.log eff a x even) h.queries k.looks;
    tally = e.tally;
    counted = e.counted;
    few = omega (arith, e.few, length-append h.log (a ∷ []));
    faults = e.no_faults;
    past = e.past;
    pairs = e.pairs;
  }
    where
      left : (n j : ℕ) (c : Invoked) → Left h w n j c → Left h' w' n j c
      left n j c (inl d) = inl (e.kept n j c d)
      left n j c (inr r) = by_eq j i
          (λ q. subst (λ z. Left h' w' n z c) (sym q)
          (e.old n c (subst (λ z. h.pending z ≡ has_call c) q r.0) (subst (λ z. (slot w z).effect.tick ≡ suc n) q r.1)))
          (λ ne. inr ((e.others j ne).0 ∙ r.0, ap (λ (z : Process). z.effect.tick) (slot_other j ne) ∙ r.1))
