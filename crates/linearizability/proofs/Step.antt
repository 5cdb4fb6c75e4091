-- What one step of a process keeps and does, said of its move: the statement, and the steps that write no table.
use Prim.Native.Nat.{ℕ, zero, suc, ◌-◌, ◌≤◌, ◌<◌}
use mathlib.Core.List.{List, [], ◌∷◌}
use mathlib.Core.Logic.{◌≢◌, ◌⊎◌, inl}
use mathlib.Core.Path.{◌≡◌, refl, sym, ap, ◌∙◌}
use native.Mathlib.Omega.{arith}
use mathlib.Core.Bool.{◌&&◌}
use lib.Dec.{T, leb, le→leb}
use lib.ListN.{length, get_or, set, length-set}
use lib.Seq.{get_or-set_same, get_or-set_other}
use Rattle.linearizability.specs.Types.{Kind, Idle, Put, Get, Scan, Walk, Read, Seek, Lock, Follow, Searching, Answer, Found, None, Swept, Inserted, Miss, Call, Cursor, Process, Version, Ahead, Unused, Less, Equal, Past, Move, Refuse, Wait, Go, Note, Commit, Show, End}
use Rattle.model.specs.Layout.{Memory, key, newest, next, version_at, levels}
use Rattle.model.specs.Map.{Map, versions_of, put_in, answered, get_by, get_from}
use Rattle.model.specs.Numbers.{no_version}
use Rattle.model.specs.State.{idle_process}
use Rattle.model.specs.Roles.{is_put, is_get, plays, class_of}
use Rattle.model.specs.Phases.{Moved, at, own_version, used_version, max_nodes, max_versions, ahead, walked, descend, walk_by, walk_of, read_of, seek_by, seek_of}
use Rattle.model.specs.Calls.{process_after}
use Rattle.model.proofs.Tests.{if-by, if-eq, if-lt, by_eq, →and, T-absurd}
use Rattle.linearizability.proofs.Level.{absent}
use Rattle.linearizability.proofs.MapLaws.{no_entry, First, versions_none, versions_first}
use Rattle.linearizability.proofs.Invariant.{Ghost, In, Nodes, Chain, Book, At, Placed, PlacedOf, Clear, ClearOf, Target, FoundAt, FoundOf, StageOf, Unset, Puts, Gets, Scans, Fits, fits_at, Climbs, Risen}
use Rattle.linearizability.proofs.Frame.{Frame, frame_refl}
use Rattle.linearizability.proofs.Alike.{alike_refl, risen_alike, risen_same}

-- ---- the statement

-- how a call ends: a get at its effect, a put with its effect behind it, a scan without one
abbrev pub Ending : Process → (tick : ℕ) → Map → Answer → Version → (effect : ℕ) → Type 0
Ending pr tick b a v e =
    (Gets pr × (pr.effect.tick ≡ 0) × (e ≡ tick) × (get_from b pr.call.key ≡ record { answer = a; version = v }))
    ⊎ (Puts pr × (pr.effect.tick ≢ 0) × (e ≡ pr.effect.tick) × (a ≡ pr.effect.answer) × (v ≡ own_version pr.call))
    ⊎ (Scans pr × (pr.effect.tick ≡ 0) × (e ≡ 0) × (a ≡ Swept) × (v ≡ no_version))

-- what the move is on the map: b before it, b' after it
abbrev pub Does : Memory → Process → (tick : ℕ) → (b b' : Map) → Move → Type 0
Does m pr tick b b' Refuse = ⊥
Does m pr tick b b' Wait = b' ≡ b
Does m pr tick b b' (Go c) = (b' ≡ b) × (c.made ≡ pr.cursor.made)
Does m pr tick b b' (Note c) = (b' ≡ b) × (c.made ≡ pr.cursor.made)
Does m pr tick b b' (Commit c a) = Puts pr × (pr.effect.tick ≡ 0)
    × (put_in (max_nodes m) (max_versions m) b pr.call.key (own_version pr.call) ≡ answered b' a)
Does m pr tick b b' (Show c x) = (b' ≡ b) × (c.made ≡ pr.cursor.made) × Scans pr
Does m pr tick b b' (End a v e) = (b' ≡ b) × Ending pr tick b a v e

pub record Good (m : Memory) (g : Ghost) (i : ℕ) (pr : Process) (tick : ℕ) (b : Map) (v : Move) (m' : Memory) : Type 0 where
  pub node_words_lem : length m'.nodes ≡ length m.nodes
  pub version_words_lem : length m'.versions ≡ length m.versions
  pub g' : Ghost
  pub b' : Map
  pub nodes : Nodes m' g'
  pub book : Book m' b'
  pub fits : Fits m' g' i (process_after tick pr v)
  pub frame : (j : ℕ) → j ≢ i → Frame m m' g g' j
  pub does : Does m pr tick b b' v
  pub risen : Risen m m' g g' pr (process_after tick pr v)

abbrev pub GoodStep : Memory → Ghost → ℕ → Process → (tick : ℕ) → Map → Moved → Type 0
GoodStep m g i pr tick b r = Good m g i pr tick b r.move r.memory

-- ---- what the comparison found

abbrev pub Related : Memory → (l p k : ℕ) → Ahead → Type 0
Related m l p k Unused = (next m.nodes l p ≢ 0) × (m.counts.nodes < next m.nodes l p)
Related m l p k (Less y) = (y ≡ next m.nodes l p) × (next m.nodes l p ≢ 0) × (next m.nodes l p ≤ m.counts.nodes)
    × (key m.nodes (next m.nodes l p) < k)
Related m l p k (Equal y) = (y ≡ next m.nodes l p) × Target m l p k
Related m l p k Past = Clear m l p k

pub related : (m : Memory) (l p k : ℕ) → Related m l p k (ahead m l p k)
unfolding ahead
related m l p k =
    let y = next m.nodes l p in
    let R = Related m l p k in
    if-eq R y 0 (λ e n. absurd (n e)) λ n.
    if-lt R m.counts.nodes y (λ h. (n, h)) λ u.
    if-lt R (key m.nodes y) k (λ h. (refl, n, u, h)) λ h.
    if-eq R (key m.nodes y) k (λ e. (refl, record { some = n; used = u; key_is = e })) λ e _. (u, omega arith)

-- ---- laws used by several phases

pub within_T : {low high n : ℕ} → low ≤ n → n ≤ high → T (leb low n && leb n high)
within_T {low} {high} {n} a c = →and (leb low n) (leb n high) (le→leb low n a) (le→leb n high c)

miss≢inserted : Miss ≡ Inserted → ⊥
miss≢inserted e = let z : ◌≡◌ {A = ℕ} 0 1 = cc in omega arith

-- a put without effect, and a get, have no node in hand
pub no_climb : {pr : Process} → pr.effect.answer ≡ None → (x : ℕ) → ¬ (Climbs pr x)
no_climb e x k = miss≢inserted (sym (ap class_of e) ∙ k.answer)

pub get_no_put : (k : Kind) → T (is_get k) → T (is_put k) → ⊥
get_no_put Idle g p = g
get_no_put Put g p = g
get_no_put Get g p = p
get_no_put Scan g p = g

get_no_climb : {pr : Process} → Gets pr → (x : ℕ) → ¬ (Climbs pr x)
get_no_climb {pr} e x k = get_no_put pr.call.kind e k.kind

pub idle_fits : (m : Memory) (g : Ghost) (i : ℕ) → Fits m g i idle_process
idle_fits m g i = record { phase = Walk; phase_is = refl; role = λ n. absurd (n refl); ok = λ n. absurd (n refl) }

-- every call searches
pub searches : (k : Kind) → k ≢ Idle → T (plays k Searching)
searches Idle n = n refl
searches Put n = tt
searches Get n = tt
searches Scan n = tt

module _ (m : Memory) (g : Ghost) (b : Map) (N : Nodes m g) (B : Book m b) where
  pub link_in : {l p k : ℕ} → At m g l p k → next m.nodes l p ≢ 0
      → In m g l (next m.nodes l p) × (key m.nodes p < key m.nodes (next m.nodes l p))
  link_in {l} {p} a ne = (N.levels l).step p (a.used, a.up) ne

  pub not_unused : {l p k : ℕ} → At m g l p k → Related m l p k Unused → ⊥
  not_unused a r = omega (arith, (link_in a r.0).0.0, r.1)

  pub along : {l p k y : ℕ} → At m g l p k → Related m l p k (Less y) → At m g l y k
  along {l} {p} {k} {y} a r = rw r.0 (let i = (link_in a r.1).0 in record { used = i.0; up = i.1; low = r.3 })

  pub level6 : {l p k : ℕ} → At m g l p k → l < levels
  level6 {l} {p} a = omega (arith, a.up, N.high p a.used)

  -- no node has the key, so the map has no list for it
  pub no_node : (k : ℕ) → ((z : ℕ) → z ≤ m.counts.nodes → key m.nodes z ≢ k) → versions_of b k ≡ []
  no_node k h = versions_none b k (λ j l e. h (suc j) (omega (arith, B.count)) (sym (B.keys j (omega (arith, B.count))) ∙ e))

  pub none_at : (p k : ℕ) → At m g 0 p k → Clear m 0 p k → versions_of b k ≡ []
  none_at p k a c = no_node k (λ z hz.
      absent (N.levels 0) p k (a.used, a.up) a.low (λ ne. (c ne).1) z (hz, omega (arith, N.high z hz)))

  -- the node's entry is the first with its key
  pub first_at : (j k : ℕ) → suc j ≤ m.counts.nodes → key m.nodes (suc j) ≡ k → First b k j
  first_at j k le e = record {
    lies = omega (arith, B.count);
    key = B.keys j (omega arith) ∙ e;
    before = λ h lt eh. clash h lt (N.inj (suc h) (suc j) (omega arith) le (sym (B.keys h (omega arith)) ∙ eh ∙ sym e));
  }
    where
      clash : (h : ℕ) → h < j → suc h ≡ suc j → ⊥
      clash h lt q = omega arith

  pub place_in : (x : ℕ) → 1 ≤ x → x ≤ m.counts.nodes → (1 ≤ newest m.nodes x) × (newest m.nodes x ≤ m.counts.versions)
  place_in zero pos le = absurd (omega arith)
  place_in (suc j) pos le = B.places j (omega arith)

  chain_head : (vs : List Version) (x : ℕ) → Chain m.versions m.counts.versions x vs → 1 ≤ x
      → get_by vs ≡ record { answer = Found; version = version_at m.versions x }
  unfolding get_by
  chain_head [] x h p = absurd (omega arith)
  chain_head (v ∷ vs) x h p = rw (h.2, h.3)

  pub get_at_node : (x k : ℕ) → 1 ≤ x → x ≤ m.counts.nodes → key m.nodes x ≡ k
      → get_from b k ≡ record { answer = Found; version = version_at m.versions (newest m.nodes x) }
  unfolding get_from
  get_at_node zero k pos le e = absurd (omega arith)
  get_at_node (suc j) k pos le e =
      ap get_by (versions_first b k j (first_at j k le e))
      ∙ chain_head (get_or b j no_entry).versions (newest m.nodes (suc j)) (B.chains j (omega arith)) (B.places j (omega arith)).0

-- ---- steps that write no table

module _ (m : Memory) (g : Ghost) (i : ℕ) (pr : Process) (tick : ℕ) (b : Map) (N : Nodes m g) (B : Book m b) where
  abbrev call : Call
  call = pr.call

  abbrev c : Cursor
  c = pr.cursor

  -- a step that changes the process alone
  pub still : (v : Move) → Fits m g i (process_after tick pr v) → Does m pr tick b b v
      → Risen m m g g pr (process_after tick pr v) → Good m g i pr tick b v m
  still v f d r = record {
    node_words_lem = refl;
    version_words_lem = refl;
    g' = g;
    b' = b;
    nodes = N;
    book = B;
    fits = f;
    frame = λ j ne. frame_refl m g j;
    does = d;
    risen = r;
  }

  pub goes : (d : Cursor) → d.made ≡ c.made → Fits m g i (process_after tick pr (Go d)) → Good m g i pr tick b (Go d) m
  unfolding process_after
  goes d e f =
      still (Go d) f (refl, e) (risen_same (alike_refl m g) (λ x k. record { kind = k.kind; answer = k.answer; made = e ∙ k.made }))

  pub notes : (d : Cursor) → d.made ≡ c.made → Fits m g i (process_after tick pr (Note d)) → Good m g i pr tick b (Note d) m
  unfolding process_after
  notes d e f =
      still (Note d) f (refl, e) (risen_same (alike_refl m g) (λ x k. record { kind = k.kind; answer = k.answer; made = e ∙ k.made }))

  -- the predecessor is remembered
  noted : PlacedOf m g pr → (l p : ℕ) → At m g l p call.key
      → Placed m g call.top (set pr.preds c.level c.pred) l p call.key
  noted q l p a = record {
    top5 = q.top5;
    six = length-set pr.preds c.level c.pred ∙ q.six;
    spot = a;
    memo = λ j h. by_eq j c.level
        (λ e. rw (e, get_or-set_same pr.preds c.level c.pred 0 (omega (arith, q.six))) q.spot)
        (λ e. rw (get_or-set_other pr.preds c.level j c.pred 0 e) (q.memo j h));
  }

  lower : PlacedOf m g pr → {l : ℕ} → l ≤ c.level → At m g l c.pred call.key
  lower q h = record { used = q.spot.used; up = omega (arith, q.spot.up); low = q.spot.low }

  -- what the walk's last comparison showed
  abbrev Bottom : (found : ℕ) → Type 0
  Bottom x = (x ≡ 0 → ClearOf m pr) × (x ≢ 0 → FoundAt m 0 x call.key)

  walked_good : (k : Kind) (found : ℕ) → call.kind ≡ k → k ≢ Idle → c.level ≡ 0 → PlacedOf m g pr → Unset pr.effect
      → Bottom found
      → Good m g i pr tick b (walked k call c tick found) m
  unfolding walked process_after get_from get_by
  walked_good Idle found ek nn el q u h = absurd (nn refl)
  walked_good Put found ek nn el q u h = notes (at c Seek c.level c.pred) refl
      (fits_at Seek refl (rw ek tt) (noted q c.level c.pred q.spot, rw el u))
  walked_good Get x ek nn el q u h = if-eq (λ v. Good m g i pr tick b v m) x 0
      (λ e. still (End None no_version tick) (idle_fits m g i)
      (refl, inl (rw ek tt, u.0, refl, rw (none_at m g b N B c.pred call.key (rw el at q.spot) (rw el at (h.0 e)))))
      (risen_alike (alike_refl m g) (λ y _ k. absurd (get_no_climb (rw ek tt) y k))))
      (λ ne. let f = h.1 ne in notes (at c Read c.level x) refl
      (fits_at Read refl (rw ek tt) (record { low = el; used = f.used; pos = f.pos; key_is = f.key_is }, u.0)))
  walked_good Scan found ek nn el q u h = notes (at c Follow c.level c.pred) refl
      (fits_at Follow refl (rw ek tt) (el, (q.spot.used, (lower q (omega arith)).up), u))

  descend_good : (found : ℕ) → call.kind ≢ Idle → PlacedOf m g pr → Unset pr.effect → Bottom found
      → Good m g i pr tick b (descend call c tick found) m
  unfolding descend process_after
  descend_good found nn q u h = if-eq (λ v. Good m g i pr tick b v m) c.level 0
      (λ el. walked_good call.kind found refl nn el q u h)
      (λ nl. notes (at c Walk (c.level - 1) c.pred) refl
      (fits_at Walk refl (searches call.kind nn) (noted q (c.level - 1) c.pred (lower q (omega arith)), u)))

  bottom_of : (y : ℕ) → Related m c.level c.pred call.key (Equal y) → Bottom y
  bottom_of y r = (
    λ e. absurd (r.1.some (sym r.0 ∙ e)),
    λ ne. record {
      low = refl;
      used = rw r.0 r.1.used;
      pos = omega arith;
      key_is = rw r.0 r.1.key_is;
    },
  )

  walk_by_good : (a : Ahead) → Related m c.level c.pred call.key a → call.kind ≢ Idle → PlacedOf m g pr
      → Unset pr.effect
      → Good m g i pr tick b (walk_by call c tick a) m
  unfolding walk_by process_after
  walk_by_good Unused r nn q u = absurd (not_unused m g b N B q.spot r)
  walk_by_good (Less y) r nn q u = goes (at c Walk c.level y) refl
      (fits_at Walk refl (searches call.kind nn)
      (record { top5 = q.top5; six = q.six; spot = along m g b N B q.spot r; memo = q.memo }, u))
  walk_by_good (Equal y) r nn q u = descend_good y nn q u (bottom_of y r)
  walk_by_good Past r nn q u = descend_good 0 nn q u (λ e. r, λ ne. absurd (ne refl))

  pub walk_good : call.kind ≢ Idle → PlacedOf m g pr → Unset pr.effect → Good m g i pr tick b (walk_of call c tick m) m
  unfolding walk_of
  walk_good nn q u = walk_by_good (ahead m c.level c.pred call.key) (related m c.level c.pred call.key) nn q u

  pub read_good : Gets pr → FoundOf m pr → pr.effect.tick ≡ 0 → Good m g i pr tick b (read_of call c tick m) m
  unfolding read_of process_after
  read_good w f e0 =
      let x = newest m.nodes c.pred in
      let q = place_in m g b N B c.pred f.pos f.used in
      if-by (λ v. Good m g i pr tick b v m) (used_version m x)
      (λ t. still (End Found (version_at m.versions x) tick) (idle_fits m g i)
      (refl, inl (w, e0, refl, get_at_node m g b N B c.pred call.key f.pos f.used f.key_is))
      (risen_alike (alike_refl m g) (λ y _ k. absurd (get_no_climb w y k))))
      (λ t. absurd (T-absurd (used_version m x) (within_T q.0 q.1) t))

  seek_by_good : (a : Ahead) → Related m c.level c.pred call.key a → Puts pr → PlacedOf m g pr
      → StageOf m g i pr
      → Good m g i pr tick b (seek_by c a) m
  unfolding seek_by process_after
  seek_by_good Unused r w q s = absurd (not_unused m g b N B q.spot r)
  seek_by_good (Less y) r w q s = goes (at c Seek c.level y) refl
      (fits_at Seek refl w (record { top5 = q.top5; six = q.six; spot = along m g b N B q.spot r; memo = q.memo }, s))
  seek_by_good (Equal y) r w q s = goes (at c Lock c.level c.pred) refl (fits_at Lock refl w (q, s))
  seek_by_good Past r w q s = goes (at c Lock c.level c.pred) refl (fits_at Lock refl w (q, s))

  pub seek_good : Puts pr → PlacedOf m g pr → StageOf m g i pr → Good m g i pr tick b (seek_of call c m) m
  unfolding seek_of
  seek_good w q s = seek_by_good (ahead m c.level c.pred call.key) (related m c.level c.pred call.key) w q s
