-- A scan's steps: following keeps the invariant, and each move of a scan comes nearer to its first key, shows the next node, or
-- ends where the next is none of its keys.
use Prim.Native.Nat.{ℕ, ◌≤◌, ◌<◌}
use mathlib.Core.Logic.{◌≢◌, inr}
use mathlib.Core.Path.{◌≡◌, refl}
use native.Mathlib.Omega.{arith}
use lib.Dec.{T}
use Rattle.linearizability.specs.Types.{Kind, Idle, Put, Get, Scan, Phase, Walk, Read, Seek, Lock, Check, Update, Make, Link, Release, Follow, Found, Call, Cursor, Process, Item, Ahead, Unused, Less, Equal, Past, Move, Refuse, Wait, Go, Note, Commit, Show, End}
use Rattle.model.specs.Layout.{Memory, key, newest, next, version_at}
use Rattle.model.specs.Map.{Map, get_from}
use Rattle.model.specs.Roles.{is_put, is_get, is_scan, role_of, plays}
use Rattle.model.specs.Phases.{at, used_version, ahead, walked, descend, walk_by, walk_of, show_at, swept, follow_at, follow_of}
use Rattle.model.specs.Calls.{process_after}
use Rattle.model.proofs.Tests.{if-by, if-eq, if-lt, T-absurd}
use Rattle.linearizability.proofs.Invariant.{Ghost, In, Nodes, Book, PlacedOf, Unset, AtPhase, Scans, Fits, fits_at}
use Rattle.linearizability.proofs.Alike.{alike_refl, risen_alike, risen_same}
use Rattle.linearizability.proofs.Step.{Good, Related, related, within_T, no_climb, idle_fits, not_unused, along, place_in, get_at_node, still, goes}

-- ---- which phases a scan goes through

pub scan_no_get : (k : Kind) → T (is_scan k) → T (is_get k) → ⊥
scan_no_get Idle s g = s
scan_no_get Put s g = s
scan_no_get Get s g = s
scan_no_get Scan s g = g

pub scan_no_put : (k : Kind) → T (is_scan k) → T (is_put k) → ⊥
scan_no_put Idle s p = s
scan_no_put Put s p = s
scan_no_put Get s p = s
scan_no_put Scan s p = p

-- its walk and its following
pub scan_by : (P : Phase → Type 0) (k : Kind) (ph : Phase) → T (is_scan k) → T (plays k (role_of ph)) → P Walk → P Follow → P ph
scan_by P k Walk s w walk follow = walk
scan_by P k Read s w walk follow = absurd (scan_no_get k s w)
scan_by P k Seek s w walk follow = absurd (scan_no_put k s w)
scan_by P k Lock s w walk follow = absurd (scan_no_put k s w)
scan_by P k Check s w walk follow = absurd (scan_no_put k s w)
scan_by P k Update s w walk follow = absurd (scan_no_put k s w)
scan_by P k Make s w walk follow = absurd (scan_no_put k s w)
scan_by P k Link s w walk follow = absurd (scan_no_put k s w)
scan_by P k Release s w walk follow = absurd (scan_no_put k s w)
scan_by P k Follow s w walk follow = follow

-- a scan takes no effect
pub scan_unset : {m : Memory} {g : Ghost} {i : ℕ} (pr : Process) → Fits m g i pr → pr.call.kind ≢ Idle → Scans pr → pr.effect.tick ≡ 0
scan_unset {m} {g} {i} pr f nn s = scan_by (λ ph. AtPhase m g i pr ph → pr.effect.tick ≡ 0) pr.call.kind f.phase s (f.role nn)
    (λ c. c.1.0) (λ c. c.2.0) (f.ok nn)

-- ---- what a scan's move does

-- from node p to p', which lies before the first key
pub record Nears (m : Memory) (first p p' : ℕ) : Type 0 where
  pub used : p' ≤ m.counts.nodes
  pub up : key m.nodes p ≤ key m.nodes p'
  pub low : key m.nodes p' < first

-- to the next node y behind p, of these keys: its newest version is the map's
pub record Shows (m : Memory) (b : Map) (first last p y : ℕ) (x : Item) : Type 0 where
  pub behind : y ≡ next m.nodes 0 p
  pub some : next m.nodes 0 p ≢ 0
  pub used : y ≤ m.counts.nodes
  pub key_is : x.key ≡ key m.nodes y
  pub above : first ≤ x.key
  pub below : x.key ≤ last
  pub newest_is : get_from b x.key ≡ record { answer = Found; version = x.version }

abbrev pub ScanDoes : Memory → Process → Map → Move → Type 0
ScanDoes m pr b Refuse = ⊥
ScanDoes m pr b Wait = ⊥
ScanDoes m pr b (Go c) = Nears m pr.call.key pr.cursor.pred c.pred
ScanDoes m pr b (Note c) = Nears m pr.call.key pr.cursor.pred c.pred
ScanDoes m pr b (Commit c a) = ⊥
ScanDoes m pr b (Show c x) = Shows m b pr.call.key pr.call.last pr.cursor.pred c.pred x
ScanDoes m pr b (End a v e) =
    next m.nodes 0 pr.cursor.pred ≢ 0 → pr.call.last < key m.nodes (next m.nodes 0 pr.cursor.pred)

module _ (m : Memory) (g : Ghost) (i : ℕ) (pr : Process) (tick : ℕ) (b : Map) (N : Nodes m g) (B : Book m b) where
  abbrev call : Call
  call = pr.call

  abbrev c : Cursor
  c = pr.cursor

  -- ---- the walk

  module _ (s : Scans pr) (q : PlacedOf m g pr) where
    stays : Nears m call.key c.pred c.pred
    stays = record { used = q.spot.used; up = omega arith; low = q.spot.low }

    walked_scans : (k : Kind) (found : ℕ) → T (is_scan k) → ScanDoes m pr b (walked k call c tick found)
    unfolding walked
    walked_scans Idle found t = absurd t
    walked_scans Put found t = absurd t
    walked_scans Get found t = absurd t
    walked_scans Scan found t = stays

    descend_scans : (found : ℕ) → ScanDoes m pr b (descend call c tick found)
    unfolding descend
    descend_scans found = if-eq (ScanDoes m pr b) c.level 0 (λ e. walked_scans call.kind found s) (λ ne. stays)

    walk_by_scans : (a : Ahead) → Related m c.level c.pred call.key a → ScanDoes m pr b (walk_by call c tick a)
    unfolding walk_by
    walk_by_scans Unused r = absurd (not_unused m g b N B q.spot r)
    walk_by_scans (Less y) r =
        let a = along m g b N B q.spot r in
        let up = ((N.levels c.level).step c.pred (q.spot.used, q.spot.up) r.1).1 in
        record { used = a.used; up = rw r.0 (omega arith); low = a.low }
    walk_by_scans (Equal y) r = descend_scans y
    walk_by_scans Past r = descend_scans 0

    pub walk_scans : ScanDoes m pr b (walk_of call c tick m)
    unfolding walk_of
    walk_scans = walk_by_scans (ahead m c.level c.pred call.key) (related m c.level c.pred call.key)

  -- ---- the following

  module _ (s : Scans pr) (el : c.level ≡ 0) (hp : In m g 0 c.pred) (u : Unset pr.effect) where
    abbrev Kept : Move → Type 0
    Kept v = Good m g i pr tick b v m × ScanDoes m pr b v

    abbrev y : ℕ
    y = next m.nodes 0 c.pred

    ends : (y ≢ 0 → call.last < key m.nodes y) → Kept (swept call)
    unfolding process_after
    ends past = (
      still m g i pr tick b N B (swept call) (idle_fits m g i) (refl, inr (inr (s, u.0, refl, refl, refl)))
          (risen_alike (alike_refl m g) (λ x _ k. absurd (no_climb u.1 x k))),
      past,
    )

    module _ (ne : y ≢ 0) where
      link : In m g 0 y × (key m.nodes c.pred < key m.nodes y)
      link = (N.levels 0).step c.pred hp ne

      passes : key m.nodes y < call.key → Kept (Go (at c Follow c.level y))
      unfolding process_after
      passes low = (
        goes m g i pr tick b N B (at c Follow c.level y) refl (fits_at Follow refl s (el, link.0, u)),
        record { used = link.0.0; up = omega (arith, link.1); low = low },
      )

      shows : call.key ≤ key m.nodes y → key m.nodes y ≤ call.last → Kept (show_at c y m)
      unfolding show_at process_after
      shows lo hi =
          let x = newest m.nodes y in
          let p = place_in m g b N B y (omega arith) link.0.0 in
          if-by Kept (used_version m x)
          (λ t. (
            still m g i pr tick b N B (Show (at c Follow c.level y) (record { key = key m.nodes y; version = version_at m.versions x }))
                (fits_at Follow refl s (el, link.0, u)) (refl, refl, s)
                (risen_same (alike_refl m g) (λ z k. record { kind = k.kind; answer = k.answer; made = k.made })),
            record {
              behind = refl;
              some = ne;
              used = link.0.0;
              key_is = refl;
              above = lo;
              below = hi;
              newest_is = get_at_node m g b N B y (key m.nodes y) (omega arith) link.0.0 refl;
            },
          ))
          (λ t. absurd (T-absurd (used_version m x) (within_T p.0 p.1) t))

    pub follow_good : Kept (follow_of call c m)
    unfolding follow_of follow_at
    follow_good =
        if-eq Kept y 0 (λ e. ends (λ ne. absurd (ne e))) λ ne.
        if-lt Kept m.counts.nodes y (λ h. absurd (omega (arith, (link ne).0.0))) λ h.
        if-lt Kept call.last (key m.nodes y) (λ h. ends (λ n. h)) λ hi.
        if-lt Kept (key m.nodes y) call.key (passes ne) (λ lo. shows ne lo hi)
