-- The invariant of a scan over the history: of its keys that the map had at its start, all that it has passed were shown. Nothing is ever
-- removed, so such a key is a node of level 0 still, and where the scan ends none is left.
use Prim.Native.Nat.{ℕ, zero, suc, ◌≤◌, ◌<◌}
use mathlib.Core.List.{List, [], ◌∷◌, ◌++◌}
use mathlib.Core.Logic.{◌≢◌, inl, inr}
use mathlib.Core.Path.{◌≡◌, refl, sym, ap, ◌∙◌, subst}
use native.Mathlib.Omega.{arith}
use lib.Dec.{T, eqb}
use lib.ListN.{length, get_or, take, length-append}
use lib.Seq.{take-append-le, take_all}
use Rattle.linearizability.specs.Types.{Version, Swept, Item}
use Rattle.model.specs.Layout.{Memory, key, next}
use Rattle.model.specs.Map.{Entry, Map, versions_of, pushed, PutResult, put_by, put_in, applied}
use Rattle.model.specs.Numbers.{no_version}
use Rattle.model.specs.Requests.{Operation, put, get, scan, kind_of, first_of, last_of}
use Rattle.model.specs.Roles.{is_scan}
use Rattle.model.specs.History.{Action, Invoked, Pending, no_call, has_call, Sight, Completed}
use Rattle.model.specs.Linearizability.{All, reply_told}
use Rattle.model.proofs.Tests.{by_eq, by_le, if-eq, if-lt, if-le, if_yes, if_no, eq→eqb, ne→neqb}
use Rattle.linearizability.proofs.MapLaws.{no_entry}
use Rattle.linearizability.proofs.Invariant.{Ghost, In, Nodes, Book}
use Rattle.linearizability.proofs.Effects.{Took, nothing, took, fed, played, played_snoc, all_map, Has, IsShown, ShownIn, EndedIn, shown_grow}
use Rattle.linearizability.proofs.Following.{Nears, Shows}

-- ---- the invariant

-- of the keys that b has, those up to `reach` were shown
abbrev pub Covered : Map → (first last reach : ℕ) → List Sight → Type 0
Covered b first last reach ss = (k : ℕ) → first ≤ k → k ≤ last → Has b k → k ≤ reach → IsShown k ss

-- a scan that stands at the key `reach`
pub record Reached (K W : ℕ) (eff : List Took) (start first last reach : ℕ) (ss : List Sight) : Type 0 where
  pub begun : start ≤ length eff
  pub passed : All (λ (s : Sight). s.item.key ≤ reach) ss
  pub covered : Covered (played K W [] (take start eff)) first last reach ss

-- at node p
abbrev pub ReachedBy : (K W : ℕ) → Memory → List Took → (start p : ℕ) → List Sight → Operation → Type 0
ReachedBy K W m eff start p ss (put k v t draw) = Unit {0}
ReachedBy K W m eff start p ss (get k) = Unit {0}
ReachedBy K W m eff start p ss (scan first last) = (p ≤ m.counts.nodes) × Reached K W eff start first last (key m.nodes p) ss

-- of the call that a process has
abbrev pub Scanning : (K W : ℕ) → Memory → List Took → Pending → (p : ℕ) → List Sight → Type 0
Scanning K W m eff no_call p ss = Unit {0}
Scanning K W m eff (has_call c) p ss = ShownIn K W eff c.operation ss × ReachedBy K W m eff c.start p ss c.operation

-- ---- nothing is removed

has_then : (e : Entry) (b : Map) (k : ℕ) → e.key ≡ k → Has (e ∷ b) k → e.versions ≢ []
unfolding versions_of
has_then e b k y h z = h (if_yes (eqb e.key k) _ _ (eq→eqb e.key k y) ∙ z)

has_else : (e : Entry) (b : Map) (k : ℕ) → e.key ≢ k → Has (e ∷ b) k → Has b k
unfolding versions_of
has_else e b k n h z = h (if_no (eqb e.key k) _ _ (ne→neqb e.key k n) ∙ z)

pushed_has : (b : Map) (q k : ℕ) (v : Version) → Has b k → Has (pushed b q v) k
unfolding versions_of pushed
pushed_has [] q k v h = h
pushed_has (e ∷ b) q k v h = if-eq (λ (c : Map). Has c k) e.key q
    (λ a. unfold versions_of in (if-eq (λ (l : List Version). l ≢ []) e.key k
    (λ y z. let w : ◌≡◌ {A = ℕ} 0 1 = cc in omega arith) (λ n. has_else e b k n h)))
    (λ a. unfold versions_of in (if-eq (λ (l : List Version). l ≢ []) e.key k
    (λ y. has_then e b k y h) (λ n. pushed_has b q k v (has_else e b k n h))))

snoc_has : (b c : Map) (k : ℕ) → Has b k → Has (b ++ c) k
unfolding versions_of
snoc_has [] c k h = absurd (h refl)
snoc_has (e ∷ b) c k h =
    if-eq (λ (l : List Version). l ≢ []) e.key k (λ y. has_then e b k y h) (λ n. snoc_has b c k (has_else e b k n h))

put_has : (K W : ℕ) (b : Map) (q k : ℕ) (v : Version) (l : List Version) → Has b k → Has (put_by K W b q v l).map k
unfolding put_by
put_has K W b q k v (x ∷ l) h = if-lt (λ (r : PutResult). Has r.map k) v.timestamp x.timestamp (λ a. h)
    (λ a. if-le (λ (r : PutResult). Has r.map k) W _ (λ a. h) (λ a. pushed_has b q k v h))
put_has K W b q k v [] h = if-le (λ (r : PutResult). Has r.map k) K _ (λ a. h)
    (λ a. if-le (λ (r : PutResult). Has r.map k) W _ (λ a. h) (λ a. snoc_has b _ k h))

applied_has : (K W : ℕ) (b : Map) (op : Operation) (k : ℕ) → Has b k → Has (applied K W b op).map k
unfolding applied put_in
applied_has K W b (put q v t draw) k h = put_has K W b q k _ (versions_of b q) h
applied_has K W b (get q) k h = h
applied_has K W b (scan first last) k h = h

fed_has : (K W : ℕ) (b : Map) (x : Took) (k : ℕ) → Has b k → Has (fed K W b x) k
unfolding fed
fed_has K W b nothing k h = h
fed_has K W b (took i c) k h = applied_has K W b c.operation k h

-- what was held after the first n effects is held after all
held_since : (K W : ℕ) (b : Map) (n : ℕ) (es : List Took) (k : ℕ) → Has (played K W b (take n es)) k → Has (played K W b es) k
unfolding played
held_since K W b zero [] k h = h
held_since K W b zero (e ∷ es) k h = held_since K W (fed K W b e) zero es k (fed_has K W b e k h)
held_since K W b (suc n) [] k h = h
held_since K W b (suc n) (e ∷ es) k h = held_since K W (fed K W b e) n es k h

-- ---- a key of the map is a node linked at level 0

entry_of : (b : Map) (k : ℕ) → Has b k → (i : ℕ) × (i < length b) × ((get_or b i no_entry).key ≡ k)
unfolding versions_of
entry_of [] k h = absurd (h refl)
entry_of (e ∷ b) k h = by_eq e.key k (λ y. (0, omega arith, y))
    (λ n. let r = entry_of b k (has_else e b k n h) in (suc r.0, omega (arith, r.1), r.2))

node_of : {m : Memory} {g : Ghost} {b : Map} → Nodes m g → Book m b → (k : ℕ) → Has b k → (z : ℕ) × In m g 0 z × (key m.nodes z ≡ k)
node_of {m} {g} {b} N B k h =
    let r = entry_of b k h in
    let lt : r.0 < m.counts.nodes = omega (arith, r.1, B.count) in
    (suc r.0, (omega arith, (N.high (suc r.0) (omega arith)).0), sym (B.keys r.0 lt) ∙ r.2)

-- ---- one step of the scan

-- at node p, in memory that holds the map of all effects
module _ (K W : ℕ) (m : Memory) (g : Ghost) (b : Map) (eff : List Took) (N : Nodes m g) (B : Book m b) (e : b ≡ played K W [] eff)
    (start first last p : ℕ) (ss : List Sight) (u : p ≤ m.counts.nodes) (r : Reached K W eff start first last (key m.nodes p) ss) where
  abbrev y : ℕ
  y = next m.nodes 0 p

  -- nothing that was held at the start lies between p and the next node
  between : (k : ℕ) → Has (played K W [] (take start eff)) k → key m.nodes p < k → (y ≢ 0) × (key m.nodes y ≤ k)
  between k h lt =
      let z = node_of N B k (subst (λ (c : Map). Has c k) (sym e) (held_since K W [] start eff k h)) in
      let q = (N.levels 0).gap p z.0 (u, (N.high p u).0) z.1 (omega (arith, z.2)) in
      (q.0, omega (arith, q.1, z.2))

  pub covered_shown : (s : Sight) → s.item.key ≡ key m.nodes y
      → Covered (played K W [] (take start eff)) first last (key m.nodes y) (s ∷ ss)
  covered_shown s q k lo hi h le = by_eq k (key m.nodes y)
      (λ z. inl (q ∙ sym z))
      (λ ne. by_le k (key m.nodes p) (λ lp. inr (r.covered k lo hi h lp)) (λ gt. absurd (omega (arith, (between k h gt).1))))

  pub covered_whole : (y ≢ 0 → last < key m.nodes y) → (k : ℕ) → first ≤ k → k ≤ last → Has (played K W [] (take start eff)) k → IsShown k ss
  covered_whole past k lo hi h = by_le k (key m.nodes p) (r.covered k lo hi h)
      (λ gt. let q = between k h gt in absurd (omega (arith, q.1, past q.0)))

  pub rises : y ≢ 0 → key m.nodes p < key m.nodes y
  rises ne = ((N.levels 0).step p (u, (N.high p u).0) ne).1

-- ---- one event more: nodes stay, with their keys

abbrev pub KeysStay : Memory → Memory → Type 0
KeysStay m m' = (m.counts.nodes ≤ m'.counts.nodes) × ((x : ℕ) → x ≤ m.counts.nodes → key m'.nodes x ≡ key m.nodes x)

module _ (K W : ℕ) (m m' : Memory) (F : KeysStay m m') (log : List Action) (eff : List Took) (a : Action) (x : Took) (even : length eff ≡ length log) where
  abbrev eff' : List Took
  eff' = eff ++ (x ∷ [])

  longer : length eff' ≡ suc (length eff)
  longer = omega (arith, length-append eff (x ∷ []))

  -- an event of another process
  pub scanning_stays : (c : Pending) (p : ℕ) (ss : List Sight) → Scanning K W m eff c p ss → Scanning K W m' eff' c p ss
  scanning_stays no_call p ss h = tt
  scanning_stays (has_call c) p ss h = (shown_grow K W log eff a x even c.operation ss h.0, by c.operation h.1)
    where
      by : (op : Operation) → ReachedBy K W m eff c.start p ss op → ReachedBy K W m' eff' c.start p ss op
      by (put k v t draw) r = tt
      by (get k) r = tt
      by (scan first last) (u, r) = (
        omega (arith, F.0, u),
        record {
          begun = omega (arith, r.begun, longer);
          passed = rw (F.1 p u) r.passed;
          covered = rw (F.1 p u, take-append-le c.start eff (x ∷ []) r.begun) r.covered;
        },
      )

  -- its own event, which shows nothing: from p to p'
  pub scanning_near : (c : Invoked) (p p' : ℕ) (ss : List Sight)
      → (T (is_scan (kind_of c.operation)) → Nears m (first_of c.operation) p p')
      → Scanning K W m eff (has_call c) p ss → Scanning K W m' eff' (has_call c) p' ss
  scanning_near c p p' ss near h = (shown_grow K W log eff a x even c.operation ss h.0, by c.operation near h.1)
    where
      by : (op : Operation) → (T (is_scan (kind_of op)) → Nears m (first_of op) p p') → ReachedBy K W m eff c.start p ss op
          → ReachedBy K W m' eff' c.start p' ss op
      by (put k v t draw) near r = tt
      by (get k) near r = tt
      by (scan first last) near (u, r) =
          let n = near tt in
          let same = F.1 p' n.used in (
            omega (arith, F.0, n.used),
            record {
              begun = omega (arith, r.begun, longer);
              passed = all_map (λ s q. omega (arith, q, n.up, same)) ss r.passed;
              covered = λ k lo hi held le. absurd (omega (arith, n.low, same));
            },
          )

-- "trays rise"
below_all : (reach : ℕ) (s : Sight) (ss : List Sight) → reach < s.item.key → All (λ (t : Sight). t.item.key ≤ reach) ss
    → All (λ (t : Sight). t.item.key < s.item.key) ss
below_all reach s ss lt h = all_map (λ t q. omega (arith, q)) ss h

-- its own event, which shows the node behind p
module _ (K W : ℕ) (m m' : Memory) (g : Ghost) (b : Map) (eff : List Took) (N : Nodes m g) (B : Book m b) (F : KeysStay m m')
    (log : List Action) (a : Action) (even : length eff ≡ length log) (e : b ≡ played K W [] eff) where
  abbrev on : List Took
  on = eff ++ (nothing ∷ [])

  on_length : length on ≡ suc (length eff)
  on_length = omega (arith, length-append eff (nothing ∷ []))

  -- nothing took effect at this event, so the map is as it was
  played_on : (t : ℕ) → t ≡ length on → played K W [] (take t on) ≡ b
  unfolding fed
  played_on t q = ap (λ (l : List Took). played K W [] l) (take_all t on (omega (arith, q))) ∙ played_snoc K W [] eff nothing ∙ sym e

  pub scanning_shown : (c : Invoked) (p y tick : ℕ) (z : Item) (ss : List Sight) → T (is_scan (kind_of c.operation))
      → tick ≡ length on → Shows m b (first_of c.operation) (last_of c.operation) p y z → Scanning K W m eff (has_call c) p ss
      → Scanning K W m' on (has_call c) y (record { item = z; tick = tick } ∷ ss)
  scanning_shown c p y tick z ss is q d h = by c.operation is d (shown_grow K W log eff a nothing even c.operation ss h.0) h.1
    where
      s : Sight
      s = record { item = z; tick = tick }

      by : (op : Operation) → T (is_scan (kind_of op)) → Shows m b (first_of op) (last_of op) p y z → ShownIn K W on op ss
          → ReachedBy K W m eff c.start p ss op
          → ShownIn K W on op (s ∷ ss) × ReachedBy K W m' on c.start y (s ∷ ss) op
      by (put k v t draw) is d o r = absurd is
      by (get k) is d o r = absurd is
      by (scan first last) is d o (u, r) =
          let at_y : z.key ≡ key m.nodes (next m.nodes 0 p) = d.key_is ∙ ap (key m.nodes) d.behind in
          let up = rises K W m g b eff N B e c.start first last p ss u r d.some in
          let reach : key m'.nodes y ≡ z.key = F.1 y d.used ∙ sym d.key_is in (
            (
              ((d.above, d.below, omega (arith, q), rw (played_on tick q) d.newest_is), o.0),
              (below_all (key m.nodes p) s ss (omega (arith, at_y)) r.passed, o.1),
            ),
            (
              omega (arith, F.0, d.used),
              record {
                begun = omega (arith, r.begun, on_length);
                passed = (omega (arith, reach), all_map (λ t w. omega (arith, w, reach, at_y)) ss r.passed);
                covered =
                    rw (reach ∙ at_y, take-append-le c.start eff (nothing ∷ []) r.begun) (covered_shown K W m g b eff N B e c.start first last p ss u r s at_y);
              },
            ),
          )

  -- its end
  pub scanning_ends : (d : Completed) (p : ℕ) → T (is_scan (kind_of d.invoked.operation))
      → reply_told d.told ≡ record { answer = Swept; version = no_version } → d.told.effect ≡ 0
      → (next m.nodes 0 p ≢ 0 → last_of d.invoked.operation < key m.nodes (next m.nodes 0 p))
      → Scanning K W m eff (has_call d.invoked) p d.shown → EndedIn K W on d d.invoked.operation
  scanning_ends d p is told unset past h = by d.invoked.operation is past h.1
    where
      by : (op : Operation) → T (is_scan (kind_of op)) → (next m.nodes 0 p ≢ 0 → last_of op < key m.nodes (next m.nodes 0 p))
          → ReachedBy K W m eff d.invoked.start p d.shown op → EndedIn K W on d op
      by (put k v t draw) is past r = tt
      by (get k) is past r = tt
      by (scan first last) is past (u, r) = (
        told,
        unset,
        omega (arith, r.begun, on_length),
        rw (take-append-le d.invoked.start eff (nothing ∷ []) r.begun) (covered_whole K W m g b eff N B e d.invoked.start first last p d.shown u r past),
      )
