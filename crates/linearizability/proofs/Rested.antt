-- A store in order without a running call is sound: nobody holds a lock, and every node is linked up to its top. With one, its
-- inspection is refused.
use Prim.Native.Nat.{ℕ, zero, suc, ◌≤◌, ◌<◌}
use mathlib.Core.Bool.{Bool, true, false, ◌&&◌}
use mathlib.Core.List.{List, [], ◌∷◌}
use mathlib.Core.Logic.{◌≢◌}
use mathlib.Core.Path.{◌≡◌, refl, sym, ap, ◌∙◌, subst}
use native.Mathlib.Omega.{arith}
use lib.Dec.{T}
use lib.ListN.{get_or}
use Rattle.linearizability.specs.Types.{Kind, Idle, Put, Get, Scan, Busy, Process, Version, Err, no_fault, idle_status, running_status}
use Rattle.model.specs.Layout.{Memory, key, newest, top, next, lock, prev, levels}
use Rattle.model.specs.Map.{Map}
use Rattle.model.specs.Calls.{Store, standing, status_of}
use Rattle.model.specs.Inspection.{idle_below, inspect_permit, inspect_by, inspect_of}
use Rattle.model.specs.Soundness.{On, LevelSound, ChainSound, oldest, older, Sound}
use Rattle.model.specs.Roles.{is_idle, is_put}
use Rattle.model.proofs.Tests.{by_eq, by_le}
use Rattle.linearizability.proofs.MapLaws.{no_entry}
use Rattle.linearizability.proofs.Invariant.{Ghost, In, Chain, Sorted}
use Rattle.linearizability.proofs.Inspected.{means_sound}
use Rattle.linearizability.proofs.Live.{memory, slot, Core, core_lawful, status_is}

-- the chain of an entry's versions is sound
chain_sound_lem : (m : Memory) (i : ℕ) (vs : List Version) → 1 ≤ i → Chain m.versions m.counts.versions i vs → Sorted vs
    → ChainSound m i
chain_sound_lem m i [] p h s = absurd (omega arith)
chain_sound_lem m i (v ∷ []) p h s = oldest (h.0, h.1) h.5
chain_sound_lem m i (v ∷ u ∷ us) p h s =
    older (h.0, h.1) h.4 (omega (arith, h.3, h.5.3, s.0)) (chain_sound_lem m (prev m.versions i) (u ∷ us) h.5.0 h.5 s.1)

module _ {w : Store} {g : Ghost} {b : Map} (k : Core w g b) (idle : (i : ℕ) → (slot w i).call.kind ≡ Idle) where
  abbrev m : Memory
  m = memory w

  free : (l x : ℕ) → l < levels → x ≤ m.counts.nodes → lock m.nodes l x ≡ 0
  free l x h6 hx = go (lock m.nodes l x) refl
    where
      go : (n : ℕ) → lock m.nodes l x ≡ n → lock m.nodes l x ≡ 0
      go zero e = e
      go (suc j) e = absurd ((k.locks j l x h6 hx e).kind (idle j))

  linked_up : (x : ℕ) → x ≤ m.counts.nodes → g.high x ≡ suc (top m.nodes x)
  linked_up x h = k.tops x h (λ i c. subst (λ k. T (is_put k)) (idle i) c.kind)

  on_in : (l x : ℕ) → l < levels → On m l x → In m g l x
  on_in l x h6 o = (
    o.0,
    by_eq x 0
        (λ e. omega (arith, ap g.high e, k.nodes.head_high))
        (λ ne. omega (arith, linked_up x o.0, o.1 ne)),
  )

  in_on : (l x : ℕ) → In m g l x → On m l x
  in_on l x i = (i.0, λ ne. omega (arith, i.1, linked_up x i.0))

  level_sound : (l : ℕ) → l < levels → LevelSound m l
  level_sound l h6 = record {
    free = λ x o. free l x h6 o.0;
    rises = λ x o ne. let s = (k.nodes.levels l).step x (on_in l x h6 o) ne in (in_on l (next m.nodes l x) s.0, s.1);
    nearest = λ x z ox oz lt. (k.nodes.levels l).gap x z (on_in l x h6 ox) (on_in l z h6 oz) lt;
    distinct = λ x z ox oz e. k.nodes.inj x z ox.0 oz.0 e;
    first = λ z oz ne.
        let d : key m.nodes z ≢ key m.nodes 0 = λ e. ne (k.nodes.inj z 0 oz.0 (omega arith) e) in
        omega (arith, k.nodes.head_key);
  }

  pub rested_sound : Sound m
  rested_sound = record { levels = level_sound; chains = chains }
    where
      chains : (x : ℕ) → 1 ≤ x → x ≤ m.counts.nodes → ChainSound m (newest m.nodes x)
      chains zero p h = absurd (omega arith)
      chains (suc i) p h =
          chain_sound_lem m (newest m.nodes (suc i)) (get_or b i no_entry).versions (k.book.places i h).0 (k.book.chains i h) (k.book.sorted i h)

  below_idle : (n : ℕ) → idle_below w.state n ≡ true
  unfolding idle_below
  below_idle zero = refl
  below_idle (suc n) = rw (idle n) (below_idle n)

  idle_inspects : inspect_of w.state w.nodes w.versions ≡ no_fault
  unfolding inspect_of inspect_permit
  idle_inspects = rw (core_lawful k, below_idle w.state.processes) (unfold inspect_by in (means_sound m rested_sound))

running≢idle : {q : Kind} {s t : ℕ} → running_status q s t ≡ idle_status → ⊥
running≢idle e = let z : ◌≡◌ {A = ℕ} 0 1 = cc in omega arith

-- standing shows no call at any process, so none runs
pub idle_sound : {w : Store} {g : Ghost} {b : Map} → Core w g b
    → ((i : ℕ) → i < w.state.processes → status_of w.state i ≡ idle_status)
    → inspect_of w.state w.nodes w.versions ≡ no_fault
idle_sound {w} k f =
    idle_inspects k (λ i. by_le w.state.processes i (k.beyond i) (λ h. shown_idle (slot w i).call.kind (slot w i) (sym (status_is k i h) ∙ f i h)))
  where
    shown_idle : (kind : Kind) (pr : Process) → standing kind pr ≡ idle_status → kind ≡ Idle
    shown_idle Idle pr e = refl
    shown_idle Put pr e = absurd (unfold standing in (running≢idle e))
    shown_idle Get pr e = absurd (unfold standing in (running≢idle e))
    shown_idle Scan pr e = absurd (unfold standing in (running≢idle e))

-- standing shows a call at some process, so the inspection is refused
pub busy_inspects : {w : Store} {g : Ghost} {b : Map} → Core w g b → (i : ℕ) → i < w.state.processes
    → status_of w.state i ≢ idle_status → inspect_of w.state w.nodes w.versions ≡ Err Busy
unfolding inspect_of inspect_permit idle_below
busy_inspects {w} k i below ne = rw (core_lawful k, some_busy w.state.processes below) (unfold inspect_by in refl)
  where
    by_kind : (kind : Kind) (pr : Process) → standing kind pr ≢ idle_status → is_idle kind ≡ false
    by_kind Idle pr h = absurd (h (unfold standing in refl))
    by_kind Put pr h = refl
    by_kind Get pr h = refl
    by_kind Scan pr h = refl

    busy : is_idle (slot w i).call.kind ≡ false
    busy = by_kind (slot w i).call.kind (slot w i) (λ e. ne (status_is k i below ∙ e))

    not_both : (x : Bool) → (x && false) ≡ false
    not_both true = refl
    not_both false = refl

    some_busy : (n : ℕ) → i < n → idle_below w.state n ≡ false
    some_busy zero lt = absurd (omega arith)
    some_busy (suc n) lt = by_eq i n
        (λ e. ap (λ x. x && idle_below w.state n) (subst (λ j. is_idle (slot w j).call.kind ≡ false) e busy))
        (λ other. ap (λ x. is_idle (slot w n).call.kind && x) (some_busy n (omega arith)) ∙ not_both (is_idle (slot w n).call.kind))
