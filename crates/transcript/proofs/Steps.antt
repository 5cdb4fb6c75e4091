-- What a step leaves of its tables, and what it shows: as many words, and nothing but where a scan makes it.
use Prim.Native.Nat.{ℕ, ◌+◌}
use mathlib.Core.Bool.{false, not, ◌&&◌}
use mathlib.Core.List.{List}
use mathlib.Core.Path.{◌≡◌, refl, ◌∙◌, subst}
use lib.Dec.{T, eqb, ltb, leb}
use lib.ListN.{length, get_or}
use Rattle.model.specs.Layout.{Memory, top_level, newest, next, lock, timestamp}
use Rattle.model.specs.Roles.{is_scan, is_new, role_of, plays}
use Rattle.model.specs.State.{process_at, memory_of}
use Rattle.model.specs.Phases.{Moved, moved, refuses, used_node, used_version, max_nodes, max_versions, with_holder, ahead_of, walked, descend}
use Rattle.model.specs.Phases.{walk_by, walk_of, read_of, seek_by, seek_of, lock_of, check_by, check_of, add_version, update_node, update_at, update_of}
use Rattle.model.specs.Phases.{add_node, make_of, add_link, link_of, rise, released, freed, release_of, lawful_effect, lawful_at, lawful_process}
use Rattle.model.specs.Phases.{phase_of, transition_of}
use Rattle.model.specs.Calls.{Store, step_permit, outcome_of, step_by, step_of}
use Rattle.model.proofs.Laws.{length_tally}
use Rattle.model.proofs.Tests.{if-by, and→}
use Rattle.model.proofs.Words.{length_word, length_node, length_version}
use Rattle.transcript.specs.Types.{Permit, Ok, Err, Call, Cursor, Effect, Process, Kind}
use Rattle.transcript.specs.Types.{Phase, Walk, Read, Seek, Lock, Check, Update, Make, Link, Release, Follow}
use Rattle.transcript.specs.Types.{Ahead, Unused, Less, Equal, Past, Move, Refuse, Wait, Go, Note, Commit, Show, End}
use Rattle.transcript.proofs.Meanings.{Unshown}

-- both tables are as long as before
pub record Long (m m' : Memory) : Type 0 where
  pub nodes : length m'.nodes ≡ length m.nodes
  pub versions : length m'.versions ≡ length m.versions

as_long : (m : Memory) → Long m m
as_long m = record { nodes = refl; versions = refl }

abbrev Silent : Move → Type 0
Silent Refuse = Unit {0}
Silent Wait = Unit {0}
Silent (Go c) = Unit {0}
Silent (Note c) = Unit {0}
Silent (Commit c a) = Unit {0}
Silent (Show c x) = ⊥
Silent (End a v e) = Unit {0}

-- ---- phases that write

module _ (c : Cursor) (m : Memory) where
  abbrev Of : Moved → Type 0
  Of r = Long m r.memory × Silent r.move

  held_long : (holder : ℕ) → Long m (with_holder m c holder)
  held_long holder = record { nodes = length_word m.nodes c.pred (10 + c.level) holder; versions = refl }

  lock_leaves : (holder : ℕ) → Of (lock_of c holder m)
  unfolding lock_of
  lock_leaves holder =
      if-by Of (eqb (lock m.nodes c.level c.pred) 0) (λ t. (held_long holder, tt)) (λ t. (as_long m, tt))

  check_leaves : (a : Ahead) → Of (check_by c m a)
  unfolding check_by
  check_leaves Unused = (as_long m, tt)
  check_leaves (Less y) = (held_long 0, tt)
  check_leaves (Equal y) = (as_long m, tt)
  check_leaves Past = (as_long m, tt)

  update_leaves : (call : Call) (x : ℕ) → Of (update_at call c x m)
  unfolding update_at update_node add_version
  update_leaves call x =
      let v = newest m.nodes x in
      if-by Of (not (used_node m x)) (λ t. (as_long m, tt)) λ t.
      if-by Of (not (used_version m v)) (λ t. (as_long m, tt)) λ t.
      if-by Of (ltb call.timestamp (timestamp m.versions v)) (λ t. (as_long m, tt)) λ t.
      if-by Of (leb (max_versions m) m.counts.versions) (λ t. (as_long m, tt)) λ t.
      (record { nodes = length_word m.nodes x 1 _; versions = length_version m.versions _ _ v }, tt)

  make_leaves : (call : Call) → Of (make_of call c m)
  unfolding make_of add_node
  make_leaves call =
      if-by Of (leb (max_nodes m) m.counts.nodes) (λ t. (as_long m, tt)) λ t.
      if-by Of (leb (max_versions m) m.counts.versions) (λ t. (as_long m, tt)) λ t.
      if-by Of (ltb top_level call.top) (λ t. (as_long m, tt)) λ t. (
        record {
          nodes = length_word _ c.pred 4 _ ∙ length_node m.nodes _ call.key _ call.top _;
          versions = length_version m.versions _ _ 0;
        },
        tt,
      )

  link_leaves : Of (link_of c m)
  unfolding link_of add_link
  link_leaves =
      if-by Of (used_node m c.made)
      (λ t. (
        record {
          nodes = length_word _ c.pred (4 + c.level) _ ∙ length_word m.nodes c.made (4 + c.level) _;
          versions = refl;
        },
        tt,
      ))
      (λ t. (as_long m, tt))

  release_leaves : (v : Move) → Silent v → Of (freed c m v)
  unfolding freed
  release_leaves v s = (if-by (Long m) (refuses v) (λ t. as_long m) (λ t. held_long 0), s)

-- ---- what phases ask for

module _ (call : Call) (c : Cursor) where
  walked_silent : (kind : Kind) (tick found : ℕ) → Silent (walked kind call c tick found)
  unfolding walked
  walked_silent Kind.Idle tick found = tt
  walked_silent Kind.Put tick found = tt
  walked_silent Kind.Get tick found = if-by Silent (eqb found 0) (λ t. tt) (λ t. tt)
  walked_silent Kind.Scan tick found = tt

  descend_silent : (tick found : ℕ) → Silent (descend call c tick found)
  unfolding descend
  descend_silent tick found = if-by Silent (eqb c.level 0) (λ t. walked_silent call.kind tick found) (λ t. tt)

  walk_silent : (tick : ℕ) (a : Ahead) → Silent (walk_by call c tick a)
  unfolding walk_by
  walk_silent tick Unused = tt
  walk_silent tick (Less y) = tt
  walk_silent tick (Equal y) = descend_silent tick y
  walk_silent tick Past = descend_silent tick 0

  seek_silent : (a : Ahead) → Silent (seek_by c a)
  unfolding seek_by
  seek_silent Unused = tt
  seek_silent (Less y) = tt
  seek_silent (Equal y) = tt
  seek_silent Past = tt

  released_silent : (e : Effect) (preds : List ℕ) (m : Memory) → Silent (released call c e preds m)
  unfolding released rise
  released_silent e preds m =
      if-by Silent (is_new e.answer)
      (λ t. if-by Silent (ltb top_level call.top) (λ t. tt) λ t.
      if-by Silent (leb call.top c.level) (λ t. tt) λ t.
      if-by Silent (ltb m.counts.nodes (get_or preds (c.level + 1) 0)) (λ t. tt) (λ t. tt))
      (λ t. tt)

-- ---- a transition

abbrev pub NoScan : Process → Type 0
NoScan p = is_scan p.call.kind ≡ false

-- where its kind goes through this phase
phase_leaves : (ph : Phase) (holder tick : ℕ) (p : Process) (m : Memory) → T (plays p.call.kind (role_of ph))
    → let r = phase_of ph holder tick p m in Long m r.memory × (NoScan p → Silent r.move)
unfolding phase_of walk_of read_of seek_of check_of update_of release_of
phase_leaves Walk holder tick p m q = (as_long m, λ none. walk_silent p.call p.cursor tick (ahead_of p.call p.cursor m))
phase_leaves Read holder tick p m q =
    (as_long m, λ none. if-by Silent (used_version m (newest m.nodes p.cursor.pred)) (λ t. tt) (λ t. tt))
phase_leaves Seek holder tick p m q = (as_long m, λ none. seek_silent p.call p.cursor (ahead_of p.call p.cursor m))
phase_leaves Lock holder tick p m q = let o = lock_leaves p.cursor m holder in (o.0, λ none. o.1)
phase_leaves Check holder tick p m q = let o = check_leaves p.cursor m (ahead_of p.call p.cursor m) in (o.0, λ none. o.1)
phase_leaves Update holder tick p m q =
    let o = update_leaves p.cursor m p.call (next m.nodes 0 p.cursor.pred) in (o.0, λ none. o.1)
phase_leaves Make holder tick p m q = let o = make_leaves p.cursor m p.call in (o.0, λ none. o.1)
phase_leaves Link holder tick p m q = let o = link_leaves p.cursor m in (o.0, λ none. o.1)
phase_leaves Release holder tick p m q =
    let o = release_leaves p.cursor m (released p.call p.cursor p.effect p.preds m)
    (released_silent p.call p.cursor p.effect p.preds m) in
    (o.0, λ none. o.1)
phase_leaves Follow holder tick p m q = (as_long m, λ none. absurd (subst (λ b. T b) none q))

transition_leaves : (holder tick : ℕ) (p : Process) (m : Memory)
    → let r = transition_of holder tick p m in Long m r.memory × (NoScan p → Silent r.move)
unfolding transition_of lawful_process lawful_at
transition_leaves holder tick p m =
    let kind = p.call.kind in
    let role = role_of p.cursor.phase in
    if-by (λ (r : Moved). Long m r.memory × (NoScan p → Silent r.move)) (lawful_process p m)
    (λ t. phase_leaves p.cursor.phase holder tick p m
    (and→ (plays kind role) (lawful_effect kind role p.effect)
    (and→ (leb p.cursor.level top_level && leb p.cursor.pred m.counts.nodes) _ t).1).0)
    (λ t. (as_long m, λ none. tt))

-- ---- a step

-- a store as long, its state as open and for tables as long
pub record Keeps (w w' : Store) : Type 0 where
  pub nodes : length w'.nodes ≡ length w.nodes
  pub versions : length w'.versions ≡ length w.versions
  pub tally : length w'.tally ≡ length w.tally
  pub lengths : w'.state.lengths ≡ w.state.lengths
  pub open_too : w'.state.opened ≡ w.state.opened

module _ (w : Store) (i : ℕ) (m : Memory) (l : Long (memory_of w.state w.nodes w.versions) m) where
  as_it_was : Keeps w w
  as_it_was = record { nodes = refl; versions = refl; tally = refl; lengths = refl; open_too = refl }

  step_by_lem : (p : Permit) (v : Move) → Keeps w (step_by p w i (moved m v)).store
  unfolding step_by
  step_by_lem (Err r) v = as_it_was
  step_by_lem (Ok _) v = if-by (Keeps w) (refuses v) (λ t. as_it_was) (λ t. record {
    nodes = l.nodes;
    versions = l.versions;
    tally = length_tally w.tally v;
    lengths = refl;
    open_too = refl;
  })

pub step_keeps : (w : Store) (i : ℕ) → Keeps w (step_of w i).store
unfolding step_of
step_keeps w i = step_by_lem w i _ (transition_leaves _ _ _ _).0 (step_permit w i) _

outcome_unshown : (tick : ℕ) (call : Call) (v : Move) → Silent v → Unshown (outcome_of tick call v)
unfolding outcome_of
outcome_unshown tick call Refuse s = tt
outcome_unshown tick call Wait s = tt
outcome_unshown tick call (Go c) s = tt
outcome_unshown tick call (Note c) s = tt
outcome_unshown tick call (Commit c a) s = tt
outcome_unshown tick call (Show c x) s = absurd s
outcome_unshown tick call (End a v e) s = tt

unshown_by : (d : Permit) (w : Store) (i : ℕ) (v : Moved) → Silent v.move → Unshown (step_by d w i v).outcome
unfolding step_by
unshown_by (Err r) w i v s = tt
unshown_by (Ok _) w i v s = outcome_unshown _ (process_at w.state i).call v.move s

pub step_unshown : (w : Store) (i : ℕ) → NoScan (process_at w.state i) → Unshown (step_of w i).outcome
unfolding step_of
step_unshown w i none = unshown_by (step_permit w i) w i _ ((transition_leaves _ _ _ _).1 none)
