-- A step writes no word but those that its phase names, whatever the state and the tables hold.
use Prim.Native.Nat.{ℕ, ◌+◌, ◌≤◌, ◌<◌}
use mathlib.Core.Bool.{not, ◌&&◌}
use mathlib.Core.Logic.{inl, inr}
use mathlib.Core.Path.{◌≡◌, refl, ◌∙◌}
use native.Mathlib.Omega.{arith}
use lib.Dec.{T, eqb, ltb, leb, leb→le}
use Rattle.linearizability.specs.Types.{Phase, Walk, Read, Seek, Lock, Check, Update, Make, Link, Release, Follow, Call, Cursor, Process, Ahead, Unused, Less, Equal, Past, Move, Refuse, Wait, Go, Note, Commit, Show, End, Permit, Ok, Err}
use Rattle.model.specs.Layout.{Memory, top_level, word, field, newest, next, lock, timestamp, with_next, with_node, node_words, link_at, lock_at}
use Rattle.model.specs.State.{process_at, memory_of}
use Rattle.model.specs.Phases.{Moved, moved, refuses, own_version, used_node, used_version, max_nodes, max_versions, with_holder, lock_of, check_by, check_of, add_version, update_node, update_at, update_of, add_node, make_of, add_link, link_of, freed, release_of, lawful_process, phase_of, transition_of, released, ahead_of}
use Rattle.model.specs.Calls.{Store, step_permit, step_by, step_of}
use Rattle.model.specs.Touched.{MayWriteNode, MayWriteVersion}
use Rattle.model.proofs.Tests.{if-by, and→}
use Rattle.model.proofs.Words.{word_other, node_out, version_out}

-- both tables keep a word that the phase does not name
pub record Spares (ph : Phase) (c : Cursor) (m m' : Memory) : Type 0 where
  pub nodes : (x f : ℕ) → f < node_words → ¬ (MayWriteNode ph c m x f) → word m'.nodes x f ≡ word m.nodes x f
  pub versions : (i f : ℕ) → f < 3 → ¬ (MayWriteVersion ph m i) → field m'.versions i f ≡ field m.versions i f

untouched : (ph : Phase) (c : Cursor) (m : Memory) → Spares ph c m m
untouched ph c m = record { nodes = λ x f h n. refl; versions = λ i f h n. refl }

module _ (c : Cursor) (m : Memory) (low : c.level ≤ top_level) where
  abbrev Of : Phase → Moved → Type 0
  Of ph r = Spares ph c m r.memory

  -- only the lock of p at L is written
  one_lock : (holder x f : ℕ) → f < node_words → ¬ ((x ≡ c.pred) × (f ≡ lock_at c.level))
      → word (with_holder m c holder).nodes x f ≡ word m.nodes x f
  one_lock holder x f h n = word_other m.nodes c.pred x (lock_at c.level) f holder (omega arith) h (λ ex ef. n (ex, ef))

  lock_spares : (holder : ℕ) → Of Lock (lock_of c holder m)
  unfolding lock_of
  lock_spares holder = if-by (Of Lock) (eqb (lock m.nodes c.level c.pred) 0)
      (λ t. record { nodes = one_lock holder; versions = λ i f h n. refl }) (λ t. untouched Lock c m)

  check_spares : (a : Ahead) → Of Check (check_by c m a)
  unfolding check_by
  check_spares Unused = untouched Check c m
  check_spares (Less y) = record { nodes = one_lock 0; versions = λ i f h n. refl }
  check_spares (Equal y) = untouched Check c m
  check_spares Past = untouched Check c m

  release_spares : (v : Move) → Of Release (freed c m v)
  unfolding freed
  release_spares v = if-by (Spares Release c m) (refuses v)
      (λ t. untouched Release c m) (λ t. record { nodes = one_lock 0; versions = λ i f h n. refl })

  update_spares : (call : Call) → Of Update (update_of call c m)
  unfolding update_of update_at update_node add_version
  update_spares call =
      let x = next m.nodes 0 c.pred in
      let i = m.counts.versions + 1 in
      let U = Of Update in
      let same = untouched Update c m in
      let v = newest m.nodes x in
      if-by U (not (used_node m x)) (λ t. same) λ t.
      if-by U (not (used_version m v)) (λ t. same) λ t.
      if-by U (ltb call.timestamp (timestamp m.versions v)) (λ t. same) λ t.
      if-by U (leb (max_versions m) m.counts.versions) (λ t. same) λ t. record {
        nodes = λ y f h n. word_other m.nodes x y 1 f i (omega arith) h (λ ex ef. n (ex, ef));
        versions = λ j f h n. version_out m.versions i (own_version call) (word m.nodes x 1) j f h n;
      }

  make_spares : (call : Call) → Of Make (make_of call c m)
  unfolding make_of add_node
  make_spares call =
      let x = m.counts.nodes + 1 in
      let i = m.counts.versions + 1 in
      let M = Of Make in
      let same = untouched Make c m in
      let t₁ = with_node m.nodes x call.key i call.top (next m.nodes 0 c.pred) in
      if-by M (leb (max_nodes m) m.counts.nodes) (λ t. same) λ t.
      if-by M (leb (max_versions m) m.counts.versions) (λ t. same) λ t.
      if-by M (ltb top_level call.top) (λ t. same) λ t. record {
        nodes = λ y f h n.
            word_other t₁ c.pred y 4 f x (omega arith) h (λ ey ef. n (inr (ey, ef)))
            ∙ node_out m.nodes x call.key i call.top (next m.nodes 0 c.pred) y f h (λ ey. n (inl ey));
        versions = λ j f h n. version_out m.versions i (own_version call) 0 j f h n;
      }

  link_spares : Of Link (link_of c m)
  unfolding link_of add_link
  link_spares =
      let y = next m.nodes c.level c.pred in
      if-by (Of Link) (used_node m c.made)
      (λ t. record {
        nodes = λ x f h n.
            word_other (with_next m.nodes c.level c.made y) c.pred x (link_at c.level) f c.made (omega arith) h (λ ex ef. n (inr ex, ef))
            ∙ word_other m.nodes c.made x (link_at c.level) f y (omega arith) h (λ ex ef. n (inl ex, ef));
        versions = λ i f h n. refl;
      })
      (λ t. untouched Link c m)

phase_spares : (ph : Phase) (holder tick : ℕ) (p : Process) (m : Memory) → p.cursor.level ≤ top_level
    → Spares ph p.cursor m (phase_of ph holder tick p m).memory
unfolding phase_of check_of release_of
phase_spares Walk holder tick p m low = untouched Walk p.cursor m
phase_spares Read holder tick p m low = untouched Read p.cursor m
phase_spares Seek holder tick p m low = untouched Seek p.cursor m
phase_spares Lock holder tick p m low = lock_spares p.cursor m low holder
phase_spares Check holder tick p m low = check_spares p.cursor m low (ahead_of p.call p.cursor m)
phase_spares Update holder tick p m low = update_spares p.cursor m low p.call
phase_spares Make holder tick p m low = make_spares p.cursor m low p.call
phase_spares Link holder tick p m low = link_spares p.cursor m low
phase_spares Release holder tick p m low =
    release_spares p.cursor m low (released p.call p.cursor p.effect p.preds m)
phase_spares Follow holder tick p m low = untouched Follow p.cursor m

pub transition_spares : (holder tick : ℕ) (p : Process) (m : Memory)
    → Spares p.cursor.phase p.cursor m (transition_of holder tick p m).memory
unfolding transition_of lawful_process
transition_spares holder tick p m = if-by (λ (r : Moved). Spares p.cursor.phase p.cursor m r.memory) (lawful_process p m)
    (λ t. phase_spares p.cursor.phase holder tick p m (leb→le p.cursor.level top_level (level t)))
    (λ t. untouched p.cursor.phase p.cursor m)
  where
    level : T (lawful_process p m) → T (leb p.cursor.level top_level)
    level t = unfold lawful_process in (and→ (leb p.cursor.level top_level) (leb p.cursor.pred m.counts.nodes)
        (and→ (leb p.cursor.level top_level && leb p.cursor.pred m.counts.nodes) _ t).0).0

-- so for every step
pub step_spares : (w : Store) (i : ℕ)
    → let s = w.state in let p = process_at s i in let v = (step_of w i).store in
    Spares p.cursor.phase p.cursor (memory_of s w.nodes w.versions) (memory_of s v.nodes v.versions)
unfolding step_of
step_spares w i =
    let p = process_at w.state i in
    let r = transition_of (i + 1) (w.state.events + 1) p (memory_of w.state w.nodes w.versions) in
    by_permit (step_permit w i) r.move r.memory (transition_spares (i + 1) (w.state.events + 1) p (memory_of w.state w.nodes w.versions))
  where
    p₀ : Process
    p₀ = process_at w.state i

    by_permit : (d : Permit) (v : Move) (m : Memory)
        → Spares p₀.cursor.phase p₀.cursor (memory_of w.state w.nodes w.versions) m
        → Spares p₀.cursor.phase p₀.cursor (memory_of w.state w.nodes w.versions)
        (memory_of w.state (step_by d w i (moved m v)).store.nodes (step_by d w i (moved m v)).store.versions)
    by_permit (Err n) v m k =
        unfold step_by in (untouched p₀.cursor.phase p₀.cursor (memory_of w.state w.nodes w.versions))
    by_permit (Ok _) Refuse m k =
        unfold step_by in (untouched p₀.cursor.phase p₀.cursor (memory_of w.state w.nodes w.versions))
    by_permit (Ok _) Wait m k = unfold step_by in (record { nodes = k.nodes; versions = k.versions })
    by_permit (Ok _) (Go c) m k = unfold step_by in (record { nodes = k.nodes; versions = k.versions })
    by_permit (Ok _) (Note c) m k = unfold step_by in (record { nodes = k.nodes; versions = k.versions })
    by_permit (Ok _) (Commit c a) m k = unfold step_by in (record { nodes = k.nodes; versions = k.versions })
    by_permit (Ok _) (Show c x) m k = unfold step_by in (record { nodes = k.nodes; versions = k.versions })
    by_permit (Ok _) (End a v e) m k = unfold step_by in (record { nodes = k.nodes; versions = k.versions })
