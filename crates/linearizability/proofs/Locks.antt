-- A lock that names a process is the one that it holds: kept by every step, whatever the links are.
use Prim.Native.Nat.{ℕ, suc, ◌+◌, ◌*◌, ◌≤◌, ◌<◌}
use mathlib.Core.Bool.{not}
use mathlib.Core.List.{List}
use mathlib.Core.Logic.{◌≢◌}
use mathlib.Core.Path.{◌≡◌, refl, sym, ap, ◌∙◌, subst}
use native.Mathlib.Omega.{arith}
use lib.Dec.{eqb}
use lib.ListN.{length}
use Rattle.linearizability.specs.Types.{Idle, Phase, Walk, Read, Seek, Lock, Check, Update, Make, Link, Release, Follow, Answer, Cursor, Process, Ahead, Unused, Less, Equal, Past, Move, Refuse, Wait, Go}
use Rattle.model.specs.Layout.{Memory, top_level, word, newest, next, lock, timestamp, with_word, node_words, link_at, lock_at, node_offsets, levels}
use Rattle.model.specs.Phases.{Moved, moved, refuses, at, ahead_of, used_node, used_version, max_nodes, max_versions, with_holder, lock_of, checked, check_by, check_of, committed, add_version, update_node, update_at, update_of, add_node, make_of, add_link, link_of, released, freed, release_of, walk_of, read_of, follow_of, seek_of, lawful_process, phase_of, transition_of}
use Rattle.model.specs.Calls.{process_after}
use Rattle.model.proofs.Laws.{refused_is}
use Rattle.model.proofs.Tests.{if-by, if-eq, if-le, if-lt, by_eq, is_true}
use Rattle.model.proofs.Words.{word_same, word_field, word_node, node_in, node_out, node_locks}

-- the phases that hold the lock of p at L
abbrev pub Holding : Phase → Type 0
Holding Walk = ⊥
Holding Read = ⊥
Holding Seek = ⊥
Holding Lock = ⊥
Holding Check = Unit {0}
Holding Update = Unit {0}
Holding Make = Unit {0}
Holding Link = Unit {0}
Holding Release = Unit {0}
Holding Follow = ⊥

pub record HoldsAt (pr : Process) (l x : ℕ) : Type 0 where
  pub kind : pr.call.kind ≢ Idle
  pub phase : Holding pr.cursor.phase
  pub level : pr.cursor.level ≡ l
  pub node : pr.cursor.pred ≡ x

-- the locks that name process i are held by it
abbrev pub Named : Memory → ℕ → Process → Type 0
Named m i pr = (l x : ℕ) → l < levels → x ≤ m.counts.nodes → lock m.nodes l x ≡ suc i → HoldsAt pr l x

-- after a step of process i with move v: locks of others were theirs before, its own is the one it holds
abbrev pub Locked : Memory → ℕ → (tick : ℕ) → Process → Moved → Type 0
Locked m i tick pr r = (l x j : ℕ) → l < levels → x ≤ r.memory.counts.nodes → lock r.memory.nodes l x ≡ suc j
    → (j ≢ i → (x ≤ m.counts.nodes) × (lock m.nodes l x ≡ suc j)) × (j ≡ i → HoldsAt (process_after tick pr r.move) l x)

module _ (m : Memory) (i : ℕ) (tick : ℕ) (pr : Process) (size : length m.nodes ≡ node_words * max_nodes m + node_words)
    (room : m.counts.nodes ≤ max_nodes m)
    (nm : Named m i pr) (lv6 : pr.cursor.level < levels) (used : pr.cursor.pred ≤ m.counts.nodes) (nn : pr.call.kind ≢ Idle) where
  abbrev c : Cursor
  c = pr.cursor

  abbrev L : Moved → Type 0
  L r = Locked m i tick pr r

  -- the same locks, and the process holds what it held
  steady : (v : Move) (m' : Memory)
      → ((l x : ℕ) → l < levels → x ≤ m'.counts.nodes → (j : ℕ) → lock m'.nodes l x ≡ suc j → (x ≤ m.counts.nodes) × (lock m.nodes l x ≡ suc j))
      → ((l x : ℕ) → HoldsAt pr l x → HoldsAt (process_after tick pr v) l x) → L (moved m' v)
  steady v m' back keep l x j h6 hx e =
      let q = back l x h6 hx j e in
      ((λ ne. q), λ es. keep l x (nm l x h6 q.0 (q.1 ∙ ap suc es)))

  -- nothing is written, and the process holds nothing
  calm : (Holding c.phase → ⊥) → (v : Move) → L (moved m v)
  calm none v l x j h6 hx e = ((λ ne. (hx, e)), λ es. absurd (none (nm l x h6 hx (e ∙ ap suc es)).phase))

  -- ---- one lock word

  lock_word : (v l x : ℕ) → l < levels → x ≤ m.counts.nodes → {P : Type 0}
      → (l ≡ c.level → x ≡ c.pred → lock (with_holder m c v).nodes l x ≡ v → P)
      → (¬ ((l ≡ c.level) × (x ≡ c.pred)) → lock (with_holder m c v).nodes l x ≡ lock m.nodes l x → P) → P
  lock_word v l x h6 hx {P} here there = by_eq l c.level
      (λ el. by_eq x c.pred
      (λ ex. here el ex (rw (el, ex) (word_same m.nodes c.pred (lock_at c.level) v (omega arith) (omega arith))))
      (λ nx. there (λ q. nx q.1) (word_node m.nodes c.pred x (lock_at c.level) (lock_at l) v (omega arith) (omega arith) nx)))
      (λ nl. there (λ q. nl q.0) (word_field m.nodes c.pred x (lock_at c.level) (lock_at l) v (omega arith) (omega arith) (omega arith)))

  lock_locked : c.phase ≡ Lock → L (lock_of c (i + 1) m)
  unfolding lock_of process_after
  lock_locked ep = if-eq L (lock m.nodes c.level c.pred) 0
      (λ e0 l x j h6 hx e. lock_word (i + 1) l x h6 hx
      (λ el ex q. ((λ ne. absurd (ne (cut q e))), λ es. record { kind = nn; phase = tt; level = sym el; node = sym ex }))
      (λ no q. ((λ ne. (hx, sym q ∙ e)), λ es. absurd (none (nm l x h6 hx (sym q ∙ e ∙ ap suc es)).phase))))
      (λ ne. steady Wait m (λ l x h6 hx j e. (hx, e)) (λ l x h. h))
    where
      cut : {a d : ℕ} → a ≡ i + 1 → a ≡ suc d → d ≡ i
      cut p q = omega arith

      none : Holding c.phase → ⊥
      none h = subst (λ ph. Holding ph) ep h

  -- the lock is given back
  free_locked : (v : Move) → L (moved (with_holder m c 0) v)
  free_locked v l x j h6 hx e = lock_word 0 l x h6 hx
      (λ el ex q. absurd (no_way q e))
      (λ no q. ((λ ne. (hx, sym q ∙ e)), λ es. absurd (let k = nm l x h6 hx (sym q ∙ e ∙ ap suc es) in no (sym k.level, sym k.node))))
    where
      no_way : {a d : ℕ} → a ≡ 0 → a ≡ suc d → ⊥
      no_way p q = omega arith

  -- ---- phases

  refused : Holding c.phase → L (moved m Refuse)
  unfolding process_after
  refused h = steady Refuse m (λ l x h6 hx j e. (hx, e)) (λ l x k. k)

  -- on to another holding phase
  on_phase : (ph : Phase) → Holding ph → L (moved m (Go (at c ph c.level c.pred)))
  unfolding process_after
  on_phase ph hp = steady (Go (at c ph c.level c.pred)) m (λ l x h6 hx j e. (hx, e))
      (λ l x h. record { kind = h.kind; phase = hp; level = h.level; node = h.node })

  checked_locked : (bottom : Phase) → Holding bottom → L (moved m (checked c bottom))
  checked_locked bottom hb =
      if-by (λ ph. L (moved m (Go (at c ph c.level c.pred)))) (eqb c.level 0) (λ t. on_phase bottom hb) (λ t. on_phase Link tt)

  check_locked : Holding c.phase → (a : Ahead) → L (check_by c m a)
  unfolding check_by
  check_locked h Unused = refused h
  check_locked h (Less y) = free_locked (Go (at c Seek c.level y))
  check_locked h (Equal y) = checked_locked Update tt
  check_locked h Past = checked_locked Make tt

  -- a put takes effect: it holds what it held
  commits : (made : ℕ) (a : Answer) (m' : Memory)
      → ((l x : ℕ) → l < levels → x ≤ m'.counts.nodes → (j : ℕ) → lock m'.nodes l x ≡ suc j → (x ≤ m.counts.nodes) × (lock m.nodes l x ≡ suc j))
      → L (moved m' (committed c made a))
  unfolding process_after
  commits made a m' back =
      steady (committed c made a) m' back (λ l x h. record { kind = h.kind; phase = tt; level = h.level; node = h.node })

  unwritten : (made : ℕ) (a : Answer) → L (moved m (committed c made a))
  unwritten made a = commits made a m (λ l x h6 hx j e. (hx, e))

  update_locked : Holding c.phase → (x : ℕ) → L (update_at pr.call c x m)
  unfolding update_at update_node add_version
  update_locked h x =
      let i = newest m.nodes x in
      if-by L (not (used_node m x)) (λ t. refused h) λ t. if-by L (not (used_version m i)) (λ t. refused h) λ t.
      if-lt L pr.call.timestamp (timestamp m.versions i) (λ t. unwritten c.made Answer.TooOld) λ t.
      if-le L (max_versions m) m.counts.versions (λ t. unwritten c.made Answer.VersionsFull) λ t.
      commits c.made Answer.Added (add_version pr.call x m) (λ l y h6 hy j e.
      (hy, sym (word_field m.nodes x y node_offsets.newest (lock_at l) (m.counts.versions + 1) (omega arith) (omega arith) (omega arith)) ∙ e))

  make_locked : Holding c.phase → L (make_of pr.call c m)
  unfolding make_of add_node
  make_locked h =
      if-le L (max_nodes m) m.counts.nodes (λ t. unwritten c.made Answer.KeysFull) λ t.
      if-le L (max_versions m) m.counts.versions (λ u. unwritten c.made Answer.VersionsFull) λ u.
      if-lt L top_level pr.call.top (λ w. refused h) (λ w. commits (m.counts.nodes + 1) Answer.New (add_node pr.call c m) (back t))
    where
      x : ℕ
      x = m.counts.nodes + 1

      t₁ : List ℕ
      t₁ =
          Rattle.model.specs.Layout.with_node m.nodes x pr.call.key (m.counts.versions + 1) pr.call.top (next m.nodes 0 c.pred)

      back : m.counts.nodes < max_nodes m → (l y : ℕ) → l < levels → y ≤ x → (j : ℕ)
          → word (with_word t₁ c.pred (link_at 0) x) y (lock_at l) ≡ suc j
          → (y ≤ m.counts.nodes) × (lock m.nodes l y ≡ suc j)
      back rm l y h6 hy j e =
          let q = word_field t₁ c.pred y (link_at 0) (lock_at l) x (omega arith) (omega arith) (omega arith) in
          by_eq y x
          (λ ey. absurd (free (subst (λ z. word t₁ z (lock_at l) ≡ 0) (sym ey)
          (node_in m.nodes x pr.call.key (m.counts.versions + 1) pr.call.top (next m.nodes 0 c.pred) (lock_at l) (omega arith) (omega arith)
          ∙ node_locks pr.call.key (m.counts.versions + 1) pr.call.top (next m.nodes 0 c.pred) l h6)) (sym q ∙ e)))
          (λ ny. (
            omega arith,
            sym (node_out m.nodes x pr.call.key (m.counts.versions + 1) pr.call.top (next m.nodes 0 c.pred) y (lock_at l) (omega arith) ny) ∙ sym q ∙ e,
          ))
        where
          free : {a d : ℕ} → a ≡ 0 → a ≡ suc d → ⊥
          free p r = omega arith

  link_locked : Holding c.phase → L (link_of c m)
  unfolding link_of add_link process_after
  link_locked h = if-by L (used_node m c.made)
      (λ t. steady (Go (at c Release c.level c.pred)) (add_link c m)
      (λ l x h6 hx j e. (
        hx,
        sym (word_field m.nodes c.made x (link_at c.level) (lock_at l) (next m.nodes c.level c.pred) (omega arith) (omega arith) (omega arith))
            ∙ sym (word_field (with_word m.nodes c.made (link_at c.level) (next m.nodes c.level c.pred)) c.pred x (link_at c.level) (lock_at l) c.made
            (omega arith) (omega arith) (omega arith)) ∙ e,
      ))
      (λ l x k. record { kind = k.kind; phase = tt; level = k.level; node = k.node }))
      (λ t. refused h)

  release_locked : Holding c.phase → (v : Move) → L (freed c m v)
  unfolding freed
  release_locked h v = if-by (λ n. L (moved n v)) (refuses v)
      (λ t. subst (λ u. L (moved m u)) (sym (refused_is v (is_true (refuses v) t))) (refused h)) (λ t. free_locked v)

  phase_locked : (ph : Phase) → c.phase ≡ ph → L (phase_of ph (i + 1) tick pr m)
  unfolding phase_of check_of update_of release_of
  phase_locked Walk e = calm (λ h. subst (λ q. Holding q) e h) (walk_of pr.call c tick m)
  phase_locked Read e = calm (λ h. subst (λ q. Holding q) e h) (read_of pr.call c tick m)
  phase_locked Seek e = calm (λ h. subst (λ q. Holding q) e h) (seek_of pr.call c m)
  phase_locked Lock e = lock_locked e
  phase_locked Check e = check_locked (subst (λ q. Holding q) (sym e) tt) (ahead_of pr.call c m)
  phase_locked Update e = update_locked (subst (λ q. Holding q) (sym e) tt) (next m.nodes 0 c.pred)
  phase_locked Make e = make_locked (subst (λ q. Holding q) (sym e) tt)
  phase_locked Link e = link_locked (subst (λ q. Holding q) (sym e) tt)
  phase_locked Release e = release_locked (subst (λ q. Holding q) (sym e) tt) (released pr.call c pr.effect pr.preds m)
  phase_locked Follow e = calm (λ h. subst (λ q. Holding q) e h) (follow_of pr.call c m)

  -- any step, whether refused or not
  pub step_locked : L (transition_of (i + 1) tick pr m)
  unfolding transition_of process_after
  step_locked =
      if-by L (lawful_process pr m) (λ t. phase_locked c.phase refl) (λ t. steady Refuse m (λ l x h6 hx j e. (hx, e)) (λ l x k. k))
