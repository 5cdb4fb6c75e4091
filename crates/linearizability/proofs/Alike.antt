-- Writes that leave nodes, keys, tops and links as they are: of a lock, and of a node's newest version.
use Prim.Native.Nat.{ℕ, suc, ◌≤◌, ◌<◌}
use mathlib.Core.Logic.{◌≢◌}
use mathlib.Core.Path.{◌≡◌, refl, sym, ap, ◌∙◌}
use native.Mathlib.Omega.{arith}
use lib.ListN.{length}
use Rattle.linearizability.specs.Types.{Cursor, Process}
use Rattle.model.specs.Layout.{Memory, node_words, capacity, word, key, top, next, lock, link_at, lock_at, levels}
use Rattle.model.specs.Map.{Map}
use Rattle.model.specs.Phases.{max_nodes, with_holder}
use Rattle.model.proofs.Tests.{by_eq}
use Rattle.model.proofs.Words.{same_key, length_word, word_same, word_field, word_other}
use Rattle.linearizability.proofs.Level.{kept}
use Rattle.linearizability.proofs.Invariant.{Ghost, In, Nodes, Book, Climbs, Risen}
use Rattle.linearizability.proofs.Frame.{Grown, Frame}

pub record Alike (m m' : Memory) (g : Ghost) : Type 0 where
  pub length_is : length m'.nodes ≡ length m.nodes
  pub count_is : m'.counts.nodes ≡ m.counts.nodes
  pub keys : (x : ℕ) → x ≤ m.counts.nodes → key m'.nodes x ≡ key m.nodes x
  pub tops : (x : ℕ) → x ≤ m.counts.nodes → top m'.nodes x ≡ top m.nodes x
  pub links : (l x : ℕ) → In m g l x → next m'.nodes l x ≡ next m.nodes l x

pub alike_refl : (m : Memory) (g : Ghost) → Alike m m g
alike_refl m g = record { length_is = refl; count_is = refl; keys = λ x h. refl; tops = λ x h. refl; links = λ l x i. refl }

-- the number of nodes that fit is that of the table's length
pub same_room : (m m' : Memory) → length m'.nodes ≡ length m.nodes → max_nodes m' ≡ max_nodes m
same_room m m' e = ap (capacity node_words) e

pub nodes_kept : {m m' : Memory} {g : Ghost} → Alike m m' g → Nodes m g → Nodes m' g
nodes_kept {m} {m'} {g} A N =
    let n = A.count_is in
    let r = same_room m m' A.length_is in
    record {
      size = omega (arith, A.length_is, N.size);
      room = omega (arith, N.room);
      head_key = A.keys 0 (omega arith) ∙ N.head_key;
      head_high = N.head_high;
      high = λ x h. N.high x (omega arith);
      inj = λ x y hx hy e. N.inj x y (omega arith) (omega arith) (sym (A.keys x (omega arith)) ∙ e ∙ A.keys y (omega arith));
      levels = λ l. kept (N.levels l) (λ x i. (omega (arith, i.0), i.1)) (λ x i. (omega (arith, i.0), i.1))
          (λ x i. A.keys x i.0) (λ x i. A.links l x i);
    }

pub grown_alike : {m m' : Memory} {g : Ghost} (i : ℕ) → Alike m m' g → Grown m m' g g i
grown_alike {m} {m'} {g} i A =
    let n = A.count_is in
    record {
      more = omega arith;
      keys = A.keys;
      grow = λ x h. omega arith;
      owns = λ x h. refl;
      mine = λ x h e. refl;
      tops = λ x h e. A.tops x h;
    }

pub frame_alike : {m m' : Memory} {g : Ghost} {i : ℕ} → Alike m m' g
    → ((l x : ℕ) → In m g l x → lock m.nodes l x ≡ suc i → lock m'.nodes l x ≡ suc i) → Frame m m' g g i
frame_alike {i = i} A locks = record { grown = grown_alike i A; locks = locks; links = λ l x h e. A.links l x h }

-- linked-up nodes stay so, where what the process gives up is linked up
pub risen_alike : {m m' : Memory} {g : Ghost} {pr pr' : Process} → Alike m m' g
    → ((x : ℕ) → x ≤ m.counts.nodes → Climbs pr x → ¬ (Climbs pr' x) → g.high x ≡ suc (top m.nodes x))
    → Risen m m' g g pr pr'
risen_alike {m} {m'} {g} {pr} {pr'} A give x h old free = by_eq (g.high x) (suc (top m.nodes x))
    (λ e. e ∙ ap suc (sym (A.tops x le)))
    (λ ne. absurd (ne (old le (λ c. ne (give x le c free)))))
  where
    le : x ≤ m.counts.nodes
    le = omega (arith, A.count_is)

-- the process keeps in hand what it had
pub risen_same : {m m' : Memory} {g : Ghost} {pr pr' : Process} → Alike m m' g
    → ((x : ℕ) → Climbs pr x → Climbs pr' x) → Risen m m' g g pr pr'
risen_same A keep = risen_alike A (λ x h c no_more. absurd (no_more (keep x c)))

-- ---- a lock is written

module _ (m : Memory) (g : Ghost) (N : Nodes m g) (c : Cursor) (v : ℕ) (l6 : c.level < levels) (used : c.pred ≤ m.counts.nodes)
  where
    abbrev m' : Memory
    m' = with_holder m c v

    six : {j x : ℕ} → In m g j x → j < levels
    six {j} {x} i = omega (arith, i.1, N.high x i.0)

    pub lock_field : (x f : ℕ) → f < node_words → f ≢ lock_at c.level → word m'.nodes x f ≡ word m.nodes x f
    lock_field x f f16 ne = word_field m.nodes c.pred x (lock_at c.level) f v (omega arith) f16 ne

    lock_key : (x : ℕ) → key m'.nodes x ≡ key m.nodes x
    lock_key x = same_key m'.nodes x m.nodes x λ f k. lock_field x f (omega arith) (omega arith)

    pub lock_alike : Alike m m' g
    lock_alike = record {
      length_is = length_word m.nodes c.pred (lock_at c.level) v;
      count_is = refl;
      keys = λ x h. lock_key x;
      tops = λ x h. lock_field x 2 (omega arith) (omega arith);
      links = λ j x i. let j6 = six i in lock_field x (link_at j) (omega arith) (omega arith);
    }

    pub lock_set : lock m'.nodes c.level c.pred ≡ v
    lock_set = word_same m.nodes c.pred (lock_at c.level) v (omega arith) (omega (arith, N.size, N.room))

    pub lock_book : {b : Map} → Book m b → Book m' b
    lock_book B = record {
      size = B.size;
      room = B.room;
      count = B.count;
      sum = B.sum;
      keys = λ i h. rw (lock_key (suc i)) (B.keys i h);
      places = λ i h. rw (lock_field (suc i) 1 (omega arith) (omega arith)) (B.places i h);
      chains = λ i h. rw (lock_field (suc i) 1 (omega arith) (omega arith)) (B.chains i h);
      sorted = B.sorted;
    }

    pub lock_frame : (i : ℕ) → lock m.nodes c.level c.pred ≢ suc i → Frame m m' g g i
    lock_frame i ne = frame_alike lock_alike (λ j x h e. let j6 = six h in
        word_other m.nodes c.pred x (lock_at c.level) (lock_at j) v (omega arith) (omega arith)
        (λ ex ej. ne (sym (same j x ex (cut ej)) ∙ e)) ∙ e)
      where
        cut : {j : ℕ} → lock_at j ≡ lock_at c.level → j ≡ c.level
        cut q = omega arith

        same : (j x : ℕ) → x ≡ c.pred → j ≡ c.level → lock m.nodes j x ≡ lock m.nodes c.level c.pred
        same j x ex ej = rw (ex, ej) refl
