-- The link step: the new node goes behind p at a level above 0, where nobody but its maker links it.
use Prim.Native.Nat.{ℕ, zero, suc, ◌+◌, ◌*◌, ◌≤◌, ◌<◌}
use mathlib.Core.List.{List}
use mathlib.Core.Logic.{◌≢◌}
use mathlib.Core.Path.{◌≡◌, refl, sym, ap, ◌∙◌, subst}
use native.Mathlib.Omega.{arith}
use lib.ListN.{length}
use Rattle.linearizability.specs.Types.{Release, Inserted, Cursor, Process, Go}
use Rattle.model.specs.Layout.{Memory, node_words, capacity, word, key, top, next, lock, with_next, link_at, lock_at, levels}
use Rattle.model.specs.Map.{Map}
use Rattle.model.specs.Phases.{at, used_node, add_link, link_of}
use Rattle.model.specs.Calls.{process_after}
use Rattle.model.specs.Roles.{class_of}
use Rattle.model.proofs.Tests.{if-by, by_eq, T-absurd}
use Rattle.model.proofs.Words.{same_key, length_word, word_same, word_node, word_other}
use Rattle.linearizability.proofs.Level.{Level, inserted, kept}
use Rattle.linearizability.proofs.Invariant.{Ghost, In, Nodes, Book, At, PlacedOf, Clear, ClearOf, Made, HoldsOf, Stage, StageOf, Puts, fits_at, Climbs, Risen}
use Rattle.linearizability.proofs.Frame.{Grown, Frame, placed_kept}
use Rattle.linearizability.proofs.Step.{Good, GoodStep, within_T}
use Rattle.linearizability.proofs.Make.{changed, changed_same, changed_other}

module _ (m : Memory) (g : Ghost) (s lv p x k tp : ℕ) (N : Nodes m g) (a : At m g lv p k) (clear : Clear m lv p k)
    (held-is : lock m.nodes lv p ≡ suc s) (made : Made m g s x k tp lv) where
  abbrev t₁ : List ℕ
  t₁ = with_next m.nodes lv x (next m.nodes lv p)

  abbrev m' : Memory
  m' = record { nodes = with_next t₁ lv p x; versions = m.versions; counts = m.counts }

  abbrev g' : Ghost
  g' = record { high = changed g.high x (suc lv); own = g.own }

  lv6 : lv < levels
  lv6 = omega (arith, a.up, N.high p a.used)

  apart : x ≢ p
  apart q = omega (arith, a.up, made.height_is, ap g.high q)

  inside : (z : ℕ) → z ≤ m.counts.nodes → node_words * z + node_words ≤ length m.nodes
  inside z h = omega (arith, N.size, N.room)

  length₁ : length t₁ ≡ length m.nodes
  length₁ = length_word m.nodes x (link_at lv) (next m.nodes lv p)

  pub nodes_length : length m'.nodes ≡ length m.nodes
  nodes_length = length_word t₁ p (link_at lv) x ∙ length₁

  old_word : (z f : ℕ) → f < node_words → (z ≡ p → f ≢ link_at lv) → (z ≡ x → f ≢ link_at lv) → word m'.nodes z f ≡ word m.nodes z f
  old_word z f f16 np nx =
      let l6 = lv6 in
      word_other t₁ p z (link_at lv) f x (omega arith) f16 np
      ∙ word_other m.nodes x z (link_at lv) f (next m.nodes lv p) (omega arith) f16 nx

  back_word : next m'.nodes lv p ≡ x
  back_word = let l6 = lv6 in word_same t₁ p (link_at lv) x (omega arith) (omega (arith, length₁, inside p a.used))

  front_word : next m'.nodes lv x ≡ next m.nodes lv p
  front_word =
      let l6 = lv6 in
      word_node t₁ p x (link_at lv) (link_at lv) x (omega arith) (omega arith) apart
      ∙ word_same m.nodes x (link_at lv) (next m.nodes lv p) (omega arith) (inside x made.used)

  -- any word but a link of this level
  other_word : (z f : ℕ) → f < node_words → f ≢ link_at lv → word m'.nodes z f ≡ word m.nodes z f
  other_word z f f16 ne = old_word z f f16 (λ q. ne) (λ q. ne)

  keys : (z : ℕ) → key m'.nodes z ≡ key m.nodes z
  keys z = same_key m'.nodes z m.nodes z λ f k. other_word z f (omega arith) (omega arith)

  tops : (z : ℕ) → top m'.nodes z ≡ top m.nodes z
  tops z = other_word z 2 (omega arith) (omega arith)

  high_old : (z : ℕ) → z ≢ x → g'.high z ≡ g.high z
  high_old z ne = changed_other g.high x (suc lv) z ne

  high_new : g'.high x ≡ suc lv
  high_new = changed_same g.high x (suc lv) x refl

  up : (l z : ℕ) → In m g l z → In m' g' l z
  up l z h = (
    h.0,
    by_eq z x
        (λ q. omega (arith, h.1, ap g.high q, ap g'.high q, made.height_is, high_new))
        (λ ne. rw (high_old z ne) h.1),
  )

  down : (l z : ℕ) → In m' g' l z → z ≢ x → In m g l z
  down l z h ne = (h.0, rw (high_old z ne) at h.1)

  level_same : Level (In m' g' lv) (key m'.nodes) (next m'.nodes lv)
  level_same = inserted (N.levels lv) (record {
    here = (a.used, a.up);
    pos = omega (arith, made.pos);
    low = rw (keys x, made.key_is) a.low;
    clear = λ ne. rw (keys x, made.key_is) (clear ne).1;
    up = up lv;
    new = (made.used, omega (arith, high_new));
    out = λ z h q. omega (arith, h.1, ap g.high q, made.height_is);
    down = down lv;
    keys = λ z h. keys z;
    back = back_word;
    front = front_word;
    others = λ z h ne. let l6 = lv6 in
        old_word z (link_at lv) (omega arith) (λ q. absurd (ne q)) (λ q. omega (arith, h.1, ap g.high q, made.height_is));
    inj = λ z h q. N.inj z p h.0 a.used q;
  })

  level_other : (l : ℕ) → l ≢ lv → Level (In m' g' l) (key m'.nodes) (next m'.nodes l)
  level_other l ne = kept (N.levels l)
      (λ z h. by_eq z x
      (λ q. (h.0, omega (arith, h.1, ap g.high q, ap g'.high q, made.height_is, high_new)))
      (λ nx. down l z h nx))
      (up l) (λ z h. keys z)
      (λ z h. let l6 : l < levels = omega (arith, h.1, N.high z h.0) in other_word z (link_at l) (omega arith) (omega arith))

  pub link_nodes : Nodes m' g'
  link_nodes = record {
    size = omega (arith, N.size, nodes_length, ap (capacity node_words) nodes_length);
    room = omega (arith, N.room, ap (capacity node_words) nodes_length);
    head_key = keys 0 ∙ N.head_key;
    head_high = high_old 0 (omega (arith, made.pos)) ∙ N.head_high;
    high = λ z h. by_eq z x (λ q. let l6 = lv6 in rw (q, high_new) (omega arith)) (λ ne. rw (high_old z ne) (N.high z h));
    inj = λ z y hz hy q. N.inj z y hz hy (sym (keys z) ∙ q ∙ keys y);
    levels = λ l. by_eq l lv (λ q. rw q level_same) (level_other l);
  }

  pub link_book : {b : Map} → Book m b → Book m' b
  link_book B = record {
    size = B.size;
    room = B.room;
    count = B.count;
    sum = B.sum;
    keys = λ i h. rw (keys (suc i)) (B.keys i h);
    places = λ i h. rw (other_word (suc i) 1 (omega arith) (omega arith)) (B.places i h);
    chains = λ i h. rw (other_word (suc i) 1 (omega arith) (omega arith)) (B.chains i h);
    sorted = B.sorted;
  }

  pub link_grown : (j : ℕ) → j ≢ s → Grown m m' g g' j
  link_grown j ne = record {
    more = omega arith;
    keys = λ z h. keys z;
    grow = λ z h. by_eq z x
        (λ q. omega (arith, ap g.high q, ap g'.high q, made.height_is, high_new))
        (λ nx. omega (arith, high_old z nx));
    owns = λ z h. refl;
    mine = λ z h q. high_old z (λ e. omega (arith, ap g.own e, made.mine));
    tops = λ z h q. tops z;
  }

  pub locks_old : (l z : ℕ) → In m g l z → lock m'.nodes l z ≡ lock m.nodes l z
  locks_old l z h =
      let l6 : l < levels = omega (arith, h.1, N.high z h.0) in
      let v6 = lv6 in
      other_word z (lock_at l) (omega arith) (omega arith)

  pub link_frame : (j : ℕ) → j ≢ s → Frame m m' g g' j
  link_frame j ne = record {
    grown = link_grown j ne;
    locks = λ l z h q. locks_old l z h ∙ q;
    links = λ l z h q. let l6 : l < levels = omega (arith, h.1, N.high z h.0) in old_word z (link_at l) (omega arith)
        (λ ez el. clash l z ez (cut el) q)
        (λ ez el. let w : l ≡ lv = cut el in omega (arith, h.1, ap g.high ez, made.height_is));
  }
    where
      cut : {l : ℕ} → link_at l ≡ link_at lv → l ≡ lv
      cut q = omega arith

      clash : (l z : ℕ) → z ≡ p → l ≡ lv → lock m.nodes l z ≡ suc j → ⊥
      clash l z ez el q = omega (
        arith,
        held-is,
        subst (λ w. lock m.nodes w p ≡ suc j) el (subst (λ w. lock m.nodes l w ≡ suc j) ez q),
      )

  pub link_made : Made m' g' s x k tp (suc lv)
  link_made = record {
    used = made.used;
    pos = made.pos;
    height_is = high_new;
    mine = made.mine;
    key_is = keys x ∙ made.key_is;
    top_is = tops x ∙ made.top_is;
  }

  pub link_risen : (pr pr' : Process) → pr.cursor.made ≡ x → Climbs pr' x → Risen m m' g g' pr pr'
  link_risen pr pr' ex k z h old free = by_eq z x
      (λ q. absurd (free (subst (λ w. Climbs pr' w) (sym q) k)))
      (λ ne. high_old z ne ∙ old h (λ c. ne (sym c.made ∙ ex)) ∙ ap suc (sym (tops z)))

module _ (m : Memory) (g : Ghost) (s : ℕ) (pr : Process) (tick : ℕ) (b : Map) (N : Nodes m g) (B : Book m b)
    (w : Puts pr)
    (q : PlacedOf m g pr) (h : HoldsOf m s pr) (cl : ClearOf m pr) where
  abbrev c : Cursor
  c = pr.cursor

  -- above level 0 the put has its node
  climbing : (l : ℕ) → 1 ≤ l → Stage m g s pr.effect pr.call.top c.made pr.call.key l
      → (pr.effect.tick ≢ 0) × (class_of pr.effect.answer ≡ Inserted) × (l ≤ pr.call.top) × Made m g s c.made pr.call.key pr.call.top l
  climbing zero pos st = absurd (omega arith)
  climbing (suc l) pos st = st

  linked : (pr.effect.tick ≢ 0) → (class_of pr.effect.answer ≡ Inserted) → (c.level ≤ pr.call.top)
      → (f : Made m g s c.made pr.call.key pr.call.top c.level)
      → Good m g s pr tick b (Go (at c Release c.level c.pred)) (add_link c m)
  unfolding add_link process_after
  linked ne ea le f = record {
    node_words_lem = nodes_length m g s c.level c.pred c.made pr.call.key pr.call.top N q.spot cl h f;
    version_words_lem = refl;
    g' = g' m g s c.level c.pred c.made pr.call.key pr.call.top N q.spot cl h f;
    b' = b;
    nodes = link_nodes m g s c.level c.pred c.made pr.call.key pr.call.top N q.spot cl h f;
    book = link_book m g s c.level c.pred c.made pr.call.key pr.call.top N q.spot cl h f B;
    fits = fits_at Release refl w (
      placed_kept (link_grown m g s c.level c.pred c.made pr.call.key pr.call.top N q.spot cl h f (suc s) (omega arith)) q,
      ne,
      locks_old m g s c.level c.pred c.made pr.call.key pr.call.top N q.spot cl h f c.level c.pred (q.spot.used, q.spot.up) ∙ h,
      rw ea (le, link_made m g s c.level c.pred c.made pr.call.key pr.call.top N q.spot cl h f),
    );
    frame = link_frame m g s c.level c.pred c.made pr.call.key pr.call.top N q.spot cl h f;
    does = (refl, refl);
    risen = link_risen m g s c.level c.pred c.made pr.call.key pr.call.top N q.spot cl h f pr
        (process_after tick pr (Go (at c Release c.level c.pred))) refl (record { kind = w; answer = ea; made = refl });
  }

  pub link_good : 1 ≤ c.level → StageOf m g s pr → GoodStep m g s pr tick b (link_of c m)
  unfolding link_of
  link_good pos st =
      let u = climbing c.level pos st in
      if-by (GoodStep m g s pr tick b) (used_node m c.made)
      (λ t. linked u.0 u.1 u.2 u.3)
      (λ t. absurd (T-absurd (used_node m c.made) (within_T u.3.pos u.3.used) t))
