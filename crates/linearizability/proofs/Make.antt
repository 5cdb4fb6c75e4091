-- The make step: the map's put on a key that has no list. The new node goes behind p at level 0.
use Prim.Native.Nat.{ℕ, zero, suc, ◌+◌, ◌*◌, ◌≤◌, ◌<◌}
use mathlib.Core.List.{List, [], ◌∷◌, ◌++◌}
use mathlib.Core.Logic.{◌≢◌}
use mathlib.Core.Path.{◌≡◌, refl, sym, ap, ◌∙◌, subst}
use native.Mathlib.Omega.{arith}
use native.Mathlib.Numerals.{add-one}
use lib.Dec.{eqb, leb, nleb→lt}
use lib.ListN.{length, get_or, length-append, get_or-append}
use lib.Seq.{get_or_at}
use Rattle.linearizability.specs.Types.{Release, VersionsFull, KeysFull, New, None, Call, Cursor, Process}
use Rattle.std.specs.Prelude.{if◌then◌else◌}
use Rattle.model.specs.Layout.{Memory, node_words, version_words, top_level, capacity, word, field, key, newest, top, next, lock, node_record, with_node, with_next, with_version, link_at, lock_at, levels}
use Rattle.model.specs.Map.{Entry, Map, answered, put_by, put_in}
use Rattle.model.specs.Phases.{own_version, max_nodes, max_versions, committed, add_node, make_of}
use Rattle.model.specs.Calls.{process_after}
use Rattle.model.proofs.Tests.{if-by, if-lt, if_yes, if_no, by_eq}
use Rattle.model.proofs.Words.{same_key, written_key, length_word, word_same, word_node, word_other, length_node, node_in, node_out, length_version, version_in, version_out}
use Rattle.linearizability.proofs.Level.{Level, absent, inserted, kept}
use Rattle.linearizability.proofs.MapLaws.{no_entry, held_snoc}
use Rattle.linearizability.proofs.Invariant.{Ghost, In, Nodes, Chain, Book, At, PlacedOf, Clear, ClearOf, Made, HoldsOf, Puts, fits_at, Climbs, Risen}
use Rattle.linearizability.proofs.Frame.{Grown, Frame, placed_kept}
use Rattle.linearizability.proofs.Step.{Good, GoodStep, none_at, no_climb}
use Rattle.linearizability.proofs.Update.{chain_kept, unwritten}

-- a function changed at one point
pub changed : (ℕ → ℕ) → ℕ → ℕ → ℕ → ℕ
changed f x v y = if eqb y x then v else f y

pub changed_same : (f : ℕ → ℕ) (x v y : ℕ) → y ≡ x → changed f x v y ≡ v
unfolding changed
changed_same f x v y e = if_yes (eqb y x) v (f y) (Rattle.model.proofs.Tests.eq→eqb y x e)

pub changed_other : (f : ℕ → ℕ) (x v y : ℕ) → y ≢ x → changed f x v y ≡ f y
unfolding changed
changed_other f x v y e = if_no (eqb y x) v (f y) (Rattle.model.proofs.Tests.ne→neqb y x e)

module _ (m : Memory) (g : Ghost) (s : ℕ) (call : Call) (p : ℕ) (b : Map) (N : Nodes m g) (B : Book m b) where
  -- the new node, its version, and what they leave
  abbrev x : ℕ
  x = m.counts.nodes + 1

  abbrev i : ℕ
  i = m.counts.versions + 1

  abbrev t₁ : List ℕ
  t₁ = with_node m.nodes x call.key i call.top (next m.nodes 0 p)

  abbrev m' : Memory
  m' = record {
    nodes = with_next t₁ 0 p x;
    versions = with_version m.versions i (own_version call) 0;
    counts = record { nodes = x; versions = i };
  }

  abbrev g' : Ghost
  g' = record { high = changed g.high x 1; own = changed g.own x (suc s) }

  abbrev e : Entry
  e = record { key = call.key; versions = own_version call ∷ [] }

  abbrev b₁ : Map
  b₁ = b ++ (e ∷ [])

  module _ (a : At m g 0 p call.key) (clear : Clear m 0 p call.key) (held-is : lock m.nodes 0 p ≡ suc s)
      (room : m.counts.nodes < max_nodes m) (space : m.counts.versions < max_versions m) where
    length₁ : length t₁ ≡ length m.nodes
    length₁ = length_node m.nodes x call.key i call.top (next m.nodes 0 p)

    pub nodes_length : length m'.nodes ≡ length m.nodes
    nodes_length = length_word t₁ p 4 x ∙ length₁

    pub versions_length : length m'.versions ≡ length m.versions
    versions_length = length_version m.versions i (own_version call) 0

    inside : (z : ℕ) → z ≤ x → node_words * z + node_words ≤ length m.nodes
    inside z h = omega (arith, N.size)

    old_word : (z f : ℕ) → z ≤ m.counts.nodes → f < node_words → (z ≡ p → f ≢ link_at 0) → word m'.nodes z f ≡ word m.nodes z f
    old_word z f h f16 ne =
        word_other t₁ p z 4 f x (omega arith) f16 ne
        ∙ node_out m.nodes x call.key i call.top (next m.nodes 0 p) z f f16 (omega arith)

    new_word : (f : ℕ) → f < node_words → word m'.nodes x f ≡ get_or (node_record call.key i call.top (next m.nodes 0 p)) f 0
    new_word f f16 =
        word_node t₁ p x 4 f x (omega arith) f16 (omega (arith, a.used))
        ∙ node_in m.nodes x call.key i call.top (next m.nodes 0 p) f f16 (inside x (omega arith))

    back_word : word m'.nodes p 4 ≡ x
    back_word = word_same t₁ p 4 x (omega arith) (omega (arith, length₁, inside p (omega (arith, a.used))))

    keys : (z : ℕ) → z ≤ m.counts.nodes → key m'.nodes z ≡ key m.nodes z
    keys z h = same_key m'.nodes z m.nodes z λ f k. old_word z f h (omega arith) (λ q. omega arith)

    tops : (z : ℕ) → z ≤ m.counts.nodes → top m'.nodes z ≡ top m.nodes z
    tops z h = old_word z 2 h (omega arith) (λ q. omega arith)

    key_x : key m'.nodes x ≡ call.key
    key_x = written_key m'.nodes x call.key i call.top (next m.nodes 0 p) λ f k. new_word f (omega arith)

    high_old : (z : ℕ) → z ≤ m.counts.nodes → g'.high z ≡ g.high z
    high_old z h = changed_other g.high x 1 z (omega arith)

    own_old : (z : ℕ) → z ≤ m.counts.nodes → g'.own z ≡ g.own z
    own_old z h = changed_other g.own x (suc s) z (omega arith)

    high_x : g'.high x ≡ 1
    high_x = changed_same g.high x 1 x refl

    unheld : (z : ℕ) → z ≤ m.counts.nodes → key m.nodes z ≢ call.key
    unheld z h =
        absent (N.levels 0) p call.key (a.used, a.up) a.low (λ ne. (clear ne).1) z (h, omega (arith, N.high z h))

    -- a node in use is an old one or the new one
    old_or_new : {P : Type 0} (z : ℕ) → z ≤ x → (z ≤ m.counts.nodes → P) → (z ≡ x → P) → P
    old_or_new z h old new = by_eq z x new (λ ne. old (omega arith))

    level_0 : Level (In m' g' 0) (key m'.nodes) (next m'.nodes 0)
    level_0 = inserted (N.levels 0) (record {
      here = (a.used, a.up);
      pos = omega arith;
      low = rw key_x a.low;
      clear = λ ne. rw key_x (clear ne).1;
      up = λ z h. (omega (arith, h.0), rw (high_old z h.0) h.1);
      new = (omega arith, rw high_x (omega arith));
      out = λ z h q. omega (arith, h.0);
      down = λ z h ne. let u : z ≤ m.counts.nodes = omega (arith, h.0) in (u, rw (high_old z u) at h.1);
      keys = λ z h. keys z h.0;
      back = back_word;
      front = new_word 4 (omega arith);
      others = λ z h ne. old_word z 4 h.0 (omega arith) (λ q. absurd (ne q));
      inj = λ z h q. N.inj z p h.0 a.used q;
    })

    level_up : (l : ℕ) → Level (In m' g' (suc l)) (key m'.nodes) (next m'.nodes (suc l))
    level_up l =
        kept (N.levels (suc l)) down (λ z h. (omega (arith, h.0), rw (high_old z h.0) h.1)) (λ z h. keys z h.0)
        (λ z h. let l6 : suc l < levels = omega (arith, h.1, N.high z h.0) in old_word z (link_at (suc l)) h.0 (omega arith) (λ q. omega arith))
      where
        down : (z : ℕ) → In m' g' (suc l) z → In m g (suc l) z
        down z h =
            old_or_new z h.0 (λ u. (u, rw (high_old z u) at h.1)) (λ q. absurd (omega (arith, h.1, ap g'.high q, high_x)))

    each_level : (l : ℕ) → Level (In m' g' l) (key m'.nodes) (next m'.nodes l)
    each_level zero = level_0
    each_level (suc l) = level_up l

    pub make_nodes : Nodes m' g'
    make_nodes = record {
      size = omega (arith, N.size, nodes_length, ap (capacity node_words) nodes_length);
      room = omega (arith, ap (capacity node_words) nodes_length);
      head_key = keys 0 (omega arith) ∙ N.head_key;
      head_high = high_old 0 (omega arith) ∙ N.head_high;
      high = λ z h. old_or_new z h (λ u. rw (high_old z u) (N.high z u)) (λ q. rw (q, high_x) (omega arith));
      inj = λ z y hz hy q. old_or_new z hz
          (λ oz. old_or_new y hy
          (λ oy. N.inj z y oz oy (sym (keys z oz) ∙ q ∙ keys y oy))
          (λ ey. absurd (unheld z oz (sym (keys z oz) ∙ q ∙ ap (key m'.nodes) ey ∙ key_x))))
          (λ ez. old_or_new y hy
          (λ oy. absurd (unheld y oy (sym (keys y oy) ∙ sym q ∙ ap (key m'.nodes) ez ∙ key_x)))
          (λ ey. ez ∙ sym ey));
      levels = each_level;
    }

    pub make_grown : (j : ℕ) → Grown m m' g g' j
    make_grown j = record {
      more = omega arith;
      keys = keys;
      grow = λ z h. omega (arith, high_old z h);
      owns = own_old;
      mine = λ z h q. high_old z h;
      tops = λ z h q. tops z h;
    }

    pub locks_old : (l z : ℕ) → In m g l z → lock m'.nodes l z ≡ lock m.nodes l z
    locks_old l z h =
        let l6 : l < levels = omega (arith, h.1, N.high z h.0) in old_word z (lock_at l) h.0 (omega arith) (λ q. omega arith)

    pub make_frame : (j : ℕ) → j ≢ s → Frame m m' g g' j
    make_frame j ne = record {
      grown = make_grown j;
      locks = λ l z h q. locks_old l z h ∙ q;
      links = λ l z h q. let l6 : l < levels = omega (arith, h.1, N.high z h.0) in
          old_word z (link_at l) h.0 (omega arith) (λ ez el. clash l z ez (cut el) q);
    }
      where
        cut : {l : ℕ} → link_at l ≡ link_at 0 → l ≡ 0
        cut q = omega arith

        clash : (l z : ℕ) → z ≡ p → l ≡ 0 → lock m.nodes l z ≡ suc j → ⊥
        clash l z ez el q = omega (
          arith,
          held-is,
          subst (λ k. lock m.nodes k p ≡ suc j) el (subst (λ w. lock m.nodes l w ≡ suc j) ez q),
        )

    pub make_made : Made m' g' s x call.key call.top 1
    make_made = record {
      used = omega arith;
      pos = omega arith;
      height_is = high_x;
      mine = changed_same g.own x (suc s) x refl;
      key_is = key_x;
      top_is = new_word 2 (omega arith);
    }

    -- ---- the map

    fields : (y f : ℕ) → y ≤ m.counts.versions → f < 3 → field m'.versions y f ≡ field m.versions y f
    fields y f h f3 = version_out m.versions i (own_version call) 0 y f f3 (omega arith)

    new_field : (f : ℕ) → f < 3 → field m'.versions i f ≡ get_or (call.value ∷ call.timestamp ∷ 0 ∷ []) f 0
    new_field f f3 = version_in m.versions i (own_version call) 0 f f3 (omega (arith, B.size))

    entry_old : (j : ℕ) → j < m.counts.nodes → get_or b₁ j no_entry ≡ get_or b j no_entry
    entry_old j h = get_or-append b (e ∷ []) no_entry j (omega (arith, B.count))

    entry_x : get_or b₁ m.counts.nodes no_entry ≡ e
    entry_x = get_or_at b e [] no_entry m.counts.nodes B.count

    -- node n + 1, written as the book has it
    at_x : suc m.counts.nodes ≡ x
    at_x = sym (add-one m.counts.nodes)

    newest_x : newest m'.nodes (suc m.counts.nodes) ≡ i
    newest_x = ap (newest m'.nodes) at_x ∙ new_word 1 (omega arith)

    newest_old : (z : ℕ) → z ≤ m.counts.nodes → newest m'.nodes z ≡ newest m.nodes z
    newest_old z h = old_word z 1 h (omega arith) (λ q. omega arith)

    chain_x : Chain m'.versions i i (own_version call ∷ [])
    chain_x =
        let q = new_field 2 (omega arith) in
        (omega arith, omega arith, new_field 0 (omega arith), new_field 1 (omega arith), omega arith, q)

    split : {P : Type 0} (j : ℕ) → j < x → (j < m.counts.nodes → P) → (j ≡ m.counts.nodes → P) → P
    split j h old new = by_eq j m.counts.nodes new (λ ne. old (omega arith))

    pub make_book : Book m' b₁
    make_book = record {
      size = omega (arith, B.size, versions_length, ap (capacity version_words) versions_length);
      room = omega (arith, ap (capacity version_words) versions_length);
      count = omega (arith, length-append b (e ∷ []), B.count);
      sum = omega (arith, B.sum, held_snoc b e);
      keys =
          λ j h. split j h (λ o. rw (entry_old j o, keys (suc j) o) (B.keys j o)) (λ q. rw (q, entry_x) (sym (ap (key m'.nodes) at_x ∙ key_x)));
      places =
          λ j h. split j h (λ o. let w = B.places j o in rw (newest_old (suc j) o) (w.0, omega arith)) (λ q. rw (q, newest_x) (omega arith));
      chains = λ j h. split j h
          (λ o. rw (entry_old j o, newest_old (suc j) o) (chain_kept m.versions m'.versions m.counts.versions i (omega arith) fields
          (get_or b j no_entry).versions (newest m.nodes (suc j)) (B.chains j o)))
          (λ q. rw (q, entry_x, newest_x) chain_x);
      sorted = λ j h. split j h (λ o. rw (entry_old j o) (B.sorted j o)) (λ q. rw (q, entry_x) (tt, tt));
    }

    pub make_risen : (pr pr' : Process) → Climbs pr' x → ((z : ℕ) → ¬ (Climbs pr z)) → Risen m m' g g' pr pr'
    make_risen pr pr' k nk z h old free = old_or_new z h
        (λ o. high_old z o ∙ old o (nk z) ∙ ap suc (sym (tops z o)))
        (λ q. absurd (free (subst (λ y. Climbs pr' y) (sym q) k)))

module _ (m : Memory) (g : Ghost) (s : ℕ) (pr : Process) (tick : ℕ) (b : Map) (N : Nodes m g) (B : Book m b) (tick-pos : tick ≢ 0)
    (w : Puts pr) (unset : pr.effect.tick ≡ 0) (ea : pr.effect.answer ≡ None) (q : PlacedOf m g pr) (h : HoldsOf m s pr)
    (el : pr.cursor.level ≡ 0) (clear-l : ClearOf m pr) where
  abbrev c : Cursor
  c = pr.cursor

  at₀ : At m g 0 c.pred pr.call.key
  at₀ = subst (λ l. At m g l c.pred pr.call.key) el q.spot

  clear₀ : Clear m 0 c.pred pr.call.key
  clear₀ = subst (λ l. Clear m l c.pred pr.call.key) el clear-l

  held₀ : lock m.nodes 0 c.pred ≡ suc s
  held₀ = subst (λ l. lock m.nodes l c.pred ≡ suc s) el h

  put_says : put_in (max_nodes m) (max_versions m) b pr.call.key (own_version pr.call)
      ≡ (if leb (max_nodes m) m.counts.nodes then answered b KeysFull
      else if leb (max_versions m) m.counts.versions then answered b VersionsFull
      else answered (b₁ m g s pr.call c.pred b N B) New)
  unfolding put_in put_by
  put_says =
      ap (put_by (max_nodes m) (max_versions m) b pr.call.key (own_version pr.call)) (none_at m g b N B c.pred pr.call.key at₀ clear₀)
      ∙ rw (B.count, B.sum) refl

  written : (room : m.counts.nodes < max_nodes m) (space : m.counts.versions < max_versions m)
      → put_in (max_nodes m) (max_versions m) b pr.call.key (own_version pr.call) ≡ answered (b₁ m g s pr.call c.pred b N B) New
      → Good m g s pr tick b (committed c (m.counts.nodes + 1) New) (add_node pr.call c m)
  unfolding add_node process_after
  written room space e = record {
    node_words_lem = nodes_length m g s pr.call c.pred b N B at₀ clear₀ held₀ room space;
    version_words_lem = versions_length m g s pr.call c.pred b N B at₀ clear₀ held₀ room space;
    g' = g' m g s pr.call c.pred b N B;
    b' = b₁ m g s pr.call c.pred b N B;
    nodes = make_nodes m g s pr.call c.pred b N B at₀ clear₀ held₀ room space;
    book = make_book m g s pr.call c.pred b N B at₀ clear₀ held₀ room space;
    fits = fits_at Release refl w (
      placed_kept (make_grown m g s pr.call c.pred b N B at₀ clear₀ held₀ room space s) q,
      tick-pos,
      locks_old m g s pr.call c.pred b N B at₀ clear₀ held₀ room space c.level c.pred (q.spot.used, q.spot.up)
          ∙ h,
      (omega arith, rw el (make_made m g s pr.call c.pred b N B at₀ clear₀ held₀ room space)),
    );
    frame = make_frame m g s pr.call c.pred b N B at₀ clear₀ held₀ room space;
    does = (w, unset, e);
    risen = make_risen m g s pr.call c.pred b N B at₀ clear₀ held₀ room space pr
        (process_after tick pr (committed c (m.counts.nodes + 1) New)) (record { kind = w; answer = refl; made = refl }) (λ z k. no_climb ea z k);
  }

  pub make_good : GoodStep m g s pr tick b (make_of pr.call c m)
  unfolding make_of
  make_good =
      let R = GoodStep m g s pr tick b in
      let full = leb (max_nodes m) m.counts.nodes in
      let full-versions = leb (max_versions m) m.counts.versions in
      if-by R full (λ t. unwritten m g s pr tick b N B tick-pos w unset ea q h KeysFull tt (put_says ∙ if_yes full _ _ t)) λ t.
      if-by R full-versions (λ u. unwritten m g s pr tick b N B tick-pos w unset ea q h VersionsFull tt
      (put_says ∙ if_no full _ _ t ∙ if_yes full-versions _ _ u)) λ u.
      if-lt R top_level pr.call.top (λ w. absurd (omega (arith, q.top5)))
      (λ w. written (nleb→lt (max_nodes m) m.counts.nodes t) (nleb→lt (max_versions m) m.counts.versions u)
      (put_says ∙ if_no full _ _ t ∙ if_no full-versions _ _ u))
