-- The update step: the map's put on a key that has a list. The new version goes in front of the node's chain.
use Prim.Native.Nat.{ℕ, zero, suc, ◌+◌, ◌≤◌, ◌<◌}
use mathlib.Core.Bool.{not}
use mathlib.Core.List.{List, [], ◌∷◌}
use mathlib.Core.Logic.{◌≢◌}
use mathlib.Core.Path.{◌≡◌, refl, sym, ap, ◌∙◌, subst}
use native.Mathlib.Omega.{arith}
use lib.Dec.{ltb, leb}
use lib.ListN.{length, get_or, set, length-set}
use lib.Seq.{get_or-set_same, get_or-set_other}
use Rattle.linearizability.specs.Types.{Release, Answer, TooOld, VersionsFull, Added, None, Call, Cursor, Process, Version}
use Rattle.std.specs.Prelude.{if◌then◌else◌}
use Rattle.model.specs.Layout.{Memory, version_words, capacity, word, field, key, newest, next, timestamp, with_newest, with_version, node_words, link_at, lock_at, node_offsets, levels}
use Rattle.model.specs.Map.{Map, held, pushed, answered, put_by, put_in}
use Rattle.model.specs.Phases.{own_version, used_node, used_version, max_nodes, max_versions, committed, add_version, update_node, update_at, update_of}
use Rattle.model.specs.Calls.{process_after}
use Rattle.model.specs.Roles.{class_of}
use Rattle.model.proofs.Tests.{if-by, if_yes, if_no, by_eq, T-absurd}
use Rattle.model.proofs.Words.{same_key, length_word, word_same, word_field, word_node, length_version, version_in, version_out}
use Rattle.linearizability.proofs.MapLaws.{no_entry, First, versions_first, pushed_first, held_set, with_front}
use Rattle.linearizability.proofs.Invariant.{Ghost, In, Nodes, Chain, Below, Book, PlacedOf, Target, TargetOf, HoldsOf, Settled, Puts, fits_at}
use Rattle.linearizability.proofs.Frame.{Frame, placed_kept, held_kept}
use Rattle.linearizability.proofs.Alike.{Alike, nodes_kept, frame_alike, risen_alike, alike_refl}
use Rattle.linearizability.proofs.Step.{Good, GoodStep, still, first_at, no_climb, within_T}

-- a chain is kept where the versions in use are
pub chain_kept : (t t' : List ℕ) (n n' : ℕ) → n ≤ n' → ((i f : ℕ) → i ≤ n → f < 3 → field t' i f ≡ field t i f)
    → (vs : List Version) (i : ℕ) → Chain t n i vs → Chain t' n' i vs
chain_kept t t' n n' le eq [] i k = k
chain_kept t t' n n' le eq (v ∷ vs) i k =
    let p = eq i 2 k.1 (omega arith) in (
      k.0,
      omega (arith, k.1),
      eq i 0 k.1 (omega arith) ∙ k.2,
      eq i 1 k.1 (omega arith) ∙ k.3,
      omega (arith, k.4),
      rw p (chain_kept t t' n n' le eq vs (field t i 2) k.5),
    )

-- the map's put where the key's newest version is at place i
put_head : (t : List ℕ) (n K W : ℕ) (b : Map) (k : ℕ) (v : Version) (vs : List Version) (i : ℕ) → Chain t n i vs → 1 ≤ i
    → put_by K W b k v vs ≡ (if ltb v.timestamp (timestamp t i) then answered b TooOld
    else if leb W (held b) then answered b VersionsFull else answered (pushed b k v) Added)
unfolding put_by
put_head t n K W b k v [] i ch p = absurd (omega arith)
put_head t n K W b k v (l ∷ ls) i ch p = rw ch.3

module _ (m : Memory) (g : Ghost) (call : Call) (b : Map) (N : Nodes m g) (B : Book m b) (j : ℕ) (used : suc j ≤ m.counts.nodes)
  where
    abbrev x : ℕ
    x = suc j

    abbrev i : ℕ
    i = m.counts.versions + 1

    abbrev m' : Memory
    m' = record {
      nodes = with_newest m.nodes x i;
      versions = with_version m.versions i (own_version call) (newest m.nodes x);
      counts = record { nodes = m.counts.nodes; versions = i };
    }

    abbrev b₁ : Map
    b₁ = set b j (with_front (get_or b j no_entry) (own_version call))

    six : (l y : ℕ) → In m g l y → l < levels
    six l y h = omega (arith, h.1, N.high y h.0)

    other_word : (y f : ℕ) → f < node_words → f ≢ node_offsets.newest → word m'.nodes y f ≡ word m.nodes y f
    other_word y f f16 ne = word_field m.nodes x y 1 f i (omega arith) f16 ne

    keys : (y : ℕ) → key m'.nodes y ≡ key m.nodes y
    keys y = same_key m'.nodes y m.nodes y λ f k. other_word y f (omega arith) (omega arith)

    pub add_alike : Alike m m' g
    add_alike = record {
      length_is = length_word m.nodes x 1 i;
      count_is = refl;
      keys = λ y h. keys y;
      tops = λ y h. other_word y 2 (omega arith) (omega arith);
      links = λ l y h. let l6 = six l y h in other_word y (link_at l) (omega arith) (omega arith);
    }

    pub add_frame : (s : ℕ) → Frame m m' g g s
    add_frame s = frame_alike add_alike (λ l y h e. let l6 = six l y h in other_word y (lock_at l) (omega arith) (omega arith) ∙ e)

    pub versions_length : length m'.versions ≡ length m.versions
    versions_length = length_version m.versions i (own_version call) (newest m.nodes x)

    module _ (space : m.counts.versions < max_versions m) (newer : timestamp m.versions (newest m.nodes x) ≤ call.timestamp)
      where
        fields : (y f : ℕ) → y ≤ m.counts.versions → f < 3 → field m'.versions y f ≡ field m.versions y f
        fields y f h f3 = version_out m.versions i (own_version call) (newest m.nodes x) y f f3 (omega arith)

        new_field : (f : ℕ) → f < 3 → field m'.versions i f ≡ get_or (call.value ∷ call.timestamp ∷ newest m.nodes x ∷ []) f 0
        new_field f f3 = version_in m.versions i (own_version call) (newest m.nodes x) f f3 (omega (arith, B.size))

        newest_x : newest m'.nodes x ≡ i
        newest_x = word_same m.nodes x 1 i (omega arith) (omega (arith, N.size, N.room))

        newest_other : (h : ℕ) → h ≢ j → newest m'.nodes (suc h) ≡ newest m.nodes (suc h)
        newest_other h ne = word_node m.nodes x (suc h) 1 1 i (omega arith) (omega arith) (omega arith)

        lies : j < length b
        lies = omega (arith, B.count)

        entry_x : get_or b₁ j no_entry ≡ with_front (get_or b j no_entry) (own_version call)
        entry_x = get_or-set_same b j (with_front (get_or b j no_entry) (own_version call)) no_entry lies

        entry_other : (h : ℕ) → h ≢ j → get_or b₁ h no_entry ≡ get_or b h no_entry
        entry_other h ne = get_or-set_other b j h (with_front (get_or b j no_entry) (own_version call)) no_entry ne

        old_chain : (h : ℕ) → h < m.counts.nodes
            → Chain m'.versions i (newest m.nodes (suc h)) (get_or b h no_entry).versions
        old_chain h lt = chain_kept m.versions m'.versions m.counts.versions i (omega arith) fields
            (get_or b h no_entry).versions (newest m.nodes (suc h)) (B.chains h lt)

        chain_x : Chain m'.versions i i (own_version call ∷ (get_or b j no_entry).versions)
        chain_x =
            let p = B.places j (omega arith) in
            let e = new_field 2 (omega arith) in
            (omega arith, omega arith, new_field 0 (omega arith), new_field 1 (omega arith), omega arith, rw e (old_chain j (omega arith)))

        key_at : (h : ℕ) → h < m.counts.nodes → (get_or b₁ h no_entry).key ≡ key m.nodes (suc h)
        key_at h lt = by_eq h j
            (λ e. rw (e, entry_x) (B.keys j (omega arith)))
            (λ ne. rw (entry_other h ne) (B.keys h lt))

        below : (vs : List Version) → Chain m.versions m.counts.versions (newest m.nodes x) vs → Below call.timestamp vs
        below [] h = tt
        below (v ∷ vs) h = omega (arith, h.3)

        pub add_book : Book m' b₁
        add_book = record {
          size = omega (arith, B.size, versions_length, ap (capacity version_words) versions_length);
          room = omega (arith, ap (capacity version_words) versions_length);
          count = length-set b j (with_front (get_or b j no_entry) (own_version call)) ∙ B.count;
          sum = omega (arith, B.sum, held_set b j (own_version call) lies);
          keys = λ h lt. key_at h lt ∙ sym (keys (suc h));
          places = λ h lt. by_eq h j
              (λ e. rw (e, newest_x) (omega arith))
              (λ ne. let q = B.places h lt in rw (newest_other h ne) (q.0, omega arith));
          chains = λ h lt. by_eq h j
              (λ e. rw (e, newest_x, entry_x) chain_x)
              (λ ne. rw (newest_other h ne, entry_other h ne) (old_chain h lt));
          sorted = λ h lt. by_eq h j
              (λ e. rw (e, entry_x) (below (get_or b j no_entry).versions (B.chains j (omega arith)), B.sorted j (omega arith)))
              (λ ne. rw (entry_other h ne) (B.sorted h lt));
        }

module _ (m : Memory) (g : Ghost) (s : ℕ) (pr : Process) (tick : ℕ) (b : Map) (N : Nodes m g) (B : Book m b) (tick-pos : tick ≢ 0)
    (w : Puts pr) (unset : pr.effect.tick ≡ 0) (ea : pr.effect.answer ≡ None) (q : PlacedOf m g pr) (h : HoldsOf m s pr) where
  abbrev call : Call
  call = pr.call

  abbrev c : Cursor
  c = pr.cursor

  -- the put answers a and writes nothing
  pub unwritten : (a : Answer) → Settled m g s call.top c.made call.key c.level (class_of a)
      → put_in (max_nodes m) (max_versions m) b call.key (own_version call) ≡ answered b a
      → Good m g s pr tick b (committed c c.made a) m
  unfolding process_after
  unwritten a st e = still m g s pr tick b N B (committed c c.made a)
      (fits_at Release refl w (q, tick-pos, h, st))
      (w, unset, e)
      (risen_alike (alike_refl m g) (λ y u k. absurd (no_climb ea y k)))

  module _ (j : ℕ) (used : suc j ≤ m.counts.nodes) (key_x : key m.nodes (suc j) ≡ call.key) where
    entry : First b call.key j
    entry = first_at m g b N B j call.key used key_x

    put_says : put_in (max_nodes m) (max_versions m) b call.key (own_version call)
        ≡ (if ltb call.timestamp (timestamp m.versions (newest m.nodes (suc j))) then answered b TooOld
        else if leb (max_versions m) m.counts.versions then answered b VersionsFull
        else answered (pushed b call.key (own_version call)) Added)
    unfolding put_in
    put_says =
        ap (put_by (max_nodes m) (max_versions m) b call.key (own_version call)) (versions_first b call.key j entry)
        ∙ put_head m.versions m.counts.versions (max_nodes m) (max_versions m) b call.key (own_version call)
        (get_or b j no_entry).versions (newest m.nodes (suc j)) (B.chains j (omega arith)) (B.places j (omega arith)).0
        ∙ rw B.sum refl

    written : (space : m.counts.versions < max_versions m) (newer : timestamp m.versions (newest m.nodes (suc j)) ≤ call.timestamp)
        → put_in (max_nodes m) (max_versions m) b call.key (own_version call) ≡ answered (pushed b call.key (own_version call)) Added
        → Good m g s pr tick b (committed c c.made Added) (add_version call (suc j) m)
    unfolding add_version process_after
    written space newer e =
        let a = add_alike m g call b N B j used in
        let f = add_frame m g call b N B j used in
        record {
          node_words_lem = a.length_is;
          version_words_lem = versions_length m g call b N B j used;
          g' = g;
          b' = b₁ m g call b N B j used;
          nodes = nodes_kept a N;
          book = add_book m g call b N B j used space newer;
          fits = fits_at Release refl w (placed_kept (f s).grown q, tick-pos, held_kept (f s) q.spot h, tt);
          frame = λ s' ne. f s';
          does = (w, unset, e ∙ ap (λ z. answered z Added) (pushed_first b call.key j (own_version call) entry));
          risen = risen_alike a (λ y u k. absurd (no_climb ea y k));
        }

    node_good : GoodStep m g s pr tick b (update_node call c (suc j) (newest m.nodes (suc j)) m)
    unfolding update_node
    node_good =
        let R = GoodStep m g s pr tick b in
        let old = ltb call.timestamp (timestamp m.versions (newest m.nodes (suc j))) in
        let full = leb (max_versions m) m.counts.versions in
        if-by R old (λ t. unwritten TooOld tt (put_says ∙ if_yes old _ _ t)) λ t.
        if-by R full (λ u. unwritten VersionsFull tt (put_says ∙ if_no old _ _ t ∙ if_yes full _ _ u)) λ u.
        written (lib.Dec.nleb→lt (max_versions m) m.counts.versions u) (lib.Dec.nltb→le call.timestamp (timestamp m.versions (newest m.nodes (suc j))) t)
        (put_says ∙ if_no old _ _ t ∙ if_no full _ _ u)

    pub at_good : GoodStep m g s pr tick b (update_at call c (suc j) m)
    unfolding update_at
    at_good =
        let R = GoodStep m g s pr tick b in
        let p = B.places j (omega arith) in
        if-by R (not (used_node m (suc j))) (λ t. absurd (T-absurd (used_node m (suc j)) (within_T (omega arith) used) t)) λ t.
        if-by R (not (used_version m (newest m.nodes (suc j)))) (λ u. absurd (T-absurd (used_version m (newest m.nodes (suc j))) (within_T p.0 p.1) u)) λ u.
        node_good

  pub update_good : c.level ≡ 0 → TargetOf m pr → GoodStep m g s pr tick b (update_of call c m)
  unfolding update_of
  update_good el t =
      let t₀ = subst (λ l. Target m l c.pred call.key) el t in by_node (next m.nodes 0 c.pred) t₀.some t₀.used t₀.key_is
    where
      by_node : (y : ℕ) → y ≢ 0 → y ≤ m.counts.nodes → key m.nodes y ≡ call.key
          → GoodStep m g s pr tick b (update_at call c y m)
      by_node zero n u k = absurd (n refl)
      by_node (suc j) n u k = at_good j u k
