-- A look keeps the invariant of a run: following the node's versions shows the map's list for the key.
use Prim.Native.Nat.{ℕ, zero, suc, ◌+◌, ◌≤◌, ◌<◌}
use mathlib.Core.Bool.{Bool, true, false, not}
use mathlib.Core.List.{List, [], ◌∷◌}
use mathlib.Core.Logic.{◌≢◌}
use mathlib.Core.Path.{◌≡◌, refl, sym, ap, ◌∙◌}
use native.Mathlib.Omega.{arith}
use lib.Dec.{T, eqb, leb, leb→le}
use lib.ListN.{length, get_or, take}
use lib.Seq.{take_all}
use Rattle.linearizability.specs.Types.{Version, BadKey, Err}
use Rattle.std.specs.Prelude.{if◌then◌else◌}
use Rattle.model.specs.Layout.{Memory, limits, key, newest, prev}
use Rattle.model.specs.Map.{Map, back_in, look_in}
use Rattle.model.specs.Map as Seq
use Rattle.model.specs.State.{lawful_key}
use Rattle.model.specs.Phases.{used_version}
use Rattle.model.specs.Calls.{Store, find_from, back_from, look_node, look_permit, look_by, look_of}
use Rattle.model.proofs.Tests.{if_yes, if_no, if-eq, by_eq, by_test, is_true, and→, eq→eqb, ne→neqb, not_not}
use Rattle.linearizability.proofs.MapLaws.{no_entry, versions_first}
use Rattle.linearizability.proofs.Invariant.{Ghost, Nodes, Chain, Book}
use Rattle.linearizability.proofs.Step.{no_node, first_at, within_T}
use Rattle.linearizability.proofs.Effects.{Took, played}
use Rattle.linearizability.proofs.Live.{memory, LiveFrom, core_lawful}
use Rattle.model.proofs.Seen.{Seen, saw_look}

-- the first node with the key, or 0 where none of `left` nodes from x on has it
find_by : (t : List ℕ) (k : ℕ) (P : ℕ → Type 0) (left x : ℕ)
    → (((z : ℕ) → x ≤ z → z < x + left → key t z ≢ k) → P 0)
    → ((z : ℕ) → x ≤ z → z < x + left → key t z ≡ k → P z) → P (find_from t k left x)
unfolding find_from
find_by t k P zero x none some = none (λ z a c. absurd (omega arith))
find_by t k P (suc left) x none some = if-eq P (key t x) k
    (λ e. some x (omega arith) (omega arith) e)
    (λ ne. find_by t k P left (x + 1)
    (λ f. none (λ z a c. by_eq z x (λ q e. ne (ap (key t) (sym q) ∙ e)) (λ q. f z (omega arith) (omega arith))))
    (λ z a c e. some z (omega arith) (omega arith) e))

not_le : (a c : ℕ) → c < a → T (not (leb a c))
not_le a c lt = by_test (leb a c) (λ t. absurd (omega (arith, leb→le a c t))) (λ t. t)

-- back along the chain is back in the list
back_right : (t : List ℕ) (n back i : ℕ) (v : Version) (vs : List Version) → Chain t n i (v ∷ vs)
    → back_from t back i ≡ back_in (v ∷ vs) back
unfolding back_from back_in
back_right t n zero i v vs h = rw (h.2, h.3)
back_right t n (suc back) i v [] h =
    if_no (leb i (prev t i)) _ _ (not_le i (prev t i) h.4) ∙ if_yes (eqb (prev t i) 0) _ _ (eq→eqb (prev t i) 0 h.5)
back_right t n (suc back) i v (u ∷ us) h =
    if_no (leb i (prev t i)) _ _ (not_le i (prev t i) h.4)
    ∙ if_no (eqb (prev t i) 0) _ _ (ne→neqb (prev t i) 0 (omega (arith, h.5.0)))
    ∙ back_right t n back (prev t i) u us h.5

module _ (m : Memory) (g : Ghost) (b : Map) (N : Nodes m g) (B : Book m b) (k back : ℕ) where
  by_chain : (i : ℕ) (vs : List Version) → Chain m.versions m.counts.versions i vs → 1 ≤ i
      → back_from m.versions back i ≡ Seq.look_list vs back
  unfolding Seq.look_list
  by_chain i [] h p = absurd (omega arith)
  by_chain i (v ∷ vs) h p = back_right m.versions m.counts.versions back i v vs h

  at_node : (j : ℕ) → suc j ≤ m.counts.nodes → key m.nodes (suc j) ≡ k → look_node m back (suc j) ≡ look_in b k back
  unfolding look_node look_in
  at_node j le e =
      let x = newest m.nodes (suc j) in
      let q = B.places j le in
      if_no (eqb (suc j) 0) _ _ (ne→neqb (suc j) 0 (omega arith))
      ∙ if_no (not (used_version m x)) _ _ (not_not (used_version m x) (within_T q.0 q.1))
      ∙ by_chain x (get_or b j no_entry).versions (B.chains j le) q.0
      ∙ ap (λ vs. Seq.look_list vs back) (sym (versions_first b k j (first_at m g b N B j k le e)))

  node_right : (x : ℕ) → 1 ≤ x → x ≤ m.counts.nodes → key m.nodes x ≡ k → look_node m back x ≡ look_in b k back
  node_right zero p le e = absurd (omega arith)
  node_right (suc j) p le e = at_node j le e

  none_right : ((z : ℕ) → z ≤ m.counts.nodes → key m.nodes z ≢ k) → look_node m back 0 ≡ look_in b k back
  unfolding look_node look_in Seq.look_list
  none_right f = ap (λ vs. Seq.look_list vs back) (sym (no_node m g b N B k f))

  look_right : 1 ≤ k → look_node m back (find_from m.nodes k m.counts.nodes 1) ≡ look_in b k back
  look_right low = find_by m.nodes k (λ x. look_node m back x ≡ look_in b k back) m.counts.nodes 1
      (λ f. none_right (λ z h. by_eq z 0
      (λ q e. omega (arith, ap (key m.nodes) q, N.head_key))
      (λ q. f z (omega arith) (omega arith))))
      (λ z a c e. node_right z a (omega arith) e)

pub look_outcome : {from : List Took} {K W : ℕ} {w : Store} {h : Seen} (l : LiveFrom from K W w h) (k back : ℕ)
    → look_of w.state w.nodes w.versions k back ≡ (if lawful_key k then look_in l.b k back else Err BadKey)
unfolding look_of look_permit
look_outcome {w = w} l k back =
    rw (core_lawful l.core) (by_test (lawful_key k)
    (λ t. rw (is_true (lawful_key k) t) (unfold look_by in
    (look_right (memory w) l.g l.b l.core.nodes l.core.book k back (leb→le 1 k (and→ (leb 1 k) (leb k limits.key) t).0))))
    (λ t. rw (is_false (lawful_key k) t) (unfold look_by in refl)))
  where
    is_false : (x : Bool) → T (not x) → x ≡ false
    is_false true t = absurd t
    is_false false t = refl

pub look_live : {from : List Took} {K W : ℕ} {w : Store} {h : Seen} (l : LiveFrom from K W w h) (k back : ℕ)
    → LiveFrom from K W w (saw_look h k back (look_of w.state w.nodes w.versions k back))
unfolding saw_look
look_live {from} {K} {W} {w} {h} l k back =
    let q = l.hist in
    let whole : take (length h.log) l.eff ≡ l.eff = take_all (length h.log) l.eff (omega (arith, q.ticks, q.one_each)) in
    record {
      g = l.g;
      b = l.b;
      eff = l.eff;
      core = l.core;
      hist = record {
        processes_is = q.processes_is;
        limit_is = q.limit_is;
        ticks = q.ticks;
        one_each = q.one_each;
        K-is = q.K-is;
        W-is = q.W-is;
        book_is = q.book_is;
        done = q.done;
        track = q.track;
        scanning = q.scanning;
        nothing_else = q.nothing_else;
        looks = (
          (
            omega (arith, q.ticks, q.one_each),
            look_outcome l k back ∙ ap (λ (b : Map). if lawful_key k then look_in b k back else Err BadKey)
                (q.book_is ∙ ap (λ es. played K W [] es) (sym whole)),
          ),
          q.looks,
        );
        tally = q.tally;
        counted = q.counted;
        few = q.few;
        faults = q.faults;
        past = q.past;
        pairs = q.pairs;
      };
      grows = l.grows;
    }
