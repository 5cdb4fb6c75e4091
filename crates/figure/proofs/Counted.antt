-- Each hop passes a node with a smaller key, and no node twice.
use Prim.Native.Nat.{ℕ, suc, ◌+◌, ◌*◌, ◌%◌, ◌≤◌, ◌<◌}
use mathlib.Core.Bool.{true}
use mathlib.Core.List.{[]}
use mathlib.Core.Path.{◌≡◌, refl, sym, ap, ◌∙◌, subst}
use native.Mathlib.Omega.{arith}
use lib.Dec.{T, eqb, leb, leb→le}
use Rattle.model.specs.Layout.{Memory, limits, node_words, version_words, capacity}
use Rattle.model.specs.Map.{held, versions_of, PutResult, put_by, put_in, Reply, get_by, get_from, applied}
use Rattle.model.specs.State.{within, lawful_length, lawful_nodes, lawful_versions, lawful_key}
use Rattle.model.specs.Calls.{top_of}
use Rattle.model.specs.Roles.{class_of}
use Rattle.linearizability.proofs.Opened.{opened_live}
use Rattle.model.proofs.Tests.{if-by, if_no, and→}
use Rattle.linearizability.proofs.Invariant.{Ghost, Nodes}
use Rattle.figure.specs.Types.{Answer, New, None, Class, Inserted, OtherPut, Hit, Miss, Scanned, Version}
use Rattle.figure.specs.Figure.{HMAX, MAX, head, key_of, find_all, get, alone, put}
use Rattle.figure.specs.Steps.{hops_down, search_steps, steps_in, steps_after, steps_of, smaller}
use Rattle.figure.specs.OneByOne.{putting, getting, figure_reply}
use Rattle.figure.specs.Counted.{Few, FewSteps, Empty, EmptySteps}
use Rattle.figure.proofs.Search.{at_head, down_few, left_smaller, left_most}
use Rattle.figure.proofs.Climbing.{beneath}
use Rattle.figure.proofs.Called.{reached_lives}
use Rattle.figure.proofs.Unlocked.{key_range}
use Rattle.figure.proofs.Implements.{Ordered, opened_ordered, does}

-- no answer is further from the end of the search than new
after_few : (a : Answer) (h : ℕ) → steps_after a h ≤ 5 + 5 * h
unfolding steps_after
after_few a h = by (class_of a)
  where
    by : (k : Class) → steps_in k h ≤ 5 + 5 * h
    by Inserted = omega arith
    by OtherPut = omega arith
    by Hit = omega arith
    by Miss = omega arith
    by Scanned = omega arith

get_after : (bound : ℕ) (m : Memory) (k : ℕ) → steps_after (get bound m k).answer 0 ≤ 1
unfolding get steps_after
get_after bound m k = if-by (λ (r : Reply). steps_after r.answer 0 ≤ 1) (eqb k (key_of m (find_all bound m head k HMAX 0).succ))
    (λ t. omega arith) (λ t. omega arith)

module _ {m : Memory} {g : Ghost} (N : Nodes m g) (k : ℕ) (low : 1 ≤ k) (k-max : k < MAX) (bound : ℕ)
    (enough : m.counts.nodes < bound) where
  search_few : search_steps bound m k ≤ smaller m k + 6
  unfolding search_steps
  search_few = omega (arith, down_few N k-max bound (omega arith) HMAX head (at_head N k-max low), left_smaller N k-max)

  few : Few bound m k
  unfolding steps_of
  few = record {
    search = search_few;
    get_steps = omega (arith, search_few, get_after bound m k);
    put_steps = λ i v t draw. omega (arith, search_few, after_few (put alone i bound m k v t draw).answer (top_of draw));
  }

pub few_steps : FewSteps
few_steps w reached bound enough k lawful =
    let l = (reached_lives reached).live in
    let r = key_range k lawful in
    few l.core.nodes k r.0 r.1 bound enough

-- ---- an empty store

-- a table that is lent holds a record beside its first
node_room : (n : ℕ) → T (lawful_nodes n) → 1 ≤ capacity node_words n
unfolding lawful_length capacity
node_room n t =
    let q = and→ (within (2 * node_words) (node_words * suc limits.nodes) n) (eqb (n % node_words) 0) t in
    let r = and→ (leb (2 * node_words) n) (leb n (node_words * suc limits.nodes)) q.0 in
    omega (arith, leb→le (2 * node_words) n r.0)

version_room : (n : ℕ) → T (lawful_versions n) → 1 ≤ capacity version_words n
unfolding lawful_length capacity
version_room n t =
    let q = and→ (within (2 * version_words) (version_words * suc limits.versions) n) (eqb (n % version_words) 0) t in
    let r = and→ (leb (2 * version_words) n) (leb n (version_words * suc limits.versions)) q.0 in
    omega (arith, leb→le (2 * version_words) n r.0)

-- the ledger without lists
none_held : (k : ℕ) → (get_from [] k).answer ≡ None
unfolding get_from get_by versions_of
none_held k = refl

new_put : (K W k : ℕ) (v : Version) → 1 ≤ K → 1 ≤ W → (put_in K W [] k v).answer ≡ New
unfolding put_in put_by versions_of held
new_put K W k v hK hW = ap (λ (r : PutResult). r.answer)
    (if_no (leb K 0) _ _ (beneath K 0 hK) ∙ if_no (leb W 0) _ _ (beneath W 0 hW))

module _ {K W : ℕ} {m : Memory} (O : Ordered K W m []) (hK : 1 ≤ K) (hW : 1 ≤ W) (bound k : ℕ) (pos : 0 < bound)
    (lawful : lawful_key k ≡ true) where
  no_nodes : m.counts.nodes ≡ 0
  no_nodes = sym O.book.count

  no_hops : hops_down bound m head k HMAX ≡ 0
  no_hops =
      let r = key_range k lawful in
      let g = O.ghost in
      omega (
        arith,
        no_nodes,
        down_few O.nodes r.1 bound (omega (arith, no_nodes)) HMAX head (at_head O.nodes r.1 r.0),
        left_most m k head,
      )

  gets_none : (get bound m k).answer ≡ None
  unfolding figure_reply applied
  gets_none = ap (λ (r : Reply). r.answer) (does O bound (omega (arith, no_nodes)) (getting 0 k) lawful).replies ∙ none_held k

  puts_new : (i v t draw : ℕ) → (put alone i bound m k v t draw).answer ≡ New
  unfolding figure_reply applied
  puts_new i v t draw = ap (λ (r : Reply). r.answer)
      (does O bound (omega (arith, no_nodes)) (putting i k v t draw) lawful).replies
      ∙ new_put K W k (record { value = v; timestamp = t }) hK hW

  empty : Empty bound m k
  unfolding search_steps steps_of steps_after
  empty = record {
    none = gets_none;
    get_steps = rw gets_none (omega (arith, no_hops));
    new = puts_new;
    put_steps = λ i v t draw. rw (puts_new i v t draw) (omega (arith, no_hops));
    effect = omega (arith, no_hops);
  }

pub empty_steps : EmptySteps
empty_steps nodes versions processes limit opened bound k pos lawful =
    let O = opened_ordered nodes versions processes limit opened in
    let c = (opened_live nodes versions processes limit opened).core in
    let n = c.nodes_lent in
    let v = c.versions_lent in
    empty O (omega (arith, O.K-is, node_room _ (subst (λ x. T (lawful_nodes x)) (sym n) c.node_length)))
    (omega (arith, O.W-is, version_room _ (subst (λ x. T (lawful_versions x)) (sym v) c.version_length))) bound k pos lawful
