-- Figure 1 implements the plain ledger: each procedure answers as the ledger does, and leaves memory that holds what the ledger holds.
use Prim.Native.Nat.{ℕ, zero, suc, ◌≤◌, ◌<◌}
use mathlib.Core.List.{List, [], ◌∷◌}
use mathlib.Core.Path.{◌≡◌, refl, sym, ap, ◌∙◌, subst}
use native.Mathlib.Omega.{arith}
use lib.ListN.{length, replicate, length-replicate}
use Rattle.model.specs.Layout.{Memory, node_words, version_words, capacity, lock}
use Rattle.model.specs.Map.{Map, put_in, answered, Reply, Applied, applied}
use Rattle.model.specs.State.{lawful_nodes, lawful_versions}
use Rattle.model.specs.Phases.{own_version, max_nodes, max_versions}
use Rattle.model.specs.Calls.{open_of, call_for, top_of, Store}
use Rattle.model.specs.Requests as Requests
use Rattle.model.proofs.Seen.{empty_seen}
use Rattle.model.specs.ByValue.{fresh_store}
use Rattle.model.specs.Linearizability.{All}
use Rattle.model.proofs.Tests.{by_le}
use Rattle.model.proofs.Laws.{top_at_most, open_accepted}
use Rattle.linearizability.proofs.Invariant.{Ghost, Nodes, Book}
use Rattle.linearizability.proofs.Effects.{Took, played}
use Rattle.linearizability.proofs.Live.{Live}
use Rattle.linearizability.proofs.Stepped.{put_applied}
use Rattle.linearizability.proofs.Opened.{opened_live}
use Rattle.figure.specs.Types.{Answer, Call, Ok}
use Rattle.figure.specs.Figure.{HMAX, MAX, head, alone, put}
use Rattle.figure.specs.Alone.{memory_in, Free, Unlocked}
use Rattle.figure.specs.OneByOne.{Request, putting, getting, operation_of, figure_reply, figure_memory, figure_all, ledger_all, Lawful, FigureImplements}
use Rattle.figure.proofs.Search.{at_head, all_finds}
use Rattle.figure.proofs.Walking.{put_call, put≢idle, get≢idle, asked_put, asked_get}
use Rattle.figure.proofs.Getting.{get_ends}
use Rattle.figure.proofs.Putting.{put_ends, put_locks}
use Rattle.figure.proofs.Ledger as L
use Rattle.figure.proofs.Unlocked.{key_range}
use Rattle.figure.proofs.OpensNew.{opens_new}

-- memory in order that holds the map, with no lock held, in tables of these capacities
pub record Ordered (K W : ℕ) (m : Memory) (b : Map) : Type 0 where
  pub ghost : Ghost
  pub nodes : Nodes m ghost
  pub book : Book m b
  pub unlocked : Unlocked m
  pub K-is : max_nodes m ≡ K
  pub W-is : max_versions m ≡ W

-- one call
pub record Does (K W bound : ℕ) (m : Memory) (b : Map) (r : Request) : Type 0 where
  pub replies : figure_reply bound m r ≡ (applied K W b (operation_of r)).reply
  pub leaves : Ordered K W (figure_memory bound m r) (applied K W b (operation_of r)).map

module _ {K W : ℕ} {m : Memory} {b : Map} (O : Ordered K W m b) (bound : ℕ) (room : m.counts.nodes < bound) where
  gets : (i k : ℕ) → (1 ≤ k) × (k < MAX) → Does K W bound m b (getting i k)
  unfolding figure_reply figure_memory applied
  gets i k range =
      let P = asked_get k 0 range in
      let E = get_ends O.nodes O.book P bound (omega arith) i 0 in
      record { replies = sym ((L.played O.nodes O.book P get≢idle i E).got refl).1; leaves = O }

  frees : (k h : ℕ) (a : Answer) → (1 ≤ k) × (k < MAX) → h ≤ HMAX → Free bound m k h a
  frees k h a range h5 l le _ =
      let f = all_finds O.nodes range.1 bound (omega (arith, room)) HMAX head l (omega arith)
      (at_head O.nodes range.1 range.0) in
      O.unlocked l _ (omega arith) f.spot.used

  puts : (i k v t draw : ℕ) → (1 ≤ k) × (k < MAX) → Does K W bound m b (putting i k v t draw)
  unfolding figure_reply figure_memory put call_for
  puts i k v t draw range =
      let P = asked_put k v t draw 0 range in
      let o = put alone i bound m k v t draw in
      let free = frees k (top_of draw) o.answer range (top_at_most draw) in
      let E = put_ends O.nodes O.book P bound room i 0 free in
      let done = L.played O.nodes O.book P put≢idle i E in
      let locks = put_locks O.nodes O.book P bound room i 0 free in
      let plays : put_in K W b k (own_version (put_call k v t draw 0)) ≡ answered done.map o.answer =
      rw (O.K-is, O.W-is) at (done.put refl) in
      let made = put_applied K W b done.map (Requests.put k v t draw) 0 o.answer tt plays in
      record {
        replies = sym (ap (λ (z : Applied). z.reply) made);
        leaves = subst (λ (z : Map). Ordered K W o.memory z)
            (sym (ap (λ (z : Applied). z.map) made)) (record {
              ghost = done.ghost;
              nodes = done.nodes;
              book = done.book;
              unlocked = λ l x l5 hx. by_le x m.counts.nodes (λ le. (locks l x l5).0 le ∙ O.unlocked l x l5 le)
                  (λ lt. (locks l x l5).1 lt hx);
              K-is = ap (capacity node_words) done.sized.nodes ∙ O.K-is;
              W-is = ap (capacity version_words) done.sized.versions ∙ O.W-is;
            });
      }

  pub does : (r : Request) → Lawful r → Does K W bound m b r
  does (putting i k v t draw) lawful = puts i k v t draw (key_range k lawful)
  does (getting i k) lawful = gets i k (key_range k lawful)

-- ---- a list of calls

pub all_does : {K W : ℕ} (bound : ℕ) → K < bound → (rs : List Request) {m : Memory} {b : Map} → Ordered K W m b → All Lawful rs
    → figure_all bound m rs ≡ ledger_all K W b rs
unfolding figure_all ledger_all
all_does bound enough [] O lawful = refl
all_does {K} {W} bound enough (r ∷ rs) {m} {b} O lawful =
    let D = does O bound (omega (arith, O.nodes.room, O.K-is)) r lawful.0 in
    ap (λ (z : Reply). z ∷ figure_all bound (figure_memory bound m r) rs) D.replies
    ∙ ap (λ (zs : List Reply). (applied K W b (operation_of r)).reply ∷ zs) (all_does bound enough rs D.leaves lawful.1)

-- ---- from new

-- no event, so nothing is held
no_effects : (K W : ℕ) (b : Map) (es : List Took) → length es ≡ 0 → b ≡ played K W [] es → b ≡ []
unfolding played
no_effects K W b [] e q = q
no_effects K W b (x ∷ es) e q = absurd (omega arith)

pub opened_ordered : (nodes versions : List ℕ) (processes limit : ℕ)
    → (open_of nodes versions processes limit).result.outcome ≡ (Ok tt)
    → Ordered (capacity node_words (length nodes)) (capacity version_words (length versions))
    (memory_in (fresh_store (open_of nodes versions processes limit))) []
opened_ordered nodes versions processes limit opened = record {
  ghost = l.g;
  nodes = l.core.nodes;
  book = subst (Book (memory_in w)) (no_effects K W l.b l.eff (l.hist.one_each ∙ sym l.hist.ticks) l.hist.book_is)
      l.core.book;
  unlocked = λ x n l5 hx. free x n l5 hx (lock w.nodes x n) refl;
  K-is = l.hist.K-is;
  W-is = l.hist.W-is;
}
  where
    w : Store
    w = fresh_store (open_of nodes versions processes limit)

    K : ℕ
    K = capacity node_words (length nodes)

    W : ℕ
    W = capacity version_words (length versions)

    l : Live K W w (empty_seen processes limit)
    l = opened_live nodes versions processes limit opened

    -- every process is idle, so no lock names one
    free : (x n : ℕ) → x ≤ HMAX → n ≤ w.state.counts.nodes → (v : ℕ) → lock w.nodes x n ≡ v → lock w.nodes x n ≡ 0
    free x n x5 hn zero e = e
    free x n x5 hn (suc j) e =
        absurd ((l.core.locks j x n (omega arith) hn e).kind
        (ap (λ (c : Call). c.kind) (l.hist.track j).same))

pub figure_implements : FigureImplements
figure_implements n v lawful-n lawful-v started above unmade bound enough rs lawful =
    let nodes : List ℕ = replicate n 0 in
    let versions : List ℕ = replicate v 0 in
    let en : length nodes ≡ n = length-replicate n 0 in
    let ev : length versions ≡ v = length-replicate v 0 in
    let opened = open_accepted nodes versions 1 1 (ap lawful_nodes en ∙ lawful-n) (ap lawful_versions ev ∙ lawful-v) refl refl in
    let fresh =
    rw (opens_new nodes versions 1 1 opened started above unmade, en, ev) at (opened_ordered nodes versions 1 1 opened) in
    all_does bound enough rs fresh lawful
