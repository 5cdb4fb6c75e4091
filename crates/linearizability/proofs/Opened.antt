-- An accepted opening leaves a store in order, with nothing in it and nothing to explain.
use Prim.Native.Nat.{ℕ, zero, suc, ◌+◌, ◌*◌, ◌%◌, ◌≤◌, ◌<◌}
use mathlib.Core.Bool.{Bool, true, false, not}
use mathlib.Core.List.{List, []}
use mathlib.Core.Logic.{◌≢◌}
use mathlib.Core.Path.{◌≡◌, refl, sym, ap, ◌∙◌, subst}
use native.Mathlib.Omega.{arith}
use lib.Dec.{T, eqb, leb, leb→le, eqb→eq}
use lib.ListN.{length, get_or, replicate, length-replicate}
use Rattle.linearizability.specs.Types.{Idle, Walk, Refusal, Permit, Ok, Err, Process, Opening}
use Rattle.model.specs.Layout.{Memory, node_words, version_words, limits, capacity, word, key, top, next, fresh_nodes, link_at, lock_at, node_offsets, top_level}
use Rattle.model.specs.Map.{held}
use Rattle.model.specs.State.{idle_process, no_process, fresh_state, within, lawful_length, lawful_nodes, lawful_versions}
use Rattle.model.specs.Calls.{open_due, open_permit, open_by, open_of, Store}
use Rattle.model.specs.ByValue.{fresh_store}
use Rattle.model.specs.Linearizability.{counted_at}
use Rattle.model.proofs.Tests.{if-by, and→, by_le}
use Rattle.model.proofs.Words.{filled, zero_key, length_word, word_same, word_other}
use Rattle.linearizability.proofs.Level.{Level}
use Rattle.linearizability.proofs.Invariant.{Ghost, In, Nodes, Book, Fits}
use Rattle.linearizability.proofs.Effects.{played, nothing≢took}
use Rattle.linearizability.proofs.Live.{Core, Track, busy_below, Hist, Live, slot}
use Rattle.linearizability.proofs.Started.{granted≢denied}
use Rattle.model.proofs.Seen.{empty_seen}

-- what an accepted opening was given
pub record Lawful (nodes versions : List ℕ) (processes limit : ℕ) : Type 0 where
  pub node_length : T (lawful_nodes (length nodes))
  pub version_length : T (lawful_versions (length versions))
  pub processes_in : (1 ≤ processes) × (processes ≤ limits.processes)
  pub limit_in : (1 ≤ limit) × (limit ≤ 1_000_000_000)

plain : (x : Bool) → T (not (not x)) → T x
plain true t = tt
plain false t = t

in_range : (low high n : ℕ) → T (within low high n) → (low ≤ n) × (n ≤ high)
in_range low high n t = let q = and→ (leb low n) (leb n high) t in (leb→le low n q.0, leb→le n high q.1)

granted_lawful : (nodes versions : List ℕ) (processes limit : ℕ) → open_permit nodes versions processes limit ≡ (Ok tt)
    → Lawful nodes versions processes limit
unfolding open_due
granted_lawful nodes versions processes limit =
    let P : Permit → Type 0 = λ d. d ≡ (Ok tt) → Lawful nodes versions processes limit in
    if-by P (not (lawful_nodes (length nodes))) (λ t e. absurd (granted≢denied e)) λ t1.
    if-by P (not (lawful_versions (length versions))) (λ t e. absurd (granted≢denied e)) λ t2.
    if-by P (not (within 1 limits.processes processes)) (λ t e. absurd (granted≢denied e)) λ t3.
    if-by P (not (within 1 limits.events limit)) (λ t e. absurd (granted≢denied e)) λ t4 e. record {
      node_length = plain (lawful_nodes (length nodes)) t1;
      version_length = plain (lawful_versions (length versions)) t2;
      processes_in = in_range 1 limits.processes processes (plain (within 1 limits.processes processes) t3);
      limit_in = in_range 1 limits.events limit (plain (within 1 limits.events limit) t4);
    }

-- a lawful length is that of its capacity, and one record more
node_size : (n : ℕ) → T (lawful_nodes n) → n ≡ node_words * capacity node_words n + node_words
unfolding lawful_length capacity
node_size n t =
    let q = and→ (within (2 * node_words) (node_words * suc limits.nodes) n) (eqb (n % node_words) 0) t in
    let r = in_range (2 * node_words) (node_words * suc limits.nodes) n q.0 in
    let e = eqb→eq (n % node_words) 0 q.1 in
    omega arith

version_size : (n : ℕ) → T (lawful_versions n) → n ≡ version_words * capacity version_words n + version_words
unfolding lawful_length capacity
version_size n t =
    let q = and→ (within (2 * version_words) (version_words * suc limits.versions) n) (eqb (n % version_words) 0) t in
    let r = in_range (2 * version_words) (version_words * suc limits.versions) n q.0 in
    let e = eqb→eq (n % version_words) 0 q.1 in
    omega arith

module _ (nodes versions : List ℕ) (processes limit : ℕ) (law : Lawful nodes versions processes limit) where
  abbrev n : ℕ
  n = length nodes

  abbrev m₀ : Memory
  m₀ = record { nodes = fresh_nodes n; versions = replicate (length versions) 0; counts = record { nodes = 0; versions = 0 } }

  abbrev w₀ : Store
  w₀ = record {
    state = fresh_state processes limit (record { nodes = n; versions = length versions });
    nodes = fresh_nodes n;
    versions = replicate (length versions) 0;
    tally = replicate limits.tally 0;
  }

  abbrev g₀ : Ghost
  g₀ = record { high = λ x. 6; own = λ x. 0 }

  fresh_length : length (fresh_nodes n) ≡ n
  unfolding fresh_nodes
  fresh_length = length_word (replicate n 0) 0 2 5 ∙ length-replicate n 0

  fresh_word : (x f : ℕ) → f < node_words → (x ≡ 0 → f ≢ node_offsets.top) → word (fresh_nodes n) x f ≡ 0
  unfolding fresh_nodes
  fresh_word x f f16 ne =
      word_other (replicate n 0) 0 x node_offsets.top f top_level (omega arith) f16 ne ∙ (unfold word in (filled {A = ℕ} n (node_words * x + f) 0))

  fresh_top : top (fresh_nodes n) 0 ≡ top_level
  unfolding fresh_nodes
  fresh_top =
      word_same (replicate n 0) 0 2 5 (omega arith) (omega (arith, length-replicate {A = ℕ} n 0, node_size n law.node_length))

  fresh_key : (x : ℕ) → key (fresh_nodes n) x ≡ 0
  fresh_key x = zero_key (fresh_nodes n) x λ f k. fresh_word x f (omega arith) (λ e. omega arith)

  fresh_level : (l : ℕ) → Level (In m₀ g₀ l) (key m₀.nodes) (next m₀.nodes l)
  fresh_level l = record {
    step = λ x i ne. absurd (ne (fresh_word x (link_at l) (omega (arith, i.1)) (λ e. omega arith)));
    gap =
        λ x z i j lt. absurd (omega (arith, fresh_key x, fresh_key z));
  }

  fresh_nodes_lem : Nodes m₀ g₀
  fresh_nodes_lem = record {
    size = omega (arith, fresh_length, ap (capacity node_words) fresh_length, node_size n law.node_length);
    room = omega arith;
    head_key = fresh_key 0;
    head_high = refl;
    high = λ x h. omega arith;
    inj = λ x y hx hy e. omega arith;
    levels = fresh_level;
  }

  fresh_book : Book m₀ []
  unfolding held
  fresh_book =
      let e = length-replicate {A = ℕ} (length versions) 0 in
      record {
        size = omega (arith, e, ap (capacity version_words) e, version_size (length versions) law.version_length);
        room = omega arith;
        count = refl;
        sum = refl;
        keys = λ i h. absurd (omega arith);
        places = λ i h. absurd (omega arith);
        chains = λ i h. absurd (omega arith);
        sorted = λ i h. absurd (omega arith);
      }

  -- every process is idle, and so is what is read past the array's end
  fresh_slot : (P : Process → Type 0) → P idle_process → P no_process → (i : ℕ) → P (slot w₀ i)
  fresh_slot P idle none i = by_le limits.processes i
      (λ h. subst P (sym (lib.ListN.get_or-eq_default (replicate limits.processes idle_process) no_process {n = i} h)) none)
      (λ h. subst P (sym (within_array i h)) idle)
    where
      within_array : (i : ℕ) → i < limits.processes → get_or (replicate limits.processes idle_process) i no_process ≡ idle_process
      within_array zero h = refl
      within_array (suc zero) h = refl
      within_array (suc (suc zero)) h = refl
      within_array (suc (suc (suc zero))) h = refl
      within_array (suc (suc (suc (suc zero)))) h = refl
      within_array (suc (suc (suc (suc (suc zero))))) h = refl
      within_array (suc (suc (suc (suc (suc (suc zero)))))) h = refl
      within_array (suc (suc (suc (suc (suc (suc (suc zero))))))) h = refl
      within_array (suc (suc (suc (suc (suc (suc (suc (suc i)))))))) h = absurd (omega arith)

  fresh_core : Core w₀ g₀ []
  fresh_core = record {
    opened = refl;
    processes = law.processes_in;
    limit = law.limit_in;
    events = omega arith;
    node_length = law.node_length;
    version_length = law.version_length;
    nodes_lent = fresh_length;
    versions_lent = length-replicate (length versions) 0;
    tally = refl;
    array = refl;
    nodes = fresh_nodes_lem;
    book = fresh_book;
    fits = λ i. fresh_slot (λ q. Fits m₀ g₀ i q)
        (record { phase = Walk; phase_is = refl; role = λ n. absurd (n refl); ok = λ n. absurd (n refl) })
        (record { phase = Walk; phase_is = refl; role = λ n. absurd (n refl); ok = λ n. absurd (n refl) }) i;
    tops = λ x h f. omega (arith, fresh_top, ap (top (fresh_nodes n)) (zero_is x h));
    locks = λ i l x h6 hx e. absurd (omega (arith, fresh_word x (lock_at l) (omega arith) (λ q. omega arith)));
    beyond = λ i h. fresh_slot (λ q. q.call.kind ≡ Idle) refl refl i;
  }
    where
      zero_is : (x : ℕ) → x ≤ 0 → x ≡ 0
      zero_is x h = omega arith

  none_busy : (k : ℕ) → busy_below w₀.state.process k ≡ 0
  unfolding busy_below
  none_busy zero = refl
  none_busy (suc k) = rw (fresh_slot (λ q. q.call.kind ≡ Idle) refl refl k) (omega (arith, none_busy k))

  fresh_hist : Hist (capacity node_words n) (capacity version_words (length versions)) w₀ (empty_seen processes limit) [] []
  unfolding played counted_at
  fresh_hist = record {
    processes_is = refl;
    limit_is = refl;
    ticks = refl;
    one_each = refl;
    K-is = ap (capacity node_words) fresh_length;
    W-is = ap (capacity version_words) (length-replicate {A = ℕ} (length versions) 0);
    book_is = refl;
    done = tt;
    track =
        λ i. fresh_slot (λ q. Track (capacity node_words n) (capacity version_words (length versions)) [] [] i Rattle.model.specs.History.no_call q)
        (record { same = refl; resting = λ e. refl; begun = omega arith; entered = λ d e ne. absurd (ne refl) })
        (record { same = refl; resting = λ e. refl; begun = omega arith; entered = λ d e ne. absurd (ne refl) }) i;
    scanning = λ i. tt;
    nothing_else = λ k i c e. absurd (nothing≢took e);
    looks = tt;
    tally = λ n lt. filled {A = ℕ} limits.tally n 0;
    counted = omega (arith, none_busy processes);
    few = omega arith;
    faults = refl;
    past = λ i c e. tt;
    pairs = tt;
  }

-- the store that an accepted opening leaves
pub opened_live : (nodes versions : List ℕ) (processes limit : ℕ)
    → (open_of nodes versions processes limit).result.outcome ≡ (Ok tt)
    → Live (capacity node_words (length nodes)) (capacity version_words (length versions))
    (fresh_store (open_of nodes versions processes limit)) (empty_seen processes limit)
unfolding open_of
opened_live nodes versions processes limit = go (open_permit nodes versions processes limit) refl
  where
    go : (d : Permit) → open_permit nodes versions processes limit ≡ d
        → (open_by d nodes versions processes limit).result.outcome ≡ (Ok tt)
        → Live (capacity node_words (length nodes)) (capacity version_words (length versions))
        (fresh_store (open_by d nodes versions processes limit)) (empty_seen processes limit)
    go (Err x) e o = absurd (unfold open_by in (refused≢opened x o))
      where
        refused≢opened : (x : Refusal) → ◌≡◌ {A = Opening} (Err x) (Ok tt) → ⊥
        refused≢opened x o = let z : ◌≡◌ {A = ℕ} 0 1 = cc in omega arith
    go (Ok _) e o = unfold open_by in (let law = granted_lawful nodes versions processes limit e in
        record { g = g₀ nodes versions processes limit law; b = []; eff = []; core = fresh_core nodes versions processes limit law; hist = fresh_hist nodes versions processes limit law; grows = (omega arith, λ n lt. refl) })
