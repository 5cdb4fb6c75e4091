-- Calls one after another, each ran alone to its end: by the store they are the published procedures folded over the list, and
-- those are the plain ledger folded over it. So figure 1 implements the plain ledger.
use Rattle.std.specs.Prelude.{ℕ, suc, ◌+◌, ◌≤◌, ◌<◌, true, List, [], ◌∷◌, ◌++◌, ◌≡◌, length}
use Rattle.model.specs.Layout.{Memory, node_words, version_words, capacity}
use Rattle.model.specs.Map.{Map, Reply, applied}
use Rattle.model.specs.State.{lawful_nodes, lawful_versions, lawful_key}
use Rattle.model.specs.Phases.{max_nodes}
use Rattle.model.specs.Calls.{open_of, start_of, top_of, Store}
use Rattle.model.specs.Requests as Requests
use Rattle.model.specs.Requests.{Operation, first_of}
use Rattle.model.specs.ByValue.{with_state, fresh_store}
use Rattle.model.specs.Linearizability.{All}
use Rattle.figure.specs.Types.{Stepping, Ok, Err, Progress}
use Rattle.figure.specs.Figure.{HMAX, new, get, alone, put}
use Rattle.figure.specs.Steps.{steps_of}
use Rattle.figure.specs.Alone.{Ran, ran, Reached, memory_in, Resting}

-- a call to make: by process i
pub data Request : Type 0 where
  putting : (i k v t draw : ℕ) → Request
  getting : (i k : ℕ) → Request

abbrev pub process_of : Request → ℕ
process_of (putting i k v t draw) = i
process_of (getting i k) = i

abbrev pub operation_of : Request → Operation
operation_of (putting i k v t draw) = Requests.put k v t draw
operation_of (getting i k) = Requests.get k

-- ---- by the figure

unfoldable pub figure_reply : (bound : ℕ) → Memory → Request → Reply
figure_reply bound m (putting i k v t draw) =
    record { answer = (put alone i bound m k v t draw).answer; version = record { value = v; timestamp = t } }
figure_reply bound m (getting i k) = get bound m k

unfoldable pub figure_memory : (bound : ℕ) → Memory → Request → Memory
figure_memory bound m (putting i k v t draw) = (put alone i bound m k v t draw).memory
figure_memory bound m (getting i k) = m

unfoldable pub figure_all : (bound : ℕ) → Memory → List Request → List Reply
figure_all bound m [] = []
figure_all bound m (r ∷ rs) = figure_reply bound m r ∷ figure_all bound (figure_memory bound m r) rs

unfoldable pub figure_left : (bound : ℕ) → Memory → List Request → Memory
figure_left bound m [] = m
figure_left bound m (r ∷ rs) = figure_left bound (figure_memory bound m r) rs

-- the steps of a call, and the events of all: each start is one too
unfoldable pub figure_steps : (bound : ℕ) → Memory → Request → ℕ
figure_steps bound m (putting i k v t draw) = steps_of bound m k (put alone i bound m k v t draw).answer (top_of draw)
figure_steps bound m (getting i k) = steps_of bound m k (get bound m k).answer 0

unfoldable pub figure_events : (bound : ℕ) → Memory → List Request → ℕ
figure_events bound m [] = 0
figure_events bound m (r ∷ rs) = suc (figure_steps bound m r) + figure_events bound (figure_memory bound m r) rs

-- ---- by the plain ledger

unfoldable pub ledger_all : (K W : ℕ) → Map → List Request → List Reply
ledger_all K W b [] = []
ledger_all K W b (r ∷ rs) =
    let a = applied K W b (operation_of r) in
    a.reply ∷ ledger_all K W a.map rs

-- ---- by the store

-- started, then ran so many steps
unfoldable pub store_does : (bound : ℕ) → Store → Request → Ran
store_does bound w r =
    let begun = start_of w.state w.nodes w.versions (process_of r) (operation_of r) in
    ran (with_state w begun.state) (process_of r) (figure_steps bound (memory_in w) r)

-- what finishing steps have told
unfoldable pub told : List Stepping → List Reply
told [] = []
told (Err r ∷ os) = told os
told (Ok (Progress.Moved t) ∷ os) = told os
told (Ok (Progress.Waited t) ∷ os) = told os
told (Ok (Progress.Shown t x) ∷ os) = told os
told (Ok (Progress.Finished f) ∷ os) =
    record { answer = f.answer; version = record { value = f.value; timestamp = f.timestamp } } ∷ told os

unfoldable pub store_all : (bound : ℕ) → Store → List Request → List Reply
store_all bound w [] = []
store_all bound w (r ∷ rs) = told (store_does bound w r).outcomes ++ store_all bound (store_does bound w r).store rs

unfoldable pub store_left : (bound : ℕ) → Store → List Request → Store
store_left bound w [] = w
store_left bound w (r ∷ rs) = store_left bound (store_does bound w r).store rs

-- ---- the claims

abbrev pub Lawful : Request → Type 0
Lawful r = lawful_key (first_of (operation_of r)) ≡ true

-- From a store of demand 3 without a running call: what is answered, and the tables that are left, are the figure's.
abbrev pub StoreFolds : Type 0
StoreFolds = (w : Store) → Reached w → Resting w → (bound : ℕ) → max_nodes (memory_in w) < bound → (rs : List Request)
    → All (λ r. Lawful r × (process_of r < w.state.processes)) rs
    → w.state.events + figure_events bound (memory_in w) rs ≤ w.state.limit
    → (store_all bound w rs ≡ figure_all bound (memory_in w) rs)
    × (memory_in (store_left bound w rs) ≡ figure_left bound (memory_in w) rs)

-- Figure 1 implements the plain ledger: from what `new` leaves in lawful tables, every list of calls is answered as the ledger,
-- opened without lists, answers it.
abbrev pub FigureImplements : Type 0
FigureImplements = (nodes versions : ℕ) → lawful_nodes nodes ≡ true → lawful_versions versions ≡ true
    → (started : ℕ) → HMAX < started → (unmade : ℕ)
    → (bound : ℕ) → capacity node_words nodes < bound → (rs : List Request) → All Lawful rs
    → figure_all bound (new started nodes versions unmade) rs
    ≡ ledger_all (capacity node_words nodes) (capacity version_words versions) [] rs

-- and so does a store that is freshly opened, one call at a time
abbrev pub StoreImplements : Type 0
StoreImplements = (nodes versions : List ℕ) (processes limit : ℕ)
    → (open_of nodes versions processes limit).result.outcome ≡ (Ok tt)
    → let w = fresh_store (open_of nodes versions processes limit) in
    (bound : ℕ) → capacity node_words (length nodes) < bound → (rs : List Request)
    → All (λ r. Lawful r × (process_of r < processes)) rs → figure_events bound (memory_in w) rs ≤ limit
    → store_all bound w rs ≡ ledger_all (capacity node_words (length nodes)) (capacity version_words (length versions)) [] rs
