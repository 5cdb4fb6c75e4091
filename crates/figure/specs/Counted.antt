-- What follows from the exact numbers of steps: a bound by the nodes with a smaller key, document 01's starred counts, and that the
-- bounds of the figure's recursions never show.
use Rattle.std.specs.Prelude.{ℕ, ◌+◌, ◌*◌, ◌≤◌, ◌<◌, true, List, ◌≡◌}
use Rattle.model.specs.Layout.{Memory}
use Rattle.model.specs.State.{lawful_key}
use Rattle.model.specs.Calls.{open_of, top_of, Store}
use Rattle.model.specs.ByValue.{fresh_store}
use Rattle.figure.specs.Types.{New, None, Ok}
use Rattle.figure.specs.Figure.{get, alone, put}
use Rattle.figure.specs.Steps.{search_steps, steps_of, smaller}
use Rattle.figure.specs.Alone.{Reached, memory_in, Unlocked}

-- A get makes at most seven steps more than there are nodes with a smaller key; a put eleven, and five more for each level above
-- the bottom. Document 01's slip "ending a get in an upper level" would make fewer.
pub record Few (bound : ℕ) (m : Memory) (k : ℕ) : Type 0 where
  pub search : search_steps bound m k ≤ smaller m k + 6
  pub get_steps : steps_of bound m k (get bound m k).answer 0 ≤ smaller m k + 7
  pub put_steps : (i v t draw : ℕ)
      → steps_of bound m k (put alone i bound m k v t draw).answer (top_of draw) ≤ smaller m k + 11 + 5 * top_of draw

abbrev pub FewSteps : Type 0
FewSteps = (w : Store) → Reached w → (bound : ℕ) → w.state.counts.nodes < bound → (k : ℕ) → lawful_key k ≡ true
    → Few bound (memory_in w) k

-- "Empty store, get: 6 steps, none. Put, draw 1: 11 steps, effect in the 10th. Draw 8: 26 steps. Draw 0: 36."
pub record Empty (bound : ℕ) (m : Memory) (k : ℕ) : Type 0 where
  pub none : (get bound m k).answer ≡ None
  pub get_steps : steps_of bound m k (get bound m k).answer 0 ≡ 6
  pub new : (i v t draw : ℕ) → (put alone i bound m k v t draw).answer ≡ New
  pub put_steps : (i v t draw : ℕ) → steps_of bound m k (put alone i bound m k v t draw).answer (top_of draw) ≡ 11 + 5 * top_of draw
  pub effect : search_steps bound m k + 4 ≡ 10

-- in every store that is freshly opened, for every lawful key
abbrev pub EmptySteps : Type 0
EmptySteps = (nodes versions : List ℕ) (processes limit : ℕ)
    → (open_of nodes versions processes limit).result.outcome ≡ (Ok tt)
    → (bound k : ℕ) → 0 < bound → lawful_key k ≡ true
    → Empty bound (memory_in (fresh_store (open_of nodes versions processes limit))) k

-- Two bounds above the count of nodes in use give the same: the reply of a get, and the memory and the answer of a put.
pub record Unseen (b c : ℕ) (m : Memory) (k : ℕ) : Type 0 where
  pub gets : get b m k ≡ get c m k
  pub leaves : Unlocked m → (i v t draw : ℕ) → (put alone i b m k v t draw).memory ≡ (put alone i c m k v t draw).memory
  pub answers : Unlocked m → (i v t draw : ℕ) → (put alone i b m k v t draw).answer ≡ (put alone i c m k v t draw).answer

abbrev pub BoundUnseen : Type 0
BoundUnseen = (w : Store) → Reached w → (b c : ℕ) → w.state.counts.nodes < b → w.state.counts.nodes < c
    → (k : ℕ) → lawful_key k ≡ true → Unseen b c (memory_in w) k
