-- The procedures computed on small stores: beside the store's own steps, beside the plain ledger, and beside words that are written
-- down here. Each way to get a procedure wrong that we know of changes one of these.
use Prim.Native.Nat.{ℕ, ◌+◌, ◌*◌}
use mathlib.Core.List.{List, [], ◌∷◌, ◌++◌, map}
use mathlib.Core.Path.{◌≡◌, refl}
use lib.Count.{count_trailing_zeros}
use lib.Dec.{eqb}
use mathlib.Core.Bool.{Bool, true, false, ◌&&◌}
use lib.ListN.{replicate}
use Rattle.std.specs.Prelude.{if◌then◌else◌}
use Rattle.model.specs.Layout as Layout
use Rattle.model.specs.Layout.{Memory, node_words, version_words}
use Rattle.model.specs.Numbers.{answer_number}
use Rattle.model.specs.Map as Map
use Rattle.model.specs.Map.{Reply}
use Rattle.model.specs.State as State
use Rattle.model.specs.Phases as Phases
use Rattle.model.specs.Calls as Calls
use Rattle.model.specs.Calls.{open_of, top_of, Store}
use Rattle.model.specs.ByValue.{fresh_store}
use Rattle.figure.specs.Figure as Figure
use Rattle.figure.specs.Figure.{new, alone, put}
use Rattle.figure.specs.Steps as Steps
use Rattle.figure.specs.Alone as Alone
use Rattle.figure.specs.Alone.{memory_in}
use Rattle.figure.specs.OneByOne as OneByOne
use Rattle.figure.specs.OneByOne.{Request, putting, getting, figure_all, figure_left, figure_steps, ledger_all, store_all, store_left}

-- ---- a case

-- calls one after another, in tables for K trays and W readings
pub record Case : Type 0 where
  pub K : ℕ
  pub W : ℕ
  pub calls : List Request

abbrev pub case : (K W : ℕ) → List Request → Case
case K W calls = record { K = K; W = W; calls = calls }

-- a store that is freshly opened in tables full of rubbish, and what the figure's new leaves
abbrev pub opened : (K W : ℕ) → Store
opened K W = fresh_store (open_of (replicate (node_words * (K + 1)) 77) (replicate (version_words * (W + 1)) 77) 2 400)

abbrev pub fresh : (K W : ℕ) → Memory
fresh K W = new 6 (node_words * (K + 1)) (version_words * (W + 1)) 77

-- replies, and the words of both tables
pub record Seen : Type 0 where
  pub replies : List Reply
  pub words : List ℕ

abbrev pub words_of : Memory → List ℕ
words_of m = m.nodes ++ m.versions

-- a bound that none of the cases reaches
abbrev pub bound : ℕ
bound = 5

unfoldable pub by_store : Case → Seen
unfolding Layout.capacity Layout.joined Layout.word Layout.with_word Layout.with_node Layout.fresh_nodes Layout.field Layout.with_version answer_number
    State.lawful_length State.lawful_state State.lawful_store
    Phases.ahead Phases.walked Phases.descend Phases.walk_by Phases.walk_of Phases.read_of Phases.seek_by Phases.seek_of
    Phases.lock_of Phases.check_by Phases.check_of Phases.add_version Phases.update_node Phases.update_at Phases.update_of
    Phases.add_node Phases.make_of Phases.add_link Phases.link_of Phases.rise Phases.released Phases.freed
    Phases.release_of Phases.lawful_at Phases.lawful_process Phases.phase_of Phases.transition_of
    Calls.open_due Calls.open_by open_of count_trailing_zeros top_of Calls.start_permit Calls.start_by Calls.call_for Calls.start_of
    Calls.step_permit Calls.process_after Calls.outcome_of Calls.counted Calls.tally_after Calls.step_by Calls.step_of
    Figure.key_of Figure.ref_node Figure.find Figure.find_all Figure.get Figure.link Figure.create Figure.create_and_link Figure.update
    Figure.find_lock Figure.insert Figure.try_insert Figure.insert_above Figure.insert_all Figure.put_h put
    Steps.hops Steps.hops_down Steps.search_steps Steps.steps_after Steps.steps_of Alone.ran figure_steps OneByOne.store_does OneByOne.told
    store_all store_left
by_store c = record {
  replies = store_all bound (opened c.K c.W) c.calls;
  words = words_of (memory_in (store_left bound (opened c.K c.W) c.calls));
}

unfoldable pub by_figure : Case → Seen
unfolding Layout.capacity Layout.joined Layout.word Layout.with_word Layout.field Layout.with_version count_trailing_zeros top_of
    Figure.key_of Figure.ref_node Figure.init_locks new Figure.find Figure.find_all Figure.get Figure.link Figure.create Figure.create_and_link
    Figure.update Figure.find_lock Figure.insert Figure.try_insert Figure.insert_above Figure.insert_all Figure.put_h put
    OneByOne.figure_reply OneByOne.figure_memory figure_all figure_left
by_figure c = record {
  replies = figure_all bound (fresh c.K c.W) c.calls;
  words = words_of (figure_left bound (fresh c.K c.W) c.calls);
}

unfoldable pub by_ledger : Case → List Reply
unfolding Map.versions_of Map.held Map.pushed Map.put_by Map.put_in Map.get_by Map.get_from Map.applied ledger_all
by_ledger c = ledger_all c.K c.W [] c.calls

-- ---- the three agree

-- the numbers of replies
abbrev pub numbers : List Reply → List ℕ
numbers [] = []
numbers (r ∷ rs) = answer_number r.answer ∷ r.version.value ∷ r.version.timestamp ∷ numbers rs

unfoldable pub same : List ℕ → List ℕ → Bool
same [] [] = true
same [] (b ∷ bs) = false
same (a ∷ l) [] = false
same (a ∷ l) (b ∷ bs) = eqb a b && same l bs

-- what the store's steps tell and leave is what the figure answers and leaves, and what the ledger answers
unfoldable pub agree : Case → Bool
unfolding by_store by_figure by_ledger same
agree c =
    same (by_store c).words (by_figure c).words
    && same (numbers (by_store c).replies) (numbers (by_figure c).replies)
    && same (numbers (by_figure c).replies) (numbers (by_ledger c))

-- document 01's starred cases, and more: nodes of every height in front of and behind one another, updates and gets of each
pub cases : List Case
cases =
    case 2 3 (getting 0 7 ∷ []) ∷
    case 2 3 (putting 0 7 5 100 1 ∷ getting 1 7 ∷ getting 0 6 ∷ getting 0 8 ∷ []) ∷
    case 2 3 (putting 0 7 5 100 8 ∷ getting 0 7 ∷ []) ∷
    case 2 3 (putting 0 7 5 100 0 ∷ getting 0 7 ∷ []) ∷
    case 2 3 (putting 0 7 5 100 1 ∷ putting 0 7 6 100 1 ∷ putting 0 7 8 99 1 ∷ getting 0 7 ∷ []) ∷
    case 1 1 (putting 0 7 5 100 1 ∷ putting 0 8 6 100 0 ∷ putting 0 7 6 101 0 ∷ putting 0 7 6 99 0 ∷ getting 0 7 ∷ []) ∷
    case 2 1 (putting 0 7 5 100 1 ∷ putting 0 8 6 100 0 ∷ []) ∷
    case 3 3 (putting 0 3 5 100 0 ∷ putting 1 9 6 100 0 ∷ putting 0 5 8 100 8 ∷ getting 0 5 ∷ getting 1 9 ∷ []) ∷
    case 3 3 (putting 0 3 5 100 2 ∷ putting 0 5 6 100 1 ∷ putting 0 9 8 100 8 ∷ getting 0 4 ∷ getting 0 9 ∷ []) ∷
    case 3 3 (putting 0 4_294_967_303 5 100 2 ∷ putting 0 7 6 100 1 ∷ putting 0 18_446_744_073_709_551_614 8 100 8 ∷ getting 0 7 ∷ getting 0 4_294_967_303 ∷ getting 0 4_294_967_302 ∷ []) ∷
    case 4 5 (putting 0 9 5 100 16 ∷ putting 1 3 6 100 4 ∷ putting 0 5 8 100 2 ∷ putting 1 7 4 100 32 ∷ putting 0 5 9 101 0 ∷ getting 0 5 ∷ []) ∷
    []

pub all_agree : map agree cases ≡ replicate 11 true
unfolding agree cases
all_agree = refl

-- "Empty store, get: 6 steps, none. Put, draw 1: 11 steps, effect in the 10th. Draw 8: 26 steps. Draw 0: 36."
pub starred_steps : (11 + 5 * top_of 1) ∷ (11 + 5 * top_of 8) ∷ (11 + 5 * top_of 0) ∷ [] ≡ 11 ∷ 26 ∷ 36 ∷ []
unfolding count_trailing_zeros top_of
starred_steps = refl

-- ---- words that are written down

-- trays 3, 5 and 9 of tops 1, 0 and 3: the third has another predecessor at each of levels 0, 1 and 2
pub stairs : (by_figure (case 3 3 (putting 0 3 5 100 2 ∷ putting 0 5 6 100 1 ∷ putting 0 9 8 100 8 ∷ []))).words
    ≡ 0 ∷ 0 ∷ 5 ∷ 0 ∷ 1 ∷ 1 ∷ 3 ∷ 3 ∷ replicate 8 0
    ++ (3 ∷ 1 ∷ 1 ∷ 0 ∷ 2 ∷ 3 ∷ replicate 10 0)
    ++ (5 ∷ 2 ∷ 0 ∷ 0 ∷ 3 ∷ replicate 11 0)
    ++ (9 ∷ 3 ∷ 3 ∷ replicate 13 0)
    ++ (0 ∷ 0 ∷ 0 ∷ 5 ∷ 100 ∷ 0 ∷ 6 ∷ 100 ∷ 0 ∷ 8 ∷ 100 ∷ 0 ∷ [])
unfolding by_figure
stairs = refl

-- tray 7 three times with the same stamp: each reading leads to the one before it
pub thrice : (by_figure (case 1 3 (putting 0 7 5 100 1 ∷ putting 0 7 6 100 1 ∷ putting 0 7 8 100 1 ∷ []))).words
    ≡ 0 ∷ 0 ∷ 5 ∷ 0 ∷ 1 ∷ replicate 11 0 ++ (7 ∷ 3 ∷ replicate 14 0) ++ (0 ∷ 0 ∷ 0 ∷ 5 ∷ 100 ∷ 0 ∷ 6 ∷ 100 ∷ 1 ∷ 8 ∷ 100 ∷ 2 ∷ [])
unfolding by_figure
thrice = refl

-- ---- the second look of findLock

-- while process 1 waits for the lock of the left sentinel, process 0 puts tray 7
unfoldable pub meanwhile : Memory → Memory
unfolding Layout.capacity Layout.joined Layout.word Layout.with_word Layout.field Layout.with_version count_trailing_zeros top_of
    Figure.key_of Figure.ref_node Figure.find Figure.find_all Figure.link Figure.create Figure.create_and_link Figure.update Figure.find_lock
    Figure.insert Figure.try_insert Figure.insert_above Figure.insert_all Figure.put_h put
meanwhile m = let after = (put alone 0 bound m 7 5 100 1).memory in if eqb m.counts.nodes 0 then after else m

-- its tray 9 goes behind it: no tray is lost, and no lock is kept
pub looked_again : words_of (put meanwhile 1 bound (fresh 2 3) 9 6 101 1).memory
    ≡ 0 ∷ 0 ∷ 5 ∷ 0 ∷ 1 ∷ replicate 11 0 ++ (7 ∷ 1 ∷ 0 ∷ 0 ∷ 2 ∷ replicate 11 0) ++ (9 ∷ 2 ∷ replicate 14 0)
    ++ (0 ∷ 0 ∷ 0 ∷ 5 ∷ 100 ∷ 0 ∷ 6 ∷ 101 ∷ 0 ∷ 0 ∷ 0 ∷ 0 ∷ [])
unfolding by_figure meanwhile
looked_again = refl
