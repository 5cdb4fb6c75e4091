-- The state as words, and words as a state: the head, then eight processes of twenty-one words each.
use Rattle.std.specs.Prelude.{ℕ, zero, suc, ◌+◌, ◌*◌, Bool, true, false, ◌&&◌, List, [], ◌∷◌, ◌++◌, eqb, leb, length, get_or, set, take, drop}
use Rattle.std.proofs.lemmas.List.Edits.{sets}
use Rattle.model.specs.declared.types.Counts.{Counts}
use Rattle.model.specs.declared.types.State.{State}
use Rattle.model.specs.declared.types.Process.{Process}
use Rattle.std.specs.Prelude.{if◌then◌else◌}
use Rattle.model.specs.Layout.{limits}
use Rattle.model.specs.State.{process_at}
use Rattle.layout.specs.Head.{bit, header_offsets, header_of, head_offsets, head_at}
use Rattle.process.specs.ProcessWords.{sizes, process_words, process_from, known_process}

-- ---- encode

unfoldable pub all_words : List Process → List ℕ
all_words [] = []
all_words (p ∷ ps) = process_words p ++ all_words ps

abbrev pub head_words : State → List ℕ
head_words s = sizes.version ∷ header_of s

unfoldable pub state_words : State → List ℕ
state_words s = head_words s ++ all_words s.process

-- ---- decode

unfoldable pub all_from : (n : ℕ) → List ℕ → List Process
all_from zero w = []
all_from (suc n) w = process_from (take sizes.process w) ∷ all_from n (drop sizes.process w)

unfoldable pub state_from : List ℕ → State
state_from w = record {
  opened = eqb (get_or w (head_at header_offsets.opened) 0) (bit true);
  processes = get_or w (head_at header_offsets.processes) 0;
  limit = get_or w (head_at header_offsets.limit) 0;
  events = get_or w (head_at header_offsets.events) 0;
  lengths = record {
    nodes = get_or w (head_at header_offsets.nodelength) 0;
    versions = get_or w (head_at header_offsets.versionlength) 0;
  };
  counts = record {
    nodes = get_or w (head_at header_offsets.nodes) 0;
    versions = get_or w (head_at header_offsets.versions) 0;
  };
  process = all_from limits.processes (drop sizes.head w);
}

-- ---- words that are a state

unfoldable pub all_known : (n : ℕ) → List ℕ → Bool
all_known zero w = true
all_known (suc n) w = if known_process (take sizes.process w) then all_known n (drop sizes.process w) else false

-- the layout's own number in a state of the right length, open or not
abbrev pub known_head : List ℕ → Bool
known_head w =
    eqb (length w) sizes.state && eqb (get_or w head_offsets.version 0) sizes.version
    && leb (get_or w (head_at header_offsets.opened) 0) (bit true)

-- the head and the processes below n are a state's; past the last there are no words
unfoldable pub is_state_below : List ℕ → (n : ℕ) → Bool
is_state_below w n = known_head w && all_known n (drop sizes.head w)

-- and so are all eight
abbrev pub is_state : List ℕ → Bool
is_state w = is_state_below w limits.processes

-- ---- one process of a state

-- where a process begins, and its words
abbrev pub start_of : ℕ → ℕ
start_of i = sizes.head + sizes.process * i

abbrev pub part : List ℕ → ℕ → List ℕ
part w i = take sizes.process (drop (start_of i) w)

-- the head and process i are a state's: no more is read at a start, a step or a standing of it
unfoldable pub is_state_at : List ℕ → ℕ → Bool
is_state_at w i = known_head w && known_process (part w i)

-- an event's tick and the counts that it leaves, written over
abbrev pub put_event : List ℕ → (tick : ℕ) → Counts → List ℕ
put_event w tick counts =
    set (set (set w (head_at header_offsets.events) tick) (head_at header_offsets.nodes) counts.nodes)
    (head_at header_offsets.versions) counts.versions

-- the words after an event of process i: that process, its events and counts are written over
unfoldable pub written : List ℕ → ℕ → State → List ℕ
written w i s = put_event (sets w (start_of i) (process_words (process_at s i))) s.events s.counts
