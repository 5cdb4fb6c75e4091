-- The state: a process without a call, the states that opening gives, and refusal 10.
use Rattle.std.specs.Prelude.{ℕ, suc, ◌+◌, ◌*◌, ◌%◌, Bool, true, false, ◌&&◌, List, [], leb, eqb, length, get_or, set, replicate}
use Rattle.model.specs.Types.{Idle, Walk, Answer, TooOld, None, Process, Lengths, Counts, State}
use Rattle.model.specs.Layout.{node_words, version_words, levels, limits, capacity, Memory}

-- a process without a call; what document 01 does not name of it is 0
abbrev pub empty_process : Answer → (preds : List ℕ) → Process
empty_process a preds = record {
  call = record { kind = Idle; key = 0; last = 0; value = 0; timestamp = 0; top = 0; start = 0 };
  cursor = record { phase = Walk; level = 0; pred = 0; made = 0 };
  effect = record { answer = a; tick = 0 };
  preds = preds;
}

-- "(before it, none and 0)"
abbrev pub idle_process : Process
idle_process = empty_process None (replicate levels 0)

-- what an index past the array's end would read; no call reads there
abbrev pub no_process : Process
no_process = empty_process TooOld []

abbrev pub process_at : State → ℕ → Process
process_at s i = get_or s.process i no_process

-- a state without events, nodes, versions and calls
abbrev pub empty_state : (opened : Bool) (processes limit : ℕ) → Lengths → State
empty_state opened processes limit lengths = record {
  opened = opened;
  processes = processes;
  limit = limit;
  events = 0;
  lengths = lengths;
  counts = record { nodes = 0; versions = 0 };
  process = replicate limits.processes idle_process;
}

abbrev pub fresh_state : (processes limit : ℕ) → Lengths → State
fresh_state processes limit lengths = empty_state true processes limit lengths

-- "He gets a closed state."
abbrev pub closed_state : State
closed_state = empty_state false 0 0 (record { nodes = 0; versions = 0 })

-- one event more: the counts in use and the process that it leaves
abbrev pub with_event : State → ℕ → Counts → Process → State
with_event s i counts p = record {
  opened = s.opened;
  processes = s.processes;
  limit = s.limit;
  events = s.events + 1;
  lengths = s.lengths;
  counts = counts;
  process = set s.process i p;
}

abbrev pub memory_of : State → (nodes versions : List ℕ) → Memory
memory_of s nodes versions = record { nodes = nodes; versions = versions; counts = s.counts }

-- ---- what is within the limits

abbrev pub within : (low high n : ℕ) → Bool
within low high n = leb low n && leb n high

-- "Node table: a multiple of 16 words, 32 to 16,384"; "Reading table: a multiple of 3 words, 6 to 12,288"
unfoldable pub lawful_length : (words most n : ℕ) → Bool
lawful_length words most n = within (2 * words) (words * suc most) n && eqb (n % words) 0

abbrev pub lawful_nodes : ℕ → Bool
lawful_nodes n = lawful_length node_words limits.nodes n

abbrev pub lawful_versions : ℕ → Bool
lawful_versions n = lawful_length version_words limits.versions n

-- P3: "Trays run from 1 to 18,446,744,073,709,551,614, and refusal 6 reads that range"
abbrev pub lawful_key : ℕ → Bool
lawful_key k = within 1 limits.key k

-- "10 closed state, or its stations, limit, counts in use or table lengths outside the limits above [..], or events
-- above the limit": the part that reads the state alone
unfoldable pub lawful_state : State → Bool
lawful_state s =
    s.opened && within 1 limits.processes s.processes && within 1 limits.events s.limit && leb s.events s.limit
    && lawful_nodes s.lengths.nodes && lawful_versions s.lengths.versions
    && leb s.counts.nodes (capacity node_words s.lengths.nodes)
    && leb s.counts.versions (capacity version_words s.lengths.versions)

-- "or unlike the tables lent"
unfoldable pub lawful_store : State → (nodes versions : List ℕ) → Bool
lawful_store s nodes versions =
    lawful_state s && eqb (length nodes) s.lengths.nodes && eqb (length versions) s.lengths.versions
