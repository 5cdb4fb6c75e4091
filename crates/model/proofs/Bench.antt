-- The test bench: what is lent, the actions played through the public calls from an opening, and the answer to a question,
-- computed. At the end, for each slip that document 01 wants shut out and for some of our own, a run that it gets wrong.
use Prim.Native.Nat.{ℕ, zero, suc, ◌+◌, ◌*◌}
use mathlib.Core.Bool.{true}
use mathlib.Core.Path.{◌≡◌, refl}
use mathlib.Core.List.{List, [], ◌∷◌, ◌++◌}
use lib.Count.{count_trailing_zeros}
use lib.ListN.{length, replicate, set}
use Rattle.model.specs.Types.{Opening, Starting, Stepping, Looking, Inspecting, Status, Process, Kind, Put, Get, Scan, Phase, Follow, Ok, Err, Progress, fault_at, running_status}
use Rattle.model.specs.Types.{Answer, Added, New, Found, Swept, Refusal}
use Rattle.model.specs.Layout as Layout
use Rattle.model.specs.Layout.{node_words, version_words, limits, capacity, word}
use Rattle.model.specs.Numbers.{number_of, answer_number}
use Rattle.model.specs.Map as Map
use Rattle.model.specs.Map.{Entry}
use Rattle.model.specs.State as State
use Rattle.model.specs.State.{idle_process, process_at, with_event}
use Rattle.model.specs.Phases as Phases
use Rattle.model.specs.Calls as Calls
use Rattle.model.specs.Calls.{Opened, open_of, top_of, start_of, Store, step_of, look_of, status_of}
use Rattle.model.specs.Inspection as Inspection
use Rattle.model.specs.Inspection.{inspect_of}
use Rattle.model.specs.History as History
use Rattle.model.specs.Requests as Requests
use Rattle.model.specs.History.{Action, step, look, Run, perform_all, empty_history}
use Rattle.model.specs.ByValue.{by_value}
use Rattle.model.specs.Linearizability as Linearizability
use Rattle.model.specs.Linearizability.{effects_of, map_after}
use Rattle.model.proofs.Seen as Seen
use Rattle.model.proofs.Seen.{faults_of}

abbrev pub start_put : (process key value timestamp draw : ℕ) → Action
start_put i k v t draw = History.start i (Requests.put k v t draw)

abbrev pub start_get : (process key : ℕ) → Action
start_get i k = History.start i (Requests.get k)

abbrev pub start_scan : (process first last : ℕ) → Action
start_scan i first last = History.start i (Requests.scan first last)

-- ---- a case

-- what the fitter lends and asks for: words of both tables, processes, limit; and the tally that the steps are lent
pub record Bench : Type 0 where
  pub nodes : ℕ
  pub versions : ℕ
  pub processes : ℕ
  pub limit : ℕ
  pub tally : List ℕ

-- what is asked once the actions have been played: most often, what one action more answers
pub data Question : Type 0 where
  call : Action → Question
  opening : Question
  status : (process : ℕ) → Question
  inspect : Question
  tally : Question
  tables : Question
  word_of : (node field : ℕ) → Question
  process : ℕ → Question
  top_of_lem : (draw : ℕ) → Question
  observer : Question
  ledger : Question

pub data Said : Type 0 where
  started : Starting → Said
  stepped : Stepping → Said
  looked : Looking → Said
  opened : Opening → Said
  stands : Status → Said
  inspected : Inspecting → Said
  words : List ℕ → Said
  keeps : Process → Said
  lists : List Entry → Said

-- `alter` is what somebody does to the store, behind the calls, before the question
pub record Case : Type 0 where
  pub bench : Bench
  pub actions : List Action
  pub alter : Store → Store
  pub question : Question
  pub expected : Said

-- ---- what is said in a case

-- The tables are lent full of rubbish: an opening that did not zero them would leave every lock held.
unfoldable pub open_bench : Bench → Opened
open_bench b = open_of (replicate b.nodes 77) (replicate b.versions 77) b.processes b.limit

-- the store as its opening left it, with the bench's own tally
unfoldable pub start : Bench → Opened → Run by_value
start b o = record {
  store = record { state = o.result.state; nodes = o.nodes; versions = o.versions; tally = b.tally };
  history = empty_history (record { nodes = b.nodes; versions = b.versions; processes = b.processes; limit = b.limit });
}

unfoldable pub call_of : Store → Action → Said
call_of w (History.start i op) = started (start_of w.state w.nodes w.versions i op).outcome
call_of w (step i) = stepped (step_of w i).outcome
call_of w (look k back) = looked (look_of w.state w.nodes w.versions k back)

-- the plain ledger that demand 3 sets beside the run
unfoldable pub ledger_of : Run by_value → List Entry
ledger_of r = let w = r.store in let h = r.history in
    map_after (effects_of (status_of w.state) h) (History.events_in h.entries)
    (capacity node_words (length w.nodes)) (capacity version_words (length w.versions))

unfoldable pub answer_to : Question → Opened → Run by_value → Said
answer_to (call a) o r = call_of r.store a
answer_to opening o r = opened o.result.outcome
answer_to (status i) o r = stands (status_of r.store.state i)
answer_to inspect o r = let w = r.store in inspected (inspect_of w.state w.nodes w.versions)
answer_to tally o r = words r.store.tally
answer_to tables o r = words (r.store.nodes ++ r.store.versions)
answer_to (word_of x f) o r = words (word r.store.nodes x f ∷ [])
answer_to (process i) o r = keeps (process_at r.store.state i)
answer_to (top_of_lem draw) o r = words (top_of draw ∷ [])
answer_to observer o r = let h = r.history in
    let es = h.entries in
    words (History.events_in es ∷ History.starts_in es ∷ length (History.completed_in es) ∷ length (History.queries_in es) ∷ faults_of h.processes h.limit es ∷ [])
answer_to ledger o r = lists (ledger_of r)

-- All that the calls go through is opened here, once: whoever unfolds `said` unfolds this line.
unfoldable pub said : Case → Said
unfolding open_bench start call_of ledger_of answer_to
    number_of answer_number
    capacity Layout.joined word Layout.with_word Layout.with_node Layout.fresh_nodes Layout.field Layout.with_version
    State.lawful_length State.lawful_state State.lawful_store
    Phases.ahead Phases.walked Phases.descend Phases.walk_by Phases.walk_of Phases.read_of Phases.seek_by Phases.seek_of
    Phases.show_at Phases.follow_at Phases.follow_of
    Phases.lock_of Phases.check_by Phases.check_of Phases.add_version Phases.update_node Phases.update_at Phases.update_of
    Phases.add_node Phases.make_of Phases.add_link Phases.link_of Phases.rise Phases.released Phases.freed
    Phases.release_of Phases.lawful_at Phases.lawful_process
    Phases.phase_of Phases.transition_of
    Calls.open_due Calls.open_by open_of count_trailing_zeros top_of Calls.start_permit Calls.start_by Calls.call_for start_of
    Calls.step_permit Calls.process_after Calls.outcome_of Calls.counted Calls.tally_after Calls.step_by step_of
    Calls.find_from Calls.back_from Calls.look_node Calls.look_permit Calls.look_by look_of
    Calls.standing Calls.status_permit Calls.status_by status_of
    Inspection.chain_falls Inspection.chain_ages Inspection.chain_sound Inspection.versions_sound Inspection.reaching
    Inspection.level_from Inspection.levels_from Inspection.inspection Inspection.idle_below Inspection.inspect_permit
    Inspection.inspect_by inspect_of
    History.updated History.log_of History.pending_in History.sights_in History.starts_in History.completed_in History.queries_in History.due History.perform
    perform_all Seen.saw_start Seen.saw_step Seen.saw_look Seen.saw faults_of
    Map.versions_of Map.held Map.pushed Map.put_by Map.put_in Map.get_by Map.get_from Map.applied Linearizability.completed_effects
    Linearizability.shown_effect Linearizability.running_effects effects_of Linearizability.fed_at map_after
said c =
    let o = open_bench c.bench in
    let r = perform_all (start c.bench o) c.actions in
    answer_to c.question o (record { store = c.alter r.store; history = r.history })

unfoldable pub asked : Bench → List Action → Question → Said
unfolding said
asked b actions q = said (record { bench = b; actions = actions; alter = λ w. w; question = q; expected = words [] })

-- ---- words for the cases

abbrev pub lent : (nodes versions processes limit : ℕ) → Bench
lent n v p l = record { nodes = n; versions = v; processes = p; limit = l; tally = replicate limits.tally 0 }

-- the sheet's `open`: K, V (W here, since `V` is a word of the language), processes and limit
abbrev pub fit : (K W processes limit : ℕ) → Bench
fit K W p l = lent (node_words * (K + 1)) (version_words * (W + 1)) p l

abbrev pub with_tally : Bench → List ℕ → Bench
with_tally b t = record {
  nodes = b.nodes;
  versions = b.versions;
  processes = b.processes;
  limit = b.limit;
  tally = t;
}

abbrev pub case : Bench → List Action → Question → Said → Case
case b actions q s = record { bench = b; actions = actions; alter = λ w. w; question = q; expected = s }

abbrev pub steps : (n process : ℕ) → List Action
steps n i = replicate n (step i)

-- process 0 starts a put with draw 1, or a get, and makes n steps
abbrev pub put : (n key value timestamp : ℕ) → List Action
put n k v t = start_put 0 k v t 1 ∷ steps n 0

abbrev pub get : (n key : ℕ) → List Action
get n k = start_get 0 k ∷ steps n 0

abbrev pub times : ℕ → List Action → List Action
times zero actions = []
times (suc n) actions = actions ++ times n actions

-- trays that are alike in one half: their order is 5, 2³² - 1, 2³², 2³² + 5, and they are put in another
abbrev pub alike_in_half : List Action
alike_in_half = put 11 4_294_967_301 5 100 ++ put 11 4_294_967_295 6 100 ++ put 11 5 8 100 ++ put 13 4_294_967_296 9 100

-- processes 0 and 1 start a put each and make seven steps each, in turn: walk and seek, up to the lock
abbrev pub side_by_side : (k₀ v₀ t₀ k₁ v₁ t₁ : ℕ) → List Action
side_by_side k₀ v₀ t₀ k₁ v₁ t₁ = start_put 0 k₀ v₀ t₀ 1 ∷ start_put 1 k₁ v₁ t₁ 1 ∷ steps 7 0 ++ steps 7 1

-- the sheet's lines: `done` without its station; `step .. on` and `step .. wait`; `look`; `refused`
abbrev pub done : Kind → Answer → (value timestamp start effect finish : ℕ) → Said
done kind a v t start effect finish = stepped (Ok (Progress.Finished (record {
  kind = kind;
  answer = a;
  value = v;
  timestamp = t;
  start = start;
  effect = effect;
  finish = finish;
})))

abbrev pub on : (tick : ℕ) → Said
on t = stepped (Ok (Progress.Moved t))

abbrev pub wait : (tick : ℕ) → Said
wait t = stepped (Ok (Progress.Waited t))

-- a step that shows
abbrev pub shown : (tick key value timestamp : ℕ) → Said
shown t k v s = stepped (Ok (Progress.Shown t (record { key = k; version = record { value = v; timestamp = s } })))

abbrev pub shows : (value timestamp : ℕ) → Said
shows v t = looked (Ok (record { value = v; timestamp = t }))

abbrev pub no_start : Refusal → Said
no_start r = started (Err r)

abbrev pub no_step : Refusal → Said
no_step r = stepped (Err r)

abbrev pub no_look : Refusal → Said
no_look r = looked (Err r)

-- K 2, V 3 with one process, and with two; K 3, V 5
abbrev pub one : Bench
one = fit 2 3 1 400

abbrev pub two : Bench
two = fit 2 3 2 400

abbrev pub three : Bench
three = fit 3 5 2 400

-- the top that a draw gives, and word 2 of the node that a put with this draw makes
abbrev pub draw_gives : (draw top : ℕ) → Case
draw_gives d t = case one [] (top_of_lem d) (words (t ∷ []))

abbrev pub draw_makes : (draw top : ℕ) → Case
draw_makes d t = case one (start_put 0 7 5 100 d ∷ steps 10 0) (word_of 1 2) (words (t ∷ []))

abbrev pub opens : (nodes versions processes limit : ℕ) → Opening → Case
opens n v p l o = case (lent n v p l) [] opening (opened o)

-- tray 7 put three times
abbrev pub thrice : List Action
thrice = put 11 7 5 100 ++ put 11 7 6 100 ++ put 11 7 8 101

-- trays 3, 9 and 5 of tops 5, 5 and 3: the second and third have node 1 for predecessor at every level
abbrev pub tall : List Action
tall = start_put 0 3 5 100 0 ∷ steps 36 0 ++ (start_put 0 9 6 100 0 ∷ steps 37 0) ++ (start_put 0 5 8 100 8 ∷ steps 26 0)

-- trays 3, 5 and 9 of tops 1, 0 and 3: the third has another predecessor at each of levels 0, 1 and 2
abbrev pub stairs : List Action
stairs = start_put 0 3 5 100 2 ∷ steps 16 0 ++ put 12 5 6 100 ++ (start_put 0 9 8 100 8 ∷ steps 27 0)

-- tray 3 of top 1 held; process 0 puts 9 behind it and has its level 1 lock
abbrev pub climbing : List Action
climbing = start_put 0 3 5 100 2 ∷ steps 16 0 ++ (start_put 0 9 6 101 2 ∷ steps 14 0)

-- trays 7 and 9 of top 1, both walked on an empty store; 9 goes ahead by n steps, then 7 to its end
abbrev pub overtaken : (n : ℕ) → List Action
overtaken n = start_put 0 7 5 100 2 ∷ start_put 1 9 6 101 2 ∷ steps 6 0 ++ steps 6 1 ++ steps n 1 ++ steps 10 0

-- the call that a process keeps, a put or a get, and where it stands
abbrev pub kept : Kind → (key value timestamp top start : ℕ) → Phase → (level pred made : ℕ) → Answer → (effect : ℕ)
    → (preds : List ℕ) → Said
kept kind k v t top start phase level pred made a effect preds = keeps (record {
  call = record { kind = kind; key = k; last = k; value = v; timestamp = t; top = top; start = start };
  cursor = record { phase = phase; level = level; pred = pred; made = made };
  effect = record { answer = a; tick = effect };
  preds = preds;
})

-- trays 10 and 30 held; process 1 has walked to 10 for the span 10 to 20; then tray 5 is made
abbrev pub scanned : List Action
scanned = put 11 10 5 100 ++ put 12 30 6 100 ++ (start_scan 1 10 20 ∷ steps 6 1) ++ put 11 5 8 100

-- a scan from 20 to 9 that follows
abbrev pub turned_round : Process
turned_round = record {
  call = record { kind = Scan; key = 20; last = 9; value = 0; timestamp = 0; top = 0; start = 13 };
  cursor = record { phase = Follow; level = 0; pred = 0; made = 0 };
  effect = idle_process.effect;
  preds = idle_process.preds;
}

-- trays 7 and 9 put side by side on an empty store, to the end
abbrev pub both : List Action
both = side_by_side 7 5 100 9 6 101 ++ steps 4 0 ++ steps 7 1

abbrev pub entry : (key value timestamp : ℕ) → Entry
entry k v t = record { key = k; versions = record { value = v; timestamp = t } ∷ [] }

-- process 0 has put tray 7; 1 is past the effect of its put of 9, 0 not yet at that of 3; 2 has no call. 28 events,
-- two looks, and at a limit of 28 every refusal that a start or a step can meet
abbrev pub mixed : List Action
mixed = put 11 7 5 100 ++ (start_put 1 9 6 101 1 ∷ steps 11 1) ++ (look 0 0 ∷ look 9 0 ∷ put 3 3 8 100)
    ++ (start_get 3 0 ∷ start_get 2 0 ∷ start_get 0 7 ∷ start_get 2 7 ∷ step 3 ∷ step 2 ∷ step 0 ∷ [])

-- ---- slips

-- "not reading the link again under the lock (loses a tray)": key 9 finds 7 in its way, and frees the lock
link_read_again : asked two (side_by_side 7 5 100 9 6 101 ++ steps 4 0 ++ steps 3 1) (call (step 1)) ≡ on 24
unfolding asked
link_read_again = refl

-- and is not lost
both_found : asked two (side_by_side 7 5 100 9 6 101 ++ steps 4 0 ++ steps 7 1) (call (look 7 0)) ≡ shows 5 100
unfolding asked
both_found = refl

-- "locking the tray's own node for an update, when its predecessor's lock is the right one": a put of 3 behind the same
-- predecessor waits
predecessor_locked : asked two (put 11 7 5 100 ++ side_by_side 7 6 100 3 8 100 ++ steps 1 0) (call (step 1)) ≡ wait 30
unfolding asked
predecessor_locked = refl

-- "dropping equal stamps"
equal_timestamp_added : asked one (put 11 7 5 100 ++ put 10 7 6 100) (call (step 0)) ≡ done Put Added 6 100 13 23 24
unfolding asked
equal_timestamp_added = refl

-- "linking the top level first": the key is found as soon as its put has taken effect
bottom_first : asked two (start_put 0 7 5 100 2 ∷ steps 10 0) (status 0) ≡ stands (running_status Put 1 11)
unfolding asked
bottom_first = refl

-- "ending a get in an upper level": a key of top 1 is read in the 7th step
read_at_bottom : asked one (start_put 0 7 5 100 2 ∷ steps 16 0 ++ get 5 7) (call (step 0)) ≡ on 24
unfolding asked
read_at_bottom = refl

-- "A put that says full while cells remain"
not_full : asked (fit 1 1 1 400) (put 10 7 5 100) (call (step 0)) ≡ done Put New 5 100 1 11 12
unfolding asked
not_full = refl

-- "A get that says none always"
get_finds : asked one (put 11 7 5 100 ++ get 6 7) (call (step 0)) ≡ done Get Found 5 100 13 20 20
unfolding asked
get_finds = refl

-- "Invented ticks [..]: ticks count events of the list": of a step, and of an effect
tick_counted : asked one (get 1 7) (call (step 0)) ≡ on 3
unfolding asked
tick_counted = refl

effect_ticked : asked one (put 10 7 5 100) (status 0) ≡ stands (running_status Put 1 11)
unfolding asked
effect_ticked = refl

-- "or tallies [..]: tallies its finished calls"
tally_at_end : asked one (put 10 7 5 100) tally ≡ words (replicate 7 0)
unfolding asked
tally_at_end = refl

-- "A start that always refuses"
start_accepted : asked one [] (call (start_get 0 7)) ≡ started (Ok 1)
unfolding asked
start_accepted = refl

-- an update that keeps the old newest version
newest_moved : asked one (put 11 7 5 100 ++ put 11 7 6 100) (call (look 7 0)) ≡ shows 6 100
unfolding asked
newest_moved = refl

-- a lock freed at another level than its own: a get is not held up, but the next put would wait for ever
lock_freed : asked two (start_put 0 7 5 100 2 ∷ steps 11 0 ++ (start_put 1 3 6 100 1 ∷ steps 7 1)) (call (step 1)) ≡ on 21
unfolding asked
lock_freed = refl

-- predecessors not remembered: level 1 is climbed from node 1, and not from the head by a step more
pred_remembered : asked one (start_put 0 3 5 100 2 ∷ steps 16 0 ++ (start_put 0 7 6 100 2 ∷ steps 16 0)) (call (step 0))
    ≡ done Put New 6 100 18 29 35
unfolding asked
pred_remembered = refl

-- the draw's top
top_capped : asked one [] (top_of_lem 2) ≡ words (1 ∷ [])
unfolding asked
top_capped = refl

-- P1: "A step that meets a tray below the first, made since the walk, moves p there and shows nothing."
below_passed : asked three scanned (call (step 1)) ≡ on 45
unfolding asked
below_passed = refl

-- "each step that meets a tray of the span moves p there and shows its number and newest reading": p was moved past tray 5
newest_shown : asked three (scanned ++ (step 1 ∷ []) ++ put 12 10 9 100) (call (step 1)) ≡ shown 59 10 9 100
unfolding asked
newest_shown = refl

-- "all trays from a first number to a last": the last is of the span
last_shown : asked three (put 11 10 5 100 ++ (start_scan 1 7 10 ∷ steps 6 1)) (call (step 1)) ≡ shown 20 10 5 100
unfolding asked
last_shown = refl

-- "The step that meets [..] a tray past the last [..] finishes, with answer 'swept', value 0 and stamp 0. The sweep's effect tick is 0"
swept_past_last : asked three (scanned ++ steps 2 1) (call (step 1)) ≡ done Scan Swept 0 0 26 0 47
unfolding asked
swept_past_last = refl

-- "(looked at first)": where the first was altered to lie above the last, a tray past the last ends the scan, and is not passed
last_before_first : said (record {
  bench = three;
  actions = put 11 10 5 100 ++ (start_scan 1 7 9 ∷ []);
  alter = λ w. record { state = with_event w.state 1 w.state.counts turned_round; nodes = w.nodes; versions = w.versions; tally = w.tally };
  question = call (step 1);
  expected = words [];
}) ≡ done Scan Swept 0 0 13 0 15
unfolding said
last_before_first = refl

-- "no tally counts it": three new, and no other
not_tallied : asked three (scanned ++ steps 3 1) tally ≡ words (0 ∷ 0 ∷ 0 ∷ 0 ∷ 3 ∷ 0 ∷ 0 ∷ [])
unfolding asked
not_tallied = refl

-- "a link that make or link only copies is not tested": where the head's leads to no node in use, make goes on
link_copied : said (record {
  bench = one;
  actions = put 9 7 5 100;
  alter = λ w. record { state = w.state; nodes = set w.nodes 4 2; versions = w.versions; tally = w.tally };
  question = call (step 0);
  expected = words [];
}) ≡ on 11
unfolding said
link_copied = refl

-- ---- inspections of altered memory

-- K 1, V 1: one node in use, with this link from the head, and so many versions in use
altered : (link versions : ℕ) → Inspecting
altered link versions = inspect_of
    (record {
      opened = true;
      processes = 1;
      limit = 1;
      events = 0;
      lengths = record { nodes = 32; versions = 6 };
      counts = record { nodes = 1; versions = versions };
      process = replicate 8 idle_process;
    })
    (0 ∷ 0 ∷ 5 ∷ 0 ∷ link ∷ replicate 11 0 ++ (7 ∷ versions ∷ replicate 14 0)) (replicate 6 0)

-- "fewer nodes seen than those whose top reaches it"
unlinked_node : altered 0 1 ≡ fault_at 0 0
unfolding altered Layout.joined Layout.word Layout.field Layout.capacity State.lawful_length State.lawful_state State.lawful_store
    Inspection.chain_falls Inspection.chain_ages Inspection.chain_sound Inspection.versions_sound Inspection.reaching
    Inspection.level_from Inspection.levels_from Inspection.inspection Inspection.idle_below Inspection.inspect_permit
    Inspection.inspect_by inspect_of
unlinked_node = refl

-- "a reading place that is 0 or not in use", also where no version is
no_version_lem : altered 1 0 ≡ fault_at 0 1
unfolding altered Layout.joined Layout.word Layout.field Layout.capacity State.lawful_length State.lawful_state State.lawful_store
    Inspection.chain_falls Inspection.chain_ages Inspection.chain_sound Inspection.versions_sound Inspection.reaching
    Inspection.level_from Inspection.levels_from Inspection.inspection Inspection.idle_below Inspection.inspect_permit
    Inspection.inspect_by inspect_of
no_version_lem = refl
