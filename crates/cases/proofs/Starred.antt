-- Trays on the test bench: document 01's cases in one table, proved by computing both sides.
use mathlib.Core.List.{List, [], ◌∷◌, ◌++◌, map}
use mathlib.Core.Path.{◌≡◌, refl}
use lib.ListN.{replicate}
use Rattle.model.specs.declared.types.Phase.TheVariants.{Walk, Read, Seek, Lock, Make}
use Rattle.model.specs.declared.types.Answer.TheVariants.{TooOld, VersionsFull, Added, KeysFull, New, Found, None}
use Rattle.model.specs.declared.types.Kind.TheVariants.{Put, Get}
use Rattle.model.specs.declared.types.Refusal.TheVariants.{NodeLength, VersionLength, ProcessCount, EventLimit, NoProcess, BadKey, Busy, NoCall, Spent, Corrupt, NoKey, NoVersion}
use Rattle.model.specs.State.{idle_process}
use Rattle.model.specs.History.{step, look}
use Rattle.model.proofs.Bench.{start_put, start_get, Case, call, status, inspect, tally, tables, word_of, process, observer, ledger}
use Rattle.model.proofs.Bench.{started, stands, inspected, words, keeps, lists, said, lent, fit}
use Rattle.model.proofs.Bench.{with_tally, case, alike_in_half, steps, put, get, times, side_by_side, done, on, wait, shows}
use Rattle.model.proofs.Bench.{no_start, no_step, no_look, one, two, draw_gives, draw_makes, opens, thrice}
use Rattle.model.proofs.Bench.{tall, stairs, climbing, overtaken, kept, both, entry, mixed}
use Rattle.model.specs.Types.{Ok, Err, no_fault, idle_status, running_status}

-- ---- the cases that document 01 wants proved

pub starred : List Case
starred =
    -- "Draws 1, 2, 16, 32, 32,768, 0 give tops 0, 1, 4, 5, 5, 5."
    draw_gives 1 0 ∷ draw_gives 2 1 ∷ draw_gives 16 4 ∷ draw_gives 32 5 ∷ draw_gives 32_768 5 ∷ draw_gives 0 5 ∷
    draw_makes 1 0 ∷ draw_makes 2 1 ∷ draw_makes 16 4 ∷ draw_makes 32 5 ∷ draw_makes 32_768 5 ∷ draw_makes 0 5 ∷
    -- "Empty store, get: 6 steps, none."
    case one (get 4 7) (call (step 0)) (on 6) ∷
    case one (get 5 7) (call (step 0)) (done Get None 0 0 1 7 7) ∷
    -- "Put, draw 1: 11 steps, effect in the 10th."
    case one (put 9 7 5 100) (status 0) (stands (running_status Put 1 0)) ∷
    case one (put 9 7 5 100) (call (step 0)) (on 11) ∷
    case one (put 10 7 5 100) (status 0) (stands (running_status Put 1 11)) ∷
    case one (put 10 7 5 100) (call (step 0)) (done Put New 5 100 1 11 12) ∷
    -- "Draw 8: 26 steps."
    case one (start_put 0 7 5 100 8 ∷ steps 24 0) (call (step 0)) (on 26) ∷
    case one (start_put 0 7 5 100 8 ∷ steps 25 0) (call (step 0)) (done Put New 5 100 1 11 27) ∷
    -- "Draw 0: 36."
    case one (start_put 0 7 5 100 0 ∷ steps 34 0) (call (step 0)) (on 36) ∷
    case one (start_put 0 7 5 100 0 ∷ steps 35 0) (call (step 0)) (done Put New 5 100 1 11 37) ∷
    -- "Stamp 100, then 100: added. Then 99: too old."
    case one (put 11 7 5 100 ++ put 10 7 6 100) (call (step 0)) (done Put Added 6 100 13 23 24) ∷
    case one (put 11 7 5 100 ++ put 11 7 6 100 ++ put 10 7 8 99) (call (step 0)) (done Put TooOld 8 99 25 35 36) ∷
    -- "K 1, V 1: another tray is trays full; same tray with a later stamp is readings full, with an earlier one too old."
    case (fit 1 1 1 400) (put 11 7 5 100 ++ put 11 8 6 100) (call (step 0)) (done Put KeysFull 6 100 13 24 25) ∷
    case (fit 1 1 1 400) (put 11 7 5 100 ++ put 10 7 6 101) (call (step 0)) (done Put VersionsFull 6 101 13 23 24) ∷
    case (fit 1 1 1 400) (put 11 7 5 100 ++ put 10 7 6 99) (call (step 0)) (done Put TooOld 6 99 13 23 24) ∷
    -- "Both stations seven steps into a put on an empty store, then one step of 0: the next step of 1 waits."
    case two (side_by_side 7 5 100 9 6 101 ++ steps 1 0) (call (step 1)) (wait 18) ∷
    []

-- ---- more cases: what document 01 does not star, and what nothing else pins

pub others : List Case
others =
    -- "The fitter, at open, in order: 1 node table length; 2 reading table length; 3 stations; 4 event limit."
    opens 0 0 0 0 (Err NodeLength) ∷
    opens 16 6 1 1 (Err NodeLength) ∷
    opens 40 6 1 1 (Err NodeLength) ∷
    opens 16_400 6 1 1 (Err NodeLength) ∷
    opens 32 0 0 0 (Err VersionLength) ∷
    opens 32 3 1 1 (Err VersionLength) ∷
    opens 32 8 1 1 (Err VersionLength) ∷
    opens 32 12_291 1 1 (Err VersionLength) ∷
    opens 32 6 0 0 (Err ProcessCount) ∷
    opens 32 6 9 1 (Err ProcessCount) ∷
    opens 32 6 1 0 (Err EventLimit) ∷
    opens 32 6 1 1_000_000_001 (Err EventLimit) ∷
    opens 32 6 1 1 (Ok tt) ∷
    opens 16_384 12_288 8 1_000_000_000 (Ok tt) ∷
    -- "Opening zeroes both tables and sets word 2 of node 0 to 5."; a refusal "changes no lent word"
    case (lent 32 6 1 1) [] tables (words (0 ∷ 0 ∷ 5 ∷ replicate 35 0)) ∷
    case (lent 32 6 1 0) [] tables (words (replicate 38 77)) ∷
    -- "10 closed state": before all else, in every call
    case (fit 0 0 0 0) [] (call (start_get 0 0)) (no_start Corrupt) ∷
    case (fit 0 0 0 0) [] (call (start_put 0 0 0 0 0)) (no_start Corrupt) ∷
    case (fit 0 0 0 0) [] (call (step 0)) (no_step Corrupt) ∷
    case (fit 0 0 0 0) [] (call (look 0 0)) (no_look Corrupt) ∷
    case (fit 0 0 0 0) [] inspect (inspected (Err Corrupt)) ∷
    case (fit 0 0 0 0) [] (status 0) (stands (Err Corrupt)) ∷
    -- 10 "at a step a tally of more or fewer words than there are counts"
    case (with_tally one (replicate 6 0)) (get 0 7) (call (step 0)) (no_step Corrupt) ∷
    case (with_tally one (replicate 8 0)) (get 0 7) (call (step 0)) (no_step Corrupt) ∷
    -- "Start: 10, 5, 6, 7, 9."
    case one [] (call (start_get 1 0)) (no_start NoProcess) ∷
    case one (get 0 7) (call (start_get 0 0)) (no_start BadKey) ∷
    case (fit 2 3 2 1) (get 0 7) (call (start_get 0 7)) (no_start Busy) ∷
    case (fit 2 3 2 1) (get 0 7) (call (start_get 1 7)) (no_start Spent) ∷
    -- "Tray 1 and 4,294,967,294 start."; P3: "Trays run from 1 to 18,446,744,073,709,551,614, and refusal 6 reads that range."
    case one [] (call (start_put 0 0 5 100 1)) (no_start BadKey) ∷
    case one [] (call (start_put 0 1 5 100 1)) (started (Ok 1)) ∷
    case one [] (call (start_put 0 4_294_967_294 5 100 1)) (started (Ok 1)) ∷
    case one [] (call (start_put 0 4_294_967_295 5 100 1)) (started (Ok 1)) ∷
    case one [] (call (start_put 0 18_446_744_073_709_551_614 5 100 1)) (started (Ok 1)) ∷
    case one [] (call (start_put 0 18_446_744_073_709_551_615 5 100 1)) (no_start BadKey) ∷
    case one [] (call (start_get 0 1)) (started (Ok 1)) ∷
    case one [] (call (start_get 0 4_294_967_295)) (started (Ok 1)) ∷
    case one [] (call (start_get 0 18_446_744_073_709_551_614)) (started (Ok 1)) ∷
    case one [] (call (start_get 0 18_446_744_073_709_551_615)) (no_start BadKey) ∷
    -- "Step: 10, 5, 8, 9, 11."; "Limit 1: the start is tick 1, the step is refused 9."
    case one [] (call (step 1)) (no_step NoProcess) ∷
    case (fit 2 3 2 1) (get 0 7) (call (step 1)) (no_step NoCall) ∷
    case (fit 2 3 1 1) [] (call (start_get 0 7)) (started (Ok 1)) ∷
    case (fit 2 3 1 1) (get 0 7) (call (step 0)) (no_step Spent) ∷
    -- the words of both tables: one node of top 1 and its version, idle; the lock of process 1, "station number plus 1";
    -- a second version, whose previous place is 1; and three nodes, twice, linked at several levels
    case (fit 1 1 1 400) (start_put 0 7 5 100 2 ∷ steps 16 0) tables
    (words (0 ∷ 0 ∷ 5 ∷ 0 ∷ 1 ∷ 1 ∷ replicate 10 0 ++ (7 ∷ 1 ∷ 1 ∷ replicate 16 0) ++ (5 ∷ 100 ∷ 0 ∷ []))) ∷
    case (fit 1 1 2 400) (start_put 1 7 5 100 2 ∷ steps 8 1) tables
    (words (0 ∷ 0 ∷ 5 ∷ replicate 7 0 ++ (2 ∷ replicate 27 0))) ∷
    case (fit 1 2 1 400) (put 11 7 5 100 ++ put 11 7 6 100) tables
    (words (0 ∷ 0 ∷ 5 ∷ 0 ∷ 1 ∷ replicate 11 0 ++ (7 ∷ 2 ∷ replicate 17 0) ++ (5 ∷ 100 ∷ 0 ∷ 6 ∷ 100 ∷ 1 ∷ []))) ∷
    -- P3: "Word 3 of a node takes the high half": the greatest tray, and trays alike in one half in the order of the whole number
    case (fit 1 1 1 400) (put 11 18_446_744_073_709_551_614 5 100) tables
    (words (0 ∷ 0 ∷ 5 ∷ 0 ∷ 1 ∷ replicate 11 0
    ++ (4_294_967_294 ∷ 1 ∷ 0 ∷ 4_294_967_295 ∷ replicate 15 0) ++ (5 ∷ 100 ∷ 0 ∷ []))) ∷
    case (fit 4 4 1 400) alike_in_half tables
    (words (0 ∷ 0 ∷ 5 ∷ 0 ∷ 3 ∷ replicate 11 0
    ++ (5 ∷ 1 ∷ 0 ∷ 1 ∷ 0 ∷ replicate 11 0) ++ (4_294_967_295 ∷ 2 ∷ 0 ∷ 0 ∷ 4 ∷ replicate 11 0)
    ++ (5 ∷ 3 ∷ 0 ∷ 0 ∷ 2 ∷ replicate 11 0) ++ (0 ∷ 4 ∷ 0 ∷ 1 ∷ 1 ∷ replicate 11 0)
    ++ (0 ∷ 0 ∷ 0 ∷ 5 ∷ 100 ∷ 0 ∷ 6 ∷ 100 ∷ 0 ∷ 8 ∷ 100 ∷ 0 ∷ 9 ∷ 100 ∷ 0 ∷ []))) ∷
    case (fit 4 4 1 400) (alike_in_half ++ get 8 4_294_967_296) (call (step 0)) (done Get Found 9 100 51 60 60) ∷
    case (fit 4 4 1 400) (alike_in_half ++ get 8 4_294_967_300) (call (step 0)) (done Get None 0 0 51 60 60) ∷
    case (fit 4 4 1 400) alike_in_half (call (look 5 0)) (shows 8 100) ∷
    case (fit 4 4 1 400) alike_in_half (call (look 4_294_967_301 0)) (shows 5 100) ∷
    case (fit 4 4 1 400) alike_in_half (call (look 8_589_934_597 0)) (no_look NoKey) ∷
    case (fit 4 4 1 400) alike_in_half inspect (inspected no_fault) ∷
    -- a long tray in a call, in the ledger, put again, and linked on every level
    case one (put 0 4_294_967_301 5 100) (process 0) (kept Put 4_294_967_301 5 100 0 1 Walk 5 0 0 None 0 (replicate 6 0)) ∷
    case one (put 11 4_294_967_301 5 100) ledger (lists (entry 4_294_967_301 5 100 ∷ [])) ∷
    case one (put 11 4_294_967_301 5 100 ++ put 10 4_294_967_301 6 100) (call (step 0)) (done Put Added 6 100 13 23 24) ∷
    case one (put 11 4_294_967_301 5 100 ++ put 10 4_294_967_301 6 99) (call (step 0)) (done Put TooOld 6 99 13 23 24) ∷
    case one (start_put 0 4_294_967_301 5 100 0 ∷ steps 35 0) (call (step 0)) (done Put New 5 100 1 11 37) ∷
    case one (start_put 0 4_294_967_301 5 100 0 ∷ steps 36 0 ++ put 11 5 6 100) inspect (inspected no_fault) ∷
    case (fit 3 3 1 400) (tall ++ steps 1 0) tables (words (
    0 ∷ 0 ∷ 5 ∷ 0 ∷ 1 ∷ 1 ∷ 1 ∷ 1 ∷ 1 ∷ 1 ∷ replicate 6 0
    ++ (3 ∷ 1 ∷ 5 ∷ 0 ∷ 3 ∷ 3 ∷ 3 ∷ 3 ∷ 2 ∷ 2 ∷ replicate 6 0)
    ++ (9 ∷ 2 ∷ 5 ∷ replicate 13 0)
    ++ (5 ∷ 3 ∷ 3 ∷ 0 ∷ 2 ∷ 2 ∷ 2 ∷ 2 ∷ replicate 8 0)
    ++ (0 ∷ 0 ∷ 0 ∷ 5 ∷ 100 ∷ 0 ∷ 6 ∷ 100 ∷ 0 ∷ 8 ∷ 100 ∷ 0 ∷ []))) ∷
    case (fit 3 3 1 400) tall (call (step 0)) (done Put New 8 100 76 87 103) ∷
    case (fit 3 3 1 400) (stairs ++ steps 1 0) tables (words (
    0 ∷ 0 ∷ 5 ∷ 0 ∷ 1 ∷ 1 ∷ 3 ∷ 3 ∷ replicate 8 0
    ++ (3 ∷ 1 ∷ 1 ∷ 0 ∷ 2 ∷ 3 ∷ replicate 10 0)
    ++ (5 ∷ 2 ∷ 0 ∷ 0 ∷ 3 ∷ replicate 11 0)
    ++ (9 ∷ 3 ∷ 3 ∷ replicate 13 0)
    ++ (0 ∷ 0 ∷ 0 ∷ 5 ∷ 100 ∷ 0 ∷ 6 ∷ 100 ∷ 0 ∷ 8 ∷ 100 ∷ 0 ∷ []))) ∷
    case (fit 3 3 1 400) stairs (call (step 0)) (done Put New 8 100 31 43 59) ∷
    -- what "the station keeps": at the start; with nodes passed, remembered and made; on the way to read; after its end
    case one (get 0 7) (process 0) (kept Get 7 0 0 0 1 Walk 5 0 0 None 0 (replicate 6 0)) ∷
    case one (put 0 7 5 100) (process 0) (kept Put 7 5 100 0 1 Walk 5 0 0 None 0 (replicate 6 0)) ∷
    case (fit 3 3 2 400) (start_put 0 3 5 100 2 ∷ steps 16 0 ++ put 5 9 6 101) (process 0)
    (kept Put 9 6 101 0 18 Walk 1 1 0 None 0 (replicate 6 0)) ∷
    case (fit 3 3 2 400) (start_put 0 3 5 100 2 ∷ steps 16 0 ++ put 7 9 6 101) (process 0)
    (kept Put 9 6 101 0 18 Seek 0 1 0 None 0 (1 ∷ 1 ∷ replicate 4 0)) ∷
    case (fit 3 3 2 400) (start_put 0 3 5 100 2 ∷ steps 16 0 ++ (start_put 0 9 6 101 2 ∷ steps 13 0)) (process 0)
    (kept Put 9 6 101 1 18 Lock 1 1 2 New 29 (1 ∷ 1 ∷ replicate 4 0)) ∷
    case one (put 11 3 5 100 ++ put 12 7 6 100 ++ get 7 7) (process 0)
    (kept Get 7 0 0 0 26 Read 0 2 0 None 0 (1 ∷ replicate 5 0)) ∷
    case (fit 3 3 1 400) (put 11 3 5 100 ++ put 12 5 6 100 ++ put 7 9 8 100) (process 0)
    (kept Put 9 8 100 0 26 Walk 0 2 0 None 0 (replicate 6 0)) ∷
    case two (start_put 0 7 5 100 1 ∷ start_put 1 9 6 101 1 ∷ steps 6 0 ++ steps 6 1 ++ steps 5 0 ++ steps 4 1) (process 1)
    (kept Put 9 6 101 0 2 Make 0 1 0 None 0 (replicate 6 0)) ∷
    case one (put 11 7 5 100) (process 0) (keeps idle_process) ∷
    -- a tray behind another: gets, and an update that leaves the other alone
    case one (put 11 3 5 100 ++ put 12 7 6 100 ++ get 7 7) (call (step 0)) (done Get Found 6 100 26 34 34) ∷
    case one (put 11 3 5 100 ++ put 12 7 6 100 ++ get 6 5) (call (step 0)) (done Get None 0 0 26 33 33) ∷
    case one (put 11 3 5 100 ++ put 12 7 6 100 ++ put 12 7 8 101) (call (look 7 0)) (shows 8 101) ∷
    case one (put 11 3 5 100 ++ put 12 7 6 100 ++ put 12 7 8 101) (call (look 3 0)) (shows 5 100) ∷
    -- "Where the tray has no list: [..] else V readings held, readings full"
    case (fit 2 1 1 400) (put 11 7 5 100 ++ put 11 8 6 100) (call (step 0)) (done Put VersionsFull 6 100 13 24 25) ∷
    -- "A put that was new and has L below its top": no other put climbs, whatever its draw
    case one (put 11 7 5 100 ++ (start_put 0 7 6 100 0 ∷ steps 10 0)) (call (step 0)) (done Put Added 6 100 13 23 24) ∷
    case one (put 11 7 5 100 ++ (start_put 0 7 6 99 0 ∷ steps 10 0)) (call (step 0)) (done Put TooOld 6 99 13 23 24) ∷
    case (fit 1 1 1 400) (put 11 7 5 100 ++ (start_put 0 7 6 101 0 ∷ steps 10 0)) (call (step 0))
    (done Put VersionsFull 6 101 13 23 24) ∷
    case (fit 1 1 1 400) (put 11 7 5 100 ++ (start_put 0 8 6 100 0 ∷ steps 11 0)) (call (step 0))
    (done Put KeysFull 6 100 13 24 25) ∷
    -- a wait for the lock of another node than the head, above level 0
    case (fit 3 3 2 400) climbing (word_of 1 11) (words (1 ∷ [])) ∷
    case (fit 3 3 2 400) (climbing ++ (start_put 1 7 8 102 2 ∷ steps 13 1)) (call (step 1)) (wait 47) ∷
    -- "Seek: before: p moves along.", at level 0 and above it
    case two (start_put 0 7 5 100 1 ∷ start_put 1 9 6 101 1 ∷ steps 6 0 ++ steps 6 1 ++ steps 5 0 ++ steps 5 1)
    (call (step 1)) (done Put New 6 101 2 24 25) ∷
    case two (overtaken 5 ++ steps 5 1) (call (step 1)) (done Put New 6 101 2 18 35) ∷
    case two (overtaken 5 ++ steps 6 1) inspect (inspected no_fault) ∷
    -- "Check: before: free the lock, p moves along, go to seek.", above level 0
    case two (overtaken 6 ++ steps 6 1) (call (step 1)) (done Put New 6 101 2 18 37) ∷
    case two (overtaken 6 ++ steps 7 1) inspect (inspected no_fault) ∷
    -- "Two puts of one new tray: one new, one added or too old": the second finds the tray under the lock
    case two (side_by_side 7 5 100 7 6 99 ++ steps 3 0) (call (step 0)) (done Put New 5 100 1 19 20) ∷
    case two (side_by_side 7 5 100 7 6 99 ++ steps 4 0 ++ steps 3 1) (call (step 1)) (done Put TooOld 6 99 2 23 24) ∷
    case two (side_by_side 7 5 100 7 6 100 ++ steps 4 0 ++ steps 3 1) (call (step 1)) (done Put Added 6 100 2 23 24) ∷
    -- slip "not reading the link again under the lock (loses a tray)": tray 9 finds 7 in its way, and goes behind it
    case two (side_by_side 7 5 100 9 6 101 ++ steps 4 0 ++ steps 6 1) (call (step 1)) (done Put New 6 101 2 26 27) ∷
    case two both inspect (inspected no_fault) ∷
    case two both (call (look 7 0)) (shows 5 100) ∷
    case two both (call (look 9 0)) (shows 6 101) ∷
    -- slip "locking the tray's own node for an update, when its predecessor's lock is the right one"
    case two (put 11 7 5 100 ++ side_by_side 7 6 100 3 8 100 ++ steps 1 0) (call (step 1)) (wait 30) ∷
    -- slip "linking the top level first": the tray is found as soon as its put has taken effect
    case two (start_put 0 7 5 100 0 ∷ steps 10 0 ++ (start_get 1 7 ∷ steps 6 1)) (call (step 1))
    (done Get Found 5 100 12 19 19) ∷
    -- slip "ending a get in an upper level": a tray of top 5 is read in the 7th step
    case one (start_put 0 7 5 100 0 ∷ steps 36 0 ++ get 5 7) (call (step 0)) (on 44) ∷
    case one (start_put 0 7 5 100 0 ∷ steps 36 0 ++ get 6 7) (call (step 0)) (done Get Found 5 100 38 45 45) ∷
    -- the last line of the sheet that document 01 prints; "Look: 10, 6, 12, 11, 13", and the older versions
    case (fit 2 3 1 40) (get 6 7) (call (look 7 0)) (no_look NoKey) ∷
    case one [] (call (look 0 0)) (no_look BadKey) ∷
    case one [] (call (look 18_446_744_073_709_551_614 0)) (no_look NoKey) ∷
    case one [] (call (look 18_446_744_073_709_551_615 0)) (no_look BadKey) ∷
    case one thrice (call (look 7 0)) (shows 8 101) ∷
    case one thrice (call (look 7 1)) (shows 6 100) ∷
    case one thrice (call (look 7 2)) (shows 5 100) ∷
    case one thrice (call (look 7 3)) (no_look NoVersion) ∷
    -- "A station's standing is idle, or kind, start tick and effect tick (0 before effect)."
    case one [] (status 0) (stands idle_status) ∷
    case one (put 11 7 5 100) (status 0) (stands idle_status) ∷
    case one (get 5 7) (status 0) (stands (running_status Get 1 0)) ∷
    case one [] (status 1) (stands (Err NoProcess)) ∷
    -- "Inspection: 10, 7."
    case one [] inspect (inspected no_fault) ∷
    case one (put 11 7 5 100 ++ (start_put 0 3 6 100 8 ∷ steps 26 0) ++ put 12 7 6 100) inspect
    (inspected no_fault) ∷
    case two (get 6 7 ++ (start_get 1 7 ∷ [])) inspect (inspected (Err Busy)) ∷
    -- "There are seven counts, one an answer.", in the ledger's order: 5 too old, 4 readings full, 3 added, 2 trays full,
    -- 1 new, 6 found, 7 none
    case (fit 1 4 1 400)
    (times 7 (get 6 7) ++ times 4 (put 11 7 5 100) ++ times 4 (put 11 7 5 101) ++ times 5 (put 11 7 5 99)
    ++ times 2 (put 12 8 5 100) ++ times 6 (get 7 7))
    tally (words (5 ∷ 4 ∷ 3 ∷ 2 ∷ 1 ∷ 6 ∷ 7 ∷ [])) ∷
    -- "a count at 4,294,967,295 stays"
    case (with_tally one (replicate 6 0 ++ (4_294_967_294 ∷ []))) (get 6 7) tally
    (words (replicate 6 0 ++ (4_294_967_295 ∷ []))) ∷
    case (with_tally one (replicate 6 0 ++ (4_294_967_295 ∷ []))) (get 6 7) tally
    (words (replicate 6 0 ++ (4_294_967_295 ∷ []))) ∷
    -- what the observer of demand 3 writes down: 28 events, 3 starts, 1 finished call, 2 looks, no fault; and the ledger
    -- fed with the two calls that took effect
    case (fit 2 3 3 28) mixed observer (words (28 ∷ 3 ∷ 1 ∷ 2 ∷ 0 ∷ [])) ∷
    case (fit 2 3 3 28) mixed ledger (lists (entry 7 5 100 ∷ entry 9 6 101 ∷ [])) ∷
    []

-- ---- the table

pub cases : List Case
unfolding starred others
cases = starred ++ others

-- every case says what is expected of it
pub table : map said cases ≡ map (λ (c : Case). c.expected) cases
unfolding said cases
table = refl
