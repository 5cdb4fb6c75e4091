-- Sweeps on the test bench: document 02's P1 in one table, beside the slips of the bench itself.
use Prim.Native.Nat.{ℕ}
use mathlib.Core.List.{List, [], ◌∷◌, ◌++◌, map}
use mathlib.Core.Path.{◌≡◌, refl}
use lib.ListN.{replicate}
use Rattle.model.specs.declared.types.Phase.{Phase}
use Rattle.model.specs.declared.types.Phase.TheVariants.{Walk, Follow}
use Rattle.model.specs.declared.types.Answer.TheVariants.{Swept, None}
use Rattle.model.specs.declared.types.Kind.TheVariants.{Scan}
use Rattle.model.specs.declared.types.Refusal.TheVariants.{NoProcess, BadKey, BadRange, Busy, Spent, Corrupt}
use Rattle.model.specs.State.{idle_process}
use Rattle.model.specs.History.{Action, step}
use Rattle.model.proofs.Bench.{start_scan, Case, call, status, inspect, tally, process, observer, ledger}
use Rattle.model.proofs.Bench.{Said, started, stands, inspected, words, keeps, lists, said, fit, case, alike_in_half, steps, put, get}
use Rattle.model.proofs.Bench.{done, on, shown, no_start, one, two, three, entry, scanned}
use Rattle.model.specs.Types.{Ok, Err, no_fault, running_status}

-- process 1 starts a scan and makes n steps
scan : (n first last : ℕ) → List Action
scan n first last = start_scan 1 first last ∷ steps n 1

-- trays 10 and 30, in 25 events
pair : List Action
pair = put 11 10 5 100 ++ put 12 30 6 100

-- the scan that a process keeps, and where it stands
scanning : (first last start : ℕ) → Phase → (level pred : ℕ) → (preds : List ℕ) → Said
scanning first last start phase level pred preds = keeps (record {
  call = record { kind = Scan; key = first; last = last; value = 0; timestamp = 0; top = 0; start = start };
  cursor = record { phase = phase; level = level; pred = pred; made = 0 };
  effect = record { answer = None; tick = 0 };
  preds = preds;
})

pub cases : List Case
cases =
    -- "10, 5, 6, 7, 9", "6 reads both ends", "17, first above last, after 6": each where the next one is due too
    case (fit 0 0 0 0) [] (call (start_scan 0 0 0)) (no_start Corrupt) ∷
    case one [] (call (start_scan 1 0 9)) (no_start NoProcess) ∷
    case one [] (call (start_scan 0 0 9)) (no_start BadKey) ∷
    case one [] (call (start_scan 0 7 18_446_744_073_709_551_615)) (no_start BadKey) ∷
    case one [] (call (start_scan 0 20 0)) (no_start BadKey) ∷
    case one [] (call (start_scan 0 18_446_744_073_709_551_615 9)) (no_start BadKey) ∷
    case one (get 0 7) (call (start_scan 0 9 8)) (no_start BadRange) ∷
    case (fit 2 3 2 1) (get 0 7) (call (start_scan 0 8 9)) (no_start Busy) ∷
    case (fit 2 3 2 1) (get 0 7) (call (start_scan 1 9 8)) (no_start BadRange) ∷
    case (fit 2 3 2 1) (get 0 7) (call (start_scan 1 8 9)) (no_start Spent) ∷
    case one [] (call (start_scan 0 1 18_446_744_073_709_551_614)) (started (Ok 1)) ∷
    case one [] (call (start_scan 0 9 9)) (started (Ok 1)) ∷
    -- "It walks as a get does to the first, but the walk's last step leaves p before the first and shows nothing.": an empty store,
    -- then a first that is held, behind another tray
    case two (scan 0 8 9) (process 1) (scanning 8 9 1 Walk 5 0 (replicate 6 0)) ∷
    case two (scan 0 8 9) (call (step 1)) (on 2) ∷
    case two (scan 5 8 9) (call (step 1)) (on 7) ∷
    case two (scan 6 8 9) (process 1) (scanning 8 9 1 Follow 0 0 (replicate 6 0)) ∷
    case two (scan 6 8 9) (call (step 1)) (done Scan Swept 0 0 1 0 8) ∷
    case two (scan 7 8 9) (process 1) (keeps idle_process) ∷
    case two (pair ++ scan 6 30 40) (call (step 1)) (on 33) ∷
    case two (pair ++ scan 7 30 40) (process 1) (scanning 30 40 26 Follow 0 1 (1 ∷ replicate 5 0)) ∷
    -- "each step that meets a tray of the span moves p there and shows": both ends are of the span
    case two (pair ++ scan 6 10 30) (call (step 1)) (shown 33 10 5 100) ∷
    case two (pair ++ scan 7 10 30) (process 1) (scanning 10 30 26 Follow 0 1 (replicate 6 0)) ∷
    case two (pair ++ scan 7 10 30) (call (step 1)) (shown 34 30 6 100) ∷
    -- "The step that meets the end or a tray past the last [..] finishes"
    case two (pair ++ scan 8 10 30) (call (step 1)) (done Scan Swept 0 0 26 0 35) ∷
    case two (pair ++ scan 7 10 29) (call (step 1)) (done Scan Swept 0 0 26 0 34) ∷
    -- one tray, held or not; a span between two trays, and one behind all
    case two (pair ++ scan 7 30 30) (call (step 1)) (shown 34 30 6 100) ∷
    case two (pair ++ scan 8 30 30) (call (step 1)) (done Scan Swept 0 0 26 0 35) ∷
    case two (pair ++ scan 7 20 20) (call (step 1)) (done Scan Swept 0 0 26 0 34) ∷
    case two (pair ++ scan 7 11 29) (call (step 1)) (done Scan Swept 0 0 26 0 34) ∷
    case two (pair ++ scan 8 31 40) (call (step 1)) (done Scan Swept 0 0 26 0 35) ∷
    -- made since: "below the first [..] moves p there"; behind p, not met; ahead of p, shown, and then the one behind it
    case three (scanned ++ steps 1 1) (process 1) (scanning 10 20 26 Follow 0 3 (replicate 6 0)) ∷
    case three (pair ++ scan 7 5 40 ++ put 11 7 8 100) (call (step 1)) (shown 46 30 6 100) ∷
    case three (pair ++ scan 7 5 40 ++ put 12 20 8 100) (call (step 1)) (shown 47 20 8 100) ∷
    case three (pair ++ scan 7 5 40 ++ put 12 20 8 100 ++ steps 1 1) (call (step 1)) (shown 48 30 6 100) ∷
    case three (pair ++ scan 7 5 40 ++ put 12 20 8 100 ++ steps 2 1) (call (step 1)) (done Scan Swept 0 0 26 0 49) ∷
    -- "newest": one that is added to a tray already shown is not shown; to one ahead, it is; one too old is not
    case two (pair ++ scan 7 10 30 ++ put 11 10 8 100) (call (step 1)) (shown 46 30 6 100) ∷
    case two (pair ++ scan 7 10 30 ++ put 12 30 8 100) (call (step 1)) (shown 47 30 8 100) ∷
    case two (pair ++ scan 7 10 30 ++ put 12 30 8 99) (call (step 1)) (shown 47 30 6 100) ∷
    -- trays alike in one half: the span from 6 to 2³² + 4, and ends that their low halves alone would turn round
    case (fit 4 4 2 400) (alike_in_half ++ scan 7 6 4_294_967_300) (call (step 1)) (shown 59 4_294_967_295 6 100) ∷
    case (fit 4 4 2 400) (alike_in_half ++ scan 8 6 4_294_967_300) (call (step 1)) (shown 60 4_294_967_296 9 100) ∷
    case (fit 4 4 2 400) (alike_in_half ++ scan 9 6 4_294_967_300) (call (step 1)) (done Scan Swept 0 0 51 0 61) ∷
    case one [] (call (start_scan 0 4_294_967_296 5)) (no_start BadRange) ∷
    -- "The sweep's effect tick is 0, no tally counts it": standing, the tally, the observer and the ledger of demand 3; "7 busy"
    case two (pair ++ scan 3 10 30) (status 1) (stands (running_status Scan 26 0)) ∷
    case two (pair ++ scan 7 10 30) (status 1) (stands (running_status Scan 26 0)) ∷
    case two (scan 7 8 9) tally (words (replicate 7 0)) ∷
    case two (pair ++ scan 9 10 30) observer (words (35 ∷ 3 ∷ 3 ∷ 0 ∷ 0 ∷ [])) ∷
    case two (pair ++ scan 9 10 30) ledger (lists (entry 10 5 100 ∷ entry 30 6 100 ∷ [])) ∷
    case two (pair ++ scan 7 10 30) inspect (inspected (Err Busy)) ∷
    case two (pair ++ scan 9 10 30) inspect (inspected no_fault) ∷
    []

-- every case says what is expected of it
pub table : map said cases ≡ map (λ (c : Case). c.expected) cases
unfolding said cases scan pair scanning
table = refl
