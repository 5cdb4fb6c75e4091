-- Between two opens a sheet is a list of demand 3: command by command it leaves the session, and prints the lines, of the
-- list's run.
use Prim.Native.Nat.{ℕ}
use mathlib.Core.Bool.{false, ◌||◌}
use mathlib.Core.List.{List, [], ◌∷◌, ◌++◌, append_assoc, append-nil}
use mathlib.Core.Path.{◌≡◌, refl, sym, ap, subst, ◌∙◌}
use native.Mathlib.Omega.{arith}
use lib.ListN.{length, replicate}
use Rattle.model.specs.Calls.{open_by, open_of}
use Rattle.model.specs.System.{opened, view_of}
use Rattle.model.specs.ByValue.{opens_by}
use Rattle.model.specs.History.{Action, Observation, stepped, History, empty_history, Run, perform, perform_all, begin}
use Rattle.model.specs.Linearizability.{Claim, EffectsStay}
use Rattle.model.proofs.Tests.{if-by}
use Rattle.buffers.specs.Session.{Session, Done, opened_on, open_on, call_on}
use Rattle.executor.specs.Perform.{opens, perform_of, AllDone, performed_all}
use Rattle.interpreter.specs.Sheet.{sheet_of}
use Rattle.transcript.specs.Types.{Command, Open, Put, Get, Step, Look, Inspect, Line, Refusal, NotOpen, Permit, Ok, Err, Stepping}
use Rattle.transcript.specs.Meanings.{open_meant}
use Rattle.transcript.specs.BySheet.{BufferLengths, Asked, fitting_for, by_sheet}
use Rattle.transcript.specs.Sheets.{Reached, NoOpen, action_in, actions_in, entry_in, entries_in, run_of}
use Rattle.transcript.specs.Sheets.{BetweenOpens, SheetLinearizable}
use Rattle.transcript.proofs.Lengths.{lengths_stay}
use Rattle.transcript.proofs.Meanings.{line_again}
use Rattle.transcript.proofs.BySheet.{first_lengths, performs_open, linearizable}
use Rattle.transcript.proofs.Plain.{Plain, stays_plain, step_told_lem, opens_plain}

-- ---- a list's run

-- looks and inspections leave the session
look_leaves : (w : Session) (k back : ℕ) → (perform_of w (Look k back)).session ≡ w
unfolding perform_of call_on
look_leaves w k back = if-by (λ (d : Done). d.session ≡ w) (w.state.opened || false) (λ t. refl) (λ t. refl)

inspect_leaves : (w : Session) → (perform_of w Inspect).session ≡ w
unfolding perform_of call_on
inspect_leaves w = if-by (λ (d : Done). d.session ≡ w) (w.state.opened || false) (λ t. refl) (λ t. refl)

abbrev run : Session → History → Run by_sheet
run w h = record { store = w; history = h }

-- entries more, the newest first
abbrev with_entries : History → List Observation → History
with_entries h es = record { processes = h.processes; limit = h.limit; entries = es ++ h.entries }

-- what is seen of a command
abbrev seen_of : Session → Command → List Observation
seen_of w c = entry_in c (perform_of w c).line

-- a command is one action, or none
acts : (w : Session) (h : History) (c : Command) → opens c ≡ false → Plain w.state → (rest : List Action)
    → perform_all (run w h) (action_in c ++ rest) ≡ perform_all (run (perform_of w c).session (with_entries h (seen_of w c))) rest
unfolding perform_all perform
acts w h (Open k v p limit) no-open q rest = cc
acts w h (Put i k v t draw) no-open q rest = refl
acts w h (Get i k) no-open q rest = refl
acts w h (Step i) no-open q rest =
    ap (λ (o : Stepping). perform_all (run (perform_of w (Step i)).session (with_entries h (stepped i o ∷ []))) rest) (sym (step_told_lem w q i))
acts w h (Look k back) no-open q rest =
    ap (λ (x : Session). perform_all (run x (with_entries h (seen_of w (Look k back)))) rest) (sym (look_leaves w k back))
acts w h Inspect no-open q rest = ap (λ (x : Session). perform_all (run x h) rest) (sym (inspect_leaves w))

-- what commands add to what was seen before them
abbrev seen_in : Session → History → List Command → Run by_sheet
seen_in w h commands = let r = performed_all w commands in run r.session (with_entries h (entries_in commands r.lines))

plays : (w : Session) (h : History) (commands : List Command) → NoOpen commands → Plain w.state
    → perform_all (run w h) (actions_in commands) ≡ seen_in w h commands
unfolding perform_all performed_all actions_in entries_in
plays w h [] no-open q = refl
plays w h (c ∷ rest) no-open q =
    let d = perform_of w c in
    let r = performed_all d.session rest in
    acts w h c no-open.0 q (actions_in rest)
    ∙ plays d.session (with_entries h (seen_of w c)) rest no-open.1 (stays_plain w c no-open.0 q)
    ∙ ap (λ (es : List Observation). run r.session (record { processes = h.processes; limit = h.limit; entries = es }))
    (sym (append_assoc (entries_in rest r.lines) (seen_of w c) h.entries))

-- ---- after an accepted open

actions_append : (commands more : List Command) → actions_in (commands ++ more) ≡ actions_in commands ++ actions_in more
unfolding actions_in
actions_append [] more = refl
actions_append (c ∷ rest) more =
    ap (λ (a : List Action). action_in c ++ a) (actions_append rest more)
    ∙ sym (append_assoc (action_in c) (actions_in rest) (actions_in more))

no_open_append : (commands more : List Command) → NoOpen commands → NoOpen more → NoOpen (commands ++ more)
no_open_append [] more no-open no_more = no_more
no_open_append (c ∷ rest) more no-open no_more = (no-open.0, no_open_append rest more no-open.1 no_more)

-- a sheet comes only to buffers of the lent lengths
lengths_now : (w : Session) → Reached w → BufferLengths w
lengths_now w r = subst BufferLengths r.left (lengths_stay r.first r.earlier r.lengths)

module _ (w : Session) (reached : Reached w) (k v p limit : ℕ) where
  abbrev asked : Asked
  asked = record { before = w; lengths = lengths_now w reached; keys = k; versions = v; processes = p; limit = limit }

  module _ (accepted : (perform_of w (Open k v p limit)).line ≡ Line.Opened k v p limit) where
    abbrev now : Session
    now = (perform_of w (Open k v p limit)).session

    is_fresh : by_sheet.fresh asked ≡ opened now
    is_fresh = ap (λ (l : Line). opens_by (open_meant l) now) accepted

    abbrev seen : List Command → Run by_sheet
    seen commands = run_of p limit commands (performed_all now commands)

    runs : (commands : List Command) → NoOpen commands
        → perform_all (begin by_sheet asked now) (actions_in commands) ≡ seen commands
    runs commands no-open =
        plays now (empty_history (fitting_for k v p limit)) commands no-open (opens_plain w k v p limit accepted)
        ∙ ap (λ (es : List Observation). run (seen commands).store (record { processes = p; limit = limit; entries = es }))
        (append-nil (seen commands).history.entries)

    between_opens : (commands : List Command) → NoOpen commands → BetweenOpens now k v p limit commands
    between_opens commands no-open = record {
      such_list = runs commands no-open;
      claim = subst (λ (r : Run by_sheet). Claim k v (view_of by_sheet r.store) r.history) (runs commands no-open)
          (linearizable.claim asked now is_fresh k v (omega arith) (omega arith) (actions_in commands));
      effects_stay = λ more no_more.
          (let r = begin by_sheet asked now in
          subst (λ (x : Run by_sheet). EffectsStay x (seen (commands ++ more))) (runs commands no-open)
          (subst (λ (x : Run by_sheet). EffectsStay (perform_all r (actions_in commands)) x)
          (ap (perform_all r) (sym (actions_append commands more))
          ∙ runs (commands ++ more) (no_open_append commands more no-open no_more))
          (linearizable.effects_stay asked now is_fresh (actions_in commands) (actions_in more))));
    }

-- ---- after a refused open

module _ (w : Session) (k v p limit : ℕ) (r : Refusal) where
  closed_by : (d : Permit) (nodes versions : List ℕ) → let o = opened_on w k v p limit (open_by d nodes versions p limit) in
      o.line ≡ Line.Refused r → o.session.state.opened ≡ false
  unfolding open_by
  closed_by (Err q) nodes versions e = refl
  closed_by (Ok _) nodes versions e = cc

  closes : (open_on w k v p limit).line ≡ Line.Refused r → (open_on w k v p limit).session.state.opened ≡ false
  unfolding open_on open_of
  closes e = closed_by _ _ _ e

refuses : (w : Session) (c : Command) → w.state.opened ≡ false → opens c ≡ false
    → perform_of w c ≡ record { line = Line.Refused NotOpen; session = w }
unfolding perform_of
refuses w c e no-open = rw (e, no-open)

stays_closed : (w : Session) → w.state.opened ≡ false → (commands : List Command) → NoOpen commands
    → performed_all w commands ≡ record { lines = replicate (length commands) (Line.Refused NotOpen); session = w }
unfolding performed_all
stays_closed w e [] no-open = refl
stays_closed w e (c ∷ rest) no-open =
    ap (λ (d : Done). let r = performed_all d.session rest in record { lines = d.line ∷ r.lines; session = r.session })
    (refuses w c e no-open.0)
    ∙ ap (λ (r : AllDone). record { lines = Line.Refused NotOpen ∷ r.lines; session = r.session })
    (stays_closed w e rest no-open.1)

-- ---- the theorem

-- commands, and then others
performed_append : (w : Session) (commands more : List Command)
    → let a = performed_all w commands in
    let b = performed_all a.session more in
    performed_all w (commands ++ more) ≡ record { lines = a.lines ++ b.lines; session = b.session }
unfolding performed_all
performed_append w [] more = refl
performed_append w (c ∷ rest) more =
    let d = perform_of w c in
    ap (λ (r : AllDone). record { lines = d.line ∷ r.lines; session = r.session }) (performed_append d.session rest more)

pub sheet_linearizable : SheetLinearizable
unfolding sheet_of
sheet_linearizable = record {
  prints = λ bytes. refl;
  begins = first_lengths;
  parts = performed_append;
  lines_tell = line_again;
  opening = λ w reached k v p limit. linearizable.opens (asked w reached k v p limit);
  between_opens = between_opens;
  before_open = stays_closed;
  after_refused = λ w k v p limit r refused.
      ap (λ (d : Done). d.session.state.opened) (performs_open w k v p limit)
      ∙ closes w k v p limit r (ap (λ (d : Done). d.line) (sym (performs_open w k v p limit)) ∙ refused);
}
