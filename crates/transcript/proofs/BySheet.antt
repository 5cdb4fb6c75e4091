-- Demand 3 of the store that a sheet plays: each command answers as the store by value does whose tables stand at the start of
-- the buffers.
use Prim.Native.Nat.{ℕ, ◌≤◌}
use mathlib.Core.Bool.{true, or-true}
use mathlib.Core.List.{List}
use mathlib.Core.Path.{◌≡◌, refl, sym, ap, subst, ◌∙◌}
use native.Mathlib.Omega.{arith}
use lib.ListN.{length, take, drop, replicate, length-replicate}
use lib.Seq.{length-take-le, length_front, take_at}
use Rattle.model.specs.Layout.{node_words, version_words, fresh_nodes}
use Rattle.model.specs.Requests.{Fitting, Operation, put, get, scan}
use Rattle.model.specs.Calls.{open_due, open_by, open_of, start_by, start_of, Store, Stepped, step_of}
use Rattle.model.specs.System.{Opens, view_of}
use Rattle.model.specs.ByValue.{with_state, fresh_store, Given, opens_by, by_value}
use Rattle.model.specs.Linearizability.{Linearizable}
use Rattle.model.proofs.Laws.{granted_fits}
use Rattle.linearizability.proofs.Simulated.{Same, SameOpening, Simulates, simulated}
use Rattle.linearizability.proofs.Linearized as linearized
use Rattle.buffers.specs.Session.{Session, Done, lent, back, table_words, buffers, opened_on, started, start_on, started_on, stepped_on, open_on, call_on}
use Rattle.executor.specs.Perform.{perform_of}
use Rattle.interpreter.specs.Sheet.{first_session}
use Rattle.buffers.proofs.Laws.{asked_permit}
use Rattle.transcript.specs.Types.{Command, Open, Put, Get, Step, Look, Inspect, Call, Lengths, State, Permit, Ok, Err, StartResult, Inspecting}
use Rattle.transcript.specs.Meanings.{start_meant, look_meant, inspect_meant}
use Rattle.transcript.specs.BySheet.{BufferLengths, Asked, fitting_for, opens_by_line, answered, by_sheet}
use Rattle.transcript.proofs.Steps.{Keeps, step_keeps}
use Rattle.transcript.proofs.Lengths.{length_fresh}
use Rattle.transcript.proofs.Meanings.{start_meant_lem, look_meant_lem, inspect_meant_lem}

-- the store is open, and its tables stand whole in the buffers
pub record Stands (w : Session) : Type 0 where
  pub open_now : w.state.opened ≡ true
  pub nodes : w.state.lengths.nodes ≤ length w.nodes
  pub versions : w.state.lengths.versions ≤ length w.versions

abbrev Holds : Session → Store → Type 0
Holds w x = (lent w ≡ x) × Stands w

-- an open store performs every command
pub performs : (w : Session) → w.state.opened ≡ true → (c : Command) → perform_of w c ≡ call_on w c
unfolding perform_of
performs w e c = rw e

-- a table as long as the one lent, back in its buffer
module _ (n n' : ℕ) (table buffer : List ℕ) (same : n' ≡ n) (long : length table ≡ length (take n buffer))
    (within : n ≤ length buffer) where
  table_back : take n' (back n table buffer) ≡ table
  table_back = take_at table (drop n buffer) n' (long ∙ length-take-le n buffer within ∙ sym same)

  within_back : n' ≤ length (back n table buffer)
  within_back = omega (arith, within, same, length_front buffer table n long)

-- ---- starts

state_by : (d : Permit) (s : State) (i : ℕ) (call : Call)
    → let o = start_by d s i call in (o.state.lengths ≡ s.lengths) × (o.state.opened ≡ s.opened)
unfolding start_by
state_by (Err r) s i call = (refl, refl)
state_by (Ok _) s i call = (refl, refl)

module _ (w : Session) (s : Stands w) (i : ℕ) where
  start_called : (r : StartResult) → (r.state.lengths ≡ w.state.lengths) × (r.state.opened ≡ w.state.opened)
      → Same Holds (answered start_meant (started_on w (started i r)))
      (record { outcome = r.outcome; store = with_state (lent w) r.state })
  start_called r e = (
    start_meant_lem i r.outcome,
    (
      ap (λ (l : Lengths). record {
        state = r.state;
        nodes = take l.nodes w.nodes;
        versions = take l.versions w.versions;
        tally = w.tally;
      }) e.0,
      record {
        open_now = e.1 ∙ s.open_now;
        nodes = subst (λ (l : Lengths). l.nodes ≤ length w.nodes) (sym e.0) s.nodes;
        versions = subst (λ (l : Lengths). l.versions ≤ length w.versions) (sym e.0) s.versions;
      },
    ),
  )

  start_on_lem : (op : Operation) → Same Holds (answered start_meant (started_on w (start_on w.state w.nodes w.versions i op)))
      (by_value.start (lent w) i op)
  unfolding start_of
  start_on_lem op = start_called _ (state_by _ w.state i _)

  start_by_lem : (c : Command) (op : Operation) → call_on w c ≡ started_on w (start_on w.state w.nodes w.versions i op)
      → Same Holds (answered start_meant (perform_of w c)) (by_value.start (lent w) i op)
  start_by_lem c op e =
      subst (λ (d : Done). Same Holds (answered start_meant d) (by_value.start (lent w) i op))
      (sym (performs w s.open_now c ∙ e)) (start_on_lem op)

  start_same : (op : Operation) → Same Holds (by_sheet.start w i op) (by_value.start (lent w) i op)
  start_same (put k v t draw) = start_by_lem (Put i k v t draw) (put k v t draw) (unfold call_on in refl)
  start_same (get k) = start_by_lem (Get i k) (get k) (unfold call_on in refl)
  start_same (scan first last) = start_on_lem (scan first last)

  -- ---- steps

  step_called : (r : Stepped) → Keeps (lent w) r.store → Holds (stepped_on w i r).session r.store
  step_called r k = (
    ap (λ (t : List ℕ). record { state = x.state; nodes = t; versions = take m' versions; tally = x.tally })
        (table_back n n' x.nodes w.nodes same_n k.nodes s.nodes)
        ∙ ap (λ (t : List ℕ). record { state = x.state; nodes = x.nodes; versions = t; tally = x.tally })
        (table_back m m' x.versions w.versions same_m k.versions s.versions),
    record {
      open_now = k.open_too ∙ s.open_now;
      nodes = within_back n n' x.nodes w.nodes same_n k.nodes s.nodes;
      versions = within_back m m' x.versions w.versions same_m k.versions s.versions;
    },
  )
    where
      x : Store
      x = r.store

      n : ℕ
      n = w.state.lengths.nodes

      m : ℕ
      m = w.state.lengths.versions

      n' : ℕ
      n' = x.state.lengths.nodes

      m' : ℕ
      m' = x.state.lengths.versions

      versions : List ℕ
      versions = back m x.versions w.versions

      same_n : n' ≡ n
      same_n = ap (λ (l : Lengths). l.nodes) k.lengths

      same_m : m' ≡ m
      same_m = ap (λ (l : Lengths). l.versions) k.lengths

  step_call : Holds (call_on w (Step i)).session (step_of (lent w) i).store
  unfolding call_on
  step_call = step_called (step_of (lent w) i) (step_keeps (lent w) i)

  step_same : Same Holds (by_sheet.step w i) (by_value.step (lent w) i)
  step_same = (
    refl,
    subst (λ (d : Done). Holds d.session (step_of (lent w) i).store) (sym (performs w s.open_now (Step i))) step_call,
  )

-- ---- looks and inspections

look_call : (w : Session) (k back : ℕ) → look_meant (call_on w (Look k back)).line ≡ by_value.look (lent w) k back
unfolding call_on
look_call w k back = look_meant_lem k back _

inspect_call : (w : Session) → inspect_meant (call_on w Inspect).line ≡ by_value.inspect (lent w)
unfolding call_on
inspect_call w = inspect_meant_lem _

look_same : (w : Session) → Stands w → (k back : ℕ) → by_sheet.look w k back ≡ by_value.look (lent w) k back
look_same w s k back = ap (λ (d : Done). look_meant d.line) (performs w s.open_now (Look k back)) ∙ look_call w k back

view_same : (w : Session) → Stands w → view_of by_sheet w ≡ view_of by_value (lent w)
view_same w s =
    ap (λ (q : Inspecting). record {
      status = by_sheet.status w;
      inspected = q;
      tally = w.tally;
      counts = w.state.counts;
      events = w.state.events;
    }) (ap (λ (d : Done). inspect_meant d.line) (performs w s.open_now Inspect) ∙ inspect_call w)

-- ---- openings

-- the tables that an open asks for
abbrev given : Asked → Given
given s = record {
  nodes = replicate (table_words node_words s.keys) 0;
  versions = replicate (table_words version_words s.versions) 0;
  processes = s.processes;
  limit = s.limit;
}

fits_given : (s : Asked) → by_sheet.fitting s ≡ by_value.fitting (given s)
fits_given s = simp length-replicate

-- an open needs no open store
pub performs_open : (w : Session) (k v p limit : ℕ) → perform_of w (Open k v p limit) ≡ open_on w k v p limit
unfolding perform_of call_on
performs_open w k v p limit = simp or-true

module _ (w : Session) (l : BufferLengths w) (k v p limit : ℕ) where
  -- the lengths asked for
  abbrev n : ℕ
  n = table_words node_words k

  abbrev m : ℕ
  m = table_words version_words v

  -- what the buffers have of them
  abbrev n' : ℕ
  n' = length (take n w.nodes)

  abbrev m' : ℕ
  m' = length (take m w.versions)

  -- the buffers are longer than any table that is accepted
  room : open_due (fitting_for k v p limit) ≡ (Ok tt) → (n ≤ length w.nodes) × (m ≤ length w.versions)
  room e =
      let f = granted_fits (fitting_for k v p limit) e in
      (omega (arith, l.nodes, f.nodes.1, f.nodes.3), omega (arith, l.versions, f.versions.1, f.versions.3))

  abbrev opens_in : Permit → Opens Session
  opens_in d = opens_by_line (opened_on w k v p limit (open_by d (take n w.nodes) (take m w.versions) p limit))

  open_by_lem : (d : Permit) → (d ≡ (Ok tt) → open_due (fitting_for k v p limit) ≡ (Ok tt))
      → let o = open_by d (replicate n 0) (replicate m 0) p limit in
      SameOpening Holds (opens_in d) (opens_by o.result.outcome (fresh_store o))
  unfolding open_by
  open_by_lem (Err r) e = refl
  open_by_lem (Ok _) e =
      let h = room (e refl) in
      let a = length-take-le n w.nodes h.0 in
      let b = length-take-le m w.versions h.1 in (
        simp (
          a,
          b,
          l.tally,
          length-replicate,
          take_at (fresh_nodes n) (drop n w.nodes) n (length_fresh n),
          take_at (replicate m 0) (drop m w.versions) m (length-replicate m 0),
        ),
        record {
          open_now = refl;
          nodes = within_back n n' (fresh_nodes n') w.nodes a (length_fresh n') h.0;
          versions = within_back m m' (replicate m' 0) w.versions b (length-replicate m' 0) h.1;
        },
      )

  abbrev setup : Asked
  setup = record { before = w; lengths = l; keys = k; versions = v; processes = p; limit = limit }

  open_called : SameOpening Holds (opens_by_line (open_on w k v p limit)) (by_value.fresh (given setup))
  unfolding open_on open_of
  open_called =
      subst (λ (d : Permit). SameOpening Holds (opens_in d) (by_value.fresh (given setup)))
      (sym (asked_permit w.nodes w.versions (omega (arith, l.nodes)) (omega (arith, l.versions)) k v p limit))
      (open_by_lem _ (λ e. ap open_due (fits_given setup) ∙ e))

  open_same : SameOpening Holds (by_sheet.fresh setup) (by_value.fresh (given setup))
  open_same =
      subst (λ (d : Done). SameOpening Holds (opens_by_line d) (by_value.fresh (given setup))) (sym (performs_open w k v p limit))
      open_called

-- ---- the theorem

-- the first session has buffers of the lent lengths
pub first_lengths : BufferLengths first_session
first_lengths = record {
  nodes = length-replicate {A = ℕ} buffers.nodes 0;
  versions = length-replicate {A = ℕ} buffers.versions 0;
  tally = length-replicate {A = ℕ} buffers.tally 0;
}

-- a sheet can ask for every lawful opening
asks : (f : Fitting) → open_due f ≡ (Ok tt) → (s : Asked) × (by_sheet.fitting s ≡ f)
asks f lawful =
    let h = granted_fits f lawful in
    let K = h.nodes.0 in
    let W = h.versions.0 in (
      record {
        before = first_session;
        lengths = first_lengths;
        keys = K;
        versions = W;
        processes = f.processes;
        limit = f.limit;
      },
      ap (λ n. record { nodes = n; versions = table_words version_words W; processes = f.processes; limit = f.limit })
          (omega (arith, h.nodes.1))
          ∙ ap (λ n. record { nodes = f.nodes; versions = n; processes = f.processes; limit = f.limit }) (omega (arith, h.versions.1)),
    )

as_by_value : Simulates by_sheet by_value given Holds
as_by_value = record {
  asks = asks;
  fits = fits_given;
  opens = λ s. open_same s.before s.lengths s.keys s.versions s.processes s.limit;
  starts = λ w x q i op.
      subst (λ (x : Store). Same Holds (by_sheet.start w i op) (by_value.start x i op)) q.0 (start_same w q.1 i op);
  steps = λ w x q i. subst (λ (x : Store). Same Holds (by_sheet.step w i) (by_value.step x i)) q.0 (step_same w q.1 i);
  looks = λ w x q k back. look_same w q.1 k back ∙ ap (λ (x : Store). by_value.look x k back) q.0;
  shows = λ w x q. view_same w q.1 ∙ ap (λ (x : Store). view_of by_value x) q.0;
}

pub linearizable : Linearizable by_sheet
linearizable = simulated by_sheet by_value given Holds as_by_value linearized.linearizable
