-- A get that is ran alone ends with what the figure's get answers, and writes nothing.
use Prim.Native.Nat.{ℕ, ◌+◌, ◌≤◌}
use mathlib.Core.Bool.{not}
use mathlib.Core.Logic.{◌≢◌}
use mathlib.Core.Path.{◌≡◌, ap, ◌∙◌}
use native.Mathlib.Omega.{arith}
use lib.Dec.{T, eqb, leb}
use lib.ListN.{set, replicate}
use Rattle.model.specs.Layout.{Memory, newest, next, version_at}
use Rattle.model.specs.Map.{Map, Reply}
use Rattle.model.specs.Numbers.{no_version}
use Rattle.model.specs.Phases.{moved, used_version, ahead, walked, descend, walk_by, read_of, lawful_at, phase_of, transition_of}
use Rattle.model.specs.Calls.{begun, process_after}
use Rattle.model.proofs.Tests.{if_yes, if_no, by_test, ne→neqb}
use Rattle.linearizability.proofs.Invariant.{Ghost, Nodes, Book}
use Rattle.linearizability.proofs.Step.{place_in, within_T}
use Rattle.figure.specs.Types.{Get, Walk, Read, Found, None, Call, Process, Ahead, Equal, Past, End}
use Rattle.figure.specs.Figure.{HMAX, head, key_of, Pair, find_all, get}
use Rattle.figure.specs.Steps.{hops_down, search_steps, steps_after, steps_of}
use Rattle.figure.proofs.Search.{key_same, Finds, at_head, all_finds, link_used}
use Rattle.figure.proofs.Runs.{at_place, Run, run_one, run_on, Ended}
use Rattle.figure.proofs.Walking.{Asked, get≢idle, ahead_equal, ahead_past, before, transition_is, walk_transition, Walked, walk_down}

module _ {m : Memory} {g : Ghost} {b : Map} (N : Nodes m g) (B : Book m b) {call : Call} (P : Asked Get call)
    (bound : ℕ) (enough : m.counts.nodes ≤ bound) (i start : ℕ) where
  abbrev k : ℕ
  k = call.key

  abbrev r : Pair
  r = find_all bound m head k HMAX 0

  abbrev y : ℕ
  y = next m.nodes 0 r.pred

  f : Finds m g k 0 r
  f = all_finds N P.key_high bound enough HMAX head 0 (omega arith) (at_head N P.key_high P.key_low)

  W : Walked N P get≢idle i bound (start + 1) HMAX head (replicate 6 0)
  W = walk_down N P get≢idle i bound enough HMAX head (start + 1) (replicate 6 0) (omega arith)
      (at_head N P.key_high P.key_low)

  abbrev Goal : Reply → Type 0
  Goal o = Ended i start (steps_of bound m k o.answer 0) (at_place (begun call) m) m o.answer o.version
      (start + steps_of bound m k o.answer 0)

  abbrev here : Process
  here = before call Walk 0 r.pred W.preds'

  abbrev there : Process
  there = before call Read 0 y (set W.preds' 0 r.pred)

  -- the last walk step, where it is known what the link leads to
  bottom : (tick : ℕ) (a : Ahead) → ahead m 0 r.pred k ≡ a
      → transition_of (i + 1) tick here m ≡ moved m (walk_by call here.cursor tick a)
  bottom tick a e = walk_transition N P get≢idle i tick 0 r.pred W.preds' f.spot
      ∙ ap (λ q. moved m (walk_by call here.cursor tick q)) e

  used : y ≢ 0 → y ≤ m.counts.nodes
  used = link_used N P.key_high f.spot

  gives_up : (tick : ℕ) → T (leb k (key_of m y)) → T (not (eqb k (key_of m y)))
      → transition_of (i + 1) tick here m ≡ moved m (End None no_version tick)
  unfolding walk_by descend walked
  gives_up tick t u =
      bottom tick Past (ahead_past m k P.key_high 0 r.pred used t u)
      ∙ ap (λ kind. moved m (walked kind call here.cursor tick 0)) P.kind_is

  none : T (leb k (key_of m y)) → T (not (eqb k (key_of m y))) → Goal (record { answer = None; version = no_version })
  unfolding steps_of search_steps steps_after
  none t u = record {
    before = hops_down bound m head k HMAX + HMAX;
    steps_is = omega arith;
    last = at_place here m;
    run = W.run;
    ends = gives_up _ t u;
  }

  -- the step to read
  to_read : (tick : ℕ) → T (eqb k (key_of m y)) → Run i tick 1 (at_place here m) (at_place there m)
  unfolding walk_by descend walked process_after
  to_read tick u =
      let ne = (key_same m k P.key_high y u).0 in
      run_one (bottom tick (Equal y) (ahead_equal m k P.key_high 0 r.pred used u)
      ∙ ap (λ kind. moved m (walked kind call here.cursor tick y)) P.kind_is
      ∙ ap (moved m) (if_no (eqb y 0) _ _ (ne→neqb y 0 ne))) tt

  reads : (tick : ℕ) → y ≢ 0
      → transition_of (i + 1) tick there m ≡ moved m (End Found (version_at m.versions (newest m.nodes y)) tick)
  unfolding phase_of read_of lawful_at
  reads tick ne =
      let x = newest m.nodes y in
      let p = place_in m g b N B y (omega arith) (used ne) in
      transition_is (i + 1) tick there m (omega arith) (used ne) (rw P.kind_is tt)
      ∙ ap (moved m) (if_yes (used_version m x) _ _ (within_T p.0 p.1))

  found : T (eqb k (key_of m y)) → Goal (record { answer = Found; version = version_at m.versions (newest m.nodes y) })
  unfolding steps_of search_steps steps_after
  found u = record {
    before = hops_down bound m head k HMAX + HMAX + 1;
    steps_is = omega arith;
    last = at_place there m;
    run = run_on W.run (to_read (start + 1 + (hops_down bound m head k HMAX + HMAX)) u);
    ends = reads _ (key_same m k P.key_high y u).0;
  }

  pub get_ends : Goal (get bound m k)
  unfolding get
  get_ends = rw f.succ_is (by_test (eqb k (key_of m y))
      (λ u. rw (if_yes (eqb k (key_of m y)) _ _ u) (found u))
      (λ u. rw (if_no (eqb k (key_of m y)) _ _ u) (none (rw f.succ_is at f.stop) u)))
