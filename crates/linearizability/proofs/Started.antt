-- A start keeps the invariant of a run: it is refused as the observer expects, or the process begins at the head.
use Prim.Native.Nat.{ℕ, suc, ◌+◌, ◌≤◌, ◌<◌}
use mathlib.Core.Bool.{Bool, true, false, not, ◌&&◌}
use mathlib.Core.List.{[], ◌∷◌, ◌++◌, List}
use mathlib.Core.Logic.{◌≢◌}
use mathlib.Core.Path.{◌≡◌, refl, sym, ap, ◌∙◌, subst}
use native.Mathlib.Omega.{arith}
use lib.Dec.{T, eqb, ltb, leb, leb→le, nleb→lt}
use lib.ListN.{length, get_or, set, length-set, length-append}
use lib.Seq.{get_or-set_same, get_or-set_other}
use Rattle.linearizability.specs.Types.{Idle, Walk, Refusal, Call, Process, Permit, Ok, Err}
use Rattle.model.specs.Layout.{limits, levels, top_level}
use Rattle.model.specs.Numbers.{number_of}
use Rattle.model.specs.Roles.{is_put}
use Rattle.model.specs.State.{no_process, lawful_key, with_event}
use Rattle.model.specs.Calls.{Store, start_permit, begun, call_for, start_by, start_of}
use Rattle.model.specs.Requests.{Operation, put, get, scan, first_of, last_of}
use Rattle.model.specs.History.{Action, start, Invoked, Pending, no_call, has_call, updated, is_free, due, Sight}
use Rattle.model.specs.ByValue.{with_state}
use Rattle.model.proofs.Laws.{top_at_most}
use Rattle.model.proofs.Tests.{if-by, and→, by_eq, eq→eqb}
use Rattle.model.proofs.Words.{filled}
use Rattle.linearizability.proofs.Invariant.{At, PlacedOf, Puts, fits_at}
use Rattle.linearizability.proofs.Step.{searches}
use Rattle.linearizability.proofs.Effects.{Took, nothing, fed, nothing≢took, grows_on, all_map, ShownIn}
use Rattle.linearizability.proofs.Live.{memory, slot, Core, Hist, LiveFrom, event_hist, done_grow, core_lawful, one_busy, none_busy, busy_set, kept_kind, kind≢idle, idle_free, kept_of, has_injective, updated_same, updated_other, refused_live}
use Rattle.linearizability.proofs.Scanning.{Scanning, ReachedBy}
use Rattle.model.proofs.Seen.{Seen, is_denied, is_granted, saw_refusal, saw_start, seen_due, tick_of, unless}

-- what is refused is what is due
pub due_denied : {from : List Took} {K W : ℕ} {w : Store} {h : Seen} (d : Permit) (r : Refusal) → d ≡ Err r → LiveFrom from K W w h
    → LiveFrom from K W w (saw_refusal h (is_denied d r))
due_denied d r e l = refused_live (is_denied d r) (subst (λ q. T (is_denied q r)) (sym e) (eq→eqb (number_of r) (number_of r) refl)) l

-- and an event that is due, with the right tick, is no fault
pub faultless : (d : Permit) (t n : ℕ) → d ≡ (Ok tt) → t ≡ n → unless (is_granted d && eqb t n) ≡ 0
faultless d t n e q = rw (e, Rattle.model.proofs.Tests.is_true (eqb t n) (eq→eqb t n q))

pub granted≢denied : {r : Refusal} → ◌≡◌ {A = Permit} (Err r) (Ok tt) → ⊥
granted≢denied e = let z : ◌≡◌ {A = ℕ} 0 1 = cc in omega arith

pub record Allowed (h : Seen) (i : ℕ) (op : Operation) : Type 0 where
  pub below : i < h.processes
  pub key_low : 1 ≤ first_of op
  pub free : h.pending i ≡ no_call
  pub time : length h.log < h.limit

allowed : (h : Seen) (i : ℕ) (op : Operation) → seen_due h (start i op) ≡ (Ok tt) → Allowed h i op
unfolding due
allowed h i op =
    let P : Permit → Type 0 = λ d. d ≡ (Ok tt) → Allowed h i op in
    let k = first_of op in
    if-by P (leb h.processes i) (λ t e. absurd (granted≢denied e)) λ t1.
    if-by P (not (lawful_key k && lawful_key (last_of op))) (λ t e. absurd (granted≢denied e)) λ t2.
    if-by P (ltb (last_of op) k) (λ t e. absurd (granted≢denied e)) λ t17.
    if-by P (not (is_free (h.pending i))) (λ t e. absurd (granted≢denied e)) λ t3.
    if-by P (leb h.limit (length h.log)) (λ t e. absurd (granted≢denied e)) λ t4 e. record {
      below = nleb→lt h.processes i t1;
      key_low = leb→le 1 k (and→ (leb 1 k) (leb k limits.key)
          (and→ (lawful_key k) (lawful_key (last_of op)) (plain (lawful_key k && lawful_key (last_of op)) t2)).0).0;
      free = free_is (h.pending i) (plain (is_free (h.pending i)) t3);
      time = nleb→lt h.limit (length h.log) t4;
    }
  where
    plain : (x : Bool) → T (not (not x)) → T x
    plain true t = tt
    plain false t = t

    free_is : (c : Pending) → T (is_free c) → c ≡ no_call
    free_is no_call t = refl
    free_is (has_call c) t = absurd t

-- what a process keeps of an operation
pub kept_key : (op : Operation) (n : ℕ) → (call_for op n).key ≡ first_of op
unfolding call_for
kept_key (put k v t draw) n = refl
kept_key (get k) n = refl
kept_key (scan first last) n = refl

pub kept_last : (op : Operation) (n : ℕ) → (call_for op n).last ≡ last_of op
unfolding call_for
kept_last (put k v t draw) n = refl
kept_last (get k) n = refl
kept_last (scan first last) n = refl

pub kept_start : (op : Operation) (n : ℕ) → (call_for op n).start ≡ n
unfolding call_for
kept_start (put k v t draw) n = refl
kept_start (get k) n = refl
kept_start (scan first last) n = refl

kept_top : (op : Operation) (n : ℕ) → (call_for op n).top ≤ top_level
unfolding call_for
kept_top (put k v t draw) n = top_at_most draw
kept_top (get k) n = omega arith
kept_top (scan first last) n = omega arith

module _ {from : List Took} {K W : ℕ} {w : Store} {h : Seen} (l : LiveFrom from K W w h) (i : ℕ) (op : Operation) where
  abbrev call : Call
  call = call_for op (w.state.events + 1)

  abbrev a : Action
  a = start i op

  abbrev invoked₀ : Invoked
  invoked₀ = record { operation = op; start = tick_of h }

  abbrev pending' : ℕ → Pending
  pending' = updated h.pending i (has_call invoked₀)

  abbrev sights' : ℕ → List Sight
  sights' = updated h.sights i []

  start_is : call.start ≡ w.state.events + 1
  start_is = kept_start op (w.state.events + 1)

  busy : call.kind ≢ Idle
  busy e = kind≢idle op (sym (kept_kind op (w.state.events + 1)) ∙ e)

  as_due : start_permit w.state w.nodes w.versions i (first_of op) (last_of op) ≡ seen_due h (start i op)
  unfolding start_permit due
  as_due =
      let k = l.hist in
      rw (core_lawful l.core, k.processes_is, k.limit_is, k.ticks, (k.track i).same, idle_free (h.pending i)) refl

  begun_placed : 1 ≤ first_of op → PlacedOf (memory w) l.g (begun call)
  begun_placed low =
      record { top5 = kept_top op (w.state.events + 1); six = refl; spot = head 5 (omega arith); memo = λ j h6. rw (filled {A = ℕ} 6 j 0) (head j h6) }
    where
      head : (j : ℕ) → j < levels → At (memory w) l.g j 0 call.key
      head j h6 =
          record { used = omega arith; up = omega (arith, l.core.nodes.head_high); low = omega (arith, l.core.nodes.head_key, kept_key op (w.state.events + 1)) }

  module _ (al : Allowed h i op) where
    below : i < w.state.processes
    below = omega (arith, al.below, l.hist.processes_is)

    resting : (slot w i).call.kind ≡ Idle
    resting = ap (λ (c : Call). c.kind) (l.hist.track i).same ∙ ap (λ (c : Pending). (kept_of c).kind) al.free

    inside : i < length w.state.process
    inside = omega (arith, l.core.array, l.core.processes.1, below)

    here : get_or (set w.state.process i (begun call)) i no_process ≡ begun call
    here = get_or-set_same w.state.process i (begun call) no_process inside

    there : (j : ℕ) → j ≢ i → get_or (set w.state.process i (begun call)) j no_process ≡ slot w j
    there j ne = get_or-set_other w.state.process i j (begun call) no_process ne

    no_put : Puts (slot w i) → ⊥
    no_put = subst (λ k. T (is_put k) → ⊥) (sym resting) (λ t. t)

    start_core : Core (with_state w (with_event w.state i w.state.counts (begun call))) l.g l.b
    start_core =
        let k = l.core in
        record {
          opened = k.opened;
          processes = k.processes;
          limit = k.limit;
          events = omega (arith, al.time, l.hist.ticks, l.hist.limit_is);
          node_length = k.node_length;
          version_length = k.version_length;
          nodes_lent = k.nodes_lent;
          versions_lent = k.versions_lent;
          tally = k.tally;
          array = length-set w.state.process i (begun call) ∙ k.array;
          nodes = k.nodes;
          book = k.book;
          fits = λ j. by_eq j i
              (λ e. rw (e, here) (fits_at Walk refl (searches call.kind busy) (begun_placed al.key_low, (refl, refl))))
              (λ ne. rw (there j ne) (k.fits j));
          tops = λ x u f. k.tops x u (λ j. by_eq j i
              (λ e c. no_put (subst (λ q. Puts (slot w q)) e c.kind))
              (λ ne c. f j (rw (there j ne) c)));
          locks = λ j. by_eq j i
              (λ e l x h6 hx q. absurd ((k.locks i l x h6 hx (q ∙ ap suc e)).kind resting))
              (λ ne. rw (there j ne) (k.locks j));
          beyond = λ j u. ap (λ (q : Process). q.call.kind) (there j (omega (arith, below))) ∙ k.beyond j u;
        }

    -- a scan stands at the head, before its first key
    scanning_begun : Scanning K W (memory w) (l.eff ++ (nothing ∷ [])) (has_call invoked₀) 0 []
    scanning_begun = (shown op, by op al.key_low)
      where
        shown : (op : Operation) → ShownIn K W (l.eff ++ (nothing ∷ [])) op []
        shown (put k v t draw) = refl
        shown (get k) = refl
        shown (scan first last) = (tt, tt)

        by : (op : Operation) → 1 ≤ first_of op → ReachedBy K W (memory w) (l.eff ++ (nothing ∷ [])) (tick_of h) 0 [] op
        by (put k v t draw) low = tt
        by (get k) low = tt
        by (scan first last) low = (
          omega arith,
          record {
            begun = omega (arith, l.hist.ticks, l.hist.one_each, length-append l.eff (nothing ∷ []));
            passed = tt;
            covered = λ k lo hi held le. absurd (omega (arith, l.core.nodes.head_key));
          },
        )

    start_hist : seen_due h (start i op) ≡ (Ok tt)
        → Hist K W (with_state w (with_event w.state i w.state.counts (begun call))) (saw_start h i op (Ok (w.state.events + 1)))
        l.b (l.eff ++ (nothing ∷ []))
    unfolding saw_start fed
    start_hist granted =
        let k = l.core in
        let q = l.hist in
        let i8 : i < limits.processes = omega (arith, k.processes.1, below) in
        event_hist K W w h l.b l.eff q k.array i i8 a nothing (memory w) (begun call) w.tally pending' sights' (suc h.starts) h.completed
        (h.faults + unless (is_granted (seen_due h (start i op)) && eqb (w.state.events + 1) (tick_of h))) l.b (record {
          K-same = refl;
          W-same = refl;
          map_is = refl;
          keys = (omega arith, λ x u. refl);
          others = λ j ne. (updated_other h.pending i (has_call invoked₀) j ne, updated_other h.sights i [] j ne);
          track = record {
            same = ap (call_for op) (omega (arith, q.ticks)) ∙ ap kept_of (sym (updated_same h.pending i (has_call invoked₀)));
            resting = λ e. refl;
            begun = omega (arith, q.ticks, start_is, length-append h.log (a ∷ []));
            entered = λ d e ne. absurd (ne refl);
          };
          scanning = rw (updated_same h.pending i (has_call invoked₀), updated_same h.sights i []) scanning_begun;
          done =
              done_grow K W w h l.b l.eff q k.array i i8 a nothing (memory w) (begun call) w.tally pending' sights' (suc h.starts) h.completed 0 l.b;
          kept = λ n j c d. d;
          old = λ n c e f. absurd (omega (arith, (q.track i).resting resting));
          now = λ n j c e f. absurd (nothing≢took f);
          tally = q.tally;
          counted = omega (
            arith,
            q.counted,
            busy_set w.state.process i w.state.processes (begun call) below inside,
            none_busy (slot w i).call.kind resting,
            one_busy call.kind busy,
          );
          few = omega (arith, q.few);
          no_faults =
              omega (arith, q.faults, faultless (seen_due h (start i op)) (w.state.events + 1) (tick_of h) granted (omega (arith, q.ticks)));
          past = λ j c ks. by_eq j i
              (λ e. all_map (λ d s r. omega (
                arith,
                s.ended,
                ap (λ (y : Invoked). y.start)
                    (has_injective (sym (updated_same h.pending i (has_call invoked₀)) ∙ ap pending' (sym e) ∙ ks)),
              )) h.completed q.done)
              (λ ne. q.past j c (sym (updated_other h.pending i (has_call invoked₀) j ne) ∙ ks));
          pairs = q.pairs;
        })

  pub start_live : let o = start_of w.state w.nodes w.versions i op in LiveFrom from K W (with_state w o.state) (saw_start h i op o.outcome)
  unfolding start_of
  start_live = rw as_due (go (seen_due h (start i op)) refl)
    where
      go : (d : Permit) → seen_due h (start i op) ≡ d
          → let o = start_by d w.state i call in LiveFrom from K W (with_state w o.state) (saw_start h i op o.outcome)
      go (Err r) e = unfold start_by saw_start in (due_denied (seen_due h (start i op)) r e l)
      go (Ok _) e = unfold start_by in (let al = allowed h i op e in
          record { g = l.g; b = l.b; eff = l.eff ++ (nothing ∷ []); core = start_core al; hist = start_hist al e; grows = grows_on from l.eff nothing l.grows })
