-- A step keeps the invariant of a run: it is refused as the observer expects, or its move is quiet, takes effect as the
-- map's put, or ends the call with what the map answers.
use Prim.Native.Nat.{ℕ, suc, ◌+◌, ◌≤◌, ◌<◌}
use mathlib.Core.Bool.{true, not, ◌&&◌}
use mathlib.Core.List.{List, [], ◌∷◌, ◌++◌}
use mathlib.Core.Logic.{◌≢◌, inl, inr}
use mathlib.Core.Path.{◌≡◌, refl, sym, ap, ◌∙◌, subst}
use native.Mathlib.Omega.{arith}
use lib.Dec.{T, eqb, leb, nleb→lt}
use lib.ListN.{length, get_or, set, length-set, length-append}
use lib.Seq.{get_or-set_same, get_or-set_other}
use Rattle.linearizability.specs.Types.{Idle, Answer, Call, Cursor, Process, Version, Item, Permit, Ok, Err, Move, Refuse, Wait, Go, Note, Commit, Show, End}
use Rattle.model.specs.Layout.{Memory, limits, levels}
use Rattle.model.specs.Map.{Map, put_in, PutResult, Reply, get_from, applied, Applied}
use Rattle.model.specs.Map as Seq
use Rattle.model.specs.Roles.{is_put, is_get, is_scan}
use Rattle.model.specs.State.{idle_process, no_process, with_event}
use Rattle.model.specs.Phases.{Moved, moved, own_version, transition_of}
use Rattle.model.specs.Calls.{call_for, Store, step_permit, process_after, outcome_of, counted, tally_after, evented, store_after, step_by, step_of}
use Rattle.model.specs.Requests.{Operation, put, get, scan, kind_of, first_of, last_of}
use Rattle.model.specs.History.{Action, step, Invoked, Pending, no_call, has_call, updated, is_free, due, Sight, Completed, finished}
use Rattle.model.specs.Linearizability.{takes_effect}
use Rattle.model.proofs.Laws.{length_tally}
use Rattle.model.proofs.Tests.{if-by, by_eq, T-absurd, T_true, is_true, eq→eqb}
use Rattle.linearizability.proofs.Invariant.{Puts, Gets, Scans, Climbs}
use Rattle.linearizability.proofs.Frame.{fits_kept}
use Rattle.linearizability.proofs.Step.{Ending, Does, Good}
use Rattle.linearizability.proofs.Following.{scan_no_get, scan_no_put, Nears, ScanDoes}
use Rattle.linearizability.proofs.Transition.{transition_good, transition_scans}
use Rattle.linearizability.proofs.Locks.{Locked, step_locked}
use Rattle.linearizability.proofs.Tallied.{tally_counts}
use Rattle.linearizability.proofs.Effects.{Took, nothing, took, fed, played, nothing≢took, grows_on, Entered, EndedIn, shown_grow, entered_grow, entered_now}
use Rattle.linearizability.proofs.Scanning.{Scanning, KeysStay, scanning_near, scanning_shown, scanning_ends}
use Rattle.linearizability.proofs.Live.{memory, slot, Core, kept_of, Hist, LiveFrom, event_hist, done_grow, slot_same, core_lawful, one_busy, none_busy, busy_set, kept_kind, kind≢idle, idle_free, has_injective, updated_same, updated_other}
use Rattle.linearizability.proofs.Started.{due_denied, faultless, granted≢denied, kept_key, kept_last, kept_start}
use Rattle.model.proofs.Seen.{Seen, is_granted, saw_step, seen_due, tick_of, unless}

-- ---- what the map makes of the call that a process keeps

pub put_applied : (K W : ℕ) (b b' : Map) (op : Operation) (n : ℕ) (a : Answer) → let call = call_for op n in
    T (is_put call.kind) → put_in K W b call.key (own_version call) ≡ Seq.answered b' a
    → applied K W b op ≡ record { map = b'; reply = record { answer = a; version = own_version call } }
unfolding call_for applied
put_applied K W b b' (put k v t draw) n a is e =
    ap (λ (r : PutResult). record { map = r.map; reply = record { answer = r.answer; version = record { value = v; timestamp = t } } }) e
put_applied K W b b' (get k) n a is e = absurd is
put_applied K W b b' (scan first last) n a is e = absurd is

get_applied : (K W : ℕ) (b : Map) (op : Operation) (n : ℕ) (r : Reply) → let call = call_for op n in
    T (is_get call.kind) → get_from b call.key ≡ r → applied K W b op ≡ record { map = b; reply = r }
unfolding call_for applied
get_applied K W b (put k v t draw) n r is e = absurd is
get_applied K W b (get k) n r is e = ap (λ (z : Reply). record { map = b; reply = z }) e
get_applied K W b (scan first last) n r is e = absurd is

-- ---- what a step needs: an event is due

record Allowed (h : Seen) (i : ℕ) : Type 0 where
  pub below : i < h.processes
  pub call : Invoked
  pub has : h.pending i ≡ has_call call
  pub time : length h.log < h.limit

allowed : (h : Seen) (i : ℕ) → seen_due h (step i) ≡ (Ok tt) → Allowed h i
unfolding due
allowed h i =
    let P : Permit → Type 0 = λ d. d ≡ (Ok tt) → Allowed h i in
    if-by P (leb h.processes i) (λ t e. absurd (granted≢denied e)) λ t1.
    if-by P (is_free (h.pending i)) (λ t e. absurd (granted≢denied e)) λ t2.
    if-by P (leb h.limit (length h.log)) (λ t e. absurd (granted≢denied e)) λ t3 e. go t1 t3 (h.pending i) refl t2
  where
    go : T (not (leb h.processes i)) → T (not (leb h.limit (length h.log))) → (c : Pending) → h.pending i ≡ c → T (not (is_free c)) → Allowed h i
    go t1 t3 no_call e t = absurd t
    go t1 t3 (has_call c) e t =
        record { below = nleb→lt h.processes i t1; call = c; has = e; time = nleb→lt h.limit (length h.log) t3 }

no≢has : {c : Invoked} → no_call ≡ has_call c → ⊥
no≢has e = let z : ◌≡◌ {A = ℕ} 0 1 = cc in omega arith

entered_cast : {K W : ℕ} {log : List Action} {eff : List Took} {i : ℕ} {c : Invoked} {t t' : ℕ} {r r' : Reply} → t ≡ t' → r ≡ r'
    → Entered K W log eff i c t r → Entered K W log eff i c t' r'
entered_cast {K} {W} {log} {eff} {i} {c} {t} {t'} {r} {r'} p q h =
    subst (λ z. Entered K W log eff i c z r') p (subst (λ z. Entered K W log eff i c t z) q h)

module _ {from : List Took} {K W : ℕ} {w : Store} {h : Seen} (l : LiveFrom from K W w h) (i : ℕ) (granted : seen_due h (step i) ≡ (Ok tt)) where
  abbrev pr : Process
  pr = slot w i

  abbrev tick : ℕ
  tick = w.state.events + 1

  abbrev log' : List Action
  log' = h.log ++ (step i ∷ [])

  abbrev faults : ℕ
  faults = h.faults + unless (is_granted (seen_due h (step i)) && eqb tick (tick_of h))

  al : Allowed h i
  al = allowed h i granted

  abbrev c₀ : Invoked
  c₀ = al.call

  same : pr.call ≡ call_for c₀.operation c₀.start
  same = (l.hist.track i).same ∙ ap kept_of al.has

  kind_is : pr.call.kind ≡ kind_of c₀.operation
  kind_is = ap (λ (c : Call). c.kind) same ∙ kept_kind c₀.operation c₀.start

  start_is : pr.call.start ≡ c₀.start
  start_is = ap (λ (c : Call). c.start) same ∙ kept_start c₀.operation c₀.start

  busy : pr.call.kind ≢ Idle
  busy e = kind≢idle c₀.operation (sym kind_is ∙ e)

  below : i < w.state.processes
  below = omega (arith, al.below, l.hist.processes_is)

  i8 : i < limits.processes
  i8 = omega (arith, l.core.processes.1, below)

  inside : i < length w.state.process
  inside = omega (arith, l.core.array, i8)

  even : length l.eff ≡ length h.log
  even = l.hist.one_each ∙ sym l.hist.ticks

  tick_is : tick ≡ suc (length h.log)
  tick_is = omega (arith, l.hist.ticks)

  no_faults : faults ≡ 0
  no_faults = omega (arith, l.hist.faults, faultless (seen_due h (step i)) tick (tick_of h) granted tick_is)

  begun : c₀.start ≤ length h.log
  begun = omega (arith, (l.hist.track i).begun, start_is)

  -- the map that memory holds makes of the call what the effects' map makes of it
  puts : (b' : Map) (a : Answer) → Puts pr → put_in K W l.b pr.call.key (own_version pr.call) ≡ Seq.answered b' a
      → applied K W l.b c₀.operation ≡ record { map = b'; reply = record { answer = a; version = own_version pr.call } }
  puts b' a = subst (λ (c : Call). T (is_put c.kind) → put_in K W l.b c.key (own_version c) ≡ Seq.answered b' a
      → applied K W l.b c₀.operation ≡ record { map = b'; reply = record { answer = a; version = own_version c } }) (sym same)
      (put_applied K W l.b b' c₀.operation c₀.start a)

  gets : (r : Reply) → Gets pr → get_from l.b pr.call.key ≡ r
      → applied K W l.b c₀.operation ≡ record { map = l.b; reply = r }
  gets r = subst (λ (c : Call). T (is_get c.kind) → get_from l.b c.key ≡ r
      → applied K W l.b c₀.operation ≡ record { map = l.b; reply = r }) (sym same)
      (get_applied K W l.b c₀.operation c₀.start r)

  reply_of : {b' : Map} {r : Reply} → applied K W l.b c₀.operation ≡ record { map = b'; reply = r }
      → (applied K W (played K W [] l.eff) c₀.operation).reply ≡ r
  reply_of {b'} {r} e =
      subst (λ (b : Map). (applied K W b c₀.operation).reply ≡ r) l.hist.book_is (ap (λ (z : Applied). z.reply) e)

  fed_of : {b' : Map} {r : Reply} → applied K W l.b c₀.operation ≡ record { map = b'; reply = r }
      → b' ≡ (applied K W l.b c₀.operation).map
  fed_of e = sym (ap (λ (z : Applied). z.map) e)

  -- ---- the store

  step_core : (v : Move) (m : Memory) (G : Good (memory w) l.g i pr tick l.b v m) → Locked (memory w) i tick pr (moved m v)
      → Core (evented w i v m) G.g' G.b'
  step_core v m G lk =
      let k = l.core in
      let q = process_after tick pr v in
      let here = get_or-set_same w.state.process i q no_process inside in
      record {
        opened = k.opened;
        processes = k.processes;
        limit = k.limit;
        events = omega (arith, al.time, l.hist.ticks, l.hist.limit_is);
        node_length = k.node_length;
        version_length = k.version_length;
        nodes_lent = G.node_words_lem ∙ k.nodes_lent;
        versions_lent = G.version_words_lem ∙ k.versions_lent;
        tally = length_tally w.tally v ∙ k.tally;
        array = length-set w.state.process i q ∙ k.array;
        nodes = G.nodes;
        book = G.book;
        fits = λ j. by_eq j i
            (λ e. rw (e, here) G.fits)
            (λ ne. rw (get_or-set_other w.state.process i j q no_process ne) (fits_kept (G.frame j ne) (k.fits j)));
        tops = λ x u f. G.risen x u
            (λ o nc. k.tops x o (λ j. by_eq j i
            (λ e. subst (λ z. ¬ (Climbs (slot w z) x)) (sym e) nc)
            (λ ne c. f j (rw (get_or-set_other w.state.process i j q no_process ne) c))))
            (λ c. f i (rw here c));
        locks = λ j n x h6 hx e. by_eq j i
            (λ ej. rw (ej, here) ((lk n x j h6 hx e).1 ej))
            (λ ne. let o = (lk n x j h6 hx e).0 ne in
            rw (get_or-set_other w.state.process i j q no_process ne) (k.locks j n x h6 o.0 o.1));
        beyond =
            λ j u. ap (λ (z : Process). z.call.kind) (get_or-set_other w.state.process i j q no_process (omega (arith, below)))
            ∙ k.beyond j u;
      }

  -- ---- what the call shows

  scanned : Scanning K W (memory w) l.eff (has_call c₀) pr.cursor.pred (h.sights i)
  scanned = subst (λ (c : Pending). Scanning K W (memory w) l.eff c pr.cursor.pred (h.sights i)) al.has (l.hist.scanning i)

  scans : T (is_scan (kind_of c₀.operation)) → Scans pr
  scans t = rw kind_is t

  key_is : pr.call.key ≡ first_of c₀.operation
  key_is = ap (λ (c : Call). c.key) same ∙ kept_key c₀.operation c₀.start

  last_is : pr.call.last ≡ last_of c₀.operation
  last_is = ap (λ (c : Call). c.last) same ∙ kept_last c₀.operation c₀.start

  -- nodes stay, whoever moves
  keys_stay : {v : Move} {m : Memory} → Good (memory w) l.g i pr tick l.b v m → KeysStay (memory w) m
  keys_stay G = let f = (G.frame (suc i) (omega arith)).grown in (f.more, f.keys)

  -- the process moves to node p' and shows nothing
  near : (x : Took) (m : Memory) (p' : ℕ) → KeysStay (memory w) m → (Scans pr → Nears (memory w) pr.call.key pr.cursor.pred p')
      → Scanning K W m (l.eff ++ (x ∷ [])) (has_call c₀) p' (h.sights i)
  near x m p' stay n = scanning_near K W (memory w) m stay h.log l.eff (step i) x even c₀ pr.cursor.pred p' (h.sights i)
      (λ t. rw (← key_is) (n (scans t))) scanned

  -- the process moves to the node behind its own and shows it
  shows : (m : Memory) (c : Cursor) (x : Item) → KeysStay (memory w) m → Scans pr → ScanDoes (memory w) pr l.b (Show c x)
      → Scanning K W m (l.eff ++ (nothing ∷ [])) (has_call c₀) c.pred (record { item = x; tick = tick_of h } ∷ h.sights i)
  shows m c x stay s d =
      scanning_shown K W (memory w) m l.g l.b l.eff l.core.nodes l.core.book stay h.log (step i) even l.hist.book_is
      c₀ pr.cursor.pred c.pred (tick_of h) x (h.sights i) (rw kind_is at s) (omega (arith, even, length-append l.eff (nothing ∷ [])))
      (rw (← key_is, ← last_is) d) scanned

  -- a put or a get ends
  ends_with : (x : Took) (d : Completed) (op : Operation) → (T (is_scan (kind_of op)) → ⊥) → EndedIn K W (l.eff ++ (x ∷ [])) d op
  ends_with x d (put k v t draw) apart = tt
  ends_with x d (get k) apart = tt
  ends_with x d (scan first last) apart = absurd (apart tt)

  -- ---- the history

  -- the store and what was seen after a step that does not end the call
  abbrev after : Memory → Process → Store
  after m q = record { state = with_event w.state i m.counts q; nodes = m.nodes; versions = m.versions; tally = w.tally }

  abbrev saw_on : (ℕ → List Sight) → Seen
  saw_on ss = record {
    processes = h.processes;
    limit = h.limit;
    log = log';
    pending = h.pending;
    sights = ss;
    starts = h.starts;
    completed = h.completed;
    queries = h.queries;
    faults = faults;
  }

  -- the call goes on, with the same arguments: x is what took effect, and `ss` what it has shown
  on_hist : (x : Took) (m : Memory) (q : Process) (b' : Map) (ss : ℕ → List Sight) → length m.nodes ≡ length w.nodes
      → length m.versions ≡ length w.versions → KeysStay (memory w) m
      → b' ≡ fed K W l.b x → q.call ≡ pr.call
      → ((j : ℕ) → j ≢ i → ss j ≡ h.sights j) → Scanning K W m (l.eff ++ (x ∷ [])) (has_call c₀) q.cursor.pred (ss i)
      → (q.effect.tick ≢ 0 → Entered K W log' (l.eff ++ (x ∷ [])) i c₀ q.effect.tick (record { answer = q.effect.answer; version = own_version q.call }))
      → ((n : ℕ) → pr.effect.tick ≡ suc n → q.effect.tick ≡ suc n)
      → ((n j : ℕ) (c : Invoked) → n ≡ length h.log → x ≡ took j c → (j ≡ i) × (c ≡ c₀) × (q.effect.tick ≡ suc n))
      → Hist K W (after m q) (saw_on ss) b' (l.eff ++ (x ∷ []))
  on_hist x m q b' ss nl vl stay be ec other sc en keep now =
      let k = l.hist in
      let s = slot_same K W w h l.b l.eff k l.core.array i i8 (step i) x m q w.tally h.pending ss h.starts h.completed faults b' in
      event_hist K W w h l.b l.eff k l.core.array i i8 (step i) x m q w.tally h.pending ss h.starts h.completed faults b' (record {
        K-same = nl;
        W-same = vl;
        map_is = be;
        keys = stay;
        others = λ j ne. (refl, other j ne);
        scanning = rw al.has sc;
        track = record {
          same = ec ∙ (k.track i).same;
          resting = λ e. absurd (busy (ap (λ (z : Call). z.kind) (sym ec) ∙ e));
          begun = omega (arith, (k.track i).begun, ap (λ (z : Call). z.start) ec, length-append h.log (step i ∷ []));
          entered = λ d e ne.
              subst (λ (c : Invoked). Entered K W log' (l.eff ++ (x ∷ [])) i c q.effect.tick (record { answer = q.effect.answer; version = own_version q.call }))
              (has_injective (sym al.has ∙ e)) (en ne);
        };
        done =
            done_grow K W w h l.b l.eff k l.core.array i i8 (step i) x m q w.tally h.pending ss h.starts h.completed faults b';
        kept = λ n j c d. d;
        old = λ n c e f. inr (e, ap (λ (z : Process). z.effect.tick) s ∙ keep n f);
        now = λ n j c e f. let o = now n j c e f in inr (
          ap h.pending o.0 ∙ al.has ∙ ap has_call (sym o.1),
          subst (λ z. (get_or (set w.state.process i q) z no_process).effect.tick ≡ suc n) (sym o.0) (ap (λ (z : Process). z.effect.tick) s ∙ o.2),
        );
        tally = k.tally;
        counted = omega (
          arith,
          k.counted,
          busy_set w.state.process i w.state.processes q below inside,
          one_busy pr.call.kind busy,
          one_busy q.call.kind (λ e. busy (ap (λ (z : Call). z.kind) (sym ec) ∙ e)),
        );
        few = omega (arith, k.few);
        no_faults = no_faults;
        past = k.past;
        pairs = k.pairs;
      })

  -- the call ends
  abbrev ending : Answer → Version → ℕ → Completed
  ending a v e = record {
    process = i;
    invoked = c₀;
    shown = h.sights i;
    told = record {
      kind = pr.call.kind;
      answer = a;
      value = v.value;
      timestamp = v.timestamp;
      start = pr.call.start;
      effect = e;
      finish = tick;
    };
    ended = tick_of h;
  }

  abbrev after_end : Answer → Version → ℕ → Seen
  after_end a v e = record {
    processes = h.processes;
    limit = h.limit;
    log = log';
    pending = updated h.pending i no_call;
    sights = h.sights;
    starts = h.starts;
    completed = ending a v e ∷ h.completed;
    queries = h.queries;
    faults = faults;
  }

  saw_end : (a : Answer) (v : Version) (e : ℕ) → after_end a v e ≡ saw_step h i (outcome_of tick pr.call (End a v e))
  unfolding saw_step outcome_of
  saw_end a v e = ap (λ (c : Pending). record {
    processes = h.processes;
    limit = h.limit;
    log = log';
    pending = updated h.pending i no_call;
    sights = h.sights;
    starts = h.starts;
    completed = finished c i (h.sights i) (ending a v e).told (tick_of h) h.completed;
    queries = h.queries;
    faults = faults;
  }) (sym al.has)

  end_hist : (x : Took) (m : Memory) (b' : Map) (a : Answer) (v : Version) (e : ℕ)
      → length m.nodes ≡ length w.nodes → length m.versions ≡ length w.versions → KeysStay (memory w) m → b' ≡ fed K W l.b x
      → (takes_effect c₀.operation ≡ true → (e ≤ tick) × Entered K W log' (l.eff ++ (x ∷ [])) i c₀ e (record { answer = a; version = v }))
      → EndedIn K W (l.eff ++ (x ∷ [])) (ending a v e) c₀.operation
      → ((n : ℕ) → pr.effect.tick ≡ suc n → e ≡ suc n)
      → ((n j : ℕ) (c : Invoked) → n ≡ length h.log → x ≡ took j c → (j ≡ i) × (c ≡ c₀) × (e ≡ suc n))
      → Hist K W (evented w i (End a v e) m) (after_end a v e) b' (l.eff ++ (x ∷ []))
  unfolding process_after tally_after
  end_hist x m b' a v e nl vl stay be en without keep now =
      let k = l.hist in
      let d₀ = ending a v e in
      let idle = updated h.pending i no_call in
      event_hist K W w h l.b l.eff k l.core.array i i8 (step i) x m idle_process (counted w.tally a) idle h.sights h.starts (d₀ ∷ h.completed) faults b' (record {
        K-same = nl;
        W-same = vl;
        map_is = be;
        keys = stay;
        others = λ j ne. (updated_other h.pending i no_call j ne, refl);
        scanning = rw (updated_same h.pending i no_call) tt;
        track =
            record { same = ap kept_of (sym (updated_same h.pending i no_call)); resting = λ z. refl; begun = omega arith; entered = λ d e ne. absurd (ne refl) };
        done = (
          record {
            kind = kind_is;
            start = start_is;
            finish = tick_is;
            ended = omega (arith, length-append h.log (step i ∷ []));
            effective = λ must. let q = en must in (omega (arith, q.0, tick_is), q.1);
            showed = shown_grow K W h.log l.eff (step i) x even c₀.operation (h.sights i) scanned.0;
            without = without;
          },
          done_grow K W w h l.b l.eff k l.core.array i i8 (step i) x m idle_process (counted w.tally a) idle h.sights h.starts (d₀ ∷ h.completed) faults b',
        );
        kept = λ n j c d. inr d;
        old = λ n c q f. inl (inl (refl, has_injective (sym al.has ∙ q), keep n f));
        now = λ n j c q f. let o = now n j c q f in inl (inl (sym o.0, sym o.1, o.2));
        tally = tally_counts w.tally h.completed d₀ l.core.tally
            (omega (arith, k.counted, k.few, k.ticks, l.core.events, l.core.limit.1)) k.tally;
        counted = omega (
          arith,
          k.counted,
          busy_set w.state.process i w.state.processes idle_process below inside,
          one_busy pr.call.kind busy,
          none_busy Idle refl,
        );
        few = omega (arith, k.few);
        no_faults = no_faults;
        past = λ j c ks. by_eq j i
            (λ q. absurd (no≢has (sym (updated_same h.pending i no_call) ∙ ap idle (sym q) ∙ ks)))
            (λ ne. ((λ z. absurd (ne (sym z))), k.past j c (sym (updated_other h.pending i no_call j ne) ∙ ks)));
        pairs = (k.past i c₀ al.has, k.pairs);
      })

  -- ---- by the move

  -- the effect of this event is this call's
  now_took : (e : ℕ) → e ≡ tick → (n j : ℕ) (c : Invoked) → n ≡ length h.log → took i c₀ ≡ took j c
      → (j ≡ i) × (c ≡ c₀) × (e ≡ suc n)
  now_took e ee n j c en ex = (cc, cc, omega (arith, tick_is))

  commit_hist : (m : Memory) (c : Cursor) (a : Answer) (b' : Map) → length m.nodes ≡ length w.nodes
      → length m.versions ≡ length w.versions → KeysStay (memory w) m → (Scans pr → ⊥)
      → Does (memory w) pr tick l.b b' (Commit c a)
      → Hist K W (evented w i (Commit c a) m) (saw_step h i (outcome_of tick pr.call (Commit c a))) b' (l.eff ++ (took i c₀ ∷ []))
  unfolding saw_step outcome_of process_after tally_after fed
  commit_hist m c a b' nl vl stay apart d =
      let put : put_in K W l.b pr.call.key (own_version pr.call) ≡ Seq.answered b' a = rw (l.hist.K-is, l.hist.W-is) at d.2 in
      on_hist (took i c₀) m (record { call = pr.call; cursor = c; effect = record { answer = a; tick = tick }; preds = pr.preds }) b' h.sights nl vl stay
      (fed_of (puts b' a d.0 put)) refl (λ j ne. refl) (near (took i c₀) m c.pred stay (λ s. absurd (apart s)))
      (λ ne. entered_cast (sym tick_is) refl (entered_now K W h.log l.eff (step i) (took i c₀) even i c₀
      (record { answer = a; version = own_version pr.call }) refl refl begun
      (reply_of (puts b' a d.0 put))))
      (λ n e. absurd (omega (arith, d.1))) (now_took tick refl)

  -- a get, a put whose effect is behind it, or a scan
  end_live : (m : Memory) (a : Answer) (v : Version) (e : ℕ) (G : Good (memory w) l.g i pr tick l.b (End a v e) m)
      → Locked (memory w) i tick pr (moved m (End a v e)) → (Scans pr → ScanDoes (memory w) pr l.b (End a v e))
      → Ending pr tick l.b a v e
      → LiveFrom from K W (evented w i (End a v e) m) (after_end a v e)
  unfolding fed
  end_live m a v e G lk sd (inl d) = record {
    g = G.g';
    b = G.b';
    eff = l.eff ++ (took i c₀ ∷ []);
    grows = grows_on from l.eff (took i c₀) l.grows;
    core = step_core (End a v e) m G lk;
    hist = end_hist (took i c₀) m G.b' a v e G.node_words_lem G.version_words_lem (keys_stay G)
        (G.does.0 ∙ fed_of (gets (record { answer = a; version = v }) d.0 d.3))
        (λ must. (
          omega (arith, d.2),
          entered_cast (sym (d.2 ∙ tick_is)) refl (entered_now K W h.log l.eff (step i) (took i c₀) even i c₀ (record { answer = a; version = v }) refl refl begun
              (reply_of (gets (record { answer = a; version = v }) d.0 d.3))),
        ))
        (ends_with (took i c₀) (ending a v e) c₀.operation (λ t. scan_no_get pr.call.kind (scans t) d.0))
        (λ n q. absurd (omega (arith, d.1))) (now_took e d.2);
  }
  end_live m a v e G lk sd (inr (inl d)) =
      let en = (l.hist.track i).entered c₀ al.has d.1 in
      record {
        g = G.g';
        b = G.b';
        eff = l.eff ++ (nothing ∷ []);
        grows = grows_on from l.eff (nothing) l.grows;
        core = step_core (End a v e) m G lk;
        hist = end_hist nothing m G.b' a v e G.node_words_lem G.version_words_lem (keys_stay G) G.does.0
            (λ must. (
              omega (arith, d.2, en.tick_is, en.within, even, tick_is),
              entered_cast (sym d.2) (rw (d.3, d.4) refl) (entered_grow K W h.log l.eff (step i) nothing even en),
            ))
            (ends_with nothing (ending a v e) c₀.operation (λ t. scan_no_put pr.call.kind (scans t) d.0))
            (λ n q. d.2 ∙ q) (λ n j c q f. absurd (nothing≢took f));
      }
  end_live m a v e G lk sd (inr (inr d)) =
      let is : T (is_scan (kind_of c₀.operation)) = rw kind_is at d.0 in
      record {
        g = G.g';
        b = G.b';
        eff = l.eff ++ (nothing ∷ []);
        grows = grows_on from l.eff (nothing) l.grows;
        core = step_core (End a v e) m G lk;
        hist = end_hist nothing m G.b' a v e G.node_words_lem G.version_words_lem (keys_stay G) G.does.0
            (λ must. absurd (T-absurd (takes_effect c₀.operation) (T_true must) (no_effect_lem c₀.operation is)))
            (scanning_ends K W (memory w) m l.g l.b l.eff l.core.nodes l.core.book (keys_stay G) h.log (step i) even l.hist.book_is
            (ending a v e) pr.cursor.pred is (rw (d.3, d.4) refl) d.2 (λ ne. rw (← last_is) (sd d.0 ne)) scanned)
            (λ n q. absurd (omega (arith, d.1))) (λ n j c q f. absurd (nothing≢took f));
      }
    where
      no_effect_lem : (op : Operation) → T (is_scan (kind_of op)) → T (not (takes_effect op))
      no_effect_lem (put k v t draw) is = absurd is
      no_effect_lem (get k) is = absurd is
      no_effect_lem (scan first last) is = tt

  -- nothing took effect
  quiet_live : (v : Move) (m : Memory) (q : Process) (ss : ℕ → List Sight) (G : Good (memory w) l.g i pr tick l.b v m)
      → Core (after m q) G.g' G.b' → G.b' ≡ l.b → q.call ≡ pr.call → q.effect ≡ pr.effect
      → ((j : ℕ) → j ≢ i → ss j ≡ h.sights j) → Scanning K W m (l.eff ++ (nothing ∷ [])) (has_call c₀) q.cursor.pred (ss i)
      → LiveFrom from K W (after m q) (saw_on ss)
  unfolding fed
  quiet_live v m q ss G core be ec ee other sc = record {
    g = G.g';
    b = G.b';
    eff = l.eff ++ (nothing ∷ []);
    grows = grows_on from l.eff nothing l.grows;
    core = core;
    hist = on_hist nothing m q G.b' ss G.node_words_lem G.version_words_lem (keys_stay G) be ec other sc
        (λ ne. rw (ec, ee) (entered_grow K W h.log l.eff (step i) nothing even ((l.hist.track i).entered c₀ al.has (rw ee at ne))))
        (λ n e. rw ee e) (λ n j c e f. absurd (nothing≢took f));
  }

  move_live : (v : Move) (m : Memory) → Good (memory w) l.g i pr tick l.b v m → Locked (memory w) i tick pr (moved m v)
      → (Scans pr → ScanDoes (memory w) pr l.b v)
      → LiveFrom from K W (store_after w i v m) (saw_step h i (outcome_of tick pr.call v))
  unfolding process_after tally_after outcome_of saw_step
  move_live Refuse m G lk sd = absurd G.does
  move_live Wait m G lk sd = quiet_live Wait m pr h.sights G (step_core Wait m G lk) G.does refl refl (λ j ne. refl)
      (near nothing m pr.cursor.pred (keys_stay G) (λ s. absurd (sd s)))
  move_live (Go c) m G lk sd =
      quiet_live (Go c) m (process_after tick pr (Go c)) h.sights G (step_core (Go c) m G lk) G.does.0 refl refl (λ j ne. refl)
      (near nothing m c.pred (keys_stay G) sd)
  move_live (Note c) m G lk sd =
      quiet_live (Note c) m (process_after tick pr (Note c)) h.sights G (step_core (Note c) m G lk) G.does.0 refl refl (λ j ne. refl)
      (near nothing m c.pred (keys_stay G) sd)
  move_live (Commit c a) m G lk sd = record {
    g = G.g';
    b = G.b';
    eff = l.eff ++ (took i c₀ ∷ []);
    grows = grows_on from l.eff (took i c₀) l.grows;
    core = step_core (Commit c a) m G lk;
    hist = commit_hist m c a G.b' G.node_words_lem G.version_words_lem (keys_stay G) sd G.does;
  }
  move_live (Show c x) m G lk sd =
      let s : Sight = record { item = x; tick = tick_of h } in
      quiet_live (Show c x) m (process_after tick pr (Show c x)) (updated h.sights i (s ∷ h.sights i)) G (step_core (Show c x) m G lk)
      G.does.0 refl refl (λ j ne. updated_other h.sights i (s ∷ h.sights i) j ne)
      (rw (updated_same h.sights i (s ∷ h.sights i)) (shows m c x (keys_stay G) G.does.2 (sd G.does.2)))
  move_live (End a v e) m G lk sd =
      subst (λ (s : Seen). LiveFrom from K W (evented w i (End a v e) m) s) (saw_end a v e) (end_live m a v e G lk sd G.does.1)

  pub granted_live : LiveFrom from K W (store_after w i (transition_of (i + 1) tick pr (memory w)).move (transition_of (i + 1) tick pr (memory w)).memory)
      (saw_step h i (outcome_of tick pr.call (transition_of (i + 1) tick pr (memory w)).move))
  granted_live =
      let k = l.core in
      let r = transition_of (i + 1) tick pr (memory w) in
      move_live r.move r.memory (transition_good (memory w) l.g i pr tick l.b k.nodes k.book (omega arith) (k.fits i) busy)
      (step_locked (memory w) i tick pr k.nodes.size k.nodes.room (k.locks i) basic.0 basic.1 busy)
      (transition_scans (memory w) l.g i pr tick l.b k.nodes k.book (k.fits i) busy)
    where
      basic : (pr.cursor.level < levels) × (pr.cursor.pred ≤ w.state.counts.nodes)
      basic =
          Rattle.linearizability.proofs.Transition.basic (memory w) l.g i pr tick l.b l.core.nodes l.core.book (l.core.fits i) busy

-- ---- any step

pub step_live : {from : List Took} {K W : ℕ} {w : Store} {h : Seen} → LiveFrom from K W w h → (i : ℕ)
    → LiveFrom from K W (step_of w i).store (saw_step h i (step_of w i).outcome)
unfolding step_of
step_live {from} {K} {W} {w} {h} l i = rw due (go (seen_due h (step i)) refl)
  where
    r : Moved
    r = transition_of (i + 1) (w.state.events + 1) (slot w i) (memory w)

    due : step_permit w i ≡ seen_due h (step i)
    due =
        let k = l.hist in
        unfold step_permit due in (rw (
          core_lawful l.core,
          is_true (eqb (length w.tally) limits.tally) (eq→eqb (length w.tally) limits.tally l.core.tally),
          k.processes_is,
          k.limit_is,
          k.ticks,
          (k.track i).same,
          idle_free (h.pending i),
        ) refl)

    go : (d : Permit) → seen_due h (step i) ≡ d → LiveFrom from K W (step_by d w i r).store (saw_step h i (step_by d w i r).outcome)
    go (Err n) e = unfold step_by saw_step in (due_denied (seen_due h (step i)) n e l)
    go (Ok _) e = unfold step_by in (granted_live l i e)
