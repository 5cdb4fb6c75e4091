-- The claim after a list: the ghost list of effects is what is read off answers and status, tick by tick.
use Prim.Native.Nat.{ℕ, zero, suc, ◌+◌, ◌≤◌, ◌<◌}
use mathlib.Core.Bool.{false, not}
use mathlib.Core.List.{List, [], ◌∷◌, ◌++◌}
use mathlib.Core.Logic.{◌≢◌, ◌⊎◌, inl, inr}
use mathlib.Core.Path.{◌≡◌, refl, sym, ap, ◌∙◌, subst}
use native.Mathlib.Omega.{arith}
use lib.Dec.{T, eqb}
use lib.ListN.{length, get_or, take}
use lib.Seq.{take-suc, take_all}
use Rattle.linearizability.specs.Types.{Kind, Idle, Put, Get, Scan, Call, Process}
use Rattle.std.specs.Prelude.{if◌then◌else◌}
use Rattle.model.specs.Requests.{Operation, put, get, scan, kind_of}
use Rattle.model.specs.Map.{Map, applied}
use Rattle.model.specs.Calls.{Store, standing, status_of}
use Rattle.model.specs.System.{view_of}
use Rattle.model.specs.History.{Action, step, look, Invoked, Pending, no_call, has_call, Sight, Completed, Query, History, events_in, log_of, pending_in, sights_in, completed_in, queries_in}
use Rattle.model.specs.ByValue.{by_value}
use Rattle.model.specs.Linearizability.{Effected, takes_effect, must_take_effect, completed_effects, shown_effect, running_effects, effects_of, fed_at, map_after, map_before, All, Any, Distinct, StepAt, reply_told, Shows, EndsWithout, Settled, StandsFor, HasShown, AnswersFrom, running_as, running_below, counts_of, Demanded, Beyond, Claim}
use Rattle.model.specs.Roles.{is_idle, is_scan}
use Rattle.model.proofs.Tests.{if-by, if-eq, if_no, by_eq, by_le, ne→neqb, is_true}
use Rattle.linearizability.proofs.Effects.{Took, nothing, took, fed, played, played_snoc, all_map, nothing≢took, Entered, ShownIn, EndedIn, Settles}
use Rattle.linearizability.proofs.Following.{scan_unset}
use Rattle.linearizability.proofs.Scanning.{Scanning}
use Rattle.linearizability.proofs.Live.{memory, slot, kept_of, kept_kind, kind≢idle, has_injective, EndedAt, Pairs, busy_below, Hist, LiveFrom, status_is, status_beyond}
use Rattle.linearizability.proofs.Started.{kept_start}
use Rattle.linearizability.proofs.Due.{LookSaid, refusals_due, ticks_told, no_damage}
use Rattle.linearizability.proofs.Rested.{idle_sound, busy_inspects}
use Rattle.model.proofs.Seen.{Seen, seen, effects_seen, effects_seen_lem}

-- ---- lists

all_append : {A : Type 0} (P : A → Type 0) (l m : List A) → All P l → All P m → All P (l ++ m)
all_append P [] m a b = b
all_append P (e ∷ l) m a b = (a.0, all_append P l m a.1 b)

any_left : {A : Type 0} (P : A → Type 0) (l m : List A) → Any P l → Any P (l ++ m)
any_left P [] m a = absurd a
any_left P (e ∷ l) m (inl p) = inl p
any_left P (e ∷ l) m (inr a) = inr (any_left P l m a)

any_right : {A : Type 0} (P : A → Type 0) (l m : List A) → Any P m → Any P (l ++ m)
any_right P [] m a = a
any_right P (e ∷ l) m a = inr (any_right P l m a)

pub any_map : {A : Type 0} (P Q : A → Type 0) → ((x : A) → P x → Q x) → (l : List A) → Any P l → Any Q l
any_map P Q f [] a = a
any_map P Q f (e ∷ l) (inl p) = inl (f e p)
any_map P Q f (e ∷ l) (inr a) = inr (any_map P Q f l a)

-- ---- the list that the claim reads: entries by their tick

abbrev pub Is : (process : ℕ) → Invoked → (tick : ℕ) → Effected → Type 0
Is i c t e = (e.process ≡ i) × (e.invoked ≡ c) × (e.tick ≡ t)

-- the calls with tick n + 1 are all this one, and there is one
fed_is : (es : List Effected) (n i : ℕ) (c : Invoked) (K W : ℕ) (b : Map)
    → All (λ (e : Effected). e.tick ≡ suc n → took e.process e.invoked ≡ took i c) es → Any (Is i c (suc n)) es
    → fed_at es (suc n) K W b ≡ fed K W b (took i c)
unfolding fed_at fed
fed_is [] n i c K W b a y = absurd y
fed_is (e ∷ es) n i c K W b a y = if-eq (λ (z : Map). z ≡ (applied K W b c.operation).map) e.tick (suc n)
    (λ q. let s : e.invoked ≡ c = same (a.0 q) in ap (λ (z : Invoked). (applied K W b z.operation).map) s)
    (λ q. fed_is es n i c K W b a.1 (rest q y))
  where
    same : {j : ℕ} {d : Invoked} → took j d ≡ took i c → d ≡ c
    same q = cc

    rest : e.tick ≢ suc n → Any (Is i c (suc n)) (e ∷ es) → Any (Is i c (suc n)) es
    rest q (inl z) = absurd (q z.2)
    rest q (inr z) = z

fed_none : (es : List Effected) (n : ℕ) (K W : ℕ) (b : Map) → All (λ (e : Effected). e.tick ≡ suc n → ⊥) es
    → fed_at es (suc n) K W b ≡ b
unfolding fed_at
fed_none [] n K W b a = refl
fed_none (e ∷ es) n K W b a = if_no (eqb e.tick (suc n)) _ _ (ne→neqb e.tick (suc n) a.0) ∙ fed_none es n K W b a.1

-- ---- what standing shows

-- of a process in order
shown : (pr : Process) (i : ℕ) (c : Pending) → pr.call ≡ kept_of c → (pr.call.kind ≡ Idle → pr.effect.tick ≡ 0)
    → (P : List Effected → Type 0) → (pr.effect.tick ≡ 0 → P [])
    → ((d : Invoked) → c ≡ has_call d → pr.effect.tick ≢ 0 → P (record { process = i; invoked = d; tick = pr.effect.tick } ∷ []))
    → P (shown_effect (standing pr.call.kind pr) i c)
shown pr i no_call e rest P none one = by pr.call.kind
  where
    nothing_yet : P []
    nothing_yet = none (rest (ap (λ (c : Call). c.kind) e))

    by : (k : Kind) → P (shown_effect (standing k pr) i no_call)
    by Idle = unfold standing shown_effect in nothing_yet
    by Put = unfold standing shown_effect in nothing_yet
    by Get = unfold standing shown_effect in nothing_yet
    by Scan = unfold standing shown_effect in nothing_yet
shown pr i (has_call d) e rest P none one = by pr.call.kind rest
  where
    by : (k : Kind) → (k ≡ Idle → pr.effect.tick ≡ 0) → P (shown_effect (standing k pr) i (has_call d))
    by Idle r = unfold standing shown_effect in (none (r refl))
    by Put r = unfold standing shown_effect in (if-eq P pr.effect.tick 0 none (one d refl))
    by Get r = unfold standing shown_effect in (if-eq P pr.effect.tick 0 none (one d refl))
    by Scan r = unfold standing shown_effect in (if-eq P pr.effect.tick 0 none (one d refl))

stands_for : (log : List Action) (i : ℕ) (c : Pending) (pr : Process) → pr.call ≡ kept_of c
    → ((d : Invoked) → c ≡ has_call d → takes_effect d.operation ≡ false → pr.effect.tick ≡ 0)
    → ((d : Invoked) → c ≡ has_call d → pr.effect.tick ≢ 0 → StepAt log pr.effect.tick i × (d.start < pr.effect.tick))
    → StandsFor log i c (standing pr.call.kind pr)
stands_for log i no_call pr e u t =
    subst (λ k. StandsFor log i no_call (standing k pr)) (sym (ap (λ (c : Call). c.kind) e)) (unfold standing in tt)
stands_for log i (has_call d) pr e u t =
    let kind : pr.call.kind ≡ kind_of d.operation = ap (λ (c : Call). c.kind) e ∙ kept_kind d.operation d.start in
    subst (λ k. StandsFor log i (has_call d) (standing k pr)) (sym kind) (by d.operation refl)
  where
    begun : pr.call.start ≡ d.start
    begun = ap (λ (c : Call). c.start) e ∙ kept_start d.operation d.start

    by : (op : Operation) → d.operation ≡ op → StandsFor log i (has_call d) (standing (kind_of op) pr)
    by (put k v s draw) q = unfold standing in (ap kind_of (sym q), begun, u d refl, t d refl)
    by (get k) q = unfold standing in (ap kind_of (sym q), begun, u d refl, t d refl)
    by (scan first last) q = unfold standing in (ap kind_of (sym q), begun, u d refl, t d refl)

shown_runs : (k : Kind) (pr : Process) → running_as (standing k pr) ≡ (if is_idle k then 0 else 1)
unfolding standing
shown_runs Idle pr = refl
shown_runs Put pr = refl
shown_runs Get pr = refl
shown_runs Scan pr = refl

-- ---- finished calls

-- a call that takes no effect is told so
told_unset : (K W : ℕ) (eff : List Took) (d : Completed) (op : Operation) → T (not (takes_effect op)) → EndedIn K W eff d op → d.told.effect ≡ 0
told_unset K W eff d (put k v t draw) u e = absurd u
told_unset K W eff d (get k) u e = absurd u
told_unset K W eff d (scan first last) u e = e.1

any_ended : (K W : ℕ) (log : List Action) (eff : List Took) (n i : ℕ) (c : Invoked) (l : List Completed) → All (Settles K W log eff) l
    → Any (EndedAt n i c) l → Any (Is i c (suc n)) (completed_effects l)
unfolding completed_effects
any_ended K W log eff n i c [] s a = a
any_ended K W log eff n i c (d ∷ l) s (inl p) =
    if-by (λ (es : List Effected). Any (Is i c (suc n)) es) (must_take_effect d) (λ t. inl p)
    (λ u. absurd (omega (arith, p.2, told_unset K W eff d d.invoked.operation u s.0.without)))
any_ended K W log eff n i c (d ∷ l) s (inr b) =
    let rest = any_ended K W log eff n i c l s.1 b in
    if-by (λ (es : List Effected). Any (Is i c (suc n)) es) (must_take_effect d) (λ t. inr rest) (λ u. rest)

module _ {from : List Took} {K W : ℕ} {w : Store} {h : Seen} (v : LiveFrom from K W w h) where
  abbrev k : Hist K W w h v.b v.eff
  k = v.hist

  abbrev es : List Effected
  es = effects_seen (status_of w.state) h

  abbrev tick_at : ℕ → ℕ
  tick_at i = (slot w i).effect.tick

  -- each entry stands in the ghost list of effects
  abbrev pub Stands : Effected → Type 0
  Stands e = (n : ℕ) × (e.tick ≡ suc n) × (n < length v.eff) × (get_or v.eff n nothing ≡ took e.process e.invoked)

  entered : (i : ℕ) (d : Invoked) → h.pending i ≡ has_call d → tick_at i ≢ 0 → Stands (record { process = i; invoked = d; tick = tick_at i })
  entered i d q ne = let e = (k.track i).entered d q ne in (e.before, e.tick_is, e.within, e.took_is)

  abbrev shown_at : ℕ → List Effected
  shown_at n = shown_effect (standing (slot w n).call.kind (slot w n)) n (h.pending n)

  abbrev running_to : ℕ → List Effected
  running_to n = running_effects (status_of w.state) h.pending n

  all_running : (P : Effected → Type 0) (n : ℕ) → n ≤ w.state.processes
      → ((i : ℕ) → i < n → (d : Invoked) → h.pending i ≡ has_call d → tick_at i ≢ 0 → P (record { process = i; invoked = d; tick = tick_at i }))
      → All P (running_to n)
  unfolding running_effects
  all_running P zero le f = tt
  all_running P (suc n) le f = rw (status_is v.core n (omega arith)) (all_append P (shown_at n) (running_to n)
      (shown (slot w n) n (h.pending n) (k.track n).same (k.track n).resting (λ (l : List Effected). All P l) (λ e. tt) (λ d e ne. (f n (omega arith) d e ne, tt)))
      (all_running P n (omega arith) (λ i lt. f i (omega arith))))

  any_running : (n i t : ℕ) (c : Invoked) → n ≤ w.state.processes → i < n → h.pending i ≡ has_call c → tick_at i ≡ suc t
      → Any (Is i c (suc t)) (running_to n)
  unfolding running_effects
  any_running zero i t c le lt ei e = absurd (omega arith)
  any_running (suc n) i t c le lt ei e = rw (status_is v.core n (omega arith)) (by_eq i n
      (λ q. any_left (Is i c (suc t)) (shown_at n) (running_to n)
      (shown (slot w n) n (h.pending n) (k.track n).same (k.track n).resting (λ (l : List Effected). Any (Is i c (suc t)) l)
      (λ z. absurd (omega (arith, subst (λ j. tick_at j ≡ suc t) q e)))
      (λ d z ne. inl (sym q, has_injective (sym z ∙ ap h.pending (sym q) ∙ ei), subst (λ j. tick_at j ≡ suc t) q e))))
      (λ q. any_right (Is i c (suc t)) (shown_at n) (running_to n) (any_running n i t c (omega arith) (omega arith) ei e)))

  stands_done : (l : List Completed) → All (Settles K W h.log v.eff) l → All Stands (completed_effects l)
  unfolding completed_effects
  stands_done [] a = tt
  stands_done (d ∷ l) a = if-by (All Stands) (must_take_effect d)
      (λ t. let e = (a.0.effective (is_true (must_take_effect d) t)).1 in ((e.before, e.tick_is, e.within, e.took_is), stands_done l a.1))
      (λ u. stands_done l a.1)

  processes_le : h.processes ≤ w.state.processes
  processes_le = omega (arith, k.processes_is)

  pub stands : All Stands es
  unfolding effects_seen
  stands = all_append Stands (completed_effects h.completed) (running_to h.processes)
      (stands_done h.completed k.done) (all_running Stands h.processes processes_le (λ i lt d e ne. entered i d e ne))

  -- and each effect of the ghost list stands in ours
  pub complete : (n i : ℕ) (c : Invoked) → get_or v.eff n nothing ≡ took i c → Any (Is i c (suc n)) es
  unfolding effects_seen
  complete n i c q = go (k.nothing_else n i c q)
    where
      below : (j : ℕ) → tick_at j ≡ suc n → j < h.processes
      below j e = by_le w.state.processes j
          (λ le. absurd (omega (arith, (k.track j).resting (v.core.beyond j le))))
          (λ lt. omega (arith, k.processes_is))

      go : Any (EndedAt n i c) h.completed ⊎ ((h.pending i ≡ has_call c) × (tick_at i ≡ suc n))
          → Any (Is i c (suc n)) (completed_effects h.completed ++ running_to h.processes)
      go (inl a) =
          any_left (Is i c (suc n)) (completed_effects h.completed) (running_to h.processes) (any_ended K W h.log v.eff n i c h.completed k.done a)
      go (inr r) =
          any_right (Is i c (suc n)) (completed_effects h.completed) (running_to h.processes)
          (any_running h.processes i n c processes_le (below i r.1) r.0 r.1)

  same_index : {a n : ℕ} → a ≡ suc n → (j : ℕ) → a ≡ suc j → n ≡ j
  same_index p j q = omega arith

  -- the entry's place in the ghost list is that of its tick
  at_index : (n : ℕ) (e : Effected) (s : Stands e) → e.tick ≡ suc n → get_or v.eff n nothing ≡ took e.process e.invoked
  at_index n e s q =
      subst (λ j. get_or v.eff j nothing ≡ took e.process e.invoked) (sym (same_index q s.0 s.1)) s.3

  fed_at_lem : (n : ℕ) (b : Map) → fed_at es (suc n) K W b ≡ fed K W b (get_or v.eff n nothing)
  fed_at_lem n b = go (get_or v.eff n nothing) refl
    where
      go : (x : Took) → get_or v.eff n nothing ≡ x → fed_at es (suc n) K W b ≡ fed K W b x
      go nothing e =
          fed_none es n K W b (all_map (λ f s q. nothing≢took (sym e ∙ at_index n f s q)) es stands) ∙ (unfold fed in refl)
      go (took i c) e = fed_is es n i c K W b (all_map (λ f s q. sym (at_index n f s q) ∙ e) es stands) (complete n i c e)

  -- the map fed tick by tick is the ghost list played
  map_is : (n : ℕ) → n ≤ length v.eff → map_after es n K W ≡ played K W [] (take n v.eff)
  unfolding map_after played
  map_is zero le = refl
  map_is (suc n) le =
      ap (λ (b : Map). fed_at es (suc n) K W b) (map_is n (omega arith))
      ∙ fed_at_lem n (played K W [] (take n v.eff))
      ∙ sym (played_snoc K W [] (take n v.eff) (get_or v.eff n nothing))
      ∙ ap (λ l. played K W [] l) (sym (take-suc v.eff n nothing (omega arith)))

  -- a tick and the event there
  step_at : {i t : ℕ} (n : ℕ) → t ≡ suc n → get_or h.log n (look 0 0) ≡ step i → StepAt h.log t i
  step_at {i} n e q = subst (λ t. StepAt h.log t i) (sym e) q

  before_is : (t n : ℕ) → t ≡ suc n → n ≤ length v.eff → map_before es t K W ≡ played K W [] (take n v.eff)
  before_is t n e le = ap (λ t. map_before es t K W) e ∙ map_is n le

  -- what was shown, by the map of its tick
  shows : (op : Operation) (ss : List Sight) → ShownIn K W v.eff op ss → Shows K W es op ss
  shows (put k v t draw) ss h = h
  shows (get k) ss h = h
  shows (scan first last) ss h = (
    all_map (λ s q. record { above = q.0; below = q.1; newest = rw (map_is s.tick q.2) q.3 }) ss h.0,
    h.1,
  )

  settled : (d : Completed) → Settles K W h.log v.eff d → Settled K W h.log es d
  settled d q = record {
    reported = record { kind = q.kind; start = q.start; finish = q.finish };
    took_effect = λ must. let e = (q.effective must).1 in record {
      own_step = step_at e.before e.tick_is e.own_step;
      after_start = e.after_start;
      in_time = omega (arith, (q.effective must).0, q.finish);
      answer = ap (λ (b : Map). (applied K W b d.invoked.operation).reply) (before_is d.told.effect e.before e.tick_is (omega (arith, e.within)))
          ∙ e.replies;
    };
    showed = shows d.invoked.operation d.shown q.showed;
    ended = ends d.invoked.operation q.without;
  }
    where
      ends : (op : Operation) → EndedIn K W v.eff d op → EndsWithout K W es d op
      ends (put k v t draw) e = tt
      ends (get k) e = tt
      ends (scan first last) e = record { answer = e.0; effect = e.1; whole = rw (map_is d.invoked.start e.2) e.3 }

  -- ---- no two effects at one tick

  -- two entries with one tick are one process's
  clash : (e f : Effected) → Stands e → Stands f → f.tick ≡ e.tick → f.process ≡ e.process
  clash e f p q t =
      let a : took e.process e.invoked ≡ took f.process f.invoked = sym (at_index p.0 e p p.1) ∙ at_index p.0 f q (t ∙ p.1) in
      cc

  running_apart : (n : ℕ) → n ≤ w.state.processes → Distinct (running_to n)
  unfolding running_effects
  running_apart zero le = tt
  running_apart (suc n) le = rw (status_is v.core n (omega arith))
      (shown (slot w n) n (h.pending n) (k.track n).same (k.track n).resting (λ (l : List Effected). Distinct (l ++ running_to n))
      (λ e. running_apart n (omega arith))
      (λ c e ne. (all_running (λ (f : Effected). f.tick ≢ tick_at n) n (omega arith) (λ i lt d q ni z. apart i lt d q ni c e ne z), running_apart n (omega arith))))
    where
      apart : (i : ℕ) → i < n → (d : Invoked) → h.pending i ≡ has_call d → tick_at i ≢ 0 → (c : Invoked) → h.pending n ≡ has_call c → tick_at n ≢ 0
          → tick_at i ≡ tick_at n → ⊥
      apart i lt d q ni c e ne z = omega (
        arith,
        clash (record { process = n; invoked = c; tick = tick_at n }) (record { process = i; invoked = d; tick = tick_at i }) (entered n c e ne) (entered i d q ni) z,
      )

  done_apart : (l : List Completed) → All (Settles K W h.log v.eff) l → Pairs l
      → ((i : ℕ) (c : Invoked) → h.pending i ≡ has_call c → All (λ (d : Completed). d.process ≡ i → d.ended < c.start) l)
      → Distinct (completed_effects l ++ running_to h.processes)
  unfolding completed_effects
  done_apart [] a p r = running_apart h.processes processes_le
  done_apart (d ∷ l) a p r = let rest = done_apart l a.1 p.1 (λ i c e. (r i c e).1) in
      if-by (λ (es : List Effected). Distinct (es ++ running_to h.processes)) (must_take_effect d)
      (λ t. (
        all_append (λ (f : Effected). f.tick ≢ d.told.effect) (completed_effects l) (running_to h.processes)
            (older t l a.1 p.0) (all_running (λ (f : Effected). f.tick ≢ d.told.effect) h.processes processes_le (λ i lt c e ne q. later t i c e ne q)),
        rest,
      ))
      (λ u. rest)
    where
      ed : T (must_take_effect d) → Entered K W h.log v.eff d.process d.invoked d.told.effect (reply_told d.told)
      ed t = (a.0.effective (is_true (must_take_effect d) t)).1

      here : Effected
      here = record { process = d.process; invoked = d.invoked; tick = d.told.effect }

      later : T (must_take_effect d) → (i : ℕ) (c : Invoked) → h.pending i ≡ has_call c → tick_at i ≢ 0 → tick_at i ≡ d.told.effect → ⊥
      later t i c q ne z =
          let e = (k.track i).entered c q ne in
          let s = ed t in
          let y = clash here (record { process = i; invoked = c; tick = tick_at i }) (s.before, s.tick_is, s.within, s.took_is) (entered i c q ne) z in
          omega (arith, (r i c q).0 (sym y), e.after_start, (a.0.effective (is_true (must_take_effect d) t)).0)

      older : T (must_take_effect d) → (ds : List Completed) → All (Settles K W h.log v.eff) ds
          → All (λ (e : Completed). e.process ≡ d.process → e.ended < d.invoked.start) ds
          → All (λ (f : Effected). f.tick ≢ d.told.effect) (completed_effects ds)
      older must [] s t = unfold completed_effects in tt
      older must (e ∷ ds) s t = unfold completed_effects in (
          if-by (All (λ (f : Effected). f.tick ≢ d.told.effect)) (must_take_effect e)
          (λ z. (
            (λ q.
                (let c = ed must in
                let en = s.0.effective (is_true (must_take_effect e) z) in
                let y = clash here (record { process = e.process; invoked = e.invoked; tick = e.told.effect }) (c.before, c.tick_is, c.within, c.took_is)
                (en.1.before, en.1.tick_is, en.1.within, en.1.took_is) q in
                omega (arith, t.0 y, c.after_start, en.0))),
            older must ds s.1 t.1,
          ))
          (λ z. older must ds s.1 t.1))

  -- ---- the claim

  runs_below : (n : ℕ) → n ≤ w.state.processes → running_below (status_of w.state) n ≡ busy_below w.state.process n
  unfolding running_below busy_below
  runs_below zero le = refl
  runs_below (suc n) le =
      rw (status_is v.core n (omega arith), shown_runs (slot w n).call.kind (slot w n), runs_below n (omega arith))

  timely : (i : ℕ) (d : Invoked) → h.pending i ≡ has_call d → tick_at i ≢ 0 → StepAt h.log (tick_at i) i × (d.start < tick_at i)
  timely i d q ne = let e = (k.track i).entered d q ne in (step_at e.before e.tick_is e.own_step, e.after_start)

  unset : (i : ℕ) (d : Invoked) → h.pending i ≡ has_call d → takes_effect d.operation ≡ false → tick_at i ≡ 0
  unset i d q u = by d.operation u kind
    where
      kind : (slot w i).call.kind ≡ kind_of d.operation
      kind = ap (λ (c : Call). c.kind) ((k.track i).same ∙ ap kept_of q) ∙ kept_kind d.operation d.start

      by : (op : Operation) → takes_effect op ≡ false → (slot w i).call.kind ≡ kind_of op → tick_at i ≡ 0
      by (put k v t draw) u e = cc
      by (get k) u e = cc
      by (scan first last) u e =
          scan_unset (slot w i) (v.core.fits i) (λ z. kind≢idle (scan first last) (sym e ∙ z)) (subst (λ z. T (is_scan z)) (sym e) tt)

  has_shown : (i : ℕ) → HasShown K W es (h.pending i) (h.sights i)
  has_shown i = by (h.pending i) (k.scanning i)
    where
      by : (c : Pending) → Scanning K W (memory w) v.eff c (slot w i).cursor.pred (h.sights i) → HasShown K W es c (h.sights i)
      by no_call s = tt
      by (has_call c) s = shows c.operation (h.sights i) s.0

  looks_right : All (λ (q : Query). AnswersFrom (map_after es q.tick K W) q) h.queries
  looks_right = all_map (λ q a lawful. rw (map_is q.tick a.0) (rw lawful at a.1)) h.queries k.looks

  looks_said : All LookSaid h.queries
  looks_said = all_map (λ q a. (played K W [] (take q.tick v.eff), a.1)) h.queries k.looks

  counts_are : w.state.counts ≡ counts_of (map_after es (length h.log) K W)
  counts_are =
      let whole : take (length h.log) v.eff ≡ v.eff = take_all (length h.log) v.eff (omega (arith, k.ticks, k.one_each)) in
      let m : map_after es (length h.log) K W ≡ v.b =
      map_is (length h.log) (omega (arith, k.ticks, k.one_each)) ∙ ap (λ l. played K W [] l) whole ∙ sym k.book_is in
      rw (m, v.core.book.count, ← v.core.book.sum)

module _ {from : List Took} {K W : ℕ} {w : Store} (h : History) (v : LiveFrom from K W w (seen h)) where
  abbrev these : List Effected → Type 0
  these es = (All (Settled K W (log_of h.entries) es) (completed_in h.entries))
      × Distinct es
      × (All (λ (q : Query). AnswersFrom (map_after es q.tick K W) q) (queries_in h.entries))
      × (w.state.counts ≡ counts_of (map_after es (events_in h.entries) K W))
      × ((i : ℕ) → HasShown K W es (pending_in h.entries i) (sights_in h.entries i))

  -- what reads the effects
  by_effects : these (effects_of (status_of w.state) h)
  by_effects = subst these (sym (effects_seen_lem (status_of w.state) h)) (unfold effects_seen in (
    all_map (settled v) (completed_in h.entries) v.hist.done,
    done_apart v (completed_in h.entries) v.hist.done v.hist.pairs v.hist.past,
    looks_right v,
    counts_are v,
    has_shown v,
  ))

  demanded : Demanded K W (view_of by_value w) h
  demanded =
      let k = v.hist in
      record {
        completed = by_effects.0;
        running = λ i lt. rw (status_is v.core i (omega (arith, k.processes_is)))
            (stands_for (log_of h.entries) i (pending_in h.entries i) (slot w i) (k.track i).same (unset v i) (timely v i));
        distinct = by_effects.1;
        shown = λ i lt. by_effects.4 i;
        looks = by_effects.2;
        tally = k.tally;
        starts =
            k.counted ∙ ap (λ n. length (completed_in h.entries) + n) (ap (busy_below w.state.process) (sym k.processes_is) ∙ sym (runs_below v h.processes (processes_le v)));
        ticks = ticks_told h.processes h.limit h.entries k.faults;
        no_damage = no_damage h.processes h.limit h.entries k.faults (looks_said v);
      }

  beyond : Beyond K W (view_of by_value w) h
  beyond =
      let k = v.hist in
      record {
        events = sym k.ticks;
        limit = omega (arith, k.ticks, k.limit_is, v.core.events);
        counts = by_effects.3;
        refusals = refusals_due h.processes h.limit h.entries k.faults (looks_said v);
        tally_words = v.core.tally;
        no_such_process = λ i le. status_beyond v.core i (omega (arith, k.processes_is));
        busy_inspected = λ i lt ne. busy_inspects v.core i (omega (arith, k.processes_is)) ne;
        idle_sound = λ z. idle_sound v.core (λ i lt. z i (omega (arith, k.processes_is)));
      }

  pub claimed : Claim K W (view_of by_value w) h
  claimed = record { demanded = demanded; beyond = beyond }
