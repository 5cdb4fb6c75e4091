-- What demand 3 refuses: stores made wrong on purpose, most with a short list after which the claim is false.
use Prim.Native.Nat.{ℕ, suc, ◌+◌, ◌-◌, ◌*◌}
use mathlib.Core.Bool.{Bool, true, false}
use mathlib.Core.List.{List, [], ◌∷◌, ◌++◌}
use mathlib.Core.Logic.{◌≢◌, inl, inr}
use mathlib.Core.Path.{◌≡◌, refl, ap, ◌∙◌, subst}
use native.Mathlib.Omega.{arith}
use lib.Dec.{T, eqb, lit<}
use lib.ListN.{take, replicate, length-replicate}
use Rattle.linearizability.specs.Types.{NodeLength, NoKey, Answer, TooOld, New, Found, None, Busy, Damaged, Version, Ok, Err, Finish, Starting, Stepping, Looking, Status, Progress, idle_status}
use Rattle.std.specs.Prelude.{if◌then◌else◌}
use Rattle.model.specs.Layout.{limits}
use Rattle.model.specs.Numbers.{answer_number, no_version}
use Rattle.model.specs.Requests as Requests
use Rattle.model.specs.Requests.{Operation}
use Rattle.model.specs.Map as Map
use Rattle.model.specs.Map.{Reply}
use Rattle.model.specs.Calls.{open_of, Store}
use Rattle.model.specs.System.{Opens, refused, opened, After, System, view_of}
use Rattle.model.specs.History.{Action, step, look, Run, perform_all, begin}
use Rattle.model.specs.ByValue.{Given, fitting_of, fresh_store, by_value}
use Rattle.model.specs.Linearizability.{Effected, counted_at, running_below, Any, Among, Claim, effects_in, EffectsStay, Linearizable}
use Rattle.model.proofs.Tests.{if-eq, if_no, by_eq, ne→neqb}
use Rattle.model.proofs.Bench.{said, start_get, put, get}

-- ---- the store by value with something changed

-- how it opens, what a start does, what a step tells, what a look and a status show, and the tally
pub record Change : Type 0 where
  pub fresh : Given → Opens Store
  pub start : Store → (process : ℕ) → Operation → After Starting Store
  pub tells : Stepping → Stepping
  pub look : Looking → Looking
  pub status : Status → Status
  pub tally : List ℕ → List ℕ

abbrev pub changed : Change → System
changed c = record {
  Carrier = Store;
  Setup = Given;
  fitting = fitting_of;
  fresh = c.fresh;
  start = c.start;
  step = λ w i. (let o = by_value.step w i in record { outcome = c.tells o.outcome; store = o.store });
  look = λ w k back. c.look (by_value.look w k back);
  status = λ w i. c.status (by_value.status w i);
  inspect = by_value.inspect;
  tally = λ w. c.tally w.tally;
  counts = by_value.counts;
  events = by_value.events;
}

abbrev same : {A : Type 0} → A → A
same x = x

abbrev pub opening : (Given → Opens Store) → Change
opening f = record { fresh = f; start = by_value.start; tells = same; look = same; status = same; tally = same }

abbrev pub starting : (Store → (process : ℕ) → Operation → After Starting Store) → Change
starting f = record { fresh = by_value.fresh; start = f; tells = same; look = same; status = same; tally = same }

abbrev pub telling : (Stepping → Stepping) → Change
telling f = record { fresh = by_value.fresh; start = by_value.start; tells = f; look = same; status = same; tally = same }

-- a finishing answer replaced
abbrev finish : (Finish → Finish) → Stepping → Stepping
finish f (Err r) = Err r
finish f (Ok (Progress.Moved t)) = Ok (Progress.Moved t)
finish f (Ok (Progress.Waited t)) = Ok (Progress.Waited t)
finish f (Ok (Progress.Shown t x)) = Ok (Progress.Shown t x)
finish f (Ok (Progress.Finished d)) = Ok (Progress.Finished (f d))

abbrev pub finishing : (Finish → Finish) → Change
finishing f = telling (finish f)

abbrev pub looking : (Looking → Looking) → Change
looking f = record { fresh = by_value.fresh; start = by_value.start; tells = same; look = f; status = same; tally = same }

abbrev pub standing : (Status → Status) → Change
standing f = record { fresh = by_value.fresh; start = by_value.start; tells = same; look = same; status = f; tally = same }

abbrev pub tallying : (List ℕ → List ℕ) → Change
tallying f = record { fresh = by_value.fresh; start = by_value.start; tells = same; look = same; status = same; tally = f }

-- what is told with another answer, version and effect tick
abbrev pub told : Finish → Answer → Version → (effect : ℕ) → Finish
told d a v e = record {
  kind = d.kind;
  answer = a;
  value = v.value;
  timestamp = v.timestamp;
  start = d.start;
  effect = e;
  finish = d.finish;
}

abbrev pub is : Answer → Answer → Bool
is a b = eqb (answer_number a) (answer_number b)

abbrev own : Finish → Version
own d = record { value = d.value; timestamp = d.timestamp }

-- tables for K and W with rubbish in them, one process, 40 events
abbrev pub given : (K W : ℕ) → Given
given K W = record { nodes = replicate (16 * suc K) 77; versions = replicate (3 * suc W) 77; processes = 1; limit = 40 }

abbrev pub fresh_of : Given → Store
fresh_of g = fresh_store (open_of g.nodes g.versions g.processes g.limit)

-- a short list from an accepted opening, after which the claim is false
pub record Refutation (c : Change) : Type 0 where
  pub K : ℕ
  pub W : ℕ
  pub fresh : Store
  pub opens : (changed c).fresh (given K W) ≡ opened fresh
  pub actions : List Action
  pub refutes : let r = perform_all (begin (changed c) (given K W) fresh) actions in
      Claim K W (view_of (changed c) r.store) r.history → ⊥

-- so it is not linearizable
pub wrong : {c : Change} → Refutation c → Linearizable (changed c) → ⊥
wrong r l = r.refutes (l.claim (given r.K r.W) r.fresh r.opens r.K r.W
    (length-replicate (16 * suc r.K) 77) (length-replicate (3 * suc r.W) 77) r.actions)

abbrev pub w₁ : Store
w₁ = fresh_of (given 1 1)

-- ---- "A start that always refuses"

abbrev pub always_busy : Change
always_busy = starting (λ w i op. record { outcome = Err Busy; store = w })

pub always_busy_refuted : Refutation always_busy
unfolding said
always_busy_refuted = record {
  K = 1;
  W = 1;
  fresh = w₁;
  opens = refl;
  actions = start_get 0 7 ∷ [];
  refutes = λ c. let d : Err Busy ≡ (Ok tt) = c.beyond.refusals.0 in
      let z : ◌≡◌ {A = ℕ} 0 1 = cc in omega arith;
}

-- ---- a call that is dropped silently: its start is accepted, and it is never heard of again

abbrev pub drops : Change
drops = starting (λ w i op. record { outcome = (by_value.start w i op).outcome; store = w })

pub drops_refuted : Refutation drops
unfolding said running_below
drops_refuted = record {
  K = 1;
  W = 1;
  fresh = w₁;
  opens = refl;
  actions = start_get 0 7 ∷ [];
  refutes = λ c. omega (arith, c.demanded.starts);
}

-- ---- damage that is none

abbrev pub cries_damage : Change
cries_damage = starting (λ w i op. record { outcome = Err Damaged; store = w })

pub cries_damage_refuted : Refutation cries_damage
unfolding said
cries_damage_refuted = record {
  K = 1;
  W = 1;
  fresh = w₁;
  opens = refl;
  actions = start_get 0 7 ∷ [];
  refutes = λ c. c.demanded.no_damage.0.1 refl;
}

-- ---- "Invented ticks or tallies break 3"

abbrev pub no_tally : Change
no_tally = tallying (λ t. replicate limits.tally 0)

pub no_tally_refuted : Refutation no_tally
unfolding said counted_at
no_tally_refuted = record {
  K = 1;
  W = 1;
  fresh = w₁;
  opens = refl;
  actions = put 11 7 5 100;
  refutes = λ c. omega (arith, c.demanded.tally (answer_number New) (lit< tt));
}

abbrev pub tick_ahead : Change
tick_ahead = telling ahead
  where
    ahead : Stepping → Stepping
    ahead (Err r) = Err r
    ahead (Ok (Progress.Moved t)) = Ok (Progress.Moved (t + 1))
    ahead (Ok (Progress.Waited t)) = Ok (Progress.Waited t)
    ahead (Ok (Progress.Shown t x)) = Ok (Progress.Shown t x)
    ahead (Ok (Progress.Finished d)) = Ok (Progress.Finished d)

pub tick_ahead_refuted : Refutation tick_ahead
unfolding said
tick_ahead_refuted = record {
  K = 1;
  W = 1;
  fresh = w₁;
  opens = refl;
  actions = get 1 7;
  refutes = λ c. omega (arith, c.demanded.ticks.0);
}

-- an effect told to be at the end: the look between shows what it should not
abbrev pub late : Change
late = finishing (λ d. told d d.answer (own d) d.finish)

abbrev is_shown : Looking → ℕ
is_shown (Err r) = 0
is_shown (Ok v) = 1

pub late_refuted : Refutation late
unfolding said Map.look_in Map.look_list Map.back_in
late_refuted = record {
  K = 1;
  W = 1;
  fresh = w₁;
  opens = refl;
  actions = put 10 7 5 100 ++ (look 7 0 ∷ step 0 ∷ []);
  refutes = λ c. omega (arith, ap is_shown (c.demanded.looks.0 refl));
}

-- an effect told to be at the start, which is no step
abbrev pub early : Change
early = finishing (λ d. told d d.answer (own d) d.start)

pub early_refuted : Refutation early
unfolding said
early_refuted = record {
  K = 1;
  W = 1;
  fresh = w₁;
  opens = refl;
  actions = put 11 7 5 100;
  refutes = λ c. omega (arith, (c.demanded.completed.0.took_effect refl).after_start);
}

-- ---- "A get that says none always breaks 3."

abbrev pub nothing_found : Change
nothing_found = finishing (λ d. if is d.answer Found then told d None no_version d.effect else d)

pub nothing_found_refuted : Refutation nothing_found
unfolding said
nothing_found_refuted = record {
  K = 1;
  W = 1;
  fresh = w₁;
  opens = refl;
  actions = put 11 7 5 100 ++ get 7 7;
  refutes = λ c. omega (arith, ap (λ (r : Reply). answer_number r.answer) (c.demanded.completed.0.took_effect refl).answer);
}

-- ---- "dropping equal stamps": such a put is passed on as one stamp older, and told with its own

abbrev pub equal_dropped : Change
equal_dropped = record { fresh = by_value.fresh; start = older; tells = finish restored; look = same; status = same; tally = same }
  where
    stamp_is : Looking → ℕ → Bool
    stamp_is (Err r) t = false
    stamp_is (Ok v) t = eqb v.timestamp t

    older : Store → ℕ → Operation → After Starting Store
    older w i (Requests.put k v t draw) =
        by_value.start w i (Requests.put k v (if stamp_is (by_value.look w k 0) t then t - 1 else t) draw)
    older w i (Requests.get k) = by_value.start w i (Requests.get k)
    older w i (Requests.scan first last) = by_value.start w i (Requests.scan first last)

    restored : Finish → Finish
    restored d =
        if is d.answer TooOld then told d TooOld (record { value = d.value; timestamp = d.timestamp + 1 }) d.effect else d

pub equal_dropped_refuted : Refutation equal_dropped
unfolding said
equal_dropped_refuted = record {
  K = 1;
  W = 2;
  fresh = fresh_of (given 1 2);
  opens = refl;
  actions = put 11 7 5 100 ++ put 11 7 6 100;
  refutes = λ c. omega (arith, ap (λ (r : Reply). answer_number r.answer) (c.demanded.completed.0.took_effect refl).answer);
}

-- ---- "A put that says full while cells remain breaks 2 at that step and 3 by the ledger.": of two nodes one is used

abbrev half : Given → Given
half g = record { nodes = take 32 g.nodes; versions = g.versions; processes = g.processes; limit = g.limit }

abbrev pub full_early : Change
full_early = opening (λ g. by_value.fresh (half g))

pub full_early_refuted : Refutation full_early
unfolding said
full_early_refuted = record {
  K = 2;
  W = 2;
  fresh = fresh_of (half (given 2 2));
  opens = refl;
  actions = put 11 7 5 100 ++ put 12 9 6 100;
  refutes = λ c. omega (arith, ap (λ (r : Reply). answer_number r.answer) (c.demanded.completed.0.took_effect refl).answer);
}

-- ---- a look that never finds a tray

abbrev pub blind : Change
blind = looking (λ o. Err NoKey)

pub blind_refuted : Refutation blind
unfolding said Map.look_in Map.look_list Map.back_in
blind_refuted = record {
  K = 1;
  W = 1;
  fresh = w₁;
  opens = refl;
  actions = put 11 7 5 100 ++ (look 7 0 ∷ []);
  refutes = λ c. omega (arith, ap is_shown (c.demanded.looks.0 refl));
}

-- ---- standing that shows every process idle

abbrev pub all_idle : Change
all_idle = standing (λ o. idle_status)

pub all_idle_refuted : Refutation all_idle
unfolding said
all_idle_refuted = record {
  K = 1;
  W = 1;
  fresh = w₁;
  opens = refl;
  actions = start_get 0 7 ∷ [];
  refutes = λ c. c.demanded.running 0 (lit< tt);
}

-- ---- an effect told to be at the end, of a put that changes nothing: no look and no get can tell, but status told another

abbrev pub late_if_old : Change
late_if_old = finishing (λ d. if is d.answer TooOld then told d TooOld (own d) d.finish else d)

ticked : (tick : ℕ) → List Effected → Bool
ticked t [] = false
ticked t (e ∷ es) = if eqb e.tick t then true else ticked t es

any_ticked : (t : ℕ) (e : Effected) (fs : List Effected) → e.tick ≡ t → Any (λ (f : Effected). f ≡ e) fs → T (ticked t fs)
unfolding ticked
any_ticked t e [] q a = a
any_ticked t e (f ∷ fs) q a = if-eq (λ b. T b) f.tick t (λ z. tt) (λ ne. any_ticked t e fs q (rest ne a))
  where
    rest : f.tick ≢ t → Any (λ (f : Effected). f ≡ e) (f ∷ fs) → Any (λ (f : Effected). f ≡ e) fs
    rest ne (inl p) = absurd (ne (ap (λ (z : Effected). z.tick) p ∙ q))
    rest ne (inr r) = r

among_ticked : (t : ℕ) (es fs : List Effected) → Among es fs → T (ticked t es) → T (ticked t fs)
unfolding ticked
among_ticked t [] fs a h = absurd h
among_ticked t (e ∷ es) fs a h = by_eq e.tick t
    (λ q. any_ticked t e fs q a.0)
    (λ ne. among_ticked t es fs a.1 (subst (λ b. T b) (if_no (eqb e.tick t) true (ticked t es) (ne→neqb e.tick t ne)) h))

stay_ticked : {S : System} (now later : Run S) (t : ℕ) → EffectsStay now later → T (ticked t (effects_in now)) → T (ticked t (effects_in later))
stay_ticked now later t e = among_ticked t (effects_in now) (effects_in later) e.kept

pub late_if_old_wrong : Linearizable (changed late_if_old) → ⊥
unfolding said ticked
late_if_old_wrong l =
    let r = begin (changed late_if_old) (given 1 1) w₁ in
    let most = put 11 7 5 100 ++ put 10 7 6 99 in
    stay_ticked (perform_all r most) (perform_all r (most ++ (step 0 ∷ []))) 23 (l.effects_stay (given 1 1) w₁ refl most (step 0 ∷ [])) tt

-- ---- an opening that always refuses: no list is ever played

abbrev pub never_opens : Change
never_opens = opening (λ g. refused NodeLength)

pub never_opens_wrong : Linearizable (changed never_opens) → ⊥
unfolding said
never_opens_wrong l = l.opens (given 1 1)

-- ---- a store that cannot be asked to open

abbrev pub never_asked : System
never_asked = record {
  Carrier = Store;
  Setup = ⊥;
  fitting = λ s. absurd s;
  fresh = λ s. absurd s;
  start = by_value.start;
  step = by_value.step;
  look = by_value.look;
  status = by_value.status;
  inspect = by_value.inspect;
  tally = by_value.tally;
  counts = by_value.counts;
  events = by_value.events;
}

pub never_asked_wrong : Linearizable never_asked → ⊥
unfolding said
never_asked_wrong l = (l.asks (fitting_of (given 1 1)) refl).0
