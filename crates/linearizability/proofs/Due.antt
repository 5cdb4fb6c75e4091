-- Where the observer counted no fault and every look answered from some map: each refusal was due, each event was told its tick,
-- and no damage was reported.
use Prim.Native.Nat.{ℕ, zero, suc, ◌+◌}
use mathlib.Core.Bool.{Bool, true, false, not, ◌&&◌, and-eq-true_iff}
use mathlib.Core.List.{List, [], ◌∷◌}
use mathlib.Core.Path.{◌≡◌, refl, sym, ap, subst}
use native.Mathlib.Omega.{arith}
use borrow.Author.Tests.{eqb-true}
use lib.Dec.{eqb, ltb, leb}
use Rattle.linearizability.specs.Types.{Refusal, NoProcess, BadKey, BadRange, Busy, NoCall, Spent, Version, Permit, Ok, Err, Starting, Stepping, Looking, Progress}
use Rattle.std.specs.Prelude.{if◌then◌else◌}
use Rattle.model.specs.Numbers.{number_of}
use Rattle.model.specs.Requests.{first_of, last_of}
use Rattle.model.specs.Map.{Map, versions_of, back_in, look_list, look_in}
use Rattle.model.specs.State.{lawful_key}
use Rattle.model.specs.Calls.{deny_if}
use Rattle.model.specs.History.{Action, start, step, look, Observation, started, stepped, looked, action_of, refusal_in, events_in, tick_after, pending_in, is_free, Query, queries_in, due, due_after}
use Rattle.model.specs.Linearizability.{All, Along, NoDamage, LookAsDue, AsDue, TickTold}
use Rattle.model.proofs.Laws.{number_injective}
use Rattle.model.proofs.Seen.{is_denied, is_granted, unless, saw, saw_start, saw_step, saw_look, faults_of}

faultless : (n : ℕ) (b : Bool) → n + unless b ≡ 0 → b ≡ true
faultless n true e = refl
faultless n false e = absurd (omega arith)

granted_true : (p : Permit) → is_granted p ≡ true → (Ok tt) ≡ p
granted_true (Ok _) e = refl
granted_true (Err r) e = cc

denied_true : (p : Permit) (r : Refusal) → is_denied p r ≡ true → Err r ≡ p
denied_true (Ok _) r e = cc
denied_true (Err d) r e = ap Err (sym (number_injective d r (eqb-true _ _ e)))

-- a refusal that is no fault is the one due
refusal_due : (n : ℕ) (p : Permit) (r : Refusal) → n + unless (is_denied p r) ≡ 0 → Err r ≡ p
refusal_due n p r e = denied_true p r (faultless n (is_denied p r) e)

-- an event that is no fault was granted, and told its tick
event_due : (n : ℕ) (p : Permit) (t tick : ℕ) → n + unless (is_granted p && eqb t tick) ≡ 0 → ((Ok tt) ≡ p) × (t ≡ tick)
event_due n p t tick e =
    let f = simp and-eq-true_iff at (faultless n (is_granted p && eqb t tick) e) in
    (granted_true p f.0, eqb-true t tick f.1)

-- ---- looks

-- a look answered from this map
abbrev pub LookSaid : Query → Type 0
LookSaid q =
    (b : Map) × (q.outcome ≡ (if lawful_key q.key then look_in b q.key q.back else Err BadKey))

abbrev Told : (b : Bool) → Map → (k back : ℕ) → Looking
Told b m k back = if b then look_in m k back else Err BadKey

look_due : (b : Bool) (m : Map) (k back : ℕ) → LookAsDue (deny_if (not b) BadKey (Ok tt)) (Told b m k back)
look_due true m k back = tt
look_due false m k back = refl

back_sound : (k n : ℕ) (vs : List Version) (back : ℕ) → NoDamage (refusal_in (looked k n (back_in vs back)))
unfolding back_in number_of
back_sound k n [] back = (omega arith, omega arith)
back_sound k n (v ∷ vs) zero = tt
back_sound k n (v ∷ vs) (suc back) = back_sound k n vs back

list_sound : (k n : ℕ) (vs : List Version) (back : ℕ) → NoDamage (refusal_in (looked k n (look_list vs back)))
unfolding look_list number_of
list_sound k n [] back = (omega arith, omega arith)
list_sound k n (v ∷ vs) back = back_sound k n (v ∷ vs) back

look_sound : (b : Bool) (m : Map) (k back : ℕ) → NoDamage (refusal_in (looked k back (Told b m k back)))
unfolding look_in number_of
look_sound true m k back = list_sound k back (versions_of m k) back
look_sound false m k back = (omega arith, omega arith)

-- ---- what is due is no damage

deny_sound : (b : Bool) (r : Refusal) (rest : Permit) → NoDamage (Err r) → NoDamage rest → NoDamage (deny_if b r rest)
deny_sound true r rest d e = d
deny_sound false r rest d e = e

due_sound : (p l : ℕ) (es : List Observation) (a : Action) → NoDamage (due_after p l es a)
unfolding due number_of
due_sound p l es (start i op) =
    deny_sound (leb p i) NoProcess _ (omega arith, omega arith)
    (deny_sound (not (lawful_key (first_of op) && lawful_key (last_of op))) BadKey _ (omega arith, omega arith)
    (deny_sound (ltb (last_of op) (first_of op)) BadRange _ (omega arith, omega arith)
    (deny_sound (not (is_free (pending_in es i))) Busy _ (omega arith, omega arith)
    (deny_sound (leb l (events_in es)) Spent (Ok tt) (omega arith, omega arith) tt))))
due_sound p l es (step i) =
    deny_sound (leb p i) NoProcess _ (omega arith, omega arith)
    (deny_sound (is_free (pending_in es i)) NoCall _ (omega arith, omega arith)
    (deny_sound (leb l (events_in es)) Spent (Ok tt) (omega arith, omega arith) tt))
due_sound p l es (look k back) = deny_sound (not (lawful_key k)) BadKey (Ok tt) (omega arith, omega arith) tt

-- ---- entry by entry

module _ (p l : ℕ) where
  -- the start or step that came last was as due, and none before it was a fault
  abbrev Fine : List Observation → Observation → Type 0
  Fine es e = (faults_of p l es ≡ 0) × (refusal_in e ≡ due_after p l es (action_of e)) × TickTold (tick_after es) e

  start_fine : (es : List Observation) (i : ℕ) (op : _) (o : Starting) → faults_of p l (started i op o ∷ es) ≡ 0 → Fine es (started i op o)
  unfolding faults_of saw saw_start
  start_fine es i op (Err r) e = (omega (arith, e), refusal_due _ _ r e, tt)
  start_fine es i op (Ok t) e = let d = event_due _ _ t _ e in (omega (arith, e), d.0, d.1)

  step_fine : (es : List Observation) (i : ℕ) (o : Stepping) → faults_of p l (stepped i o ∷ es) ≡ 0 → Fine es (stepped i o)
  unfolding faults_of saw saw_step
  step_fine es i (Err r) e = (omega (arith, e), refusal_due _ _ r e, tt)
  step_fine es i (Ok (Progress.Moved t)) e = let d = event_due _ _ t _ e in (omega (arith, e), d.0, d.1)
  step_fine es i (Ok (Progress.Waited t)) e = let d = event_due _ _ t _ e in (omega (arith, e), d.0, d.1)
  step_fine es i (Ok (Progress.Shown t x)) e = let d = event_due _ _ t _ e in (omega (arith, e), d.0, d.1)
  step_fine es i (Ok (Progress.Finished f)) e = let d = event_due _ _ f.finish _ e in (omega (arith, e), d.0, d.1)

  pub refusals_due : (es : List Observation) → faults_of p l es ≡ 0 → All LookSaid (queries_in es)
      → Along (λ es e. AsDue (due_after p l es (action_of e)) e) es
  unfolding queries_in
  refusals_due [] e q = tt
  refusals_due (started i op o ∷ es) e q = let f = start_fine es i op o e in (f.1, refusals_due es f.0 q)
  refusals_due (stepped i o ∷ es) e q = let f = step_fine es i o e in (f.1, refusals_due es f.0 q)
  refusals_due (looked k back o ∷ es) e q = (
    unfold due in subst (LookAsDue (deny_if (not (lawful_key k)) BadKey (Ok tt))) (sym q.0.1) (look_due (lawful_key k) q.0.0 k back),
    refusals_due es (unfold faults_of saw saw_look in e) q.1,
  )

  pub ticks_told : (es : List Observation) → faults_of p l es ≡ 0 → Along (λ es e. TickTold (tick_after es) e) es
  ticks_told [] e = tt
  ticks_told (started i op o ∷ es) e = let f = start_fine es i op o e in (f.2, ticks_told es f.0)
  ticks_told (stepped i o ∷ es) e = let f = step_fine es i o e in (f.2, ticks_told es f.0)
  ticks_told (looked k back o ∷ es) e = (tt, ticks_told es (unfold faults_of saw saw_look in e))

  pub no_damage : (es : List Observation) → faults_of p l es ≡ 0 → All LookSaid (queries_in es) → All (λ (e : Observation). NoDamage (refusal_in e)) es
  unfolding queries_in
  no_damage [] e q = tt
  no_damage (started i op o ∷ es) e q =
      let f = start_fine es i op o e in (subst NoDamage (sym f.1) (due_sound p l es (start i op)), no_damage es f.0 q)
  no_damage (stepped i o ∷ es) e q =
      let f = step_fine es i o e in (subst NoDamage (sym f.1) (due_sound p l es (step i)), no_damage es f.0 q)
  no_damage (looked k back o ∷ es) e q = (
    subst (λ (o : Looking). NoDamage (refusal_in (looked k back o))) (sym q.0.1) (look_sound (lawful_key k) q.0.0 k back),
    no_damage es (unfold faults_of saw saw_look in e) q.1,
  )
