-- Demand 3 is proved: every action keeps the invariant of a run, and the effects of a list are the first of every longer one's.
use Prim.Native.Nat.{ℕ, suc, ◌*◌, ◌≤◌}
use mathlib.Core.List.{List, [], ◌∷◌, ◌++◌}
use mathlib.Core.Path.{◌≡◌, refl, sym, ap, ◌∙◌, subst}
use native.Mathlib.Omega.{arith}
use lib.ListN.{length, replicate, length-replicate}
use Rattle.linearizability.specs.Types.{Refusal, Permit, Ok, Err, Opening}
use Rattle.model.specs.Layout.{node_words, version_words, capacity}
use Rattle.model.specs.Requests.{Fitting}
use Rattle.model.specs.Calls.{Store, open_due, open_by, open_of, status_of}
use Rattle.model.specs.System.{System, Opens, refused, opened, view_of}
use Rattle.model.specs.History.{Action, start, step, look, log_of, events_in, pending_in, sights_in, starts_in, completed_in, queries_in, act, Run, perform, perform_all, empty_history, begin}
use Rattle.model.specs.ByValue.{Given, fitting_of, opens_by, by_value, fresh_store}
use Rattle.model.specs.Linearizability.{Effected, All, Any, Claim, OpensAs, up_to, Among, EffectsStay, Linearizable}
use Rattle.model.proofs.Tests.{if-le}
use Rattle.linearizability.proofs.Effects.{Took, all_map}
use Rattle.linearizability.proofs.Live.{Live, LiveFrom}
use Rattle.linearizability.proofs.Started.{start_live}
use Rattle.linearizability.proofs.Stepped.{step_live}
use Rattle.linearizability.proofs.Looked.{look_live}
use Rattle.linearizability.proofs.Opened.{opened_live}
use Rattle.model.proofs.Seen.{Seen, saw, faults_of, seen, seen_more, effects_seen, effects_seen_lem}
use Rattle.linearizability.proofs.Claimed.{any_map, Is, Stands, stands, complete, claimed}

-- ---- a list keeps the invariant

pub act_live : {from : List Took} {K W : ℕ} {w : Store} {s : Seen} → LiveFrom from K W w s → (a : Action)
    → LiveFrom from K W (act by_value w a).store (saw s (act by_value w a).outcome)
unfolding saw
act_live l (start i op) = start_live l i op
act_live l (step i) = step_live l i
act_live l (look key back) = look_live l key back

perform_live : {from : List Took} {K W : ℕ} (r : Run by_value) (a : Action) → LiveFrom from K W r.store (seen r.history)
    → LiveFrom from K W (perform r a).store (seen (perform r a).history)
unfolding perform
perform_live {from} {K} {W} r a l =
    subst (λ (s : Seen). LiveFrom from K W (act by_value r.store a).store s) (sym (seen_more r.history _)) (act_live l a)

pub performed_live : {from : List Took} {K W : ℕ} (r : Run by_value) (actions : List Action) → LiveFrom from K W r.store (seen r.history)
    → LiveFrom from K W (perform_all r actions).store (seen (perform_all r actions).history)
unfolding perform_all
performed_live r [] l = l
performed_live r (a ∷ rest) l = performed_live (perform r a) rest (perform_live r a l)

-- ---- from an opening

pub refused≢opened : {C : Type 0} (x : Refusal) {v : C} → ◌≡◌ {A = Opens C} (refused x) (opened v) → ⊥
refused≢opened x q = let z : ◌≡◌ {A = ℕ} 0 1 = cc in omega arith

abbrev nodes_of : Given → ℕ
nodes_of g = capacity node_words (length g.nodes)

abbrev versions_of : Given → ℕ
versions_of g = capacity version_words (length g.versions)

pub fresh_live : (g : Given) (w : Store) → by_value.fresh g ≡ opened w → Live (nodes_of g) (versions_of g) w (seen (empty_history (fitting_of g)))
unfolding log_of pending_in sights_in starts_in completed_in queries_in faults_of
fresh_live g w e = go (open_of g.nodes g.versions g.processes g.limit).result.outcome refl e
  where
    w₀ : Store
    w₀ = fresh_store (open_of g.nodes g.versions g.processes g.limit)

    go : (x : Opening) → (open_of g.nodes g.versions g.processes g.limit).result.outcome ≡ x → opens_by x w₀ ≡ opened w
        → Live (nodes_of g) (versions_of g) w (seen (empty_history (fitting_of g)))
    go (Err x) o q = absurd (refused≢opened x q)
    go (Ok _) o q =
        let same : w₀ ≡ w = cc in
        subst (λ (v : Store). Live (nodes_of g) (versions_of g) v (seen (empty_history (fitting_of g)))) same
        (opened_live g.nodes g.versions g.processes g.limit o)

-- tables of so many words have room for so many
pub nodes_held : (n K : ℕ) → n ≡ 16 * suc K → capacity node_words n ≡ K
unfolding capacity
nodes_held n K e = omega (arith, e)

pub versions_held : (n W : ℕ) → n ≡ 3 * suc W → capacity version_words n ≡ W
unfolding capacity
versions_held n W e = omega (arith, e)

claim : (g : Given) (w : Store) → by_value.fresh g ≡ opened w
    → (K W : ℕ) → length g.nodes ≡ 16 * suc K → length g.versions ≡ 3 * suc W → (actions : List Action)
    → let r = perform_all (begin by_value g w) actions in Claim K W (view_of by_value r.store) r.history
claim g w e K W n m actions =
    let r : Run by_value = perform_all (begin by_value g w) actions in
    subst (λ k. Claim k W (view_of by_value r.store) r.history) (nodes_held (length g.nodes) K n)
    (subst (λ k. Claim (nodes_of g) k (view_of by_value r.store) r.history) (versions_held (length g.versions) W m)
    (claimed _ (performed_live (begin by_value g w) actions (fresh_live g w e))))

-- ---- effects stay

-- a list, and then another
pub perform_append : {S : System} (r : Run S) (actions more : List Action) → perform_all r (actions ++ more) ≡ perform_all (perform_all r actions) more
unfolding perform_all
perform_append r [] more = refl
perform_append r (a ∷ actions) more = perform_append (perform r a) actions more

-- a live run may count from its own effects
again : {K W : ℕ} {w : Store} {h : Seen} (l : Live K W w h) → LiveFrom l.eff K W w h
again l = record { g = l.g; b = l.b; eff = l.eff; core = l.core; hist = l.hist; grows = (omega arith, λ n lt. refl) }

same_entry : (e f : Effected) (n : ℕ) → e.tick ≡ suc n → Is e.process e.invoked (suc n) f → f ≡ e
same_entry e f n t z =
    ap (λ i. record { process = i; invoked = f.invoked; tick = f.tick }) z.0
    ∙ ap (λ c. record { process = e.process; invoked = c; tick = f.tick }) z.1
    ∙ ap (λ k. record { process = e.process; invoked = e.invoked; tick = k }) (z.2 ∙ sym t)

all_up_to : (P : Effected → Type 0) (t : ℕ) (es : List Effected) → All (λ (e : Effected). e.tick ≤ t → P e) es → All P (up_to t es)
unfolding up_to
all_up_to P t [] a = tt
all_up_to P t (e ∷ es) a = if-le (λ (l : List Effected). All P l) e.tick t
    (λ le. (a.0 le, all_up_to P t es a.1)) (λ lt. all_up_to P t es a.1)

module _ {K W : ℕ} {w w' : Store} {h h' : Seen} (l : Live K W w h) (m : LiveFrom l.eff K W w' h') where
  abbrev now : List Effected
  now = effects_seen (status_of w.state) h

  abbrev later : List Effected
  later = effects_seen (status_of w'.state) h'

  kept : Among now later
  kept =
      all_map {P = Stands l} (λ e s. any_map (Is e.process e.invoked (suc s.0)) (λ (f : Effected). f ≡ e) (λ f. same_entry e f s.0 s.1)
      later (complete m s.0 e.process e.invoked (m.grows.1 s.0 s.2 ∙ s.3))) now (stands l)

  none_later : Among (up_to (length h.log) later) now
  none_later =
      all_up_to (λ (e : Effected). Any (λ (f : Effected). f ≡ e) now) (length h.log) later
      (all_map {P = Stands m} (λ e s le. any_map (Is e.process e.invoked (suc s.0)) (λ (f : Effected). f ≡ e) (λ f. same_entry e f s.0 s.1)
      now (complete l s.0 e.process e.invoked
      (sym (m.grows.1 s.0 (omega (arith, l.hist.ticks, l.hist.one_each, s.1))) ∙ s.3)))
      later (stands m))

pub among_same : {es es' fs fs' : List Effected} → es ≡ es' → fs ≡ fs' → Among es' fs' → Among es fs
among_same {es} {es'} {fs} {fs'} p q a =
    subst (λ (z : List Effected). Among z fs) (sym p) (subst (λ (z : List Effected). Among es' z) (sym q) a)

effects_stay : (g : Given) (w : Store) → by_value.fresh g ≡ opened w → (actions more : List Action)
    → EffectsStay (perform_all (begin by_value g w) actions) (perform_all (begin by_value g w) (actions ++ more))
effects_stay g w e actions more =
    let r₀ = begin by_value g w in
    let r : Run by_value = perform_all r₀ actions in
    let s : Run by_value = perform_all r more in
    let l = performed_live r₀ actions (fresh_live g w e) in
    let m = performed_live r more (again l) in
    let now = effects_seen_lem (status_of r.store.state) r.history in
    let later = effects_seen_lem (status_of s.store.state) s.history in
    subst (λ (s : Run by_value). EffectsStay r s) (sym (perform_append r₀ actions more)) (record {
      kept = among_same now later (kept l m);
      none_later = among_same (ap (up_to (events_in r.history.entries)) later) now (none_later l m);
    })

-- ---- openings

pub asks : (f : Fitting) → open_due f ≡ (Ok tt) → (g : Given) × (fitting_of g ≡ f)
asks f lawful = (
  record { nodes = replicate f.nodes 0; versions = replicate f.versions 0; processes = f.processes; limit = f.limit },
  ap (λ n. record { nodes = n; versions = length {A = ℕ} (replicate f.versions 0); processes = f.processes; limit = f.limit })
      (length-replicate f.nodes 0)
      ∙ ap (λ n. record { nodes = f.nodes; versions = n; processes = f.processes; limit = f.limit }) (length-replicate f.versions 0),
)

opens : (g : Given) → OpensAs (open_due (fitting_of g)) (by_value.fresh g)
unfolding open_of
opens g = go (open_due (fitting_of g))
  where
    go : (d : Permit) → let o = open_by d g.nodes g.versions g.processes g.limit in OpensAs d (opens_by o.result.outcome (fresh_store o))
    go (Ok _) = unfold open_by in tt
    go (Err r) = unfold open_by in refl

-- Demand 3 of the store by value.
pub linearizable : Linearizable by_value
linearizable = record { asks = asks; opens = opens; claim = claim; effects_stay = effects_stay }
