-- A system that answers as another does, call by call, is linearizable where the other is.
use Prim.Native.Nat.{ℕ, suc, ◌*◌}
use mathlib.Core.List.{List, [], ◌∷◌, ◌++◌}
use mathlib.Core.Path.{◌≡◌, refl, sym, ap, ◌∙◌, subst}
use Rattle.linearizability.specs.Types.{Permit, Ok, Err}
use Rattle.model.specs.Requests.{Fitting, Operation}
use Rattle.model.specs.Calls.{open_due}
use Rattle.model.specs.System.{Opens, refused, opened, After, System, View, view_of}
use Rattle.model.specs.History.{Action, start, step, look, started, stepped, looked, History, events_in, noted, empty_history, act, Run, perform, perform_all, begin}
use Rattle.model.specs.Linearizability.{effects_of, Claim, Linearizable, up_to, effects_in, EffectsStay, OpensAs}
use Rattle.linearizability.proofs.Linearized.{refused≢opened, among_same}

abbrev pub Same : {O C D : Type 0} → (C → D → Type 0) → After O C → After O D → Type 0
Same R a b = (a.outcome ≡ b.outcome) × R a.store b.store

abbrev pub SameOpening : {C D : Type 0} → (C → D → Type 0) → Opens C → Opens D → Type 0
SameOpening R (refused r) (refused q) = r ≡ q
SameOpening R (refused r) (opened x) = ⊥
SameOpening R (opened w) (refused q) = ⊥
SameOpening R (opened w) (opened x) = R w x

-- `setup` is how the other is opened
pub record Simulates (S T : System) (setup : S.Setup → T.Setup) (R : S.Carrier → T.Carrier → Type 0) : Type 0 where
  pub asks : (f : Fitting) → open_due f ≡ (Ok tt) → (s : S.Setup) × (S.fitting s ≡ f)
  pub fits : (s : S.Setup) → S.fitting s ≡ T.fitting (setup s)
  pub opens : (s : S.Setup) → SameOpening R (S.fresh s) (T.fresh (setup s))
  pub starts : (w : S.Carrier) (x : T.Carrier) → R w x → (i : ℕ) (op : Operation) → Same R (S.start w i op) (T.start x i op)
  pub steps : (w : S.Carrier) (x : T.Carrier) → R w x → (i : ℕ) → Same R (S.step w i) (T.step x i)
  pub looks : (w : S.Carrier) (x : T.Carrier) → R w x → (k back : ℕ) → S.look w k back ≡ T.look x k back
  pub shows : (w : S.Carrier) (x : T.Carrier) → R w x → view_of S w ≡ view_of T x

module _ (S T : System) (setup : S.Setup → T.Setup) (R : S.Carrier → T.Carrier → Type 0) (sim : Simulates S T setup R) where
  acts : (w : S.Carrier) (x : T.Carrier) → R w x → (a : Action) → Same R (act S w a) (act T x a)
  acts w x q (start i op) = let o = sim.starts w x q i op in (ap (started i op) o.0, o.1)
  acts w x q (step i) = let o = sim.steps w x q i in (ap (stepped i) o.0, o.1)
  acts w x q (look k back) = (ap (looked k back) (sim.looks w x q k back), q)

  abbrev Beside : Run S → Run T → Type 0
  Beside r t = R r.store t.store × (r.history ≡ t.history)

  plays : (r : Run S) (t : Run T) (actions : List Action) → Beside r t → Beside (perform_all r actions) (perform_all t actions)
  unfolding perform_all
  plays r t [] q = q
  plays r t (a ∷ rest) q = plays (perform r a) (perform t a) rest (unfold perform in (
      let o = acts r.store t.store q.0 a in
      (o.1, ap (λ h. noted h (act S r.store a).outcome) q.1 ∙ ap (noted t.history) o.0)))

  -- ---- from an opening

  module _ (s : S.Setup) (w : S.Carrier) (e : S.fresh s ≡ opened w) where
    beside : (x : T.Carrier) × (T.fresh (setup s) ≡ opened x) × R w x
    beside = go (S.fresh s) (T.fresh (setup s)) e refl (sim.opens s)
      where
        go : (a : Opens S.Carrier) (b : Opens T.Carrier) → a ≡ opened w → T.fresh (setup s) ≡ b → SameOpening R a b
            → (x : T.Carrier) × (T.fresh (setup s) ≡ opened x) × R w x
        go (refused r) (refused q) ea eb o = absurd (refused≢opened r ea)
        go (refused r) (opened x) ea eb o = absurd o
        go (opened v) (refused q) ea eb o = absurd o
        go (opened v) (opened x) ea eb o = (x, eb, subst (λ z. R z x) (let same : v ≡ w = cc in same) o)

    played : (actions : List Action) → Beside (perform_all (begin S s w) actions) (perform_all (begin T (setup s) beside.0) actions)
    played actions =
        plays (begin S s w) (begin T (setup s) beside.0) actions (beside.2, ap empty_history (sim.fits s))

    claimed : Linearizable T → (K W : ℕ) → (S.fitting s).nodes ≡ 16 * suc K → (S.fitting s).versions ≡ 3 * suc W → (actions : List Action)
        → let r = perform_all (begin S s w) actions in Claim K W (view_of S r.store) r.history
    claimed l K W n m actions =
        let q = played actions in
        let r : Run S = perform_all (begin S s w) actions in
        let t : Run T = perform_all (begin T (setup s) beside.0) actions in
        subst (λ (v : View). Claim K W v r.history) (sym (sim.shows r.store t.store q.0))
        (subst (λ (h : History). Claim K W (view_of T t.store) h) (sym q.1)
        (l.claim (setup s) beside.0 beside.1 K W
        (ap (λ (f : Fitting). f.nodes) (sym (sim.fits s)) ∙ n) (ap (λ (f : Fitting). f.versions) (sym (sim.fits s)) ∙ m) actions))

    effects_same : (r : Run S) (t : Run T) → Beside r t → effects_in r ≡ effects_in t
    effects_same r t q =
        ap (λ (v : View). effects_of v.status r.history) (sim.shows r.store t.store q.0)
        ∙ ap (λ (h : History). effects_of (T.status t.store) h) q.1

    stays : Linearizable T → (actions more : List Action)
        → EffectsStay (perform_all (begin S s w) actions) (perform_all (begin S s w) (actions ++ more))
    stays l actions more =
        let r : Run S = perform_all (begin S s w) actions in
        let t : Run T = perform_all (begin T (setup s) beside.0) actions in
        let r' : Run S = perform_all (begin S s w) (actions ++ more) in
        let t' : Run T = perform_all (begin T (setup s) beside.0) (actions ++ more) in
        let o = l.effects_stay (setup s) beside.0 beside.1 actions more in
        let now = effects_same r t (played actions) in
        let later = effects_same r' t' (played (actions ++ more)) in
        let tick = ap (λ (h : History). events_in h.entries) (played actions).1 in
        record {
          kept = among_same now later o.kept;
          none_later = among_same (ap (λ n. up_to n (effects_in r')) tick ∙ ap (up_to (events_in t.history.entries)) later) now o.none_later;
        }

  opens_as : (d : Permit) (a : Opens S.Carrier) (b : Opens T.Carrier) → SameOpening R a b → OpensAs d b → OpensAs d a
  opens_as (Ok _) (refused r) (refused q) o t = t
  opens_as (Ok _) (refused r) (opened x) o t = o
  opens_as (Ok _) (opened w) (refused q) o t = tt
  opens_as (Ok _) (opened w) (opened x) o t = tt
  opens_as (Err d) (refused r) (refused q) o t = o ∙ t
  opens_as (Err d) (refused r) (opened x) o t = absurd o
  opens_as (Err d) (opened w) (refused q) o t = o
  opens_as (Err d) (opened w) (opened x) o t = t

  pub simulated : Linearizable T → Linearizable S
  simulated l = record {
    asks = sim.asks;
    opens = λ s. subst (λ (f : Fitting). OpensAs (open_due f) (S.fresh s)) (sym (sim.fits s))
        (opens_as (open_due (T.fitting (setup s))) (S.fresh s) (T.fresh (setup s)) (sim.opens s) (l.opens (setup s)));
    claim = λ s w e K W n m actions. claimed s w e l K W n m actions;
    effects_stay = λ s w e actions more. stays s w e l actions more;
  }
