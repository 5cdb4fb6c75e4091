-- The effects of a run as a list with one entry for each event: what a call's effect is there, and that one event more
-- changes nothing of what is past.
use Prim.Native.Nat.{ℕ, suc, ◌≤◌, ◌<◌}
use mathlib.Core.List.{List, [], ◌∷◌, ◌++◌}
use mathlib.Core.Logic.{◌≢◌}
use mathlib.Core.Bool.{true}
use mathlib.Core.Path.{◌≡◌, refl, sym, ap, ◌∙◌}
use native.Mathlib.Omega.{arith}
use lib.ListN.{length, get_or, take, length-append, get_or-append, get_or-eq_default}
use lib.Seq.{get_or_at, take_at, take-append-le}
use Rattle.linearizability.specs.Types.{BadKey, Found, Swept, Err}
use Rattle.std.specs.Prelude.{if◌then◌else◌}
use Rattle.model.specs.Requests.{Operation, put, get, scan, kind_of}
use Rattle.model.specs.Map.{Map, versions_of, Reply, get_from, applied, look_in}
use Rattle.model.specs.Numbers.{no_version}
use Rattle.model.specs.State.{lawful_key}
use Rattle.model.specs.History.{Action, step, look, Invoked, Sight, Completed, Query}
use Rattle.model.specs.Linearizability.{takes_effect, reply_told, All, Any, Rising}
use Rattle.model.proofs.Tests.{by_eq, by_le}

-- what took effect at an event: nothing, or a process's call
pub data Took : Type 0 where
  nothing : Took
  took : (process : ℕ) → Invoked → Took

unfoldable pub fed : (K W : ℕ) → Map → Took → Map
fed K W b nothing = b
fed K W b (took i c) = (applied K W b c.operation).map

-- the map after a list of effects
unfoldable pub played : (K W : ℕ) → Map → List Took → Map
played K W b [] = b
played K W b (e ∷ es) = played K W (fed K W b e) es

pub played_snoc : (K W : ℕ) (b : Map) (es : List Took) (e : Took) → played K W b (es ++ (e ∷ [])) ≡ fed K W (played K W b es) e
unfolding played
played_snoc K W b [] e = refl
played_snoc K W b (d ∷ es) e = played_snoc K W (fed K W b d) es e

pub nothing≢took : {i : ℕ} {c : Invoked} → nothing ≡ took i c → ⊥
nothing≢took {i} {c} e = let z : ◌≡◌ {A = ℕ} 0 1 = cc in omega arith

-- one list begins with the other
abbrev pub Grows : List Took → List Took → Type 0
Grows from eff = (length from ≤ length eff) × ((n : ℕ) → n < length from → get_or eff n nothing ≡ get_or from n nothing)

pub grows_on : (from eff : List Took) (x : Took) → Grows from eff → Grows from (eff ++ (x ∷ []))
grows_on from eff x g = (
  omega (arith, g.0, length-append eff (x ∷ [])),
  λ n lt. get_or-append eff (x ∷ []) nothing n (omega (arith, g.0)) ∙ g.1 n lt,
)

pub all_map : {A : Type 0} {P Q : A → Type 0} → ((x : A) → P x → Q x) → (l : List A) → All P l → All Q l
all_map f [] h = h
all_map {P = P} {Q = Q} f (x ∷ xs) h = (f x h.0, all_map {P = P} {Q = Q} f xs h.1)

-- a process's call took effect at this tick, a step of that process after its start, and the map as it stood answers so
pub record Entered (K W : ℕ) (log : List Action) (eff : List Took) (i : ℕ) (c : Invoked) (tick : ℕ) (reply : Reply) : Type 0 where
  pub before : ℕ
  pub tick_is : tick ≡ suc before
  pub within : before < length eff
  pub after_start : c.start < tick
  pub own_step : get_or log before (look 0 0) ≡ step i
  pub took_is : get_or eff before nothing ≡ took i c
  pub replies : (applied K W (played K W [] (take before eff)) c.operation).reply ≡ reply

-- ---- what a call shows, over the list of effects

-- one sight of a scan
abbrev pub SightedIn : (K W : ℕ) → List Took → (first last : ℕ) → Sight → Type 0
SightedIn K W eff first last s = (first ≤ s.item.key) × (s.item.key ≤ last) × (s.tick ≤ length eff)
    × (get_from (played K W [] (take s.tick eff)) s.item.key ≡ record { answer = Found; version = s.item.version })

-- what a call has shown, by what was started
abbrev pub ShownIn : (K W : ℕ) → List Took → Operation → List Sight → Type 0
ShownIn K W eff (put k v t draw) ss = ss ≡ []
ShownIn K W eff (get k) ss = ss ≡ []
ShownIn K W eff (scan first last) ss = All (SightedIn K W eff first last) ss × Rising ss

abbrev pub Has : Map → (key : ℕ) → Type 0
Has b k = versions_of b k ≢ []

abbrev pub IsShown : (key : ℕ) → List Sight → Type 0
IsShown k ss = Any (λ (s : Sight). s.item.key ≡ k) ss

-- what ends a call that takes no effect
abbrev pub EndedIn : (K W : ℕ) → List Took → Completed → Operation → Type 0
EndedIn K W eff d (put k v t draw) = Unit {0}
EndedIn K W eff d (get k) = Unit {0}
EndedIn K W eff d (scan first last) = (reply_told d.told ≡ record { answer = Swept; version = no_version }) × (d.told.effect ≡ 0)
    × (d.invoked.start ≤ length eff)
    × ((k : ℕ) → first ≤ k → k ≤ last → Has (played K W [] (take d.invoked.start eff)) k → IsShown k d.shown)

-- a finished call
pub record Settles (K W : ℕ) (log : List Action) (eff : List Took) (d : Completed) : Type 0 where
  pub kind : d.told.kind ≡ kind_of d.invoked.operation
  pub start : d.told.start ≡ d.invoked.start
  pub finish : d.told.finish ≡ d.ended
  pub ended : d.ended ≤ length log
  pub effective : takes_effect d.invoked.operation ≡ true
      → (d.told.effect ≤ d.ended) × Entered K W log eff d.process d.invoked d.told.effect (reply_told d.told)
  pub showed : ShownIn K W eff d.invoked.operation d.shown
  pub without : EndedIn K W eff d d.invoked.operation

-- a look
abbrev pub LookedAt : (K W : ℕ) → List Took → Query → Type 0
LookedAt K W eff q = (q.tick ≤ length eff) × (q.outcome ≡
    (if lawful_key q.key then look_in (played K W [] (take q.tick eff)) q.key q.back else Err BadKey))

-- ---- one event more

module _ (K W : ℕ) (log : List Action) (eff : List Took) (a : Action) (x : Took) (even : length eff ≡ length log) where
  pub entered_grow : {i t : ℕ} {c : Invoked} {r : Reply} → Entered K W log eff i c t r
      → Entered K W (log ++ (a ∷ [])) (eff ++ (x ∷ [])) i c t r
  entered_grow {i} {t} {c} {r} e = record {
    before = e.before;
    tick_is = e.tick_is;
    within = omega (arith, e.within, length-append eff (x ∷ []));
    after_start = e.after_start;
    own_step = get_or-append log (a ∷ []) (look 0 0) e.before (omega (arith, e.within)) ∙ e.own_step;
    took_is = get_or-append eff (x ∷ []) nothing e.before e.within ∙ e.took_is;
    replies =
        ap (λ l. (applied K W (played K W [] l) c.operation).reply) (take-append-le e.before eff (x ∷ []) (omega (arith, e.within))) ∙ e.replies;
  }

  pub shown_grow : (op : Operation) (ss : List Sight) → ShownIn K W eff op ss → ShownIn K W (eff ++ (x ∷ [])) op ss
  shown_grow (put k v t draw) ss h = h
  shown_grow (get k) ss h = h
  shown_grow (scan first last) ss h = (
    all_map (λ s q. (q.0, q.1, omega (arith, q.2, length-append eff (x ∷ [])), rw (take-append-le s.tick eff (x ∷ []) q.2) q.3)) ss h.0,
    h.1,
  )

  ended_grow : (d : Completed) (op : Operation) → EndedIn K W eff d op → EndedIn K W (eff ++ (x ∷ [])) d op
  ended_grow d (put k v t draw) h = h
  ended_grow d (get k) h = h
  ended_grow d (scan first last) h = (
    h.0,
    h.1,
    omega (arith, h.2, length-append eff (x ∷ [])),
    rw (take-append-le d.invoked.start eff (x ∷ []) h.2) h.3,
  )

  pub settles_grow : (d : Completed) → Settles K W log eff d → Settles K W (log ++ (a ∷ [])) (eff ++ (x ∷ [])) d
  settles_grow d h = record {
    kind = h.kind;
    start = h.start;
    finish = h.finish;
    ended = omega (arith, h.ended, length-append log (a ∷ []));
    effective = λ must. let e = h.effective must in (e.0, entered_grow e.1);
    showed = shown_grow d.invoked.operation d.shown h.showed;
    without = ended_grow d d.invoked.operation h.without;
  }

  pub looked_grow : (q : Query) → LookedAt K W eff q → LookedAt K W (eff ++ (x ∷ [])) q
  looked_grow q h = (omega (arith, h.0, length-append eff (x ∷ [])), rw (take-append-le q.tick eff (x ∷ []) h.0) h.1)

  -- the effect of this very event
  pub entered_now : (i : ℕ) (c : Invoked) (r : Reply) → a ≡ step i → x ≡ took i c → c.start ≤ length log
      → (applied K W (played K W [] eff) c.operation).reply ≡ r
      → Entered K W (log ++ (a ∷ [])) (eff ++ (x ∷ [])) i c (suc (length log)) r
  entered_now i c r ea ex st h = record {
    before = length log;
    tick_is = refl;
    within = omega (arith, length-append eff (x ∷ []), even);
    after_start = omega arith;
    own_step = get_or_at log a [] (look 0 0) (length log) refl ∙ ea;
    took_is = get_or_at eff x [] nothing (length log) even ∙ ex;
    replies = ap (λ l. (applied K W (played K W [] l) c.operation).reply) (take_at eff (x ∷ []) (length log) even) ∙ h;
  }

  -- an effect in the longer list is an old one or this event's
  pub effect_cases : {P : Type 0} (n i : ℕ) (c : Invoked) → get_or (eff ++ (x ∷ [])) n nothing ≡ took i c
      → (get_or eff n nothing ≡ took i c → P) → (n ≡ length log → x ≡ took i c → P) → P
  effect_cases n i c e old now = by_le (length eff) n
      (λ le. by_eq n (length log)
      (λ q. now q (sym (get_or_at eff x [] nothing n (even ∙ sym q)) ∙ e))
      (λ q. absurd (nothing≢took (sym (get_or-eq_default (eff ++ (x ∷ [])) nothing (omega (arith, length-append eff (x ∷ [])))) ∙ e))))
      (λ lt. old (sym (get_or-append eff (x ∷ []) nothing n lt) ∙ e))
