-- Steps of one call alone, on its process and memory: how runs of steps are put together, and what a run keeps.
use Prim.Native.Nat.{ℕ, zero, suc, ◌+◌, ◌-◌, ◌≤◌}
use mathlib.Core.Path.{◌≡◌, refl, sym, ap, ◌∙◌, subst}
use native.Mathlib.Nat.{add-zero, zero-add}
use native.Mathlib.Omega.{arith}
use Rattle.model.specs.Layout.{Memory}
use Rattle.model.specs.Phases.{Moved, moved, transition_of}
use Rattle.model.specs.Calls.{process_after}
use Rattle.figure.specs.Types.{Answer, Process, Version, Move, Refuse, Wait, Go, Note, Commit, Show, End}

-- a move after which a put or a get goes on
abbrev pub Going : Move → Type 0
Going Refuse = ⊥
Going Wait = ⊥
Going (Go c) = Unit {0}
Going (Note c) = Unit {0}
Going (Commit c a) = Unit {0}
Going (Show c x) = ⊥
Going (End a v e) = ⊥

-- a call's process, and memory
pub record Place : Type 0 where
  pub process : Process
  pub memory : Memory

abbrev pub at_place : Process → Memory → Place
at_place pr m = record { process = pr; memory = m }

-- where a step leads
abbrev pub stepped : (i tick : ℕ) → Place → Moved
stepped i tick a = transition_of (i + 1) tick a.process a.memory

abbrev pub place_after : (i tick : ℕ) → Place → Place
place_after i tick a = at_place (process_after tick a.process (stepped i tick a).move) (stepped i tick a).memory

abbrev pub Goes : (i tick n : ℕ) → Place → Place → Type 0
Goes i tick zero a b = a ≡ b
Goes i tick (suc n) a b = Going (stepped i tick a).move × Goes i (suc tick) n (place_after i tick a) b

-- n steps of process i lead from a to b, the first at this tick, and after each of them the call goes on
pub record Run (i tick n : ℕ) (a b : Place) : Type 0 where
  pub goes : Goes i tick n a b

pub run_none : {i tick : ℕ} {a : Place} → Run i tick 0 a a
run_none = record { goes = refl }

pub run_one : {i tick : ℕ} {pr : Process} {m m' : Memory} {v : Move} → transition_of (i + 1) tick pr m ≡ moved m' v → Going v
    → Run i tick 1 (at_place pr m) (at_place (process_after tick pr v) m')
run_one {i} {tick} {pr} {m} {m'} {v} e g = record {
  goes = (
    subst (λ (r : Moved). Going r.move) (sym e) g,
    ap (λ (r : Moved). at_place (process_after tick pr r.move) r.memory) e,
  );
}

goes_on_lem : (i tick a b : ℕ) (x y z : Place) → Goes i tick a x y → Goes i (tick + a) b y z → Goes i tick (a + b) x z
goes_on_lem i tick zero b x y z f h = rw (f, zero-add) (rw add-zero at h)
goes_on_lem i tick (suc a) b x y z f h = subst (λ n. Goes i tick n x z) (sym (shift a b))
    (f.0, goes_on_lem i (suc tick) a b (place_after i tick x) y z f.1 (subst (λ t. Goes i t b y z) (shift_tick tick a) h))
  where
    shift : (a b : ℕ) → suc a + b ≡ suc (a + b)
    shift a b = omega arith

    shift_tick : (t a : ℕ) → t + suc a ≡ suc t + a
    shift_tick t a = omega arith

pub run_on : {i tick a b : ℕ} {x y z : Place} → Run i tick a x y → Run i (tick + a) b y z → Run i tick (a + b) x z
run_on {i} {tick} {a} {b} {x} {y} {z} f h = record { goes = goes_on_lem i tick a b x y z f.goes h.goes }

-- the same number of steps, written otherwise
pub run_same : {i tick a b : ℕ} {x y : Place} → a ≡ b → Run i tick a x y → Run i tick b x y
run_same {i} {tick} {a} {b} {x} {y} e f = subst (λ n. Run i tick n x y) e f

-- so many steps of process i, whose call was started at this tick, end it: memory left, answer, version and effect tick
pub record Ended (i start steps : ℕ) (x : Place) (left : Memory) (a : Answer) (v : Version) (effect : ℕ) : Type 0 where
  pub before : ℕ
  pub steps_is : suc before ≡ steps
  pub last : Place
  pub run : Run i (start + 1) before x last
  pub ends : transition_of (i + 1) (start + steps) last.process last.memory ≡ moved left (End a v effect)

-- so many steps lead to where every step waits
pub record Waiting (i start steps : ℕ) (x : Place) (left : Memory) : Type 0 where
  pub process : Process
  pub run : Run i (start + 1) steps x (at_place process left)
  pub waits : (tick : ℕ) → transition_of (i + 1) tick process left ≡ moved left Wait

-- no step changes the call
pub after_call : (tick : ℕ) (pr : Process) (v : Move) → Going v → (process_after tick pr v).call ≡ pr.call
unfolding process_after
after_call tick pr Refuse g = absurd g
after_call tick pr Wait g = absurd g
after_call tick pr (Go c) g = refl
after_call tick pr (Note c) g = refl
after_call tick pr (Commit c a) g = refl
after_call tick pr (Show c x) g = absurd g
after_call tick pr (End a v e) g = absurd g

goes_call : (i tick n : ℕ) (x y : Place) → Goes i tick n x y → y.process.call ≡ x.process.call
goes_call i tick zero x y f = ap (λ (z : Place). z.process.call) (sym f)
goes_call i tick (suc n) x y f =
    goes_call i (suc tick) n (place_after i tick x) y f.1 ∙ after_call tick x.process (stepped i tick x).move f.0

pub run_call : {i tick n : ℕ} {x y : Place} → Run i tick n x y → y.process.call ≡ x.process.call
run_call {i} {tick} {n} {x} {y} r = goes_call i tick n x y r.goes

-- ---- a call ends but once

-- of two runs from one place the longer goes on from the end of the shorter
goes_split : (i tick a b : ℕ) (x y z : Place) → Goes i tick a x y → Goes i tick (a + b) x z → Goes i (tick + a) b y z
goes_split i tick zero b x y z f h = rw (add-zero tick) (subst (λ p. Goes i tick b p z) f (rw zero-add at h))
goes_split i tick (suc a) b x y z f h =
    subst (λ t. Goes i t b y z) (sym (shift_tick tick a))
    (goes_split i (suc tick) a b (place_after i tick x) y z f.1 (subst (λ n. Goes i tick n x z) (shift a b) h).1)
  where
    shift : (a b : ℕ) → suc a + b ≡ suc (a + b)
    shift a b = omega arith

    shift_tick : (t a : ℕ) → t + suc a ≡ suc t + a
    shift_tick t a = omega arith

abbrev End-is : Memory → Answer → Version → (m : Memory) → Answer → Version → Type 0
End-is m a v m' a' v' = (m ≡ m') × (a ≡ a') × (v ≡ v')

module _ {i start : ℕ} {x : Place} {n n' : ℕ} {m m' : Memory} {a a' : Answer} {v v' : Version} {e e' : ℕ}
    (E : Ended i start n x m a v e) (E' : Ended i start n' x m' a' v' e') where
  ended_by_lem : (d : ℕ) → Goes i (start + 1 + E.before) d E.last E'.last → E.before + d ≡ E'.before → End-is m a v m' a' v'
  ended_by_lem zero f q =
      let same : moved m (End a v e) ≡ moved m' (End a' v' e') =
      sym E.ends ∙ ap (λ (z : Place). stepped i (start + n) z) f
      ∙ ap (λ k. stepped i (start + k) E'.last) (omega (arith, E.steps_is, E'.steps_is)) ∙ E'.ends in
      let t = told (ap (λ (r : Moved). r.move) same) in
      (ap (λ (r : Moved). r.memory) same, t.0, t.1)
    where
      told : End a v e ≡ End a' v' e' → (a ≡ a') × (v ≡ v')
      told q = (cc, cc)
  ended_by_lem (suc d) f q = absurd (subst (λ (r : Moved). Going r.move) ends f.0)
    where
      ends : stepped i (start + 1 + E.before) E.last ≡ moved m (End a v e)
      ends = ap (λ k. stepped i k E.last) (omega (arith, E.steps_is)) ∙ E.ends

  pub ended_same : E.before ≤ E'.before → End-is m a v m' a' v'
  ended_same le =
      let d = E'.before - E.before in
      let q : E.before + d ≡ E'.before = omega arith in
      ended_by_lem d (goes_split i (start + 1) E.before d x E.last E'.last E.run.goes
      (subst (λ k. Goes i (start + 1) k x E'.last) (sym q) E'.run.goes)) q
