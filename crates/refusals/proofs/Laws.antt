-- Laws of the refusals: what a test tells, and what a call that is not refused may go by.
use Rattle.model.specs.Types.{Permit, Ok, Err}
use Prim.Native.Nat.{ℕ, zero, suc, ◌-◌, ◌*◌, ◌≤◌, ◌<◌}
use mathlib.Core.Bool.{Bool, true, false, not, ◌&&◌, and-eq-true_iff}
use mathlib.Core.List.{List, [], ◌∷◌}
use mathlib.Core.Path.{◌≡◌, refl, sym, ◌∙◌}
use native.Mathlib.Numerals.{unary_clauses}
use native.Mathlib.Omega.{arith}
use borrow.Author.Tests.{leb-false, eqb-true, not-false}
use lib.Dec.{leb, ltb, eqb}
use lib.ListN.{length}
use Rattle.model.specs.declared.types.Kind.{Kind}
use Rattle.model.specs.declared.types.Refusal.{Refusal}
use Rattle.model.specs.declared.types.Refusal.TheVariants.{Corrupt, NoProcess, BadKey, BadRange, Busy, NoCall, Spent}
use Rattle.model.specs.declared.types.State.{State}
use Rattle.model.specs.Layout.{limits, node_words, version_words, capacity}
use Rattle.model.specs.State.{no_process, process_at, lawful_key, lawful_nodes, lawful_versions, lawful_length, lawful_state, lawful_store}
use Rattle.model.specs.Calls.{deny_if, no_such, spent, open_due, open_permit, start_permit, Store, step_permit, look_permit, status_permit}
use Rattle.model.specs.Inspection.{idle_below, inspect_permit}
use Rattle.model.specs.Roles.{is_idle}
use Rattle.model.proofs.Laws.{granted_iff}
use Rattle.model.proofs.Tests.{leb_iff, eqb_iff}
use Rattle.tables.specs.Room.{Lent}
use Rattle.std.specs.Result.{result_and}
use Rattle.std.specs.List.{list_all}
use Rattle.std.proofs.Math.Seq.{take-suc}
use Rattle.std.proofs.Math.Bool.{and_comm, and-true}
use Rattle.std.proofs.lemmas.List.Folds.{list_all-append}
use Rattle.std.specs.Prelude.{take}
use Rattle.model.specs.declared.types.Process.{Process}

-- what is given first stands, and behind what is let pass comes the next
pub and_deny : (b : Bool) (r : Refusal) (p q : Permit) → result_and (deny_if b r p) q ≡ deny_if b r (result_and p q)
and_deny true r p q = refl
and_deny false r p q = refl

-- a refusal and whether its condition is met
pub record Condition : Type 0 where
  pub met : Bool
  pub refusal : Refusal

abbrev pub when : Bool → Refusal → Condition
when b r = record { met = b; refusal = r }

-- refusals put together from the first to the last, as the code does, and as the definitions have them
abbrev pub forwards : Permit → List Condition → Permit
forwards p [] = p
forwards p (c ∷ cs) = forwards (result_and p (deny_if c.met c.refusal (Ok tt))) cs

abbrev pub nested : List Condition → Permit
nested [] = Ok tt
nested (c ∷ cs) = deny_if c.met c.refusal (nested cs)

denied_stays : (r : Refusal) (cs : List Condition) → forwards (Err r) cs ≡ Err r
denied_stays r [] = refl
denied_stays r (c ∷ cs) = denied_stays r cs

first_by : (b : Bool) (r : Refusal) (cs : List Condition) → forwards (Ok tt) cs ≡ nested cs
    → forwards (deny_if b r (Ok tt)) cs ≡ deny_if b r (nested cs)
first_by true r cs e = denied_stays r cs
first_by false r cs e = e

-- of any list of conditions both are the first one met
pub first_met : (cs : List Condition) → forwards (Ok tt) cs ≡ nested cs
first_met [] = refl
first_met (c ∷ cs) = first_by c.met c.refusal cs (first_met cs)

-- one process less
pub idle_more : (s : State) (n : ℕ) → 0 < n
    → idle_below s n ≡ is_idle (process_at s (n - 1)).call.kind && idle_below s (n - 1)
unfolding idle_below
idle_more s zero h = absurd (omega arith)
idle_more s (suc n) h = simp unary_clauses

-- tested one after another from the first, or by number from the last
pub idle_all : (s : State) (n : ℕ) → n ≤ length s.process → list_all (λ (p : Process). is_idle p.call.kind) (take n s.process) ≡ idle_below s n
unfolding idle_below
idle_all s zero h = refl
idle_all s (suc n) h =
    rw (
      take-suc s.process n no_process (omega arith),
      list_all-append (λ (p : Process). is_idle p.call.kind) (take n s.process) _,
      idle_all s n (omega arith),
      and-true (is_idle (process_at s n).call.kind),
    ) (and_comm (idle_below s n) (is_idle (process_at s n).call.kind))

-- ---- lawful

pub lawful_processes : (s : State) → lawful_state s ≡ true → s.processes ≤ limits.processes
unfolding lawful_state
lawful_processes s h = let f = simp (and-eq-true_iff, leb_iff) at h in omega arith

-- what may be gone by where refusal 10 is not given
pub record Lawful (s : State) (nodes versions : List ℕ) : Type 0 where
  pub processes : s.processes ≤ limits.processes
  pub limit : s.limit ≤ limits.events
  pub lent : Lent nodes versions s.counts

pub lawful_store_lem : (s : State) (nodes versions : List ℕ) → lawful_store s nodes versions ≡ true
    → Lawful s nodes versions
unfolding lawful_store lawful_state lawful_length capacity
lawful_store_lem s nodes versions h =
    let f = simp (and-eq-true_iff, leb_iff, eqb_iff) at h in
    record {
      processes = omega arith;
      limit = omega arith;
      lent = record { node = omega arith; version = omega arith; few_nodes = omega arith; few_versions = omega arith };
    }

-- ---- granted

-- what an accepted opening may go by
pub record MayOpen (nodes versions : List ℕ) : Type 0 where
  pub head : node_words ≤ length nodes
  pub few_nodes_lem : length nodes ≤ node_words * suc limits.nodes
  pub few_versions_lem : length versions ≤ version_words * suc limits.versions

pub may_open : (nodes versions : List ℕ) (processes limit : ℕ) {p : Permit} → p ≡ open_permit nodes versions processes limit
    → p ≡ (Ok tt) → MayOpen nodes versions
unfolding open_due lawful_length
may_open nodes versions processes limit e g =
    let f = simp granted_iff at (sym e ∙ g) in
    let n = simp (and-eq-true_iff, leb_iff, eqb_iff) at (not-false (lawful_nodes (length nodes)) f.0) in
    let v = simp (and-eq-true_iff, leb_iff, eqb_iff) at (not-false (lawful_versions (length versions)) f.1.0) in
    record { head = omega arith; few_nodes_lem = omega arith; few_versions_lem = omega arith }

-- what an accepted start may go by
pub record MayStart (s : State) (nodes versions : List ℕ) (i : ℕ) : Type 0 where
  pub lawful : Lawful s nodes versions
  pub process : i < s.processes
  pub event : s.events < s.limit

pub may_start : (s : State) (nodes versions : List ℕ) (i first last : ℕ) {p : Permit} → p ≡ start_permit s nodes versions i first last
    → p ≡ (Ok tt) → MayStart s nodes versions i
unfolding start_permit
may_start s nodes versions i first last e g =
    let f = simp granted_iff at (sym e ∙ g) in
    record {
      lawful = lawful_store_lem s nodes versions (not-false _ f.0);
      process = leb-false _ _ f.1.0;
      event = leb-false _ _ f.1.1.1.1.1.0;
    }

-- what a look and an inspection that are let pass may go by
pub may_look : (s : State) (nodes versions : List ℕ) (k : ℕ) → look_permit s nodes versions k ≡ (Ok tt) → Lawful s nodes versions
unfolding look_permit
may_look s nodes versions k g = lawful_store_lem s nodes versions (not-false _ (simp granted_iff at g).0)

pub may_inspect : (s : State) (nodes versions : List ℕ) → inspect_permit s nodes versions ≡ (Ok tt) → Lawful s nodes versions
unfolding inspect_permit
may_inspect s nodes versions g = lawful_store_lem s nodes versions (not-false _ (simp granted_iff at g).0)

-- what a step may go by once refusals 10, 5, 8 and 9 are not given
pub record MayStep (w : Store) (i : ℕ) : Type 0 where
  pub start : MayStart w.state w.nodes w.versions i
  pub tally : length w.tally ≡ limits.tally

pub may_step : (w : Store) (i : ℕ) {p : Permit} → p ≡ step_permit w i → p ≡ (Ok tt) → MayStep w i
unfolding step_permit
may_step w i e g =
    let f = simp granted_iff at (sym e ∙ g) in
    let t = lawful_store w.state w.nodes w.versions && eqb (length w.tally) limits.tally in
    let l = simp and-eq-true_iff at (not-false t f.0) in
    record {
      start = record {
        lawful = lawful_store_lem w.state w.nodes w.versions l.0;
        process = leb-false _ _ f.1.0;
        event = leb-false _ _ f.1.1.1.0;
      };
      tally = eqb-true _ _ l.1;
    }

-- where standing is told, the process stands in the array
pub may_tell : (s : State) (i : ℕ) {p : Permit} → p ≡ status_permit s i → p ≡ (Ok tt) → i < limits.processes
unfolding status_permit
may_tell s i e g =
    let f = simp granted_iff at (sym e ∙ g) in
    let p = lawful_processes s (not-false (lawful_state s) f.0) in
    omega (arith, leb-false s.processes i f.1.0)

-- ---- the kind

-- what comes after refusals 10 and 5 counts only where neither is given
after_ten_and_five : (l : Bool) (n i : ℕ) (x y : Permit) → (l ≡ true → i < n → x ≡ y)
    → deny_if (not l) Corrupt (deny_if (leb n i) NoProcess x) ≡ deny_if (not l) Corrupt (deny_if (leb n i) NoProcess y)
after_ten_and_five l n i x y f = cases l (leb n i) refl refl
  where
    cases : (a b : Bool) → l ≡ a → leb n i ≡ b
        → deny_if (not a) Corrupt (deny_if b NoProcess x) ≡ deny_if (not a) Corrupt (deny_if b NoProcess y)
    cases false b e g = refl
    cases true true e g = refl
    cases true false e g = f e (leb-false n i g)

module _
    (s : State)
    (nodes versions : List ℕ)
    (i : ℕ)
    (kind : Kind)
    (found : i < limits.processes → (process_at s i).call.kind ≡ kind)
  where
    -- the permits with the kind that was found
    pub start_kind : (first last : ℕ) → start_permit s nodes versions i first last
        ≡ deny_if (not (lawful_store s nodes versions)) Corrupt
        (deny_if (no_such s i) NoProcess
        (deny_if (not (lawful_key first && lawful_key last)) BadKey
        (deny_if (ltb last first) BadRange
        (deny_if (not (is_idle kind)) Busy
        (deny_if (spent s) Spent
        (Ok tt))))))
    unfolding start_permit
    start_kind first last =
        after_ten_and_five (lawful_store s nodes versions) s.processes i _ _
        (λ l j. let f = lawful_store_lem s nodes versions l in simp (found (omega arith)))

    step_kind : (tally : List ℕ)
        → step_permit (record { state = s; nodes = nodes; versions = versions; tally = tally }) i
        ≡ deny_if (not (lawful_store s nodes versions && eqb (length tally) limits.tally)) Corrupt
        (deny_if (no_such s i) NoProcess
        (deny_if (is_idle kind) NoCall
        (deny_if (spent s) Spent
        (Ok tt))))
    unfolding step_permit
    step_kind tally =
        let t = lawful_store s nodes versions && eqb (length tally) limits.tally in
        after_ten_and_five t s.processes i _ _
        (λ l j. let f = lawful_store_lem s nodes versions (simp and-eq-true_iff at l).0 in simp (found (omega arith)))

    -- a step's permit by what each test told
    pub step_by_lem : (tally : List ℕ) (l t p k e : Bool) → lawful_store s nodes versions ≡ l → eqb (length tally) limits.tally ≡ t
        → no_such s i ≡ p → is_idle kind ≡ k → spent s ≡ e
        → deny_if (not (l && t)) Corrupt (deny_if p NoProcess (deny_if k NoCall (deny_if e Spent (Ok tt))))
        ≡ step_permit (record { state = s; nodes = nodes; versions = versions; tally = tally }) i
    step_by_lem tally l t p k e lawful words none idle late = rw (step_kind tally, lawful, words, none, idle, late)
