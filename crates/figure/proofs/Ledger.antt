-- The figure's get and put answer what the plain ledger answers, and put leaves memory that holds what the ledger's put leaves: by
-- the steps that they are, each of which is good.
use Prim.Native.Nat.{ℕ, zero, suc, ◌+◌, ◌<◌}
use mathlib.Core.Logic.{◌≢◌, ◌⊎◌, inl, inr}
use mathlib.Core.Path.{◌≡◌, refl, sym, ap, ◌∙◌, subst}
use native.Mathlib.Omega.{arith}
use lib.Dec.{T}
use lib.ListN.{length}
use Rattle.model.specs.Layout.{Memory, levels}
use Rattle.model.specs.Map.{Map, PutResult, put_in, answered, get_from}
use Rattle.model.specs.Phases.{Moved, own_version, max_nodes, max_versions}
use Rattle.model.specs.Calls.{begun, process_after}
use Rattle.model.specs.Roles.{is_put, is_get, is_scan}
use Rattle.model.proofs.Words.{filled}
use Rattle.linearizability.proofs.Invariant.{Ghost, Nodes, Book, At, PlacedOf, Fits, fits_at}
use Rattle.linearizability.proofs.Step.{searches, Ending, Does, Good, GoodStep}
use Rattle.linearizability.proofs.Transition.{transition_good}
use Rattle.figure.specs.Types.{Kind, Idle, Put, Get, Walk, Answer, Call, Effect, Process, Version, Move, Refuse, Wait, Go, Note, Commit, Show, End}
use Rattle.figure.proofs.Walking.{Asked}
use Rattle.figure.proofs.Runs.{Going, Place, at_place, stepped, place_after, Goes, after_call, run_call, Ended}

-- a process that has a call, and memory in order that holds the map b
pub record Held (i : ℕ) (x : Place) (b : Map) : Type 0 where
  pub ghost : Ghost
  pub nodes : Nodes x.memory ghost
  pub book : Book x.memory b
  pub fits : Fits x.memory ghost i x.process

-- the tables keep their lengths
pub record Sized (m m' : Memory) : Type 0 where
  pub nodes : length m'.nodes ≡ length m.nodes
  pub versions : length m'.versions ≡ length m.versions

-- a put of the call on the map
abbrev puts : Memory → Call → Map → PutResult
puts m call b = put_in (max_nodes m) (max_versions m) b call.key (own_version call)

-- What the map is after steps of a call: as it was, until the put takes effect on it.
pub record Plays (m : Memory) (pr pr' : Process) (b b' : Map) : Type 0 where
  pub since : pr.effect.tick ≢ 0 → (b' ≡ b) × (pr'.effect ≡ pr.effect)
  pub until : pr.effect.tick ≡ 0
      → ((b' ≡ b) × (pr'.effect.tick ≡ 0))
      ⊎ ((pr'.effect.tick ≢ 0) × (puts m pr.call b ≡ answered b' pr'.effect.answer))

pub record Kept (i : ℕ) (x y : Place) (b : Map) : Type 0 where
  pub map : Map
  pub held : Held i y map
  pub sized : Sized x.memory y.memory
  pub plays : Plays x.memory x.process y.process b map

step_plays : (m : Memory) (pr : Process) (tick : ℕ) (b b' : Map) (v : Move) → tick ≢ 0 → Going v → Does m pr tick b b' v
    → Plays m pr (process_after tick pr v) b b'
unfolding process_after
step_plays m pr tick b b' Refuse nz g d = absurd g
step_plays m pr tick b b' Wait nz g d = absurd g
step_plays m pr tick b b' (Go c) nz g d = record { since = λ e. (d.0, refl); until = λ e. inl (d.0, e) }
step_plays m pr tick b b' (Note c) nz g d = record { since = λ e. (d.0, refl); until = λ e. inl (d.0, e) }
step_plays m pr tick b b' (Commit c a) nz g d = record { since = λ e. absurd (e d.1); until = λ e. inr (nz, d.2) }
step_plays m pr tick b b' (Show c x) nz g d = absurd g
step_plays m pr tick b b' (End a v e) nz g d = absurd g

-- a put on tables of the same lengths is the same put
puts_same : {m m₁ : Memory} → Sized m m₁ → (call : Call) (b : Map) → puts m₁ call b ≡ puts m call b
puts_same s call b = rw (s.nodes, s.versions)

-- one step, then more
plays_on : {m m₁ : Memory} {p p₁ p₂ : Process} {b b₁ b₂ : Map} → p₁.call ≡ p.call → Sized m m₁ → Plays m p p₁ b b₁
    → Plays m₁ p₁ p₂ b₁ b₂
    → Plays m p p₂ b b₂
plays_on {m} {m₁} {p} {p₁} {p₂} {b} {b₁} {b₂} same sized f g = record { since = since; until = until }
  where
    since : p.effect.tick ≢ 0 → (b₂ ≡ b) × (p₂.effect ≡ p.effect)
    since e =
        let x = f.since e in
        let y = g.since (λ z. e (ap (λ (q : Effect). q.tick) (sym x.1) ∙ z)) in
        (y.0 ∙ x.0, y.1 ∙ x.1)

    later : p.effect.tick ≡ 0
        → ((b₂ ≡ b₁) × (p₂.effect.tick ≡ 0))
        ⊎ ((p₂.effect.tick ≢ 0) × (puts m₁ p₁.call b₁ ≡ answered b₂ p₂.effect.answer))
        → b₁ ≡ b → ((b₂ ≡ b) × (p₂.effect.tick ≡ 0))
        ⊎ ((p₂.effect.tick ≢ 0) × (puts m p.call b ≡ answered b₂ p₂.effect.answer))
    later e (inl x) q = inl (x.0 ∙ q, x.1)
    later e (inr x) q = inr (
      x.0,
      sym (puts_same sized p.call b) ∙ ap (λ (c : Call). puts m₁ c b) (sym same)
          ∙ ap (puts m₁ p₁.call) (sym q) ∙ x.1,
    )

    until_by : p.effect.tick ≡ 0
        → ((b₁ ≡ b) × (p₁.effect.tick ≡ 0)) ⊎ ((p₁.effect.tick ≢ 0) × (puts m p.call b ≡ answered b₁ p₁.effect.answer))
        → ((b₂ ≡ b) × (p₂.effect.tick ≡ 0)) ⊎ ((p₂.effect.tick ≢ 0) × (puts m p.call b ≡ answered b₂ p₂.effect.answer))
    until_by e (inl x) = later e (g.until x.1) x.0
    until_by e (inr x) =
        let y = g.since x.0 in
        inr (
          (λ z. x.0 (ap (λ (q : Effect). q.tick) (sym y.1) ∙ z)),
          x.1 ∙ ap (λ (z : Map). answered z p₁.effect.answer) (sym y.0)
              ∙ ap (λ (q : Effect). answered b₂ q.answer) (sym y.1),
        )

    until : p.effect.tick ≡ 0
        → ((b₂ ≡ b) × (p₂.effect.tick ≡ 0)) ⊎ ((p₂.effect.tick ≢ 0) × (puts m p.call b ≡ answered b₂ p₂.effect.answer))
    until e = until_by e (f.until e)

-- ---- a run of steps

kept_goes : (i tick n : ℕ) (x y : Place) (b : Map) → tick ≢ 0 → x.process.call.kind ≢ Idle → Held i x b → Goes i tick n x y
    → Kept i x y b
kept_goes i tick zero x y b nz busy h go = subst (λ z. Kept i x z b) go (record {
  map = b;
  held = h;
  sized = record { nodes = refl; versions = refl };
  plays = record { since = λ e. (refl, refl); until = λ e. inl (refl, e) };
})
kept_goes i tick (suc n) x y b nz busy h go =
    let m = x.memory in
    let pr = x.process in
    let v = (stepped i tick x).move in
    let G : Good m h.ghost i pr tick b v (stepped i tick x).memory =
    transition_good m h.ghost i pr tick b h.nodes h.book nz h.fits busy in
    let same : (process_after tick pr v).call ≡ pr.call = after_call tick pr v go.0 in
    let z = place_after i tick x in
    let rest = kept_goes i (suc tick) n z y G.b' (λ e. omega arith) (λ e. busy (ap (λ (c : Call). c.kind) (sym same) ∙ e))
    (record { ghost = G.g'; nodes = G.nodes; book = G.book; fits = G.fits }) go.1 in
    record {
      map = rest.map;
      held = rest.held;
      sized = record { nodes = rest.sized.nodes ∙ G.node_words_lem; versions = rest.sized.versions ∙ G.version_words_lem };
      plays = plays_on same (record { nodes = G.node_words_lem; versions = G.version_words_lem })
          (step_plays m pr tick b G.b' v nz go.0 G.does) rest.plays;
    }

-- ---- a call from its start to its end

-- memory that the call leaves, in order, and the map that it holds
pub record Played (m left : Memory) (call : Call) (b : Map) (a : Answer) (v : Version) : Type 0 where
  pub map : Map
  pub ghost : Ghost
  pub nodes : Nodes left ghost
  pub book : Book left map
  pub sized : Sized m left
  pub got : call.kind ≡ Get → (map ≡ b) × (get_from b call.key ≡ record { answer = a; version = v })
  pub put : call.kind ≡ Put → puts m call b ≡ answered map a

module _ {m : Memory} {g : Ghost} {b : Map} (N : Nodes m g) (B : Book m b) {kind : Kind} {call : Call} (P : Asked kind call)
    (busy : kind ≢ Idle)
    (i : ℕ) where
  has_call : call.kind ≢ Idle
  has_call e = busy (sym P.kind_is ∙ e)

  begun_placed : PlacedOf m g (begun call)
  begun_placed = record {
    top5 = P.top_high;
    six = refl;
    spot = at 5 (omega arith);
    memo = λ j h. rw (filled {A = ℕ} 6 j 0) (at j h);
  }
    where
      at : (j : ℕ) → j < levels → At m g j 0 call.key
      at j h = record { used = omega arith; up = omega (arith, N.head_high); low = omega (arith, N.head_key, P.key_low) }

  module _ {start n : ℕ} {left : Memory} {a : Answer} {v : Version} {e : ℕ}
      (E : Ended i start n (at_place (begun call) m) left a v e) where
    abbrev last : Place
    last = E.last

    kept : Kept i (at_place (begun call) m) last b
    kept = kept_goes i (start + 1) E.before (at_place (begun call) m) last b (λ z. omega arith) has_call
        (record { ghost = g; nodes = N; book = B; fits = fits_at Walk refl (searches call.kind has_call) (begun_placed, (refl, refl)) }) E.run.goes

    same : last.process.call ≡ call
    same = run_call E.run

    -- the last step
    good : Good last.memory kept.held.ghost i last.process (start + n) kept.map (End a v e) left
    good = subst (λ (r : Moved). GoodStep last.memory kept.held.ghost i last.process (start + n) kept.map r) E.ends
        (transition_good last.memory kept.held.ghost i last.process (start + n) kept.map kept.held.nodes
        kept.held.book (λ z. omega (arith, E.steps_is))
        kept.held.fits (λ z. has_call (ap (λ (c : Call). c.kind) (sym same) ∙ z)))

    -- as a get it found the map as it was; as a put it played the put
    gets : (last.process.effect.tick ≡ 0) → get_from kept.map last.process.call.key ≡ record { answer = a; version = v }
        → (kept.map ≡ b) × (get_from b call.key ≡ record { answer = a; version = v })
    gets z q = by (kept.plays.until refl)
      where
        by : ((kept.map ≡ b) × (last.process.effect.tick ≡ 0))
            ⊎ ((last.process.effect.tick ≢ 0) × (puts m call b ≡ answered kept.map last.process.effect.answer))
            → (kept.map ≡ b) × (get_from b call.key ≡ record { answer = a; version = v })
        by (inl x) = (
          x.0,
          ap (λ (y : Map). get_from y call.key) (sym x.0)
              ∙ ap (λ (c : Call). get_from kept.map c.key) (sym same) ∙ q,
        )
        by (inr x) = absurd (x.0 z)

    plays_put : (last.process.effect.tick ≢ 0) → a ≡ last.process.effect.answer → puts m call b ≡ answered kept.map a
    plays_put z q = by (kept.plays.until refl)
      where
        by : ((kept.map ≡ b) × (last.process.effect.tick ≡ 0))
            ⊎ ((last.process.effect.tick ≢ 0) × (puts m call b ≡ answered kept.map last.process.effect.answer))
            → puts m call b ≡ answered kept.map a
        by (inl x) = absurd (z x.1)
        by (inr x) = x.1 ∙ ap (answered kept.map) (sym q)

    pub played : Played m left call b a v
    played = record {
      map = good.b';
      ghost = good.g';
      nodes = good.nodes;
      book = good.book;
      sized = record { nodes = good.node_words_lem ∙ kept.sized.nodes; versions = good.version_words_lem ∙ kept.sized.versions };
      got = λ is. as_get is good.does.1;
      put = λ is. as_put is good.does.1;
    }
      where
        kind_is : last.process.call.kind ≡ call.kind
        kind_is = ap (λ (c : Call). c.kind) same

        Ends : Type 0
        Ends = Ending last.process (start + n) kept.map a v e

        as_get : call.kind ≡ Get → Ends → (good.b' ≡ b) × (get_from b call.key ≡ record { answer = a; version = v })
        as_get is (inl d) = let q = gets d.1 d.3 in (good.does.0 ∙ q.0, q.1)
        as_get is (inr (inl d)) = absurd (subst (λ k. T (is_put k)) (kind_is ∙ is) d.0)
        as_get is (inr (inr d)) = absurd (subst (λ k. T (is_scan k)) (kind_is ∙ is) d.0)

        as_put : call.kind ≡ Put → Ends → puts m call b ≡ answered good.b' a
        as_put is (inl d) = absurd (subst (λ k. T (is_get k)) (kind_is ∙ is) d.0)
        as_put is (inr (inl d)) = plays_put d.1 d.3 ∙ ap (λ (y : Map). answered y a) (sym good.does.0)
        as_put is (inr (inr d)) = absurd (subst (λ k. T (is_scan k)) (kind_is ∙ is) d.0)
