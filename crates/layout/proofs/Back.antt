-- A state is decoded from its words: the other half of the round trip.
use Prim.Native.Nat.{ℕ, suc, ◌*◌, ◌<◌}
use mathlib.Core.Bool.{Bool, true, false}
use mathlib.Core.List.{List, [], ◌∷◌}
use mathlib.Core.Path.{◌≡◌, refl, sym, ap, ◌∙◌}
use native.Mathlib.Omega.{arith}
use lib.Dec.{eqb, leb}
use lib.ListN.{length, get_or, take, drop, length-append}
use lib.Seq.{take_at, drop_at}
use Rattle.model.specs.declared.types.Process.{Process}
use Rattle.model.specs.declared.types.State.{State}
use Rattle.std.specs.Prelude.{if◌then◌else◌}
use Rattle.model.specs.Layout.{levels, limits}
use Rattle.model.specs.State.{no_process}
use Rattle.process.specs.ProcessWords.{sizes, process_words, process_from, known_process}
use Rattle.layout.specs.StateWords.{all_words, state_words, all_from, state_from, all_known, is_state_below, is_state}
use Rattle.layout.specs.Head.{bit}
use Rattle.process.proofs.RoundTrip.{process_long, process_from_lem, process_known}

-- ---- all processes

-- each of a list remembers a node at each level
abbrev pub Remembers : List Process → Type 0
Remembers ps = (i : ℕ) → i < length ps → length (get_or ps i no_process).preds ≡ levels

module _ (p : Process) (ps : List Process) (six : Remembers (p ∷ ps)) where
  own : length p.preds ≡ levels
  own = six 0 (omega arith)

  rest : Remembers ps
  rest i h = six (suc i) (omega (arith, h))

  first : take sizes.process (all_words (p ∷ ps)) ≡ process_words p
  unfolding all_words
  first = take_at (process_words p) (all_words ps) sizes.process (process_long p own)

  others : drop sizes.process (all_words (p ∷ ps)) ≡ all_words ps
  unfolding all_words
  others = drop_at (process_words p) (all_words ps) sizes.process (process_long p own)

pub all_from_lem : (ps : List Process) → Remembers ps → all_from (length ps) (all_words ps) ≡ ps
unfolding all_from
all_from_lem [] six = refl
all_from_lem (p ∷ ps) six =
    ap (λ w. process_from w ∷ all_from (length ps) (drop sizes.process (all_words (p ∷ ps)))) (first p ps six)
    ∙ ap (λ w. process_from (process_words p) ∷ all_from (length ps) w) (others p ps six)
    ∙ ap (λ q. q ∷ all_from (length ps) (all_words ps)) (process_from_lem p (own p ps six))
    ∙ ap (λ r. p ∷ r) (all_from_lem ps (rest p ps six))

all_known_lem : (ps : List Process) → Remembers ps → all_known (length ps) (all_words ps) ≡ true
unfolding all_known
all_known_lem [] six = refl
all_known_lem (p ∷ ps) six =
    ap (λ w. if known_process w then all_known (length ps) (drop sizes.process (all_words (p ∷ ps))) else false) (first p ps six)
    ∙ ap (λ b. if b then all_known (length ps) (drop sizes.process (all_words (p ∷ ps))) else false) (process_known p)
    ∙ ap (all_known (length ps)) (others p ps six)
    ∙ all_known_lem ps (rest p ps six)

all_long : (ps : List Process) → Remembers ps → length (all_words ps) ≡ sizes.process * length ps
unfolding all_words
all_long [] six = refl
all_long (p ∷ ps) six =
    let a = process_long p (own p ps six) in
    let b = all_long ps (rest p ps six) in
    length-append (process_words p) (all_words ps) ∙ omega (arith, a, b)

-- ---- the state: eight processes, each with a node at each level, as every value of its type has

module _ (s : State) (eight : length s.process ≡ limits.processes) (six : Remembers s.process) where
  opened_from : (b : Bool) → (eqb (bit b) (bit true) ≡ b) × (leb (bit b) (bit true) ≡ true)
  opened_from true = (refl, refl)
  opened_from false = (refl, refl)

  -- decoding what was encoded
  pub state_from_lem : state_from (state_words s) ≡ s
  unfolding state_from state_words
  state_from_lem = simp ((opened_from s.opened).0, ← eight, all_from_lem s.process six)

  -- and what was encoded is known as a state
  pub state_known : is_state (state_words s) ≡ true
  unfolding is_state_below state_words
  state_known =
      simp ((opened_from s.opened).1, all_long s.process six, ap (λ n. all_known n (all_words s.process)) (sym eight) ∙ all_known_lem s.process six, eight)
