-- Laws of the sequential map by the index of an entry: the entry with a key is the first that has it.
use Prim.Native.Nat.{ℕ, zero, suc, ◌+◌, ◌<◌}
use mathlib.Core.List.{[], ◌∷◌, ◌++◌}
use mathlib.Core.Logic.{◌≢◌}
use mathlib.Core.Path.{◌≡◌, refl, ap, ◌∙◌}
use native.Mathlib.Omega.{arith}
use lib.Dec.{eqb}
use lib.ListN.{length, get_or, set}
use Rattle.linearizability.specs.Types.{Version}
use Rattle.model.specs.Map.{Entry, Map, versions_of, held, pushed}
use Rattle.model.proofs.Tests.{if_yes, if_no, eq→eqb, ne→neqb}

abbrev pub no_entry : Entry
no_entry = record { key = 0; versions = [] }

-- entry i is the first with key k
pub record First (b : Map) (k i : ℕ) : Type 0 where
  pub lies : i < length b
  pub key : (get_or b i no_entry).key ≡ k
  pub before : (j : ℕ) → j < i → (get_or b j no_entry).key ≢ k

abbrev pub with_front : Entry → Version → Entry
with_front e v = record { key = e.key; versions = v ∷ e.versions }

first_tail : {e : Entry} {b : Map} {k i : ℕ} → First (e ∷ b) k (suc i) → First b k i
first_tail {e} {b} {k} {i} f = record {
  lies = omega (arith, f.lies);
  key = f.key;
  before = λ j h. f.before (suc j) (omega arith);
}

pub versions_none : (b : Map) (k : ℕ) → ((i : ℕ) → i < length b → (get_or b i no_entry).key ≢ k) → versions_of b k ≡ []
unfolding versions_of
versions_none [] k h = refl
versions_none (e ∷ b) k h =
    if_no (eqb e.key k) e.versions (versions_of b k) (ne→neqb e.key k (h 0 (omega arith)))
    ∙ versions_none b k (λ i l. h (suc i) (omega arith))

pub versions_first : (b : Map) (k i : ℕ) → First b k i → versions_of b k ≡ (get_or b i no_entry).versions
unfolding versions_of
versions_first [] k i f = absurd (omega (arith, f.lies))
versions_first (e ∷ b) k zero f = if_yes (eqb e.key k) e.versions (versions_of b k) (eq→eqb e.key k f.key)
versions_first (e ∷ b) k (suc i) f =
    if_no (eqb e.key k) e.versions (versions_of b k) (ne→neqb e.key k (f.before 0 (omega arith)))
    ∙ versions_first b k i (first_tail f)

pub pushed_first : (b : Map) (k i : ℕ) (v : Version) → First b k i → pushed b k v ≡ set b i (with_front (get_or b i no_entry) v)
unfolding pushed
pushed_first [] k i v f = absurd (omega (arith, f.lies))
pushed_first (e ∷ b) k zero v f =
    if_yes (eqb e.key k) (with_front e v ∷ b) (e ∷ pushed b k v) (eq→eqb e.key k f.key)
pushed_first (e ∷ b) k (suc i) v f =
    if_no (eqb e.key k) (with_front e v ∷ b) (e ∷ pushed b k v) (ne→neqb e.key k (f.before 0 (omega arith)))
    ∙ ap {B = Map} (λ l. e ∷ l) (pushed_first b k i v (first_tail f))

pub held_set : (b : Map) (i : ℕ) (v : Version) → i < length b → held (set b i (with_front (get_or b i no_entry) v)) ≡ suc (held b)
unfolding held
held_set [] i v h = absurd (omega arith)
held_set (e ∷ b) zero v h = omega arith
held_set (e ∷ b) (suc i) v h = omega (arith, held_set b i v (omega arith))

pub held_snoc : (b : Map) (e : Entry) → held (b ++ (e ∷ [])) ≡ held b + length e.versions
unfolding held
held_snoc [] e = omega arith
held_snoc (d ∷ b) e = omega (arith, held_snoc b e)
