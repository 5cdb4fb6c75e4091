-- The words of the processes one after another.
use Prim.Native.Nat.{ℕ, zero, suc, ◌+◌, ◌*◌, ◌≤◌, ◌<◌}
use mathlib.Core.Bool.{Bool, true, false}
use mathlib.Core.List.{List, [], ◌∷◌, ◌++◌}
use mathlib.Core.Path.{◌≡◌, refl, sym, ap, ◌∙◌}
use native.Mathlib.Omega.{arith}
use lib.ListN.{length, get_or, take, drop}
use lib.Seq.{drop-drop}
use Rattle.std.specs.Prelude.{if◌then◌else◌, map}
use Rattle.std.specs.List.{flat_map}
use Rattle.model.specs.declared.types.Process.{Process}
use Rattle.std.specs.Simd.{first_chunks}
use Rattle.process.specs.ProcessWords.{sizes, process_words, known_process}
use Rattle.layout.specs.StateWords.{all_words, all_known}
use Rattle.layout.proofs.Laws.{known_rest}

pub part_at : (n i at : ℕ) (w : List ℕ) → i < n → get_or (first_chunks sizes.process n (drop at w)) i [] ≡ take sizes.process (drop (at + sizes.process * i) w)
part_at zero i at w h = absurd (omega (arith, h))
part_at (suc n) zero at w h = let e : at ≡ at + sizes.process * 0 = omega arith in ap (λ k. take sizes.process (drop k w)) e
part_at (suc n) (suc i) at w h =
    let e : at + sizes.process + sizes.process * i ≡ at + sizes.process * suc i = omega arith in
    ap (λ r. get_or (first_chunks sizes.process n r) i []) (drop-drop sizes.process at w)
    ∙ part_at n i (at + sizes.process) w (omega (arith, h))
    ∙ ap (λ k. take sizes.process (drop k w)) e

-- the first n of m parts are known where each of them is
module _ (m : ℕ) where
  abbrev Each : ℕ → List ℕ → Type 0
  Each n w = (k : ℕ) → k < n → known_process (get_or (take n (first_chunks sizes.process m w)) k []) ≡ true

known_each : (m n : ℕ) (w : List ℕ) → n ≤ m → all_known n w ≡ true → Each m n w
known_each m zero w h t k l = absurd (omega (arith, l))
known_each zero (suc n) w h t k l = absurd (omega (arith, h))
known_each (suc m) (suc n) w h t zero l = (known_rest n w t).0
known_each (suc m) (suc n) w h t (suc k) l = known_each m n (drop sizes.process w) (omega (arith, h)) (known_rest n w t).1 k (omega (arith, l))

each_known : (m n : ℕ) (w : List ℕ) → n ≤ m → Each m n w → all_known n w ≡ true
unfolding all_known
each_known m zero w h e = refl
each_known zero (suc n) w h e = absurd (omega (arith, h))
each_known (suc m) (suc n) w h e =
    ap (λ b. if b then all_known n (drop sizes.process w) else false) (e 0 (omega arith))
    ∙ each_known m n (drop sizes.process w) (omega (arith, h)) (λ k l. e (suc k) (omega (arith, l)))

pub all_parts : (m n : ℕ) (w : List ℕ) (r : Bool) → n ≤ m → (r ≡ true → Each m n w)
    → (r ≡ false → (k : ℕ) × (k < n) × (known_process (get_or (take n (first_chunks sizes.process m w)) k []) ≡ false)) → r ≡ all_known n w
all_parts m n w true h to from = sym (each_known m n w h (to refl))
all_parts m n w false h to from = cases (all_known n w) refl
  where
    cases : (a : Bool) → all_known n w ≡ a → false ≡ all_known n w
    cases true e = let f = from refl in absurd (let z : true ≡ false = sym (known_each m n w h e f.0 f.1) ∙ f.2 in cc)
    cases false e = sym e

-- what a function gives of each element, element by element
pub mapped : {A B : Type 0} (f : A → B) (xs : List A) (ys : List B) → length xs ≡ length ys
    → ((i : ℕ) (d : A) (e : B) → i < length ys → get_or ys i e ≡ f (get_or xs i d)) → ys ≡ map f xs
mapped f [] [] l h = refl
mapped f [] (y ∷ ys) l h = absurd (omega (arith, l))
mapped f (x ∷ xs) [] l h = absurd (omega (arith, l))
mapped f (x ∷ xs) (y ∷ ys) l h =
    ap (λ z. z ∷ ys) (h 0 x y (omega arith))
    ∙ ap (λ zs. f x ∷ zs) (mapped f xs ys (omega (arith, l)) (λ i d e k. h (suc i) d e (omega (arith, k))))

pub map_map : {A B C : Type 0} (g : B → C) (f : A → B) (xs : List A) → map (λ x. g (f x)) xs ≡ map g (map f xs)
map_map g f [] = refl
map_map g f (x ∷ xs) = ap (λ r. g (f x) ∷ r) (map_map g f xs)

pub words_joined : (ps : List Process) → flat_map (λ x. x) (map process_words ps) ≡ all_words ps
unfolding all_words
words_joined [] = refl
words_joined (p ∷ ps) = ap (λ r. process_words p ++ r) (words_joined ps)
