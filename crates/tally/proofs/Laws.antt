-- Seven words are the words of the struct that they mean, and the count that grows in them is the one that grows in the struct.
use Prim.Native.Nat.{ℕ, zero, suc, ◌+◌}
use mathlib.Core.Bool.{Bool, true, false}
use mathlib.Core.List.{List, [], ◌∷◌}
use mathlib.Core.Path.{◌≡◌, refl, sym, ap, ◌∙◌}
use native.Mathlib.Omega.{arith}
use lib.Dec.{ltb}
use lib.ListN.{length, get_or, set, drop}
use lib.Seq.{drop-cons, drop-length, set-get_or}
use Rattle.model.specs.declared.types.Answer.{Answer}
use Rattle.model.specs.declared.types.Answer.TheVariants.{TooOld, VersionsFull, Added, KeysFull, New, Found, None, Swept}
use Rattle.std.specs.Prelude.{if◌then◌else◌}
use Rattle.model.specs.Layout.{limits}
use Rattle.model.specs.Numbers.{answer_number}
use Rattle.model.specs.Calls.{counted}
use Rattle.tally.specs.Tally.{more_of, grown_tally}
use Rattle.tally.specs.Words.{tally_in, words_of}

abbrev heads : (k at : ℕ) → List ℕ → List ℕ
heads zero at w = []
heads (suc k) at w = get_or w at 0 ∷ heads k (suc at) w

heads_are : (k at : ℕ) (w : List ℕ) → at + k ≡ length w → drop at w ≡ heads k at w
heads_are zero at w h = let e : at ≡ length w = omega (arith, h) in ap (λ n. drop n w) e ∙ drop-length w
heads_are (suc k) at w h = drop-cons w at 0 (omega (arith, h)) ∙ ap (λ r. get_or w at 0 ∷ r) (heads_are k (suc at) w (omega (arith, h)))

pub seven : (w : List ℕ) → length w ≡ limits.tally → w ≡ words_of (tally_in w)
seven w h = heads_are 7 0 w (sym h)

-- a full count stays: writing it again changes nothing
counted_set : (w : List ℕ) (i : ℕ) (b : Bool)
    → (if b then set w i (get_or w i 0 + 1) else w) ≡ set w i (if b then get_or w i 0 + 1 else get_or w i 0)
counted_set w i true = refl
counted_set w i false = sym (set-get_or w i 0)

pub counted_grown : (w : List ℕ) (a : Answer) → length w ≡ limits.tally → counted w a ≡ words_of (grown_tally (tally_in w) a)
unfolding counted more_of answer_number grown_tally
counted_grown w a h = at a
  where
    one : (i : ℕ) → (if ltb (get_or w i 0) limits.count then set w i (get_or w i 0 + 1) else w) ≡ set (words_of (tally_in w)) i (more_of (get_or w i 0))
    one i = counted_set w i (ltb (get_or w i 0) limits.count) ∙ ap (λ v. set v i (more_of (get_or w i 0))) (seven w h)

    at : (a : Answer) → counted w a ≡ words_of (grown_tally (tally_in w) a)
    at TooOld = one 0
    at VersionsFull = one 1
    at Added = one 2
    at KeysFull = one 3
    at New = one 4
    at Found = one 5
    at None = one 6
    at Swept = seven w h
