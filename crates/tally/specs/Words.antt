-- The tally in words: count k in word k.
use Rattle.std.specs.Prelude.{ℕ, List, [], ◌∷◌, get_or}
use Rattle.tally.specs.declared.types.Tally.{Tally}
use Rattle.tally.specs.Tally.{tally_of}

abbrev pub tally_in : List ℕ → Tally
tally_in w = tally_of (get_or w 0 0) (get_or w 1 0) (get_or w 2 0) (get_or w 3 0) (get_or w 4 0) (get_or w 5 0) (get_or w 6 0)

abbrev pub words_of : Tally → List ℕ
words_of t = t.too_old ∷ t.versions_full ∷ t.added ∷ t.keys_full ∷ t.new ∷ t.found ∷ t.none ∷ []
