-- Text as bytes: ASCII, numbers in decimal, and what writing at a position of a buffer leaves.
use Rattle.std.specs.Prelude.{ℕ, zero, suc, ◌+◌, ◌/◌, ◌%◌, ◌≤◌, ◌≡◌, List, [], ◌∷◌, ◌++◌, ltb, length}
use Prim.Native.Char.{code}
use Prim.Native.String.{String}
use Rattle.std.proofs.lemmas.List.Edits.{sets}
use Rattle.std.specs.Prelude.{if◌then◌else◌}

abbrev pub ascii : String → List ℕ
ascii String.[] = []
ascii (String.◌∷◌ c text) = code c ∷ ascii text

abbrev pub digit : ℕ → ℕ
digit n = code "0" + n

-- the last `most` digits of n in decimal, without zeros in front
unfoldable pub digits : (most n : ℕ) → List ℕ
digits zero n = []
digits (suc most) n =
    let front = digits most (n / 10) in
    (if ltb n 10 then [] else front) ++ (digit (n % 10) ∷ [])

-- n has no more than n + 1 digits
unfoldable pub decimal : ℕ → List ℕ
decimal n = digits (suc n) n

abbrev pub spaced : List ℕ → List ℕ
spaced word = ascii " " ++ word

-- words with a space between two, and the line's end
abbrev pub line : List (List ℕ) → List ℕ
line [] = ascii "\n"
line (w ∷ []) = w ++ ascii "\n"
line (w ∷ v ∷ words) = w ++ spaced (line (v ∷ words))

-- a buffer before and after a text was written at a position, and the position after it, which is within the buffer
pub record Wrote (before after : List ℕ) (start next : ℕ) (text : List ℕ) : Type 0 where
  pub end : next ≡ start + length text
  pub bytes : after ≡ sets before start text
  pub within : next ≤ length after
