-- The words of a line as the code has them.
use Rattle.std.specs.Prelude.{ℕ, ◌+◌, List, [], ◌∷◌, length}
pub use Rattle.printer.specs.declared.types.Word.{Word}
use Rattle.printer.specs.declared.types.Word.TheVariants.{Text, Number, Tray}
use Rattle.printer.specs.Text.{decimal}

abbrev pub bytes_of : Word → List ℕ
bytes_of (Text text) = text.now
bytes_of (Number n) = decimal n
bytes_of (Tray key) = decimal key

-- the most bytes that a word takes: a number is of 32 bits, a key of 64
abbrev pub most : Word → ℕ
most (Text text) = length text.now
most (Number n) = 10
most (Tray key) = 20

-- and words, each with the byte behind it
abbrev pub room_for : List Word → ℕ
room_for [] = 0
room_for (w ∷ words) = most w + 1 + room_for words
