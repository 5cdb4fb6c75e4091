-- Document 01, "Sheet program": the line that an answer prints.
use Rattle.std.specs.Prelude.{ℕ, ◌+◌, List, [], ◌∷◌, ◌++◌, leb, length}
use Rattle.std.proofs.lemmas.List.Edits.{sets}
use Rattle.std.specs.Prelude.{if◌then◌else◌}
use Rattle.model.specs.Numbers.{number_of}
use Rattle.printer.specs.Types.{Kind, Answer, TooOld, VersionsFull, Added, KeysFull, New, Found, None, Swept, Line, Opened, Started, Stepped, Waited, Done, Looked, Sound, Fault, Refused}
use Rattle.printer.specs.Text.{ascii, decimal, line}

-- no finished call is idle, and no command starts a scan: these words are never printed, nor is that of its answer
abbrev pub kind_word : Kind → List ℕ
kind_word Kind.Idle = ascii "idle"
kind_word Kind.Put = ascii "put"
kind_word Kind.Get = ascii "get"
kind_word Kind.Scan = ascii "sweep"

-- "answers of two words take a hyphen, `too-old`"
abbrev pub answer_word : Answer → List ℕ
answer_word TooOld = ascii "too-old"
answer_word VersionsFull = ascii "readings-full"
answer_word Added = ascii "added"
answer_word KeysFull = ascii "trays-full"
answer_word New = ascii "new"
answer_word Found = ascii "found"
answer_word None = ascii "none"
answer_word Swept = ascii "swept"

-- "the open with its operands, `start` station tick, `step` station tick `on` or `wait`, `done` as below, `look` tray
-- back value stamp, `sound` or `fault` level node, `refused` number"; "`done` has station, kind, answer, value, stamp,
-- start, effect, finish."
abbrev pub words_of : Line → List (List ℕ)
words_of (Opened keys versions processes limit) = ascii "open" ∷ decimal keys ∷ decimal versions ∷ decimal processes ∷ decimal limit ∷ []
words_of (Started process tick) = ascii "start" ∷ decimal process ∷ decimal tick ∷ []
words_of (Stepped process tick) = ascii "step" ∷ decimal process ∷ decimal tick ∷ ascii "on" ∷ []
words_of (Waited process tick) = ascii "step" ∷ decimal process ∷ decimal tick ∷ ascii "wait" ∷ []
words_of (Done process f) =
    ascii "done" ∷ decimal process ∷ kind_word f.kind ∷ answer_word f.answer ∷ decimal f.value ∷ decimal f.timestamp
    ∷ decimal f.start ∷ decimal f.effect ∷ decimal f.finish ∷ []
words_of (Looked key back value timestamp) = ascii "look" ∷ decimal key ∷ decimal back ∷ decimal value ∷ decimal timestamp ∷ []
words_of Sound = ascii "sound" ∷ []
words_of (Fault level node) = ascii "fault" ∷ decimal level ∷ decimal node ∷ []
words_of (Refused r) = ascii "refused" ∷ decimal (number_of r) ∷ []

abbrev pub line_of : Line → List ℕ
line_of l = line (words_of l)

-- one behind another
unfoldable pub text : List Line → List ℕ
text [] = []
text (l ∷ lines) = line_of l ++ text lines

-- room for any line
abbrev pub room : ℕ
room = 128

-- a buffer and the position after what is printed there
pub record Page : Type 0 where
  pub bytes : List ℕ
  pub next : ℕ

-- a line is printed only where there is room for any
unfoldable pub print_of : (bytes : List ℕ) (start : ℕ) → Line → Page
print_of bytes start l =
    if leb (start + room) (length bytes)
    then record { bytes = sets bytes start (line_of l); next = start + length (line_of l) }
    else record { bytes = bytes; next = start }
