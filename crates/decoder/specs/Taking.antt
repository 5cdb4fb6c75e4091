-- What is taken from the front of bytes, and what is left behind it.
use Rattle.std.specs.Prelude.{ℕ, ◌+◌, ◌-◌, ◌≤◌, ◌<◌, ◌≡◌, List, length, take, drop, Result, Ok, Err}
use Rattle.std.specs.Borrow.{Bor}
use Rattle.decoder.specs.Types.{Command, KeyWidth, Four, Eight, DecodeError, Short, Decoded}
use Rattle.decoder.specs.Commands.{big_endian, Form, total, command_with}

abbrev pub bytes_of : KeyWidth → ℕ
bytes_of Four = 4
bytes_of Eight = 8

-- a number of so many bytes, or there are fewer
abbrev pub TakesNumber : (width : ℕ) → (bytes : List ℕ) → Result (ℕ × Bor (List ℕ)) DecodeError → Type 0
TakesNumber width bytes (Ok x) = (x.0 ≡ big_endian (take width bytes)) × (x.1.now ≡ drop width bytes) × (length x.1.now + width ≡ length bytes)
TakesNumber width bytes (Err e) = (e ≡ Short) × (length bytes < width)

-- a command of this form from its operands, or there are too few bytes
abbrev pub TakesCommand : Form → (bytes : List ℕ) → Result (Command × Bor (List ℕ)) DecodeError → Type 0
TakesCommand f bytes (Ok x) = (x.0 ≡ command_with f bytes) × (length x.1.now + total f.widths ≡ length bytes)
TakesCommand f bytes (Err e) = (e ≡ Short) × (length bytes < total f.widths)

-- what is decoded of a code and these bytes behind it: a command takes the code and the bytes that are not left
abbrev pub Decodes : Decoded → (bytes : List ℕ) → Result (Command × Bor (List ℕ)) DecodeError → Type 0
Decodes d bytes (Ok x) = (d ≡ Ok (x.0, 1 + (length bytes - length x.1.now))) × (length x.1.now ≤ length bytes)
Decodes d bytes (Err e) = d ≡ Err e
