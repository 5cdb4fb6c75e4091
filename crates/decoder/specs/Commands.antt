-- Document 01, "Sheet program": what the bytes of a command mean.
use Rattle.std.specs.Prelude.{ℕ, zero, suc, ◌+◌, ◌*◌, max, List, [], ◌∷◌, eqb, ltb, length, take, drop, Ok, Err}
use Rattle.std.specs.Prelude.{if◌then◌else◌}
use Rattle.decoder.specs.Types.{Command, Open, Put, Get, Step, Look, Inspect, Decoded, Unknown, Short, End}

-- "big-endian operands": n, and behind it the bytes
unfoldable pub big_endian_from : ℕ → List ℕ → ℕ
big_endian_from n [] = n
big_endian_from n (b ∷ bytes) = big_endian_from (256 * n + b) bytes

abbrev pub big_endian : List ℕ → ℕ
big_endian bytes = big_endian_from 0 bytes

-- the operands behind a command byte: their widths in bytes, and the command with operands 0, 1 and so on
pub record Form : Type 0 where
  pub widths : List ℕ
  pub command : (operand : ℕ → ℕ) → Command

abbrev pub open_form : Form
open_form = record { widths = 2 ∷ 2 ∷ 1 ∷ 4 ∷ []; command = λ n. Open (n 0) (n 1) (n 2) (n 3) }

-- here and below, the width of a key: four bytes or eight
abbrev pub put_form : (width : ℕ) → Form
put_form width = record { widths = 1 ∷ width ∷ 4 ∷ 4 ∷ 2 ∷ []; command = λ n. Put (n 0) (n 1) (n 2) (n 3) (n 4) }

abbrev pub get_form : (width : ℕ) → Form
get_form width = record { widths = 1 ∷ width ∷ []; command = λ n. Get (n 0) (n 1) }

abbrev pub step_form : Form
step_form = record { widths = 1 ∷ []; command = λ n. Step (n 0) }

abbrev pub look_form : (width : ℕ) → Form
look_form width = record { widths = width ∷ 2 ∷ []; command = λ n. Look (n 0) (n 1) }

abbrev pub inspect_form : Form
inspect_form = record { widths = []; command = λ n. Inspect }

-- a command byte and what stands behind it
pub record Opcode : Type 0 where
  pub code : ℕ
  pub form : Form

-- "0x4F open", "0x50 put", "0x47 get", "0x53 step", "0x4C look", "0x49 inspect", and P3: "The sheet gains 0x70, 0x67 and 0x6C,
-- which are put, get and look with eight-byte trays; the four-byte commands mean a high half of 0"
abbrev pub opcodes : List Opcode
opcodes =
    record { code = 0x4F; form = open_form }
    ∷ record { code = 0x50; form = put_form 4 }
    ∷ record { code = 0x47; form = get_form 4 }
    ∷ record { code = 0x53; form = step_form }
    ∷ record { code = 0x4C; form = look_form 4 }
    ∷ record { code = 0x49; form = inspect_form }
    ∷ record { code = 0x70; form = put_form 8 }
    ∷ record { code = 0x67; form = get_form 8 }
    ∷ record { code = 0x6C; form = look_form 8 }
    ∷ []

-- the bytes of all operands
abbrev pub total : (widths : List ℕ) → ℕ
total [] = 0
total (w ∷ widths) = w + total widths

-- the most bytes that operands take
abbrev pub widest : List Opcode → ℕ
widest [] = 0
widest (o ∷ os) = max (total o.form.widths) (widest os)

-- and with them a command: 20
abbrev pub longest_command : ℕ
longest_command = 1 + widest opcodes

-- operand i
abbrev pub operand : (widths bytes : List ℕ) → ℕ → ℕ
operand [] bytes i = 0
operand (w ∷ widths) bytes zero = big_endian (take w bytes)
operand (w ∷ widths) bytes (suc i) = operand widths (drop w bytes) i

-- the command whose operands are these bytes
abbrev pub command_with : Form → List ℕ → Command
command_with f bytes = f.command (operand f.widths bytes)

-- "16 command cut short"
unfoldable pub form_from : Form → List ℕ → Decoded
form_from f bytes = if ltb (length bytes) (total f.widths) then Err Short else Ok (command_with f bytes, 1 + total f.widths)

-- "15 unknown byte"
unfoldable pub code_from : List Opcode → (code : ℕ) → List ℕ → Decoded
code_from [] code bytes = Err Unknown
code_from (o ∷ rest) code bytes = if eqb code o.code then form_from o.form bytes else code_from rest code bytes

-- what stands at the start of bytes
unfoldable pub command_from : List ℕ → Decoded
command_from [] = Err End
command_from (code ∷ bytes) = code_from opcodes code bytes
