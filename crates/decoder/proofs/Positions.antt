-- The command at a position: its operands stand one behind another, and the byte there says which it is.
use Prim.Native.Nat.{ℕ, ◌+◌, ◌-◌, ◌<◌, ◌≤◌}
use mathlib.Core.Path.{◌≡◌, refl, ap, sym, ◌∙◌}
use mathlib.Core.List.{List}
use native.Mathlib.Numerals.{add-one}
use native.Mathlib.Omega.{arith}
use lib.ListN.{length, take, drop, get_or, length-drop, drop_of_length-le}
use lib.Seq.{drop-cons, drop-drop}
use borrow.Author.Tests.{lt-ltb, le-ltb}
use Rattle.std.specs.Prelude.{Ok, Err}
use Rattle.decoder.specs.Types.{Command, Open, Put, Get, Look, Short, End}
use Rattle.decoder.specs.Commands.{big_endian, Form, open_form, put_form, get_form, look_form, opcodes, total, command_with, form_from, code_from, command_from}

-- the operand after the one of m bytes at n
skip : (l : List ℕ) (n m p : ℕ) → n + m ≡ p → drop m (drop n l) ≡ drop p l
skip l n m p e = drop-drop m n l ∙ ap (λ k. drop k l) e

-- Operands that stand one behind another are those of the command.
module _ (l : List ℕ) (at : ℕ) where
  -- the number of so many bytes at a position
  abbrev number : (position bytes : ℕ) → ℕ
  number position bytes = big_endian (take bytes (drop position l))

  pub open_is : (keys versions processes limit : ℕ)
      → keys ≡ number at 2 → versions ≡ number (at + 2) 2 → processes ≡ number (at + 4) 1 → limit ≡ number (at + 5) 4
      → Open keys versions processes limit ≡ command_with open_form (drop at l)
  open_is keys versions processes limit first second third fourth =
      rw (first, second, third, fourth, skip l at 2 (at + 2) refl, skip l (at + 2) 2 (at + 4) (omega arith), skip l (at + 4) 1 (at + 5) (omega arith))

  module _ (width : ℕ) where
    pub put_is : (process key value timestamp draw : ℕ) (next : ℕ) → next ≡ at + 1 + width
        → process ≡ number at 1 → key ≡ number (at + 1) width → value ≡ number next 4 → timestamp ≡ number (next + 4) 4 → draw ≡ number (next + 8) 2
        → Put process key value timestamp draw ≡ command_with (put_form width) (drop at l)
    put_is process key value timestamp draw next is first second third fourth fifth =
        rw (
          first,
          second,
          third,
          fourth,
          fifth,
          skip l at 1 (at + 1) refl,
          skip l (at + 1) width next (sym is),
          skip l next 4 (next + 4) refl,
          skip l (next + 4) 4 (next + 8) (omega arith),
        )

    pub get_is : (process key : ℕ) → process ≡ number at 1 → key ≡ number (at + 1) width → Get process key ≡ command_with (get_form width) (drop at l)
    get_is process key first second = rw (first, second, skip l at 1 (at + 1) refl)

    pub look_is : (key back : ℕ) → key ≡ number at width → back ≡ number (at + width) 2 → Look key back ≡ command_with (look_form width) (drop at l)
    look_is key back first second = rw (first, second, skip l at width (at + width) refl)

-- past the last byte no command stands
pub no_byte : (bytes : List ℕ) (at : ℕ) → length bytes ≤ at → Err End ≡ command_from (drop at bytes)
unfolding command_from
no_byte bytes at h = rw (drop_of_length-le bytes h)

-- Behind a command byte: `size` bytes of operands, and they are there or not.
module _ (f : Form) (bytes : List ℕ) (at size : ℕ) (all : size ≡ total f.widths) where
  pub short_from : length bytes - at < size → Err Short ≡ form_from f (drop at bytes)
  unfolding form_from
  short_from h = simp (length-drop, lt-ltb (length bytes - at) (total f.widths) (omega arith))

  pub whole_from : size ≤ length bytes - at → (c : Command) (n : ℕ) → c ≡ command_with f (drop at bytes) → n ≡ 1 + size → Ok (c, n) ≡ form_from f (drop at bytes)
  unfolding form_from
  whole_from h c n is long = rw (is, long, all) (simp (length-drop, le-ltb (length bytes - at) (total f.widths) (omega arith)))

-- The byte chooses what stands behind it.
module _ (bytes : List ℕ) (at : ℕ) (here : at < length bytes) where
  pub byte_at : command_from (drop at bytes) ≡ code_from opcodes (get_or bytes at 0) (drop (at + 1) bytes)
  unfolding command_from
  byte_at = rw (drop-cons bytes at 0 here, add-one)

  pub form_at : (f : Form) (code : ℕ) → ((rest : List ℕ) → code_from opcodes code rest ≡ form_from f rest) → get_or bytes at 0 ≡ code
      → form_from f (drop (at + 1) bytes) ≡ command_from (drop at bytes)
  form_at f code found e = sym (byte_at ∙ rw e (found (drop (at + 1) bytes)))
