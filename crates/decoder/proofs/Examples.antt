-- Worked examples that pin the definitions, by computing both sides: document 01's sheet, and each command.
use Prim.Native.Nat.{ℕ, zero, suc}
use mathlib.Core.Path.{◌≡◌, refl}
use mathlib.Core.List.{List, [], ◌∷◌, ◌++◌}
use lib.ListN.{drop}
use Rattle.decoder.specs.Types.{Open, Put, Get, Step, Look, Inspect, Decoded, Unknown, Short, End}
use Rattle.std.specs.Prelude.{Ok, Err}
use Rattle.decoder.specs.Commands.{big_endian_from, big_endian, form_from, code_from, command_from}

-- "For open 2 3 1 40, get 0 7, six steps of 0, look 7 0"
unfoldable pub sheet : List ℕ
sheet =
    0x4F ∷ 0 ∷ 2 ∷ 0 ∷ 3 ∷ 1 ∷ 0 ∷ 0 ∷ 0 ∷ 40
    ∷ 0x47 ∷ 0 ∷ 0 ∷ 0 ∷ 0 ∷ 7
    ∷ 0x53 ∷ 0 ∷ 0x53 ∷ 0 ∷ 0x53 ∷ 0 ∷ 0x53 ∷ 0 ∷ 0x53 ∷ 0 ∷ 0x53 ∷ 0
    ∷ 0x4C ∷ 0 ∷ 0 ∷ 0 ∷ 7 ∷ 0 ∷ 0 ∷ []

-- what stands at the start of bytes and behind each command, at most n times
found : Decoded → (rest : ℕ → List Decoded) → List Decoded
found (Ok x) rest = Ok x ∷ rest x.1
found (Err e) rest = Err e ∷ []

all : (n : ℕ) → List ℕ → List Decoded
all zero bytes = []
all (suc n) bytes = found (command_from bytes) (λ k. all n (drop k bytes))

sheet_read : all 20 sheet ≡ Ok (Open 2 3 1 40, 10) ∷ Ok (Get 0 7, 6)
    ∷ Ok (Step 0, 2) ∷ Ok (Step 0, 2) ∷ Ok (Step 0, 2) ∷ Ok (Step 0, 2) ∷ Ok (Step 0, 2) ∷ Ok (Step 0, 2)
    ∷ Ok (Look 7 0, 7) ∷ Err End ∷ []
unfolding all found sheet command_from code_from form_from big_endian_from
sheet_read = refl

-- each command with operands that differ in every byte, and what stands behind it left alone
command_read : all 20 (
    0x4F ∷ 0x01 ∷ 0x02 ∷ 0x03 ∷ 0x04 ∷ 0x05 ∷ 0x06 ∷ 0x07 ∷ 0x08 ∷ 0x09
    ∷ 0x50 ∷ 0x01 ∷ 0x02 ∷ 0x03 ∷ 0x04 ∷ 0x05 ∷ 0x06 ∷ 0x07 ∷ 0x08 ∷ 0x09 ∷ 0x0A ∷ 0x0B ∷ 0x0C ∷ 0x0D ∷ 0x0E ∷ 0x0F
    ∷ 0x47 ∷ 0x01 ∷ 0x02 ∷ 0x03 ∷ 0x04 ∷ 0x05
    ∷ 0x53 ∷ 0x01
    ∷ 0x4C ∷ 0x01 ∷ 0x02 ∷ 0x03 ∷ 0x04 ∷ 0x05 ∷ 0x06
    ∷ 0x49
    ∷ 0x70 ∷ 0x01 ∷ 0x02 ∷ 0x03 ∷ 0x04 ∷ 0x05 ∷ 0x06 ∷ 0x07 ∷ 0x08 ∷ 0x09 ∷ 0x0A ∷ 0x0B ∷ 0x0C ∷ 0x0D ∷ 0x0E ∷ 0x0F ∷ 0x10 ∷ 0x11 ∷ 0x12 ∷ 0x13
    ∷ 0x67 ∷ 0x01 ∷ 0x02 ∷ 0x03 ∷ 0x04 ∷ 0x05 ∷ 0x06 ∷ 0x07 ∷ 0x08 ∷ 0x09
    ∷ 0x6C ∷ 0x01 ∷ 0x02 ∷ 0x03 ∷ 0x04 ∷ 0x05 ∷ 0x06 ∷ 0x07 ∷ 0x08 ∷ 0x09 ∷ 0x0A
    ∷ 0x2A ∷ []
    ) ≡ Ok (Open 0x0102 0x0304 0x05 0x06070809, 10)
    ∷ Ok (Put 0x01 0x02030405 0x06070809 0x0A0B0C0D 0x0E0F, 16)
    ∷ Ok (Get 0x01 0x02030405, 6)
    ∷ Ok (Step 0x01, 2)
    ∷ Ok (Look 0x01020304 0x0506, 7)
    ∷ Ok (Inspect, 1)
    ∷ Ok (Put 0x01 0x0203040506070809 0x0A0B0C0D 0x0E0F1011 0x1213, 20)
    ∷ Ok (Get 0x01 0x0203040506070809, 10)
    ∷ Ok (Look 0x0102030405060708 0x090A, 11)
    ∷ Err Unknown ∷ []
unfolding all found command_from code_from form_from big_endian_from
command_read = refl

-- one byte too few, of each command that has operands; an unknown byte is told before its end
cut_short : all 1 (0x4F ∷ 0 ∷ 2 ∷ 0 ∷ 3 ∷ 1 ∷ 0 ∷ 0 ∷ 0 ∷ [])
    ++ (all 1 (0x50 ∷ 0 ∷ 0 ∷ 0 ∷ 0 ∷ 7 ∷ 0 ∷ 0 ∷ 0 ∷ 8 ∷ 0 ∷ 0 ∷ 0 ∷ 9 ∷ 0 ∷ [])
    ++ (all 1 (0x47 ∷ 0 ∷ 0 ∷ 0 ∷ 0 ∷ [])
    ++ (all 1 (0x53 ∷ [])
    ++ (all 1 (0x4C ∷ 0 ∷ 0 ∷ 0 ∷ 7 ∷ 0 ∷ [])
    ++ (all 1 (0x70 ∷ 0 ∷ 0 ∷ 0 ∷ 0 ∷ 1 ∷ 0 ∷ 0 ∷ 0 ∷ 7 ∷ 0 ∷ 0 ∷ 0 ∷ 8 ∷ 0 ∷ 0 ∷ 0 ∷ 9 ∷ 0 ∷ [])
    ++ (all 1 (0x67 ∷ 0 ∷ 0 ∷ 0 ∷ 0 ∷ 1 ∷ 0 ∷ 0 ∷ 0 ∷ [])
    ++ (all 1 (0x6C ∷ 0 ∷ 0 ∷ 0 ∷ 1 ∷ 0 ∷ 0 ∷ 0 ∷ 7 ∷ 0 ∷ [])
    ++ (all 1 (0x00 ∷ []) ++ all 1 []))))))))
    ≡ Err Short ∷ Err Short ∷ Err Short ∷ Err Short ∷ Err Short ∷ Err Short ∷ Err Short ∷ Err Short ∷ Err Unknown ∷ Err End ∷ []
unfolding all found command_from code_from form_from big_endian_from
cut_short = refl

-- the greatest number of four bytes, and of eight; "the four-byte commands mean a high half of 0"
greatest : big_endian (255 ∷ 255 ∷ 255 ∷ 255 ∷ []) ≡ 4_294_967_295
unfolding big_endian_from
greatest = refl

greatest_of_eight : big_endian (255 ∷ 255 ∷ 255 ∷ 255 ∷ 255 ∷ 255 ∷ 255 ∷ 255 ∷ []) ≡ 18_446_744_073_709_551_615
unfolding big_endian_from
greatest_of_eight = refl

high_half_of_0 : big_endian (0 ∷ 0 ∷ 0 ∷ 0 ∷ 255 ∷ 255 ∷ 255 ∷ 255 ∷ []) ≡ 4_294_967_295
unfolding big_endian_from
high_half_of_0 = refl
