-- What one byte more does to a number, and four more.
use Prim.Native.Nat.{ℕ, ◌+◌, ◌*◌, ◌^◌, ◌<◌, ◌≤◌}
use mathlib.Core.Path.{◌≡◌, refl, ap, ◌∙◌}
use mathlib.Core.List.{List, [], ◌∷◌, ◌++◌}
use native.Mathlib.Nat.{pow-suc, pow-le-pow_right}
use native.Mathlib.Numerals.{add-one}
use native.Mathlib.Omega.{arith}
use lib.Dec.{lit<}
use lib.ListN.{length, take, drop, get_or, length-drop, drop_of_length-le}
use lib.Seq.{drop-cons, take-add, length-take-le}
use Rattle.model.specs.Layout.{joined}
use Rattle.decoder.specs.Commands.{big_endian_from, big_endian}

-- one byte more
pub byte_below : (n k b : ℕ) → n < 256 ^ k → b < 256 → 256 * n + b < 256 ^ (k + 1)
byte_below n k b h l = rw (add-one, pow-suc) (omega arith)

-- three bytes leave room for a fourth in 32 bits
pub three_below : (n k : ℕ) → n < 256 ^ k → k < 4 → n < 2 ^ 24
three_below n k h l = let few : k ≤ 3 = omega arith in let most : 256 ^ k ≤ 256 ^ 3 = pow-le-pow_right (lit< tt) few in omega arith

-- the number of what is left of the bytes
pub byte_taken : (n i : ℕ) (bytes : List ℕ) → i < length bytes → big_endian_from n (drop i bytes) ≡ big_endian_from (256 * n + get_or bytes i 0) (drop (i + 1) bytes)
unfolding big_endian_from
byte_taken n i bytes h = rw (drop-cons bytes i 0, add-one)

-- ---- two parts

behind : (n : ℕ) (xs ys : List ℕ) → big_endian_from n (xs ++ ys) ≡ big_endian_from (big_endian_from n xs) ys
unfolding big_endian_from
behind n [] ys = refl
behind n (x ∷ xs) ys = behind (256 * n + x) xs ys

-- four bytes behind a number: what the number is multiplied by is a word
four_behind : (n : ℕ) (ys : List ℕ) → length ys ≡ 4 → big_endian_from n ys ≡ joined (big_endian ys) n
unfolding joined big_endian_from
four_behind n ys h = omega (arith, each n, each 0)
  where
    each : (m : ℕ) → big_endian_from m ys ≡ 256 * (256 * (256 * (256 * m + get_or ys 0 0) + get_or ys 1 0) + get_or ys 2 0) + get_or ys 3 0
    each m =
        byte_taken m 0 ys (omega arith) ∙ byte_taken _ 1 ys (omega arith) ∙ byte_taken _ 2 ys (omega arith) ∙ byte_taken _ 3 ys (omega arith)
        ∙ ap (big_endian_from _) (drop_of_length-le ys {i = 4} (omega arith))

-- a number of more than four bytes has the last four as its low half
pub low_behind : (bytes : List ℕ) (more : ℕ) → more + 4 ≤ length bytes
    → big_endian (take (more + 4) bytes) ≡ joined (big_endian (take 4 (drop more bytes))) (big_endian (take more bytes))
low_behind bytes more h =
    let all : length (take 4 (drop more bytes)) ≡ 4 = length-take-le 4 (drop more bytes) (rw length-drop (omega arith)) in
    ap big_endian (take-add more 4 bytes) ∙ behind 0 (take more bytes) (take 4 (drop more bytes)) ∙ four_behind _ _ all
