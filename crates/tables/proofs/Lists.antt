-- Laws on lists that are written over, whole or in a part.
use Prim.Native.Nat.{ℕ, ◌+◌, ◌-◌, ◌≤◌}
use mathlib.Core.Path.{◌≡◌, sym, ◌∙◌}
use mathlib.Core.List.{List, append-nil, append_assoc}
use native.Mathlib.Omega.{arith}
use lib.ListN.{length, drop_of_length-le}
use lib.Seq.{sets, sets-eq, drop-drop}
use borrow.Rule.Slice.PartMut.{put_mid}

-- a list that is written over from its start to its end
pub written_over_lem : (l vs : List ℕ) → length l ≡ length vs → sets l 0 vs ≡ vs
written_over_lem l vs h =
    let z : length l ≤ 0 + length vs = omega arith in
    sets-eq vs l 0 (omega arith) ∙ simp (drop_of_length-le l z) (append-nil vs)

-- a part of k words from a that was lent and came back as vs
pub part_back : (l vs : List ℕ) (a k : ℕ) → length vs ≡ k → a + k ≤ length l → put_mid a (a + k - a) l vs ≡ sets l a vs
part_back l vs a k e h =
    let q : a + (a + k - a) ≡ a + length vs = omega arith in
    simp (drop-drop, q) (rw append_assoc at (sym (sets-eq vs l a (omega arith))))
