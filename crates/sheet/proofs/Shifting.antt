-- A part of a list moved to its front, from its first element on: what is read there was not written yet.
use Prim.Native.Nat.{ℕ, suc, ◌+◌, ◌<◌}
use mathlib.Core.List.{List}
use mathlib.Core.Path.{◌≡◌, sym, ap, ◌∙◌}
use native.Mathlib.Omega.{arith}
use lib.ListN.{length, get_or, set, drop, length-drop}
use lib.Seq.{get_or-drop, paste, paste-suc, drop-paste}

abbrev pub moved : (l : List ℕ) (from n : ℕ) → List ℕ
moved l from n = paste l 0 (drop from l) n

module _ (l : List ℕ) (from n : ℕ) (within : from + n < length l) where
  there : n < length (drop from l)
  there = let e = length-drop from l in omega (arith, within, e)

  unread : get_or (moved l from n) (from + n) 0 ≡ get_or (drop from l) n 0
  unread =
      let swap : from + n ≡ 0 + n + from = omega arith in
      ap (λ k. get_or (moved l from n) k 0) swap
      ∙ sym (get_or-drop (0 + n) (moved l from n) from 0)
      ∙ ap (λ k. get_or k from 0) (drop-paste l 0 (drop from l) n (omega arith) (omega (arith, there)))
      ∙ get_or-drop (0 + n) l from 0
      ∙ ap (λ k. get_or l k 0) (sym swap)
      ∙ sym (get_or-drop from l n 0)

  pub one_more : set (moved l from n) n (get_or (moved l from n) (from + n) 0) ≡ moved l from (n + 1)
  one_more =
      let here : n ≡ 0 + n = omega arith in
      let next : suc n ≡ n + 1 = omega arith in
      ap (set (moved l from n) n) unread
      ∙ ap (λ k. set (moved l from n) k (get_or (drop from l) n 0)) here
      ∙ paste-suc l 0 (drop from l) n 0 (omega (arith, within)) there
      ∙ ap (moved l from) next
