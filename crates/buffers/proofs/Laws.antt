-- An open is answered as by tables of the words that it asks for, however many: buffers of `buffers` words are enough.
use Prim.Native.Nat.{ℕ, suc, ◌*◌, ◌%◌, ◌≤◌, ◌<◌, min}
use mathlib.Core.Bool.{Bool, true, false, ◌&&◌}
use mathlib.Core.List.{List}
use mathlib.Core.Path.{◌≡◌, refl, sym, ap, ◌∙◌}
use native.Mathlib.Omega.{arith}
use native.Mathlib.Nat.{min-eq_left}
use lib.Dec.{leb, eqb}
use lib.ListN.{length, take, replicate, length-take, length-replicate}
use borrow.Author.Tests.{lt-leb, leb-true, leb-false}
use Rattle.model.specs.Layout.{node_words, version_words, limits}
use Rattle.model.specs.State.{lawful_length}
use Rattle.model.specs.Calls.{open_due, open_permit}
use Rattle.buffers.specs.Session.{table_words, buffers}

and-false : (b c : Bool) → (b && false) && c ≡ false
and-false true c = refl
and-false false c = refl

too_long : (words most n : ℕ) → words * suc most < n → lawful_length words most n ≡ false
unfolding lawful_length
too_long words most n h = simp (lt-leb n (words * suc most) h) (and-false (leb (2 * words) n) (eqb (n % words) 0))

-- what is cut short was too long
cut_short : (words most n m : ℕ) → words * suc most < m → lawful_length words most (min n m) ≡ lawful_length words most n
cut_short words most n m h = cases (leb n m) refl
  where
    cases : (b : Bool) → leb n m ≡ b → lawful_length words most (min n m) ≡ lawful_length words most n
    cases true e = ap (lawful_length words most) (min-eq_left (leb-true _ _ e))
    cases false e =
        let f : m < n = leb-false _ _ e in
        too_long words most (min n m) (omega (arith, f, h)) ∙ sym (too_long words most n (omega (arith, f, h)))

module _ (nodes versions : List ℕ) (enough : buffers.nodes ≤ length nodes) (enough-too : buffers.versions ≤ length versions) where
  pub asked_permit : (k v p limit : ℕ)
      → open_permit (take (table_words node_words k) nodes) (take (table_words version_words v) versions) p limit
      ≡ open_permit (replicate (table_words node_words k) 0) (replicate (table_words version_words v) 0) p limit
  unfolding open_due
  asked_permit k v p limit =
      simp (
        length-take,
        length-replicate,
        cut_short node_words limits.nodes (table_words node_words k) (length nodes) (omega (arith, enough)),
        cut_short version_words limits.versions (table_words version_words v) (length versions) (omega (arith, enough-too)),
      )
