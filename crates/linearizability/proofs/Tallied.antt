-- The tally after a finished call: the one count of its answer, if it has one, is one more, and so are the finished calls that it counts.
use Prim.Native.Nat.{ℕ, suc, ◌+◌, ◌≤◌, ◌<◌}
use mathlib.Core.Bool.{◌&&◌}
use mathlib.Core.List.{List, [], ◌∷◌}
use mathlib.Core.Path.{◌≡◌, sym, ◌∙◌}
use native.Mathlib.Omega.{arith}
use lib.Dec.{eqb, ltb, ltb→lt, lt→ltb}
use lib.ListN.{length, get_or, set}
use lib.Seq.{get_or-set_same, get_or-set_other}
use Rattle.std.specs.Prelude.{if◌then◌else◌}
use Rattle.model.specs.Layout.{limits}
use Rattle.model.specs.Numbers.{answer_number, is_counted}
use Rattle.model.specs.Calls.{counted}
use Rattle.model.specs.History.{Completed}
use Rattle.model.specs.Linearizability.{counted_at}
use Rattle.model.proofs.Tests.{if-by, if-eq, and→, →and, T-absurd}

answered_few : (n : ℕ) (l : List Completed) → counted_at n l ≤ length l
unfolding counted_at
answered_few n [] = omega arith
answered_few n (d ∷ l) =
    let h = answered_few n l in
    if-by (λ (k : ℕ). k + counted_at n l ≤ suc (length l)) (eqb (answer_number d.told.answer) n) (λ t. omega arith) (λ t. omega arith)

-- far fewer calls were finished than a count holds
pub tally_counts : (t : List ℕ) (ds : List Completed) (d : Completed) → length t ≡ limits.tally → length ds < limits.count
    → ((n : ℕ) → n < limits.tally → get_or t n 0 ≡ counted_at n ds)
    → (n : ℕ) → n < limits.tally → get_or (counted t d.told.answer) n 0 ≡ counted_at n (d ∷ ds)
unfolding counted counted_at
tally_counts t ds d l7 few e n lt =
    let p = answer_number d.told.answer in
    if-by (λ (u : List ℕ). get_or u n 0 ≡ (if eqb p n then 1 else 0) + counted_at n ds) (is_counted d.told.answer && ltb (get_or t p 0) limits.count)
    (λ h. let below = ltb→lt p limits.tally (and→ (is_counted d.told.answer) (ltb (get_or t p 0) limits.count) h).0 in
    if-eq (λ (k : ℕ). get_or (set t p (get_or t p 0 + 1)) n 0 ≡ k + counted_at n ds) p n
    (λ q. rw (← q) (get_or-set_same t p (get_or t p 0 + 1) 0 (omega (arith, l7)) ∙ omega (arith, e p below)))
    (λ q. get_or-set_other t p n (get_or t p 0 + 1) 0 (λ z. q (sym z)) ∙ omega (arith, e n lt)))
    (λ h. if-eq (λ (k : ℕ). get_or t n 0 ≡ k + counted_at n ds) p n
    (λ q. absurd (T-absurd (is_counted d.told.answer && ltb (get_or t p 0) limits.count)
    (→and (is_counted d.told.answer) (ltb (get_or t p 0) limits.count) (lt→ltb p limits.tally (omega arith))
    (lt→ltb (get_or t p 0) limits.count (omega (arith, e p (omega arith), answered_few p ds)))) h))
    (λ q. omega (arith, e n lt)))
