-- What is written of one move, as the words of the process after it.
use Prim.Native.Nat.{ℕ, ◌+◌}
use mathlib.Core.Bool.{true}
use mathlib.Core.List.{List, [], ◌∷◌, ◌++◌}
use mathlib.Core.Path.{◌≡◌, sym, ap, ◌∙◌}
use native.Mathlib.Omega.{arith}
use native.Mathlib.Nat.{suc-add}
use lib.ListN.{length, set}
use lib.Seq.{sets}
use Rattle.model.specs.declared.types.Cursor.{Cursor}
use Rattle.model.specs.declared.types.Answer.{Answer}
use Rattle.model.specs.declared.types.Item.{Item}
use Rattle.model.specs.declared.types.Move.TheVariants.{Wait, Go, Note, Commit, Show}
use Rattle.model.specs.Calls.{process_after}
use Rattle.process.specs.ProcessWords.{sizes, process_offsets, call_words, cursor_words, effect_words, process_words, process_from, known_process}
use Rattle.process.proofs.RoundTrip.{process_back}

set_behind : (p q : List ℕ) (l v : ℕ) → set (p ++ q) (length p + l) v ≡ p ++ set q l v
set_behind [] q l v = let e : 0 + l ≡ l = omega arith in ap (λ k. set q k v) e
set_behind (x ∷ p) q l v = ap (λ k. set (x ∷ p ++ q) k v) (suc-add (length p) l) ∙ ap (λ r. x ∷ r) (set_behind p q l v)

-- the words with a cursor written over, and with a node remembered at a level
abbrev pub put_cursor : List ℕ → Cursor → List ℕ
put_cursor w c = sets w process_offsets.phase (cursor_words c)

abbrev pub put_pred : List ℕ → (level pred : ℕ) → List ℕ
put_pred w l x = set w (process_offsets.preds + l) x

module _ (w : List ℕ) (long : length w ≡ sizes.process) (known : known_process w ≡ true) (tick : ℕ) where
  same : w ≡ process_words (process_from w)
  same = sym (process_back w long known)

  pub stays_waiting : w ≡ process_words (process_after tick (process_from w) Wait)
  unfolding process_after
  stays_waiting = same

  pub goes : (c : Cursor) → put_cursor w c ≡ process_words (process_after tick (process_from w) (Go c))
  unfolding process_after
  goes c = ap (λ w. put_cursor w c) same

  pub shows : (c : Cursor) (x : Item) → put_cursor w c ≡ process_words (process_after tick (process_from w) (Show c x))
  unfolding process_after
  shows c x = goes c

  pub commits : (c : Cursor) (a : Answer)
      → sets (put_cursor w c) process_offsets.answer (effect_words (record { answer = a; tick = tick }))
      ≡ process_words (process_after tick (process_from w) (Commit c a))
  unfolding process_after
  commits c a = ap (λ w. sets (put_cursor w c) process_offsets.answer (effect_words (record { answer = a; tick = tick }))) same

  pub notes : (c : Cursor)
      → put_cursor (put_pred w (process_from w).cursor.level (process_from w).cursor.pred) c
      ≡ process_words (process_after tick (process_from w) (Note c))
  unfolding process_after
  notes c =
      let p = process_from w in
      ap (λ v. put_cursor (put_pred v p.cursor.level p.cursor.pred) c) same
      ∙ ap (λ v. put_cursor v c) (set_behind (call_words p.call ++ cursor_words p.cursor ++ effect_words p.effect)
      p.preds p.cursor.level p.cursor.pred)
