-- A refilled buffer is the bytes that were held, which were moved to the front, and behind them what was read.
use Prim.Native.Nat.{ℕ, ◌+◌, ◌-◌, ◌≤◌}
use mathlib.Core.List.{List, ◌++◌, append-nil}
use mathlib.Core.Path.{◌≡◌, sym, ap, subst, ◌∙◌}
use native.Mathlib.Omega.{arith}
use lib.ListN.{length, take, drop, length-drop}
use lib.Seq.{length-paste, take-paste, drop-length}
use borrow.Rule.Slice.PartMut.{mid_of, put_mid, same_len_mid, Post-is, mid_len}
use Rattle.sheet.specs.declared.types.Run.{Run}
use Rattle.sheet.specs.Runs.{Input, InRoom, took_of, Refilled}
use Rattle.sheet.proofs.Shifting.{moved}

module _ (bytes : List ℕ) (from end : ℕ) (before : from ≤ end) (within : end ≤ length bytes) where
  abbrev held : ℕ
  held = end - from

  there : held ≤ length (drop from bytes)
  there = omega (arith, before, within, length-drop from bytes)

  moved_long : length (moved bytes from held) ≡ length bytes
  moved_long = length-paste bytes 0 (drop from bytes) held (omega (arith, within)) there

  -- what stands at the front
  front : take held (moved bytes from held) ≡ take held (drop from bytes)
  front =
      let same : held ≡ 0 + held = omega arith in
      ap (λ n. take n (moved bytes from held)) same ∙ take-paste bytes 0 (drop from bytes) held (omega arith) there

  -- what is read takes all that is behind it
  behind : (rest : List ℕ) (k : ℕ) → k ≡ length (moved bytes from held) - held
      → put_mid held k (moved bytes from held) rest ≡ take held (drop from bytes) ++ rest
  behind rest k e =
      let m = moved bytes from held in
      ap (λ n. put_mid held n m rest) e
      ∙ ap (λ (l : List ℕ). take held m ++ (rest ++ l))
      (Post-is held (length m) m (omega (arith, within, moved_long)) ∙ drop-length m)
      ∙ ap (λ (l : List ℕ). take held m ++ l) (append-nil rest)
      ∙ ap (λ (l : List ℕ). l ++ rest) front

  module _ (r : Run) (same_from : r.from ≡ from) (same_end : r.end ≡ end) where
    -- what a refill leaves: n bytes were moved, which left m, and the rest was read
    pub refilled : (n k : ℕ) (m rest bytes' : List ℕ) (q : Run) (i : Input) → n ≡ held → m ≡ moved bytes from held
        → k ≡ length m - n → bytes' ≡ put_mid n k m rest → q ≡ took_of r.state n i → Refilled r q bytes bytes'
    refilled n k m rest bytes' q i e f g h t = record {
      input = i;
      behind = rest;
      taken = t ∙ ap (λ j. took_of r.state j i) (e ∙ sym held_so);
      buffer =
          h
          ∙ ap (λ j. put_mid j k m rest) e
          ∙ ap (λ (l : List ℕ). put_mid held k l rest) f
          ∙ behind rest k (g ∙ ap (λ j. length m - j) e ∙ ap (λ (l : List ℕ). length l - held) f)
          ∙ ap (λ j. take j (drop from bytes) ++ rest) (sym held_so)
          ∙ ap (λ j. take (r.end - r.from) (drop j bytes) ++ rest) (sym same_from);
    }
      where
        held_so : r.end - r.from ≡ held
        held_so = omega (arith, same_from, same_end)

-- the room behind so many bytes of a buffer
pub room_behind : (at : ℕ) (all rest : List ℕ) (i : Input) → at ≤ length all → length rest ≡ length (mid_of at (length all - at) all)
    → InRoom (length (mid_of at (length all - at) all)) i → InRoom (length (put_mid at (length all - at) all rest) - at) i
room_behind at all rest i h e room =
    let k = length all - at in
    let same = same_len_mid at k all rest e in
    let mid = mid_len at (length all) all (omega arith) in
    let known : length (mid_of at k all) ≡ length (put_mid at k all rest) - at = omega (arith, same, mid) in
    subst (λ n. InRoom n i) known room
