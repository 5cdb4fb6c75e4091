-- A part of the words, written and put back with the event, is what the move leaves.
use Rattle.std.specs.Prelude.{Ok, Err}
use Rattle.model.specs.Types.{Stepping}
use Rattle.model.specs.declared.types.Progress.{Progress}
use Rattle.model.specs.declared.types.Item.{Item}
use Prim.Native.Nat.{ℕ, ◌+◌, ◌-◌, ◌≤◌}
use mathlib.Core.Bool.{true, false}
use mathlib.Core.List.{List, ◌++◌, append_assoc}
use mathlib.Core.Path.{◌≡◌, refl, sym, ap, ◌∙◌}
use native.Mathlib.Omega.{arith}
use lib.ListN.{length, take, drop}
use lib.Seq.{sets, sets-eq}
use borrow.Rule.Slice.PartMut.{put_mid, put_same}
use Rattle.model.specs.declared.types.Counts.{Counts}
use Rattle.model.specs.declared.types.Cursor.{Cursor}
use Rattle.model.specs.declared.types.Move.{Move}
use Rattle.model.specs.declared.types.Move.TheVariants.{Refuse, Wait, Go, Show}
use Rattle.model.specs.declared.types.Refusal.TheVariants.{Damaged}
use Rattle.model.specs.Calls.{process_after, outcome_of, tally_after}
use Rattle.model.specs.Phases.{refuses}
use Rattle.process.specs.ProcessWords.{sizes, process_words, process_from, known_process}
use Rattle.process.proofs.RoundTrip.{process_back}
use Rattle.layout.specs.StateWords.{put_event}
use Rattle.apply.proofs.Applied.{put_cursor, goes, shows}
use Rattle.layout.proofs.Known.{part_is, part_long}
use Rattle.layout.proofs.Whole.{put_part}
use Rattle.apply.specs.Leave.{leave_in}

-- a part put back is its words written from its place on
pub put_sets : (w part : List ℕ) (at : ℕ) → length part ≡ sizes.process → at + sizes.process ≤ length w
    → put_mid at (at + sizes.process - at) w part ≡ sets w at part
put_sets w part at l h =
    put_part w part at
    ∙ sym (sets-eq part w at (omega (arith, l, h))
    ∙ ap (λ k. take at w ++ part ++ drop (at + k) w) l
    ∙ append_assoc (take at w) part (drop (at + sizes.process) w))

module _ (w tally : List ℕ) (at tick : ℕ) (counts : Counts) where
  abbrev lent_part : List ℕ
  lent_part = take (at + sizes.process - at) (drop at w)

  -- a refusal leaves all as it was
  pub left_refused : record { outcome = Err Damaged; words = w; tally = tally } ≡ leave_in tick counts Refuse w at tally
  unfolding outcome_of tally_after
  left_refused = refl

  module _ (fits : at + sizes.process ≤ length w) where
    -- what the move leaves of the process, in its part, and the event
    pub left_moved : (v : Move) (part u t : List ℕ) (o : Stepping) → refuses v ≡ false
        → part ≡ process_words (process_after tick (process_from lent_part) v) → length part ≡ sizes.process
        → u ≡ put_event (put_mid at (at + sizes.process - at) w part) tick counts → o ≡ outcome_of tick (process_from lent_part).call v
        → t ≡ tally_after tally v → record { outcome = o; words = u; tally = t } ≡ leave_in tick counts v w at tally
    left_moved v part u t o e is long put out counted =
        let here = part_is w at in
        let written =
        put ∙ ap (λ r. put_event r tick counts) (put_sets w part at long fits)
        ∙ ap (λ p. put_event (sets w at p) tick counts) (is ∙ ap (λ r. process_words (process_after tick (process_from r) v)) here) in
        simp (written, out ∙ ap (λ r. outcome_of tick (process_from r).call v) here, counted, e)

    module _ (known : known_process (take sizes.process (drop at w)) ≡ true) where
      own : known_process lent_part ≡ true
      own = ap known_process (part_is w at) ∙ known

      pub left_waits : (u : List ℕ) → u ≡ put_event w tick counts
          → record { outcome = Ok (Progress.Waited tick); words = u; tally = tally } ≡ leave_in tick counts Wait w at tally
      unfolding outcome_of tally_after process_after
      left_waits u put =
          let long = part_long w at fits in
          left_moved Wait lent_part u tally (Ok (Progress.Waited tick)) refl (sym (process_back lent_part long own)) long
          (put ∙ ap (λ r. put_event r tick counts) (sym (put_same at (at + sizes.process - at) w))) refl refl

      pub left_goes : (v : Move) (c : Cursor) (part u : List ℕ) → v ≡ Go c → part ≡ put_cursor lent_part c
          → length part ≡ sizes.process → u ≡ put_event (put_mid at (at + sizes.process - at) w part) tick counts
          → record { outcome = Ok (Progress.Moved tick); words = u; tally = tally } ≡ leave_in tick counts v w at tally
      unfolding outcome_of tally_after
      left_goes v c part u e is long put =
          left_moved (Go c) part u tally (Ok (Progress.Moved tick)) refl (is ∙ goes lent_part (part_long w at fits) own tick c) long put refl refl
          ∙ ap (λ v. leave_in tick counts v w at tally) (sym e)

      pub left_shows : (v : Move) (c : Cursor) (x : Item) (part u : List ℕ) → v ≡ Show c x → part ≡ put_cursor lent_part c
          → length part ≡ sizes.process → u ≡ put_event (put_mid at (at + sizes.process - at) w part) tick counts
          → record { outcome = Ok (Progress.Shown tick x); words = u; tally = tally } ≡ leave_in tick counts v w at tally
      unfolding outcome_of tally_after
      left_shows v c x part u e is long put =
          left_moved (Show c x) part u tally (Ok (Progress.Shown tick x)) refl (is ∙ shows lent_part (part_long w at fits) own tick c x) long put refl refl
          ∙ ap (λ v. leave_in tick counts v w at tally) (sym e)
