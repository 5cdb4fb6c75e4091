-- What C is told of an outcome: 0 or the refusal's number, and answer words, all 0 where the call is refused.
use Rattle.std.specs.Prelude.{ℕ, ◌-◌, List, [], ◌∷◌, replicate, Result, Ok, Err, Option, Some}
use Rattle.model.specs.Types.{Opening, Starting, Stepping, Looking, Inspecting, Status}
use Rattle.model.specs.declared.types.Finish.{Finish}
use Rattle.model.specs.declared.types.Item.{Item}
use Rattle.model.specs.declared.types.Progress.{Progress}
use Rattle.model.specs.declared.types.Refusal.{Refusal}
use Rattle.model.specs.Layout.{low_half, high_half}
use Rattle.model.specs.Numbers.{number_of, answer_number, kind_number}

pub record Told : Type 0 where
  pub number : ℕ
  pub answer : List ℕ

abbrev pub reply : (number : ℕ) → (answer : List ℕ) → Told
reply n words = record { number = n; answer = words }

abbrev pub refused : (words : ℕ) → Refusal → Told
refused n r = reply (number_of r) (replicate n 0)

abbrev pub accepted : List ℕ → Told
accepted words = reply 0 words

-- the number alone
unfoldable pub number_told : {T : Type 0} → Result T Refusal → ℕ
number_told (Err r) = number_of r
number_told (Ok _) = 0

unfoldable pub open_told : Opening → ℕ
open_told (Err r) = number_of r
open_told (Ok _) = 0

-- the tick
unfoldable pub start_told : Starting → Told
start_told (Err r) = refused 1 r
start_told (Ok t) = accepted (t ∷ [])

-- how many words the answer of each call has
abbrev pub step_words : ℕ
step_words = 8

abbrev pub look_words : ℕ
look_words = 2

abbrev pub inspect_words : ℕ
inspect_words = 3

abbrev pub status_words : ℕ
status_words = 3

-- what a step did, in its first word
abbrev pub moved : ℕ
moved = 0

abbrev pub waited : ℕ
waited = 1

abbrev pub finished : ℕ
finished = 2

abbrev pub shown : ℕ
shown = 3

-- what an inspection found, in its first word; sound is 0
abbrev pub fault : ℕ
fault = 1

-- what the step did, and the tick
abbrev pub event_words : (told tick : ℕ) → List ℕ
event_words told t = told ∷ t ∷ replicate (step_words - 2) 0

-- the same, and P1's "its number and newest reading", the number in two halves
abbrev pub shown_words : (tick : ℕ) → Item → List ℕ
shown_words t x = shown ∷ t ∷ low_half x.key ∷ high_half x.key ∷ x.version.value ∷ x.version.timestamp ∷ 0 ∷ 0 ∷ []

-- what the step did, the tick, and "kind, answer, value, stamp [..] and the ticks of start, effect"
abbrev pub finish_words : Finish → List ℕ
finish_words f =
    finished ∷ f.finish ∷ kind_number f.kind ∷ answer_number f.answer ∷ f.value ∷ f.timestamp ∷ f.start ∷ f.effect ∷ []

unfoldable pub step_told : Stepping → Told
step_told (Err r) = refused step_words r
step_told (Ok (Progress.Moved t)) = accepted (event_words moved t)
step_told (Ok (Progress.Waited t)) = accepted (event_words waited t)
step_told (Ok (Progress.Shown t x)) = accepted (shown_words t x)
step_told (Ok (Progress.Finished f)) = accepted (finish_words f)

-- value and stamp
unfoldable pub look_told : Looking → Told
look_told (Err r) = refused look_words r
look_told (Ok v) = accepted (v.value ∷ v.timestamp ∷ [])

-- sound, or a fault with "level and node reached"
unfoldable pub inspect_told : Inspecting → Told
inspect_told (Err r) = refused inspect_words r
inspect_told (Ok Option.None) = accepted (replicate inspect_words 0)
inspect_told (Ok (Some f)) = accepted (fault ∷ f.level ∷ f.node ∷ [])

-- "idle, or kind, start tick and effect tick"
unfoldable pub status_told : Status → Told
status_told (Err r) = refused status_words r
status_told (Ok Option.None) = accepted (replicate status_words 0)
status_told (Ok (Some c)) = accepted (kind_number c.kind ∷ c.start ∷ c.effect ∷ [])
