-- An outcome told beside the words that its call leaves.
use Rattle.model.specs.Types.{Opening, Starting, Stepping}
use Prim.Native.Nat.{ℕ}
use mathlib.Core.List.{List}
use mathlib.Core.Path.{◌≡◌, ap, ◌∙◌}
use Rattle.lent.specs.Calls.{OpenIn, opened_in, StartIn, started_in, StepIn, stepped_in}
use Rattle.replies.specs.Told.{Told, open_told, start_told, step_told}
use Rattle.embed.specs.Calls.{tray_opened, open_reply, tray_started, start_reply, tray_stepped, step_reply}

pub open_told_lem : (n : ℕ) (o : Opening) (w nodes versions : List ℕ) (s : OpenIn) → n ≡ open_told o
    → opened_in o w nodes versions ≡ s
    → tray_opened n w nodes versions ≡ open_reply s
unfolding open_reply
open_told_lem n o w nodes versions s e f = ap (λ n. tray_opened n w nodes versions) e ∙ ap open_reply f

pub start_told_lem : (t : Told) (o : Starting) (w : List ℕ) (s : StartIn) → t ≡ start_told o → started_in o w ≡ s
    → tray_started t w ≡ start_reply s
unfolding start_reply
start_told_lem t o w s e f = ap (λ t. tray_started t w) e ∙ ap start_reply f

pub step_told_lem : (t : Told) (o : Stepping) (w nodes versions tally : List ℕ) (s : StepIn) → t ≡ step_told o
    → stepped_in o w nodes versions tally ≡ s
    → tray_stepped t w nodes versions tally ≡ step_reply s
unfolding step_reply
step_told_lem t o w nodes versions tally s e f = ap (λ t. tray_stepped t w nodes versions tally) e ∙ ap step_reply f
