-- The exported functions: the calls on lent words, their outcomes told in numbers.
use Rattle.std.specs.Prelude.{ℕ, suc, ◌*◌, List}
use Rattle.std.specs.Prelude.{if◌then◌else◌}
use Rattle.model.specs.Layout.{node_words, version_words, limits}
use Rattle.model.specs.Requests.{Operation}
use Rattle.model.specs.State.{within}
use Rattle.lent.specs.Calls.{OpenIn, open_in, StartIn, start_in, StepIn, step_in, look_in, inspect_in, status_in}
use Rattle.replies.specs.Told.{Told, open_told, start_told, step_told, look_told, inspect_told, status_told}

-- ---- sizes to lend

-- "a multiple of 16 words, 32 to 16,384, so K = 1 to 1,023 trays": 0 where there is no such table
unfoldable pub tray_node_words : (trays : ℕ) → ℕ
tray_node_words k = if within 1 limits.nodes k then node_words * suc k else 0

-- "a multiple of 3 words, 6 to 12,288, so V = 1 to 4,095 readings"
unfoldable pub tray_reading_words : (readings : ℕ) → ℕ
tray_reading_words v = if within 1 limits.versions v then version_words * suc v else 0

-- ---- calls that write: of each, all that it leaves, and the reply

pub record TrayOpen : Type 0 where
  pub number : ℕ
  pub words : List ℕ
  pub nodes : List ℕ
  pub versions : List ℕ

abbrev pub tray_opened : (number : ℕ) → (words nodes versions : List ℕ) → TrayOpen
tray_opened n w nodes versions = record { number = n; words = w; nodes = nodes; versions = versions }

unfoldable pub open_reply : OpenIn → TrayOpen
open_reply o = tray_opened (open_told o.outcome) o.words o.nodes o.versions

unfoldable pub tray_open : (words nodes versions : List ℕ) (stations limit : ℕ) → TrayOpen
tray_open w nodes versions stations limit = open_reply (open_in w nodes versions stations limit)

pub record TrayStart : Type 0 where
  pub told : Told
  pub words : List ℕ

abbrev pub tray_started : Told → (words : List ℕ) → TrayStart
tray_started t w = record { told = t; words = w }

unfoldable pub start_reply : StartIn → TrayStart
start_reply s = tray_started (start_told s.outcome) s.words

unfoldable pub tray_start : (words nodes versions : List ℕ) (station : ℕ) → Operation → TrayStart
tray_start w nodes versions i op = start_reply (start_in w nodes versions i op)

pub record TrayStep : Type 0 where
  pub told : Told
  pub words : List ℕ
  pub nodes : List ℕ
  pub versions : List ℕ
  pub tally : List ℕ

abbrev pub tray_stepped : Told → (words nodes versions tally : List ℕ) → TrayStep
tray_stepped t w nodes versions tally = record { told = t; words = w; nodes = nodes; versions = versions; tally = tally }

unfoldable pub step_reply : StepIn → TrayStep
step_reply s = tray_stepped (step_told s.outcome) s.words s.nodes s.versions s.tally

unfoldable pub tray_step : (words nodes versions tally : List ℕ) (station : ℕ) → TrayStep
tray_step w nodes versions tally i = step_reply (step_in w nodes versions tally i)

-- ---- calls that write nothing but their answer

unfoldable pub tray_look : (words nodes versions : List ℕ) (tray back : ℕ) → Told
tray_look w nodes versions k back = look_told (look_in w nodes versions k back)

unfoldable pub tray_inspect : (words nodes versions : List ℕ) → Told
tray_inspect w nodes versions = inspect_told (inspect_in w nodes versions)

unfoldable pub tray_standing : (words : List ℕ) (station : ℕ) → Told
tray_standing w i = status_told (status_in w i)
