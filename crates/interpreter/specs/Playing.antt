-- Document 01, "Sheet program": commands one after another, from bytes that may not all be read yet, to a page that may fill up.
use Rattle.std.specs.Prelude.{ℕ, zero, suc, ◌+◌, ◌≤◌, Bool, true, false, List, leb, length}
use Rattle.model.specs.declared.types.Refusal.{Refusal}
use Rattle.std.specs.Prelude.{if◌then◌else◌}
use Rattle.decoder.specs.declared.types.Command.{Command}
use Rattle.ending.specs.declared.types.Rest.{Rest}
use Rattle.ending.specs.declared.types.Rest.TheVariants.{Next, More, Over, Ends}
use Rattle.ending.specs.Rest.{rest_of}
use Rattle.printer.specs.declared.types.Line.{Line}
use Rattle.printer.specs.declared.types.Line.TheVariants.{Refused}
use Rattle.printer.specs.Lines.{Page, print_of, room}
use Rattle.interpreter.specs.declared.types.Needs.{Needs}
use Rattle.interpreter.specs.declared.types.Played.{Played}
use Rattle.buffers.specs.Session.{Session, session}
use Rattle.executor.specs.Perform.{perform_of}

-- a sheet being played: how many of its bytes were, what is printed, and what the run needs
pub record Playing : Type 0 where
  pub session : Session
  pub read : ℕ
  pub page : Page
  pub needs : Needs

abbrev pub playing : Played → (nodes versions tally out : List ℕ) → Playing
playing r nodes versions tally out = record {
  session = session r.state nodes versions tally;
  read = r.read;
  page = record { bytes = out; next = r.next };
  needs = r.needs;
}

-- at the start of its bytes and of a page
abbrev pub on_page : Session → (page : List ℕ) → Playing
on_page w page = record { session = w; read = 0; page = record { bytes = page; next = 0 }; needs = Needs.Nothing }

-- a run within its bytes and its page
pub record Within (p : Played) (bytes out : List ℕ) : Type 0 where
  pub read : p.read ≤ length bytes
  pub next : p.next ≤ length out

-- ---- one command, or what stands in its place

-- the page with a line more
abbrev pub page_with : Playing → Line → Page
page_with p l = print_of p.page.bytes p.page.next l

-- a command is performed and its line printed; the next one stands at `read`
abbrev pub played : Playing → Command → (read : ℕ) → Playing
played p c read =
    let d = perform_of p.session c in
    record { session = d.session; read = read; page = page_with p d.line; needs = Needs.Nothing }

-- "15 and 16 end the run": the refusal is its last line
abbrev pub ended_by : Playing → Refusal → Playing
ended_by p r = record { session = p.session; read = p.read; page = page_with p (Refused r); needs = Needs.Over }

-- the run stands where it stood
abbrev pub needing : Needs → Playing → Playing
needing n p = record { session = p.session; read = p.read; page = p.page; needs = n }

abbrev pub play_next : Playing → Rest → Playing
play_next p (Next c n) = played p c (p.read + n)
play_next p More = needing Needs.Bytes p
play_next p Over = needing Needs.Over p
play_next p (Ends r) = ended_by p r

-- a line is printed only where there is room for any
unfoldable pub play_one : (bytes : List ℕ) → (ended : Bool) → Playing → Playing
play_one bytes ended p =
    if leb (p.page.next + room) (length p.page.bytes)
    then play_next p (rest_of bytes p.read ended)
    else needing Needs.Page p

-- ---- one after another

abbrev pub goes_on : Needs → Bool
goes_on Needs.Nothing = true
goes_on Needs.Page = false
goes_on Needs.Bytes = false
goes_on Needs.Over = false

unfoldable pub play_for : (tries : ℕ) → (bytes : List ℕ) → (ended : Bool) → Playing → Playing
play_for zero bytes ended p = p
play_for (suc n) bytes ended p =
    let q = play_one bytes ended p in
    if goes_on q.needs then play_for n bytes ended q else q

-- all that can be played: a command has a byte at least, and one try more finds what the run needs
unfoldable pub play_of : (bytes : List ℕ) → (ended : Bool) → Playing → Playing
play_of bytes ended p = play_for (suc (length bytes)) bytes ended p
