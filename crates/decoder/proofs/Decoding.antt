-- What a code has its operands decoded by.
use Rattle.std.proofs.Common.{◌≡◌, ℕ, ◌-◌, List, length, Result, Ok, Err, arith, lt-ltb, le-ltb}
use Rattle.std.specs.Borrow.{Bor}
use Rattle.decoder.specs.Types.{Command, DecodeError}
use Rattle.decoder.specs.Commands.{Form, total, form_from}
use Rattle.decoder.specs.Taking.{TakesCommand, Decodes}

pub form_decodes : (f : Form) (bytes : List ℕ) (r : Result (Command × Bor (List ℕ)) DecodeError) → TakesCommand f bytes r → Decodes (form_from f bytes) bytes r
unfolding form_from
form_decodes f bytes (Ok x) t =
    let size : length bytes - length x.1.now ≡ total f.widths = omega arith in
    (rw (le-ltb (length bytes) (total f.widths) (omega arith), size, t.0), omega arith)
form_decodes f bytes (Err e) t = rw (lt-ltb (length bytes) (total f.widths) t.1, t.0)
