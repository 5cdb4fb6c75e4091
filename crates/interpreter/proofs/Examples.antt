-- Whole sheets from their bytes to the bytes that they print, by computing both sides: document 01's, and what ends a run.
use mathlib.Core.List.{[], ◌∷◌}
use mathlib.Core.Path.{◌≡◌, refl}
use Rattle.model.proofs.Bench.{said}
use Rattle.decoder.specs.Commands.{big_endian_from, form_from, code_from, command_from}
use Rattle.decoder.proofs.Examples.{sheet}
use Rattle.printer.specs.Text.{ascii, decimal, digits}
use Rattle.printer.specs.Lines.{text}
use Rattle.buffers.specs.Session.{open_on, call_on}
use Rattle.executor.specs.Perform.{perform_of, performed_all}
use Rattle.interpreter.specs.Sheet.{script_for, script_of, sheet_of}

sheet_printed : text (sheet_of sheet)
    ≡ ascii "open 2 3 1 40\nstart 0 1\nstep 0 2 on\nstep 0 3 on\nstep 0 4 on\nstep 0 5 on\nstep 0 6 on\ndone 0 get none 0 0 1 7 7\nrefused 12\n"
unfolding said sheet text sheet_of script_of script_for command_from code_from form_from big_endian_from performed_all perform_of call_on
    open_on decimal digits
sheet_printed = refl

-- an inspection before an open, an unknown byte, and another inspection, which is not played
unknown_printed : text (sheet_of (0x49 ∷ 0xFF ∷ 0x49 ∷ [])) ≡ ascii "refused 14\nrefused 15\n"
unfolding said text sheet_of script_of script_for command_from code_from form_from performed_all perform_of decimal digits
unknown_printed = refl

-- and a step without its station
cut_short_printed : text (sheet_of (0x49 ∷ 0x53 ∷ [])) ≡ ascii "refused 14\nrefused 16\n"
unfolding said text sheet_of script_of script_for command_from code_from form_from performed_all perform_of decimal digits
cut_short_printed = refl
