-- Worked examples that pin the definitions, by computing both sides. The lines of document 01's own sheet are in `interpreter`.
use mathlib.Core.Path.{◌≡◌, refl}
use mathlib.Core.List.{[], ◌∷◌, ◌++◌}
use Rattle.model.specs.Numbers.{number_of}
use Rattle.model.specs.declared.types.Refusal.TheVariants.{NodeLength, UnknownCommand, CutShort}
use Rattle.printer.specs.Types.{Kind, Answer, Line, Waited, Done, Looked, Sound, Fault, Refused, TooOld, VersionsFull, Added, KeysFull, New, Found, None}
use Rattle.printer.specs.Text.{ascii, digits, decimal}
use Rattle.printer.specs.Lines.{text}

-- other lines, with numbers that differ and the greatest
others_printed : text (
    Waited 1 23 ∷ Looked 18_446_744_073_709_551_614 65_535 4_294_967_295 10 ∷ Sound ∷ Fault 5 1_023
    ∷ Refused NodeLength ∷ Refused UnknownCommand ∷ Refused CutShort ∷ []
    ) ≡ ascii "step 1 23 wait\nlook 18446744073709551614 65535 4294967295 10\nsound\nfault 5 1023\nrefused 1\nrefused 15\nrefused 16\n"
unfolding text number_of decimal digits
others_printed = refl

-- a finished call with each answer of a put and a get
done : Kind → Answer → Line
done kind answer = Done 7 (record { kind = kind; answer = answer; value = 1; timestamp = 20; start = 300; effect = 4_000; finish = 50_000 })

done_printed : text (
    done Kind.Put TooOld ∷ done Kind.Put VersionsFull ∷ done Kind.Put Added ∷ done Kind.Put KeysFull ∷ done Kind.Put New
    ∷ done Kind.Get Found ∷ done Kind.Get None ∷ []
    ) ≡ ascii "done 7 put too-old 1 20 300 4000 50000\n"
    ++ (ascii "done 7 put readings-full 1 20 300 4000 50000\n"
    ++ (ascii "done 7 put added 1 20 300 4000 50000\n"
    ++ (ascii "done 7 put trays-full 1 20 300 4000 50000\n"
    ++ (ascii "done 7 put new 1 20 300 4000 50000\n"
    ++ (ascii "done 7 get found 1 20 300 4000 50000\n"
    ++ ascii "done 7 get none 1 20 300 4000 50000\n")))))
unfolding text done decimal digits
done_printed = refl
