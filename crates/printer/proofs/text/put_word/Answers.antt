-- No number has more digits than its type lets it have.
use Rattle.std.proofs.Common.{arith, rules, Fits, w32, w64}
use Rattle.printer.proofs.Writing.{decimal_few, decimal_wide}
use Rattle.printer.proofs.text.put_word.Goals as goal

pub put_decimal-requires : goal.put_decimal-requires
put_decimal-requires c =
    let few : Fits w32 c.in-Number.n = search rules in
    rw c.from.ensures (omega (arith, decimal_few _ few.fits, rw c.in-Number.is at c.requires))

pub returns-in-Number-clause-upper_bound : goal.returns-in-Number-clause-upper_bound
returns-in-Number-clause-upper_bound c =
    let few : Fits w32 c.in-Number.n = search rules in
    let e = rw c.from.ensures at c.put_decimal.ensures in
    rw c.in-Number.is (omega (arith, decimal_few _ few.fits, e.end))

pub put_decimal-requires-in-Tray : goal.put_decimal-requires-in-Tray
put_decimal-requires-in-Tray c =
    let wide : Fits w64 c.in-Tray.key = search rules in
    omega (arith, decimal_wide _ wide.fits, rw c.in-Tray.is at c.requires)

pub returns-in-Tray-clause-upper_bound : goal.returns-in-Tray-clause-upper_bound
returns-in-Tray-clause-upper_bound c =
    let wide : Fits w64 c.in-Tray.key = search rules in
    rw c.in-Tray.is (omega (arith, decimal_wide _ wide.fits, c.put_decimal-in-Tray.ensures.end))
