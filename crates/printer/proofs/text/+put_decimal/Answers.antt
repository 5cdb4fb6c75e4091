-- The digits of a tenth of the number, and behind them the last one.
use native.Mathlib.Omega.{arith}
use Rattle.printer.specs.Text.{digit}
use Rattle.printer.proofs.Writing.{behind, one_byte, decimal_short, decimal_long, short_length, long_length}
use Prim.Native.Nat.{◌%◌}
use Rattle.printer.proofs.text.+put_decimal.Goals as goal

pub bounds-out-at : goal.bounds-out-at
bounds-out-at t c = let one = short_length c.args.n c.if-n-lt10.true in omega arith

pub returns-then-n-lt10 : goal.returns-then-n-lt10
returns-then-n-lt10 t c =
    let a = c.args in
    let one = short_length a.n c.if-n-lt10.true in
    rw (decimal_short a.n c.if-n-lt10.true) (one_byte a.out.now a.at (digit a.n) (omega arith))

pub put_decimal-last-requires : goal.put_decimal-last-requires
put_decimal-last-requires t c = let more = long_length c.args.n c.if-n-lt10.false in (omega arith, omega arith)

pub bounds-out-last : goal.bounds-out-last
bounds-out-last t c = let more = long_length c.args.n c.if-n-lt10.false in omega arith

pub returns : goal.returns
returns t c =
    let a = c.args in
    let p = c.put_decimal-last in
    let more = long_length a.n c.if-n-lt10.false in
    rw (decimal_long a.n c.if-n-lt10.false) (behind p.ensures (one_byte p.new.out p.result (digit (a.n % 10)) (omega arith)))
