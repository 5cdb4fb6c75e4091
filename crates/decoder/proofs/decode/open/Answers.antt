-- Each number stands behind the one before.
use Rattle.std.proofs.Common.{arith}
use Rattle.decoder.proofs.decode.open.Goals as goal

pub returns : goal.returns
returns c =
    let k = c.in_ok-keys.ensures.taken in
    let v = c.in_ok-versions.ensures.taken in
    let p = c.in_ok-processes.ensures.taken in
    let l = c.in_ok-limit.ensures.taken in
    (rw (k.0, v.0, p.0, l.0, p.1, v.1, k.1), omega (arith, k.2, v.2, p.2, l.2))
