-- Each number stands behind the one before.
use Rattle.std.proofs.Common.{arith, refl}
use Rattle.std.proofs.lemmas.Result.{err_from_is_err_and}
use Rattle.decoder.proofs.decode.put.Goals as goal

pub returns-in_err-draw : goal.returns-in_err-draw
returns-in_err-draw c =
    let p = c.in_ok-process.ensures.taken in
    let k = c.in_ok-key.ensures in
    let v = c.in_ok-value.ensures.taken in
    let t = c.in_ok-timestamp.ensures.taken in
    let d = c.in_err-draw.ensures.taken in
    let r = err_from_is_err_and c.from_residual-in_err-draw.result c.from_residual-in_err-draw.ensures.1 in
    rw (r.1, r.2, d.0) (refl, omega (arith, p.2, k.2, v.2, t.2, d.1))

pub returns : goal.returns
returns c =
    let p = c.in_ok-process.ensures.taken in
    let k = c.in_ok-key.ensures in
    let v = c.in_ok-value.ensures.taken in
    let t = c.in_ok-timestamp.ensures.taken in
    let d = c.in_ok-draw.ensures.taken in
    (rw (p.0, k.0, v.0, t.0, d.0, t.1, v.1, k.1, p.1), omega (arith, p.2, k.2, v.2, t.2, d.2))
