-- The bytes before the last four are the high half.
use Rattle.std.proofs.Common.{arith, sym}
use Rattle.std.proofs.Math.Seq.{drop-drop}
use Rattle.model.specs.Layout.{joined}
use Rattle.decoder.proofs.Bytes.{low_behind}
use Rattle.decoder.proofs.decode.take_key.Goals as goal
use Rattle.decoder.proofs.decode.take_key.Goals.{in-Four, in-Eight+in_ok-high-in-Eight}

pub returns : goal.returns
unfolding joined
returns c =
    let l = c.in_ok-low.ensures.taken in
    elim c.match-width.branch [
      | in-Four w ↦
          let n = rw w.high-is at l.2 in
          rw w.in-Four.is (rw (c.joined.ensures, l.0, w.high-is) (omega arith), rw (l.1, w.high-is), omega (arith, n))
      | in-Eight+in_ok-high-in-Eight w ↦
          let h = w.in_ok-high-in-Eight.ensures.taken in
          let n = rw w.high-is at l.2 in
          rw w.in-Eight.is (
            rw (c.joined.ensures, l.0, w.high-is, h.0, h.1) (sym (low_behind c.args.bytes.now 4 (omega (arith, h.2, n)))),
            rw (l.1, w.high-is, h.1) (drop-drop 4 4 c.args.bytes.now),
            omega (arith, n, h.2),
          )
    ]
