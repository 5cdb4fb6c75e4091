use Rattle.std.proofs.Common.{arith}
use Rattle.decoder.proofs.Bytes.{three_below}
use Rattle.decoder.proofs.decode.big_endian.Goals as goal

pub overflow_mul-n : goal.overflow_mul-n
overflow_mul-n c = let below = three_below _ _ c.loop-byte.invariant.upper_bound (omega arith) in omega arith
