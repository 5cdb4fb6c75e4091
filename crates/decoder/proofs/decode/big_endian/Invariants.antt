-- The number so far, with the bytes that are left behind it, is the number of all bytes.
use Rattle.std.proofs.Common.{◌≡◌, ◌^◌, ◌<◌, drop}
use Rattle.decoder.specs.Commands.{big_endian_from, big_endian}
use Rattle.decoder.proofs.decode.big_endian.Given as goal

abbrev pub invariant-loop-byte : goal.invariant-loop-byte
invariant-loop-byte l = record {
  value : big_endian_from l.n (drop l.byte-index l.bytes) ≡ big_endian l.bytes;
  upper_bound : l.n < 256 ^ l.byte-index;
}
