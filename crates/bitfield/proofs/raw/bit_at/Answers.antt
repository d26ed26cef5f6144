-- Bit i of the number is bit i mod 8 of byte i/8. Assumes nothing.
use Rattle.std.proofs.Common.{arith}
use Rattle.bitfield.proofs.Places.{bit-place, bit_test}
use Rattle.bitfield.proofs.raw.bit_at.Goals as goal

pub returns : goal.returns
returns c = bit_test _ _ (bit-place _ c.args.i c.requires.1.bytes (rw c.told-bytes (omega arith)))
