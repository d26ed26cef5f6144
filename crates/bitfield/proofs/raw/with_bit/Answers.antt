-- One bit put in by "or", or masked out. Assumes nothing.
use Rattle.std.proofs.Common.{◌∙◌, arith}
use Rattle.bitfield.proofs.Places.{one_shifted, bit-on, bit_off}
use Rattle.bitfield.proofs.raw.with_bit.Goals as goal

pub returns-then-v : goal.returns-then-v
returns-then-v c = rw (one_shifted c.args.j c.requires, c.if-v.true) (bit-on c.args.x c.args.j ∙ omega arith)

pub returns-else-v : goal.returns-else-v
returns-else-v c = rw (one_shifted c.args.j c.requires, c.if-v.false) (bit_off c.args.x c.args.j c.ranges.x.fits c.requires ∙ omega arith)
