-- Only the last byte in use can have a bit behind the end. Assumes nothing.
use Rattle.std.proofs.Common.{arith}
use Rattle.bitfield.proofs.Places.{cut-none, cut_law}
use Rattle.bitfield.proofs.raw.cut.Goals as goal

pub returns-then-used-eq0 : goal.returns-then-used-eq0
returns-then-used-eq0 c = cut-none _ _ c.requires.1 (omega arith) c.requires.2

pub returns : goal.returns
returns c = rw (c.last_byte_mask.ensures, c.bytes_for-used.ensures) (cut_law _ c.args.len c.requires.1 c.requires.0 (omega arith) c.requires.2)
