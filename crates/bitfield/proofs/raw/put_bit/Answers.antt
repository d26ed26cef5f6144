-- A bit of a byte changed is that bit of the number changed. Assumes nothing.
use Rattle.bitfield.proofs.Places.{put-bit}
use Rattle.bitfield.proofs.raw.put_bit.Goals as goal

pub returns : goal.returns
returns c = put-bit _ c.args.i _ _ c.requires.1 c.requires.0 c.with_bit.type_inv c.with_bit.ensures
