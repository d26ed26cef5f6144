-- All ones, shifted by the bits that the last byte does not use. Assumes nothing.
use Rattle.bitfield.specs.Raw.{mask_of}
use Rattle.bitfield.proofs.Places.{mask_shifted}
use Rattle.bitfield.proofs.raw.last_byte_mask.Goals as goal

pub returns-then-len-eq0 : goal.returns-then-len-eq0
unfolding mask_of
returns-then-len-eq0 c = rw c.if-len-eq0.true

pub returns : goal.returns
returns c = mask_shifted _ c.if-len-eq0.false
