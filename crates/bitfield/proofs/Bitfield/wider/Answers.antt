-- Bits that are not set change no byte. Assumes nothing.
use Rattle.bitfield.proofs.Ties.{wider_held}
use Rattle.bitfield.proofs.Bitfield.wider.Goals as goal

pub returns : goal.returns
returns g c = wider_held _ _ _ c.requires.kept c.requires.more
