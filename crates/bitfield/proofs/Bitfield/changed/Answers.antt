-- A bit of the bytes changed is that bit changed. Assumes nothing.
use Rattle.std.proofs.Common.{arith}
use Rattle.bitfield.proofs.Ties.{put-held}
use Rattle.bitfield.proofs.Bitfield.changed.Goals as goal

pub put_bit-requires : goal.put_bit-requires
put_bit-requires g c = (omega (arith, c.requires.kept.few, c.requires.inside), c.requires.kept.raw)

pub returns : goal.returns
returns g c = put-held _ _ _ _ _ _ c.requires.kept c.requires.inside c.put_bit.ensures
