-- What `leading_zeros` counts and the highest bit make eight. Assumes nothing.
use Rattle.bitfield.proofs.Tops.{top_counted}
use Rattle.bitfield.proofs.body.top_bit.Goals as goal

pub returns : goal.returns
returns c = (top_counted c.args.x c.requires c.ranges.x.fits).1
