-- No bit set is no byte set. Assumes nothing.
use Rattle.bitfield.proofs.Ties.{zeros-held}
use Rattle.bitfield.proofs.Bitfield.zeros.Goals as goal

pub returns : goal.returns
returns g c = zeros-held _ _
