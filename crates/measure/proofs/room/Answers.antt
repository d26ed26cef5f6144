-- The length by a law, since the list is too long to be counted. Assumes nothing.
use Rattle.measure.proofs.Rooms.{room-length}
use Rattle.measure.proofs.room.Goals as goal

pub returns : goal.returns
returns c = room-length 1310720 0
