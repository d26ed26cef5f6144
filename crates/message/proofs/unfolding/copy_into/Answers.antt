-- A part that is overwritten whole. Assumes nothing.
use Rattle.std.proofs.Common.{arith, refl}
use Rattle.standard.proofs.Store.{part_sets}
use Rattle.message.proofs.unfolding.copy_into.Goals as goal

pub returns : goal.returns
returns c = record { list = part_sets _ _ _ _ _ c.copy_from_slice.ensures.after (omega arith) c.requires.room; ends = refl }
