-- The four bytes are written over whole. Assumes nothing.
use Rattle.std.proofs.Common.{arith}
use Rattle.value.proofs.Fills.{offset-stored}
use Rattle.value.proofs.store.put_offset.Goals as goal

pub returns : goal.returns
returns c = offset-stored _ _ _ _ _ (omega arith) c.put_four.ensures c.requires
