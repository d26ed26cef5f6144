-- The full bytes, then the byte with the mark. Assumes nothing.
use Rattle.value.proofs.Fills.{list-stored}
use Rattle.value.proofs.store.put_list.Goals as goal

pub returns : goal.returns
returns c = list-stored _ _ _ _ _ _ _ _ _ c.requires.0 c.copy_into.ensures c.mark_byte.ensures c.raw_bytes.ensures
