-- The mark beside the bits. Assumes nothing.
use Rattle.std.proofs.Common.{ne_eqb}
use Rattle.value.proofs.Fills.{mark_set}
use Rattle.value.proofs.store.mark_byte.Goals as goal

pub returns-else-bits-eq0 : goal.returns-else-bits-eq0
returns-else-bits-eq0 c = rw (ne_eqb _ _ c.if-bits-eq0.false) (mark_set _ _ (c.requires.1 c.if-bits-eq0.false).1 c.requires.0)
