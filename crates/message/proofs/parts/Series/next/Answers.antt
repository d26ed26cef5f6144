-- A word names the first. Assumes nothing.
use Rattle.std.proofs.Common.{arith}
use Rattle.message.proofs.Rows.{row-there}
use Rattle.message.proofs.parts.Series.next.Goals as goal

pub word-f-requires : goal.word-f-requires
word-f-requires c = row-there _ _ _ _ _ _ c.requires (omega arith)
