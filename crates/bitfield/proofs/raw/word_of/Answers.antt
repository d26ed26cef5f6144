-- Eight bytes, one by one. Assumes nothing.
use Rattle.std.proofs.Common.{arith}
use Rattle.bitfield.proofs.Loops.{word-bytes}
use Rattle.bitfield.proofs.raw.word_of.Goals as goal

pub returns : goal.returns
returns c = let e = c.from_le_bytes.ensures in word-bytes _ _ _ c.requires.raw.bytes (omega arith) (omega arith)
