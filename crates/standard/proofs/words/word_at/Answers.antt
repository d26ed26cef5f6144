-- The word is there whole, or it counts as 0. Assumes nothing.
use Rattle.std.proofs.Common.{arith}
use Rattle.standard.proofs.Bytes.{word_cut, word_none}
use Rattle.standard.proofs.words.word_at.Goals as goal

pub returns-in-Some : goal.returns-in-Some
returns-in-Some c =
    let there = c.in-Some.ensures.lookup in
    (word_cut _ _ _ c.as_chunks.ensures.front c.as_chunks.ensures.front_len _ _ there.3.0 there.1 c.number.ensures.0, c.number.ensures.1)

pub returns-in-None : goal.returns-in-None
returns-in-None c =
    (word_none _ _ _ c.as_chunks.ensures.front c.as_chunks.ensures.front_len c.in-None.ensures.lookup.3, omega arith)
