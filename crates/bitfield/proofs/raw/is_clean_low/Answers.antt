-- The word that holds the end, and then the bytes behind it. Assumes nothing.
use Rattle.std.proofs.Common.{◌≡◌, ◌+◌, ◌*◌, ◌/◌, ◌∙◌, arith}
use Rattle.bitfield.proofs.Clean.{clean_not, clean-rest}
use Rattle.bitfield.proofs.raw.is_clean_low.Goals as goal

pub returns-then-x-len-ne0 : goal.returns-then-x-len-ne0
returns-then-x-len-ne0 c = clean_not _ c.args.len _ c.requires.1 (omega arith) (omega arith) c.word_of-x.ensures c.if-x-len-ne0.true

pub returns : goal.returns
returns c =
    let e : 8 * (c.args.len / 64) + 8 ≡ 8 * (c.args.len / 64 + 1) = omega arith in
    rw e at c.none_in_halves.ensures ∙ clean-rest _ c.args.len _ c.requires.1 (omega arith) (omega arith) c.word_of-x.ensures c.if-x-len-ne0.false
