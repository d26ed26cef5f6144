-- The word that holds the end, and then those behind it. Assumes nothing.
use Rattle.std.proofs.Common.{◌∙◌}
use Rattle.std.proofs.lemmas.Bool.{lt-leb}
use Rattle.bitfield.specs.Raw.{clean}
use Rattle.bitfield.proofs.Clean.{clean_full, clean_not, clean-rest}
use Rattle.bitfield.proofs.raw.is_clean_high.Goals as goal

pub returns-then-len-gt2048 : goal.returns-then-len-gt2048
unfolding clean
returns-then-len-gt2048 c = rw (lt-leb _ 2048 c.if-len-gt2048.true)

pub returns-then-q-eq32 : goal.returns-then-q-eq32
returns-then-q-eq32 c = clean_full _ c.args.len c.requires.1 c.if-len-gt2048.false c.if-q-eq32.true

pub returns-then-x-len-ne0 : goal.returns-then-x-len-ne0
returns-then-x-len-ne0 c =
    clean_not _ c.args.len _ c.requires.1 c.if-len-gt2048.false c.if-q-eq32.false c.word_of-x.ensures c.if-x-len-ne0.true

pub returns : goal.returns
returns c =
    c.none_from.ensures
    ∙ clean-rest _ c.args.len _ c.requires.1 c.if-len-gt2048.false c.if-q-eq32.false c.word_of-x.ensures c.if-x-len-ne0.false
