-- The word's four bytes, taken as a part. Assumes nothing.
use Rattle.std.proofs.Common.{◌∙◌}
use Rattle.standard.proofs.Bytes.{word-part}
use Rattle.layout.specs.Table.{count}
use Rattle.layout.proofs.types.word_in.Goals as goal

pub returns : goal.returns
unfolding count
returns c = (c.four_at.ensures.0 ∙ word-part _ _ c.requires, c.four_at.ensures.1)
