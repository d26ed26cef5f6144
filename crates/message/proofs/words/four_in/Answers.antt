-- The four bytes, taken as a part. Assumes nothing.
use Rattle.std.proofs.Common.{◌∙◌}
use Rattle.standard.proofs.Bytes.{four-part}
use Rattle.message.proofs.words.four_in.Goals as goal

pub returns : goal.returns
returns c = (c.four_at.ensures.0 ∙ four-part _ _, c.four_at.ensures.1)
