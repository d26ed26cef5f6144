-- Nothing, some or all of the four bytes are there. Assumes nothing.
use Rattle.std.proofs.Common.{◌∙◌, ◌-◌, length, arith}
use Rattle.standard.proofs.Bytes.{four-past, four_cut, four_read}
use Rattle.standard.proofs.words.four_at.Goals as goal

pub returns-then-len-p : goal.returns-then-len-p
returns-then-len-p c = (four-past _ _ c.if-len-p.true, omega arith)

pub returns-then-len-p-lt4 : goal.returns-then-len-p-lt4
returns-then-len-p-lt4 c = (c.short_number.ensures.0 ∙ four_cut c.args.b.now c.args.p (length c.args.b.now - c.args.p) (omega arith) (omega arith), c.short_number.ensures.1)

pub returns-else-len-p-lt4 : goal.returns-else-len-p-lt4
returns-else-len-p-lt4 c = (c.number.ensures.0 ∙ four_read _ _, c.number.ensures.1)
