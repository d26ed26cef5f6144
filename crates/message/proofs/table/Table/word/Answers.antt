-- The word's four bytes. Assumes nothing.
use Rattle.std.proofs.Common.{rules, ◌∙◌}
use Rattle.layout.specs.Table.{count}
use Rattle.standard.proofs.Bytes.{word-there}
use Rattle.message.proofs.table.Table.word.Goals as goal

pub overflow_mul-i : goal.overflow_mul-i
unfolding count
overflow_mul-i c = search rules

pub four_in-requires : goal.four_in-requires
unfolding count
four_in-requires c = search rules

pub returns : goal.returns
unfolding count
returns c = (c.four_in.ensures.0 ∙ word-there _ _ c.requires, c.four_in.ensures.1)
