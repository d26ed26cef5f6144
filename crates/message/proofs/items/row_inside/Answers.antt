-- Numbers and fixed bytes are counted. Assumes nothing.
use Rattle.std.proofs.Common.{sym, ◌∙◌}
use Rattle.message.proofs.items.row_inside.Goals as goal

pub returns-then-is_plain : goal.returns-then-is_plain
returns-then-is_plain c = rw (← c.kind.ensures, sym c.is_plain.ensures ∙ c.if-is_plain.true)

pub returns : goal.returns
returns c = rw (← c.kind.ensures, sym c.is_plain.ensures ∙ c.if-is_plain.false)
