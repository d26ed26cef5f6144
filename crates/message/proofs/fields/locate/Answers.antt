-- By whether the field is of fixed or of variable size. Assumes nothing.
use Rattle.std.proofs.Common.{arith, eq-eqb, ne_eqb}
use Rattle.message.proofs.Rows.{offset_room, offset_rest, own_fits}
use Rattle.message.proofs.fields.locate.Goals as goal

pub overflow_add-next : goal.overflow_add-next
overflow_add-next c = omega (arith, offset_room _ _ _ _ c.requires.2 c.if-k-eq0.true)

pub four_in-requires : goal.four_in-requires
four_in-requires c = offset_room _ _ _ _ c.requires.2 c.if-k-eq0.true

pub next_start-requires : goal.next_start-requires
next_start-requires c = (c.requires.0, offset_rest _ _ _ _ c.requires.2 c.if-k-eq0.true)

pub returns-then-k-eq0 : goal.returns-then-k-eq0
returns-then-k-eq0 c = rw (eq-eqb c.args.k 0 c.if-k-eq0.true, ← c.four_in.ensures.0, ← c.next_start.ensures)

pub overflow_add-to : goal.overflow_add-to
overflow_add-to c = omega (arith, own_fits _ _ _ _ c.requires.2 c.if-k-eq0.false)

pub returns : goal.returns
returns c = rw (ne_eqb c.args.k 0 c.if-k-eq0.false)
