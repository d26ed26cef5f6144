-- The loop keeps `Seeking`. Assumes nothing.
use Rattle.std.proofs.Common.{arith, ◌∙◌}
use Rattle.message.proofs.Rows.{next_few, seeking_room, seeking_found, seeking_fits, seeking_next, seeking_end}
use Rattle.message.proofs.fields.next_start.Goals as goal

pub next-requires : goal.next-requires
next-requires c = c.loop-f.invariant.row

pub length-k-requires : goal.length-k-requires
length-k-requires c = next_few _ _ _ _ _ c.loop-f.invariant.row c.in-Some.ensures

pub four_in-requires : goal.four_in-requires
four_in-requires c = seeking_room _ _ _ _ _ _ _ _ _ c.loop-f.invariant c.in-Some.ensures c.length-k.ensures.0 c.if-k-eq0.true

pub returns-then-k-eq0 : goal.returns-then-k-eq0
returns-then-k-eq0 c =
    c.four_in.ensures.0 ∙ seeking_found _ _ _ _ _ _ _ _ _ c.loop-f.invariant c.in-Some.ensures c.length-k.ensures.0 c.if-k-eq0.true

pub overflow_add-p : goal.overflow_add-p
overflow_add-p c =
    omega (arith, seeking_fits _ _ _ _ _ _ _ _ _ c.loop-f.invariant c.in-Some.ensures c.length-k.ensures.0 c.if-k-eq0.false)

pub loop-f-preserved : goal.loop-f-preserved
loop-f-preserved c = seeking_next _ _ _ _ _ _ _ _ _ c.loop-f.invariant c.in-Some.ensures c.length-k.ensures.0 c.if-k-eq0.false

pub returns : goal.returns
returns c = seeking_end _ _ _ _ _ _ c.loop-f.invariant c.in_default.ensures
