-- The bytes before `i` and the carry are the number moved up. Assumes nothing.
use Rattle.std.proofs.Common.{◌≡◌, arith}
use Rattle.bitfield.proofs.Loops.{shifting_start, shifting_next, shifting_end}
use Rattle.bitfield.proofs.raw.shifted.Goals as goal

pub loop-i-init : goal.loop-i-init
loop-i-init c = (omega arith, shifting_start _ _ _)

pub overflow_add-t : goal.overflow_add-t
overflow_add-t c = omega (arith, c.loop-i.invariant.1.room, c.spread.ensures.1, c.spread.ensures.2)

pub loop-i-preserved : goal.loop-i-preserved
loop-i-preserved c =
    let l = c.loop-i in
    (omega arith, rw c.low_byte.ensures (shifting_next _ _ _ _ _ l.i _ c.requires.2 (omega arith) l.invariant.1 (rw c.spread.ensures.0)))

pub returns : goal.returns
returns c =
    let e : c.loop-i.i ≡ c.args.used = omega arith in
    shifting_end _ c.args.n _ _ _ c.requires.2 c.requires.0 (rw e at c.loop-i.invariant.1)
