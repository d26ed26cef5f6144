-- Nothing was set exactly if nothing is set from there on. Assumes nothing.
use Rattle.std.proofs.Common.{◌≡◌, ◌+◌, ◌*◌, arith}
use Rattle.bitfield.proofs.Loops.{gathered_start, gathered_next, gathered_end}
use Rattle.bitfield.proofs.raw.none_from.Goals as goal

pub loop-w-init : goal.loop-w-init
loop-w-init c = (omega arith, gathered_start _ _)

pub loop-w-preserved : goal.loop-w-preserved
loop-w-preserved c =
    let e : 8 * (c.loop-w.w + 1) ≡ 8 * c.loop-w.w + 8 = omega arith in
    (omega arith, rw e (gathered_next _ _ _ _ _ c.word_of-acc.ensures c.loop-w.invariant.1))

pub returns : goal.returns
returns c =
    let e : c.loop-w.w ≡ 32 = omega arith in
    gathered_end c.args.bytes.now (8 * c.args.from) c.loop-w.acc (rw c.told-bytes (rw e at c.loop-w.invariant.1))
