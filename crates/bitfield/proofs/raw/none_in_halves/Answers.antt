-- What the first `k` bytes of both halves gathered is zero if they are. Assumes nothing.
use Rattle.std.proofs.Common.{arith}
use Rattle.bitfield.proofs.Loops.{halved_start, halved_next, halved_end}
use Rattle.bitfield.proofs.raw.none_in_halves.Goals as goal

pub loop-k-init : goal.loop-k-init
loop-k-init c = (omega arith, halved_start _ _)

pub loop-k-preserved : goal.loop-k-preserved
loop-k-preserved c =
    let l = c.loop-k in
    (omega arith, halved_next c.args.bytes.now c.args.from l.acc l.k c.told-bytes c.requires.0 (omega arith) l.invariant.1)

pub returns : goal.returns
returns c =
    let l = c.loop-k in
    halved_end c.args.bytes.now c.args.from l.acc l.k c.told-bytes c.requires.0 (omega arith) l.invariant.1
