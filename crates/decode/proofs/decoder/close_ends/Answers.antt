-- The item before those that are closed is closed next. Assumes nothing.
use Rattle.std.proofs.Common.{arith}
use Rattle.decode.proofs.Close.{closing_none, closing-more_open, closing-more_shut}
use Rattle.decode.proofs.decoder.close_ends.Goals as goal

pub loop-i-init : goal.loop-i-init
loop-i-init c = closing_none _ _ _ _

pub loop-i-preserved-then-ends-i : goal.loop-i-preserved-then-ends-i
loop-i-preserved-then-ends-i c =
    closing-more_open _ _ _ _ _ _ _ c.loop-i.invariant c.loop-i-test.true (omega arith) (omega arith) c.requires c.if-ends-i.true

pub loop-i-preserved : goal.loop-i-preserved
loop-i-preserved c =
    closing-more_shut _ _ _ _ _ _ _ c.loop-i.invariant c.loop-i-test.true (omega arith) (omega arith) c.requires c.if-ends-i.false
