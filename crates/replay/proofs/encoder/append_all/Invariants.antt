-- Each item takes bytes of the row, so fewer are accepted than there are bytes. Assumes nothing.
use Rattle.std.proofs.Common.{◌+◌, ◌≤◌, length}
use Rattle.replay.proofs.encoder.append_all.Given as goal

abbrev pub invariant-loop-rest : goal.invariant-loop-rest
invariant-loop-rest l = l.accepted + length l.rest ≤ length l.items

abbrev pub decreases-loop-rest : goal.decreases-loop-rest
decreases-loop-rest l = length l.rest
