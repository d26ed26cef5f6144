-- What is left is of the bytes, and each record takes some of it. Assumes nothing.
use Rattle.std.proofs.Common.{◌≤◌, length}
use Rattle.replay.proofs.run.ask_all.Given as goal

abbrev pub invariant-loop-n : goal.invariant-loop-n
invariant-loop-n g l = length l.rest ≤ length l.b

abbrev pub decreases-loop-n : goal.decreases-loop-n
decreases-loop-n g l = length l.rest
