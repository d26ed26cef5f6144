-- What is left stands at the front of the room. Assumes nothing.
use Rattle.std.proofs.Common.{◌≤◌, length}
use Rattle.replay.proofs.run.run.Given as goal

abbrev pub invariant-loop : goal.invariant-loop
invariant-loop g l = l.left ≤ length l.b
