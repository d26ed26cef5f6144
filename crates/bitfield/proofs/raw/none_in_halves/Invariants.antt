-- What the first `k` bytes of both halves gathered is zero if they are. Assumes nothing.
use Rattle.std.proofs.Common.{◌≤◌}
use Rattle.bitfield.proofs.Loops.{Halved}
use Rattle.bitfield.proofs.raw.none_in_halves.Given as goal

abbrev pub invariant-loop-k : goal.invariant-loop-k
invariant-loop-k l = (l.k ≤ 128) × Halved l.bytes l.from l.acc l.k
