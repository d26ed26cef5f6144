-- Nothing was set exactly if nothing is set from there on. Assumes nothing.
use Rattle.std.proofs.Common.{◌*◌, ◌≤◌}
use Rattle.bitfield.proofs.Loops.{Gathered}
use Rattle.bitfield.proofs.raw.none_from.Given as goal

abbrev pub invariant-loop-w : goal.invariant-loop-w
invariant-loop-w l = (l.w ≤ 32) × Gathered l.bytes (8 * l.from) l.acc (8 * l.w)
