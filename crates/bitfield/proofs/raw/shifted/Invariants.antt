-- The bytes before `i` and the carry are the number moved up. Assumes nothing.
use Rattle.std.proofs.Common.{◌≤◌}
use Rattle.bitfield.proofs.Loops.{Shifting}
use Rattle.bitfield.proofs.raw.shifted.Given as goal

abbrev pub invariant-loop-i : goal.invariant-loop-i
invariant-loop-i l = (l.i ≤ l.used) × Shifting l.a l.s l.places l.out l.carry l.i
