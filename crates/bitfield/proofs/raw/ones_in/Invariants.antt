-- What is counted and what is left are all. Assumes nothing.
use Rattle.std.proofs.Common.{◌≡◌, ◌+◌, ◌*◌, ◌≤◌, drop}
use Rattle.std.specs.Int.Count.{ones}
use Rattle.standard.specs.Bytes.{num}
use Rattle.bitfield.proofs.raw.ones_in.Given as goal

abbrev pub invariant-loop-w : goal.invariant-loop-w
invariant-loop-w l = (l.w ≤ l.words) × (l.sum ≤ 64 * l.w) × (l.sum + ones (num (drop (8 * l.w) l.bytes)) ≡ ones (num l.bytes))
