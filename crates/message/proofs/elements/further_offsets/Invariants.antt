use Rattle.std.proofs.Common.{◌+◌, ◌-◌, ◌*◌}
use Rattle.message.proofs.Counting.{Following}
use Rattle.message.proofs.elements.further_offsets.Given as goal

abbrev pub invariant-loop-i : goal.invariant-loop-i
invariant-loop-i l = Following l.b l.first l.fn.n l.previous (4 + 4 * l.i) (l.fn.n - l.i)
