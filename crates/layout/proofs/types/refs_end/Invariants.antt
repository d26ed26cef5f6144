-- What is left gives the whole. Assumes nothing.
use Rattle.std.proofs.Common.{◌≡◌, ◌+◌, ◌-◌}
use Rattle.layout.specs.Table.{refs}
use Rattle.layout.proofs.types.refs_end.Given as goal

abbrev pub invariant-loop-a : goal.invariant-loop-a
invariant-loop-a l = refs l.layout l.t l.none l.a (l.a0 + l.n - l.a) ≡ refs l.layout l.t l.none l.a0 l.n
