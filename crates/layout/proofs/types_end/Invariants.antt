-- The loop keeps `Checking`. Assumes nothing.
use Rattle.layout.proofs.Tables.{Checking}
use Rattle.layout.proofs.types_end.Given as goal

abbrev pub invariant-loop-t : goal.invariant-loop-t
invariant-loop-t l = Checking l.layout l.lens l.n l.t l.at
