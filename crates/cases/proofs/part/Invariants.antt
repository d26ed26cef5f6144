-- The walk stands where the counted part begins. Assumes nothing.
use Rattle.std.proofs.Common.{◌≡◌}
use Rattle.cases.specs.Records.{start_of}
use Rattle.cases.proofs.part.Given as goal

abbrev pub invariant-loop : goal.invariant-loop
invariant-loop l = l.at ≡ start_of l.b l.counter
