-- What is left of the row of parts ends where the whole row does. Assumes nothing.
use Rattle.std.proofs.Common.{◌≡◌, ◌-◌}
use Rattle.standard.specs.Bytes.{word_at}
use Rattle.cases.specs.Records.{row_end}
use Rattle.cases.proofs.record_end.Given as goal

abbrev pub invariant-loop : goal.invariant-loop
invariant-loop l = row_end l.b (word_at l.b 1 - l.counter) l.at ≡ row_end l.b (word_at l.b 1) 8
