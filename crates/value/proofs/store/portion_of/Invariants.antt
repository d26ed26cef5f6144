-- The loop keeps `Adding`. Assumes nothing.
use Rattle.std.proofs.Common.{◌-◌}
use Rattle.value.proofs.Fills.{Adding}
use Rattle.value.proofs.store.portion_of.Given as goal

abbrev pub invariant-loop : goal.invariant-loop
invariant-loop l = Adding l.table.lens.now l.table.layout.now l.row.of l.row.first l.row.step l.row.many l.a (l.row.many - l.counter) l.sum
