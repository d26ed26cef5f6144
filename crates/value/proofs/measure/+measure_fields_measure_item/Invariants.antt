-- Items and fields call each other; the type number falls. The loop over the fields keeps `Measuring`. Assumes nothing.
use Rattle.std.proofs.Common.{◌+◌, ◌-◌, ◌*◌}
use Rattle.value.proofs.Rows.{Measuring}
use Rattle.value.proofs.measure.+measure_fields_measure_item.Given as goal

abbrev pub decreases-measure_fields : goal.decreases-measure_fields
decreases-measure_fields l = 2 * l.row.of

abbrev pub decreases-measure_item : goal.decreases-measure_item
decreases-measure_item l = 2 * l.t + 1

abbrev pub invariant-measure_fields-loop : goal.invariant-measure_fields-loop
invariant-measure_fields-loop l =
    Measuring l.table.lens.now l.table.layout.now l.row.of l.row.first l.row.step l.row.many l.form.contents.now l.form.bodies.now
    l.fn.start.word l.fn.start.byte l.len l.a (l.row.many - l.counter) l.at.word l.at.byte
