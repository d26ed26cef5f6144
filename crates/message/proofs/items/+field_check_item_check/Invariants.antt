-- Items and fields call each other; the type number falls. The loop over the fields keeps `Reading`. Assumes nothing.
use Rattle.std.proofs.Common.{◌+◌, ◌*◌}
use Rattle.message.specs.Steps.{types_of}
use Rattle.message.proofs.Bodies.{Reading}
use Rattle.message.proofs.items.+field_check_item_check.Given as goal

abbrev pub decreases-field_check : goal.decreases-field_check
decreases-field_check l = 2 * l.row.below

abbrev pub decreases-item_check : goal.decreases-item_check
decreases-item_check l = 2 * l.t + 1

abbrev pub invariant-field_check-loop-f : goal.invariant-field_check-loop-f
invariant-field_check-loop-f l =
    Reading l.table.lens.now l.table.layout.now l.fn.row.below (types_of l.table.layout.now l.fn.row) l.words l.b l.start l.sum l.rest l.p

abbrev pub decreases-field_check-loop-f : goal.decreases-field_check-loop-f
decreases-field_check-loop-f l = l.rest.many
