-- Items and fields call each other; the type number falls. The loop over the fields keeps `Storing`. Assumes nothing.
use Rattle.std.proofs.Common.{◌+◌, ◌*◌}
use Rattle.message.specs.Steps.{types_of}
use Rattle.message.proofs.Entries.{Storing}
use Rattle.message.proofs.listing.+list_fields_list_item.Given as goal

abbrev pub decreases-list_fields : goal.decreases-list_fields
decreases-list_fields l = 2 * l.row.below

abbrev pub decreases-list_item : goal.decreases-list_item
decreases-list_item l = 2 * l.t + 1

abbrev pub invariant-list_fields-loop-f : goal.invariant-list_fields-loop-f
invariant-list_fields-loop-f l =
    Storing l.table.lens.now l.table.layout.now l.fn.row.below (types_of l.table.layout.now l.fn.row) l.b l.start l.initial.out l.fn.at0 l.out l.at l.rest l.p

abbrev pub decreases-list_fields-loop-f : goal.decreases-list_fields-loop-f
decreases-list_fields-loop-f l = l.rest.many
