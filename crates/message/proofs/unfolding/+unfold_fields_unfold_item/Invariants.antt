-- Items and fields call each other; the type number falls. The loop over the fields keeps `Filling`. Assumes nothing.
use Rattle.std.proofs.Common.{◌+◌, ◌*◌}
use Rattle.message.specs.Unfold.{words_fields, bytes_fields}
use Rattle.message.specs.Steps.{types_of}
use Rattle.message.specs.Unfolding.{Filling}
use Rattle.message.proofs.unfolding.+unfold_fields_unfold_item.Given as goal

abbrev pub decreases-unfold_fields : goal.decreases-unfold_fields
decreases-unfold_fields l = 2 * l.row.below

abbrev pub decreases-unfold_item : goal.decreases-unfold_item
decreases-unfold_item l = 2 * l.t + 1

abbrev pub invariant-unfold_fields-loop-f : goal.invariant-unfold_fields-loop-f
invariant-unfold_fields-loop-f l =
    Filling l.table.lens.now l.table.layout.now l.fn.row.below l.b (words_fields (types_of l.table.layout.now l.fn.row) l.b 0)
    (bytes_fields (types_of l.table.layout.now l.fn.row) l.b 0) l.initial.contents l.initial.bodies l.initial.at l.contents l.bodies l.at l.rest l.p

abbrev pub decreases-unfold_fields-loop-f : goal.decreases-unfold_fields-loop-f
decreases-unfold_fields-loop-f l = l.rest.many
