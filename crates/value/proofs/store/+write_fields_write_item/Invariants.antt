-- Items and fields call each other; the type number falls. The loop over the fields keeps `Writing`. Assumes nothing.
use Rattle.std.proofs.Common.{◌+◌, ◌-◌, ◌*◌, length}
use Rattle.std.proofs.lemmas.List.Edits.{sets}
use Rattle.standard.specs.Parts.{join}
use Rattle.value.specs.Walk.{walk_fields}
use Rattle.value.specs.Write.{parts_from}
use Rattle.value.specs.Steps.{types_in}
use Rattle.value.proofs.Fills.{Writing}
use Rattle.value.proofs.store.+write_fields_write_item.Given as goal

abbrev pub decreases-write_fields : goal.decreases-write_fields
decreases-write_fields l = 2 * l.row.of

abbrev pub decreases-write_item : goal.decreases-write_item
decreases-write_item l = 2 * l.t + 1

abbrev pub invariant-write_fields-loop : goal.invariant-write_fields-loop
invariant-write_fields-loop l =
    let ts = types_in l.table.layout.now l.row in
    let c = l.form.contents.now in
    let b = l.form.bodies.now in
    let x = parts_from ts c b l.fn.from.word l.fn.from.byte in
    Writing l.table.lens.now l.table.layout.now l.row.of l.row.step c b l.start l.own (l.start + length (join x))
    (walk_fields ts c b l.fn.from.word l.fn.from.byte) (sets l.initial.out l.start (join x)) l.initial.out
    l.out l.p l.q l.a (l.row.many - l.counter) l.at.word l.at.byte
