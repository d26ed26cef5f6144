-- A vector, then a list: what is found of the elements is found of the item (`row-found`). Assumes nothing.
use Rattle.std.proofs.Common.{arith, refl}
use Rattle.message.proofs.Answers.{handed}
use Rattle.message.proofs.Rows.{known-below, node_legal}
use Rattle.message.proofs.Repeats.{element-below, element-word, element-row, third-there, vector-narrow}
use Rattle.message.proofs.Alike.{row-found, vector-alike, vector_on, vector_stop, list-alike, list_on, list_stop}
use Rattle.message.proofs.items.elements_inside.Goals as goal

pub overflow_add-n : goal.overflow_add-n
overflow_add-n c = omega (arith, (node_legal _ _ _ _ c.requires.2 (known-below c.args.table.now _ c.requires.0)).near)

pub word-third-requires : goal.word-third-requires
word-third-requires c = third-there _ _ _ _ c.requires.2 (known-below c.args.table.now _ c.requires.0) c.requires.3

pub elements-row-requires : goal.elements-row-requires
elements-row-requires c = (node_legal _ _ _ _ c.requires.2 (known-below c.args.table.now _ c.requires.0)).near

pub vector_told-requires : goal.vector_told-requires
vector_told-requires c =
    let p = c.requires in
    let u = known-below c.args.table.now _ p.0 in
    rw c.elements-row.ensures (
      element-row _ _ _ _ p.2 u p.3 _ c.word-third.ensures.1,
      refl,
      element-word _ _ _ _ p.2 u p.3,
      element-below _ _ _ _ p.2 u p.3,
      p.1,
      rw c.word-third.ensures.0 (vector-narrow _ _ _ _ p.2 u p.3 c.in-Vector.is),
    )

pub row_inside-requires : goal.row_inside-requires
row_inside-requires c =
    let p = c.requires in
    let u = known-below c.args.table.now _ p.0 in
    let fine = rw c.elements-row.ensures at c.in_ok-vector_told-in-Vector.ensures in
    let a = vector-alike _ _ _ _ p.2 u p.3 c.in-Vector.is _ c.word-third.ensures.0 _ c.word-third.ensures.1 fine in
    (omega (arith, p.0, a.lower), rw c.elements-row.ensures (omega (arith, c.word-third.ensures.1)))

pub returns-in_ok-vector_told-in-Vector : goal.returns-in_ok-vector_told-in-Vector
returns-in_ok-vector_told-in-Vector c =
    let p = c.requires in
    let u = known-below c.args.table.now _ p.0 in
    let fine = rw c.elements-row.ensures at c.in_ok-vector_told-in-Vector.ensures in
    let a = vector-alike _ _ _ _ p.2 u p.3 c.in-Vector.is _ c.word-third.ensures.0 _ c.word-third.ensures.1 fine in
    let on = vector_on _ _ _ _ p.2 u p.3 c.in-Vector.is _ c.word-third.ensures.0 _ fine in
    rw c.row_inside.ensures (row-found _ _ _ _ _ _ _ _ a (omega arith) on _ c.elements-row.ensures)

pub returns-in_err-vector_told-in-Vector : goal.returns-in_err-vector_told-in-Vector
returns-in_err-vector_told-in-Vector c =
    let p = c.requires in
    let u = known-below c.args.table.now _ p.0 in
    let stop = rw c.elements-row.ensures at c.in_err-vector_told-in-Vector.ensures in
    rw (handed _ _ c.from_residual.ensures.1) (vector_stop _ _ _ _ p.2 u p.3 c.in-Vector.is _ c.word-third.ensures.0 _ _ stop)

pub length-requires : goal.length-requires
length-requires c = omega (arith, element-below _ _ _ _ c.requires.2 (known-below c.args.table.now _ c.requires.0) c.requires.3, (known-below c.args.table.now _ c.requires.0).few)

pub elements-row-requires-in_default : goal.elements-row-requires-in_default
elements-row-requires-in_default c = (node_legal _ _ _ _ c.requires.2 (known-below c.args.table.now _ c.requires.0)).near

pub row_inside-requires-in_default : goal.row_inside-requires-in_default
row_inside-requires-in_default c =
    let p = c.requires in
    let u = known-below c.args.table.now _ p.0 in
    let many = c.in_ok-many-in_default.ensures in
    let a = list-alike _ _ _ _ p.2 u p.3 c.in_default.not-Vector _ c.word-third.ensures.0 _ c.length.ensures.0 _ _ many c.word-third.ensures.1 in
    (omega (arith, p.0, a.lower), rw c.elements-row-in_default.ensures (omega (arith, a.row.near)))

pub returns-in_ok-many-in_default : goal.returns-in_ok-many-in_default
returns-in_ok-many-in_default c =
    let p = c.requires in
    let u = known-below c.args.table.now _ p.0 in
    let many = c.in_ok-many-in_default.ensures in
    let a = list-alike _ _ _ _ p.2 u p.3 c.in_default.not-Vector _ c.word-third.ensures.0 _ c.length.ensures.0 _ _ many c.word-third.ensures.1 in
    let on = list_on _ _ _ _ p.2 u p.3 c.in_default.not-Vector _ c.word-third.ensures.0 _ c.length.ensures.0 _ _ many in
    rw c.row_inside-in_default.ensures (row-found _ _ _ _ _ _ _ _ a (omega arith) on _ c.elements-row-in_default.ensures)

pub returns-in_err-many-in_default : goal.returns-in_err-many-in_default
returns-in_err-many-in_default c =
    let p = c.requires in
    let u = known-below c.args.table.now _ p.0 in
    rw (handed _ _ c.from_residual-in_err-many-in_default.ensures.1)
    (list_stop _ _ _ _ p.2 u p.3 c.in_default.not-Vector _ c.word-third.ensures.0 _ c.length.ensures.0 _ _ c.in_err-many-in_default.ensures)
