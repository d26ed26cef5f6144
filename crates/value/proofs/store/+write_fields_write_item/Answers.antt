-- Items and fields call each other; the type number falls. The loop over the fields keeps `Writing`. Assumes nothing.
use Rattle.std.proofs.Common.{◌∙◌, refl, sym, arith}
use Rattle.std.proofs.Math.Nat.{sub-zero, sub-add-eq}
use Rattle.message.proofs.Rows.{row-there, row_below, row_under, row-few}
use Rattle.value.proofs.Rows.{under-known}
use Rattle.value.proofs.Leaves.{part_need, part-done}
use Rattle.value.proofs.Fills.{item-own, writing-none, writing-upto, writing-there, writing-fixed}
use Rattle.value.proofs.Fills.{writing_offset, writing-room, writing-next, writing-end, fields_fit}
use Rattle.value.proofs.Plain.{below-asked, below_put}
use Rattle.value.proofs.Made.{laid-below, laid-row, row_ready, row-all, body_ready}
use Rattle.value.proofs.store.+write_fields_write_item.Goals as goal
use Rattle.value.proofs.store.+write_fields_write_item.Goals.{write_fields-then-is_leaf, write_fields-else-is_leaf}

pub write_fields-portion_of-own-requires : goal.write_fields-portion_of-own-requires
write_fields-portion_of-own-requires t c = (c.requires.row, omega (arith, fields_fit c.args.table.known c.requires refl), c.requires.offsets)

pub write_fields-overflow_add-q : goal.write_fields-overflow_add-q
write_fields-overflow_add-q t c = omega (arith, fields_fit c.args.table.known c.requires c.portion_of-own.ensures)

pub write_fields-loop-init : goal.write_fields-loop-init
write_fields-loop-init t c = rw sub-zero (writing-none c.args.table.known c.requires c.portion_of-own.ensures)

pub write_fields-word-f-requires : goal.write_fields-word-f-requires
write_fields-word-f-requires t c = row-there _ _ _ _ _ _ c.loop.invariant.row (omega arith)

pub write_fields-bounds-table-f : goal.write_fields-bounds-table-f
write_fields-bounds-table-f t c = row-few _ _ _ _ _ _ _ c.loop.invariant.row (omega arith) c.word-f.ensures.0

pub write_fields-put_part-s-requires : goal.write_fields-put_part-s-requires
write_fields-put_part-s-requires t c = writing-there c.loop.invariant (omega arith) c.word-f.ensures.0 refl c.if-k-gt0.true

pub write_fields-loop-preserved-then-k-gt0 : goal.write_fields-loop-preserved-then-k-gt0
write_fields-loop-preserved-then-k-gt0 t c =
    rw sub-add-eq (writing-fixed c.loop.invariant (omega arith) c.word-f.ensures.0 refl c.if-k-gt0.true c.put_part-s.ensures)

pub write_fields-put_offset-requires : goal.write_fields-put_offset-requires
write_fields-put_offset-requires t c = (writing_offset c.loop.invariant (omega arith) c.word-f.ensures.0 refl c.if-k-gt0.false).1

pub write_fields-look-n-requires : goal.write_fields-look-n-requires
write_fields-look-n-requires t c = omega (arith, c.requires.row.own, row_below _ _ _ _ _ _ _ c.loop.invariant.row (omega arith) c.word-f.ensures.0)

pub write_fields-put_leaf-s-requires : goal.write_fields-put_leaf-s-requires
write_fields-put_leaf-s-requires t c =
    below-asked _ _ _ c.look-n.ensures (sym c.is_leaf.ensures ∙ c.if-is_leaf.true) _ _ _ _ _ _ _
    (row_under _ _ _ _ _ _ _ c.loop.invariant.row (omega arith) c.word-f.ensures.0) c.if-k-gt0.false
    (writing-upto c.loop.invariant (omega arith) c.word-f.ensures.0)
    (writing-room c.loop.invariant (omega arith) c.word-f.ensures.0 refl c.if-k-gt0.false c.put_offset.ensures)

pub write_fields-write_item-s-requires : goal.write_fields-write_item-s-requires
write_fields-write_item-s-requires t c =
    let below = row_below _ _ _ _ _ _ _ c.loop.invariant.row (omega arith) c.word-f.ensures.0 in (
      omega (arith, below, c.decreases),
      (
        omega (arith, below, c.requires.row.own),
        writing-upto c.loop.invariant (omega arith) c.word-f.ensures.0,
        writing-room c.loop.invariant (omega arith) c.word-f.ensures.0 refl c.if-k-gt0.false c.put_offset.ensures,
      ),
    )

pub write_fields-loop-preserved : goal.write_fields-loop-preserved
write_fields-loop-preserved t c =
    rw sub-add-eq
    (writing-next c.loop.invariant (omega arith) c.word-f.ensures.0 refl c.if-k-gt0.false c.put_offset.ensures
    (elim c.if-is_leaf.branch [
      | write_fields-then-is_leaf w ↦
          rw (w.s-is, w.out-is) (below_put _ _ _ c.look-n.ensures (sym c.is_leaf.ensures ∙ w.if-is_leaf.true) _ _ _ _ _ _ _ _ w.put_leaf-s.ensures)
      | write_fields-else-is_leaf w ↦ rw (w.s-is, w.out-is) w.write_item-s.ensures
    ]))

pub write_fields-returns : goal.write_fields-returns
write_fields-returns t c = writing-end c.loop.invariant refl (omega arith)

pub write_item-put_part-requires : goal.write_item-put_part-requires
write_item-put_part-requires t c = part_need (item-own _ _ _ _ _ _ _ (under-known _ _ _ _ c.args.table.known c.requires.0) c.requires.1 c.if-own-gt0.true) c.requires.2

pub write_item-returns-then-own-gt0 : goal.write_item-returns-then-own-gt0
write_item-returns-then-own-gt0 t c = part-done (item-own _ _ _ _ _ _ _ (under-known _ _ _ _ c.args.table.known c.requires.0) c.requires.1 c.if-own-gt0.true) c.put_part.ensures

pub write_item-put_leaf-requires : goal.write_item-put_leaf-requires
write_item-put_leaf-requires t c =
    below-asked _ _ _ c.look-n.ensures (sym c.is_leaf.ensures ∙ c.if-is_leaf.true) _ _ _ _ _ _ _ (under-known _ _ _ _ c.args.table.known c.requires.0) c.if-own-gt0.false c.requires.1 c.requires.2

pub write_item-returns-then-is_leaf : goal.write_item-returns-then-is_leaf
write_item-returns-then-is_leaf t c = below_put _ _ _ c.look-n.ensures (sym c.is_leaf.ensures ∙ c.if-is_leaf.true) _ _ _ _ _ _ _ _ c.put_leaf.ensures

pub write_item-put_part-requires-then-all-gt0 : goal.write_item-put_part-requires-then-all-gt0
write_item-put_part-requires-then-all-gt0 t c =
    part_need
    (row-all _ _ _ _ _ _ _ c.in-Ok.ensures _ _ c.in-Row.is _ _ c.args.table.known c.requires.0 c.requires.1 _ c.if-all-gt0.true c.copied_bytes-all.ensures)
    c.requires.2

pub write_item-returns-then-all-gt0 : goal.write_item-returns-then-all-gt0
write_item-returns-then-all-gt0 t c =
    part-done
    (row-all _ _ _ _ _ _ _ c.in-Ok.ensures _ _ c.in-Row.is _ _ c.args.table.known c.requires.0 c.requires.1 _ c.if-all-gt0.true c.copied_bytes-all.ensures)
    c.put_part-then-all-gt0.ensures

pub write_item-write_item-requires : goal.write_item-write_item-requires
write_item-write_item-requires t c =
    let below = laid-below _ _ _ _ _ c.in-Ok.ensures _ c.in-Body.is in
    let ready = body_ready _ _ _ _ _ _ _ _ _ c.in-Ok.ensures _ c.in-Body.is _ _ c.put_selector-s.ensures c.requires.1 c.requires.2 in
    (omega (arith, below, c.decreases), (omega (arith, below), ready.0, ready.1))

pub write_item-copied_bytes-all-requires : goal.write_item-copied_bytes-all-requires
write_item-copied_bytes-all-requires t c =
    let r = laid-row _ _ _ _ _ c.in-Ok.ensures _ _ c.in-Row.is _ c.requires.0 in
    (r.0, r.2)

pub write_item-write_fields-requires : goal.write_item-write_fields-requires
write_item-write_fields-requires t c =
    let r = laid-row _ _ _ _ _ c.in-Ok.ensures _ _ c.in-Row.is _ c.requires.0 in (
      omega (arith, r.1, c.decreases),
      row_ready _ _ _ _ _ _ _ _ _ c.in-Ok.ensures _ _ c.in-Row.is _ c.requires.0 _ c.copied_bytes-all.ensures c.if-all-gt0.false c.requires.1
          c.requires.2,
    )
