-- Items and fields call each other; the type number falls. The loop over the fields keeps `Measuring`. Assumes nothing.
use Rattle.std.proofs.Common.{◌∙◌, sym, refl, arith}
use Rattle.std.proofs.lemmas.Result.{err_from_is_err_and}
use Rattle.std.proofs.Math.Nat.{sub-zero, sub-add-eq}
use Rattle.message.proofs.Rows.{row-there, row_below, row-few}
use Rattle.value.proofs.Rows.{row-known, measuring_none, measuring_next, measuring_stop, measuring_end}
use Rattle.value.proofs.Plain.{below-measured, plain-field, measuring_plain, measuring_short}
use Rattle.value.proofs.Made.{plain-measured}
use Rattle.value.proofs.measure.+measure_fields_measure_item.Goals as goal
use Rattle.value.proofs.measure.+measure_fields_measure_item.Goals.{measure_fields-then-is_leaf, measure_fields-else-is_leaf}

pub measure_fields-loop-init : goal.measure_fields-loop-init
measure_fields-loop-init t c = rw sub-zero (measuring_none _ _ _ _ _ _ _ _ _ _ (row-known _ _ _ _ c.args.table.known c.requires))

pub measure_fields-word-f-requires : goal.measure_fields-word-f-requires
measure_fields-word-f-requires t c = row-there _ _ _ _ _ _ c.loop.invariant.row (omega arith)

pub measure_fields-kind-requires : goal.measure_fields-kind-requires
measure_fields-kind-requires t c = omega (arith, c.requires.own, row_below _ _ _ _ _ _ _ c.loop.invariant.row (omega arith) c.word-f.ensures.0)

pub measure_fields-look-n-requires : goal.measure_fields-look-n-requires
measure_fields-look-n-requires t c = omega (arith, c.requires.own, row_below _ _ _ _ _ _ _ c.loop.invariant.row (omega arith) c.word-f.ensures.0)

pub measure_fields-bounds-table-f : goal.measure_fields-bounds-table-f
measure_fields-bounds-table-f t c = row-few _ _ _ _ _ _ _ c.loop.invariant.row (omega arith) c.word-f.ensures.0

pub measure_fields-returns-then-not-has : goal.measure_fields-returns-then-not-has
measure_fields-returns-then-not-has t c =
    rw c.short.ensures
    (measuring_short _ _ _ _ _ _ _ _ _ _ _ _ _ _ _ _ c.loop.invariant (omega arith) c.word-f.ensures.0 _ refl
    (plain-field _ _ _ _ _ _ _ c.loop.invariant.row (omega arith) c.word-f.ensures.0 _ refl _ c.kind.ensures
    (sym c.is_plain.ensures ∙ c.if-is_plain.true)) (sym c.has.ensures ∙ c.if-not-has.true))

pub measure_fields-loop-preserved-then-is_plain : goal.measure_fields-loop-preserved-then-is_plain
measure_fields-loop-preserved-then-is_plain t c =
    rw (c.add-len.ensures, sub-add-eq)
    (measuring_plain _ _ _ _ _ _ _ _ _ _ _ _ _ _ _ _ c.loop.invariant (omega arith) c.word-f.ensures.0 _ refl
    (plain-field _ _ _ _ _ _ _ c.loop.invariant.row (omega arith) c.word-f.ensures.0 _ refl _ c.kind.ensures
    (sym c.is_plain.ensures ∙ c.if-is_plain.true)) (sym c.has.ensures ∙ c.if-not-has.false))

pub measure_fields-measure_item-r-requires : goal.measure_fields-measure_item-r-requires
measure_fields-measure_item-r-requires t c =
    let below = row_below _ _ _ _ _ _ _ c.loop.invariant.row (omega arith) c.word-f.ensures.0 in
    (omega (arith, below, c.decreases), omega (arith, below, c.requires.own))

pub measure_fields-loop-preserved : goal.measure_fields-loop-preserved
measure_fields-loop-preserved t c =
    elim c.if-is_leaf.branch [
      | measure_fields-then-is_leaf w ↦
          rw (c.add-len-in-loop.ensures, sub-add-eq)
          (measuring_next _ _ _ _ _ _ _ _ _ _ _ _ _ _ _ _ c.loop.invariant (omega arith) c.word-f.ensures.0 _
          (sym c.in_ok-m.was ∙ w.r-is ∙ below-measured _ _ _ c.look-n.ensures (sym c.is_leaf.ensures ∙ w.if-is_leaf.true) _ _ _ _ _ w.measure_leaf-r.ensures) _ refl _
          c.with_offset.ensures)
      | measure_fields-else-is_leaf w ↦
          rw (c.add-len-in-loop.ensures, sub-add-eq)
          (measuring_next _ _ _ _ _ _ _ _ _ _ _ _ _ _ _ _ c.loop.invariant (omega arith) c.word-f.ensures.0 _
          (sym c.in_ok-m.was ∙ w.r-is ∙ w.measure_item-r.ensures) _ refl _ c.with_offset.ensures)
    ]

pub measure_fields-returns-in_err-m : goal.measure_fields-returns-in_err-m
measure_fields-returns-in_err-m t c =
    let p = err_from_is_err_and c.from_residual.result c.from_residual.ensures.1 in
    rw (p.1, p.2)
    (measuring_stop _ _ _ _ _ _ _ _ _ _ _ _ _ _ _ _ c.loop.invariant (omega arith) c.word-f.ensures.0 _
    (sym c.in_err-m.was ∙ elim c.if-is_leaf.branch [
      | measure_fields-then-is_leaf w ↦ w.r-is ∙ below-measured _ _ _ c.look-n.ensures (sym c.is_leaf.ensures ∙ w.if-is_leaf.true) _ _ _ _ _ w.measure_leaf-r.ensures
      | measure_fields-else-is_leaf w ↦ w.r-is ∙ w.measure_item-r.ensures
    ]))

pub measure_fields-returns : goal.measure_fields-returns
measure_fields-returns t c = measuring_end _ _ _ _ _ _ _ _ _ _ _ _ _ _ _ c.loop.invariant (omega arith)

pub measure_item-returns-then-is_leaf : goal.measure_item-returns-then-is_leaf
measure_item-returns-then-is_leaf t c = below-measured _ _ _ c.look-n.ensures (sym c.is_leaf.ensures ∙ c.if-is_leaf.true) _ _ _ _ _ c.measure_leaf.ensures

pub measure_item-returns-then-all-gt0 : goal.measure_item-returns-then-all-gt0
measure_item-returns-then-all-gt0 t c =
    plain-measured _ _ _ _ _ _ _ c.in_ok-members.ensures _ _ c.in-Row.is _ (c.plain_bytes-all.ensures c.if-all-gt0.true) _
    c.measure_exact.ensures
