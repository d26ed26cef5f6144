-- Items and fields call each other; the type number falls. The loop over the fields keeps `Storing`. Assumes nothing.
use Rattle.std.proofs.Common.{◌≡◌, ℕ, List, Some, get_or, refl, sym, ◌∙◌, arith, length-take, length-drop}
use Rattle.standard.specs.Types.{Tys, head, heads}
use Rattle.standard.specs.Parts.{span_of}
use Rattle.standard.specs.declared.Span.{Span}
use Rattle.standard.proofs.Store.{stored_then, room_then}
use Rattle.layout.specs.Tree.{tree_of, head_of}
use Rattle.message.specs.Steps.{types_of, Next}
use Rattle.message.specs.declared.parts.Series.{Series}
use Rattle.message.proofs.Rows.{known-below, node_legal, next_few, next_below, next_row, head-ranges, span-said}
use Rattle.message.proofs.Bodies.{body_below}
use Rattle.message.proofs.Entries.{Storing, storing_lies, storing_accepted, storing_room, storing_next, storing_end, room-long}
use Rattle.message.proofs.Entries.{leaf-stored, accepted-start, union-bare, union-body, union-never, body-accepted}
use Rattle.message.proofs.listing.+list_fields_list_item.Goals as goal

pub list_fields-next-requires : goal.list_fields-next-requires
list_fields-next-requires t c = c.loop-f.invariant.row

pub list_fields-length-requires : goal.list_fields-length-requires
list_fields-length-requires t c = next_few _ _ _ _ _ c.loop-f.invariant.row c.in-Some.ensures

pub list_fields-locate-w-requires : goal.list_fields-locate-w-requires
list_fields-locate-w-requires t c =
    let row = c.loop-f.invariant.row in (
      next_row _ _ _ _ _ row c.in-Some.ensures,
      c.length.ensures.1,
      head-ranges _ _ _ _ _ row c.in-Some.ensures _ _ c.loop-f.invariant.ranges _ c.length.ensures.0,
    )

-- Where the field lies, which was located by its length.
said :
    {lens l : List ℕ} {t : ℕ} {ts : Tys} {b : List ℕ} {s : ℕ} {o₀ : List ℕ} {at₀ : ℕ} {o : List ℕ} {at : ℕ} {r r' : Series} {p f : ℕ}
    (g : Storing lens l t ts b s o₀ at₀ o at r p) (i : Next l r (Some f) r') {k : ℕ} → k ≡ get_or lens f 0 → {w : Span}
    → w ≡ span_of (head_of k) (heads (types_of l r')) b p → w ≡ span_of (head (tree_of l f)) (heads (types_of l r')) b p
said g i q e = span-said _ _ _ _ _ g.row i _ _ g.ranges _ q _ e

pub list_fields-slice_bounds-field-count : goal.list_fields-slice_bounds-field-count
list_fields-slice_bounds-field-count t c =
    let span = said c.loop-f.invariant c.in-Some.ensures c.length.ensures.0 c.locate-w.ensures in
    (storing_lies c.loop-f.invariant c.in-Some.ensures span).0

pub list_fields-slice_bounds-field-start : goal.list_fields-slice_bounds-field-start
list_fields-slice_bounds-field-start t c =
    let span = said c.loop-f.invariant c.in-Some.ensures c.length.ensures.0 c.locate-w.ensures in
    (storing_lies c.loop-f.invariant c.in-Some.ensures span).0

pub list_fields-slice_bounds-field-end : goal.list_fields-slice_bounds-field-end
list_fields-slice_bounds-field-end t c =
    let span = said c.loop-f.invariant c.in-Some.ensures c.length.ensures.0 c.locate-w.ensures in
    (storing_lies c.loop-f.invariant c.in-Some.ensures span).1

pub list_fields-overflow_add-place : goal.list_fields-overflow_add-place
list_fields-overflow_add-place t c =
    let span = said c.loop-f.invariant c.in-Some.ensures c.length.ensures.0 c.locate-w.ensures in
    omega (arith, storing_lies c.loop-f.invariant c.in-Some.ensures span, c.requires.1)

pub list_fields-kind-requires : goal.list_fields-kind-requires
list_fields-kind-requires t c =
    omega (arith, next_below _ _ _ _ _ c.loop-f.invariant.row c.in-Some.ensures, c.loop-f.invariant.below, c.requires.5)

pub list_fields-put_entry-requires : goal.list_fields-put_entry-requires
list_fields-put_entry-requires t c =
    let span = said c.loop-f.invariant c.in-Some.ensures c.length.ensures.0 c.locate-w.ensures in (
      room-long _ _ _ _ _ (storing_room c.loop-f.invariant c.in-Some.ensures span),
      next_few _ _ _ _ _ c.loop-f.invariant.row c.in-Some.ensures,
      omega (arith, storing_lies c.loop-f.invariant c.in-Some.ensures span, c.requires.1),
    )

pub list_fields-loop-f-preserved-then-is_leaf : goal.list_fields-loop-f-preserved-then-is_leaf
list_fields-loop-f-preserved-then-is_leaf t c =
    let span = said c.loop-f.invariant c.in-Some.ensures c.length.ensures.0 c.locate-w.ensures in
    storing_next c.loop-f.invariant c.in-Some.ensures span _ _
    (leaf-stored _ _ _ refl (rw c.kind.ensures at (sym c.is_leaf.ensures ∙ c.if-is_leaf.true)) _ _ _ _ _ _ c.put_entry.ensures)

pub list_fields-list_item-at-requires : goal.list_fields-list_item-at-requires
list_fields-list_item-at-requires t c =
    let span = said c.loop-f.invariant c.in-Some.ensures c.length.ensures.0 c.locate-w.ensures in
    let lower = next_below _ _ _ _ _ c.loop-f.invariant.row c.in-Some.ensures in (
      omega (arith, lower, c.loop-f.invariant.below, c.decreases),
      (
        omega (arith, lower, c.loop-f.invariant.below, c.requires.5),
        omega (arith, storing_lies c.loop-f.invariant c.in-Some.ensures span, c.requires.1),
        storing_accepted c.loop-f.invariant c.in-Some.ensures span,
        storing_room c.loop-f.invariant c.in-Some.ensures span,
      ),
    )

pub list_fields-loop-f-preserved : goal.list_fields-loop-f-preserved
list_fields-loop-f-preserved t c =
    let span = said c.loop-f.invariant c.in-Some.ensures c.length.ensures.0 c.locate-w.ensures in
    storing_next c.loop-f.invariant c.in-Some.ensures span _ _ c.list_item-at.ensures

pub list_fields-returns : goal.list_fields-returns
list_fields-returns t c = storing_end c.loop-f.invariant c.in_default.ensures

pub list_item-put_entry-requires : goal.list_item-put_entry-requires
list_item-put_entry-requires t c = (room-long _ _ _ _ _ c.requires.3, omega (arith, (known-below c.args.table.now _ c.requires.0).few), c.requires.1)

pub list_item-select-requires : goal.list_item-select-requires
list_item-select-requires t c = (node_legal _ _ _ _ c.look-n.ensures (known-below c.args.table.now _ c.requires.0)).near

pub list_item-slice_bounds-list_item-count : goal.list_item-slice_bounds-list_item-count
list_item-slice_bounds-list_item-count t c =
    let o = rw c.in-Ok-Some.field-0-is at c.in-Ok-Some.ensures in
    (body_below _ _ _ _ c.look-n.ensures (known-below c.args.table.now _ c.requires.0) c.in-Union.is _ _ o).1

pub list_item-slice_bounds-list_item-start : goal.list_item-slice_bounds-list_item-start
list_item-slice_bounds-list_item-start t c =
    let o = rw c.in-Ok-Some.field-0-is at c.in-Ok-Some.ensures in
    (body_below _ _ _ _ c.look-n.ensures (known-below c.args.table.now _ c.requires.0) c.in-Union.is _ _ o).1

pub list_item-list_item-requires : goal.list_item-list_item-requires
list_item-list_item-requires t c =
    let o = rw c.in-Ok-Some.field-0-is at c.in-Ok-Some.ensures in
    let z = body_below _ _ _ _ c.look-n.ensures (known-below c.args.table.now _ c.requires.0) c.in-Union.is _ _ o in (
      omega (arith, c.decreases, z),
      (
        omega (arith, z, c.requires.0),
        simp (length-take, length-drop) (omega (arith, c.requires.1, z)),
        body-accepted _ _ _ _ c.look-n.ensures (known-below c.args.table.now _ c.requires.0) _ _ c.requires.2 c.in-Union.is _ o,
        room_then _ _ _ _ _ _ _ c.requires.3
            (union-body _ _ _ _ c.look-n.ensures (known-below c.args.table.now _ c.requires.0) _ _ c.requires.2 c.in-Union.is _ o) c.put_entry.ensures,
      ),
    )

pub list_item-series_in-row-requires : goal.list_item-series_in-row-requires
list_item-series_in-row-requires t c =
    (c.requires.0, omega (arith, c.requires.1), c.look-n.ensures, c.in_default.not-Union, accepted-start _ _ _ 0 c.requires.2)

pub list_item-list_fields-requires : goal.list_item-list_fields-requires
list_item-list_fields-requires t c =
    let made = c.series_in-row.ensures in (
      omega (arith, made.below, c.decreases),
      (
        made.row,
        c.requires.1,
        made.ranges,
        made.accepted _,
        room_then _ _ _ _ _ _ _ c.requires.3 (made.listed _) c.put_entry.ensures,
        omega (arith, made.below, c.requires.0),
      ),
    )

pub list_item-returns-in-Ok-None : goal.list_item-returns-in-Ok-None
list_item-returns-in-Ok-None t c =
    let o = rw c.in-Ok-None.field-0-is at c.in-Ok-None.ensures in
    rw (union-bare _ _ _ _ c.look-n.ensures (known-below c.args.table.now _ c.requires.0) _ _ c.requires.2 c.in-Union.is o) c.put_entry.ensures

pub list_item-returns-in-Ok-Some : goal.list_item-returns-in-Ok-Some
list_item-returns-in-Ok-Some t c =
    let o = rw c.in-Ok-Some.field-0-is at c.in-Ok-Some.ensures in
    stored_then _ _ _ _ _ _ _ _ _ c.put_entry.ensures c.list_item.ensures
    (union-body _ _ _ _ c.look-n.ensures (known-below c.args.table.now _ c.requires.0) _ _ c.requires.2 c.in-Union.is _ o)

pub list_item-returns-in-Err : goal.list_item-returns-in-Err
list_item-returns-in-Err t c = union-never _ _ _ _ c.look-n.ensures (known-below c.args.table.now _ c.requires.0) _ _ c.requires.2 c.in-Union.is _ c.in-Err.ensures

pub list_item-returns-in_default : goal.list_item-returns-in_default
list_item-returns-in_default t c =
    stored_then _ _ _ _ _ _ _ _ _ c.put_entry.ensures c.list_fields.ensures (c.series_in-row.ensures.listed _)
