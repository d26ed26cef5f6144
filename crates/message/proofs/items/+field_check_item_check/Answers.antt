-- Each step of the loop is one of `Reading`, by where the field lies; an item goes by its kind. What is inside it was found before (`Found`).
-- Assumes nothing.
use Rattle.std.proofs.Common.{◌≡◌, ℕ, List, Some, get_or, refl, sym, ap, ◌∙◌, arith, length-take, length-drop}
use Rattle.standard.specs.Types.{Tys, head, heads}
use Rattle.standard.specs.Parts.{span_of}
use Rattle.standard.specs.declared.Span.{Span}
use Rattle.layout.specs.Tree.{tree_of, head_of}
use Rattle.message.specs.Steps.{types_of, Next}
use Rattle.message.specs.declared.Counts.{Counts}
use Rattle.message.specs.declared.parts.Series.{Series}
use Rattle.message.specs.Read.{one, and_then}
use Rattle.message.proofs.Answers.{handed}
use Rattle.message.proofs.Rows.{known-below, node_legal, next_few, next_below, next_row, head-ranges, span-said, under-below}
use Rattle.message.proofs.Bodies.{Reading, reading-new, reading_small, reading_span, reading-item, reading-next, reading_stop, reading-end}
use Rattle.message.proofs.Bodies.{plain_fits, plain-next, free_next}
use Rattle.message.proofs.Bodies.{item-small, small-more, leaf-told}
use Rattle.message.proofs.Bodies.{bare-read, wrong-read, body_below, body-read}
use Rattle.message.proofs.items.+field_check_item_check.Goals as goal

pub field_check-loop-f-init : goal.field_check-loop-f-init
field_check-loop-f-init t c =
    rw c.item-sum.ensures (reading-new _ _ _ _ _ _ c.requires.0 c.requires.1 c.requires.2 c.requires.3)

pub field_check-next-requires : goal.field_check-next-requires
field_check-next-requires t c = c.loop-f.invariant.row

pub field_check-kind-kind-requires : goal.field_check-kind-kind-requires
field_check-kind-kind-requires t c =
    omega (arith, next_below _ _ _ _ _ c.loop-f.invariant.row c.in-Some.ensures, c.loop-f.invariant.below, c.requires.4)

pub field_check-length-k-requires : goal.field_check-length-k-requires
field_check-length-k-requires t c = next_few _ _ _ _ _ c.loop-f.invariant.row c.in-Some.ensures

pub field_check-add-sum-requires : goal.field_check-add-sum-requires
field_check-add-sum-requires t c =
    (reading_small c.loop-f.invariant, rw c.item.ensures (record { records = omega arith; words = omega arith; bytes = omega (arith, c.length-k.ensures.1) }))

pub field_check-overflow_add-p : goal.field_check-overflow_add-p
field_check-overflow_add-p t c =
    let plain = rw c.kind-kind.ensures at (sym c.is_plain.ensures ∙ c.if-is_plain.true) in
    omega (arith, plain_fits c.loop-f.invariant c.in-Some.ensures refl plain c.length-k.ensures.0, c.requires.1)

pub field_check-loop-f-preserved-then-is_plain : goal.field_check-loop-f-preserved-then-is_plain
field_check-loop-f-preserved-then-is_plain t c =
    let plain = rw c.kind-kind.ensures at (sym c.is_plain.ensures ∙ c.if-is_plain.true) in
    rw (c.add-sum.ensures, c.item.ensures)
    (plain-next c.loop-f.invariant c.in-Some.ensures refl plain c.length-k.ensures.0 c.requires.1)

pub field_check-locate-w-requires : goal.field_check-locate-w-requires
field_check-locate-w-requires t c =
    let row = c.loop-f.invariant.row in (
      next_row _ _ _ _ _ row c.in-Some.ensures,
      c.length-k.ensures.1,
      head-ranges _ _ _ _ _ row c.in-Some.ensures _ _ c.loop-f.invariant.ranges _ c.length-k.ensures.0,
    )

-- Where the field lies, which was located by its length.
said :
    {lens l : List ℕ} {t : ℕ} {ts : Tys} {own : ℕ} {b : List ℕ} {s : ℕ} {sum : Counts} {r r' : Series} {p f : ℕ}
    (g : Reading lens l t ts own b s sum r p) (i : Next l r (Some f) r') {k : ℕ} → k ≡ get_or lens f 0 → {w : Span}
    → w ≡ span_of (head_of k) (heads (types_of l r')) b p → w ≡ span_of (head (tree_of l f)) (heads (types_of l r')) b p
said g i q e = span-said _ _ _ _ _ g.row i _ _ g.ranges _ q _ e

pub field_check-node-node-requires : goal.field_check-node-node-requires
field_check-node-node-requires t c =
    let lower = next_below _ _ _ _ _ c.loop-f.invariant.row c.in-Some.ensures in
    (omega (arith, lower, c.loop-f.invariant.below, c.requires.4), c.kind-kind.ensures)

pub field_check-overflow_sub-len : goal.field_check-overflow_sub-len
field_check-overflow_sub-len t c =
    let span = said c.loop-f.invariant c.in-Some.ensures c.length-k.ensures.0 c.locate-w.ensures in
    (reading_span c.loop-f.invariant c.in-Some.ensures span).0

pub field_check-add-sum-requires-then-is_within : goal.field_check-add-sum-requires-then-is_within
field_check-add-sum-requires-then-is_within t c =
    let span = said c.loop-f.invariant c.in-Some.ensures c.length-k.ensures.0 c.locate-w.ensures in
    let lies = reading_span c.loop-f.invariant c.in-Some.ensures span in
    let short = c.requires.1 in (
      reading_small c.loop-f.invariant,
      rw c.item-then-is_within.ensures (record { records = omega arith; words = omega arith; bytes = omega (arith, lies, short) }),
    )

pub field_check-loop-f-preserved-then-is_within : goal.field_check-loop-f-preserved-then-is_within
field_check-loop-f-preserved-then-is_within t c =
    let span = said c.loop-f.invariant c.in-Some.ensures c.length-k.ensures.0 c.locate-w.ensures in
    let free = c.is_within.ensures c.if-is_within.true in
    rw (c.add-sum-then-is_within.ensures, c.item-then-is_within.ensures)
    (free_next c.loop-f.invariant c.in-Some.ensures span c.node-node.ensures free.0 free.1 c.requires.1)

pub field_check-overflow_add-at : goal.field_check-overflow_add-at
field_check-overflow_add-at t c =
    let span = said c.loop-f.invariant c.in-Some.ensures c.length-k.ensures.0 c.locate-w.ensures in
    omega (arith, reading_span c.loop-f.invariant c.in-Some.ensures span, c.requires.1)

pub field_check-slice_bounds-field-count : goal.field_check-slice_bounds-field-count
field_check-slice_bounds-field-count t c =
    let span = said c.loop-f.invariant c.in-Some.ensures c.length-k.ensures.0 c.locate-w.ensures in
    (reading_span c.loop-f.invariant c.in-Some.ensures span).0

pub field_check-slice_bounds-field-start : goal.field_check-slice_bounds-field-start
field_check-slice_bounds-field-start t c =
    let span = said c.loop-f.invariant c.in-Some.ensures c.length-k.ensures.0 c.locate-w.ensures in
    (reading_span c.loop-f.invariant c.in-Some.ensures span).0

pub field_check-slice_bounds-field-end : goal.field_check-slice_bounds-field-end
field_check-slice_bounds-field-end t c =
    let span = said c.loop-f.invariant c.in-Some.ensures c.length-k.ensures.0 c.locate-w.ensures in
    (reading_span c.loop-f.invariant c.in-Some.ensures span).1

pub field_check-add-sum-requires-in-Ok : goal.field_check-add-sum-requires-in-Ok
field_check-add-sum-requires-in-Ok t c =
    let span = said c.loop-f.invariant c.in-Some.ensures c.length-k.ensures.0 c.locate-w.ensures in
    let says = leaf-told _ _ _ c.node-node.ensures (rw (c.node-node.ensures, ← c.kind-kind.ensures) (sym c.is_leaf.ensures ∙ c.if-is_leaf.true)) _ _ _ c.in-Ok.is c.leaf_check.ensures in
    let counts = reading-item c.loop-f.invariant c.in-Some.ensures span _ c.requires.1 (says _) in
    (reading_small c.loop-f.invariant, rw c.item-in-Ok.ensures (small-more _ counts))

pub field_check-returns-in-Err : goal.field_check-returns-in-Err
field_check-returns-in-Err t c =
    let span = said c.loop-f.invariant c.in-Some.ensures c.length-k.ensures.0 c.locate-w.ensures in
    let says = leaf-told _ _ _ c.node-node.ensures (rw (c.node-node.ensures, ← c.kind-kind.ensures) (sym c.is_leaf.ensures ∙ c.if-is_leaf.true)) _ _ _ c.in-Err.is c.leaf_check.ensures in
    rw c.located.ensures (reading_stop c.loop-f.invariant c.in-Some.ensures span _ (says _))

pub field_check-loop-f-preserved-then-is_leaf : goal.field_check-loop-f-preserved-then-is_leaf
field_check-loop-f-preserved-then-is_leaf t c =
    let span = said c.loop-f.invariant c.in-Some.ensures c.length-k.ensures.0 c.locate-w.ensures in
    let says = leaf-told _ _ _ c.node-node.ensures (rw (c.node-node.ensures, ← c.kind-kind.ensures) (sym c.is_leaf.ensures ∙ c.if-is_leaf.true)) _ _ _ c.in-Ok.is c.leaf_check.ensures in
    rw (c.add-sum-in-Ok.ensures, c.item-in-Ok.ensures) (reading-next c.loop-f.invariant c.in-Some.ensures span _ c.requires.1 (says _))

pub field_check-item_check-requires : goal.field_check-item_check-requires
field_check-item_check-requires t c =
    let span = said c.loop-f.invariant c.in-Some.ensures c.length-k.ensures.0 c.locate-w.ensures in
    let lies = reading_span c.loop-f.invariant c.in-Some.ensures span in
    let lower = next_below _ _ _ _ _ c.loop-f.invariant.row c.in-Some.ensures in
    (omega (arith, lower, c.loop-f.invariant.below, c.decreases), (omega (arith, lower, c.loop-f.invariant.below, c.requires.4), omega (arith, lies, c.requires.1)))

pub field_check-add-sum-requires-in-Some : goal.field_check-add-sum-requires-in-Some
field_check-add-sum-requires-in-Some t c =
    let span = said c.loop-f.invariant c.in-Some.ensures c.length-k.ensures.0 c.locate-w.ensures in
    let counts = reading-item c.loop-f.invariant c.in-Some.ensures span _ c.requires.1 c.in_ok-item_check.ensures in
    (reading_small c.loop-f.invariant, small-more _ counts)

pub field_check-loop-f-preserved : goal.field_check-loop-f-preserved
field_check-loop-f-preserved t c =
    let span = said c.loop-f.invariant c.in-Some.ensures c.length-k.ensures.0 c.locate-w.ensures in
    rw c.add-sum-in-Some.ensures (reading-next c.loop-f.invariant c.in-Some.ensures span _ c.requires.1 c.in_ok-item_check.ensures)

pub field_check-returns-in_err-item_check : goal.field_check-returns-in_err-item_check
field_check-returns-in_err-item_check t c =
    let span = said c.loop-f.invariant c.in-Some.ensures c.length-k.ensures.0 c.locate-w.ensures in
    rw (handed _ _ c.from_residual.ensures.1) (reading_stop c.loop-f.invariant c.in-Some.ensures span _ c.in_err-item_check.ensures)

pub field_check-returns : goal.field_check-returns
field_check-returns t c = reading-end c.loop-f.invariant c.in_default.ensures

pub item_check-returns-in-Ok : goal.item_check-returns-in-Ok
item_check-returns-in-Ok t c =
    rw c.item.ensures
    (leaf-told _ _ _ c.look-n.ensures (sym c.is_leaf.ensures ∙ c.if-is_leaf.true) _ _ _ c.in-Ok.is c.leaf_check.ensures c.args.start)

pub item_check-returns-in-Err : goal.item_check-returns-in-Err
item_check-returns-in-Err t c =
    rw c.located.ensures
    (leaf-told _ _ _ c.look-n.ensures (sym c.is_leaf.ensures ∙ c.if-is_leaf.true) _ _ _ c.in-Err.is c.leaf_check.ensures c.args.start)

pub item_check-select-requires : goal.item_check-select-requires
item_check-select-requires t c = (node_legal _ _ _ _ c.look-n.ensures (known-below c.args.table.now _ c.requires.0)).near

pub item_check-slice_bounds-item_check-count : goal.item_check-slice_bounds-item_check-count
item_check-slice_bounds-item_check-count t c =
    let o = rw c.in-Ok-Some.field-0-is at c.in-Ok-Some.ensures in
    (body_below _ _ _ _ c.look-n.ensures (known-below c.args.table.now _ c.requires.0) c.in-Union.is _ _ o).1

pub item_check-slice_bounds-item_check-start : goal.item_check-slice_bounds-item_check-start
item_check-slice_bounds-item_check-start t c =
    let o = rw c.in-Ok-Some.field-0-is at c.in-Ok-Some.ensures in
    (body_below _ _ _ _ c.look-n.ensures (known-below c.args.table.now _ c.requires.0) c.in-Union.is _ _ o).1

pub item_check-item_check-requires : goal.item_check-item_check-requires
item_check-item_check-requires t c =
    let o = rw c.in-Ok-Some.field-0-is at c.in-Ok-Some.ensures in
    let z = body_below _ _ _ _ c.look-n.ensures (known-below c.args.table.now _ c.requires.0) c.in-Union.is _ _ o in (
      omega (arith, c.decreases, z),
      (omega (arith, z, c.requires.0), simp (length-take, length-drop) (omega (arith, c.requires.1, z))),
    )

pub item_check-add-requires : goal.item_check-add-requires
item_check-add-requires t c =
    let o = rw c.in-Ok-Some.field-0-is at c.in-Ok-Some.ensures in
    let z = body_below _ _ _ _ c.look-n.ensures (known-below c.args.table.now _ c.requires.0) c.in-Union.is _ _ o in
    let small =
    item-small _ _ _ _ _ _ (under-below _ _ _ _ (omega (arith, z)) (known-below c.args.table.now _ c.requires.0))
    (simp (length-take, length-drop) (omega (arith, c.requires.1, z))) c.in_ok-body-in-Ok-Some.ensures in (
      rw c.item-in-Ok-Some.ensures (record { records = omega arith; words = omega arith; bytes = omega arith }),
      small-more _ small,
    )

pub item_check-returns-in-Ok-None : goal.item_check-returns-in-Ok-None
item_check-returns-in-Ok-None t c =
    let o = rw c.in-Ok-None.field-0-is at c.in-Ok-None.ensures in
    rw c.item-in-Ok-None.ensures (bare-read _ _ _ _ c.look-n.ensures (known-below c.args.table.now _ c.requires.0) c.in-Union.is _ c.args.start o)

pub item_check-returns-in_ok-body-in-Ok-Some : goal.item_check-returns-in_ok-body-in-Ok-Some
item_check-returns-in_ok-body-in-Ok-Some t c =
    let o = rw c.in-Ok-Some.field-0-is at c.in-Ok-Some.ensures in
    rw (c.add.ensures, c.item-in-Ok-Some.ensures)
    (ap (and_then (one 1 0)) c.in_ok-body-in-Ok-Some.ensures ∙ body-read _ _ _ _ c.look-n.ensures (known-below c.args.table.now _ c.requires.0) c.in-Union.is _ _ o c.args.start)

pub item_check-returns-in_err-body-in-Ok-Some : goal.item_check-returns-in_err-body-in-Ok-Some
item_check-returns-in_err-body-in-Ok-Some t c =
    let o = rw c.in-Ok-Some.field-0-is at c.in-Ok-Some.ensures in
    rw (handed _ _ c.from_residual.ensures.1)
    (ap (and_then (one 1 0)) c.in_err-body-in-Ok-Some.ensures ∙ body-read _ _ _ _ c.look-n.ensures (known-below c.args.table.now _ c.requires.0) c.in-Union.is _ _ o c.args.start)

pub item_check-returns-in-Err-select : goal.item_check-returns-in-Err-select
item_check-returns-in-Err-select t c =
    rw c.located-in-Err-select.ensures
    (wrong-read _ _ _ _ c.look-n.ensures (known-below c.args.table.now _ c.requires.0) c.in-Union.is _ c.args.start _ c.in-Err-select.ensures)
