-- Items and fields call each other; the type number falls. The loop over the fields keeps `Filling`. Assumes nothing.
use Rattle.std.proofs.Common.{◌≡◌, ℕ, List, Some, get_or, sym, ◌∙◌, arith, length-take, length-drop}
use Rattle.standard.specs.Types.{head, heads}
use Rattle.standard.specs.Parts.{span_of}
use Rattle.standard.specs.declared.Span.{Span}
use Rattle.layout.specs.Tree.{tree_of, head_of}
use Rattle.message.specs.Steps.{types_of, Next}
use Rattle.message.specs.Unfolding.{Filling}
use Rattle.message.specs.declared.parts.Series.{Series}
use Rattle.message.specs.declared.unfolding.Place.{Place}
use Rattle.message.proofs.Rows.{known-below, node_legal, next_few, next_below, next_under, next_row, head-ranges, span-said}
use Rattle.message.proofs.Bodies.{body_below}
use Rattle.message.proofs.Unfolds.{filled_then, rooms_then, words-filled, filling_lies, filling_accepts, filling_rooms, filling_next, filling_end}
use Rattle.message.proofs.Unfolds.{filling_last, own-fits, own_room, own-next, no_more, leaf_variable, leaf_accepts, leaf-rooms, leaf-filled}
use Rattle.message.proofs.Unfolds.{union-room, union-long, bare-filled, never, body-words, body_bytes, body_accepts}
use Rattle.message.proofs.unfolding.+unfold_fields_unfold_item.Goals as goal

pub unfold_fields-next-requires : goal.unfold_fields-next-requires
unfold_fields-next-requires t c = c.loop-f.invariant.row

pub unfold_fields-length-k-requires : goal.unfold_fields-length-k-requires
unfold_fields-length-k-requires t c = next_few _ _ _ _ _ c.loop-f.invariant.row c.in-Some.ensures

pub unfold_fields-overflow_add-to : goal.unfold_fields-overflow_add-to
unfold_fields-overflow_add-to t c =
    omega (arith, own-fits c.loop-f.invariant c.in-Some.ensures c.length-k.ensures.0 c.if-k-gt0.true, c.requires.1)

pub unfold_fields-slice_bounds-put_bytes-end : goal.unfold_fields-slice_bounds-put_bytes-end
unfold_fields-slice_bounds-put_bytes-end t c = own-fits c.loop-f.invariant c.in-Some.ensures c.length-k.ensures.0 c.if-k-gt0.true

pub unfold_fields-put_bytes-at-requires : goal.unfold_fields-put_bytes-at-requires
unfold_fields-put_bytes-at-requires t c = own_room c.loop-f.invariant c.in-Some.ensures c.length-k.ensures.0 c.if-k-gt0.true

pub unfold_fields-loop-f-preserved-then-k-gt0 : goal.unfold_fields-loop-f-preserved-then-k-gt0
unfold_fields-loop-f-preserved-then-k-gt0 t c =
    own-next c.loop-f.invariant c.in-Some.ensures c.length-k.ensures.0 c.if-k-gt0.true _ _ c.put_bytes-at.ensures.0 c.put_bytes-at.ensures.1

pub unfold_fields-locate-w-requires : goal.unfold_fields-locate-w-requires
unfold_fields-locate-w-requires t c =
    let row = c.loop-f.invariant.row in (
      next_row _ _ _ _ _ row c.in-Some.ensures,
      c.length-k.ensures.1,
      head-ranges _ _ _ _ _ row c.in-Some.ensures _ _ c.loop-f.invariant.ranges _ c.length-k.ensures.0,
    )

-- Where the field lies, which was located by its length.
said :
    {lens l : List ℕ} {t : ℕ} {b x y o₀ p₀ : List ℕ} {at₀ : Place} {o p : List ℕ} {at : Place} {r r' : Series} {q f : ℕ}
    (g : Filling lens l t b x y o₀ p₀ at₀ o p at r q) (i : Next l r (Some f) r') {k : ℕ} → k ≡ get_or lens f 0 → {w : Span}
    → w ≡ span_of (head_of k) (heads (types_of l r')) b q → w ≡ span_of (head (tree_of l f)) (heads (types_of l r')) b q
said g i q e = span-said _ _ _ _ _ g.row i _ _ g.ranges _ q _ e

pub unfold_fields-slice_bounds-field-count : goal.unfold_fields-slice_bounds-field-count
unfold_fields-slice_bounds-field-count t c =
    let span = said c.loop-f.invariant c.in-Some.ensures c.length-k.ensures.0 c.locate-w.ensures in
    (filling_lies c.loop-f.invariant c.in-Some.ensures span).0

pub unfold_fields-slice_bounds-field-start : goal.unfold_fields-slice_bounds-field-start
unfold_fields-slice_bounds-field-start t c =
    let span = said c.loop-f.invariant c.in-Some.ensures c.length-k.ensures.0 c.locate-w.ensures in
    (filling_lies c.loop-f.invariant c.in-Some.ensures span).0

pub unfold_fields-slice_bounds-field-end : goal.unfold_fields-slice_bounds-field-end
unfold_fields-slice_bounds-field-end t c =
    let span = said c.loop-f.invariant c.in-Some.ensures c.length-k.ensures.0 c.locate-w.ensures in
    (filling_lies c.loop-f.invariant c.in-Some.ensures span).1

pub unfold_fields-look-n-requires : goal.unfold_fields-look-n-requires
unfold_fields-look-n-requires t c =
    omega (arith, next_below _ _ _ _ _ c.loop-f.invariant.row c.in-Some.ensures, c.loop-f.invariant.below, c.requires.5)

pub unfold_fields-unfold_leaf-at-requires : goal.unfold_fields-unfold_leaf-at-requires
unfold_fields-unfold_leaf-at-requires t c =
    let span = said c.loop-f.invariant c.in-Some.ensures c.length-k.ensures.0 c.locate-w.ensures in
    let leaf = sym c.is_leaf.ensures ∙ c.if-is_leaf.true in
    let under = next_under _ _ _ _ _ c.loop-f.invariant.row c.in-Some.ensures in
    let accepts = filling_accepts c.loop-f.invariant c.in-Some.ensures span in (
      leaf_variable _ _ _ _ c.look-n.ensures under _ accepts leaf (sym c.length-k.ensures.0 ∙ no_more _ c.if-k-gt0.false),
      (node_legal _ _ _ _ c.look-n.ensures under).small,
      omega (arith, filling_lies c.loop-f.invariant c.in-Some.ensures span, c.requires.1),
      leaf_accepts _ _ _ _ c.look-n.ensures under _ accepts leaf,
      leaf-rooms _ _ _ _ c.look-n.ensures under _ accepts leaf _ _ _ (filling_rooms c.loop-f.invariant c.in-Some.ensures span),
    )

pub unfold_fields-unfold_item-at-requires : goal.unfold_fields-unfold_item-at-requires
unfold_fields-unfold_item-at-requires t c =
    let span = said c.loop-f.invariant c.in-Some.ensures c.length-k.ensures.0 c.locate-w.ensures in
    let lower = next_below _ _ _ _ _ c.loop-f.invariant.row c.in-Some.ensures in (
      omega (arith, lower, c.loop-f.invariant.below, c.decreases),
      (
        omega (arith, lower, c.loop-f.invariant.below, c.requires.5),
        omega (arith, filling_lies c.loop-f.invariant c.in-Some.ensures span, c.requires.1),
        filling_accepts c.loop-f.invariant c.in-Some.ensures span,
        filling_rooms c.loop-f.invariant c.in-Some.ensures span,
      ),
    )

pub unfold_fields-loop-f-preserved-then-is_leaf : goal.unfold_fields-loop-f-preserved-then-is_leaf
unfold_fields-loop-f-preserved-then-is_leaf t c =
    let span = said c.loop-f.invariant c.in-Some.ensures c.length-k.ensures.0 c.locate-w.ensures in
    let leaf = sym c.is_leaf.ensures ∙ c.if-is_leaf.true in
    let under = next_under _ _ _ _ _ c.loop-f.invariant.row c.in-Some.ensures in
    let accepts = filling_accepts c.loop-f.invariant c.in-Some.ensures span in
    filling_next c.loop-f.invariant c.in-Some.ensures span _ _ _
    (leaf-filled _ _ _ _ c.look-n.ensures under _ accepts leaf _ _ _ _ _ _ c.unfold_leaf-at.ensures)

pub unfold_fields-loop-f-preserved : goal.unfold_fields-loop-f-preserved
unfold_fields-loop-f-preserved t c =
    let span = said c.loop-f.invariant c.in-Some.ensures c.length-k.ensures.0 c.locate-w.ensures in
    filling_next c.loop-f.invariant c.in-Some.ensures span _ _ _ c.unfold_item-at.ensures

pub unfold_fields-returns : goal.unfold_fields-returns
unfold_fields-returns t c = filling_end c.loop-f.invariant c.in_default.ensures

pub unfold_item-select-requires : goal.unfold_item-select-requires
unfold_item-select-requires t c = (node_legal _ _ _ _ c.look-n.ensures (known-below c.args.table.now _ c.requires.0)).near

pub unfold_item-put_selector-requires : goal.unfold_item-put_selector-requires
unfold_item-put_selector-requires t c = (
  union-room _ _ _ _ c.look-n.ensures (known-below c.args.table.now _ c.requires.0) _ c.requires.2 c.in-Union.is _ _ _ c.requires.3,
  union-long _ _ _ _ c.look-n.ensures (known-below c.args.table.now _ c.requires.0) _ c.requires.2 c.in-Union.is,
)

pub unfold_item-put_selector-inside-requires : goal.unfold_item-put_selector-inside-requires
unfold_item-put_selector-inside-requires t c = (
  union-room _ _ _ _ c.look-n.ensures (known-below c.args.table.now _ c.requires.0) _ c.requires.2 c.in-Union.is _ _ _ c.requires.3,
  union-long _ _ _ _ c.look-n.ensures (known-below c.args.table.now _ c.requires.0) _ c.requires.2 c.in-Union.is,
)

pub unfold_item-slice_bounds-unfold_item-count : goal.unfold_item-slice_bounds-unfold_item-count
unfold_item-slice_bounds-unfold_item-count t c =
    let o = rw c.in-Ok-Some.field-0-is at c.in-Ok-Some.ensures in
    (body_below _ _ _ _ c.look-n.ensures (known-below c.args.table.now _ c.requires.0) c.in-Union.is _ _ o).1

pub unfold_item-slice_bounds-unfold_item-start : goal.unfold_item-slice_bounds-unfold_item-start
unfold_item-slice_bounds-unfold_item-start t c =
    let o = rw c.in-Ok-Some.field-0-is at c.in-Ok-Some.ensures in
    (body_below _ _ _ _ c.look-n.ensures (known-below c.args.table.now _ c.requires.0) c.in-Union.is _ _ o).1

pub unfold_item-unfold_item-requires : goal.unfold_item-unfold_item-requires
unfold_item-unfold_item-requires t c =
    let o = rw c.in-Ok-Some.field-0-is at c.in-Ok-Some.ensures in
    let z = body_below _ _ _ _ c.look-n.ensures (known-below c.args.table.now _ c.requires.0) c.in-Union.is _ _ o in (
      omega (arith, c.decreases, z),
      (
        omega (arith, z, c.requires.0),
        simp (length-take, length-drop) (omega (arith, c.requires.1, z)),
        body_accepts _ _ _ _ c.look-n.ensures (known-below c.args.table.now _ c.requires.0) _ c.requires.2 c.in-Union.is _ o,
        rooms_then _ _ _ _ _ _ _ _ _ _ _ _ c.requires.3
            (body-words _ _ _ _ c.look-n.ensures (known-below c.args.table.now _ c.requires.0) _ c.requires.2 c.in-Union.is _ o)
            (body_bytes _ _ _ _ c.look-n.ensures (known-below c.args.table.now _ c.requires.0) _ c.requires.2 c.in-Union.is _ o)
            (words-filled _ _ _ _ _ _ c.put_selector-inside.ensures.0 c.put_selector-inside.ensures.1),
      ),
    )

pub unfold_item-unfold_fields-requires : goal.unfold_item-unfold_fields-requires
unfold_item-unfold_fields-requires t c =
    let made = c.begin-s.ensures in
    (omega (arith, made.below, c.decreases), (made.row, c.requires.1, made.ranges, made.accepted, made.rooms, omega (arith, made.below, c.requires.0)))

pub unfold_item-returns-in-Ok-None : goal.unfold_item-returns-in-Ok-None
unfold_item-returns-in-Ok-None t c =
    let o = rw c.in-Ok-None.field-0-is at c.in-Ok-None.ensures in
    bare-filled _ _ _ _ c.look-n.ensures (known-below c.args.table.now _ c.requires.0) _ c.requires.2 c.in-Union.is o _ _ _ _ _ _
    (words-filled _ _ _ _ _ _ c.put_selector.ensures.0 c.put_selector.ensures.1)

pub unfold_item-returns-in-Ok-Some : goal.unfold_item-returns-in-Ok-Some
unfold_item-returns-in-Ok-Some t c =
    let o = rw c.in-Ok-Some.field-0-is at c.in-Ok-Some.ensures in
    filled_then _ _ _ _ _ _ _ _ _ _ _ _ _ _ _
    (words-filled _ _ _ _ _ _ c.put_selector-inside.ensures.0 c.put_selector-inside.ensures.1) c.unfold_item.ensures
    (body-words _ _ _ _ c.look-n.ensures (known-below c.args.table.now _ c.requires.0) _ c.requires.2 c.in-Union.is _ o)
    (body_bytes _ _ _ _ c.look-n.ensures (known-below c.args.table.now _ c.requires.0) _ c.requires.2 c.in-Union.is _ o)

pub unfold_item-returns-in-Err : goal.unfold_item-returns-in-Err
unfold_item-returns-in-Err t c = never _ _ _ _ c.look-n.ensures (known-below c.args.table.now _ c.requires.0) _ c.requires.2 c.in-Union.is _ c.in-Err.ensures

pub unfold_item-returns-in_default : goal.unfold_item-returns-in_default
unfold_item-returns-in_default t c = filling_last c.begin-s.ensures _ _ _ c.unfold_fields.ensures
