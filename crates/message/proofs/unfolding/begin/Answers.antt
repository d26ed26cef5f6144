-- What is of fixed size is copied, a leaf is stored, and what is made of others begins with its count. Assumes nothing.
use Rattle.std.proofs.Common.{arith, sym, ◌∙◌}
use Rattle.message.proofs.Rows.{known-below, node_legal}
use Rattle.message.proofs.UnfoldLeaves.{bytes-room, bytes-filled}
use Rattle.message.proofs.Unfolds.{no_more, item-form, all-stored, leaf_variable, leaf_accepts, leaf-rooms, leaf-filled}
use Rattle.message.proofs.Unfolds.{parts-left, filling_last, list-below}
use Rattle.message.proofs.unfolding.begin.Goals as goal

pub length-requires : goal.length-requires
length-requires c = omega (arith, (known-below c.args.table.now _ c.requires.0).few)

pub put_bytes-end-requires : goal.put_bytes-end-requires
put_bytes-end-requires c =
    bytes-room _ _ _ (item-form _ _ _ (known-below c.args.table.now _ c.requires.0) _ c.requires.4 (rw c.length.ensures.0 at c.if-length-gt0.true)) _ _ _ c.requires.5

pub returns-then-length-gt0 : goal.returns-then-length-gt0
returns-then-length-gt0 c =
    all-stored _ _ _ (known-below c.args.table.now _ c.requires.0) _ _ _ _ _ _ _ _ _ _ c.nothing_left.ensures c.requires.5
    (bytes-filled _ _ _ (item-form _ _ _ (known-below c.args.table.now _ c.requires.0) _ c.requires.4 (rw c.length.ensures.0 at c.if-length-gt0.true)) _ _ _ _ _ c.put_bytes-end.ensures.0 c.put_bytes-end.ensures.1)

pub unfold_leaf-end-requires : goal.unfold_leaf-end-requires
unfold_leaf-end-requires c =
    let none = sym c.length.ensures.0 ∙ no_more _ c.if-length-gt0.false in (
      leaf_variable _ _ _ _ c.requires.2 (known-below c.args.table.now _ c.requires.0) _ c.requires.4 (sym c.is_leaf.ensures ∙ c.if-is_leaf.true) none,
      (node_legal _ _ _ _ c.requires.2 (known-below c.args.table.now _ c.requires.0)).small,
      c.requires.1,
      leaf_accepts _ _ _ _ c.requires.2 (known-below c.args.table.now _ c.requires.0) _ c.requires.4 (sym c.is_leaf.ensures ∙ c.if-is_leaf.true),
      leaf-rooms _ _ _ _ c.requires.2 (known-below c.args.table.now _ c.requires.0) _ c.requires.4 (sym c.is_leaf.ensures ∙ c.if-is_leaf.true) _ _ _ c.requires.5,
    )

pub returns-then-is_leaf : goal.returns-then-is_leaf
returns-then-is_leaf c =
    all-stored _ _ _ (known-below c.args.table.now _ c.requires.0) _ _ _ _ _ _ _ _ _ _ c.nothing_left-then-is_leaf.ensures c.requires.5
    (leaf-filled _ _ _ _ c.requires.2 (known-below c.args.table.now _ c.requires.0) _ c.requires.4 (sym c.is_leaf.ensures ∙ c.if-is_leaf.true) _ _ _ _ _ _ c.unfold_leaf-end.ensures)

pub fixed_elements-requires : goal.fixed_elements-requires
fixed_elements-requires c q = list-below _ _ _ _ c.requires.2 (known-below c.args.table.now _ c.requires.0) q

pub returns-then-fixed_elements : goal.returns-then-fixed_elements
returns-then-fixed_elements c =
    let q = c.fixed_elements.ensures c.if-fixed_elements.true in
    all-stored _ _ _ (known-below c.args.table.now _ c.requires.0) _ _ _ _ _ _ _ _ _ _ c.nothing_left-then-fixed_elements.ensures c.requires.5
    (filling_last
    (parts-left c.series_in-left.ensures (sym c.is_leaf.ensures ∙ c.if-is_leaf.false) c.requires.5 _ _ c.put_count-inside.ensures.0 c.put_count-inside.ensures.1) _ _ _
    (bytes-filled _ _ _ (c.series_in-left.ensures.copied q.0 q.1) _ _ _ _ _ c.put_bytes-end-then-fixed_elements.ensures.0
    c.put_bytes-end-then-fixed_elements.ensures.1))
