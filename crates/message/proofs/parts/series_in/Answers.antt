-- By the kind. Assumes nothing.
use Rattle.std.proofs.Common.{sym, ◌∙◌}
use Rattle.message.proofs.Rows.{known-below, node_legal}
use Rattle.message.proofs.Manys.{several}
use Rattle.message.proofs.Series.{no-items-made, fields_made, elements-made}
use Rattle.message.proofs.parts.series_in.Goals as goal

pub returns-then-is_leaf : goal.returns-then-is_leaf
returns-then-is_leaf c =
    no-items-made _ _ _ _ c.requires.2 (known-below c.args.table.now _ c.requires.0) _ c.requires.4 (sym c.is_leaf.ensures ∙ c.if-is_leaf.true) _ c.none.ensures

pub fields-requires : goal.fields-requires
fields-requires c = (node_legal _ _ _ _ c.requires.2 (known-below c.args.table.now _ c.requires.0)).near

pub returns-in-Container : goal.returns-in-Container
returns-in-Container c = fields_made _ _ _ _ c.requires.2 (known-below c.args.table.now _ c.requires.0) _ c.requires.4 c.in-Container.is _ c.fields.ensures

pub many_in-requires : goal.many_in-requires
many_in-requires c =
    let k = several _ (sym c.is_leaf.ensures ∙ c.if-is_leaf.false) c.in_default.not-Container c.requires.3 in
    (c.requires.0, c.requires.2, k, c.requires.4)

pub elements-requires : goal.elements-requires
elements-requires c = (node_legal _ _ _ _ c.requires.2 (known-below c.args.table.now _ c.requires.0)).near

pub returns-in_default : goal.returns-in_default
returns-in_default c =
    let k = several _ (sym c.is_leaf.ensures ∙ c.if-is_leaf.false) c.in_default.not-Container c.requires.3 in
    elements-made _ _ _ _ c.requires.2 (known-below c.args.table.now _ c.requires.0) _ c.requires.4 k _ c.many_in.ensures c.requires.1 _ c.elements.ensures
