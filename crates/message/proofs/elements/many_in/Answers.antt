-- A vector's count stands in the table; a list that was accepted says how many it has. Assumes nothing.
use Rattle.std.proofs.Common.{◌+◌, arith}
use Rattle.standard.specs.Bytes.{word_at}
use Rattle.message.proofs.Rows.{known-below, node_legal}
use Rattle.message.proofs.Repeats.{element-below, element-head, third-there}
use Rattle.message.proofs.Manys.{many-elements}
use Rattle.message.proofs.elements.many_in.Goals as goal

pub overflow_add-n : goal.overflow_add-n
overflow_add-n c = omega (arith, (node_legal _ _ _ _ c.requires.1 (known-below c.args.table.now _ c.requires.0)).near)

pub word-requires : goal.word-requires
word-requires c = third-there _ _ _ _ c.requires.1 (known-below c.args.table.now _ c.requires.0) c.requires.2

pub length-requires : goal.length-requires
length-requires c = omega (arith, element-below _ _ _ _ c.requires.1 (known-below c.args.table.now _ c.requires.0) c.requires.2, (known-below c.args.table.now _ c.requires.0).few)

pub returns-in_default : goal.returns-in_default
returns-in_default c =
    let said = many-elements _ _ _ _ c.requires.1 (known-below c.args.table.now _ c.requires.0) c.requires.2 _ 0 c.requires.3 c.in_default.not-Vector in
    let limit = word_at c.args.table.now.layout.now (c.args.n.at + 2) in
    c.count_of.ensures limit _ (rw (c.length.ensures.0, element-head _ _ _ _ c.requires.1 (known-below c.args.table.now _ c.requires.0) c.requires.2) said)
