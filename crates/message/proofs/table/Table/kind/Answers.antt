-- Two words of the table, of which the second is a kind word. Assumes nothing.
use Rattle.std.proofs.Common.{arith, refl}
use Rattle.layout.specs.Tree.{node_of}
use Rattle.layout.specs.Table.{count}
use Rattle.layout.proofs.Facts.{legal_node, legal-words}
use Rattle.message.proofs.Rows.{known-below}
use Rattle.message.proofs.table.Table.kind.Goals as goal

pub overflow_add-t : goal.overflow_add-t
unfolding count
overflow_add-t c = omega (arith, legal-words _ _ (known-below c.args.self.now _ c.requires).legal)

pub word-at-requires : goal.word-at-requires
word-at-requires c = (legal-words _ _ (known-below c.args.self.now _ c.requires).legal).0

pub word-requires : goal.word-requires
word-requires c = rw c.word-at.ensures.0 (legal-words _ _ (known-below c.args.self.now _ c.requires).legal).1

pub unwrap-requires : goal.unwrap-requires
unfolding node_of
unwrap-requires c =
    let g = (legal_node _ _ _ refl (known-below c.args.self.now _ c.requires).legal).known in
    rw (c.of.ensures, c.word.ensures.0, c.word-at.ensures.0, g)

pub returns : goal.returns
unfolding node_of
returns c = rw (← c.word-at.ensures.0, ← c.word.ensures.0, ← c.of.ensures, c.unwrap.ensures)
