-- The start word, and the word behind the kind. Assumes nothing.
use Rattle.std.proofs.Common.{arith}
use Rattle.layout.specs.Tree.{node_of}
use Rattle.layout.specs.Table.{count}
use Rattle.layout.proofs.Facts.{legal-words}
use Rattle.message.proofs.Rows.{known-below}
use Rattle.message.proofs.table.Table.node.Goals as goal

pub overflow_add-t : goal.overflow_add-t
unfolding count
overflow_add-t c = omega (arith, legal-words _ _ (known-below c.args.self.now _ c.requires.0).legal)

pub word-at-requires : goal.word-at-requires
word-at-requires c = (legal-words _ _ (known-below c.args.self.now _ c.requires.0).legal).0

pub returns : goal.returns
unfolding node_of
returns c = rw (c.requires.1, c.word_at-second.ensures.0, c.word-at.ensures.0)
