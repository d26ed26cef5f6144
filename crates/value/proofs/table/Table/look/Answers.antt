-- Three words of the table, of which a legal type has the first two. Assumes nothing.
use Rattle.std.proofs.Common.{arith}
use Rattle.layout.specs.Tree.{node_of}
use Rattle.layout.specs.Table.{count}
use Rattle.layout.proofs.Facts.{legal-words}
use Rattle.value.proofs.Rows.{under-known}
use Rattle.value.proofs.table.Table.look.Goals as goal

pub overflow_add-t : goal.overflow_add-t
unfolding count
overflow_add-t c = omega (arith, legal-words _ _ (under-known _ _ _ _ c.args.self.known c.requires).legal)

pub word-at-requires : goal.word-at-requires
word-at-requires c = (legal-words _ _ (under-known _ _ _ _ c.args.self.known c.requires).legal).0

pub returns : goal.returns
unfolding node_of
returns c = rw (c.kind-kind.ensures, ← c.word-at.ensures.0, c.word_at-second.ensures.0)
