-- A legal type has a start word, and there a kind word that names a kind. Assumes nothing.
use Rattle.std.proofs.Common.{refl, arith}
use Rattle.layout.specs.Tree.{node_of}
use Rattle.layout.specs.Table.{count}
use Rattle.layout.proofs.Facts.{legal-words, legal_node}
use Rattle.value.proofs.Rows.{under-known}
use Rattle.value.proofs.table.Table.kind.Goals as goal

pub overflow_add-t : goal.overflow_add-t
unfolding count
overflow_add-t c = omega (arith, legal-words _ _ (under-known _ _ _ _ c.args.self.known c.requires).legal)

pub word-at-requires : goal.word-at-requires
word-at-requires c = (legal-words _ _ (under-known _ _ _ _ c.args.self.known c.requires).legal).0

pub word-requires : goal.word-requires
word-requires c = rw c.word-at.ensures.0 (legal-words _ _ (under-known _ _ _ _ c.args.self.known c.requires).legal).1

pub unwrap-requires : goal.unwrap-requires
unfolding node_of
unwrap-requires c = rw (c.of.ensures, c.word.ensures.0, c.word-at.ensures.0, (legal_node _ _ _ refl (under-known _ _ _ _ c.args.self.known c.requires).legal).known)

pub returns : goal.returns
unfolding node_of
returns c = rw (← c.word-at.ensures.0, ← c.word.ensures.0, ← c.of.ensures, c.unwrap.ensures)
