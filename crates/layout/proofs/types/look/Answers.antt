-- Three words of the table, of which a legal type has the first two, and a kind. Assumes nothing.
use Rattle.std.proofs.Common.{arith}
use Rattle.layout.specs.Tree.{node_of}
use Rattle.layout.specs.Table.{count}
use Rattle.layout.proofs.Facts.{legal-words, legal_known}
use Rattle.layout.proofs.types.look.Goals as goal

pub overflow_add-t : goal.overflow_add-t
unfolding count
overflow_add-t c = omega (arith, legal-words _ _ c.requires)

pub word_in-at-requires : goal.word_in-at-requires
word_in-at-requires c = (legal-words _ _ c.requires).0

pub word_in-requires : goal.word_in-requires
word_in-requires c = rw c.word_in-at.ensures.0 (legal-words _ _ c.requires).1

pub unwrap-kind-requires : goal.unwrap-kind-requires
unwrap-kind-requires c = rw (c.of.ensures, c.word_in.ensures.0, c.word_in-at.ensures.0, legal_known _ _ c.requires)

pub returns : goal.returns
unfolding node_of
returns c = rw (← c.word_in-at.ensures.0, ← c.word_in.ensures.0, ← c.word_at-second.ensures.0, ← c.of.ensures, c.unwrap-kind.ensures)
