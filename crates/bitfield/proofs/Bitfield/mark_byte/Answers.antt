-- The byte that holds the end, if there is one, with the mark put in. Assumes nothing.
use Rattle.bitfield.proofs.Marks.{mark_here, mark_past}
use Rattle.bitfield.proofs.Bitfield.mark_byte.Goals as goal

pub returns-then-q-lt256 : goal.returns-then-q-lt256
returns-then-q-lt256 g c = mark_here _ c.args.self.now.len c.requires c.if-q-lt256.true

pub returns-else-q-lt256 : goal.returns-else-q-lt256
returns-else-q-lt256 g c = mark_past _ c.args.self.now.len c.requires c.if-q-lt256.false
