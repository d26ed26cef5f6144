-- Only the byte that holds bit n can have a bit above. Assumes nothing.
use Rattle.std.proofs.Common.{arith}
use Rattle.bitfield.proofs.Bodies.{within-short, within-here, within_not}
use Rattle.bitfield.proofs.body.none_above.Goals as goal

pub returns-then-bytes-q : goal.returns-then-bytes-q
returns-then-bytes-q c = within-short _ _ c.requires.1 c.if-bytes-q.true

pub returns-then-bytes-q-eq0 : goal.returns-then-bytes-q-eq0
returns-then-bytes-q-eq0 c = within-here _ c.args.n c.requires.1 (omega arith) c.if-bytes-q-eq0.true

pub returns-else-bytes-q-eq0 : goal.returns-else-bytes-q-eq0
returns-else-bytes-q-eq0 c = within_not _ c.args.n c.requires.1 (omega arith) c.if-bytes-q-eq0.false
