-- The bytes before the one that holds the end, then that one. Assumes nothing.
use Rattle.std.proofs.Common.{arith}
use Rattle.bitfield.proofs.Marks.{put-marked}
use Rattle.bitfield.proofs.Bitfield.put_marked.Goals as goal

pub put_raw-requires : goal.put_raw-requires
put_raw-requires g c = (omega (arith, c.requires.kept.few), omega (arith, c.requires.room), c.requires.kept.raw)

pub returns : goal.returns
returns g c = put-marked _ _ _ c.args.self.now.len _ c.requires.kept c.requires.room c.put_raw.ensures c.mark_byte.ensures
