-- The bytes moved up, with the last one cut. Assumes nothing.
use Rattle.std.proofs.Common.{arith}
use Rattle.bitfield.proofs.Ties.{part-cuttable, moved-held}
use Rattle.bitfield.proofs.Bitfield.upward.Goals as goal

pub shifted-bytes-requires : goal.shifted-bytes-requires
shifted-bytes-requires g c =
    (omega (arith, c.requires.kept.few, c.bytes_for.ensures), omega (arith, c.requires.few, c.bytes_for.ensures), c.requires.kept.raw)

pub cut-requires : goal.cut-requires
cut-requires g c =
    let e = rw c.bytes_for.ensures at c.shifted-bytes.ensures in
    let m = part-cuttable _ c.args.self.now.len _ c.requires.kept.few e in
    (m.few, m.raw, m.small)

pub returns : goal.returns
returns g c =
    let e = rw c.bytes_for.ensures at c.shifted-bytes.ensures in
    moved-held _ _ _ c.args.self.now.len c.args.k _ c.requires.kept e c.cut.ensures
