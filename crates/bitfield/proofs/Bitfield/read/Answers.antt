-- The bytes copied, with the last one cut. Assumes nothing.
use Rattle.std.proofs.Common.{◌∙◌, arith}
use Rattle.bitfield.proofs.Tops.{bytes-known}
use Rattle.bitfield.proofs.Ties.{copy_number, part-cuttable, read_held}
use Rattle.bitfield.proofs.Bitfield.read.Goals as goal

pub cut-requires : goal.cut-requires
cut-requires g c =
    let e = rw c.bytes_for.ensures at c.copy_of-first.ensures in
    let n = e ∙ copy_number _ _ (bytes-known _ c.type_inv.bytes) (omega (arith, c.requires.few)) c.requires.there in
    let m = part-cuttable _ c.args.len _ c.requires.few n in
    (m.few, m.raw, m.small)

pub returns : goal.returns
returns g c =
    let e = rw c.bytes_for.ensures at c.copy_of-first.ensures in
    read_held _ _ _ c.args.len _ (bytes-known _ c.type_inv.bytes) c.requires.few c.requires.there e c.cut.ensures
