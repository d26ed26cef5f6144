-- The first tests, the types, and no word left over. Assumes nothing.
use Rattle.std.proofs.Common.{sym}
use Rattle.layout.proofs.Tables.{types_say}
use Rattle.layout.proofs.table_end.Goals as goal

pub types_end-requires : goal.types_end-requires
types_end-requires c =
    let s = types_say _ _ (sym c.in_ok-n.ensures) in
    (c.requires, s.1, s.2)
