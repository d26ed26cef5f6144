-- As the table goes: the types of a legal one are known. Assumes nothing.
use Rattle.std.proofs.Common.{sym}
use Rattle.standard.proofs.Bytes.{bytes-known}
use Rattle.layout.proofs.Tables.{table_known}
use Rattle.message.proofs.check.Goals as goal

pub invariant_of-table : goal.invariant_of-table
invariant_of-table c =
    let b = bytes-known _ (λ i. (c.type_inv.layout i).fits) in
    let k = table_known _ _ _ b (sym c.in_ok-types.ensures.value) c.in_ok-types.ensures.lens_after in
    record { known = k.0; some = k.1 }
