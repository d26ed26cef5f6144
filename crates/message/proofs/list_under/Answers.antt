-- As the check goes; then by the room. Assumes nothing.
use Rattle.std.proofs.Common.{sym, arith}
use Rattle.message.proofs.Entries.{under-accepted, records-room}
use Rattle.message.proofs.list_under.Goals as goal

pub list_item-requires : goal.list_item-requires
list_item-requires c =
    let table = c.args.table.now in
    let q = under-accepted table.layout.now c.args.message.now table.types _ (sym c.in_ok-c.ensures) in
    (omega (arith, table.some), omega (arith, q.1), rw q.0 tt, records-room _ _ _ _ q.0 c.if-need-room.false)
