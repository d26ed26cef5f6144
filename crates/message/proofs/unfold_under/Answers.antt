-- As the check goes; then by the room. Assumes nothing.
use Rattle.std.proofs.Common.{sym, arith}
use Rattle.message.proofs.Entries.{under-accepted}
use Rattle.message.proofs.UnfoldCounts.{form-rooms}
use Rattle.message.proofs.unfold_under.Goals as goal

pub unfold_item-requires : goal.unfold_item-requires
unfold_item-requires c =
    let table = c.args.table.now in
    let q = under-accepted table.layout.now c.args.message.now table.types _ (sym c.in_ok-c.ensures) in (
      omega (arith, table.some),
      q.1,
      record { accepted = rw q.0 tt },
      form-rooms _ _ _ _ _ q.0 c.if-words-contents.false c.if-bytes-bodies.false,
    )
