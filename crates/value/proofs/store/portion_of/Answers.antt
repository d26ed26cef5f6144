-- The loop keeps `Adding`. Assumes nothing.
use Rattle.std.proofs.Common.{arith}
use Rattle.std.proofs.Math.Nat.{sub-zero, sub-add-eq}
use Rattle.message.proofs.Rows.{row-there, row-few}
use Rattle.value.proofs.Rows.{row-known}
use Rattle.value.proofs.Fills.{adding-none, adding-same, adding-next, adding-end}
use Rattle.value.proofs.store.portion_of.Goals as goal

pub loop-init : goal.loop-init
loop-init c = rw sub-zero (adding-none _ _ _ _ _ _ (row-known _ _ _ _ c.args.table.known c.requires.0))

pub word-f-requires : goal.word-f-requires
word-f-requires c = row-there _ _ _ _ _ _ c.loop.invariant.row (omega arith)

pub bounds-table-f : goal.bounds-table-f
bounds-table-f c = row-few _ _ _ _ _ _ _ c.loop.invariant.row (omega arith) c.word-f.ensures.0

pub overflow_add-sum : goal.overflow_add-sum
overflow_add-sum c =
    omega (arith, adding-same _ _ _ _ _ _ _ _ _ _ _ c.loop.invariant (omega arith) c.word-f.ensures.0 c.width_of-sum.ensures, c.requires.1)

pub loop-preserved : goal.loop-preserved
loop-preserved c =
    rw sub-add-eq (adding-next _ _ _ _ _ _ _ _ _ _ _ c.loop.invariant (omega arith) c.word-f.ensures.0 c.width_of-sum.ensures)

pub returns : goal.returns
returns c = adding-end _ _ _ _ _ _ _ _ _ c.loop.invariant (omega arith)
