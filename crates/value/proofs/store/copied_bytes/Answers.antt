-- Elements that share a word have one length. Assumes nothing.
use Rattle.std.proofs.Common.{◌≡◌, refl, arith}
use Rattle.message.proofs.Rows.{row-there, row-few}
use Rattle.value.proofs.Rows.{row-known}
use Rattle.value.proofs.Repeats.{elements-together, not-together}
use Rattle.value.proofs.store.copied_bytes.Goals as goal

pub returns-then-row-gt0 : goal.returns-then-row-gt0
returns-then-row-gt0 c = not-together _ _ _ _ _ c.then-row-gt0.either

pub word-f-requires : goal.word-f-requires
word-f-requires c = row-there _ _ _ _ _ _ (row-known _ _ _ _ c.args.table.known c.requires.0) (omega arith)

pub bounds-table-f : goal.bounds-table-f
bounds-table-f c = row-few _ _ _ _ _ _ _ (row-known _ _ _ _ c.args.table.known c.requires.0) (omega arith) c.word-f.ensures.0

pub returns : goal.returns
returns c =
    let step : c.args.row.step ≡ 0 = omega arith in
    rw step (elements-together _ _ _ _ _ _ _ (rw step at (row-known _ _ _ _ c.args.table.known c.requires.0)) (omega arith) c.word-f.ensures.0 refl)
