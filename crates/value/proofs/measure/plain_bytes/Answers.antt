-- Numbers and fixed bytes that share a word. Assumes nothing.
use Rattle.std.proofs.Common.{◌≡◌, ◌∙◌, sym, arith}
use Rattle.message.proofs.Rows.{row-there, row-few, row_below}
use Rattle.value.proofs.Rows.{row-known}
use Rattle.value.proofs.Elements.{elements-plain}
use Rattle.value.proofs.measure.plain_bytes.Goals as goal

pub word-f-requires : goal.word-f-requires
word-f-requires c = row-there _ _ _ _ _ _ (row-known _ _ _ _ c.args.table.known c.requires.0) (omega arith)

pub kind-requires : goal.kind-requires
kind-requires c =
    omega (arith, c.requires.0.own, row_below _ _ _ _ _ _ _ (row-known _ _ _ _ c.args.table.known c.requires.0) (omega arith) c.word-f.ensures.0)

pub bounds-table-f : goal.bounds-table-f
bounds-table-f c = row-few _ _ _ _ _ _ _ (row-known _ _ _ _ c.args.table.known c.requires.0) (omega arith) c.word-f.ensures.0

pub returns : goal.returns
returns c =
    let step : c.args.row.step ≡ 0 = omega arith in
    λ h. rw step
    (elements-plain _ _ _ _ _ _ (rw step at (row-known _ _ _ _ c.args.table.known c.requires.0)) (omega arith) c.word-f.ensures.0 _ c.kind.ensures
    (sym c.is_plain.ensures ∙ c.if-not-is_plain.false))
