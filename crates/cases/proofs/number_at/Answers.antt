-- The row's i-th eight bytes, and the number that they say. Assumes nothing.
use Rattle.std.proofs.Common.{◌≡◌, ◌*◌, ◌/◌, ◌<◌, length, take, drop, sym, ap, ◌∙◌, arith}
use Rattle.std.specs.Int.{w64, from_le_bytes}
use borrow.Author.Tests.{ltb-true, lt-ltb}
use lib.Seq.{take-take}
use Rattle.standard.specs.Bytes.{num_at}
use Rattle.cases.proofs.Laws.{eight-sum, chunk-at}
use Rattle.cases.proofs.number_at.Goals as goal

pub returns-in-Some : goal.returns-in-Some
unfolding num_at
returns-in-Some c =
    let row = c.args.row.now in let i = c.args.i in
    let found = c.in-Some.ensures.lookup in
    let h : i < length row / 8 = omega (arith, ltb-true _ _ (sym found.0), c.as_chunks.ensures.front_len) in
    let b : c.in-Some.bytes.now ≡ take 8 (drop (8 * i) row) = found.1 ∙ (rw c.as_chunks.ensures.front (chunk-at _ i row _ h)) in
    let e : c.from_le_bytes.result ≡ num_at 8 row (8 * i) =
    c.from_le_bytes.ensures ∙ ap (from_le_bytes w64) b ∙ eight-sum (take 8 (drop (8 * i) row)) ∙ simp (take-take 8 8 (drop (8 * i) row) (omega arith)) in
    rw (lt-ltb _ _ h) e
