-- By the test on the two words, then by where each part ends. Assumes nothing.
use Rattle.std.proofs.Common.{◌≡◌, ◌∙◌, ◌+◌, ◌-◌, arith}
use borrow.Author.Tests.{lt-ltb, le-ltb}
use Rattle.standard.specs.Bytes.{word_at}
use Rattle.cases.specs.Records.{record_end_lem}
use Rattle.cases.proofs.Laws.{row_more, row_cut, row-none}
use Rattle.cases.proofs.record_end.Goals as goal

pub returns-then-b-lt8 : goal.returns-then-b-lt8
unfolding record_end_lem
returns-then-b-lt8 c = rw (lt-ltb _ _ c.if-b-lt8.true)

pub returns-in_err-at : goal.returns-in_err-at
unfolding record_end_lem
returns-in_err-at c =
    rw (c.from_residual.ensures, le-ltb _ _ c.if-b-lt8.false)
    (row_cut _ _ _ (omega (arith, c.word_at-end.ensures.0)) c.in_err-at.ensures ∙ c.loop.invariant)

pub loop-preserved : goal.loop-preserved
loop-preserved c =
    let n = word_at c.args.b.now 1 in let k = c.loop.counter in
    let m : n - (k + 1) ≡ n - k - 1 = omega arith in
    rw m (row_more _ _ _ _ (omega (arith, c.word_at-end.ensures.0)) c.in_ok-at.ensures ∙ c.loop.invariant)

pub returns : goal.returns
unfolding record_end_lem
returns c =
    let e : word_at c.args.b.now 1 - c.loop.counter ≡ 0 = omega (arith, c.word_at-end.ensures.0) in
    rw (le-ltb _ _ c.if-b-lt8.false) (row-none _ _ ∙ (rw e at c.loop.invariant))
