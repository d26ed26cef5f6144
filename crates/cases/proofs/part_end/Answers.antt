-- What is cut is a place past the greatest number, or past the bytes. Assumes nothing.
use Rattle.std.proofs.Common.{◌≡◌, ◌+◌, arith}
use Rattle.standard.specs.Bytes.{four}
use Rattle.cases.specs.Records.{end_of}
use Rattle.cases.proofs.Laws.{end-cut, then-pick}
use Rattle.cases.proofs.part_end.Goals as goal

pub returns-in_err-checked_add : goal.returns-in_err-checked_add
returns-in_err-checked_add c = rw c.from_residual.ensures (end-cut _ _ (omega (arith, c.in_err-checked_add.ensures)))

pub returns-in_err-end : goal.returns-in_err-end
returns-in_err-end c = rw c.from_residual-in_err-end.ensures (end-cut _ _ (omega (arith, c.in_err-end.ensures)))

pub returns : goal.returns
unfolding end_of
returns c =
    let b = c.args.b.now in let p = c.args.p in
    let e : c.in_ok-end.end ≡ p + 4 + four b p = omega (arith, c.in_ok-end.ensures, c.in_ok-checked_add.ensures, c.four_at.ensures.0) in
    rw (c.then_some.ensures, e, then-pick)
