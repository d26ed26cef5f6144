-- Where no byte is left, the counted part and each behind it are empty. Assumes nothing.
use Rattle.std.proofs.Common.{◌≡◌, refl, arith, add-one}
use Rattle.cases.specs.Records.{start_of, part_of}
use Rattle.cases.proofs.Laws.{part-behind}
use Rattle.cases.proofs.part.Goals as goal
use Rattle.cases.proofs.part.Goals.{then-loop-test+then-at-b, else-loop-test}

pub loop-init : goal.loop-init
unfolding start_of
loop-init c = refl

pub loop-preserved : goal.loop-preserved
unfolding start_of
loop-preserved c = rw (add-one, ← c.loop.invariant) c.next_start-at.ensures

pub returns : goal.returns
returns c =
    let b = c.args.b.now in
    let e : part_of b c.loop.counter ≡ part_of b c.args.i =
    elim c.loop-test.branch [
      | then-loop-test+then-at-b w ↦ part-behind b c.loop.counter c.args.i (omega arith) (omega arith)
      | else-loop-test w ↦ (let n : c.loop.counter ≡ c.args.i = omega arith in rw n)
    ] in
    rw (← e, ← c.loop.invariant) c.body_at.ensures
