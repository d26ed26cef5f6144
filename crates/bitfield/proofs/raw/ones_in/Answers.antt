-- What is counted and what is left are all. Assumes nothing.
use Rattle.std.proofs.Common.{◌≡◌, ◌+◌, ◌*◌, arith}
use Rattle.bitfield.proofs.Loops.{none-behind, ones_more, ones_none}
use Rattle.bitfield.proofs.raw.ones_in.Goals as goal

pub returns-then-words-lt2 : goal.returns-then-words-lt2
returns-then-words-lt2 c =
    let more = ones_more _ (8 * 0) _ c.word_of.ensures in
    let none = ones_none _ (none-behind _ (8 * c.args.words) 8 (omega arith) c.requires.2) in
    omega (arith, more, none, c.ones_of.ensures.0)

pub loop-w-preserved : goal.loop-w-preserved
loop-w-preserved c =
    let more = ones_more _ (8 * c.loop-w.w) _ c.word_of-in-loop-w.ensures in
    let e : 8 * (c.loop-w.w + 1) ≡ 8 * c.loop-w.w + 8 = omega arith in
    (omega arith, omega arith, rw e (omega (arith, more, c.ones_of-sum.ensures.0, c.loop-w.invariant.2)))

pub returns : goal.returns
returns c =
    let e : c.loop-w.w ≡ c.args.words = omega arith in
    let all = rw e at c.loop-w.invariant.2 in
    let none = ones_none _ c.requires.2 in
    omega (arith, all, none)
