-- The loop keeps `Following`; each way out is one of its laws. Assumes nothing.
use Rattle.std.proofs.Common.{◌≡◌, ◌+◌, ◌-◌, ◌*◌, arith}
use Rattle.message.proofs.Counting.{following_low, following_past, following_back, following_next, following_end}
use Rattle.message.proofs.elements.further_offsets.Goals as goal

pub returns-then-o-first : goal.returns-then-o-first
returns-then-o-first c = following_low c.loop-i.invariant (omega arith) c.four_in-o.ensures.0 c.if-o-first.true

pub returns-then-o-len : goal.returns-then-o-len
returns-then-o-len c =
    following_past c.loop-i.invariant (omega arith) c.four_in-o.ensures.0 c.if-o-first.false c.if-o-len.true

pub returns-then-o-previous : goal.returns-then-o-previous
returns-then-o-previous c =
    following_back c.loop-i.invariant (omega arith) c.four_in-o.ensures.0 c.if-o-first.false c.if-o-len.false c.if-o-previous.true

pub loop-i-preserved : goal.loop-i-preserved
loop-i-preserved c =
    let p : 4 + 4 * (c.loop-i.i + 1) ≡ 4 + 4 * c.loop-i.i + 4 = omega arith in
    let left : c.args.n - (c.loop-i.i + 1) ≡ c.args.n - c.loop-i.i - 1 = omega arith in
    rw (p, left)
    (following_next c.loop-i.invariant (omega arith) c.four_in-o.ensures.0 c.if-o-first.false c.if-o-len.false c.if-o-previous.false)

pub returns : goal.returns
returns c = following_end c.loop-i.invariant (omega arith)
