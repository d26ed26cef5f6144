-- The loop keeps `Counting`; each way out is one of its laws. Assumes nothing.
use Rattle.std.proofs.Common.{◌∙◌}
use Rattle.message.proofs.Rows.{next_few}
use Rattle.message.proofs.Numbers.{counting_new, counting_fixed, counting_long, counting_cut, counting_end}
use Rattle.message.proofs.Numbers.{counting_past, counting_back, counting_next}
use Rattle.message.proofs.fields.lay_out.Goals as goal

pub loop-f-init : goal.loop-f-init
loop-f-init c = counting_new _ _ _ _ c.requires.0

pub next-requires : goal.next-requires
next-requires c = c.loop-f.invariant.laying.row

pub length-k-requires : goal.length-k-requires
length-k-requires c = next_few _ _ _ _ _ c.loop-f.invariant.laying.row c.in-Some.ensures

pub returns-then-p-len : goal.returns-then-p-len
returns-then-p-len c = counting_long c.loop-f.invariant c.in-Some.ensures c.length-k.ensures.0 c.if-k-gt0.true c.if-p-len.true

pub loop-f-preserved-then-k-gt0 : goal.loop-f-preserved-then-k-gt0
loop-f-preserved-then-k-gt0 c =
    counting_fixed c.loop-f.invariant c.in-Some.ensures c.length-k.ensures.0 c.if-k-gt0.true c.if-p-len.false c.requires.1

pub returns-then-next-len : goal.returns-then-next-len
returns-then-next-len c = counting_cut c.loop-f.invariant c.in-Some.ensures c.length-k.ensures.0 c.if-k-gt0.false c.if-next-len.true

pub returns-then-o-len : goal.returns-then-o-len
returns-then-o-len c =
    counting_past c.loop-f.invariant c.in-Some.ensures c.length-k.ensures.0 c.if-k-gt0.false
    c.if-next-len.false c.four_in-o.ensures.0 c.if-o-len.true

pub returns-then-o-previous : goal.returns-then-o-previous
returns-then-o-previous c =
    counting_back c.loop-f.invariant c.in-Some.ensures c.length-k.ensures.0 c.if-k-gt0.false
    c.if-next-len.false c.four_in-o.ensures.0 c.if-o-len.false c.if-o-previous.true

pub loop-f-preserved : goal.loop-f-preserved
loop-f-preserved c =
    rw c.or-first.ensures
    (counting_next c.loop-f.invariant c.in-Some.ensures c.length-k.ensures.0 c.if-k-gt0.false
    c.if-next-len.false c.four_in-o.ensures.0 c.if-o-len.false c.if-o-previous.false)

pub returns : goal.returns
returns c = c.finish.ensures ∙ counting_end c.loop-f.invariant c.in_default.ensures
