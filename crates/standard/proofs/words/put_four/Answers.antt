-- Nothing, some or all of the four bytes have room. Assumes nothing.
use Rattle.std.proofs.Common.{arith, sym, ap, ◌∙◌, ◌-◌, take, length}
use Rattle.standard.specs.Bytes.{le}
use Rattle.standard.proofs.Bytes.{length-le, low_bytes}
use Rattle.standard.proofs.Store.{sets_out, short_sets, part_sets}
use Rattle.standard.proofs.words.put_four.Goals as goal

pub returns-then-at-len : goal.returns-then-at-len
returns-then-at-len c = sym (sets_out (le 4 c.args.x) _ _ c.if-at-len.true)

pub returns-then-len-at-lt4 : goal.returns-then-len-at-lt4
returns-then-len-at-lt4 c =
    let w = c.to_le_bytes-word.ensures ∙ low_bytes c.args.x in
    let n = length-le 4 c.args.x in
    short_sets _ _ (le 4 c.args.x) _ _ (c.copy_from_slice.ensures.after ∙ ap (take (length c.args.out.now - c.args.at)) w) (omega arith) (omega arith) (omega arith)

pub returns-else-len-at-lt4 : goal.returns-else-len-at-lt4
returns-else-len-at-lt4 c =
    let w = c.to_le_bytes-word.ensures ∙ low_bytes c.args.x in
    let n = length-le 4 c.args.x in
    part_sets _ _ (le 4 c.args.x) _ _ (c.copy_from_slice-else-len-at-lt4.ensures.after ∙ w) (omega arith) (omega arith)
