-- The word's four bytes, as a part that is overwritten whole. Assumes nothing.
use Rattle.std.proofs.Common.{◌≡◌, ◌%◌, arith, ◌∙◌}
use Rattle.standard.specs.Bytes.{le}
use Rattle.standard.proofs.Bytes.{length-le, low_bytes}
use Rattle.standard.proofs.Store.{part_sets}
use Rattle.message.proofs.listing.put_word.Goals as goal

pub returns : goal.returns
returns c =
    let e : c.args.x % 4294967296 ≡ c.args.x = omega arith in
    let w = c.to_le_bytes.ensures ∙ rw e at (low_bytes c.args.x) in
    let n = length-le 4 c.args.x in
    part_sets _ _ (le 4 c.args.x) _ _ (c.copy_from_slice.ensures.after ∙ w) (omega arith) (omega arith)
