-- A part of eight bytes says the number that they are. Assumes nothing.
use Rattle.std.proofs.Common.{◌≡◌, ◌∙◌, ap}
use Rattle.std.specs.Int.{w64, from_le_bytes}
use Rattle.standard.specs.Bytes.{num_at}
use Rattle.cases.proofs.Laws.{eight-sum}
use Rattle.cases.proofs.number.Goals as goal

pub returns : goal.returns
unfolding num_at
returns c =
    let eight = c.in_ok-bytes.ensures.cases in
    let e : c.from_le_bytes.result ≡ num_at 8 c.args.part.now 0 =
    c.from_le_bytes.ensures ∙ ap (from_le_bytes w64) eight.same ∙ eight-sum c.args.part.now in
    rw (e, eight.long)
