-- Byte by byte is bit by bit. Assumes nothing.
use Rattle.std.proofs.Common.{ℕ, ◌<◌, rules, arith}
use Rattle.std.specs.Int.Bits.{bit_and}
use Rattle.bitfield.proofs.Loops.{firsts-known}
use Rattle.bitfield.proofs.Ties.{both-held}
use Rattle.bitfield.proofs.Bitfield.in_both.Goals as goal

pub returns : goal.returns
returns g c =
    let a = c.args.self.now in
    let b = c.args.other.now in
    let one = c.requires.one.raw in
    let other = c.requires.other.raw in
    let e = firsts-known bit_and 256 a.bytes b.bytes _ (omega arith) one.long other.long (search rules)
    (λ (k : ℕ) (h : k < 256). let p = c.combine-bytes.ensures.in_use k h in search rules) c.combine-bytes.ensures.behind in
    rw (e, c.min-len.ensures) (both-held a.bytes a.len b.bytes b.len a.n c.requires.one c.requires.other)
