-- Byte by byte is bit by bit. Assumes nothing.
use Rattle.std.proofs.Common.{ℕ, ◌<◌, rules, arith}
use Rattle.bitfield.specs.Raw.{taken_out}
use Rattle.bitfield.proofs.Loops.{firsts-known}
use Rattle.bitfield.proofs.Places.{and_not}
use Rattle.bitfield.proofs.Tops.{byte_at}
use Rattle.bitfield.proofs.Ties.{without-held}
use Rattle.bitfield.proofs.Bitfield.taken_from.Goals as goal

pub returns : goal.returns
returns g c =
    let a = c.args.self.now in
    let b = c.args.other.now in
    let one = c.requires.one.raw in
    let other = c.requires.other.raw in
    let e = firsts-known taken_out 256 a.bytes b.bytes _ (omega arith) one.long other.long (search rules)
    (λ (k : ℕ) (h : k < 256).
    let p = c.combine-bytes.ensures.in_use k h in
    let q = and_not _ _ (byte_at a.bytes k one.bytes) (byte_at b.bytes k other.bytes) in
    rw (← q) (search rules))
    c.combine-bytes.ensures.behind in
    rw e (without-held a.bytes a.len b.bytes b.len a.n c.requires.one c.requires.other)
