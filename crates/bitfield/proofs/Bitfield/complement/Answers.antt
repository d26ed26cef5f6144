-- Byte by byte is bit by bit, with the last byte cut. Assumes nothing.
use Rattle.std.proofs.Common.{ℕ, ◌<◌, ◌≤◌, rules, arith}
use Rattle.bitfield.specs.Raw.{turned}
use Rattle.bitfield.proofs.Loops.{firsts-known}
use Rattle.bitfield.proofs.Ties.{turned-cuttable, turned-held}
use Rattle.bitfield.proofs.Bitfield.complement.Goals as goal

pub cut-requires : goal.cut-requires
cut-requires g c =
    let a = c.args.self.now in
    let raw = c.requires.raw in
    let u : c.bytes_for-used.result ≤ 256 = omega (arith, c.requires.few, c.bytes_for-used.ensures) in
    let e = firsts-known turned _ a.bytes a.bytes _ u raw.long raw.long (search rules)
    (λ (k : ℕ) (h : k < c.bytes_for-used.result). let p = c.combine-bytes.ensures.in_use k h in search rules) c.combine-bytes.ensures.behind in
    let m = turned-cuttable a.bytes a.len c.requires in
    rw (e, c.bytes_for-used.ensures) (m.few, m.raw, m.small)

pub returns : goal.returns
returns g c =
    let a = c.args.self.now in
    let raw = c.requires.raw in
    let u : c.bytes_for-used.result ≤ 256 = omega (arith, c.requires.few, c.bytes_for-used.ensures) in
    let e = firsts-known turned _ a.bytes a.bytes _ u raw.long raw.long (search rules)
    (λ (k : ℕ) (h : k < c.bytes_for-used.result). let p = c.combine-bytes.ensures.in_use k h in search rules) c.combine-bytes.ensures.behind in
    turned-held a.bytes _ a.len a.n c.requires (rw (e, c.bytes_for-used.ensures) at c.cut.ensures)
