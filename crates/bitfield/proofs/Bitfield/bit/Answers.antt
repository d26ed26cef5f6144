-- A bit of the bytes is that bit. Assumes nothing.
use Rattle.std.proofs.Common.{sym, ◌∙◌, arith}
use Rattle.bitfield.specs.Held.{bits_in}
use Rattle.bitfield.proofs.Ties.{bits-get}
use Rattle.bitfield.proofs.Bitfield.bit.Goals as goal

pub bit_at-requires : goal.bit_at-requires
bit_at-requires g c = (omega (arith, c.requires.kept.few, c.requires.inside), c.requires.kept.raw)

pub returns : goal.returns
unfolding bits_in
returns g c = c.bit_at.ensures ∙ sym (bits-get c.args.self.now.len _ c.args.i c.requires.inside)
