-- The bits are counted by words. Assumes nothing.
use Rattle.std.proofs.Common.{◌∙◌, arith}
use Rattle.bitfield.proofs.Ties.{behind-words, count_held}
use Rattle.bitfield.proofs.Bitfield.ones.Goals as goal

pub overflow_add-self : goal.overflow_add-self
overflow_add-self g c = omega (arith, c.requires.few)

pub ones_in-requires : goal.ones_in-requires
ones_in-requires g c = (omega (arith, c.requires.few), c.requires.raw, behind-words _ c.args.self.now.len c.requires)

pub returns : goal.returns
returns g c = c.ones_in.ensures ∙ count_held _ c.args.self.now.len c.requires
