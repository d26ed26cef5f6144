-- What the other one has not is well formed, and no bit of it is set. Assumes nothing.
use Rattle.std.proofs.Common.{ap, ◌∙◌}
use Rattle.bitfield.specs.Bools.{none_set}
use Rattle.bitfield.proofs.Ties.{without-kept}
use Rattle.bitfield.proofs.Bitfield.is_within.Goals as goal

pub has_none-requires : goal.has_none-requires
has_none-requires g c = (without-kept _ c.args.self.now c.args.other.now _ c.requires.one c.taken_from.ensures).0

pub returns : goal.returns
returns g c = c.has_none.ensures ∙ ap none_set (without-kept _ c.args.self.now c.args.other.now _ c.requires.one c.taken_from.ensures).1
