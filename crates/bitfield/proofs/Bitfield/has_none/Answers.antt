-- No bit is set where no word has one. Assumes nothing.
use Rattle.std.proofs.Common.{◌∙◌}
use Rattle.bitfield.proofs.Ties.{none-held}
use Rattle.bitfield.proofs.Bitfield.has_none.Goals as goal

pub returns : goal.returns
returns g c = c.none_from.ensures ∙ none-held _ c.args.self.now.len c.requires
