-- The highest bit of the last byte in use. Assumes nothing.
use Rattle.std.proofs.Common.{◌∙◌}
use Rattle.bitfield.proofs.Ties.{none-used, last-behind, highest-none-held, highest-held}
use Rattle.bitfield.proofs.Bitfield.highest.Goals as goal

pub returns-in_err-last : goal.returns-in_err-last
returns-in_err-last g c =
    let a = c.args.self.now in
    let z = none-used a.bytes a.len c.requires (rw c.bytes_for.ensures at c.in_err-last.ensures) in
    c.from_residual.ensures ∙ highest-none-held a.bytes a.len z

pub returns : goal.returns
returns g c =
    let a = c.args.self.now in
    let l = last-behind a.bytes a.len _ c.requires (rw c.bytes_for.ensures at c.in_ok-last.ensures) in
    highest-held a.bytes a.len _ _ c.requires l.0 l.1 c.top_bit.ensures
