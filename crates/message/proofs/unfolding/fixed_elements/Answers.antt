-- By the kind. Assumes nothing.
use Rattle.std.proofs.Common.{arith, ltb-true}
use Rattle.message.proofs.unfolding.fixed_elements.Goals as goal

pub returns-in-List : goal.returns-in-List
returns-in-List c q = (c.in-List.is, omega (arith, ltb-true _ _ q, c.length.ensures.0))
