-- Elements of a length: theirs and the number of them say how long the vector is; elements without one are registered. Assumes nothing.
use Rattle.std.proofs.Common.{arith, ◌∙◌}
use Rattle.message.proofs.Alike.{told-offsets, told_fixed, told-narrow}
use Rattle.message.proofs.fields.vector_told.Goals as goal

pub length-k-requires : goal.length-k-requires
length-k-requires c = omega (arith, c.requires.0.under.few, c.requires.3)

pub returns-then-k-eq0 : goal.returns-then-k-eq0
returns-then-k-eq0 c =
    (rw c.requires.1 at c.lay_out.ensures) ∙ told-offsets _ _ _ _ _ _ (rw c.requires.1 at c.requires.0) c.requires.2 c.requires.3 _ c.length-k.ensures.0 c.if-k-eq0.true _

pub exact_told-requires : goal.exact_told-requires
exact_told-requires c =
    (omega arith, told-narrow _ _ _ _ _ _ (rw c.requires.1 at c.requires.0) c.requires.2 c.requires.3 _ c.length-k.ensures.0 c.if-k-eq0.false c.requires.5)

pub returns : goal.returns
returns c = c.exact_told.ensures ∙ told_fixed _ _ _ _ _ _ (rw c.requires.1 at c.requires.0) c.requires.2 c.requires.3 _ c.length-k.ensures.0 _
