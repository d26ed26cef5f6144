-- The element's word, its count, then the fixed portion; the length is the count times the element's. Assumes nothing.
use Rattle.std.proofs.Common.{arith}
use Rattle.layout.proofs.Lengths.{element-below, elements_fit, vector_wide, vector-ends}
use Rattle.layout.proofs.types.vector_end.Goals as goal

pub bounds-lens-f : goal.bounds-lens-f
bounds-lens-f c =
    omega (arith, c.requires.0.few, element-below _ _ _ _ _ _ _ c.requires.0 c.in_ok-refs_end.ensures c.in_ok-n.ensures.value c.word_at-f.ensures.0)

pub overflow_mul-n : goal.overflow_mul-n
overflow_mul-n c =
    omega (arith, elements_fit _ _ _ _ _ _ _ c.requires.0 c.in_ok-refs_end.ensures c.in_ok-n.ensures.value c.word_at-f.ensures.0 _ c.width_of.ensures)

pub returns-then-n-width_of-gt4294967295 : goal.returns-then-n-width_of-gt4294967295
returns-then-n-width_of-gt4294967295 c =
    vector_wide _ _ _ _ _ _ _ c.requires.0 c.in_ok-refs_end.ensures c.in_ok-n.ensures.value c.word_at-f.ensures.0 _ c.width_of.ensures _ (omega arith)

pub returns : goal.returns
returns c =
    vector-ends _ _ _ _ _ _ _ c.requires.0 c.in_ok-refs_end.ensures c.in_ok-n.ensures.value c.word_at-f.ensures.0 _ c.width_of.ensures (omega arith)
