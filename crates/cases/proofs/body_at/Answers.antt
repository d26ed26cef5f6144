-- A part that is all there ends within the bytes. Assumes nothing.
use Rattle.std.proofs.Common.{arith}
use Rattle.cases.specs.Records.{body_of}
use Rattle.cases.proofs.Laws.{end_within}
use Rattle.cases.proofs.body_at.Goals as goal

pub overflow_add-result : goal.overflow_add-result
overflow_add-result c = let w = end_within _ _ _ c.in-Some.ensures in omega arith

pub slice_bounds-result-count : goal.slice_bounds-result-count
slice_bounds-result-count c = let w = end_within _ _ _ c.in-Some.ensures in omega arith

pub slice_bounds-result-start : goal.slice_bounds-result-start
slice_bounds-result-start c = let w = end_within _ _ _ c.in-Some.ensures in omega arith

pub slice_bounds-result-end : goal.slice_bounds-result-end
slice_bounds-result-end c = let w = end_within _ _ _ c.in-Some.ensures in omega arith

pub returns-in-Some : goal.returns-in-Some
unfolding body_of
returns-in-Some c = rw (← c.in-Some.ensures)

pub returns-in-None : goal.returns-in-None
unfolding body_of
returns-in-None c = rw (← c.in-None.ensures)
