-- The walk of what is left takes its first item off. Assumes nothing.
use Rattle.std.proofs.Common.{sym, ◌∙◌}
use Rattle.std.proofs.lemmas.Result.{err_from_is_err_and}
use Rattle.std.proofs.lemmas.Slice.Zip.{Zip-more, either_empty_from_Zip}
use Rattle.decode.proofs.Walk.{walking_more, walking_bad, walking_all}
use Rattle.decode.proofs.decoder.recall_items.Goals as goal

pub returns-in_err-x : goal.returns-in_err-x
returns-in_err-x c =
    let t = Zip-more c.loop-start.start-iterator c.next.new.self _ _ c.in-Some.is c.next.ensures.steps in
    let p = err_from_is_err_and c.from_residual.result c.from_residual.ensures.1 in
    rw (p.1, p.2) (walking_bad _ _ _ _ _ _ c.loop-start.invariant _ _ _ _ t.0 t.1 _ (sym c.in_err-x.was ∙ c.recall_item.ensures))

pub loop-start-preserved : goal.loop-start-preserved
loop-start-preserved c =
    let t = Zip-more c.loop-start.start-iterator c.next.new.self _ _ c.in-Some.is c.next.ensures.steps in
    walking_more _ _ _ _ _ _ c.loop-start.invariant _ _ _ _ t.0 t.1 _ (sym c.in_ok-x.was ∙ c.recall_item.ensures)

pub returns : goal.returns
returns c = walking_all _ _ _ _ _ _ c.loop-start.invariant (either_empty_from_Zip c.loop-start.start-iterator c.next.new.self _ c.in-None.is c.next.ensures.steps)
