-- The loop keeps `Walking`: the items that are left give the whole. Assumes nothing.
use Rattle.std.specs.Iterator.Adapters.{zip_first, zip_second}
use Rattle.std.specs.Slice.Iter.{iter_rest}
use Rattle.decode.proofs.Walk.{Walking}
use Rattle.decode.proofs.decoder.recall_items.Given as goal

abbrev pub invariant-loop-start : goal.invariant-loop-start
invariant-loop-start l = Walking l.starts l.ends l.bytes l.x (iter_rest (zip_first l.start-iterator)) (iter_rest (zip_second l.start-iterator))
