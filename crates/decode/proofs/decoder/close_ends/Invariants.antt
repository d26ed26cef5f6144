-- The loop keeps `Closing`: from the back, the items passed are closed. Assumes nothing.
use Rattle.decode.proofs.Close.{Closing}
use Rattle.decode.proofs.decoder.close_ends.Given as goal

abbrev pub invariant-loop-i : goal.invariant-loop-i
invariant-loop-i l = Closing l.starts l.ends l.count l.len l.closed l.next l.i
