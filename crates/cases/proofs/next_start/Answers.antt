-- By where the part ends. Assumes nothing.
use Rattle.cases.specs.Records.{next_of}
use Rattle.cases.proofs.Laws.{reach-or}
use Rattle.cases.proofs.next_start.Goals as goal

pub returns : goal.returns
unfolding next_of
returns c = rw (c.unwrap_or.ensures, reach-or, c.part_end.ensures)
