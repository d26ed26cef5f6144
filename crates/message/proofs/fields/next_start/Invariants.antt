use Rattle.standard.specs.Types.{heads}
use Rattle.standard.specs.Parts.{next}
use Rattle.message.specs.Steps.{types_of}
use Rattle.message.proofs.Rows.{Seeking}
use Rattle.message.proofs.fields.next_start.Given as goal

abbrev pub invariant-loop-f : goal.invariant-loop-f
invariant-loop-f l =
    Seeking l.table.lens.now l.table.layout.now l.b (next (heads (types_of l.table.layout.now l.fn.row)) l.b l.p0) l.rest l.p

abbrev pub decreases-loop-f : goal.decreases-loop-f
decreases-loop-f l = l.rest.many
