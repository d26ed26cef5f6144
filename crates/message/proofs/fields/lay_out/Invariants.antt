use Rattle.standard.specs.Types.{heads}
use Rattle.message.specs.Steps.{types_of}
use Rattle.message.proofs.Numbers.{Counting}
use Rattle.message.proofs.fields.lay_out.Given as goal

abbrev pub invariant-loop-f : goal.invariant-loop-f
invariant-loop-f l =
    Counting l.table.lens.now l.table.layout.now (heads (types_of l.table.layout.now l.fn.row)) l.b l.first l.previous l.p l.rest

abbrev pub decreases-loop-f : goal.decreases-loop-f
decreases-loop-f l = l.rest.many
