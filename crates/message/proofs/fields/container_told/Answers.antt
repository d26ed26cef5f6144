-- A length that is not 0 and is the bytes' says that the fields are of fixed size and take all of them. Assumes nothing.
use Rattle.std.proofs.Common.{arith}
use Rattle.message.proofs.Rows.{known-below, container-fixed}
use Rattle.message.proofs.fields.container_told.Goals as goal

pub length-own-requires : goal.length-own-requires
length-own-requires c = omega (arith, (known-below c.args.table.now _ c.requires.0).few)

pub returns-then-own-b : goal.returns-then-own-b
returns-then-own-b c =
    container-fixed _ _ _ _ _ _ (known-below c.args.table.now _ c.requires.0) c.requires.3 c.length-own.ensures.0 c.if-own-gt0.true c.if-own-b.true c.requires.2
