-- A number of fields, their words, then the fixed portion; the length of the fields is the container's. Assumes nothing.
use Rattle.std.proofs.Common.{sym, arith}
use Rattle.layout.specs.Table.{count}
use Rattle.layout.proofs.Tables.{counted-says}
use Rattle.layout.proofs.Lengths.{cut-short}
use Rattle.layout.proofs.types.container_end.Goals as goal

pub unwrap_err-requires : goal.unwrap_err-requires
unfolding count
unwrap_err-requires c =
    cut-short _ _ _ _ _ (omega (arith, (counted-says _ _ _ _ (sym c.in_ok-n.ensures.value)).there)) c.if-first-n.true c.refs_end.ensures

pub fields_len-requires : goal.fields_len-requires
unfolding count
fields_len-requires c = (c.requires.0, c.in_ok-n.ensures.few, c.if-first-n.false)
