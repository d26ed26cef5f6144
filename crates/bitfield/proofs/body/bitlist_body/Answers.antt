-- The mark is the highest bit of the last byte, unless that byte is zero. Assumes nothing.
use Rattle.std.proofs.Common.{◌∙◌, arith, eq-eqb}
use Rattle.bitfield.specs.Body.{bit_list_body}
use Rattle.bitfield.proofs.Tops.{bytes-known}
use Rattle.bitfield.proofs.Bodies.{marked-here}
use Rattle.bitfield.proofs.body.bitlist_body.Goals as goal

pub returns-then-len-eq0 : goal.returns-then-len-eq0
unfolding bit_list_body
returns-then-len-eq0 c = rw (eq-eqb _ 0 c.if-len-eq0.true)

pub returns-then-last-eq0 : goal.returns-then-last-eq0
returns-then-last-eq0 c = c.unmarked.ensures _

pub returns : goal.returns
returns c = c.list_bits.ensures ∙ marked-here _ _ (bytes-known _ c.type_inv.bytes) (omega arith) c.top_bit.ensures _
