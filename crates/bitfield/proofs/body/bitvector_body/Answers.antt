-- The order of the tests, one by one. Assumes nothing.
use Rattle.std.proofs.Common.{arith, eq-eqb, ne_eqb}
use Rattle.bitfield.specs.Body.{bit_vector_body}
use Rattle.bitfield.proofs.Tops.{bytes-known}
use Rattle.bitfield.proofs.body.bitvector_body.Goals as goal

pub none_above-requires : goal.none_above-requires
none_above-requires c = (omega arith, bytes-known _ c.type_inv.bytes)

pub returns-then-len-eq1 : goal.returns-then-len-eq1
unfolding bit_vector_body
returns-then-len-eq1 c = rw (eq-eqb _ 0 c.if-n-eq0.true, eq-eqb _ 1 c.if-len-eq1.true) c.none_above.ensures

pub returns-then-n-eq0 : goal.returns-then-n-eq0
unfolding bit_vector_body
returns-then-n-eq0 c = rw (eq-eqb _ 0 c.if-n-eq0.true, ne_eqb _ 1 c.if-len-eq1.false)

pub none_above-requires-then-len-need : goal.none_above-requires-then-len-need
none_above-requires-then-len-need c = (omega arith, bytes-known _ c.type_inv.bytes)

pub returns-then-len-need : goal.returns-then-len-need
unfolding bit_vector_body
returns-then-len-need c =
    rw (ne_eqb _ 0 c.if-n-eq0.false, ← c.bytes_for-need.ensures, eq-eqb _ _ c.if-len-need.true) c.none_above-then-len-need.ensures

pub returns-else-len-need : goal.returns-else-len-need
unfolding bit_vector_body
returns-else-len-need c = rw (ne_eqb _ 0 c.if-n-eq0.false, ← c.bytes_for-need.ensures, ne_eqb _ _ c.if-len-need.false)
