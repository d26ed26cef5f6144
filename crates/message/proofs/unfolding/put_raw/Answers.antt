-- The whole bytes, and what is left of the last one without its mark. Assumes nothing.
use Rattle.std.proofs.Common.{arith}
use Rattle.bitfield.proofs.Tops.{bytes-known}
use Rattle.standard.proofs.Store.{stored_then}
use Rattle.message.proofs.UnfoldLeaves.{raw-room, raw-place, raw-odd, raw-single, raw-long, raw-short, last-from}
use Rattle.message.proofs.unfolding.put_raw.Goals as goal

pub copy_into-whole-requires : goal.copy_into-whole-requires
copy_into-whole-requires c = raw-room _ _ _ _ c.requires.0 c.requires.1

pub put_last-requires : goal.put_last-requires
put_last-requires c = (
  raw-place _ _ _ _ _ _ c.requires.0 c.requires.1 (raw-odd _ c.if-rest-ne0.true) c.copy_into-whole.ensures,
  omega arith,
  last-from _ _ (bytes-known _ c.type_inv.b) c.requires.0,
)

pub returns-then-rest-ne0 : goal.returns-then-rest-ne0
returns-then-rest-ne0 c =
    stored_then _ _ _ _ _ _ _ _ _ c.copy_into-whole.ensures c.put_last.ensures
    (raw-long _ _ (bytes-known _ c.type_inv.b) c.requires.0 (raw-odd _ c.if-rest-ne0.true))

pub put_last-requires-then-full-eq0 : goal.put_last-requires-then-full-eq0
put_last-requires-then-full-eq0 c = (
  raw-place _ _ _ _ _ _ c.requires.0 c.requires.1 (raw-single _ c.if-full-eq0.true) c.copy_into-whole.ensures,
  omega arith,
  last-from _ _ (bytes-known _ c.type_inv.b) c.requires.0,
)

pub returns-then-full-eq0 : goal.returns-then-full-eq0
returns-then-full-eq0 c =
    stored_then _ _ _ _ _ _ _ _ _ c.copy_into-whole.ensures c.put_last-then-full-eq0.ensures
    (raw-long _ _ (bytes-known _ c.type_inv.b) c.requires.0 (raw-single _ c.if-full-eq0.true))

pub returns : goal.returns
returns c =
    rw (raw-short _ _ (bytes-known _ c.type_inv.b) c.requires.0 c.if-rest-ne0.false c.if-full-eq0.false)
    c.copy_into-whole.ensures
