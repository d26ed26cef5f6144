-- The highest set bit is in the last byte in use, which is not the last one. Assumes nothing.
use Rattle.bitfield.proofs.Tops.{bytes-known, zeros-number}
use Rattle.bitfield.proofs.Bodies.{none-marked, marked-short}
use Rattle.bitfield.proofs.body.unmarked.Goals as goal

pub returns-in-Some : goal.returns-in-Some
returns-in-Some c = marked-short _ _ (bytes-known _ c.type_inv.bytes) c.requires.1 c.in-Some.ensures

pub returns-in-None : goal.returns-in-None
returns-in-None c = none-marked _ c.requires.0 (zeros-number _ c.in-None.ensures)
