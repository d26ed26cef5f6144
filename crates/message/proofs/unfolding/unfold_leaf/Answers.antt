-- Free bytes, or else bits. Assumes nothing.
use Rattle.std.proofs.Common.{sym, arith}
use Rattle.bitfield.proofs.Tops.{bytes-known}
use Rattle.message.proofs.UnfoldLeaves.{marked-at, variable_bits, free_rooms, free_filled, bits-rooms, bits-filled, bits-never}
use Rattle.message.proofs.unfolding.unfold_leaf.Goals as goal

pub unfold_free-requires : goal.unfold_free-requires
unfold_free-requires c = (c.requires.2, free_rooms _ _ _ _ _ _ c.in-FreeBytes.is c.requires.4)

pub returns-in-FreeBytes : goal.returns-in-FreeBytes
returns-in-FreeBytes c = free_filled _ _ _ _ _ _ c.in-FreeBytes.is _ _ _ c.unfold_free.ensures

pub unfold_bits-requires : goal.unfold_bits-requires
unfold_bits-requires c =
    let q = marked-at c.args.b.now c.args.n.second _ (bytes-known _ c.type_inv.b) (sym c.in-Ok.ensures) in (
      omega (arith, q.1, c.requires.1),
      q.0,
      bits-rooms _ _ _ _ _ _ (variable_bits _ _ c.requires.0 c.in_default.not-FreeBytes) _ c.in-Ok.ensures c.requires.4,
    )

pub returns-in-Ok : goal.returns-in-Ok
returns-in-Ok c =
    bits-filled _ _ _ _ _ _ (variable_bits _ _ c.requires.0 c.in_default.not-FreeBytes) _ c.in-Ok.ensures _ _ _ c.unfold_bits.ensures

pub returns-in-Err : goal.returns-in-Err
returns-in-Err c = bits-never _ _ _ (variable_bits _ _ c.requires.0 c.in_default.not-FreeBytes) _ c.in-Err.ensures c.requires.3
