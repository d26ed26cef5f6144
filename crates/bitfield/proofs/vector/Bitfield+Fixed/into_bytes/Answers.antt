-- The bytes that are put are the bits packed. Assumes nothing.
use Rattle.std.proofs.Common.{sym, ◌∙◌}
use Rattle.bitfield.proofs.Results.{vector_put}
use Rattle.bitfield.proofs.vector.Bitfield+Fixed.into_bytes.Goals as goal

pub returns-clause-buffer : goal.returns-clause-buffer
returns-clause-buffer c =
    vector_put c.args.self c.args.out.now _ _ (c.tested.ensures.kept c.in_ok-tested.was).0 c.raw_len-need.ensures
    (sym c.tested.ensures.told ∙ c.in_ok-tested.was) (sym c.room_told.ensures ∙ c.in_ok-room_told.was) c.put_raw.ensures
