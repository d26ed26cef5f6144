-- The bytes in use are the slice's. Assumes nothing.
use Rattle.std.proofs.Common.{ℕ, List, ◌++◌, take, ap}
use Rattle.std.proofs.lemmas.List.{drop-replicate}
use Rattle.bitfield.proofs.raw.copy_of.Goals as goal

pub returns : goal.returns
returns c =
    let n = c.args.used in
    rw c.copy_from_slice.ensures.after (ap (λ (l : List ℕ). take n c.args.bytes.now ++ l) (drop-replicate n 256 0))
