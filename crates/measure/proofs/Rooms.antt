-- How long a room is, for every length: a law, since a long list cannot be counted. Assumes nothing.
use Rattle.std.proofs.Common.{◌≡◌, ℕ, length, replicate, sym}
use lib.ListN.{length-replicate}

pub room-length : (n x : ℕ) → n ≡ length (replicate n x)
room-length n x = sym (length-replicate n x)
