-- The bytes before `i` are put together, and those from there on are zero. Assumes nothing.
use Rattle.std.proofs.Common.{◌≡◌, ℕ, ◌<◌, ◌≤◌, length, slice_index}
use Rattle.bitfield.proofs.raw.combine.Given as goal

abbrev pub invariant-loop-i : goal.invariant-loop-i
invariant-loop-i g l =
    (length l.out ≡ 256)
    × ((k : ℕ) → k < l.i → goal.F-post g l.op (slice_index l.a k) (slice_index l.b k) (slice_index l.out k))
    × ((k : ℕ) → l.i ≤ k → slice_index l.out k ≡ 0)
