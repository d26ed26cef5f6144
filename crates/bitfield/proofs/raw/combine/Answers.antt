-- At first all bytes are zero. Assumes nothing.
use Rattle.std.proofs.Common.{ℕ, ◌<◌, ◌≤◌, refl, arith}
use Rattle.bitfield.proofs.Loops.{zeros-at}
use Rattle.bitfield.proofs.raw.combine.Goals as goal

pub loop-i-init : goal.loop-i-init
loop-i-init g c = (refl, (λ (k : ℕ) (h : k < 0). absurd (omega arith)), (λ (k : ℕ) (h : 0 ≤ k). zeros-at 256 k))
