-- The law of each behaviour. Assumes nothing.
use Rattle.std.specs.Prelude.{◌≡◌, ℕ, ◌≤◌, true, leb, eqb}
use Rattle.std.proofs.Common.{arith, eqb-true, leb-true}

pub leb-within : (len n : ℕ) → leb len n ≡ true → len ≤ n
leb-within len n e = leb-true len n e

pub eqb-within : (len n : ℕ) → eqb len n ≡ true → len ≤ n
eqb-within len n e = let h : len ≡ n = eqb-true len n e in omega arith
