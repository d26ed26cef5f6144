-- Bitfields as lists of Bool: each operation in a line. Assumes nothing: these are definitions.
use Rattle.std.specs.Prelude.{List, [], ◌∷◌, ◌++◌, Bool, true, false, not, ℕ, ◌+◌, ◌-◌, length, take, replicate}
use Rattle.standard.specs.Bits.{bit}
use Rattle.standard.specs.Choice.{and_also, or_else}

-- intersection: pairwise "and", as far as both go
unfoldable pub both : List Bool → List Bool → List Bool
both [] ys = []
both (x ∷ xs) [] = []
both (x ∷ xs) (y ∷ ys) = and_also x y ∷ both xs ys

-- union: pairwise "or", and the rest of the longer one
unfoldable pub either : List Bool → List Bool → List Bool
either [] ys = ys
either (x ∷ xs) [] = x ∷ xs
either (x ∷ xs) (y ∷ ys) = or_else x y ∷ either xs ys

-- difference: what the other one has is taken out, and what lies past its end is kept
unfoldable pub without : List Bool → List Bool → List Bool
without [] ys = []
without (x ∷ xs) [] = x ∷ xs
without (x ∷ xs) (y ∷ ys) = and_also x (not y) ∷ without xs ys

-- complement
unfoldable pub flipped : List Bool → List Bool
flipped [] = []
flipped (x ∷ xs) = not x ∷ flipped xs

-- as many bits, none of them set
abbrev pub no_bits : ℕ → List Bool
no_bits n = replicate n false

-- shift_up: every bit n places up; what passes the end is lost
unfoldable pub moved : ℕ → List Bool → List Bool
moved n bs = take (length bs) (no_bits n ++ bs)

-- resize: the same bits, and none behind them, m in all
unfoldable pub widened : ℕ → List Bool → List Bool
widened m bs = bs ++ no_bits (m - length bs)

-- num_set_bits
unfoldable pub count : List Bool → ℕ
count [] = 0
count (x ∷ xs) = bit x + count xs

-- is_zero
unfoldable pub none_set : List Bool → Bool
none_set [] = true
none_set (x ∷ xs) = and_also (not x) (none_set xs)

-- is_subset
abbrev pub subset : List Bool → List Bool → Bool
subset xs ys = none_set (without xs ys)
