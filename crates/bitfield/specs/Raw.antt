-- Raw bytes: what the loops make of them. Assumes nothing: these are definitions.
use Rattle.std.specs.Prelude.{◌≡◌, List, [], ◌∷◌, ◌++◌, Bool, ℕ, zero, suc, ◌+◌, ◌-◌, ◌%◌, ◌^◌, leb, ltb, length, take, replicate}
use Rattle.std.specs.Int.Bits.{bit_and}
use Rattle.standard.specs.Bytes.{Bytes, num}
use Rattle.standard.specs.Choice.{and_also}

-- What is done with two bytes, beside "and" and "or": what the second one has is taken out; the complement of the first
abbrev pub taken_out : ℕ → ℕ → ℕ
taken_out x y = x - bit_and x y

abbrev pub turned : ℕ → ℕ → ℕ
turned x y = 255 - x

unfoldable pub zipped : (ℕ → ℕ → ℕ) → List ℕ → List ℕ → List ℕ
zipped f [] ys = []
zipped f (x ∷ xs) [] = []
zipped f (x ∷ xs) (y ∷ ys) = f x y ∷ zipped f xs ys

-- The first i bytes put together, and zero behind them, 256 in all
unfoldable pub firsts : (ℕ → ℕ → ℕ) → ℕ → List ℕ → List ℕ → List ℕ
firsts f i xs ys = zipped f (take i xs) (take i ys) ++ replicate (256 - i) 0

-- At most 2,048 bits, and nothing set from bit len on
unfoldable pub clean : List ℕ → ℕ → Bool
clean l len = and_also (leb len 2048) (ltb (num l) (2 ^ len))

-- The bits of the last byte in use: as many as are left for it, 1 to 8, and none where no byte is in use
unfoldable pub mask_of : ℕ → ℕ
mask_of zero = 0
mask_of (suc n) = 2 ^ (n % 8 + 1) - 1

-- The 256 bytes of a bitfield
pub record Raw (l : List ℕ) : Type 0 where
  pub long : length l ≡ 256
  pub bytes : Bytes l
