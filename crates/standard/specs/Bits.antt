-- Bits in bytes. Assumes nothing: these are definitions.
use Rattle.std.specs.Prelude.{List, [], ◌∷◌, ◌++◌, Bool, true, false, ℕ, zero, suc, ◌+◌, ◌*◌, ◌/◌, ◌%◌, length, take, drop, eqb}

abbrev pub bit : Bool → ℕ
bit true = 1
bit false = 0

-- The number whose bits these are, the lowest first
unfoldable pub bit_num : List Bool → ℕ
bit_num [] = 0
bit_num (x ∷ xs) = bit x + 2 * bit_num xs

-- The k lowest bits of a number, the lowest first
unfoldable pub bits_of : ℕ → ℕ → List Bool
bits_of zero n = []
bits_of (suc k) n = eqb (n % 2) 1 ∷ bits_of k (n / 2)

-- The bits in n bytes: bit i is bit i mod 8 of byte i/8, and what is not there is zero
unfoldable pub packs : ℕ → List Bool → List ℕ
packs zero bs = []
packs (suc n) bs = bit_num (take 8 bs) ∷ packs n (drop 8 bs)

-- Bitvector[N]: the bytes that the bits need
unfoldable pub pack : List Bool → List ℕ
pack bs = packs ((length bs + 7) / 8) bs

-- Bitlist[N]: one set bit more behind the last
unfoldable pub marked : List Bool → List ℕ
marked bs = pack (bs ++ (true ∷ []))
