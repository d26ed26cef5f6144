-- Bytes, and numbers in bytes. Assumes nothing: these are definitions.
use Rattle.std.specs.Prelude.{◌≡◌, List, [], ◌∷◌, ℕ, zero, suc, ◌+◌, ◌*◌, ◌/◌, ◌%◌, ◌<◌, ◌≤◌, length, take, drop, ltb}
use Rattle.std.proofs.lemmas.List.Edits.{sets}
use Rattle.standard.specs.Choice.{pick}

-- Every number of a list is a byte.
unfoldable pub Bytes : List ℕ → Type 0
Bytes [] = Unit {0}
Bytes (x ∷ xs) = (x < 256) × Bytes xs

-- Basic types, uintN: n in w bytes, little-endian
unfoldable pub le : ℕ → ℕ → List ℕ
le zero n = []
le (suc w) n = n % 256 ∷ le w (n / 256)

-- The number that a list of bytes says, little-endian
unfoldable pub num : List ℕ → ℕ
num [] = 0
num (x ∷ xs) = x + 256 * num xs

-- The number in the w bytes from p on; a byte that is not there counts as 0
unfoldable pub num_at : ℕ → List ℕ → ℕ → ℕ
num_at w b p = num (take w (drop p b))

-- An offset is four bytes, and so is a word of a table.
abbrev pub four : List ℕ → ℕ → ℕ
four b p = num_at 4 b p

-- The i-th word of a table that is lent as its bytes; a word that is not there whole counts as 0
unfoldable pub word_at : List ℕ → ℕ → ℕ
word_at l i = pick (ltb i (length l / 4)) (four l (4 * i)) 0

-- The values x were stored in o from at on, up to r, which gives o'; the rest is kept.
pub record Stored (o : List ℕ) (at : ℕ) (x : List ℕ) (r : ℕ) (o' : List ℕ) : Type 0 where
  pub list : o' ≡ sets o at x
  pub ends : r ≡ at + length x

-- There is room in o for x from at on.
pub record Room (o : List ℕ) (at : ℕ) (x : List ℕ) : Type 0 where
  pub room : at + length x ≤ length o
