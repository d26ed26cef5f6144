-- What the private functions promise. Assumes nothing: these are definitions.
use Rattle.std.specs.Prelude.{◌≡◌, List, Bool, ℕ, suc, ◌+◌, ◌*◌, ◌/◌, ◌%◌, ◌^◌, ◌<◌, ◌≤◌, length, slice_index, drop}
use Rattle.standard.specs.Bytes.{num}
use Rattle.standard.specs.Bits.{bit}
use Rattle.bitfield.specs.Raw.{Raw}

-- Byte i is not zero, and those behind it are.
abbrev pub LastUsed : List ℕ → ℕ → Type 0
LastUsed l i = (i < length l) × (0 < slice_index l i) × ((k : ℕ) → i < k → slice_index l k ≡ 0)

-- h is the highest set bit of the byte x.
pub record TopOf (x h : ℕ) : Type 0 where
  pub small : h < 8
  pub from : 2 ^ h ≤ x
  pub to : x < 2 ^ suc h

-- x is what the eight bytes from a place on say.
pub record Word (l : List ℕ) (i x : ℕ) : Type 0 where
  pub small : x < 18446744073709551616
  pub says : num (drop i l) ≡ x + 18446744073709551616 * num (drop (i + 8) l)

-- l with bit i made v is l': as numbers
pub record Put (l : List ℕ) (i : ℕ) (v : Bool) (l' : List ℕ) : Type 0 where
  pub raw : Raw l'
  pub number : num l' + 2 ^ i * (num l / 2 ^ i % 2) ≡ num l + 2 ^ i * bit v

-- Raw bytes with nothing set behind len bits
pub record Kept (l : List ℕ) (len : ℕ) : Type 0 where
  pub raw : Raw l
  pub few : len ≤ 2048
  pub small : num l < 2 ^ len
