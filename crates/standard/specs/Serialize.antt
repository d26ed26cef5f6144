-- Values of a type, their bounds, and their serialization, as the public standard has them. Assumes nothing: these are definitions.
use Rattle.std.specs.Prelude.{◌≡◌, ◌⊎◌, List, [], ◌∷◌, Bool, ℕ, ◌^◌, ◌<◌, ◌≤◌, length}
use Rattle.std.proofs.Common.{inl, inr}
use Rattle.standard.specs.Bytes.{Bytes, le}
use Rattle.standard.specs.Bits.{bit, pack, marked}
use Rattle.standard.specs.Types.{Ty, Tys, Opts, number, boolean, fixed_bytes, free_bytes, bit_vector, bit_list, container, union, list, vector, end, field, over, bare, body, head}
use Rattle.standard.specs.Parts.{Part, piece, alike, join}

abbrev mutual
  -- A value of a type, as to its shape
  pub Val : Ty → Type 0
  Val (number t w) = ℕ
  Val (boolean t) = Bool
  Val (fixed_bytes t n) = List ℕ
  Val (free_bytes t limit) = List ℕ
  Val (bit_vector t n) = List Bool
  Val (bit_list t limit) = List Bool
  Val (container t ts) = Vals ts
  Val (union t os) = Option os
  Val (list t e limit) = List (Val e)
  Val (vector t e n) = List (Val e)

  pub Vals : Tys → Type 0
  Vals end = Unit {0}
  Vals (field t ts) = Val t × Vals ts

  -- One of the options, with a value where it has a body
  pub Option : Opts → Type 0
  Option over = ⊥
  Option (bare s os) = Unit {0} ⊎ Option os
  Option (body s t os) = Val t ⊎ Option os

-- Each element has it.
unfoldable pub Each : {A : Type 0} → (A → Type 0) → List A → Type 0
Each P [] = Unit {0}
Each P (v ∷ vs) = P v × Each P vs

unfoldable mutual
  -- The value is within the bounds of its type.
  pub Ok : (t : Ty) → Val t → Type 0
  Ok (number t w) n = n < 256 ^ w
  Ok (boolean t) x = Unit {0}
  Ok (fixed_bytes t n) bs = Bytes bs × (length bs ≡ n)
  Ok (free_bytes t limit) bs = Bytes bs × (length bs ≤ limit)
  Ok (bit_vector t n) bs = length bs ≡ n
  Ok (bit_list t limit) bs = length bs ≤ limit
  Ok (container t ts) vs = OkAll ts vs
  Ok (union t os) v = OkOption os v
  Ok (list t e limit) vs = (length vs ≤ limit) × Each (λ (v : Val e). Ok e v) vs
  Ok (vector t e n) vs = (length vs ≡ n) × Each (λ (v : Val e). Ok e v) vs

  pub OkAll : (ts : Tys) → Vals ts → Type 0
  OkAll end vs = Unit {0}
  OkAll (field t ts) vs = Ok t vs.0 × OkAll ts vs.1

  pub OkOption : (os : Opts) → Option os → Type 0
  OkOption over v = ⊥
  OkOption (bare s os) (inl x) = Unit {0}
  OkOption (bare s os) (inr v) = OkOption os v
  OkOption (body s t os) (inl x) = Ok t x
  OkOption (body s t os) (inr v) = OkOption os v

unfoldable mutual
  -- "Serialization"
  pub serialize : (t : Ty) → Val t → List ℕ
  serialize (number t w) n = le w n
  serialize (boolean t) x = bit x ∷ []
  serialize (fixed_bytes t n) bs = bs
  serialize (free_bytes t limit) bs = bs
  serialize (bit_vector t n) bs = pack bs
  serialize (bit_list t limit) bs = marked bs
  serialize (container t ts) vs = join (parts ts vs)
  serialize (union t os) v = selected os v
  serialize (list t e limit) vs = join (alike (head e) (λ (v : Val e). serialize e v) vs)
  serialize (vector t e n) vs = join (alike (head e) (λ (v : Val e). serialize e v) vs)

  pub parts : (ts : Tys) → Vals ts → List Part
  parts end vs = []
  parts (field t ts) vs = piece (head t) (serialize t vs.0) ∷ parts ts vs.1

  -- "Union": the selector in one byte, then the value where the option has a body
  pub selected : (os : Opts) → Option os → List ℕ
  selected over v = []
  selected (bare s os) (inl x) = s ∷ []
  selected (bare s os) (inr v) = selected os v
  selected (body s t os) (inl x) = s ∷ serialize t x
  selected (body s t os) (inr v) = selected os v
