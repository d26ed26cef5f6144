-- Well-known examples of the public standard's tests in one table under one statement: each value is within its bounds and has these bytes as
-- its serialization. All by computation; assumes nothing. The last row is the zero of ssz_generic's BitsStruct, its bytes by the standard's rule.
use mathlib.Core.Path.{◌≡◌, refl}
use mathlib.Core.Logic.{inl, inr}
use mathlib.Core.List.{List, [], ◌∷◌, ◌++◌}
use mathlib.Core.Bool.{Bool, true, false}
use Prim.Native.Nat.{ℕ}
use native.Mathlib.Omega.{arith}
use Rattle.standard.specs.Bytes.{le}
use Rattle.standard.specs.Bits.{bit_num, bits_of, packs, pack, marked}
use Rattle.standard.specs.Types.{Ty, number, boolean, bit_vector, bit_list, container, union, end, field, over, bare, body, head, joined}
use Rattle.standard.specs.Parts.{fixed_lengths, fronts, backs, join}
use Rattle.standard.specs.Serialize.{Val, Ok, serialize}

-- A value of a type, and its serialization
record Example : Type 0 where
  type : Ty
  value : Val type
  bytes : List ℕ

-- The bits that the standard's tests write as TTFTFTFF, FTFT, FTF, TFTFFFTTFT and TFTFFFTTFTFFFFTT
abbrev bits3 : List Bool
bits3 = false ∷ true ∷ false ∷ []

abbrev bits4 : List Bool
bits4 = false ∷ true ∷ false ∷ true ∷ []

abbrev bits8 : List Bool
bits8 = true ∷ true ∷ false ∷ true ∷ false ∷ true ∷ false ∷ false ∷ []

abbrev bits10 : List Bool
bits10 = true ∷ false ∷ true ∷ false ∷ false ∷ false ∷ true ∷ true ∷ false ∷ true ∷ []

abbrev bits16 : List Bool
bits16 = bits10 ++ (false ∷ false ∷ false ∷ false ∷ true ∷ true ∷ [])

-- So many bits, none of them set
abbrev none : ℕ → List Bool
none n = bits_of n 0

-- SingleFieldTestStruct, SmallTestStruct, FixedTestStruct and BitsStruct of the standard's tests
abbrev single : Ty
single = container 1 (field (number 0 1) end)

abbrev small : Ty
small = container 1 (field (number 0 2) (field (number 0 2) end))

abbrev fixed : Ty
fixed = container 3 (field (number 0 1) (field (number 1 8) (field (number 2 4) end)))

abbrev bits : Ty
bits =
    container 5
    (field (bit_list 0 5) (field (bit_vector 1 2) (field (bit_vector 2 1) (field (bit_list 3 6) (field (bit_vector 4 8) end)))))

-- Union[uint16], Union[None, uint16] and Union[uint16, uint32]
abbrev union16 : Ty
union16 = union 1 (body 0 (number 0 2) over)

abbrev maybe16 : Ty
maybe16 = union 1 (bare 0 (body 1 (number 0 2) over))

abbrev either : Ty
either = union 2 (body 0 (number 0 2) (body 1 (number 1 4) over))

-- FixedTestStruct's bytes, and BitsStruct's zero value
abbrev fixed_bytes : List ℕ
fixed_bytes = 0xab ∷ 0x33 ∷ 0x22 ∷ 0x11 ∷ 0x00 ∷ 0xdd ∷ 0xcc ∷ 0xbb ∷ 0xaa ∷ 0x78 ∷ 0x56 ∷ 0x34 ∷ 0x12 ∷ []

abbrev zeros : Val bits
zeros = ([], (none 2, (none 1, ([], (none 8, tt)))))

examples : List Example
examples =
    record { type = number 0 2; value = 0x4567; bytes = 0x67 ∷ 0x45 ∷ [] }
    ∷ record { type = boolean 0; value = true; bytes = 0x01 ∷ [] }
    ∷ record { type = boolean 0; value = false; bytes = 0x00 ∷ [] }
    ∷ record { type = bit_vector 0 8; value = bits8; bytes = 0x2b ∷ [] }
    ∷ record { type = bit_list 0 8; value = bits8; bytes = 0x2b ∷ 0x01 ∷ [] }
    ∷ record { type = bit_vector 0 4; value = bits4; bytes = 0x0a ∷ [] }
    ∷ record { type = bit_list 0 4; value = bits4; bytes = 0x1a ∷ [] }
    ∷ record { type = bit_vector 0 3; value = bits3; bytes = 0x02 ∷ [] }
    ∷ record { type = bit_list 0 3; value = bits3; bytes = 0x0a ∷ [] }
    ∷ record { type = bit_vector 0 10; value = bits10; bytes = 0xc5 ∷ 0x02 ∷ [] }
    ∷ record { type = bit_list 0 16; value = bits10; bytes = 0xc5 ∷ 0x06 ∷ [] }
    ∷ record { type = bit_vector 0 16; value = bits16; bytes = 0xc5 ∷ 0xc2 ∷ [] }
    ∷ record { type = bit_list 0 16; value = bits16; bytes = 0xc5 ∷ 0xc2 ∷ 0x01 ∷ [] }
    ∷ record { type = single; value = (0xab, tt); bytes = 0xab ∷ [] }
    ∷ record { type = small; value = (0x4567, (0x0123, tt)); bytes = 0x67 ∷ 0x45 ∷ 0x23 ∷ 0x01 ∷ [] }
    ∷ record { type = fixed; value = (0xab, (0xaabbccdd00112233, (0x12345678, tt))); bytes = fixed_bytes }
    ∷ record { type = union16; value = inl 0xaabb; bytes = 0x00 ∷ 0xbb ∷ 0xaa ∷ [] }
    ∷ record { type = maybe16; value = inl tt; bytes = 0x00 ∷ [] }
    ∷ record { type = maybe16; value = inr (inl 0xaabb); bytes = 0x01 ∷ 0xbb ∷ 0xaa ∷ [] }
    ∷ record { type = either; value = inr (inl 0xdeadbeef); bytes = 0x01 ∷ 0xef ∷ 0xbe ∷ 0xad ∷ 0xde ∷ [] }
    ∷ record { type = bits; value = zeros; bytes = 0x0b ∷ 0 ∷ 0 ∷ 0 ∷ 0 ∷ 0 ∷ 0x0c ∷ 0 ∷ 0 ∷ 0 ∷ 0 ∷ 0x01 ∷ 0x01 ∷ [] }
    ∷ []

-- Each value is within its bounds.
Within : List Example → Type 0
Within [] = Unit {0}
Within (x ∷ xs) = Ok x.type x.value × Within xs

-- Each value's serialization is what the table says.
Written : List Example → Type 0
Written [] = Unit {0}
Written (x ∷ xs) = (serialize x.type x.value ≡ x.bytes) × Written xs

-- What holds of a row, and what holds of the rows behind it
infixr 4 ◌&◌
◌&◌ : {A B : Type 0} → A → B → A × B
a & b = (a, b)

published_hold : Within examples × Written examples
unfolding Within Written examples le bit_num bits_of packs pack marked head joined fixed_lengths fronts backs join Ok serialize
published_hold = (bounds, bytes)
  where
    bounds : Within examples
    bounds =
        omega arith & tt & tt & refl & omega arith & refl & omega arith & refl & omega arith & refl & omega arith & refl & omega arith
        & (omega arith & tt) & (omega arith & omega arith & tt) & (omega arith & omega arith & omega arith & tt)
        & omega arith & tt & omega arith & omega arith & (omega arith & refl & refl & omega arith & refl & tt) & tt

    bytes : Written examples
    bytes =
        refl & refl & refl & refl & refl & refl & refl & refl & refl & refl & refl & refl & refl & refl & refl & refl & refl & refl & refl
        & refl & refl & tt
