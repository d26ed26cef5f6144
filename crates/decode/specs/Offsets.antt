-- Offsets: document 01, "Rules of reading". Assumes nothing: these are definitions.
use Rattle.std.specs.Prelude.{List, Bool, false, not, ℕ, length, eqb, ltb}
use Rattle.standard.specs.Choice.{pick}
use Rattle.standard.specs.Bytes.{four}
use Rattle.standard.specs.declared.Refusal.TheVariants.{InvalidLengthPrefix, OffsetIntoFixedPortion, OffsetSkipsVariableBytes, OffsetsAreDecreasing, OffsetOutOfBounds}
use Rattle.std.specs.declared.result.Result.{Result}
use Rattle.std.specs.declared.option.Option.{Option}
use Rattle.std.specs.declared.result.Result.TheVariants.{Ok, Err}
use Rattle.std.specs.declared.option.Option.TheVariants.{Some, None}
use Rattle.standard.specs.declared.Refusal.{Refusal}

-- "An offset is four bytes, little-endian": else 2, with the bytes left and 4
abbrev pub read_offset_lem : List ℕ → Result ℕ Refusal
read_offset_lem b = pick (ltb (length b) 4) (Err (InvalidLengthPrefix (length b) 4)) (Ok (four b 0))

-- 4: below the fixed bytes, where they are known
abbrev pub is_below_lem : ℕ → Option ℕ → Bool
is_below_lem o (Some n) = ltb o n
is_below_lem o None = false

-- 5: a first offset that is not at the end of the fixed bytes, where they are known
abbrev pub skips : ℕ → Option ℕ → Option ℕ → Bool
skips o (Some p) f = false
skips o None (Some n) = not (eqb o n)
skips o None None = false

-- 6: below the previous offset, where there is one
abbrev pub is_above_lem : Option ℕ → ℕ → Bool
is_above_lem (Some p) o = ltb o p
is_above_lem None o = false

-- "keeps its four tests in the crate's order: 4, 5, 7, 6"
abbrev pub sanitize_offset_lem : ℕ → Option ℕ → ℕ → Option ℕ → Result ℕ Refusal
sanitize_offset_lem o previous len fixed =
    pick (is_below_lem o fixed) (Err (OffsetIntoFixedPortion o))
    (pick (skips o previous fixed) (Err (OffsetSkipsVariableBytes o))
    (pick (ltb len o) (Err (OffsetOutOfBounds o))
    (pick (is_above_lem previous o) (Err (OffsetsAreDecreasing o))
    (Ok o))))
