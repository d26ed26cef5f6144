-- Held bitfields, lists and vectors alike: each call's answer, in document 01's order of tests. What `fits` says of a length and a limit is what
-- the behaviour says: at most as many bits as the limit in a list, as many in a vector. Assumes nothing: these are definitions.
use Rattle.std.specs.Prelude.{List, Bool, ⊤, false, ℕ, get_or, set}
use Rattle.std.specs.declared.option.Option.{Option}
use Rattle.std.specs.declared.result.Result.{Result}
use Rattle.standard.specs.Choice.{and_also}
use Rattle.standard.specs.declared.Refusal.{Refusal}
use Rattle.standard.specs.declared.Refused.{Refused}
use Rattle.bitfield.specs.Body.{highest}
use Rattle.bitfield.specs.Bools.{both, either, without, flipped, moved, count, none_set, subset}
use Rattle.bitfield.specs.Raw.{clean}
use Rattle.bitfield.specs.Facts.{Kept}
use Rattle.bitfield.specs.Held.{bits_in, held, one_told_lem, two_told_lem, inside, up_to, and_then, answer, made}
use Rattle.bitfield.specs.declared.Bitfield.{Bitfield}

-- The bits of a bitfield
abbrev pub bits : {T : Type 0} → Bitfield T → List Bool
bits a = bits_in a.bytes a.len

-- A bit list is well formed with at most n bits, a bit vector with n bits, and neither above 2,048 or with a bit set behind its end.
abbrev pub good : {T : Type 0} → (ℕ → ℕ → Bool) → Bitfield T → Bool
good fits a = and_also (fits a.len a.n) (clean a.bytes a.len)

-- What the work asks of a bitfield: 256 raw bytes, at most 2,048 bits, nothing set behind them
abbrev pub WellFormed : {T : Type 0} → Bitfield T → Type 0
WellFormed a = Kept a.bytes a.len

-- What a call answers that makes a bitfield of one, or of two
abbrev pub Made : Type 0 → Type 0
Made T = Result (Bitfield T) (Refused (Bitfield T))

-- 23, 14
unfoldable pub field_told : {T : Type 0} → (ℕ → ℕ → Bool) → Bitfield T → Result ⊤ Refusal
field_told fits a = one_told_lem (good fits a) a.n

-- 23, 24, 14
unfoldable pub fields_told : {T : Type 0} → (ℕ → ℕ → Bool) → Bitfield T → Bitfield T → Result ⊤ Refusal
fields_told fits a b = two_told_lem (and_also (good fits a) (good fits b)) a.n b.n

unfoldable pub field_intersection : {T : Type 0} → (ℕ → ℕ → Bool) → Bitfield T → Bitfield T → Made T
field_intersection fits a b = made (fields_told fits a b) a (held (both (bits a) (bits b)) a.n)

unfoldable pub field_union : {T : Type 0} → (ℕ → ℕ → Bool) → Bitfield T → Bitfield T → Made T
field_union fits a b = made (fields_told fits a b) a (held (either (bits a) (bits b)) a.n)

unfoldable pub field_difference : {T : Type 0} → (ℕ → ℕ → Bool) → Bitfield T → Bitfield T → Made T
field_difference fits a b = made (fields_told fits a b) a (held (without (bits a) (bits b)) a.n)

unfoldable pub field_is_subset : {T : Type 0} → (ℕ → ℕ → Bool) → Bitfield T → Bitfield T → Result Bool Refusal
field_is_subset fits a b = answer (fields_told fits a b) (subset (bits a) (bits b))

unfoldable pub field_set : {T : Type 0} → (ℕ → ℕ → Bool) → Bitfield T → ℕ → Bool → Made T
field_set fits a i v = made (and_then (field_told fits a) (inside i a.len)) a (held (set (bits a) i v) a.n)

unfoldable pub field_get : {T : Type 0} → (ℕ → ℕ → Bool) → Bitfield T → ℕ → Result Bool Refusal
field_get fits a i = answer (and_then (field_told fits a) (inside i a.len)) (get_or (bits a) i false)

unfoldable pub field_highest_set_bit : {T : Type 0} → (ℕ → ℕ → Bool) → Bitfield T → Result (Option ℕ) Refusal
field_highest_set_bit fits a = answer (field_told fits a) (highest (bits a))

unfoldable pub field_is_zero : {T : Type 0} → (ℕ → ℕ → Bool) → Bitfield T → Result Bool Refusal
field_is_zero fits a = answer (field_told fits a) (none_set (bits a))

unfoldable pub field_num_set_bits : {T : Type 0} → (ℕ → ℕ → Bool) → Bitfield T → Result ℕ Refusal
field_num_set_bits fits a = answer (field_told fits a) (count (bits a))

unfoldable pub field_not : {T : Type 0} → (ℕ → ℕ → Bool) → Bitfield T → Made T
field_not fits a = made (field_told fits a) a (held (flipped (bits a)) a.n)

unfoldable pub field_shift_up : {T : Type 0} → (ℕ → ℕ → Bool) → Bitfield T → ℕ → Made T
field_shift_up fits a k = made (and_then (field_told fits a) (up_to k a.len)) a (held (moved k (bits a)) a.n)
