-- Bodies of a message: document 01's "Bits", in its order of tests. Assumes nothing: these are definitions.
use Rattle.std.specs.Prelude.{List, [], ◌∷◌, Bool, true, false, ℕ, ◌+◌, ◌*◌, ◌/◌, ◌^◌, length, eqb, leb, ltb}
use Rattle.standard.specs.Bytes.{num}
use Rattle.standard.specs.Choice.{pick}
use Rattle.standard.specs.Bits.{bits_of}
use Rattle.standard.specs.declared.Refusal.TheVariants.{OutOfBounds, MissingLengthInformation, ExcessBits, InvalidByteCount}
use Rattle.std.specs.declared.result.Result.{Result}
use Rattle.std.specs.declared.option.Option.{Option}
use Rattle.std.specs.declared.result.Result.TheVariants.{Ok, Err}
use Rattle.std.specs.declared.option.Option.TheVariants.{Some, None}
use Rattle.std.specs.Prelude.{⊤}
use Rattle.standard.specs.declared.Refusal.{Refusal}

-- The bytes that n bits need
abbrev pub bytes_for_lem : ℕ → ℕ
bytes_for_lem n = (n + 7) / 8

-- All bits of some bytes
abbrev pub all_bits : List ℕ → List Bool
all_bits l = bits_of (8 * length l) (num l)

abbrev pub on_top : Bool → Option ℕ → Option ℕ
on_top x (Some i) = Some (i + 1)
on_top true None = Some 0
on_top false None = None

-- The place of the highest bit that is set
unfoldable pub highest : List Bool → Option ℕ
highest [] = None
highest (x ∷ xs) = on_top x (highest xs)

-- k bits, of which there may be n; 9 has n twice
abbrev pub list_bits_lem : ℕ → ℕ → Result ℕ Refusal
list_bits_lem k n = pick (leb k n) (Ok k) (Err (OutOfBounds n n))

-- The highest bit is the mark: it stands in the last byte, behind at most n bits.
abbrev pub marked_at : Option ℕ → ℕ → ℕ → Result ℕ Refusal
marked_at None given n = Err MissingLengthInformation
marked_at (Some k) given n = pick (eqb given (k / 8 + 1)) (list_bits_lem k n) (Err (InvalidByteCount given (k / 8 + 1)))

-- A bit list of at most n bits: 11, 10, 12, 9
unfoldable pub bit_list_body : List ℕ → ℕ → Result ℕ Refusal
bit_list_body l n = pick (eqb (length l) 0) (Err ExcessBits) (marked_at (highest (all_bits l)) (length l) n)

-- Nothing is set from bit n on.
abbrev pub within : List ℕ → ℕ → Result ⊤ Refusal
within l n = pick (ltb (num l) (2 ^ n)) (Ok tt) (Err ExcessBits)

-- A bit vector of n bits: for none 11 unless the bytes are one zero byte; else 12, 11
unfoldable pub bit_vector_body : List ℕ → ℕ → Result ⊤ Refusal
bit_vector_body l n =
    pick (eqb n 0)
    (pick (eqb (length l) 1) (within l 0) (Err ExcessBits))
    (pick (eqb (length l) (bytes_for_lem n)) (within l n) (Err (InvalidByteCount (length l) (bytes_for_lem n))))
