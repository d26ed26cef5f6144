-- Bit vectors: what only they have, and what differs from lists. Assumes nothing: these are definitions.
use Rattle.std.specs.Prelude.{List, ⊤, ℕ, eqb, length}
use Rattle.std.specs.declared.result.Result.{Result}
use Rattle.standard.specs.Bits.{bits_of}
use Rattle.standard.specs.Bytes.{num}
use Rattle.standard.specs.declared.Refusal.{Refusal}
use Rattle.bitfield.specs.Body.{bit_vector_body}
use Rattle.bitfield.specs.Bools.{no_bits}
use Rattle.bitfield.specs.Held.{held, raw_bytes_lem, limited, room_for, and_then, answer, written}
use Rattle.bitfield.specs.Bitfields.{bits, field_told}
use Rattle.bitfield.specs.declared.Bitfield.{Bitfield}
use Rattle.bitfield.specs.declared.Fixed.{Fixed}

abbrev pub BitVector : Type 0
BitVector = Bitfield Fixed

-- 23, 14: a vector has as many bits as its limit says
abbrev pub vector_told_lem : BitVector → Result ⊤ Refusal
vector_told_lem a = field_told eqb a

unfoldable pub vector_new : ℕ → Result BitVector Refusal
vector_new n = answer (limited n) (held (no_bits n) n)

unfoldable pub vector_from_bytes : List ℕ → ℕ → Result BitVector Refusal
vector_from_bytes l n = answer (and_then (limited n) (bit_vector_body l n)) (held (bits_of n (num l)) n)

-- into_bytes: whether it went well, for a buffer of so many bytes
abbrev pub vector_room : BitVector → ℕ → Result ⊤ Refusal
vector_room a room = and_then (vector_told_lem a) (room_for (length (raw_bytes_lem (bits a))) room)

unfoldable pub vector_into_bytes : BitVector → ℕ → Result ℕ Refusal
vector_into_bytes a room = answer (vector_room a room) (length (raw_bytes_lem (bits a)))

unfoldable pub vector_buffer : BitVector → List ℕ → List ℕ
vector_buffer a out = written (vector_room a (length out)) (raw_bytes_lem (bits a)) out
