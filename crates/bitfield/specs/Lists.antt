-- Bit lists: what only they have, and what differs from vectors. Assumes nothing: these are definitions.
use Rattle.std.specs.Prelude.{List, ⊤, ℕ, leb, length}
use Rattle.std.specs.declared.result.Result.{Result}
use Rattle.std.specs.declared.result.Result.TheVariants.{Ok, Err}
use Rattle.standard.specs.Bits.{marked, bits_of}
use Rattle.standard.specs.Bytes.{num}
use Rattle.standard.specs.declared.Refusal.{Refusal}
use Rattle.bitfield.specs.Body.{bit_list_body}
use Rattle.bitfield.specs.Bools.{no_bits, widened}
use Rattle.bitfield.specs.Held.{held, limited, up_to, not_below, room_for, and_then, answer, made, written}
use Rattle.bitfield.specs.Bitfields.{bits, Made, field_told}
use Rattle.bitfield.specs.declared.Bitfield.{Bitfield}
use Rattle.bitfield.specs.declared.Variable.{Variable}

abbrev pub BitList : Type 0
BitList = Bitfield Variable

-- 23, 14: a list has at most as many bits as its limit says
abbrev pub list_told : BitList → Result ⊤ Refusal
list_told a = field_told leb a

unfoldable pub list_with_capacity : ℕ → ℕ → Result BitList Refusal
list_with_capacity k n = answer (and_then (limited n) (up_to k n)) (held (no_bits k) n)

-- What a body's test says, as an answer
abbrev pub of_body : Result ⊤ Refusal → Result ℕ Refusal → List ℕ → ℕ → Result BitList Refusal
of_body (Err x) body l n = Err x
of_body (Ok _) (Err x) l n = Err x
of_body (Ok _) (Ok k) l n = Ok (held (bits_of k (num l)) n)

unfoldable pub list_from_bytes : List ℕ → ℕ → Result BitList Refusal
list_from_bytes l n = of_body (limited n) (bit_list_body l n) l n

-- into_bytes: whether it went well, for a buffer of so many bytes
abbrev pub list_room : BitList → ℕ → Result ⊤ Refusal
list_room a room = and_then (list_told a) (room_for (length (marked (bits a))) room)

unfoldable pub list_into_bytes : BitList → ℕ → Result ℕ Refusal
list_into_bytes a room = answer (list_room a room) (length (marked (bits a)))

unfoldable pub list_buffer : BitList → List ℕ → List ℕ
list_buffer a out = written (list_room a (length out)) (marked (bits a)) out

unfoldable pub list_resize : BitList → ℕ → Made Variable
list_resize a m = made (and_then (list_told a) (and_then (limited m) (not_below m a.n))) a (held (widened m (bits a)) m)

unfoldable pub list_clone_zeroed : BitList → Made Variable
list_clone_zeroed a = made (list_told a) a (held (no_bits a.len) a.n)
