-- A refusal of into_bytes changes nothing of its buffer: the count and the buffer go by the same tests. Assumes nothing.
use mathlib.Core.Path.{◌≡◌, refl}
use mathlib.Core.List.{List}
use Prim.Native.Nat.{ℕ}
use native.Mathlib.Omega.{arith}
use lib.ListN.{length}
use Rattle.standard.specs.Bits.{marked}
use Rattle.standard.specs.declared.Refusal.{Refusal}
use Rattle.bitfield.specs.Held.{raw_bytes_lem, answer, written}
use Rattle.bitfield.specs.Bitfields.{bits}
use Rattle.bitfield.specs.Lists.{BitList, list_room, list_into_bytes, list_buffer}
use Rattle.bitfield.specs.Vectors.{BitVector, vector_room, vector_into_bytes, vector_buffer}
use Rattle.std.specs.declared.result.Result.{Result}
use Rattle.std.specs.declared.result.Result.TheVariants.{Ok, Err}
use Rattle.std.specs.Prelude.{⊤}

kept : (t : Result ⊤ Refusal) (k : ℕ) (x out : List ℕ) (r : Refusal) → answer t k ≡ Err r → written t x out ≡ out
kept (Ok tt) k x out r e = let z : ◌≡◌ {A = ℕ} 0 1 = cc in absurd (omega arith)
kept (Err y) k x out r e = refl

pub list_into_bytes_refused : (a : BitList) (out : List ℕ) (r : Refusal) → list_into_bytes a (length out) ≡ Err r → list_buffer a out ≡ out
unfolding list_into_bytes list_buffer
list_into_bytes_refused a out r e = kept (list_room a (length out)) (length (marked (bits a))) (marked (bits a)) out r e

pub vector_into_bytes_refused : (a : BitVector) (out : List ℕ) (r : Refusal) → vector_into_bytes a (length out) ≡ Err r → vector_buffer a out ≡ out
unfolding vector_into_bytes vector_buffer
vector_into_bytes_refused a out r e = kept (vector_room a (length out)) (length (raw_bytes_lem (bits a))) (raw_bytes_lem (bits a)) out r e
