-- Held bit fields and the standard: what is written is the serialization of the bits, and exactly those bytes are read, as those bits. Assumes nothing.
use mathlib.Core.Path.{◌≡◌, refl}
use mathlib.Core.List.{List, ◌++◌}
use mathlib.Core.Bool.{Bool}
use Prim.Native.Nat.{ℕ, ◌≤◌, max}
use native.Mathlib.Omega.{arith}
use borrow.Author.Tests.{le-leb}
use lib.ListN.{length, drop}
use Rattle.standard.specs.Bits.{pack, marked}
use Rattle.standard.specs.Bytes.{Bytes, num}
use Rattle.standard.specs.Types.{bit_list, bit_vector}
use Rattle.standard.specs.Serialize.{serialize}
use Rattle.standard.proofs.Bits.{bits_of, bits_of-bit_num, num-pack, marked-injective, length-bits_of}
use Rattle.bitfield.specs.Body.{bit_list_body, bytes_for_lem}
use Rattle.bitfield.specs.Held.{held, limited, raw_bytes_lem}
use Rattle.bitfield.specs.Bitfields.{bits}
use Rattle.bitfield.specs.Lists.{BitList, of_body, list_from_bytes, list_room, list_buffer}
use Rattle.bitfield.specs.Vectors.{BitVector, vector_from_bytes, vector_room, vector_buffer}
use Rattle.bitfield.proofs.Standard.{list-sound, list-complete, vector-complete}
use Rattle.std.specs.declared.result.Result.{Result}
use Rattle.std.specs.declared.result.Result.TheVariants.{Ok, Err}
use Rattle.std.specs.Prelude.{⊤}
use Rattle.standard.specs.declared.Refusal.{Refusal}

small : (n : ℕ) → n ≤ 2048 → limited n ≡ Ok tt
unfolding limited
small n h = rw (le-leb n 2048 h)

-- What into_bytes writes is the serialization, and the rest of the buffer is kept.
pub list_written : (t limit : ℕ) (a : BitList) (out : List ℕ) → list_room a (length out) ≡ Ok tt
    → list_buffer a out ≡ serialize (bit_list t limit) (bits a) ++ drop (length (serialize (bit_list t limit) (bits a))) out
unfolding list_buffer serialize
list_written t limit a out e = rw e

pub raw-pack : (bs : List Bool) → 1 ≤ length bs → raw_bytes_lem bs ≡ pack bs
unfolding raw_bytes_lem pack
raw-pack bs h = let e : max 1 (bytes_for_lem (length bs)) ≡ bytes_for_lem (length bs) = omega arith in rw e

pub vector-written : (t n : ℕ) (a : BitVector) (out : List ℕ) → 1 ≤ length (bits a) → vector_room a (length out) ≡ Ok tt
    → vector_buffer a out ≡ serialize (bit_vector t n) (bits a) ++ drop (length (serialize (bit_vector t n) (bits a))) out
unfolding vector_buffer serialize
vector-written t n a out h e = rw (e, raw-pack (bits a) h)

-- from_bytes reads every serialization of at most N bits, as those bits,
pub list_read : (t : ℕ) (bs : List Bool) (n : ℕ) → n ≤ 2048 → length bs ≤ n → list_from_bytes (serialize (bit_list t n) bs) n ≡ Ok (held bs n)
unfolding list_from_bytes serialize
list_read t bs n h k =
    let b = list-complete bs n k in
    let s = (list-sound (marked bs) n (length bs) (Rattle.standard.proofs.Bits.bytes-marked bs) b).0 in
    let same : bits_of (length bs) (num (marked bs)) ≡ bs = marked-injective _ bs s in
    rw (small n h, b, same)

-- and nothing else.
from-body : (told : Result ⊤ Refusal) (body : Result ℕ Refusal) (l : List ℕ) (n : ℕ) (a : BitList) → of_body told body l n ≡ Ok a → (k : ℕ) × (body ≡ Ok k)
from-body (Err x) body l n a e = let w : ◌≡◌ {A = ℕ} 0 1 = cc in absurd (omega arith)
from-body (Ok tt) (Err x) l n a e = let w : ◌≡◌ {A = ℕ} 0 1 = cc in absurd (omega arith)
from-body (Ok tt) (Ok k) l n a e = (k, refl)

pub list_read_only : (t : ℕ) (l : List ℕ) (n : ℕ) (a : BitList) → Bytes l → list_from_bytes l n ≡ Ok a
    → (bs : List Bool) × (serialize (bit_list t n) bs ≡ l) × (length bs ≤ n)
unfolding list_from_bytes serialize
list_read_only t l n a b e =
    let k = from-body (limited n) (bit_list_body l n) l n a e in
    let s = list-sound l n k.0 b k.1 in
    (bits_of k.0 (num l), s.0, rw (length-bits_of k.0 (num l)) s.1)

pub vector-read : (t : ℕ) (bs : List Bool) → 1 ≤ length bs → length bs ≤ 2048
    → vector_from_bytes (serialize (bit_vector t (length bs)) bs) (length bs) ≡ Ok (held bs (length bs))
unfolding vector_from_bytes serialize
vector-read t bs h k =
    let same : bits_of (length bs) (num (pack bs)) ≡ bs = rw (num-pack bs) (bits_of-bit_num bs) in
    rw (small (length bs) k, vector-complete bs h, same)
