-- An array as raw bytes, and what into_bytes needs and writes. Assumes nothing.
use mathlib.Core.Path.{◌≡◌, sym, ap, ◌∙◌}
use mathlib.Core.List.{List, ◌++◌}
use Prim.Native.Nat.{ℕ, ◌+◌, ◌/◌, ◌≤◌, max}
use native.Mathlib.Omega.{arith}
use mir.Syntax.{w8}
use mir.Val.{Fits}
use lib.ListN.{length, get_or, take, drop}
use Rattle.standard.specs.Bits.{marked}
use Rattle.standard.proofs.Bits.{length_marked, length-packs, packs-le}
use Rattle.bitfield.specs.Body.{bytes_for_lem}
use Rattle.bitfield.specs.Raw.{Raw}
use Rattle.bitfield.specs.Facts.{Kept}
use Rattle.bitfield.specs.Held.{bits_in, raw_bytes_lem, room_for}
use Rattle.bitfield.specs.Lists.{BitList}
use Rattle.bitfield.specs.Vectors.{BitVector, vector_told_lem, vector_buffer}
use Rattle.bitfield.proofs.Tops.{bytes-known}
use Rattle.bitfield.proofs.Ties.{bits-length, bits-number, take-number}
use Rattle.std.specs.declared.result.Result.TheVariants.{Ok}

-- What an array of 256 bytes is known to be
pub raw-known : (l : List ℕ) → length l ≡ 256 → ((i : ℕ) → Fits w8 (get_or l i 0)) → Raw l
raw-known l h b = record { long = h; bytes = bytes-known l b }

-- Writing a list
pub list_needs : (a : BitList) → length (marked (bits_in a.bytes a.len)) ≡ a.len / 8 + 1
list_needs a = length_marked (bits_in a.bytes a.len) ∙ ap (λ (n : ℕ). n / 8 + 1) (bits-length a.bytes a.len)

-- Writing a vector
pub vector_needs : (a : BitVector) → length (raw_bytes_lem (bits_in a.bytes a.len)) ≡ max 1 (bytes_for_lem a.len)
unfolding raw_bytes_lem
vector_needs a = length-packs _ _ ∙ ap (λ (n : ℕ). max 1 (bytes_for_lem n)) (bits-length a.bytes a.len)

vector-bytes : (a : BitVector) → Kept a.bytes a.len → raw_bytes_lem (bits_in a.bytes a.len) ≡ take (max 1 (bytes_for_lem a.len)) a.bytes
unfolding raw_bytes_lem
vector-bytes a k =
    let h : max 1 (bytes_for_lem a.len) ≤ length a.bytes = rw k.raw.long (omega (arith, k.few)) in
    rw (bits-length a.bytes a.len, packs-le, bits-number a.bytes a.len k) (sym (take-number _ a.bytes k.raw.bytes h))

pub vector_put : (a : BitVector) (out o' : List ℕ) (need : ℕ) → Kept a.bytes a.len → need ≡ max 1 (bytes_for_lem a.len)
    → vector_told_lem a ≡ Ok tt → room_for need (length out) ≡ Ok tt → o' ≡ take need a.bytes ++ drop need out → o' ≡ vector_buffer a out
unfolding vector_buffer
vector_put a out o' need k n e r w =
    let f = rw (n, ← vector_needs a) at r in
    let m : need ≡ length (raw_bytes_lem (bits_in a.bytes a.len)) = n ∙ sym (vector_needs a) in
    let t : take need a.bytes ≡ raw_bytes_lem (bits_in a.bytes a.len) = rw n (sym (vector-bytes a k)) in
    rw (e, f) (w ∙ rw (t, m))
