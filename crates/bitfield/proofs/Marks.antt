-- The mark behind the last bit: the byte that holds the end, and the bytes that are written. Assumes nothing.
use mathlib.Core.Path.{◌≡◌, sym, ap, ◌∙◌}
use mathlib.Core.List.{List, [], ◌∷◌, ◌++◌, append_assoc}
use mathlib.Core.Bool.{true}
use Prim.Native.Nat.{ℕ, zero, suc, ◌+◌, ◌*◌, ◌/◌, ◌%◌, ◌^◌, ◌<◌, ◌≤◌}
use native.Mathlib.Nat.{mod-eq_of_lt, pow-succ', one-le-pow, div-div-eq-div-mul, add-mul-mod_self_left, add-mul-div_left}
use native.Mathlib.Numerals.{add-one}
use native.Mathlib.Omega.{arith}
use lib.Bits.{bit_or, or_shifted_r}
use lib.Pow.{pow_mono, pow-add}
use lib.Pow as Pow
use lib.ListN.{length, get_or, set, take, drop, length-append}
use lib.Seq.{drop-cons, set_at, length-take-le}
use Rattle.standard.specs.Bytes.{le, num}
use Rattle.standard.specs.Bits.{bit_num, pack, marked}
use Rattle.standard.proofs.Bits.{bits_of, length-bits_of, bit_num-bits_of, packs-le, pow_bytes, bit_num-marked}
use Rattle.bitfield.specs.Facts.{Kept}
use Rattle.bitfield.specs.Held.{bits_in}
use Rattle.bitfield.proofs.Places.{num-byte, one_shifted}
use Rattle.bitfield.proofs.Ties.{le-cut, take-number}

-- The mark: the byte that holds the end has the bits below it, and the mark.
end-byte : (a : List ℕ) (len : ℕ) → Kept a len → num a / 256 ^ (len / 8) < 2 ^ (len % 8)
end-byte a len k =
    let p = pow_bytes (len / 8) in
    let e : 2 ^ len ≡ 2 ^ (len % 8 + 8 * (len / 8)) = ap (λ (n : ℕ). 2 ^ n) (omega arith) in
    rw p (Pow.shr_lt (len % 8) (8 * (len / 8)) (rw e at k.small))

pub mark_small : (a : List ℕ) (len : ℕ) → Kept a len → num a / 256 ^ (len / 8) + 2 ^ (len % 8) < 256
mark_small a len k =
    let b = end-byte a len k in
    let p : 2 ^ (len % 8) ≤ 128 = pow_mono {j = 7} (omega arith) in
    omega arith

pub mark_here : (a : List ℕ) (len : ℕ) → Kept a len → len / 8 < 256
    → bit_or (get_or a (len / 8) 0) ((1 * 2 ^ (len % 8)) % 256) ≡ num a / 256 ^ (len / 8) + 2 ^ (len % 8)
mark_here a len k h =
    let b = end-byte a len k in
    let p : 2 ^ (len % 8) ≤ 128 = pow_mono {j = 7} (omega arith) in
    let y = num-byte a (len / 8) k.raw.bytes (rw k.raw.long h) in
    let e : get_or a (len / 8) 0 ≡ num a / 256 ^ (len / 8) = sym y ∙ omega arith in
    let o = or_shifted_r 1 (len % 8) (num a / 256 ^ (len / 8)) b in
    let one : 1 * 2 ^ (len % 8) ≡ 2 ^ (len % 8) = omega arith in
    rw (one_shifted (len % 8) (omega arith), e) (rw one at o ∙ omega arith)

pub mark_past : (a : List ℕ) (len : ℕ) → Kept a len → 256 ≤ len / 8
    → (1 * 2 ^ (len % 8)) % 256 ≡ num a / 256 ^ (len / 8) + 2 ^ (len % 8)
mark_past a len k h =
    let f = k.few in
    let b = end-byte a len k in
    let r : len % 8 ≡ 0 = omega arith in
    let z = rw r at b in
    rw (one_shifted (len % 8) (omega arith)) (omega arith)

le_snoc : (q z : ℕ) → le (suc q) z ≡ le q z ++ (z / 256 ^ q % 256 ∷ [])
unfolding le
le_snoc zero z = let e : z / 1 ≡ z = omega arith in rw e
le_snoc (suc q) z =
    let e : z / 256 / 256 ^ q ≡ z / 256 ^ suc q = div-div-eq-div-mul z 256 (256 ^ q) ∙ ap (λ (n : ℕ). z / n) (sym (pow-succ' 256 q)) in
    let r = le_snoc q (z / 256) in
    ap (λ (l : List ℕ). z % 256 ∷ l) (r ∙ rw e)

-- The marked bytes: those before the one that holds the end, and that one with the mark
pub marked-bytes : (a : List ℕ) (len : ℕ) → Kept a len
    → marked (bits_in a len) ≡ take (len / 8) a ++ ((num a / 256 ^ (len / 8) + 2 ^ (len % 8)) ∷ [])
unfolding marked pack bits_in
marked-bytes a len k =
    let q = len / 8 in
    let bs = bits_of len (num a) in
    let w : (length (bs ++ (true ∷ [])) + 7) / 8 ≡ suc q = rw (length-append bs (true ∷ []), length-bits_of len (num a)) (omega arith) in
    let n : bit_num (bs ++ (true ∷ [])) ≡ num a + 256 ^ q * 2 ^ (len % 8) =
    rw (bit_num-marked bs, bit_num-bits_of len (num a) k.small, length-bits_of len (num a), pow_bytes q, ← pow-add 2 (8 * q) (len % 8))
    (ap (λ (m : ℕ). num a + 2 ^ m) (omega arith)) in
    let P = one-le-pow q 256 (omega arith) in
    let front : le q (num a + 256 ^ q * 2 ^ (len % 8)) ≡ take q a =
    sym (le-cut q _) ∙ ap (le q) (add-mul-mod_self_left (num a) (256 ^ q) (2 ^ (len % 8))) ∙ le-cut q (num a)
    ∙ sym (take-number q a k.raw.bytes (rw k.raw.long (omega (arith, k.few)))) in
    let last : (num a + 256 ^ q * 2 ^ (len % 8)) / 256 ^ q % 256 ≡ num a / 256 ^ q + 2 ^ (len % 8) =
    ap (λ (m : ℕ). m % 256) (add-mul-div_left (num a) (2 ^ (len % 8)) P) ∙ mod-eq_of_lt (mark_small a len k) in
    rw (packs-le, w, n, le_snoc q (num a + 256 ^ q * 2 ^ (len % 8)), front, last)

pub put-marked : (a o p : List ℕ) (len v : ℕ) → Kept a len → len / 8 + 1 ≤ length o → p ≡ take (len / 8) a ++ drop (len / 8) o
    → v ≡ num a / 256 ^ (len / 8) + 2 ^ (len % 8) → set p (len / 8) v ≡ marked (bits_in a len) ++ drop (len / 8 + 1) o
put-marked a o p len v k h e m =
    let q = len / 8 in
    let l : length (take q a) ≡ q = length-take-le q a (rw k.raw.long (omega (arith, k.few))) in
    rw (e, drop-cons o q 0 (omega arith), set_at (take q a) (get_or o q 0) (drop (suc q) o) v q l, marked-bytes a len k, m, add-one q, append_assoc)
