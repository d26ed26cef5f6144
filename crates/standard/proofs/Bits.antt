-- Bits in bytes: a list of bits is a number, and the bytes that hold the bits are that number in bytes. Assumes nothing.
use mathlib.Core.Path.{◌≡◌, refl, sym, ap, ◌∙◌}
use mathlib.Core.List.{List, [], ◌∷◌, ◌++◌}
use mathlib.Core.Bool.{Bool, true, false}
use Prim.Native.Nat.{ℕ, zero, suc, ◌+◌, ◌-◌, ◌*◌, ◌/◌, ◌%◌, ◌^◌, ◌<◌, ◌≤◌}
use native.Mathlib.Nat.{pow-succ', mod-eq_of_lt, mul-le-mul_left}
use native.Mathlib.Omega.{arith}
use lib.Dec.{eqb}
use lib.Pow.{pow_pos, pow_mono, pow-add}
use lib.Pow as Pow
use lib.ListN.{length, take, drop, length-append, length-take}
use Rattle.standard.specs.Bytes.{Bytes, le, num}
unfoldable pub use Rattle.standard.specs.Bits.{bits_of}
use Rattle.standard.specs.Bits.{bit, bit_num, packs, pack, marked}
use Rattle.standard.proofs.Bytes.{length-le, bytes_le, le-num, num-le, num-bound}

-- Widths in bytes and in bits
pub pow_bytes : (w : ℕ) → 256 ^ w ≡ 2 ^ (8 * w)
pow_bytes zero = refl
pow_bytes (suc w) =
    let e : 8 * suc w ≡ 8 + 8 * w = omega arith in
    let q = pow_bytes w in
    rw (e, pow-add 2 8 (8 * w), pow-succ' 256 w) (omega arith)

-- The number of some bits, cut in two
pub bit_num-split : (k : ℕ) (bs : List Bool) → bit_num bs ≡ bit_num (take k bs) + 2 ^ k * bit_num (drop k bs)
unfolding bit_num
bit_num-split zero bs = omega arith
bit_num-split (suc k) [] = omega arith
bit_num-split (suc k) (x ∷ xs) = let r = bit_num-split k xs in rw (pow-succ' 2 k) (omega arith)

pub bit-bound : (x : Bool) → bit x < 2
bit-bound true = omega arith
bit-bound false = omega arith

pub bit_num-bound : (bs : List Bool) → bit_num bs < 2 ^ length bs
unfolding bit_num
bit_num-bound [] = omega arith
bit_num-bound (x ∷ xs) =
    let r = bit_num-bound xs in
    let b = bit-bound x in
    rw (pow-succ' 2 (length xs)) (omega arith)

first-bound : (k : ℕ) (bs : List Bool) → bit_num (take k bs) < 2 ^ k
first-bound k bs =
    let r = bit_num-bound (take k bs) in
    let m : length (take k bs) ≤ k = rw length-take (omega arith) in
    let p = pow_mono m in
    omega arith

pub bit_num-take : (k : ℕ) (bs : List Bool) → bit_num (take k bs) ≡ bit_num bs % 2 ^ k
bit_num-take k bs =
    let e : bit_num bs ≡ bit_num (drop k bs) * 2 ^ k + bit_num (take k bs) = omega (arith, bit_num-split k bs) in
    rw e (sym (Pow.low (bit_num (drop k bs)) k (first-bound k bs)))

pub bit_num-drop : (k : ℕ) (bs : List Bool) → bit_num (drop k bs) ≡ bit_num bs / 2 ^ k
bit_num-drop k bs =
    let e : bit_num bs ≡ bit_num (drop k bs) * 2 ^ k + bit_num (take k bs) = omega (arith, bit_num-split k bs) in
    rw e (sym (Pow.high (bit_num (drop k bs)) k (first-bound k bs)))

-- The bytes that hold some bits are the number of the bits in bytes.
pub packs-le : (n : ℕ) (bs : List Bool) → packs n bs ≡ le n (bit_num bs)
unfolding packs le
packs-le zero bs = refl
packs-le (suc n) bs = rw (packs-le n (drop 8 bs), bit_num-take 8 bs, bit_num-drop 8 bs)

pub length-packs : (n : ℕ) (bs : List Bool) → length (packs n bs) ≡ n
length-packs n bs = rw (packs-le n bs, length-le n (bit_num bs))

pub bytes-packs : (n : ℕ) (bs : List Bool) → Bytes (packs n bs)
bytes-packs n bs = rw (packs-le n bs) (bytes_le n (bit_num bs))

pub num-packs : (n : ℕ) (bs : List Bool) → length bs ≤ 8 * n → num (packs n bs) ≡ bit_num bs
num-packs n bs h =
    let b = bit_num-bound bs in
    let p = pow_mono h in
    let e = pow_bytes n in
    rw (packs-le n bs) (num-le n (bit_num bs) (omega arith))

-- The lowest bits of a number.
pub length-bits_of : (k n : ℕ) → length (bits_of k n) ≡ k
unfolding bits_of
length-bits_of zero n = refl
length-bits_of (suc k) n = ap suc (length-bits_of k (n / 2))

bit-odd : (m : ℕ) → m < 2 → bit (eqb m 1) ≡ m
bit-odd zero h = refl
bit-odd (suc zero) h = refl
bit-odd (suc (suc m)) h = absurd (omega arith)

pub bit_num-low : (k n : ℕ) → bit_num (bits_of k n) ≡ n % 2 ^ k
unfolding bits_of bit_num
bit_num-low zero n = omega arith
bit_num-low (suc k) n =
    let b = bit-odd (n % 2) (omega arith) in
    let r = bit_num-low k (n / 2) in
    let m = Pow.mod-pow-add n k 1 in
    let e : suc k ≡ k + 1 = omega arith in
    rw (b, r, e, m) (omega arith)

pub bit_num-bits_of : (k n : ℕ) → n < 2 ^ k → bit_num (bits_of k n) ≡ n
bit_num-bits_of k n h = bit_num-low k n ∙ mod-eq_of_lt h

pub odd-bit : (x : Bool) (m : ℕ) → eqb ((bit x + 2 * m) % 2) 1 ≡ x
odd-bit true m = let e : (1 + 2 * m) % 2 ≡ 1 = omega arith in rw e
odd-bit false m = let e : (0 + 2 * m) % 2 ≡ 0 = omega arith in rw e

pub half_bit : (x : Bool) (m : ℕ) → (bit x + 2 * m) / 2 ≡ m
half_bit true m = omega arith
half_bit false m = omega arith

pub bits_of-bit_num : (bs : List Bool) → bits_of (length bs) (bit_num bs) ≡ bs
unfolding bits_of bit_num
bits_of-bit_num [] = refl
bits_of-bit_num (x ∷ xs) = rw (odd-bit x (bit_num xs), half_bit x (bit_num xs), bits_of-bit_num xs)

-- Bit vectors
pub length-pack : (bs : List Bool) → length (pack bs) ≡ (length bs + 7) / 8
unfolding pack
length-pack bs = length-packs _ bs

pub bytes-pack : (bs : List Bool) → Bytes (pack bs)
unfolding pack
bytes-pack bs = bytes-packs _ bs

pub num-pack : (bs : List Bool) → num (pack bs) ≡ bit_num bs
unfolding pack
num-pack bs = num-packs ((length bs + 7) / 8) bs (omega arith)

pub bit_num-injective : (xs ys : List Bool) → length xs ≡ length ys → bit_num xs ≡ bit_num ys → xs ≡ ys
bit_num-injective xs ys h e = sym (bits_of-bit_num xs) ∙ rw (h, e) (bits_of-bit_num ys)

pub pack-injective : (xs ys : List Bool) → length xs ≡ length ys → pack xs ≡ pack ys → xs ≡ ys
pack-injective xs ys h e = bit_num-injective xs ys h (sym (num-pack xs) ∙ ap num e ∙ num-pack ys)

pub pack-bits : (l : List ℕ) (n : ℕ) → Bytes l → length l ≡ (n + 7) / 8 → num l < 2 ^ n → pack (bits_of n (num l)) ≡ l
unfolding pack
pack-bits l n b h k =
    rw (packs-le, length-bits_of n (num l), bit_num-bits_of n (num l) k, ← h) (le-num l b)

-- Bit lists
pub length_marked : (bs : List Bool) → length (marked bs) ≡ length bs / 8 + 1
unfolding marked
length_marked bs = rw (length-pack, length-append) (omega arith)

pub bytes-marked : (bs : List Bool) → Bytes (marked bs)
unfolding marked
bytes-marked bs = bytes-pack _

pub bit_num-marked : (bs : List Bool) → bit_num (bs ++ (true ∷ [])) ≡ bit_num bs + 2 ^ length bs
unfolding bit_num
bit_num-marked [] = refl
bit_num-marked (x ∷ xs) = let r = bit_num-marked xs in rw (pow-succ' 2 (length xs)) (omega arith)

pub num-marked : (bs : List Bool) → num (marked bs) ≡ bit_num bs + 2 ^ length bs
unfolding marked
num-marked bs = num-pack _ ∙ bit_num-marked bs

heads : (x y : Bool) (m n : ℕ) → bit x + 2 * m ≡ bit y + 2 * n → (x ≡ y) × (m ≡ n)
heads true true m n e = (refl, omega arith)
heads true false m n e = absurd (omega arith)
heads false true m n e = absurd (omega arith)
heads false false m n e = (refl, omega arith)

alone : (y : Bool) (m : ℕ) → 1 ≤ m → bit y + 2 * m ≡ 1 → ⊥
alone true m h e = omega arith
alone false m h e = omega arith

some-marked : (bs : List Bool) → 1 ≤ bit_num (bs ++ (true ∷ []))
some-marked bs = let r = bit_num-marked bs in let p = pow_pos (length bs) in omega arith

marks : (xs ys : List Bool) → bit_num (xs ++ (true ∷ [])) ≡ bit_num (ys ++ (true ∷ [])) → xs ≡ ys
unfolding bit_num
marks [] [] e = refl
marks [] (y ∷ ys) e = absurd (alone y _ (some-marked ys) (sym e))
marks (x ∷ xs) [] e = absurd (alone x _ (some-marked xs) e)
marks (x ∷ xs) (y ∷ ys) e =
    let q = heads x y _ _ e in
    rw (q.0, marks xs ys q.1)

pub marked-injective : (xs ys : List Bool) → marked xs ≡ marked ys → xs ≡ ys
unfolding marked
marked-injective xs ys e = marks xs ys (sym (num-pack _) ∙ ap num e ∙ num-pack _)

-- l is a marked list of k bits where its number has its highest bit at k, and its last byte holds that bit.
pub marked-bits :
    (l : List ℕ) (k : ℕ) → Bytes l → length l ≡ k / 8 + 1 → 2 ^ k ≤ num l → num l < 2 ^ suc k
    → marked (bits_of k (num l)) ≡ l
unfolding marked pack
marked-bits l k b h from to =
    let n = num l in
    let top : n % 2 ^ k ≡ n - 2 ^ k = rest n (2 ^ k) from (rw (pow-succ' 2 k) at to) in
    let e : bit_num (bits_of k n ++ (true ∷ [])) ≡ n =
    rw (bit_num-marked, length-bits_of k n, bit_num-low k n, top) (omega arith) in
    let w : (length (bits_of k n ++ (true ∷ [])) + 7) / 8 ≡ length l =
    rw (length-append, length-bits_of k n) (omega arith) in
    rw (packs-le, w, e) (le-num l b)
  where
    rest : (n p : ℕ) → p ≤ n → n < 2 * p → n % p ≡ n - p
    rest n p from to =
        let e : n ≡ 1 * p + (n - p) = omega arith in
        ap (λ (m : ℕ). m % p) e ∙ cut n p to
      where
        cut : (n p : ℕ) → n < 2 * p → (1 * p + (n - p)) % p ≡ n - p
        cut n p to = lib.Arith.digits_mod 1 (omega arith)

-- The number of two lists of bytes, one behind the other
pub num-append : (a b : List ℕ) → num (a ++ b) ≡ num a + 256 ^ length a * num b
unfolding num
num-append [] b = omega arith
num-append (x ∷ xs) b = let r = num-append xs b in rw (pow-succ' 256 (length xs)) (omega arith)

-- The highest set bit of bytes whose last one, x, has its highest bit at h: between two powers of two
pub top_from : (l : List ℕ) (x h : ℕ) → 2 ^ h ≤ x → 2 ^ (8 * length l + h) ≤ num (l ++ (x ∷ []))
unfolding num
top_from l x h from =
    let p = pow_bytes (length l) in
    let m = mul-le-mul_left (256 ^ length l) from in
    rw (num-append l (x ∷ []), pow-add 2 (8 * length l) h, ← p) (omega arith)

pub top_to : (l : List ℕ) (x h : ℕ) → Bytes l → x < 2 ^ suc h → num (l ++ (x ∷ [])) < 2 ^ suc (8 * length l + h)
unfolding num
top_to l x h b to =
    let p = pow_bytes (length l) in
    let n = num-bound l b in
    let m = mul-le-mul_left {m = suc x} (256 ^ length l) to in
    let e : suc (8 * length l + h) ≡ 8 * length l + suc h = omega arith in
    rw (num-append l (x ∷ []), e, pow-add 2 (8 * length l) (suc h), ← p) (omega arith)
