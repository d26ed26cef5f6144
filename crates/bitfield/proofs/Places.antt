-- One byte of many, and one bit of a byte, as parts of the number that the bytes say. Assumes nothing.
use mathlib.Core.Path.{◌≡◌, refl, sym, ap, ◌∙◌}
use mathlib.Core.List.{List, [], ◌∷◌}
use mathlib.Core.Bool.{Bool}
use Prim.Native.Nat.{ℕ, zero, suc, ◌+◌, ◌-◌, ◌*◌, ◌/◌, ◌%◌, ◌^◌, ◌<◌, ◌≤◌, min}
use native.Mathlib.Nat.{pow-succ', mod-le, add-zero}
use native.Mathlib.Omega.{arith}
use lib.Arith.{digits_div}
use lib.Bits.{bit_and, bit_or, and_step, and_mask, and_le_l, or_add_and}
use lib.Pow.{pow_pos, pow_mono, pow-add, shr-shr, shl_exact}
use lib.Dec.{eqb}
use lib.Pow as Pow
use lib.ListN.{length, get_or, set, take, drop, length-set, take-append-drop}
use lib.Seq.{drop-cons, length-take-le}
use Rattle.standard.specs.Bytes.{Bytes, le, num}
use Rattle.standard.specs.Bits.{bit}
use Rattle.standard.proofs.Bytes.{num-bound, bytes_take}
use Rattle.standard.proofs.Bits.{pow_bytes, num-append}
use Rattle.bitfield.specs.Body.{bytes_for_lem}
use Rattle.bitfield.specs.Raw.{Raw, mask_of}
use Rattle.bitfield.specs.Facts.{Put}
use Rattle.bitfield.proofs.Tops.{byte_at}
use Rattle.bitfield.proofs.Bodies.{cut_below}
use Rattle.bitfield.proofs.Numbers.{raw-le}

-- The bytes before byte i, byte i, and the bytes behind it
pub num-at : (l : List ℕ) (i : ℕ) → i < length l → num l ≡ num (take i l) + 256 ^ i * (get_or l i 0 + 256 * num (drop (suc i) l))
unfolding num
num-at l i h =
    let e = num-append (take i l) (drop i l) in
    rw (take-append-drop i l, length-take-le i l (omega arith), drop-cons l i 0 h) at e

pub first-bound : (l : List ℕ) (i : ℕ) → Bytes l → i ≤ length l → num (take i l) < 256 ^ i
first-bound l i b h = rw (length-take-le i l h) at (num-bound (take i l) (bytes_take i l b))

-- Byte i of the number
pub num-byte : (l : List ℕ) (i : ℕ) → Bytes l → i < length l → num l / 256 ^ i % 256 ≡ get_or l i 0
num-byte l i b h =
    let f = first-bound l i b (omega arith) in
    let x = byte_at l i b in
    let rest = num (drop (suc i) l) in
    let e : num l ≡ (get_or l i 0 + 256 * rest) * 256 ^ i + num (take i l) = omega (arith, num-at l i h) in
    let q : num l / 256 ^ i ≡ get_or l i 0 + 256 * rest = rw e (digits_div (get_or l i 0 + 256 * rest) f) in
    rw q (omega arith)

-- A byte changed
pub num-set : (l : List ℕ) (i v : ℕ) → i < length l → num (set l i v) + 256 ^ i * get_or l i 0 ≡ num l + 256 ^ i * v
unfolding num
num-set [] i v h = absurd (omega arith)
num-set (x ∷ xs) zero v h = omega arith
num-set (x ∷ xs) (suc i) v h = let r = num-set xs i v (omega arith) in rw (pow-succ' 256 i) (omega arith)

pub bytes-set : (l : List ℕ) (i v : ℕ) → Bytes l → v < 256 → Bytes (set l i v)
unfolding Bytes
bytes-set [] i v b h = tt
bytes-set (x ∷ xs) zero v b h = (h, b.1)
bytes-set (x ∷ xs) (suc i) v b h = (b.0, bytes-set xs i v b.1 h)

pub raw-set : (l : List ℕ) (i v : ℕ) → Raw l → v < 256 → Raw (set l i v)
raw-set l i v r h = record { long = length-set l i v ∙ r.long; bytes = bytes-set l i v r.bytes h }

-- Bit i is bit i mod 8 of byte i/8.
pub bit-place : (l : List ℕ) (i : ℕ) → Bytes l → i / 8 < length l → num l / 2 ^ i % 2 ≡ get_or l (i / 8) 0 / 2 ^ (i % 8) % 2
bit-place l i b h =
    let e : i ≡ 8 * (i / 8) + i % 8 = omega arith in
    let s = shr-shr (num l) (8 * (i / 8)) (i % 8) in
    let p = pow_bytes (i / 8) in
    let x = num-byte l (i / 8) b h in
    let j : i % 8 < 8 = omega arith in
    ap (λ (k : ℕ). num l / 2 ^ k % 2) e ∙ rw (← s, ← p, ← x) (low_bit (num l / 256 ^ (i / 8)) (i % 8) j)
  where
    -- a bit below 8 is one of the lowest byte
    low_bit : (n j : ℕ) → j < 8 → n / 2 ^ j % 2 ≡ n % 256 / 2 ^ j % 2
    low_bit n zero h = omega arith
    low_bit n (suc zero) h = omega arith
    low_bit n (suc (suc zero)) h = omega arith
    low_bit n (suc (suc (suc zero))) h = omega arith
    low_bit n (suc (suc (suc (suc zero)))) h = omega arith
    low_bit n (suc (suc (suc (suc (suc zero))))) h = omega arith
    low_bit n (suc (suc (suc (suc (suc (suc zero)))))) h = omega arith
    low_bit n (suc (suc (suc (suc (suc (suc (suc zero))))))) h = omega arith
    low_bit n (suc (suc (suc (suc (suc (suc (suc (suc j)))))))) h = absurd (omega arith)

-- What is left of x without y
pub and_rest : (k x y : ℕ) → x < 2 ^ k → y < 2 ^ k → bit_and x (2 ^ k - 1 - y) + bit_and x y ≡ x
and_rest zero x y h k =
    let e : x ≡ 0 = omega arith in
    let p = and_le_l x (2 ^ 0 - 1 - y) in
    let q = and_le_l x y in
    omega arith
and_rest (suc k) x y h g =
    let h' = rw (pow-succ' 2 k) at h in
    let g' = rw (pow-succ' 2 k) at g in
    let r = and_rest k (x / 2) (y / 2) (omega arith) (omega arith) in
    let half : (2 * 2 ^ k - 1 - y) / 2 ≡ 2 ^ k - 1 - y / 2 = omega arith in
    let odd : (2 * 2 ^ k - 1 - y) % 2 ≡ 1 - y % 2 = omega arith in
    let bits = one-rest (x % 2) (y % 2) (omega arith) (omega arith) in
    rw (pow-succ' 2 k, and_step x (2 * 2 ^ k - 1 - y), and_step x y, half, odd) (halves x _ _ _ _ r bits)
  where
    one-rest : (p q : ℕ) → p < 2 → q < 2 → min p (1 - q) + min p q ≡ p
    one-rest p q h k = omega arith

    halves : (x a b m n : ℕ) → a + b ≡ x / 2 → m + n ≡ x % 2 → a * 2 + m + (b * 2 + n) ≡ x
    halves x a b m n h k = omega arith

pub and_not : (x y : ℕ) → x < 256 → y < 256 → bit_and x (255 - y) ≡ x - bit_and x y
and_not x y h k = omega (arith, and_rest 8 x y h k)

-- One bit alone: and, or
and_one : (x j : ℕ) → bit_and x (2 ^ j) ≡ 2 ^ j * (x / 2 ^ j % 2)
and_one x zero = let m = and_mask x 1 in omega (arith, m)
and_one x (suc j) =
    let r = and_one (x / 2) j in
    let p = pow-succ' 2 j in
    let half : 2 * 2 ^ j / 2 ≡ 2 ^ j = omega arith in
    let odd : 2 * 2 ^ j % 2 ≡ 0 = omega arith in
    let bits : min (x % 2) 0 ≡ 0 = omega arith in
    let s : x / 2 / 2 ^ j ≡ x / (2 * 2 ^ j) = rw (← p) (shr-shr x 1 j ∙ ap (λ (n : ℕ). x / 2 ^ n) (omega arith)) in
    rw (p, and_step x (2 * 2 ^ j), half, odd, bits, r, s) (omega arith)

pub bit-on : (x j : ℕ) → bit_or x (2 ^ j) + 2 ^ j * (x / 2 ^ j % 2) ≡ x + 2 ^ j
bit-on x j = rw (← and_one x j) (or_add_and x (2 ^ j))

pub bit_off : (x j : ℕ) → x < 256 → j < 8 → bit_and x (255 - 2 ^ j) + 2 ^ j * (x / 2 ^ j % 2) ≡ x
bit_off x j h k =
    let p : 2 ^ suc j ≤ 2 ^ 8 = pow_mono k in
    let q = pow-succ' 2 j in
    let z = pow_pos j in
    rw (← and_one x j) (and_rest 8 x (2 ^ j) h (omega arith))

-- A bit of a byte changed, as a number
pub put-bit : (l : List ℕ) (i v' : ℕ) (v : Bool) → Raw l → i < 2048 → v' < 256
    → v' + 2 ^ (i % 8) * (get_or l (i / 8) 0 / 2 ^ (i % 8) % 2) ≡ get_or l (i / 8) 0 + 2 ^ (i % 8) * bit v
    → Put l i v (set l (i / 8) v')
put-bit l i v' v r h b e =
    let k : i / 8 < length l = rw r.long (omega arith) in
    let s = num-set l (i / 8) v' k in
    let d : 2 ^ i ≡ 256 ^ (i / 8) * 2 ^ (i % 8) = rw (pow_bytes (i / 8), ← pow-add 2 (8 * (i / 8)) (i % 8)) (ap (λ (n : ℕ). 2 ^ n) (omega arith)) in
    let q = bit-place l i r.bytes k in
    record { raw = raw-set l (i / 8) v' r b; number = rw (q, d) (scaled _ _ _ _ _ _ _ (bit v) s e) }
  where
    scaled : (n n' p x x' m o b : ℕ) → n' + p * x ≡ n + p * x' → x' + m * o ≡ x + m * b → n' + p * m * o ≡ n + p * m * b
    scaled n n' p x x' m o b s e =
        let t : p * (x' + m * o) ≡ p * (x + m * b) = ap (λ (z : ℕ). p * z) e in
        omega arith

-- The mask keeps the bits below the end.
pub mask_keeps : (x len : ℕ) → 0 < len → bit_and x (mask_of len) ≡ x % 2 ^ ((len - 1) % 8 + 1)
unfolding mask_of
mask_keeps x zero h = absurd (omega arith)
mask_keeps x (suc n) h = let e : suc n - 1 ≡ n = omega arith in rw e (and_mask x (n % 8 + 1))

-- The first q bytes of a number, and the k lowest bits of the next one
low_part : (a x q k : ℕ) → a < 256 ^ q → (a + 256 ^ q * x) % 2 ^ (k + 8 * q) ≡ a + 256 ^ q * (x % 2 ^ k)
low_part a x q k h =
    let p = pow_bytes q in
    let b : a < 2 ^ (8 * q) = omega arith in
    let e : a + 256 ^ q * x ≡ x * 2 ^ (8 * q) + a = rw p (omega arith) in
    let m = Pow.mod-pow-add (x * 2 ^ (8 * q) + a) k (8 * q) in
    let n = rw (Pow.high x (8 * q) b, Pow.low x (8 * q) b) at m in
    rw (e, n, p) (omega arith)

-- One byte at the end of those in use, cut to its k lowest bits
cut_at : (l : List ℕ) (q k : ℕ) → Raw l → q < 256 → num (drop (suc q) l) ≡ 0
    → set l q (get_or l q 0 % 2 ^ k) ≡ le 256 (num l % 2 ^ (k + 8 * q))
cut_at l q k r h z =
    let i : q < length l = rw r.long h in
    let x = get_or l q 0 in
    let b = byte_at l q r.bytes in
    let m = mod-le x (2 ^ k) in
    let n = num-at l q i in
    let n' : num l ≡ num (take q l) + 256 ^ q * x = rw z at n ∙ omega arith in
    let s = num-set l q (x % 2 ^ k) i in
    let w = low_part (num (take q l)) x q k (first-bound l q r.bytes (omega arith)) in
    let e : num (set l q (x % 2 ^ k)) ≡ num l % 2 ^ (k + 8 * q) = rw (n', w) (omega arith) in
    raw-le _ (raw-set l q (x % 2 ^ k) r (omega arith)) ∙ ap (le 256) e

pub cut_law : (l : List ℕ) (len : ℕ) → Raw l → len ≤ 2048 → 0 < len → num l < 2 ^ (8 * bytes_for_lem len)
    → set l (bytes_for_lem len - 1) (bit_and (get_or l (bytes_for_lem len - 1) 0) (mask_of len)) ≡ le 256 (num l % 2 ^ len)
cut_law l len r h p b =
    let q : bytes_for_lem len - 1 ≡ (len - 1) / 8 = omega arith in
    let w : bytes_for_lem len ≡ suc ((len - 1) / 8) = omega arith in
    let e : len ≡ (len - 1) % 8 + 1 + 8 * ((len - 1) / 8) = omega arith in
    let z = cut_below l (suc ((len - 1) / 8)) 0 r.bytes (rw r.long (omega arith)) (rw (w, ← add-zero (8 * suc ((len - 1) / 8))) at b) in
    rw (q, mask_keeps _ len p) (cut_at l ((len - 1) / 8) ((len - 1) % 8 + 1) r (omega arith) (omega arith) ∙ ap (λ (n : ℕ). le 256 (num l % 2 ^ n)) (sym e))

-- Nothing in use: nothing to cut
pub cut-none : (l : List ℕ) (len : ℕ) → Raw l → bytes_for_lem len ≡ 0 → num l < 2 ^ (8 * bytes_for_lem len) → l ≡ le 256 (num l % 2 ^ len)
cut-none l len r e b =
    let z : num l ≡ 0 = omega (arith, rw e at b) in
    let m = mod-le (num l) (2 ^ len) in
    let n : num l % 2 ^ len ≡ num l = omega arith in
    rw n (raw-le l r)

-- The mask is made by a shift of all ones.
pub mask_shifted : (len : ℕ) → (len ≡ 0 → ⊥) → 255 / 2 ^ ((8 - len % 8) % 8) ≡ mask_of len
unfolding mask_of
mask_shifted zero h = absurd (h refl)
mask_shifted (suc n) h = let e : (8 - suc n % 8) % 8 ≡ 7 - n % 8 = omega arith in rw e (ones_above (n % 8) (omega arith))
  where
    ones_above : (r : ℕ) → r < 8 → 255 / 2 ^ (7 - r) ≡ 2 ^ (r + 1) - 1
    ones_above zero h = refl
    ones_above (suc zero) h = refl
    ones_above (suc (suc zero)) h = refl
    ones_above (suc (suc (suc zero))) h = refl
    ones_above (suc (suc (suc (suc zero)))) h = refl
    ones_above (suc (suc (suc (suc (suc zero))))) h = refl
    ones_above (suc (suc (suc (suc (suc (suc zero)))))) h = refl
    ones_above (suc (suc (suc (suc (suc (suc (suc zero))))))) h = refl
    ones_above (suc (suc (suc (suc (suc (suc (suc (suc r)))))))) h = absurd (omega arith)

-- A one moved to a place of a byte is not lost.
pub one_shifted : (j : ℕ) → j < 8 → (1 * 2 ^ j) % 256 ≡ 2 ^ j
one_shifted j h = shl_exact {a = 1} 1 j 8 (omega arith) (omega arith) ∙ omega arith

-- The lowest bit of what is left behind a shift
pub bit_test : (n m : ℕ) → n ≡ m % 2 → eqb (bit_and m 1) 1 ≡ eqb n 1
bit_test n m e = let k = and_mask m 1 in rw (k, e)
