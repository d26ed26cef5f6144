-- Laws about bytes: what is done with each pair of bytes is done with the numbers that the bytes say. Assumes nothing.
use mathlib.Core.Path.{◌≡◌, refl, sym, ap, ◌∙◌}
use mathlib.Core.List.{List, ◌++◌}
use Prim.Native.Nat.{ℕ, zero, suc, ◌+◌, ◌-◌, ◌*◌, ◌/◌, ◌%◌, ◌^◌, ◌<◌, ◌≤◌}
use native.Mathlib.Nat.{pow-succ'}
use native.Mathlib.Omega.{arith}
use lib.Bits.{bit_and, bit_or, and_mod, or_mod, and_shr, or_shr, and_le_l}
use lib.ListN.{take, replicate}
use Rattle.standard.specs.Bytes.{le, num}
use Rattle.standard.proofs.Bytes.{le-num}
use Rattle.bitfield.specs.Raw.{taken_out, turned, zipped, firsts, Raw}

-- f works on each byte by itself.
pub record Bytewise (f : ℕ → ℕ → ℕ) : Type 0 where
  pub first : (x y : ℕ) → f x y % 256 ≡ f (x % 256) (y % 256)
  pub rest : (x y : ℕ) → f x y / 256 ≡ f (x / 256) (y / 256)

pub and_bytewise : Bytewise bit_and
and_bytewise = record { first = λ x y. and_mod x y 8; rest = λ x y. and_shr x y 8 }

pub or_bytewise : Bytewise bit_or
or_bytewise = record { first = λ x y. or_mod x y 8; rest = λ x y. or_shr x y 8 }

module _ (x y : ℕ) where
  abbrev lows : ℕ
  lows = bit_and (x % 256) (y % 256)

  abbrev highs : ℕ
  highs = bit_and (x / 256) (y / 256)

  less : (a h l : ℕ) → a % 256 ≡ l → a / 256 ≡ h → l ≤ x % 256 → h ≤ x / 256
      → ((x - a) % 256 ≡ x % 256 - l) × ((x - a) / 256 ≡ x / 256 - h)
  less a h l p q r s = (omega arith, omega arith)

  split : ((x - bit_and x y) % 256 ≡ x % 256 - lows) × ((x - bit_and x y) / 256 ≡ x / 256 - highs)
  split = less (bit_and x y) highs lows (and_mod x y 8) (and_shr x y 8) (and_le_l (x % 256) (y % 256)) (and_le_l (x / 256) (y / 256))

pub and_not_bytewise : Bytewise taken_out
and_not_bytewise = record { first = λ x y. (split x y).0; rest = λ x y. (split x y).1 }

-- Numbers in bytes, byte by byte
pub le-zipped : (f : ℕ → ℕ → ℕ) → Bytewise f → (n x y : ℕ) → zipped f (le n x) (le n y) ≡ le n (f x y)
unfolding zipped le
le-zipped f w zero x y = refl
le-zipped f w (suc n) x y = rw (w.first x y, w.rest x y, le-zipped f w n (x / 256) (y / 256))

-- The complement of n bytes
pub le_not : (n x y : ℕ) → x < 256 ^ n → zipped turned (le n x) (le n y) ≡ le n (256 ^ n - 1 - x)
unfolding zipped le
le_not zero x y h = refl
le_not (suc n) x y h =
    let k = rw (pow-succ' 256 n) at h in
    let first : (256 * 256 ^ n - 1 - x) % 256 ≡ 255 - x % 256 = omega arith in
    let rest : (256 * 256 ^ n - 1 - x) / 256 ≡ 256 ^ n - 1 - x / 256 = omega arith in
    rw (pow-succ' 256 n, first, rest, le_not n (x / 256) (y / 256) (omega arith))

pub le-zero : (n : ℕ) → le n 0 ≡ replicate n 0
unfolding le
le-zero zero = refl
le-zero (suc n) = rw (le-zero n)

-- A number that i bytes hold has zeros behind them.
pub le-short : (i j z : ℕ) → z < 256 ^ i → le (i + j) z ≡ le i z ++ replicate j 0
unfolding le
le-short zero j z h = let e : z ≡ 0 = omega arith in let q : 0 + j ≡ j = omega arith in rw (e, q, le-zero j)
le-short (suc i) j z h =
    let k = rw (pow-succ' 256 i) at h in
    let e : suc i + j ≡ suc (i + j) = omega arith in
    rw (e, le-short i j (z / 256) (omega arith))

pub take-le : (i n x : ℕ) → i ≤ n → take i (le n x) ≡ le i x
unfolding le
take-le zero n x h = refl
take-le (suc i) zero x h = absurd (omega arith)
take-le (suc i) (suc n) x h = rw (take-le i n (x / 256) (omega arith))

pub raw-le : (l : List ℕ) → Raw l → l ≡ le 256 (num l)
raw-le l r = sym (rw r.long at (le-num l r.bytes))

padded : (i z : ℕ) → i ≤ 256 → z < 256 ^ i → le i z ++ replicate (256 - i) 0 ≡ le 256 z
padded i z h b =
    let e : i + (256 - i) ≡ 256 = omega arith in
    sym (le-short i (256 - i) z b) ∙ ap (λ (n : ℕ). le n z) e

first-le : (l : List ℕ) (i : ℕ) → Raw l → i ≤ 256 → take i l ≡ le i (num l)
first-le l i r h = ap (take i) (raw-le l r) ∙ take-le i 256 (num l) h

-- What the loop makes of two bitfields' bytes, as a number
pub firsts-le : (f : ℕ → ℕ → ℕ) → Bytewise f → (i : ℕ) (a b : List ℕ) → Raw a → Raw b → i ≤ 256
    → f (num a) (num b) < 256 ^ i → firsts f i a b ≡ le 256 (f (num a) (num b))
unfolding firsts
firsts-le f w i a b r s h k =
    rw (first-le a i r h, first-le b i s h, le-zipped f w i (num a) (num b)) (padded i (f (num a) (num b)) h k)

pub firsts_not : (i : ℕ) (a : List ℕ) → Raw a → i ≤ 256 → num a < 256 ^ i → firsts turned i a a ≡ le 256 (256 ^ i - 1 - num a)
unfolding firsts
firsts_not i a r h k =
    rw (first-le a i r h, le_not i (num a) (num a) k) (padded i (256 ^ i - 1 - num a) h (omega arith))
