-- Bodies: what the code finds at the last byte is what the definitions say of all bits. Assumes nothing.
use mathlib.Core.Path.{◌≡◌}
use mathlib.Core.List.{List, []}
use Prim.Native.Nat.{ℕ, suc, ◌+◌, ◌-◌, ◌*◌, ◌/◌, ◌%◌, ◌^◌, ◌<◌, ◌≤◌}
use native.Mathlib.Nat.{mul-le-mul_left, lt_of_mul-lt-mul_left, div-eq_of_lt, lt_of_not-le, div-lt_iff_lt-mul}
use native.Mathlib.Omega.{arith}
use borrow.Author.Tests.{lt-ltb, le-ltb, eq-eqb, ne_eqb}
use lib.Pow.{pow_mono, pow-add, pow_pos}
use lib.ListN.{length, get_or, take, drop, take-append-drop}
use lib.Seq.{drop-cons, length-take-le, drop-length}
use Rattle.standard.specs.Bytes.{Bytes, num}
use Rattle.standard.specs.declared.Refusal.TheVariants.{MissingLengthInformation, ExcessBits, InvalidByteCount}
use Rattle.standard.proofs.Bytes.{bytes_take, num-bound}
use Rattle.standard.proofs.Bits.{num-append, pow_bytes}
use Rattle.bitfield.specs.Body.{list_bits_lem, bit_list_body, within}
use Rattle.bitfield.specs.Facts.{LastUsed, TopOf}
use Rattle.bitfield.proofs.Tops.{zeros-behind, top_used, top_unused, used_all, top_counted, byte_at}
use Rattle.std.specs.declared.result.Result.TheVariants.{Ok, Err}

-- A bit list's body with no set bit
pub none-marked : (l : List ℕ) → 0 < length l → num l ≡ 0 → (n : ℕ) → Err MissingLengthInformation ≡ bit_list_body l n
unfolding bit_list_body
none-marked l h z n = rw (ne_eqb (length l) 0 (omega arith), top_unused l z)

-- One whose last set bit is in a byte before the last
pub marked-short :
    (l : List ℕ) (i : ℕ) → Bytes l → get_or l (length l - 1) 0 ≡ 0 → LastUsed l i
    → (n : ℕ) → Err (InvalidByteCount (length l) (i + 1)) ≡ bit_list_body l n
unfolding bit_list_body
marked-short l i b z u n =
    let p = u.1 in
    let top = (top_counted (get_or l i 0) p (byte_at l i b)).1 in
    let s = top.small in
    let up = u.0 in
    let h = top_used l i _ b up (zeros-behind l i u.2) top in
    let here : length l ≡ i + 1 → ⊥ = (λ (f : length l ≡ i + 1). let g : length l - 1 ≡ i = omega arith in let y = rw g at z in omega arith) in
    let place : (8 * i + (7 - lib.Count.count_leading_zeros 8 (get_or l i 0))) / 8 + 1 ≡ i + 1 = omega arith in
    rw (ne_eqb (length l) 0 (omega arith), h, place, ne_eqb (length l) (i + 1) here)

-- One whose last byte has its highest bit at h
pub marked-here :
    (l : List ℕ) (h : ℕ) → Bytes l → 0 < length l → TopOf (get_or l (length l - 1) 0) h → (n : ℕ)
    → list_bits_lem (8 * (length l - 1) + h) n ≡ bit_list_body l n
unfolding bit_list_body
marked-here l h b p t n =
    let s = t.small in
    let q : suc (length l - 1) ≡ length l = omega arith in
    let e = top_used l (length l - 1) h b (omega arith) (rw q (used_all l)) t in
    let place : length l ≡ (8 * (length l - 1) + h) / 8 + 1 = omega arith in
    rw (ne_eqb (length l) 0 (omega arith), e, eq-eqb (length l) ((8 * (length l - 1) + h) / 8 + 1) place)

-- The number of bytes is below a power of two exactly if that of the bytes from the power's byte on is below what is left of it.
module _ (l : List ℕ) (q r : ℕ) (b : Bytes l) (h : q ≤ length l) where
  parts : num l ≡ num (take q l) + 2 ^ (8 * q) * num (drop q l)
  parts =
      let e = num-append (take q l) (drop q l) in
      let f = take-append-drop q l in
      let m = length-take-le q l h in
      let p = pow_bytes q in
      rw (f, m, p) at e

  first_small : num (take q l) < 2 ^ (8 * q)
  first_small = rw (length-take-le q l h, pow_bytes q) at (num-bound (take q l) (bytes_take q l b))

  pub cut_below : num l < 2 ^ (8 * q + r) → num (drop q l) < 2 ^ r
  cut_below k =
      let e = parts in
      let p = pow-add 2 (8 * q) r in
      lt_of_mul-lt-mul_left (2 ^ (8 * q)) (omega arith)

  pub below-cut : num (drop q l) < 2 ^ r → num l < 2 ^ (8 * q + r)
  below-cut k =
      let e = parts in
      let f = first_small in
      let m = mul-le-mul_left {m = suc (num (drop q l))} (2 ^ (8 * q)) k in
      let p = pow-add 2 (8 * q) r in
      omega arith

pub bits_of : (n : ℕ) → 8 * (n / 8) + n % 8 ≡ n
bits_of n = omega arith

-- Bytes that end before bit n have nothing there.
pub within-short : (l : List ℕ) (n : ℕ) → Bytes l → length l ≤ n / 8 → (Ok tt) ≡ within l n
within-short l n b h =
    let f = num-bound l b in
    let p = pow_bytes (length l) in
    let m : 2 ^ (8 * length l) ≤ 2 ^ n = pow_mono (omega arith) in
    rw (lt-ltb (num l) (2 ^ n) (omega arith))

alone : (l : List ℕ) (q : ℕ) → length l ≡ suc q → num (drop q l) ≡ get_or l q 0
unfolding num
alone l q e =
    let z : drop (suc q) l ≡ [] = rw (← e) (drop-length l) in
    rw (drop-cons l q 0 (omega arith), z) (omega arith)

pub small_shifted : (x r : ℕ) → x / 2 ^ r ≡ 0 → x < 2 ^ r
small_shifted x r e =
    let p = pow_pos r in
    let k = (div-lt_iff_lt-mul {x = x} {y = 1} p).0 (omega arith) in
    omega arith

pub shifted_small : (x r : ℕ) → (x / 2 ^ r ≡ 0 → ⊥) → 2 ^ r ≤ x
shifted_small x r n =
    let k = lt_of_not-le {n = suc x} (λ (k : suc x ≤ 2 ^ r). n (div-eq_of_lt k)) in
    omega arith

-- The byte that holds bit n is the last one: nothing above its lower bits.
pub within-here : (l : List ℕ) (n : ℕ) → Bytes l → length l ≡ suc (n / 8) → get_or l (n / 8) 0 / 2 ^ (n % 8) ≡ 0 → (Ok tt) ≡ within l n
within-here l n b h e =
    let a = alone l (n / 8) h in
    let k = small_shifted (get_or l (n / 8) 0) (n % 8) e in
    let s = below-cut l (n / 8) (n % 8) b (omega arith) (rw a k) in
    rw (lt-ltb (num l) (2 ^ n) (rw bits_of at s))

pub within_not : (l : List ℕ) (n : ℕ) → Bytes l → length l ≡ suc (n / 8) → (get_or l (n / 8) 0 / 2 ^ (n % 8) ≡ 0 → ⊥) → Err ExcessBits ≡ within l n
within_not l n b h e =
    let a = alone l (n / 8) h in
    let k = shifted_small (get_or l (n / 8) 0) (n % 8) e in
    let s : num l < 2 ^ n → ⊥ = λ (m : num l < 2 ^ n). let c = cut_below l (n / 8) (n % 8) b (omega arith) (rw bits_of m) in omega arith in
    rw (le-ltb (num l) (2 ^ n) (omega arith))
