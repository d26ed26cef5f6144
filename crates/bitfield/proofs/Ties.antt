-- Bits and the bytes that hold them: one tie in both directions, and each operation as a law about bits and one about bytes. Assumes nothing.
use mathlib.Core.Path.{◌≡◌, refl, sym, ap, ◌∙◌}
use mathlib.Core.List.{List, [], ◌∷◌, ◌++◌}
use mathlib.Core.Bool.{Bool, false}
use Prim.Native.Nat.{ℕ, zero, suc, ◌+◌, ◌-◌, ◌*◌, ◌/◌, ◌%◌, ◌^◌, ◌<◌, ◌≤◌, min, max}
use native.Mathlib.Nat.{lt_of_lt_of_le, mod-lt, pow-le-pow_right, pow-suc, one-le-pow, add-zero}
use native.Mathlib.Omega.{arith}
use lib.Arith.{digits_mod, mod-mul}
use lib.Bits.{bit_and, bit_or}
use lib.Count.{ones}
use lib.Dec.{eqb}
use lib.Pow.{pow_pos, pow_mono, pow-add}
use lib.Pow as Pow
use lib.ListN.{length, get_or, set, take, drop, replicate, length-replicate, length-set, take-append-drop}
use lib.Seq.{length-take-le}
use Rattle.std.proofs.lemmas.List.{drop-append-le}
use Rattle.standard.specs.Bytes.{Bytes, le, num}
use Rattle.standard.specs.Bits.{bit, bit_num, packs}
use Rattle.standard.proofs.Bytes.{length-le, bytes_le, num-le}
use Rattle.standard.proofs.Bits.{bits_of, length-bits_of, bit_num-bits_of, bit_num-low, bits_of-bit_num, bit_num-bound, packs-le, pow_bytes, num-packs, num-append}
use Rattle.bitfield.specs.declared.Bitfield.{Bitfield}
use Rattle.bitfield.specs.Body.{bytes_for_lem, highest}
use Rattle.bitfield.specs.Bools.{both, either, without, flipped, no_bits, moved, widened, count, none_set}
use Rattle.bitfield.specs.Raw.{taken_out, turned, firsts, Raw}
use Rattle.bitfield.specs.Facts.{Kept, LastUsed, Put, TopOf}
use Rattle.bitfield.specs.Held.{bits_in, of_parts, held}
use Rattle.bitfield.proofs.Bools as Bools
use Rattle.bitfield.proofs.Bodies.{cut_below}
use Rattle.bitfield.proofs.Tops.{highest-none, highest-at, top_number, num_used, zeros-number, zeros-behind}
use Rattle.bitfield.proofs.Numbers.{Bytewise, and_bytewise, or_bytewise, and_not_bytewise, firsts-le, firsts_not, raw-le, le-zero, le-short}
use Rattle.std.specs.declared.option.Option.TheVariants.{Some, None}

-- What a well formed field's bits say
pub bits-number : (l : List ℕ) (len : ℕ) → Kept l len → bit_num (bits_in l len) ≡ num l
unfolding bits_in
bits-number l len k = bit_num-bits_of len (num l) k.small

pub bits-length : (l : List ℕ) (len : ℕ) → length (bits_in l len) ≡ len
unfolding bits_in
bits-length l len = length-bits_of len (num l)

pub raw_of-le : (z : ℕ) → Raw (le 256 z)
raw_of-le z = record { long = length-le 256 z; bytes = bytes_le 256 z }

-- The tie: the bytes are the bits packed, and the bits of packed bits are those bits.
pub kept-packs : (l : List ℕ) (len : ℕ) → Kept l len → l ≡ packs 256 (bits_in l len)
kept-packs l len k = raw-le l k.raw ∙ ap (le 256) (sym (bits-number l len k)) ∙ sym (packs-le 256 (bits_in l len))

pub packs-kept : (bs : List Bool) → length bs ≤ 2048 → Kept (packs 256 bs) (length bs)
packs-kept bs h =
    record {
      raw = rw (packs-le 256 bs) (raw_of-le (bit_num bs));
      few = h;
      small = rw (num-packs 256 bs h) (bit_num-bound bs);
    }

pub packs-bits : (bs : List Bool) → length bs ≤ 2048 → bits_in (packs 256 bs) (length bs) ≡ bs
unfolding bits_in
packs-bits bs h = rw (num-packs 256 bs h) (bits_of-bit_num bs)

-- Bytes that say the number of some bits hold those bits.
pub as_held : {T : Type 0} (bs : List Bool) (l : List ℕ) (len n : ℕ) → l ≡ le 256 (bit_num bs) → len ≡ length bs → of_parts {T = T} l len n ≡ held bs n
unfolding held
as_held bs l len n e h = rw (e, h, ← packs-le 256 bs)

-- Numbers below the end fit the bytes in use.
in_use : (len : ℕ) → 2 ^ len ≤ 256 ^ bytes_for_lem len
in_use len = rw (pow_bytes (bytes_for_lem len)) (pow_mono (omega arith))

fits_in : (i z len : ℕ) → len ≤ 8 * i → z < 2 ^ len → z < 256 ^ i
fits_in i z len h b = rw (pow_bytes i) (lt_of_lt_of_le b (pow_mono h))

use-bound : (len : ℕ) → len ≤ 2048 → bytes_for_lem len ≤ 256
use-bound len h = omega arith

all-bytes : (len z : ℕ) → len ≤ 2048 → z < 256 ^ bytes_for_lem len → num (le 256 z) ≡ z
all-bytes len z h b = num-le 256 z (lt_of_lt_of_le b (pow-le-pow_right {n = 256} (omega arith) (use-bound len h)))

-- Two bitfields put together by all of their bytes, by an operation that works on each byte by itself: the bits' law and the bytes' law
module _ (f : ℕ → ℕ → ℕ) (w : Bytewise f) (op : List Bool → List Bool → List Bool) (many : ℕ → ℕ → ℕ)
    (law : (xs ys : List Bool) → bit_num (op xs ys) ≡ f (bit_num xs) (bit_num ys))
    (count : (xs ys : List Bool) → length (op xs ys) ≡ many (length xs) (length ys)) where
  whole : {T : Type 0} (a : List ℕ) (la : ℕ) (b : List ℕ) (lb n : ℕ) → Kept a la → Kept b lb → many la lb ≤ 2048
      → of_parts {T = T} (firsts f 256 a b) (many la lb) n ≡ held (op (bits_in a la) (bits_in b lb)) n
  whole a la b lb n ka kb h =
      let number : bit_num (op (bits_in a la) (bits_in b lb)) ≡ f (num a) (num b) =
      rw (law (bits_in a la) (bits_in b lb), bits-number a la ka, bits-number b lb kb) in
      let long : length (op (bits_in a la) (bits_in b lb)) ≡ many la lb = rw (count (bits_in a la) (bits_in b lb), bits-length a la, bits-length b lb) in
      let small = rw (number, long) at (bit_num-bound (op (bits_in a la) (bits_in b lb))) in
      let fits = fits_in 256 _ _ h small in
      as_held _ _ _ n (firsts-le f w 256 a b ka.raw kb.raw (omega arith) fits ∙ ap (le 256) (sym number)) (sym long)

module _ {T : Type 0} (a : List ℕ) (la : ℕ) (b : List ℕ) (lb n : ℕ) (ka : Kept a la) (kb : Kept b lb) where
  pub both-held : of_parts {T = T} (firsts bit_and 256 a b) (min la lb) n ≡ held (both (bits_in a la) (bits_in b lb)) n
  both-held = whole bit_and and_bytewise both min Bools.bit_num-both Bools.length_both a la b lb n ka kb (omega (arith, ka.few, kb.few))

  pub either-held : of_parts {T = T} (firsts bit_or 256 a b) (max la lb) n ≡ held (either (bits_in a la) (bits_in b lb)) n
  either-held = whole bit_or or_bytewise either max Bools.bit_num-either Bools.length-either a la b lb n ka kb (omega (arith, ka.few, kb.few))

  pub without-held : of_parts {T = T} (firsts taken_out 256 a b) la n ≡ held (without (bits_in a la) (bits_in b lb)) n
  without-held = whole taken_out and_not_bytewise without (λ n m. n) Bools.bit_num-without Bools.length_without a la b lb n ka kb ka.few

-- What the last byte's cut asks of a number in bytes, and what it gives
pub record Cuttable (l : List ℕ) (len : ℕ) : Type 0 where
  pub few : len ≤ 2048
  pub raw : Raw l
  pub small : num l < 2 ^ (8 * bytes_for_lem len)

cuttable : (l : List ℕ) (len z : ℕ) → len ≤ 2048 → l ≡ le 256 z → z < 256 ^ bytes_for_lem len → Cuttable l len
cuttable l len z h e b =
    record { few = h; raw = rw e (raw_of-le z); small = rw (e, all-bytes len z h b, ← pow_bytes (bytes_for_lem len)) b }

cut-number : (l : List ℕ) (len z : ℕ) → len ≤ 2048 → l ≡ le 256 z → z < 256 ^ bytes_for_lem len → num l ≡ z
cut-number l len z h e b = ap num e ∙ all-bytes len z h b

-- The complement of the bytes in use, and of the bits: what the last byte has behind the end is cut.
turned_small : (a : List ℕ) (len : ℕ) → Kept a len → 256 ^ bytes_for_lem len - 1 - num a < 256 ^ bytes_for_lem len
turned_small a len k = let p = one-le-pow (bytes_for_lem len) 256 (omega arith) in omega arith

turned-bytes : (a : List ℕ) (len : ℕ) → Kept a len → firsts turned (bytes_for_lem len) a a ≡ le 256 (256 ^ bytes_for_lem len - 1 - num a)
turned-bytes a len k =
    let s = k.small in
    let m = in_use len in
    firsts_not (bytes_for_lem len) a k.raw (use-bound len k.few) (omega arith)

pub turned-cuttable : (a : List ℕ) (len : ℕ) → Kept a len → Cuttable (firsts turned (bytes_for_lem len) a a) len
turned-cuttable a len k = cuttable _ len _ k.few (turned-bytes a len k) (turned_small a len k)

pub turned-held : {T : Type 0} (a l : List ℕ) (len n : ℕ) → Kept a len → l ≡ le 256 (num (firsts turned (bytes_for_lem len) a a) % 2 ^ len)
    → of_parts {T = T} l len n ≡ held (flipped (bits_in a len)) n
turned-held a l len n k e =
    let xs = bits_in a len in
    let f = Bools.bit_num-flipped xs in
    let g = rw (bits-number a len k, bits-length a len) at f in
    let m = cut-number _ len _ k.few (turned-bytes a len k) (turned_small a len k) in
    let p : 256 ^ bytes_for_lem len ≡ 2 ^ (8 * bytes_for_lem len - len) * 2 ^ len =
    rw (pow_bytes (bytes_for_lem len), ← pow-add 2 (8 * bytes_for_lem len - len) len) (ap (λ (n : ℕ). 2 ^ n) (omega arith)) in
    let q : (256 ^ bytes_for_lem len - 1 - num a) % 2 ^ len ≡ bit_num (flipped xs) =
    rest (2 ^ (8 * bytes_for_lem len - len)) (2 ^ len) (num a) _ (256 ^ bytes_for_lem len) (pow_pos (8 * bytes_for_lem len - len)) p g in
    as_held _ l len n (e ∙ ap (λ (z : ℕ). le 256 (z % 2 ^ len)) m ∙ ap (le 256) q) (sym (Bools.length-flipped xs ∙ bits-length a len))
  where
    rest : (q p x y u : ℕ) → 0 < q → u ≡ q * p → y + x + 1 ≡ p → (u - 1 - x) % p ≡ y
    rest zero p x y u h e f = absurd (omega arith)
    rest (suc q) p x y u h e f =
        let d : u - 1 - x ≡ q * p + y = omega arith in
        rw d (digits_mod q (omega arith))

-- No bits
pub zeros-held : {T : Type 0} (len n : ℕ) → of_parts {T = T} (replicate 256 0) len n ≡ held (no_bits len) n
zeros-held len n =
    as_held (no_bits len) (replicate 256 0) len n (sym (le-zero 256) ∙ ap (le 256) (sym (Bools.bit_num-no_bits len))) (sym (length-replicate len false))

pub wider_held : {T : Type 0} (a : List ℕ) (len m : ℕ) → Kept a len → len ≤ m → of_parts {T = T} a m m ≡ held (widened m (bits_in a len)) m
wider_held a len m k h =
    let e : bit_num (widened m (bits_in a len)) ≡ num a = Bools.bit_num-widened m (bits_in a len) ∙ bits-number a len k in
    let l : length (bits_in a len) ≤ m = rw (bits-length a len) h in
    as_held _ a m m (raw-le a k.raw ∙ ap (le 256) (sym e)) (sym (Bools.length-widened m (bits_in a len) l))

-- Cut twice is cut once.
cut_twice : (x len : ℕ) → x % 256 ^ bytes_for_lem len % 2 ^ len ≡ x % 2 ^ len
cut_twice x len =
    let e : 256 ^ bytes_for_lem len ≡ 2 ^ (8 * bytes_for_lem len - len + len) = rw (pow_bytes (bytes_for_lem len)) (ap (λ (n : ℕ). 2 ^ n) (omega arith)) in
    rw e (Pow.mod-mod-pow x (8 * bytes_for_lem len - len) len)

cut-bound : (x len : ℕ) → x % 256 ^ bytes_for_lem len < 256 ^ bytes_for_lem len
cut-bound x len = mod-lt x (one-le-pow (bytes_for_lem len) 256 (omega arith))

pub part-cuttable : (l : List ℕ) (len x : ℕ) → len ≤ 2048 → l ≡ le 256 (x % 256 ^ bytes_for_lem len) → Cuttable l len
part-cuttable l len x h e = cuttable l len (x % 256 ^ bytes_for_lem len) h e (cut-bound x len)

part_cut : (l m : List ℕ) (len x : ℕ) → len ≤ 2048 → l ≡ le 256 (x % 256 ^ bytes_for_lem len) → m ≡ le 256 (num l % 2 ^ len) → m ≡ le 256 (x % 2 ^ len)
part_cut l m len x h e c =
    let n = cut-number l len (x % 256 ^ bytes_for_lem len) h e (cut-bound x len) in
    c ∙ ap (λ (z : ℕ). le 256 (z % 2 ^ len)) n ∙ ap (le 256) (cut_twice x len)

pub moved-held : {T : Type 0} (a l m : List ℕ) (len i n : ℕ) → Kept a len → l ≡ le 256 ((num a * 2 ^ i) % 256 ^ bytes_for_lem len)
    → m ≡ le 256 (num l % 2 ^ len) → of_parts {T = T} m len n ≡ held (moved i (bits_in a len)) n
moved-held a l m len i n k e c =
    let b : bit_num (moved i (bits_in a len)) ≡ (num a * 2 ^ i) % 2 ^ len =
    Bools.bit_num-moved i (bits_in a len) ∙ rw (bits-number a len k, bits-length a len) in
    as_held _ m len n (part_cut l m len (num a * 2 ^ i) k.few e c ∙ ap (le 256) (sym b)) (sym (Bools.length_moved i (bits_in a len) ∙ bits-length a len))

-- The first bytes of a slice
pub take-number : (i : ℕ) (l : List ℕ) → Bytes l → i ≤ length l → take i l ≡ le i (num l)
unfolding Bytes num le
take-number zero l b h = refl
take-number (suc i) [] b h = absurd (omega arith)
take-number (suc i) (x ∷ xs) b h =
    let lo : (x + 256 * num xs) % 256 ≡ x = omega (arith, b.0) in
    let hi : (x + 256 * num xs) / 256 ≡ num xs = omega (arith, b.0) in
    rw (lo, hi, take-number i xs b.1 (omega arith))

pub le-cut : (i z : ℕ) → le i (z % 256 ^ i) ≡ le i z
unfolding le
le-cut zero z = refl
le-cut (suc i) z =
    let p = mod-mul z {m = 256 ^ i} {c = 256} (one-le-pow i 256 (omega arith)) (omega arith) in
    let q : 256 ^ suc i ≡ 256 ^ i * 256 = pow-suc 256 i in
    let e : z % 256 ^ suc i ≡ (z / 256 % 256 ^ i) * 256 + z % 256 = rw q p in
    let lo : ((z / 256 % 256 ^ i) * 256 + z % 256) % 256 ≡ z % 256 = omega arith in
    let hi : ((z / 256 % 256 ^ i) * 256 + z % 256) / 256 ≡ z / 256 % 256 ^ i = omega arith in
    rw (e, lo, hi, le-cut i (z / 256))

pub copy_number : (i : ℕ) (l : List ℕ) → Bytes l → i ≤ 256 → i ≤ length l → take i l ++ replicate (256 - i) 0 ≡ le 256 (num l % 256 ^ i)
copy_number i l b h k =
    let e : i + (256 - i) ≡ 256 = omega arith in
    let s = le-short i (256 - i) (num l % 256 ^ i) (mod-lt (num l) (one-le-pow i 256 (omega arith))) in
    rw (take-number i l b k, ← le-cut i (num l)) (sym s ∙ ap (λ (n : ℕ). le n (num l % 256 ^ i)) e)

pub read_held : {T : Type 0} (l c m : List ℕ) (k n : ℕ) → Bytes l → k ≤ 2048 → bytes_for_lem k ≤ length l
    → c ≡ take (bytes_for_lem k) l ++ replicate (256 - bytes_for_lem k) 0 → m ≡ le 256 (num c % 2 ^ k)
    → of_parts {T = T} m k n ≡ held (bits_of k (num l)) n
read_held l c m k n b h u e d =
    let f = e ∙ copy_number (bytes_for_lem k) l b (use-bound k h) u in
    as_held _ m k n (part_cut c m k (num l) h f d ∙ ap (le 256) (sym (bit_num-low k (num l)))) (sym (length-bits_of k (num l)))

-- One bit of a number
pub bits-get : (len x i : ℕ) → i < len → get_or (bits_of len x) i false ≡ eqb (x / 2 ^ i % 2) 1
unfolding bits_of
bits-get zero x i h = absurd (omega arith)
bits-get (suc len) x zero h = let e : x / 1 % 2 ≡ x % 2 = omega arith in rw e
bits-get (suc len) x (suc i) h =
    let s : x / 2 / 2 ^ i ≡ x / 2 ^ suc i = Pow.shr-shr x 1 i ∙ ap (λ (n : ℕ). x / 2 ^ n) (omega arith) in
    bits-get len (x / 2) i (omega arith) ∙ rw s

bit-of-odd : (m : ℕ) → m < 2 → bit (eqb m 1) ≡ m
bit-of-odd zero h = refl
bit-of-odd (suc zero) h = refl
bit-of-odd (suc (suc m)) h = absurd (omega arith)

pub put-held : {T : Type 0} (a l : List ℕ) (len i limit : ℕ) (v : Bool) → Kept a len → i < len → Put a i v l
    → of_parts {T = T} l len limit ≡ held (set (bits_in a len) i v) limit
unfolding bits_in
put-held a l len i limit v k h p =
    let bs = bits_of len (num a) in
    let s = Bools.bit_num-set bs i v (rw (length-bits_of len (num a)) h) in
    let g : bit (get_or bs i false) ≡ num a / 2 ^ i % 2 = rw (bits-get len (num a) i h) (bit-of-odd (num a / 2 ^ i % 2) (omega arith)) in
    let t = rw (g, bit_num-bits_of len (num a) k.small) at s in
    let n = p.number in
    let e : num l ≡ bit_num (set bs i v) = omega arith in
    as_held _ l len limit (raw-le l p.raw ∙ ap (le 256) e) (sym (length-set bs i v ∙ length-bits_of len (num a)))

-- What lies behind the bytes in use
pub behind : (a : List ℕ) (len : ℕ) → Kept a len → num (drop (bytes_for_lem len) a) ≡ 0
behind a len k =
    let m = in_use len in
    let p = pow_bytes (bytes_for_lem len) in
    let s = k.small in
    let h : bytes_for_lem len ≤ length a = rw k.raw.long (use-bound len k.few) in
    let b : num a < 2 ^ (8 * bytes_for_lem len + 0) = rw (add-zero (8 * bytes_for_lem len)) (omega arith) in
    let c = cut_below a (bytes_for_lem len) 0 k.raw.bytes h b in
    omega arith

-- Where no byte in use has a bit, none has; and the last one in use that has one is the last of all.
pub none-used : (a : List ℕ) (len : ℕ) → Kept a len → ((k : ℕ) → get_or (take (bytes_for_lem len) a) k 0 ≡ 0) → num a ≡ 0
none-used a len k z =
    let u = bytes_for_lem len in
    let h : u ≤ length a = rw k.raw.long (use-bound len k.few) in
    num_used a u h (behind a len k) ∙ zeros-number (take u a) z

pub last-behind : (a : List ℕ) (len i : ℕ) → Kept a len → LastUsed (take (bytes_for_lem len) a) i → (i < length a) × (num (drop (suc i) a) ≡ 0)
last-behind a len i k l =
    let u = bytes_for_lem len in
    let h : u ≤ length a = rw k.raw.long (use-bound len k.few) in
    let m : length (take u a) ≡ u = length-take-le u a h in
    let b : i < length (take u a) = l.0 in
    let s = rw (take-append-drop u a) at (drop-append-le (suc i) (take u a) (drop u a) (omega arith)) in
    let n = num-append (drop (suc i) (take u a)) (drop u a) in
    let e = rw (behind a len k, zeros-behind (take u a) i l.2) at n in
    (omega arith, ap num s ∙ e ∙ omega arith)

pub count_held : (a : List ℕ) (len : ℕ) → Kept a len → ones (num a) ≡ count (bits_in a len)
count_held a len k = rw (← bits-number a len k) (sym (Bools.count_ones (bits_in a len)))

-- What lies behind the words in use
pub behind-words : (a : List ℕ) (len : ℕ) → Kept a len → num (drop (8 * ((len + 63) / 64)) a) ≡ 0
behind-words a len k =
    let s = k.small in
    let f = k.few in
    let w = 8 * ((len + 63) / 64) in
    let h : w ≤ length a = rw k.raw.long (omega arith) in
    let m : 2 ^ len ≤ 2 ^ (8 * w + 0) = pow_mono (omega arith) in
    let c = cut_below a w 0 k.raw.bytes h (omega arith) in
    omega arith

pub none-held : (a : List ℕ) (len : ℕ) → Kept a len → eqb (num (drop 0 a)) 0 ≡ none_set (bits_in a len)
none-held a len k = ap (λ (n : ℕ). eqb n 0) (sym (bits-number a len k)) ∙ sym (Bools.none_number (bits_in a len))

-- The highest bit
pub highest-none-held : (a : List ℕ) (len : ℕ) → num a ≡ 0 → None ≡ highest (bits_in a len)
unfolding bits_in
highest-none-held a len z = sym (rw z (highest-none len))

pub highest-held : (a : List ℕ) (len i h : ℕ) → Kept a len → i < length a → num (drop (suc i) a) ≡ 0 → TopOf (get_or a i 0) h →
    Some (8 * i + h) ≡ highest (bits_in a len)
unfolding bits_in
highest-held a len i h k b z t =
    let q = top_number a i h k.raw.bytes b z t in
    let s = k.small in
    let no : len ≤ 8 * i + h → ⊥ = λ (n : len ≤ 8 * i + h). let p = pow_mono n in omega (arith, q.0) in
    sym (highest-at len (num a) (8 * i + h) (omega arith) q.0 q.1)

-- What the other one has not is well formed.
pub without-kept : {T : Type 0} (r a b : Bitfield T) (n : ℕ) → Kept a.bytes a.len → r ≡ held (without (bits_in a.bytes a.len) (bits_in b.bytes b.len)) n
    → Kept r.bytes r.len × (bits_in r.bytes r.len ≡ without (bits_in a.bytes a.len) (bits_in b.bytes b.len))
unfolding held
without-kept r a b n k e =
    let bs = without (bits_in a.bytes a.len) (bits_in b.bytes b.len) in
    let l : length bs ≤ 2048 = rw (Bools.length_without (bits_in a.bytes a.len) (bits_in b.bytes b.len), bits-length a.bytes a.len) k.few in
    rw (ap (λ (g : Bitfield _). g.bytes) e, ap (λ (g : Bitfield _). g.len) e) (packs-kept bs l, packs-bits bs l)
