-- One turn of each loop over raw bytes, and what is there after the last. Assumes nothing.
use mathlib.Core.Path.{◌≡◌, refl, sym, ap, ◌∙◌}
use mathlib.Core.List.{List, [], ◌∷◌, ◌++◌}
use Prim.Native.Nat.{ℕ, zero, suc, ◌+◌, ◌-◌, ◌*◌, ◌/◌, ◌%◌, ◌^◌, ◌<◌, ◌≤◌}
use native.Mathlib.Nat.{add_assoc, pow-succ', mul-le-mul_left, mul-le-mul_right, one-le-pow}
use native.Mathlib.Numerals.{add-one}
use native.Mathlib.Omega.{arith}
use borrow.Author.Tests.{eq-eqb, ne_eqb}
use lib.Arith.{digits_mod}
use lib.Bits.{bit_or, and_le_l, and_le_r, or_add_and}
use lib.Count.{ones, ones_in, ones_cat}
use lib.Dec.{eqb}
use lib.Pow.{pow_pos, pow-add}
use lib.ListN.{length, get_or, set, take, drop, replicate, take-append-drop}
use lib.Seq.{take-suc, drop-cons, length-take-le, drop-length, drop-drop}
use Rattle.standard.specs.Bytes.{Bytes, le, num}
use Rattle.standard.proofs.Bits.{pow_bytes, num-append}
use Rattle.bitfield.specs.Raw.{zipped, firsts, Raw}
use Rattle.bitfield.specs.Facts.{Word}
use Rattle.bitfield.proofs.Tops.{byte_at}
use Rattle.bitfield.proofs.Numbers.{raw-le}
use Rattle.bitfield.proofs.Places.{num-at, num-set, raw-set}

pub zeros-at : (n k : ℕ) → ◌≡◌ {A = ℕ} (get_or (replicate n 0) k 0) 0
zeros-at zero k = refl
zeros-at (suc n) zero = refl
zeros-at (suc n) (suc k) = zeros-at n k

-- What is said of each byte is said of all: the bytes put together, and zero behind them.
pub firsts-known : (f : ℕ → ℕ → ℕ) (i : ℕ) (a b o : List ℕ) → i ≤ 256 → length a ≡ 256 → length b ≡ 256 → length o ≡ 256
    → ((k : ℕ) → k < i → get_or o k 0 ≡ f (get_or a k 0) (get_or b k 0)) → ((k : ℕ) → i ≤ k → get_or o k 0 ≡ 0) → o ≡ firsts f i a b
unfolding firsts zipped
firsts-known f i a b o h la lb lo p q = rw (← lo) (all a b o i (rw (la, lo)) (rw (lb, lo)) (rw lo h) p q)
  where
    zeros : (o : List ℕ) → ((k : ℕ) → get_or o k 0 ≡ 0) → o ≡ replicate (length o) 0
    zeros [] q = refl
    zeros (z ∷ o) q = let e : z ≡ 0 = q 0 in rw e (ap (λ (l : List ℕ). 0 ∷ l) (zeros o (λ (k : ℕ). q (suc k))))

    all :
        (a b o : List ℕ) (i : ℕ) → length a ≡ length o → length b ≡ length o → i ≤ length o
        → ((k : ℕ) → k < i → get_or o k 0 ≡ f (get_or a k 0) (get_or b k 0)) → ((k : ℕ) → i ≤ k → get_or o k 0 ≡ 0)
        → o ≡ zipped f (take i a) (take i b) ++ replicate (length o - i) 0
    all a b o zero la lb h p q = let e : length o - 0 ≡ length o = omega arith in rw e (zeros o (λ (k : ℕ). q k (omega arith)))
    all a b [] (suc i) la lb h p q = absurd (omega arith)
    all [] b (z ∷ o) (suc i) la lb h p q = absurd (omega arith)
    all (x ∷ a) [] (z ∷ o) (suc i) la lb h p q = absurd (omega arith)
    all (x ∷ a) (y ∷ b) (z ∷ o) (suc i) la lb h p q =
        let e : z ≡ f x y = p 0 (omega arith) in
        let m : suc (length o) - suc i ≡ length o - i = omega arith in
        rw (e, m)
        (ap (λ (l : List ℕ). f x y ∷ l)
        (all a b o i (omega arith) (omega arith) (omega arith)
        (λ (k : ℕ) (l : k < i). p (suc k) (omega arith))
        (λ (k : ℕ) (l : i ≤ k). q (suc k) (omega arith))))

-- "Or" of two numbers is zero exactly if both are.
or_none : (a b : ℕ) → bit_or a b ≡ 0 → (a ≡ 0) × (b ≡ 0)
or_none a b e =
    let s = or_add_and a b in
    let l = and_le_l a b in
    let r = and_le_r a b in
    (omega arith, omega arith)

or_zero : (a b : ℕ) → a ≡ 0 → b ≡ 0 → bit_or a b ≡ 0
or_zero a b p q = let s = or_add_and a b in omega arith

-- What a loop that gathers by "or" knows at i: nothing was set exactly if nothing is set in all.
pub record Gathered (l : List ℕ) (from acc i : ℕ) : Type 0 where
  pub all : acc ≡ 0 → num (drop i l) ≡ 0 → num (drop from l) ≡ 0
  pub none : num (drop from l) ≡ 0 → (acc ≡ 0) × (num (drop i l) ≡ 0)

pub gathered_start : (l : List ℕ) (from : ℕ) → Gathered l from 0 from
gathered_start l from = record { all = λ a z. z; none = λ z. (refl, z) }

pub gathered_next : (l : List ℕ) (from acc i x : ℕ) → Word l i x → Gathered l from acc i → Gathered l from (bit_or acc x) (i + 8)
gathered_next l from acc i x w g =
    let e = w.says in
    record {
      all = λ (a : bit_or acc x ≡ 0) (z : num (drop (i + 8) l) ≡ 0).
          let o = or_none acc x a in
          g.all o.0 (omega arith);
      none = λ (z : num (drop from l) ≡ 0).
          let k = g.none z in
          let y : x ≡ 0 = omega arith in
          (or_zero acc x k.0 y, omega arith);
    }

-- Two numbers of which neither is zero alone
zero-both : (a n : ℕ) → (a ≡ 0 → n ≡ 0) → (n ≡ 0 → a ≡ 0) → eqb a 0 ≡ eqb n 0
zero-both zero n f g = sym (eq-eqb n 0 (f refl))
zero-both (suc a) n f g = ne_eqb (suc a) 0 (λ (e : suc a ≡ 0). omega arith) ∙ sym (ne_eqb n 0 (λ (e : n ≡ 0). let k = g e in omega arith))

nothing_left : (l : List ℕ) (m : ℕ) → m ≡ length l → num (drop m l) ≡ 0
unfolding num
nothing_left l m e = rw e (ap num (drop-length l))

pub gathered_end : (l : List ℕ) (from acc : ℕ) → Gathered l from acc (length l) → eqb acc 0 ≡ eqb (num (drop from l)) 0
gathered_end l from acc g =
    zero-both acc _ (λ (a : acc ≡ 0). g.all a (nothing_left l (length l) refl)) (λ (z : num (drop from l) ≡ 0). (g.none z).0)

-- One byte, and those behind it
byte-drop : (l : List ℕ) (i : ℕ) → i < length l → num (drop i l) ≡ get_or l i 0 + 256 * num (drop (i + 1) l)
unfolding num
byte-drop l i h = rw (drop-cons l i 0 h, add-one i)

-- Where nothing is set from a place on, nothing is set from a later one on.
pub none-behind : (l : List ℕ) (i j : ℕ) → i ≤ j → num (drop i l) ≡ 0 → num (drop j l) ≡ 0
unfolding num
none-behind l i j h z =
    let e : i + (j - i) ≡ j = omega arith in
    rw (drop-drop (j - i) i l, e) at (rest (drop i l) (j - i) z)
  where
    rest : (l : List ℕ) (k : ℕ) → num l ≡ 0 → num (drop k l) ≡ 0
    rest l zero z = z
    rest [] (suc k) z = z
    rest (x ∷ xs) (suc k) z = rest xs k (omega arith)

-- What the loop over two halves knows after k bytes of each: what it gathered is zero exactly if they are, where the rest is.
pub record Halved (l : List ℕ) (from acc k : ℕ) : Type 0 where
  pub first : acc ≡ 0 → num (drop (from + k) l) ≡ 0 → num (drop from l) ≡ 0
  pub second : acc ≡ 0 → num (drop (128 + k) l) ≡ 0 → num (drop 128 l) ≡ 0
  pub none : num (drop from l) ≡ 0 → acc ≡ 0

pub halved_start : (l : List ℕ) (from : ℕ) → Halved l from 0 0
halved_start l from =
    let e : from + 0 ≡ from = omega arith in
    record {
      first = λ (a : ◌≡◌ {A = ℕ} 0 0) (z : num (drop (from + 0) l) ≡ 0). rw e at z;
      second = λ (a : ◌≡◌ {A = ℕ} 0 0) (z : num (drop (128 + 0) l) ≡ 0). z;
      none = λ (z : num (drop from l) ≡ 0). refl;
    }

module _ (l : List ℕ) (from acc k : ℕ) (long : length l ≡ 256) (low : from ≤ 128) where
  pub halved_next : k < 128 → Halved l from acc k → Halved l from (bit_or acc (bit_or (get_or l (from + k) 0) (get_or l (128 + k) 0))) (k + 1)
  halved_next h g =
      let p = byte-drop l (from + k) (rw long (omega arith)) in
      let q = byte-drop l (128 + k) (rw long (omega arith)) in
      let i : from + (k + 1) ≡ from + k + 1 = omega arith in
      let j : 128 + (k + 1) ≡ 128 + k + 1 = omega arith in
      record {
        first = λ (a : bit_or acc (bit_or (get_or l (from + k) 0) (get_or l (128 + k) 0)) ≡ 0) (z : num (drop (from + (k + 1)) l) ≡ 0).
            let o = or_none acc _ a in
            let x = (or_none (get_or l (from + k) 0) _ o.1).0 in
            let y = rw i at z in
            g.first o.0 (omega arith);
        second = λ (a : bit_or acc (bit_or (get_or l (from + k) 0) (get_or l (128 + k) 0)) ≡ 0) (z : num (drop (128 + (k + 1)) l) ≡ 0).
            let o = or_none acc _ a in
            let x = (or_none (get_or l (from + k) 0) _ o.1).1 in
            let y = rw j at z in
            g.second o.0 (omega arith);
        none = λ (z : num (drop from l) ≡ 0).
            let a = g.none z in
            let x = none-behind l from (from + k) (omega arith) z in
            let y = none-behind l from (128 + k) (omega arith) z in
            or_zero _ _ a (or_zero (get_or l (from + k) 0) (get_or l (128 + k) 0) (omega arith) (omega arith));
      }

  pub halved_end : k ≡ 128 → Halved l from acc k → eqb acc 0 ≡ eqb (num (drop from l)) 0
  halved_end e g =
      zero-both acc _
      (λ (a : acc ≡ 0).
      let z = g.second a (nothing_left l (128 + k) (rw (e, long))) in
      g.first a (none-behind l 128 (from + k) (omega arith) z))
      g.none

-- The first bytes as a number, with one more
pub num-more : (l : List ℕ) (i : ℕ) → i < length l → num (take (i + 1) l) ≡ num (take i l) + 256 ^ i * get_or l i 0
unfolding num
num-more l i h =
    rw (add-one i, take-suc l i 0 h, num-append (take i l) (get_or l i 0 ∷ []), length-take-le i l (omega arith)) (omega arith)

-- The ones of a word, and those behind it
pub ones_more : (l : List ℕ) (i x : ℕ) → Word l i x → ones (num (drop i l)) ≡ ones x + ones (num (drop (i + 8) l))
ones_more l i x w =
    let s = w.says in
    let e : num (drop i l) ≡ num (drop (i + 8) l) * 2 ^ 64 + x = omega arith in
    let c = ones_cat 64 (num (drop (i + 8) l)) x w.small in
    rw (e, c) (omega arith)

-- Bytes moved up by s bytes and some bits, with what the last one lost at its top
pub record Shifting (a : List ℕ) (s p : ℕ) (out : List ℕ) (carry i : ℕ) : Type 0 where
  pub raw : Raw out
  pub from : s ≤ i
  pub room : carry < 2 ^ p
  pub small : num out < 256 ^ i
  pub number : num out + 256 ^ i * carry ≡ 256 ^ s * 2 ^ p * num (take (i - s) a)

zeros-raw : Raw (replicate 256 0)
unfolding Bytes
zeros-raw = record { long = refl; bytes = all 256 }
  where
    all : (n : ℕ) → Bytes (replicate n 0)
    all zero = tt
    all (suc n) = (omega arith, all n)

pub num-zeros : (n : ℕ) → num (replicate n 0) ≡ 0
unfolding num
num-zeros zero = refl
num-zeros (suc n) = rw (num-zeros n)

pub shifting_start : (a : List ℕ) (s p : ℕ) → Shifting a s p (replicate 256 0) 0 s
shifting_start a s p =
    let z = num-zeros 256 in
    let e : s - s ≡ 0 = omega arith in
    record {
      raw = zeros-raw;
      from = omega arith;
      room = pow_pos p;
      small = rw z (one-le-pow s 256 (omega arith));
      number = rw (e, z, num-zeros 0) (omega arith);
    }

-- A byte behind all that the number uses is zero.
zero-at : (l : List ℕ) (i : ℕ) → i < length l → num l < 256 ^ i → get_or l i 0 ≡ 0
zero-at l i h k = small (get_or l i 0) (num-at l i h)
  where
    small : (x : ℕ) → num l ≡ num (take i l) + 256 ^ i * (x + 256 * num (drop (suc i) l)) → x ≡ 0
    small zero e = refl
    small (suc x) e = absurd (omega arith)

turn : (n n' S Q T carry t x m lo hi : ℕ) → t ≡ x * T + carry → t ≡ lo + 256 * hi → n' ≡ n + S * Q * lo
    → n + S * Q * carry ≡ S * T * m → n' + 256 * (S * Q) * hi ≡ S * T * (m + Q * x)
turn n n' S Q T carry t x m lo hi e f g h =
    let e' : S * Q * t ≡ S * Q * (x * T + carry) = ap (λ (z : ℕ). S * Q * z) e in
    let f' : S * Q * t ≡ S * Q * (lo + 256 * hi) = ap (λ (z : ℕ). S * Q * z) f in
    omega arith

module _ (a : List ℕ) (s p : ℕ) (out : List ℕ) (carry i t : ℕ) (r : Raw a) (h : i < 256) (g : Shifting a s p out carry i)
    (e : t ≡ get_or a (i - s) 0 * 2 ^ p + carry) where
  below : t < 256 * 2 ^ p
  below =
      let b = byte_at a (i - s) r.bytes in
      let m = mul-le-mul_right {m = get_or a (i - s) 0} {n = 255} (2 ^ p) (omega arith) in
      let c = g.room in
      omega arith

  stored : num (set out i (t % 256)) ≡ num out + 256 ^ i * (t % 256)
  stored =
      let l : i < length out = rw g.raw.long h in
      let z = zero-at out i l g.small in
      let n = rw z at (num-set out i (t % 256) l) in
      omega arith

  next_small : num (set out i (t % 256)) < 256 ^ (i + 1)
  next_small =
      let n = stored in
      let k = g.small in
      let m = mul-le-mul_left {m = t % 256} {n = 255} (256 ^ i) (omega arith) in
      rw (add-one i, pow-succ' 256 i) (omega arith)

  next-number : num (set out i (t % 256)) + 256 ^ (i + 1) * (t / 256) ≡ 256 ^ s * 2 ^ p * num (take (i + 1 - s) a)
  next-number =
      let f = g.from in
      let q : i + 1 - s ≡ i - s + 1 = omega arith in
      let w : 256 ^ i ≡ 256 ^ s * 256 ^ (i - s) = rw (← pow-add 256 s (i - s)) (ap (λ (k : ℕ). 256 ^ k) (omega arith)) in
      let m = num-more a (i - s) (rw r.long (omega arith)) in
      let n = stored in
      let o = g.number in
      rw (q, m, add-one i, pow-succ' 256 i, w)
      (turn (num out) _ (256 ^ s) (256 ^ (i - s)) (2 ^ p) carry t (get_or a (i - s) 0) (num (take (i - s) a)) (t % 256) (t / 256) e (omega arith)
      (rw w at n) (rw w at o))

  pub shifting_next : Shifting a s p (set out i (t % 256)) (t / 256) (i + 1)
  shifting_next =
      let b = below in
      let f = g.from in
      record {
        raw = raw-set out i (t % 256) g.raw (omega arith);
        from = omega arith;
        room = omega arith;
        small = next_small;
        number = next-number;
      }

whole : (o S Q T carry m R x : ℕ) → o + S * Q * carry ≡ S * T * m → x ≡ m + Q * R → x * (S * T) ≡ (R * T + carry) * (S * Q) + o
whole o S Q T carry m R x e f =
    let f' : x * (S * T) ≡ (m + Q * R) * (S * T) = ap (λ (z : ℕ). z * (S * T)) f in
    omega arith

pub shifting_end : (a : List ℕ) (n : ℕ) (out : List ℕ) (carry used : ℕ) → Raw a → used ≤ 256
    → Shifting a (n / 8) (n % 8) out carry used → out ≡ le 256 ((num a * 2 ^ n) % 256 ^ used)
shifting_end a n out carry used r h g =
    let s = n / 8 in
    let f = g.from in
    let k : used - s ≤ length a = rw r.long (omega arith) in
    let split = num-append (take (used - s) a) (drop (used - s) a) in
    let parts = rw (take-append-drop (used - s) a, length-take-le (used - s) a k) at split in
    let w : 256 ^ used ≡ 256 ^ s * 256 ^ (used - s) = rw (← pow-add 256 s (used - s)) (ap (λ (m : ℕ). 256 ^ m) (omega arith)) in
    let two : 2 ^ n ≡ 256 ^ s * 2 ^ (n % 8) = rw (pow_bytes s, ← pow-add 2 (8 * s) (n % 8)) (ap (λ (m : ℕ). 2 ^ m) (omega arith)) in
    let all = whole (num out) (256 ^ s) (256 ^ (used - s)) (2 ^ (n % 8)) carry _ (num (drop (used - s) a)) (num a) (rw w at g.number) parts in
    let e : (num a * 2 ^ n) % 256 ^ used ≡ num out =
    rw (two, w, all) (digits_mod (num (drop (used - s) a) * 2 ^ (n % 8) + carry) (rw w at g.small)) in
    rw e (raw-le out g.raw)

pub ones_none : (n : ℕ) → n ≡ 0 → ones n ≡ 0
unfolding ones ones_in
ones_none n e = rw e

-- Eight bytes, and those behind them
pub word-bytes : (l : List ℕ) (i x : ℕ) → Bytes l → i + 8 ≤ length l
    → x ≡ get_or l i 0 + 256 * (get_or l (i + 1) 0 + 256 * (get_or l (i + 2) 0 + 256 * (get_or l (i + 3) 0 + 256 * (get_or l (i + 4) 0
    + 256 * (get_or l (i + 5) 0 + 256 * (get_or l (i + 6) 0 + 256 * get_or l (i + 7) 0))))))
    → Word l i x
word-bytes l i x b h e =
    let b0 = byte_at l i b in
    let b1 = byte_at l (i + 1) b in
    let b2 = byte_at l (i + 2) b in
    let b3 = byte_at l (i + 3) b in
    let b4 = byte_at l (i + 4) b in
    let b5 = byte_at l (i + 5) b in
    let b6 = byte_at l (i + 6) b in
    let b7 = byte_at l (i + 7) b in
    let d0 = byte-drop l i (omega arith) in
    let d1 = rw (add_assoc i 1 1) at (byte-drop l (i + 1) (omega arith)) in
    let d2 = rw (add_assoc i 2 1) at (byte-drop l (i + 2) (omega arith)) in
    let d3 = rw (add_assoc i 3 1) at (byte-drop l (i + 3) (omega arith)) in
    let d4 = rw (add_assoc i 4 1) at (byte-drop l (i + 4) (omega arith)) in
    let d5 = rw (add_assoc i 5 1) at (byte-drop l (i + 5) (omega arith)) in
    let d6 = rw (add_assoc i 6 1) at (byte-drop l (i + 6) (omega arith)) in
    let d7 = rw (add_assoc i 7 1) at (byte-drop l (i + 7) (omega arith)) in
    record { small = omega arith; says = omega arith }
