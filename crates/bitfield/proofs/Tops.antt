-- The highest set bit: of a number between two powers of two, and of bytes by their last one that is not zero. Assumes nothing.
use mathlib.Core.Path.{◌≡◌, refl, ap, ◌∙◌}
use mathlib.Core.Logic.{⊎_elim}
use mathlib.Core.List.{List, [], ◌∷◌, ◌++◌}
use Prim.Native.Nat.{ℕ, zero, suc, ◌+◌, ◌-◌, ◌*◌, ◌/◌, ◌^◌, ◌<◌, ◌≤◌}
use native.Mathlib.Nat.{pow-succ', eq-zero-or-pos}
use native.Mathlib.Numerals.{add-one}
use native.Mathlib.Omega.{arith}
use mir.Syntax.{w8}
use mir.Val.{Fits}
use lib.Count.{count_leading_zeros, leading_top}
use lib.ListN.{length, get_or, take, drop, take-append-drop}
use lib.Seq.{drop-length, take-suc, length-take-le}
use Rattle.std.proofs.Common.{get_or-drop}
use Rattle.standard.specs.Bytes.{Bytes, num}
use Rattle.standard.proofs.Bytes.{bytes_take}
use Rattle.standard.proofs.Bits.{bits_of, num-append, top_from, top_to}
use Rattle.bitfield.specs.Body.{highest, all_bits}
use Rattle.bitfield.specs.Facts.{TopOf}
use Rattle.std.specs.declared.option.Option.TheVariants.{Some, None}

-- No bit of 0 is set.
pub highest-none : (k : ℕ) → highest (bits_of k 0) ≡ None
unfolding highest bits_of
highest-none zero = refl
highest-none (suc k) = rw (highest-none k)

-- The highest bit of n is the power of two below it.
pub highest-at : (k n h : ℕ) → h < k → 2 ^ h ≤ n → n < 2 ^ suc h → highest (bits_of k n) ≡ Some h
unfolding highest bits_of
highest-at zero n h low from to = absurd (omega arith)
highest-at (suc k) n zero low from to =
    let one : n ≡ 1 = omega arith in
    rw (one, highest-none k)
highest-at (suc k) n (suc h) low from to =
    let f = rw (pow-succ' 2 h) at from in
    let t = rw (pow-succ' 2 (suc h)) at to in
    rw (highest-at k (n / 2) h (omega arith) (omega arith) (omega arith), add-one h)

pub highest-says : (k n h : ℕ) → n < 2 ^ k → highest (bits_of k n) ≡ Some h → (2 ^ h ≤ n) × (n < 2 ^ suc h)
highest-says k n h b e = ⊎_elim zeros some (eq-zero-or-pos n)
  where
    zeros : n ≡ 0 → (2 ^ h ≤ n) × (n < 2 ^ suc h)
    zeros z =
        let no : highest (bits_of k n) ≡ None = rw z (highest-none k) in
        let w : ◌≡◌ {A = ℕ} 0 1 = cc in
        absurd (omega arith)

    some : 0 < n → (2 ^ h ≤ n) × (n < 2 ^ suc h)
    some p =
        let t = leading_top k n p b in
        let f = highest-at k n t.0 (omega (arith, t.1)) t.2 t.3 in
        let q : h ≡ t.0 = cc in
        rw q (t.2, t.3)

-- The number of bytes is that of those in use.
pub num_used : (l : List ℕ) (r : ℕ) → r ≤ length l → num (drop r l) ≡ 0 → num l ≡ num (take r l)
num_used l r h z =
    let e = num-append (take r l) (drop r l) in
    let f : num l ≡ num (take r l ++ drop r l) = rw (take-append-drop r l) in
    let g : 256 ^ length (take r l) * num (drop r l) ≡ 0 = rw z (omega arith) in
    omega arith

pub top_number : (l : List ℕ) (i h : ℕ) → Bytes l → i < length l → num (drop (suc i) l) ≡ 0 → TopOf (get_or l i 0) h
    → (2 ^ (8 * i + h) ≤ num l) × (num l < 2 ^ suc (8 * i + h))
top_number l i h b k z t =
    let e : num l ≡ num (take i l ++ (get_or l i 0 ∷ [])) = num_used l (suc i) k z ∙ ap num (take-suc l i 0 k) in
    let m : length (take i l) ≡ i = length-take-le i l (omega arith) in
    let f = top_from (take i l) (get_or l i 0) h t.from in
    let g = top_to (take i l) (get_or l i 0) h (bytes_take i l b) t.to in
    rw e (rw m at f, rw m at g)

-- The highest bit of bytes is that of the last one in use.
pub top_used : (l : List ℕ) (i h : ℕ) → Bytes l → i < length l → num (drop (suc i) l) ≡ 0 → TopOf (get_or l i 0) h
    → highest (all_bits l) ≡ Some (8 * i + h)
top_used l i h b k z t =
    let s = t.small in
    let q = top_number l i h b k z t in
    highest-at (8 * length l) (num l) (8 * i + h) (omega arith) q.0 q.1

pub top_unused : (l : List ℕ) → num l ≡ 0 → highest (all_bits l) ≡ None
top_unused l z = rw z (highest-none (8 * length l))

-- What an index says of all elements, as a fact of the list
pub bytes-known : (l : List ℕ) → ((i : ℕ) → Fits w8 (get_or l i 0)) → Bytes l
unfolding Bytes
bytes-known [] h = tt
bytes-known (x ∷ xs) h = ((h 0).fits, bytes-known xs (λ i. h (suc i)))

pub byte_at : (l : List ℕ) (i : ℕ) → Bytes l → get_or l i 0 < 256
unfolding Bytes
byte_at [] i b = omega arith
byte_at (x ∷ xs) zero b = b.0
byte_at (x ∷ xs) (suc i) b = byte_at xs i b.1

pub used_all : (l : List ℕ) → num (drop (length l) l) ≡ 0
unfolding num
used_all l = ap num (drop-length l)

-- Where each byte is zero, the number is.
pub zeros-number : (l : List ℕ) → ((k : ℕ) → get_or l k 0 ≡ 0) → num l ≡ 0
unfolding num
zeros-number [] z = refl
zeros-number (x ∷ xs) z =
    let e : x ≡ 0 = z 0 in
    let r = zeros-number xs (λ (k : ℕ). z (suc k)) in
    omega arith

pub zeros-behind : (l : List ℕ) (i : ℕ) → ((k : ℕ) → i < k → get_or l k 0 ≡ 0) → num (drop (suc i) l) ≡ 0
zeros-behind l i z = zeros-number (drop (suc i) l) (λ (k : ℕ). rw get_or-drop (z (suc i + k) (omega arith)))

-- What `leading_zeros` counts, and the highest bit, make eight.
pub top_counted : (x : ℕ) → 0 < x → x < 256 → (count_leading_zeros 8 x ≤ 7) × TopOf x (7 - count_leading_zeros 8 x)
top_counted x p b =
    let t = leading_top 8 x p b in
    let e : 7 - count_leading_zeros 8 x ≡ t.0 = omega (arith, t.1) in
    (omega (arith, t.1), rw e (record { small = omega (arith, t.1); from = t.2; to = t.3 }))
