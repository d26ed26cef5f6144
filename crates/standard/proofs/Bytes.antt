-- Numbers in bytes: `le` and `num` undo one another, over any width. Assumes nothing.
use mathlib.Core.Path.{◌≡◌, refl, ap, ◌∙◌}
use mathlib.Core.List.{List, [], ◌∷◌, ◌++◌}
use Prim.Native.Nat.{ℕ, zero, suc, ◌+◌, ◌-◌, ◌*◌, ◌/◌, ◌%◌, ◌≤◌, ◌<◌, ◌^◌}
use native.Mathlib.Nat.{add-zero, pow-succ', one-le-pow}
use native.Mathlib.Omega.{arith}
use lib.ListN.{length, get_or, take, drop, replicate, length-take, length-drop, drop_of_length-le}
use lib.Seq.{get_or-drop, take_at, take_all}
use lib.Dec.{ltb}
use mathlib.Core.Bool.{Bool, true, false}
use borrow.Author.Tests.{lt-ltb, le-ltb}
use Rattle.std.specs.Int.{w32, from_le_bytes, to_le_bytes}
use Rattle.std.specs.Simd.{first_chunks}
use Rattle.std.proofs.Common.{drop-drop}
use Rattle.standard.specs.Choice.{pick}
use Rattle.standard.specs.Bytes.{Bytes, le, num, num_at, four, word_at}

-- Bytes of parts.
pub bytes_drop : (p : ℕ) (b : List ℕ) → Bytes b → Bytes (drop p b)
unfolding Bytes
bytes_drop zero b h = h
bytes_drop (suc p) [] h = tt
bytes_drop (suc p) (x ∷ xs) h = bytes_drop p xs h.1

pub bytes_take : (p : ℕ) (b : List ℕ) → Bytes b → Bytes (take p b)
unfolding Bytes
bytes_take zero b h = tt
bytes_take (suc p) [] h = tt
bytes_take (suc p) (x ∷ xs) h = (h.0, bytes_take p xs h.1)

pub bytes-append : (a b : List ℕ) → Bytes a → Bytes b → Bytes (a ++ b)
unfolding Bytes
bytes-append [] b h k = k
bytes-append (x ∷ xs) b h k = (h.0, bytes-append xs b h.1 k)

-- Lengths and bounds.
pub length-le : (w n : ℕ) → length (le w n) ≡ w
unfolding le
length-le zero n = refl
length-le (suc w) n = ap suc (length-le w (n / 256))

pub bytes_le : (w n : ℕ) → Bytes (le w n)
unfolding le Bytes
bytes_le zero n = tt
bytes_le (suc w) n = (omega arith, bytes_le w (n / 256))

pub num-bound : (l : List ℕ) → Bytes l → num l < 256 ^ length l
unfolding num Bytes
num-bound [] h = omega arith
num-bound (x ∷ xs) h = rw (pow-succ' 256 (length xs)) (omega (arith, num-bound xs h.1, h.0))

-- There and back.
low : (a m : ℕ) → a < 256 → (a + 256 * m) % 256 ≡ a
low a m h = omega arith

high : (a m : ℕ) → a < 256 → (a + 256 * m) / 256 ≡ m
high a m h = omega arith

pub le-num : (l : List ℕ) → Bytes l → le (length l) (num l) ≡ l
unfolding Bytes num le
le-num [] h = refl
le-num (x ∷ xs) h = rw (low x (num xs) h.0, high x (num xs) h.0, le-num xs h.1)

pub num-le : (w n : ℕ) → n < 256 ^ w → num (le w n) ≡ n
unfolding num le
num-le zero n h = omega arith
num-le (suc w) n h =
    let k = rw (pow-succ' 256 w) at h in
    let q : n / 256 < 256 ^ w = omega arith in
    rw (num-le w (n / 256) q) (omega arith)

-- The same as std has it, of 32 bits.
pub le_bytes : (n : ℕ) → to_le_bytes w32 n ≡ le 4 n
unfolding le
le_bytes n =
    let e : n / 256 / 256 ≡ n / 65536 = omega arith in
    let f : n / 256 / 256 / 256 ≡ n / 16777216 = omega arith in
    rw (f, e)

pub low_bytes : (n : ℕ) → to_le_bytes w32 (n % 4294967296) ≡ le 4 n
unfolding le
low_bytes n =
    let e : n % 4294967296 % 256 ≡ n % 256 = omega arith in
    let f : n % 4294967296 / 256 % 256 ≡ n / 256 % 256 = omega arith in
    let g : n % 4294967296 / 65536 % 256 ≡ n / 256 / 256 % 256 = omega arith in
    let h : n % 4294967296 / 16777216 % 256 ≡ n / 256 / 256 / 256 % 256 = omega arith in
    rw (e, f, g, h)

-- The number in four bytes, as std has it.
pub le_number : (l : List ℕ) → length l ≡ 4 → from_le_bytes w32 l ≡ num l
unfolding num
le_number [] h = absurd (omega arith)
le_number (a ∷ []) h = absurd (omega arith)
le_number (a ∷ b ∷ []) h = absurd (omega arith)
le_number (a ∷ b ∷ c ∷ []) h = absurd (omega arith)
le_number (a ∷ b ∷ c ∷ d ∷ []) h = omega arith
le_number (a ∷ b ∷ c ∷ d ∷ e ∷ l) h = absurd (omega arith)

-- Less than four bytes, in a word of zeros
pub num_short : (l : List ℕ) → length l < 4 → num (l ++ drop (length l) (replicate 4 0)) ≡ num l
unfolding num
num_short [] h = omega arith
num_short (a ∷ []) h = omega arith
num_short (a ∷ b ∷ []) h = omega arith
num_short (a ∷ b ∷ c ∷ []) h = omega arith
num_short (a ∷ b ∷ c ∷ d ∷ l) h = absurd (omega arith)

-- A number at a place.
pub num_at-drop : (w : ℕ) (b : List ℕ) (p : ℕ) → num_at w (drop p b) 0 ≡ num_at w b p
unfolding num_at
num_at-drop w b p = refl

pub le-num_at : (w : ℕ) (b : List ℕ) (p : ℕ) → Bytes b → p + w ≤ length b → le w (num_at w b p) ≡ take w (drop p b)
unfolding num_at
le-num_at w b p h k =
    let l : length (take w (drop p b)) ≡ w = simp (length-take, length-drop) (omega arith) in
    rw l at (le-num (take w (drop p b)) (bytes_take w (drop p b) (bytes_drop p b h)))

pub num_at-le : (w n : ℕ) (xs : List ℕ) → n < 256 ^ w → num_at w (le w n ++ xs) 0 ≡ n
unfolding num_at
num_at-le w n xs h = rw (take_at (le w n) xs w (length-le w n)) (num-le w n h)

pub num_at-bound : (w : ℕ) (b : List ℕ) (p : ℕ) → Bytes b → p + w ≤ length b → num_at w b p < 256 ^ w
unfolding num_at
num_at-bound w b p h k =
    let l : length (take w (drop p b)) ≡ w = simp (length-take, length-drop) (omega arith) in
    rw l at (num-bound (take w (drop p b)) (bytes_take w (drop p b) (bytes_drop p b h)))

-- The four bytes of an offset, one by one; what is not there counts as 0.
four-first : (b : List ℕ) → num (take 4 b) ≡ get_or b 0 0 + 256 * get_or b 1 0 + 65536 * get_or b 2 0 + 16777216 * get_or b 3 0
unfolding num
four-first [] = refl
four-first (a ∷ []) = omega arith
four-first (a ∷ b ∷ []) = omega arith
four-first (a ∷ b ∷ c ∷ []) = omega arith
four-first (a ∷ b ∷ c ∷ d ∷ xs) = omega arith

pub four_bytes : (b : List ℕ) (p : ℕ) → four b p ≡ get_or b p 0 + 256 * get_or b (p + 1) 0 + 65536 * get_or b (p + 2) 0 + 16777216 * get_or b (p + 3) 0
unfolding num_at
four_bytes b p = four-first (drop p b) ∙ simp (get_or-drop, add-zero)

pub four-past : (b : List ℕ) (p : ℕ) → length b ≤ p → 0 ≡ four b p
unfolding num num_at
four-past b p h = rw (drop_of_length-le b h)

-- The four bytes read one by one, and those that are there where some are missing
pub four_read : (b : List ℕ) (p : ℕ) → num (get_or b p 0 ∷ get_or b (p + 1) 0 ∷ get_or b (p + 2) 0 ∷ get_or b (p + 3) 0 ∷ []) ≡ four b p
unfolding num
four_read b p = omega (arith, four_bytes b p)

pub four_cut : (b : List ℕ) (p n : ℕ) → n ≡ length b - p → n ≤ 4 → num (take n (drop p b)) ≡ four b p
unfolding num_at
four_cut b p n e h =
    let l : length (drop p b) ≡ n = simp length-drop (omega arith) in
    rw (take_all n (drop p b) (omega arith), take_all 4 (drop p b) (omega arith)) refl

-- A word is below 2^32, whether or not all of it is there.
take_bound : (w : ℕ) (l : List ℕ) → Bytes l → num (take w l) < 256 ^ w
unfolding num Bytes
take_bound zero l h = omega arith
take_bound (suc w) [] h = one-le-pow (suc w) 256 (omega arith)
take_bound (suc w) (x ∷ xs) h = rw (pow-succ' 256 w) (omega (arith, take_bound w xs h.1, h.0))

pub word-there : (l : List ℕ) (i : ℕ) → i < length l / 4 → four l (4 * i) ≡ word_at l i
unfolding word_at
word-there l i h = rw (lt-ltb i (length l / 4) h)

-- Four bytes taken as a part say the same number, and those of a word are that word.
pub four-part : (b : List ℕ) (p : ℕ) → four (take (p + 4 - p) (drop p b)) 0 ≡ four b p
unfolding num_at
four-part b p =
    let e : p + 4 - p ≡ 4 = omega arith in
    rw (e, take_all 4 (take 4 (drop p b)) (simp length-take (omega arith)))

pub word-past : (l : List ℕ) (i : ℕ) → length l / 4 ≤ i → 0 ≡ word_at l i
unfolding word_at
word-past l i h = rw (le-ltb i (length l / 4) h)

-- The i-th of the words that a table is cut into, as std has it
chunk_at : (k i : ℕ) (l d : List ℕ) → i < k → get_or (first_chunks 4 k l) i d ≡ take 4 (drop (4 * i) l)
chunk_at zero i l d h = absurd (omega arith)
chunk_at (suc k) zero l d h = refl
chunk_at (suc k) (suc i) l d h =
    let e : 4 + 4 * i ≡ 4 * suc i = omega arith in
    chunk_at k i (drop 4 l) d (omega arith) ∙ rw (drop-drop, e) refl

module _ (l : List ℕ) (ws : List (List ℕ)) (i : ℕ) (e : ws ≡ first_chunks 4 (length l / 4) l) (n : length ws ≡ length l / 4) where
  pub word_cut : (w : List ℕ) (r : ℕ) → i < length ws → w ≡ get_or ws i w → r ≡ num w → r ≡ word_at l i
  unfolding num_at
  word_cut w r h f g =
      let k : i < length l / 4 = omega arith in
      g ∙ (ap num (f ∙ (ap (λ (x : List (List ℕ)). get_or x i w) e ∙ chunk_at (length l / 4) i l w k)) ∙ word-there l i k)

  pub word_none : length ws ≤ i → 0 ≡ word_at l i
  word_none h = word-past l i (omega arith)

pub word-part : (l : List ℕ) (i : ℕ) → i < length l / 4 → four (take (4 * i + 4 - 4 * i) (drop (4 * i) l)) 0 ≡ word_at l i
word-part l i h = four-part l (4 * i) ∙ word-there l i h

pub word_bound : (l : List ℕ) (i : ℕ) → Bytes l → word_at l i < 2 ^ 32
unfolding word_at num_at
word_bound l i h = go (ltb i (length l / 4))
  where
    go : (c : Bool) → pick c (four l (4 * i)) 0 < 2 ^ 32
    go true = take_bound 4 (drop (4 * i) l) (bytes_drop (4 * i) l h)
    go false = omega arith

-- What is known of a slice of bytes, index by index.
pub bytes-known : (l : List ℕ) → ((i : ℕ) → get_or l i 0 < 256) → Bytes l
unfolding Bytes
bytes-known [] h = tt
bytes-known (x ∷ xs) h = (h 0, bytes-known xs (λ i. h (suc i)))
