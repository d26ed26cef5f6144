-- Laws about bits: each operation on lists of Bool as an operation on the number of the bits. Assumes nothing.
use mathlib.Core.Path.{◌≡◌, refl, sym, ap, ◌∙◌}
use mathlib.Core.List.{List, [], ◌∷◌, ◌++◌}
use mathlib.Core.Bool.{Bool, true, false, not}
use Prim.Native.Nat.{ℕ, zero, suc, ◌+◌, ◌-◌, ◌*◌, ◌%◌, ◌^◌, ◌<◌, ◌≤◌, min, max}
use native.Mathlib.Nat.{pow-succ', mul_comm}
use native.Mathlib.Omega.{arith}
use borrow.Author.Tests.{ne_eqb}
use lib.Bits.{bit_and, bit_or, and_step, or_step, and_zero_l, and_zero_r, or_zero_l, or_zero_r, and_le_l}
use lib.Count.{ones, ones_in, ones_step}
use lib.Dec.{eqb}
use lib.ListN.{length, get_or, set, length-append, length-take, length-replicate}
use Rattle.standard.specs.Bits.{bit, bit_num}
use Rattle.standard.specs.Choice.{and_also, or_else}
use Rattle.standard.proofs.Bits.{half_bit, bit_num-take}
use Rattle.bitfield.specs.Bools.{both, either, without, flipped, no_bits, moved, widened, count, none_set}

odd : (x : Bool) (m : ℕ) → (bit x + 2 * m) % 2 ≡ bit x
odd true m = omega arith
odd false m = omega arith

-- One pair of bits, and the rest
step_and : (x y : Bool) (m n : ℕ) → bit_and (bit x + 2 * m) (bit y + 2 * n) ≡ bit (and_also x y) + 2 * bit_and m n
step_and x y m n = rw (and_step (bit x + 2 * m) (bit y + 2 * n), half_bit x m, half_bit y n, odd x m, odd y n, pair x y) (omega arith)
  where
    pair : (x y : Bool) → min (bit x) (bit y) ≡ bit (and_also x y)
    pair true true = refl
    pair true false = refl
    pair false true = refl
    pair false false = refl

step_or : (x y : Bool) (m n : ℕ) → bit_or (bit x + 2 * m) (bit y + 2 * n) ≡ bit (or_else x y) + 2 * bit_or m n
step_or x y m n = rw (or_step (bit x + 2 * m) (bit y + 2 * n), half_bit x m, half_bit y n, odd x m, odd y n, pair x y) (omega arith)
  where
    pair : (x y : Bool) → max (bit x) (bit y) ≡ bit (or_else x y)
    pair true true = refl
    pair true false = refl
    pair false true = refl
    pair false false = refl

step-without : (x y : Bool) (m n : ℕ)
    → bit (and_also x (not y)) + 2 * (m - bit_and m n) ≡ (bit x + 2 * m) - bit_and (bit x + 2 * m) (bit y + 2 * n)
step-without x y m n = let b = and_le_l m n in rw (step_and x y m n) (pair x y (bit_and m n) b)
  where
    pair : (x y : Bool) (a : ℕ) → a ≤ m → bit (and_also x (not y)) + 2 * (m - a) ≡ (bit x + 2 * m) - (bit (and_also x y) + 2 * a)
    pair true true a h = omega arith
    pair true false a h = omega arith
    pair false true a h = omega arith
    pair false false a h = omega arith

pub bit_num-both : (xs ys : List Bool) → bit_num (both xs ys) ≡ bit_and (bit_num xs) (bit_num ys)
unfolding both bit_num
bit_num-both [] ys = sym (and_zero_l (bit_num ys))
bit_num-both (x ∷ xs) [] = sym (and_zero_r (bit x + 2 * bit_num xs))
bit_num-both (x ∷ xs) (y ∷ ys) = rw (bit_num-both xs ys) (sym (step_and x y (bit_num xs) (bit_num ys)))

pub bit_num-either : (xs ys : List Bool) → bit_num (either xs ys) ≡ bit_or (bit_num xs) (bit_num ys)
unfolding either bit_num
bit_num-either [] ys = sym (or_zero_l (bit_num ys))
bit_num-either (x ∷ xs) [] = sym (or_zero_r (bit x + 2 * bit_num xs))
bit_num-either (x ∷ xs) (y ∷ ys) = rw (bit_num-either xs ys) (sym (step_or x y (bit_num xs) (bit_num ys)))

pub bit_num-without : (xs ys : List Bool) → bit_num (without xs ys) ≡ bit_num xs - bit_and (bit_num xs) (bit_num ys)
unfolding without bit_num
bit_num-without [] ys = omega arith
bit_num-without (x ∷ xs) [] = rw (and_zero_r (bit x + 2 * bit_num xs)) (omega arith)
bit_num-without (x ∷ xs) (y ∷ ys) = rw (bit_num-without xs ys) (step-without x y (bit_num xs) (bit_num ys))

pub bit_num-flipped : (xs : List Bool) → bit_num (flipped xs) + bit_num xs + 1 ≡ 2 ^ length xs
unfolding flipped bit_num
bit_num-flipped [] = refl
bit_num-flipped (true ∷ xs) = let r = bit_num-flipped xs in rw (pow-succ' 2 (length xs)) (omega arith)
bit_num-flipped (false ∷ xs) = let r = bit_num-flipped xs in rw (pow-succ' 2 (length xs)) (omega arith)

pub bit_num-no_bits : (n : ℕ) → bit_num (no_bits n) ≡ 0
unfolding bit_num
bit_num-no_bits zero = refl
bit_num-no_bits (suc n) = rw (bit_num-no_bits n)

-- One list behind another
pub bit_num-append : (xs ys : List Bool) → bit_num (xs ++ ys) ≡ bit_num xs + 2 ^ length xs * bit_num ys
unfolding bit_num
bit_num-append [] ys = omega arith
bit_num-append (x ∷ xs) ys = let r = bit_num-append xs ys in rw (pow-succ' 2 (length xs)) (omega arith)

pub bit_num-moved : (n : ℕ) (bs : List Bool) → bit_num (moved n bs) ≡ (bit_num bs * 2 ^ n) % 2 ^ length bs
unfolding moved
bit_num-moved n bs =
    rw (bit_num-take, bit_num-append (no_bits n) bs, bit_num-no_bits n, length-replicate n false, mul_comm (bit_num bs) (2 ^ n))
    (ap (λ (z : ℕ). z % 2 ^ length bs) (omega arith))

pub bit_num-widened : (m : ℕ) (bs : List Bool) → bit_num (widened m bs) ≡ bit_num bs
unfolding widened
bit_num-widened m bs = rw (bit_num-append bs (no_bits (m - length bs)), bit_num-no_bits (m - length bs)) (omega arith)

-- A bit changed
pub bit_num-set : (bs : List Bool) (i : ℕ) (v : Bool) → i < length bs
    → bit_num (set bs i v) + 2 ^ i * bit (get_or bs i false) ≡ bit_num bs + 2 ^ i * bit v
unfolding bit_num
bit_num-set [] i v h = absurd (omega arith)
bit_num-set (x ∷ xs) zero v h = omega arith
bit_num-set (x ∷ xs) (suc i) v h = let r = bit_num-set xs i v (omega arith) in rw (pow-succ' 2 i) (omega arith)

-- Lengths
pub length_both : (xs ys : List Bool) → length (both xs ys) ≡ min (length xs) (length ys)
unfolding both
length_both [] ys = omega arith
length_both (x ∷ xs) [] = omega arith
length_both (x ∷ xs) (y ∷ ys) = let r = length_both xs ys in omega arith

pub length-either : (xs ys : List Bool) → length (either xs ys) ≡ max (length xs) (length ys)
unfolding either
length-either [] ys = omega arith
length-either (x ∷ xs) [] = omega arith
length-either (x ∷ xs) (y ∷ ys) = let r = length-either xs ys in omega arith

pub length_without : (xs ys : List Bool) → length (without xs ys) ≡ length xs
unfolding without
length_without [] ys = refl
length_without (x ∷ xs) [] = refl
length_without (x ∷ xs) (y ∷ ys) = ap suc (length_without xs ys)

pub length-flipped : (xs : List Bool) → length (flipped xs) ≡ length xs
unfolding flipped
length-flipped [] = refl
length-flipped (x ∷ xs) = ap suc (length-flipped xs)

pub length_moved : (n : ℕ) (bs : List Bool) → length (moved n bs) ≡ length bs
unfolding moved
length_moved n bs = rw (length-take, length-append) (omega arith)

pub length-widened : (m : ℕ) (bs : List Bool) → length bs ≤ m → length (widened m bs) ≡ m
unfolding widened
length-widened m bs h = rw (length-append, length-replicate) (omega arith)

-- Counts
ones_zero : ones 0 ≡ 0
unfolding ones ones_in
ones_zero = refl

pub count_ones : (bs : List Bool) → count bs ≡ ones (bit_num bs)
unfolding count bit_num
count_ones [] = sym ones_zero
count_ones (x ∷ xs) = rw (ones_step (bit x + 2 * bit_num xs), half_bit x (bit_num xs), odd x (bit_num xs), count_ones xs)

pub none_number : (bs : List Bool) → none_set bs ≡ eqb (bit_num bs) 0
unfolding none_set bit_num
none_number [] = refl
none_number (true ∷ xs) = sym (ne_eqb (1 + 2 * bit_num xs) 0 (λ (e : 1 + 2 * bit_num xs ≡ 0). omega arith))
none_number (false ∷ xs) = none_number xs ∙ twice (bit_num xs)
  where
    twice : (n : ℕ) → eqb n 0 ≡ eqb (0 + 2 * n) 0
    twice zero = refl
    twice (suc n) =
        ne_eqb (suc n) 0 (λ (e : suc n ≡ 0). omega arith)
        ∙ sym (ne_eqb (0 + 2 * suc n) 0 (λ (e : 0 + 2 * suc n ≡ 0). omega arith))
