-- Values stored one after another, and the room for them. Assumes nothing.
use mathlib.Core.Path.{◌≡◌, refl, sym, ap, ◌∙◌}
use mathlib.Core.List.{List, [], ◌∷◌, ◌++◌}
use Prim.Native.Nat.{ℕ, zero, suc, ◌+◌, ◌-◌, ◌≤◌, ◌<◌}
use native.Mathlib.Nat.{add-zero}
use native.Mathlib.Numerals.{add-one}
use native.Mathlib.Omega.{arith}
use borrow.Rule.Slice.PartMut.{put_mid}
use Rattle.std.proofs.Common.{append_assoc, drop-drop}
use lib.ListN.{length, get_or, take, drop, set, length-take, length-append, length-set, drop_of_length-le}
use lib.Seq.{sets, sets-eq, length-sets, set_out, drop-cons}
use Rattle.standard.specs.Bytes.{Stored, Room}

pub sets-append : (xs ys l : List ℕ) (i : ℕ) → sets (sets l i xs) (i + length xs) ys ≡ sets l i (xs ++ ys)
sets-append [] ys l i = ap (λ (k : ℕ). sets l k ys) (add-zero i)
sets-append (x ∷ xs) ys l i =
    let e : i + suc (length xs) ≡ suc i + length xs = omega arith in
    rw e (sets-append xs ys _ (suc i))

-- Past the end nothing is stored.
pub sets_out : (xs l : List ℕ) (i : ℕ) → length l ≤ i → sets l i xs ≡ l
sets_out [] l i h = refl
sets_out (x ∷ xs) l i h = rw (set_out l i x h) (sets_out xs l (suc i) (omega arith))

-- What goes past the end is left out.
pub sets_cut : (n : ℕ) (xs l : List ℕ) (i : ℕ) → length l ≡ i + n → sets l i (take n xs) ≡ sets l i xs
sets_cut zero xs l i h = sym (sets_out xs l i (omega arith))
sets_cut (suc n) [] l i h = refl
sets_cut (suc n) (x ∷ xs) l i h = sets_cut n xs (set l i x) (suc i) (length-set l i x ∙ omega arith)

-- A part that was written over whole, as std has it: k is its length, and xs what it holds now.
pub part_sets : (l xs ys : List ℕ) (at k : ℕ) → xs ≡ ys → k ≡ length ys → at + length ys ≤ length l → put_mid at k l xs ≡ sets l at ys
part_sets l xs ys at k e f h = rw (e, f, sets-eq ys l at h, drop-drop, append_assoc (take at l) ys (drop (at + length ys) l)) refl

-- A part up to the end, written over with as much of xs as has room
pub short_sets : (l w xs : List ℕ) (at k : ℕ) → w ≡ take k xs → k ≡ length l - at → at ≤ length l → k ≤ length xs → put_mid at k l w ≡ sets l at xs
short_sets l w xs at k e f h g =
    let n : length (take k xs) ≡ k = simp length-take (omega arith) in
    part_sets l w (take k xs) at k e (omega arith) (omega arith) ∙ sets_cut k xs l at (omega arith)

-- First xs, then ys: together x.
pub stored_then : (o : List ℕ) (at : ℕ) (xs : List ℕ) (n : ℕ) (o₁ ys : List ℕ) (r : ℕ) (o₂ x : List ℕ) → Stored o at xs n o₁ → Stored o₁ n ys r o₂ →
    x ≡ xs ++ ys → Stored o at x r o₂
stored_then o at xs n o₁ ys r o₂ x g h q =
    record {
      list = h.list ∙ rw (g.list, g.ends, q) (sets-append xs ys o at);
      ends = rw q (simp length-append (omega (arith, g.ends, h.ends)));
    }

pub stored-none : (o : List ℕ) (at : ℕ) (x : List ℕ) → x ≡ [] → Stored o at x at o
stored-none o at x q = rw q (record { list = refl; ends = omega arith })

pub room-first : (o : List ℕ) (at : ℕ) (x xs ys : List ℕ) → Room o at x → x ≡ xs ++ ys → Room o at xs
room-first o at x xs ys g q = record { room = omega (arith, g.room, simp length-append at (ap length q)) }

pub room_then : (o : List ℕ) (at : ℕ) (x xs ys : List ℕ) (n : ℕ) (o₁ : List ℕ) → Room o at x → x ≡ xs ++ ys → Stored o at xs n o₁ → Room o₁ n ys
room_then o at x xs ys n o₁ g q h =
    let k = ap length h.list ∙ length-sets o at xs in
    record { room = omega (arith, g.room, h.ends, simp length-append at (ap length q)) }

-- The loop of a copy: the first i elements of s are stored in o, which gives o', and what is left to store gives the whole.
pub record Copying (o : List ℕ) (at : ℕ) (s o' : List ℕ) (i : ℕ) : Type 0 where
  pub within : i ≤ length s
  pub long : length o' ≡ length o
  pub rest : sets o' (at + i) (drop i s) ≡ sets o at s

module _ (o : List ℕ) (at : ℕ) (s : List ℕ) where
  pub copying_none : Copying o at s o 0
  copying_none = record { within = omega arith; long = refl; rest = ap (λ (k : ℕ). sets o k s) (add-zero at) }

  pub copying_more : (o' : List ℕ) (i : ℕ) → Copying o at s o' i → i < length s → Copying o at s (set o' (at + i) (get_or s i 0)) (i + 1)
  copying_more o' i g h =
      let e : at + (i + 1) ≡ suc (at + i) = omega arith in
      record {
        within = omega arith;
        long = length-set o' (at + i) (get_or s i 0) ∙ g.long;
        rest = rw (e, add-one) (sym (ap (sets o' (at + i)) (drop-cons s i 0 h)) ∙ g.rest);
      }

  pub copying_all : (o' : List ℕ) (i : ℕ) → Copying o at s o' i → length s ≤ i → o' ≡ sets o at s
  copying_all o' i g h = sym (ap (sets o' (at + i)) (drop_of_length-le s h)) ∙ g.rest

  pub copying_stored : (o' : List ℕ) (i : ℕ) → Copying o at s o' i → length s ≤ i → Stored o at s (at + i) o'
  copying_stored o' i g h = record { list = copying_all o' i g h; ends = omega (arith, g.within) }
