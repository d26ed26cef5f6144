-- Laws on numbers of eight bytes and on parts. Assumes nothing.
use mathlib.Core.Path.{◌≡◌, refl, sym, ap, ◌∙◌}
use mathlib.Core.Bool.{Bool, true, false}
use mathlib.Core.List.{List, [], ◌∷◌}
use Prim.Native.Nat.{ℕ, zero, suc, ◌+◌, ◌-◌, ◌*◌, ◌≤◌, ◌<◌}
use native.Mathlib.Nat.{zero-add, suc-add}
use native.Mathlib.Omega.{arith}
use lib.Dec.{leb, ltb}
use lib.ListN.{length, take, drop, get_or}
use lib.Seq.{drop-drop}
use borrow.Author.Tests.{leb-true, ltb-false, le-leb, lt-leb}
use Rattle.standard.specs.Bytes.{num, four, word_at}
use Rattle.standard.specs.Choice.{pick}
use Rattle.cases.specs.Records.{end_of, go_on_lem, row_end, record_end_lem, next_of, start_of, body_of, part_of, reach}
use Rattle.std.specs.Int.{w64, from_le_bytes}
use Rattle.std.specs.Simd.{first_chunks}
use Rattle.std.specs.Bool.{then_some}
use Rattle.std.specs.Option.{unwrap_or}
use Rattle.std.specs.declared.option.Option.{Option}
use Rattle.std.specs.declared.option.Option.TheVariants.{Some, None}

-- A number of eight bytes, by the library's sum
pub eight-sum : (b : List ℕ) → from_le_bytes w64 b ≡ num (take 8 b)
unfolding num
eight-sum [] = refl
eight-sum (a ∷ []) = omega arith
eight-sum (a ∷ b ∷ []) = omega arith
eight-sum (a ∷ b ∷ c ∷ []) = omega arith
eight-sum (a ∷ b ∷ c ∷ d ∷ []) = omega arith
eight-sum (a ∷ b ∷ c ∷ d ∷ e ∷ []) = omega arith
eight-sum (a ∷ b ∷ c ∷ d ∷ e ∷ f ∷ []) = omega arith
eight-sum (a ∷ b ∷ c ∷ d ∷ e ∷ f ∷ g ∷ []) = omega arith
eight-sum (a ∷ b ∷ c ∷ d ∷ e ∷ f ∷ g ∷ h ∷ xs) = omega arith

pub chunk-at : (k i : ℕ) (xs d : List ℕ) → i < k → get_or (first_chunks 8 k xs) i d ≡ take 8 (drop (8 * i) xs)
chunk-at zero i xs d h = absurd (omega arith)
chunk-at (suc k) zero xs d h = refl
chunk-at (suc k) (suc i) xs d h =
    let e : 8 * suc i ≡ 8 + 8 * i = omega arith in
    rw e (chunk-at k i (drop 8 xs) d (omega arith) ∙ ap (take 8) (drop-drop (8 * i) 8 xs))

pub end_whole : (b : List ℕ) (p : ℕ) → p + 4 + four b p ≤ length b → Some (p + 4 + four b p) ≡ end_of b p
unfolding end_of
end_whole b p h = rw (le-leb (p + 4 + four b p) (length b) h)

pub end-cut : (b : List ℕ) (p : ℕ) → length b < p + 4 + four b p → None ≡ end_of b p
unfolding end_of
end-cut b p h = rw (lt-leb (p + 4 + four b p) (length b) h)

-- A part that is all there ends behind its length's word, and within the bytes.
whole-taken : (c : Bool) (n e : ℕ) → pick c (Some n) None ≡ Some e → (c ≡ true) × (n ≡ e)
whole-taken true n e h = (refl, (cc))
whole-taken false n e h = let z : ◌≡◌ {A = ℕ} 0 1 = cc in absurd (omega arith)

pub end_within : (b : List ℕ) (p e : ℕ) → Some e ≡ end_of b p → (p + 4 ≤ e) × (e ≤ length b)
unfolding end_of
end_within b p e h =
    let w = whole-taken (leb (p + 4 + four b p) (length b)) (p + 4 + four b p) e (sym h) in
    let k : p + 4 + four b p ≤ length b = leb-true _ _ w.0 in
    omega (arith, w.1)

-- At the end of the bytes there is no part: a walk that has come there stays there, and finds no bytes.
none-behind : (b : List ℕ) (p : ℕ) → length b ≤ p → [] ≡ body_of b p
unfolding body_of
none-behind b p h = rw (← end-cut b p (omega arith))

next-behind : (b : List ℕ) (p : ℕ) → length b ≤ p → next_of b p ≡ length b
unfolding next_of
next-behind b p h = rw (← end-cut b p (omega arith))

start-behind : (b : List ℕ) (n k : ℕ) → length b ≤ start_of b k → length b ≤ start_of b (n + k)
unfolding start_of
start-behind b zero k h = rw zero-add h
start-behind b (suc n) k h = rw suc-add (omega (arith, next-behind b (start_of b (n + k)) (start-behind b n k h)))

-- So from there on every part is empty, as the one at that place is.
pub part-behind : (b : List ℕ) (k i : ℕ) → k ≤ i → length b ≤ start_of b k → part_of b k ≡ part_of b i
part-behind b k i h e =
    let n : i - k + k ≡ i = omega arith in
    sym (none-behind b (start_of b k) e) ∙ none-behind b (start_of b i) (rw n at (start-behind b (i - k) k e))

-- Before the end each step goes on, and not past the end.
next-step : (b : List ℕ) (p : ℕ) (x : Option ℕ) → x ≡ end_of b p → p < length b → (p < reach x (length b)) × (reach x (length b) ≤ length b)
next-step b p (Some e) h k = let w = end_within b p e h in omega arith
next-step b p None h k = omega arith

pub next-further : (b : List ℕ) (p : ℕ) → p < length b → (p < next_of b p) × (next_of b p ≤ length b)
unfolding next_of
next-further b p h = next-step b p (end_of b p) refl h

-- A step of the walk over a row of parts
pub row_more : (b : List ℕ) (n p e : ℕ) → 0 < n → Some e ≡ end_of b p → row_end b (n - 1) e ≡ row_end b n p
unfolding row_end
row_more b zero p e h k = absurd (omega arith)
row_more b (suc n) p e h k = let m : suc n - 1 ≡ n = omega arith in rw (m, ← k)

pub row_cut : (b : List ℕ) (n p : ℕ) → 0 < n → None ≡ end_of b p → None ≡ row_end b n p
unfolding row_end
row_cut b zero p h k = absurd (omega arith)
row_cut b (suc n) p h k = rw (← k) refl

pub row-none : (b : List ℕ) (p : ℕ) → Some p ≡ row_end b 0 p
unfolding row_end
row-none b p = refl

-- A record that is all there ends within the bytes, behind its two words.
row_step : (b : List ℕ) (n p e : ℕ) (x : Option ℕ) →
    x ≡ end_of b p →
    Some e ≡ go_on_lem x (row_end b n) →
    ((q : ℕ) → q ≤ length b → Some e ≡ row_end b n q → (q ≤ e) × (e ≤ length b)) →
    (p ≤ e) × (e ≤ length b)
row_step b n p e (Some q) h k f =
    let w = end_within b p q h in
    let v = f q w.1 k in
    omega arith
row_step b n p e None h k f = let z : ◌≡◌ {A = ℕ} 0 1 = cc in absurd (omega arith)

row_within : (b : List ℕ) (n p e : ℕ) → p ≤ length b → Some e ≡ row_end b n p → (p ≤ e) × (e ≤ length b)
unfolding row_end
row_within b zero p e h k = let q : e ≡ p = cc in omega arith
row_within b (suc n) p e h k = row_step b n p e (end_of b p) refl k (λ q. row_within b n q e)

record-step : (c : Bool) (b : List ℕ) (n e : ℕ) → (c ≡ false → 8 ≤ length b) →
    Some e ≡ pick c None (row_end b n 8) →
    (8 ≤ e) × (e ≤ length b)
record-step true b n e h k = let z : ◌≡◌ {A = ℕ} 0 1 = cc in absurd (omega arith)
record-step false b n e h k = row_within b n 8 e (h refl) k

pub record_within : (b : List ℕ) (e : ℕ) → Some e ≡ record_end_lem b → (8 ≤ e) × (e ≤ length b)
unfolding record_end_lem
record_within b e h = record-step (ltb (length b) 8) b (word_at b 1) e (ltb-false (length b) 8) h

pub then-pick : (c : Bool) (n : ℕ) → then_some c n ≡ pick c (Some n) None
then-pick true n = refl
then-pick false n = refl

pub reach-or : (x : Option ℕ) (n : ℕ) → unwrap_or x n ≡ reach x n
reach-or (Some e) n = refl
reach-or None n = refl
