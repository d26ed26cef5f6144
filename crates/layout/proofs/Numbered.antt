-- What a table says by the numbers of its kind words: its tree, and where a body ends, are what document 01 says of kinds 0 to 9, and of no other
-- number. Assumes nothing.
use mathlib.Core.Path.{◌≡◌, refl}
use mathlib.Core.List.{List}
use mathlib.Core.Bool.{Bool, true, false}
use Prim.Native.Nat.{ℕ, ◌+◌, ◌≤◌, ◌<◌}
use native.Mathlib.Omega.{arith}
use borrow.Author.Tests.{ltb-true, ltb-false, eqb-true, eqb-false, ne_eqb, le-ltb}
use lib.ListN.{get_or}
use lib.Dec.{eqb, ltb}
use Rattle.std.specs.Prelude.{unwrap_or}
use Rattle.std.specs.declared.option.Option.TheVariants.{None}
use Rattle.std.specs.declared.result.Result.{Result}
use Rattle.std.specs.declared.result.Result.TheVariants.{Ok, Err}
use Rattle.standard.specs.Choice.{pick}
use Rattle.standard.specs.Bytes.{word_at}
use Rattle.standard.specs.Types.{Ty, number, boolean, fixed_bytes, free_bytes, bit_vector, bit_list, container, union, list, vector, is_width}
use Rattle.standard.specs.declared.Refusal.{Refusal}
use Rattle.standard.specs.declared.Refusal.TheVariants.{BadLayout}
use Rattle.layout.specs.Kinds.{kind_of}
use Rattle.layout.specs.Tree.{node_of, type_with, from_node, fields, options, trees, tree_of}
use Rattle.layout.specs.Table.{count, many, container_end_lem, list_end_lem, vector_end_lem, leaf_end_lem, kind_end, body_end_lem}
use Rattle.layout.specs.declared.Kind.{Kind}

-- The type t of the kind word k
abbrev pub numbered_type : ℕ → List ℕ → List Ty → ℕ → ℕ → ℕ → Ty
numbered_type k l lower t at w =
    pick (eqb k 6) (container t (fields l lower (at + 2) w))
    (pick (eqb k 7) (union t (options l lower (at + 2) 0 w))
    (pick (eqb k 8) (list t (get_or lower w (boolean 0)) (word_at l (at + 2)))
    (pick (eqb k 9) (vector t (get_or lower w (boolean 0)) (word_at l (at + 2)))
    (pick (eqb k 0) (number t w)
    (pick (eqb k 1) (boolean t)
    (pick (eqb k 2) (fixed_bytes t w)
    (pick (eqb k 3) (free_bytes t w)
    (pick (eqb k 4) (bit_vector t w)
    (bit_list t w)))))))))

-- What the word of a leaf of the kind word k must be
abbrev pub numbered_word : ℕ → ℕ → Bool
numbered_word k w = pick (eqb k 0) (is_width w) (pick (eqb k 2) (ltb 0 w) (pick (eqb k 4) (ltb 0 w) true))

-- Where such a leaf ends
abbrev pub numbered_leaf : ℕ → List ℕ → ℕ → Result ℕ Refusal
numbered_leaf k l at =
    pick (ltb (at + 1) (count l))
    (pick (numbered_word k (word_at l (at + 1))) (Ok (at + 2)) (Err (BadLayout (at + 1))))
    (Err (BadLayout (count l)))

-- Where the body of type t ends, by its kind word k
abbrev pub numbered_end : ℕ → List ℕ → ℕ → ℕ → Result ℕ Refusal
numbered_end k l t at =
    pick (eqb k 6) (container_end_lem l t at)
    (pick (eqb k 7) (many l t at true 128)
    (pick (eqb k 8) (list_end_lem l t at)
    (pick (eqb k 9) (vector_end_lem l t at)
    (pick (eqb k 1) (Ok (at + 1))
    (pick (ltb k 6) (numbered_leaf k l at)
    (Err (BadLayout at)))))))

-- What holds at 0 to 9, and of a number that is none of them, holds of every number.
module _ (k : ℕ) where
  by_number : (P : ℕ → Type 0) → P 0 → P 1 → P 2 → P 3 → P 4 → P 5 → P 6 → P 7 → P 8 → P 9 → (9 < k → P k) → P k
  by_number P p0 p1 p2 p3 p4 p5 p6 p7 p8 p9 more =
      at 0 p0 (λ n0. at 1 p1 (λ n1. at 2 p2 (λ n2. at 3 p3 (λ n3. at 4 p4 (λ n4. at 5 p5 (λ n5. at 6 p6 (λ n6. at 7 p7 (λ n7. at 8 p8 (λ n8.
      at 9 p9 (λ n9. more (omega arith)))))))))))
    where
      at : (n : ℕ) → P n → ((k ≡ n → ⊥) → P k) → P k
      at n p other = go (eqb k n) refl
        where
          go : (b : Bool) → eqb k n ≡ b → P k
          go true e = rw (eqb-true k n e) p
          go false e = other (eqb-false k n e)

-- A number above 9 is none of them.
above : (k n : ℕ) → 9 < k → n ≤ 9 → eqb k n ≡ false
above k n h i = ne_eqb k n (λ (q : k ≡ n). omega arith)

kind_above : (k : ℕ) → 9 < k → kind_of k ≡ None
unfolding kind_of
kind_above k h =
    rw (
      above k 0 h (omega arith),
      above k 1 h (omega arith),
      above k 2 h (omega arith),
      above k 3 h (omega arith),
      above k 4 h (omega arith),
      above k 5 h (omega arith),
      above k 6 h (omega arith),
      above k 7 h (omega arith),
      above k 8 h (omega arith),
      above k 9 h (omega arith),
    )

module _ (l : List ℕ) (t at : ℕ) where
  type_numbered : (lower : List Ty) (w k : ℕ) → type_with (unwrap_or (kind_of k) Kind.BitList) l lower t at w ≡ numbered_type k l lower t at w
  unfolding kind_of
  type_numbered lower w k =
      by_number k (λ (k : ℕ). type_with (unwrap_or (kind_of k) Kind.BitList) l lower t at w ≡ numbered_type k l lower t at w)
      refl refl refl refl refl refl refl refl refl refl
      (λ h.
      rw (
        kind_above k h,
        above k 6 h (omega arith),
        above k 7 h (omega arith),
        above k 8 h (omega arith),
        above k 9 h (omega arith),
        above k 0 h (omega arith),
        above k 1 h (omega arith),
        above k 2 h (omega arith),
        above k 3 h (omega arith),
        above k 4 h (omega arith),
      ))

  end_numbered : (k : ℕ) → kind_end (kind_of k) l t at ≡ numbered_end k l t at
  unfolding kind_of leaf_end_lem
  end_numbered k =
      by_number k (λ (k : ℕ). kind_end (kind_of k) l t at ≡ numbered_end k l t at) refl refl refl refl refl refl refl refl refl refl
      (λ h.
      rw (
        kind_above k h,
        above k 6 h (omega arith),
        above k 7 h (omega arith),
        above k 8 h (omega arith),
        above k 9 h (omega arith),
        above k 1 h (omega arith),
        le-ltb k 6 (omega arith),
      ))

-- The tree of a table, by the numbers
pub tree_numbered : (l : List ℕ) (t : ℕ) →
    tree_of l t ≡ numbered_type (word_at l (word_at l (1 + t))) l (trees l t) t (word_at l (1 + t)) (word_at l (word_at l (1 + t) + 1))
unfolding tree_of from_node node_of
tree_numbered l t = type_numbered l t (word_at l (1 + t)) (trees l t) (word_at l (word_at l (1 + t) + 1)) (word_at l (word_at l (1 + t)))

-- Where a body ends, by the numbers
pub body_numbered : (l : List ℕ) (t at : ℕ) →
    body_end_lem l t at ≡ pick (ltb at (count l)) (numbered_end (word_at l at) l t at) (Err (BadLayout (count l)))
unfolding body_end_lem
body_numbered l t at = rw (end_numbered l t at (word_at l at))

-- What holds of leaves, of containers, of unions, of lists and of vectors holds of every kind, by its number.
pub each-number : (P : Type 0) (k : ℕ) → k ≤ 9 → (k < 6 → P) → (k ≡ 6 → P) → (k ≡ 7 → P) → (k ≡ 8 → P) → (k ≡ 9 → P) → P
each-number P k h leaf six seven eight nine = go (ltb k 6) (eqb k 6) (eqb k 7) (eqb k 8) refl refl refl refl
  where
    go : (a b c d : Bool) → ltb k 6 ≡ a → eqb k 6 ≡ b → eqb k 7 ≡ c → eqb k 8 ≡ d → P
    go true b c d p q r s = leaf (ltb-true k 6 p)
    go false true c d p q r s = six (eqb-true k 6 q)
    go false false true d p q r s = seven (eqb-true k 7 r)
    go false false false true p q r s = eight (eqb-true k 8 s)
    go false false false false p q r s =
        let x = ltb-false k 6 p in
        let y = eqb-false k 6 q in
        let z = eqb-false k 7 r in
        let w = eqb-false k 8 s in
        nine (omega arith)
