-- The tree of a legal table: its types are legal types of the standard, and their fixed lengths are below 2^32. Assumes nothing.
--     node_holds    what holds of each kind of type, where it holds of the types that are named there, holds of a type whose lower types have it
--     by_lower      what holds of a number where it holds of all lower ones holds of every number: with the above, of every type of a table
use mathlib.Core.Path.{◌≡◌, refl}
use mathlib.Core.List.{List}
use mathlib.Core.Bool.{Bool, true, false}
use Prim.Native.Nat.{ℕ, zero, suc, ◌+◌, ◌*◌, ◌≤◌, ◌<◌, ◌^◌}
use native.Mathlib.Nat.{add-zero}
use native.Mathlib.Omega.{arith}
use borrow.Author.Tests.{eqb-false, ltb-true}
use lib.ListN.{get_or}
use lib.Dec.{eqb}
use Rattle.standard.specs.Choice.{pick}
use Rattle.standard.specs.Bytes.{word_at}
use Rattle.standard.specs.Types.{Ty, Tys, Opts, number, boolean, fixed_bytes, free_bytes, bit_vector, bit_list, container, union, list, vector, end, field, over, bare, body, head, head_all, heads, joined, times, width, portion, NoFields, NoOptions, Rising, LegalTy, LegalAll, LegalOptions}
use Rattle.standard.specs.declared.Head.{Head}
use Rattle.standard.specs.declared.Head.TheVariants.{Fixed, Variable}
use Rattle.standard.proofs.Elements.{All}
use Rattle.layout.specs.Kinds.{is_leaf}
use Rattle.layout.specs.declared.Kind.{Kind}
use Rattle.layout.specs.Tree.{node_of, leaf_with, leaf_of, fields, options, trees, tree_of, len_of}
use Rattle.layout.specs.Table.{leaf_word}
use Rattle.layout.specs.Legal.{Lower, LowerOrBare, LegalNode, Legal}
use Rattle.layout.specs.Steps.{leaf_len_lem}
use Rattle.layout.specs.declared.Node.{Node}
use Rattle.layout.proofs.Facts.{trees-get, each-kind, as_container, as_union, as_leaf, as_list_lem, as_vector}

-- A leaf, by its kind.
module _ (t : ℕ) (n : Node) where
  pub leaf-cases : (P : Ty → Type 0) → (n.kind ≡ Kind.Number → P (number t n.second)) → (n.kind ≡ Kind.Boolean → P (boolean t)) →
      (n.kind ≡ Kind.FixedBytes → P (fixed_bytes t n.second)) → P (free_bytes t n.second) → (n.kind ≡ Kind.BitVector → P (bit_vector t n.second)) →
      P (bit_list t n.second) → P (leaf_of t n)
  unfolding leaf_of
  leaf-cases P p0 p1 p2 p3 p4 p5 = go n.kind refl
    where
      go : (k : Kind) → n.kind ≡ k → P (leaf_with k t n.second)
      go Kind.Number e = p0 e
      go Kind.Boolean e = p1 e
      go Kind.FixedBytes e = p2 e
      go Kind.FreeBytes e = p3
      go Kind.BitVector e = p4 e
      go k e = p5

  leaf-legal : leaf_word n.kind n.second ≡ true → LegalTy (leaf_of t n)
  unfolding LegalTy
  leaf-legal w =
      leaf-cases LegalTy (λ k. rw k at w) (λ k. tt) (λ k. ltb-true 0 _ (rw k at w)) tt (λ k. ltb-true 0 _ (rw k at w)) tt

  leaf-small : n.second < 2 ^ 32 → len_of (head (leaf_of t n)) < 2 ^ 32
  unfolding head
  leaf-small s =
      leaf-cases (λ (x : Ty). len_of (head x) < 2 ^ 32) (λ k. s) (λ k. omega arith) (λ k. s) (omega arith) (λ k. omega arith) (omega arith)

-- P of the body of each option
abbrev pub AllBodies : (Ty → Type 0) → Opts → Type 0
AllBodies P over = Unit {0}
AllBodies P (bare k os) = AllBodies P os
AllBodies P (body k t os) = P t × AllBodies P os

-- What holds of the lower types holds of the fields and options that name them, and so of the type itself.
module _ (P : Ty → Type 0) (l : List ℕ) (t : ℕ) (f : (u : ℕ) → u < t → P (tree_of l u)) where
  fields_hold : (at n : ℕ) → Lower l t at n → All P (fields l (trees l t) at n)
  unfolding fields Lower
  fields_hold at zero g = tt
  fields_hold at (suc n) g =
      let h : word_at l at < t = rw add-zero at (g 0 (omega arith)) in (
        rw (trees-get l t (word_at l at) (boolean 0) h) (f (word_at l at) h),
        fields_hold (at + 1) n (λ i k. let e : at + suc i ≡ at + 1 + i = omega arith in rw e at (g (suc i) (omega arith))),
      )

  options_hold : (at k n : ℕ) → LowerOrBare l t at n → AllBodies P (options l (trees l t) at k n)
  unfolding options LowerOrBare
  options_hold at k zero g = tt
  options_hold at k (suc n) g =
      go (eqb (word_at l at) 4294967295) refl
      (options_hold (at + 1) (k + 1) n (λ i h. let e : at + suc i ≡ at + 1 + i = omega arith in rw e at (g (suc i) (omega arith))))
    where
      go : (c : Bool) → eqb (word_at l at) 4294967295 ≡ c → AllBodies P (options l (trees l t) (at + 1) (k + 1) n) →
          AllBodies P (pick c (bare k (options l (trees l t) (at + 1) (k + 1) n))
          (body k (get_or (trees l t) (word_at l at) (boolean 0)) (options l (trees l t) (at + 1) (k + 1) n)))
      go true q r = r
      go false q r =
          let h : word_at l at < t = (rw add-zero at (g 0 (omega arith))) (eqb-false _ _ q) in
          (rw (trees-get l t (word_at l at) (boolean 0) h) (f (word_at l at) h), r)

  pub node_holds :
      (n : Node) → n ≡ node_of l t → LegalNode l t n
      → (is_leaf n.kind ≡ true → P (leaf_of t n))
      → (n.kind ≡ Kind.Container → All P (fields l (trees l t) (n.at + 2) n.second) → P (container t (fields l (trees l t) (n.at + 2) n.second)))
      → (n.kind ≡ Kind.Union → AllBodies P (options l (trees l t) (n.at + 2) 0 n.second) → P (union t (options l (trees l t) (n.at + 2) 0 n.second)))
      → (n.kind ≡ Kind.List → P (tree_of l n.second) → P (list t (tree_of l n.second) (word_at l (n.at + 2))))
      → (n.kind ≡ Kind.Vector → P (tree_of l n.second) → P (vector t (tree_of l n.second) (word_at l (n.at + 2))))
      → P (tree_of l t)
  node_holds n e g leaf six seven eight nine =
      each-kind (P (tree_of l t)) n.kind
      (λ k. rw (as_leaf l t n e k) (leaf k))
      (λ k. rw (as_container l t n e k) (six k (fields_hold _ _ (g.lower k))))
      (λ k. rw (as_union l t n e k) (seven k (options_hold _ 0 _ (g.optional k))))
      (λ k. let i = g.element (rw k) in rw (as_list_lem l t n e k i) (eight k (f _ i)))
      (λ k. let i = g.element (rw k) in rw (as_vector l t n e k i) (nine k (f _ i)))

pub by_lower : (P : ℕ → Type 0) (n : ℕ) → ((t : ℕ) → t < n → ((u : ℕ) → u < t → P u) → P t) → (t : ℕ) → t < n → P t
by_lower P zero f t h = absurd (omega arith)
by_lower P (suc n) f t h = f t h (λ u k. by_lower P n (λ v i. f v (omega arith)) u (omega arith))

-- Legal types.
legal-fields : (ts : Tys) → All LegalTy ts → LegalAll ts
unfolding LegalTy
legal-fields end h = tt
legal-fields (field t ts) h = (h.0, legal-fields ts h.1)

legal-bodies : (os : Opts) → AllBodies LegalTy os → LegalOptions os
unfolding LegalTy
legal-bodies over h = tt
legal-bodies (bare k os) h = legal-bodies os h
legal-bodies (body k t os) h = (h.0, legal-bodies os h.1)

module _ (l : List ℕ) (t : ℕ) where
  options_rising : (at k n : ℕ) → k + n ≤ 128 → Rising k (options l (trees l t) at k n)
  unfolding options Rising
  options_rising at k zero h = tt
  options_rising at k (suc n) h = go (eqb (word_at l at) 4294967295) (options_rising (at + 1) (k + 1) n (omega arith))
    where
      go : (c : Bool) → Rising (k + 1) (options l (trees l t) (at + 1) (k + 1) n) →
          Rising k (pick c (bare k (options l (trees l t) (at + 1) (k + 1) n))
          (body k (get_or (trees l t) (word_at l at) (boolean 0)) (options l (trees l t) (at + 1) (k + 1) n)))
      go true r = (omega arith, omega arith, r)
      go false r = (omega arith, omega arith, r)

  fields-some : (at n : ℕ) → 1 ≤ n → NoFields (fields l (trees l t) at n) → ⊥
  unfolding fields
  fields-some at zero h q = omega arith
  fields-some at (suc n) h q = q

  options-some : (at k n : ℕ) → 1 ≤ n → NoOptions (options l (trees l t) at k n) → ⊥
  unfolding options
  options-some at k zero h q = omega arith
  options-some at k (suc n) h q = go (eqb (word_at l at) 4294967295) q
    where
      go : (c : Bool) → NoOptions (pick c (bare k (options l (trees l t) (at + 1) (k + 1) n))
          (body k (get_or (trees l t) (word_at l at) (boolean 0)) (options l (trees l t) (at + 1) (k + 1) n))) → ⊥
      go true r = r
      go false r = r

  node_legal : ((u : ℕ) → u < t → LegalTy (tree_of l u)) → (n : Node) → n ≡ node_of l t → LegalNode l t n → LegalTy (tree_of l t)
  unfolding LegalTy
  node_legal f n e g =
      node_holds LegalTy l t f n e g
      (λ k. leaf-legal t n g.leaf)
      (λ k h. (fields-some _ _ (g.some (rw k)), legal-fields (fields l (trees l t) (n.at + 2) n.second) h))
      (λ k h. (
        options-some _ 0 _ (g.some (rw k)),
        options_rising _ 0 _ (omega (arith, g.most k)),
        legal-bodies (options l (trees l t) (n.at + 2) 0 n.second) h,
      ))
      (λ k h. h)
      (λ k h. (g.several k, h))

-- The types of a legal table are legal.
pub legal_tree : (l : List ℕ) (n t : ℕ) → Legal l n → t < n → LegalTy (tree_of l t)
unfolding Legal
legal_tree l n t g = by_lower (λ (u : ℕ). LegalTy (tree_of l u)) n (λ u h f. node_legal l u f (node_of l u) refl (g u h)) t

-- Their fixed lengths fit an offset.
joined_len : (x y : Head) (p : ℕ) → len_of y ≤ p → len_of (joined x y) ≤ width x + p
unfolding joined width
joined_len (Fixed n) (Fixed m) p h = omega arith
joined_len (Fixed n) Variable p h = omega arith
joined_len Variable y p h = omega arith

-- A length is no more than the fixed portion.
pub all-portion : (ts : Tys) → len_of (head_all ts) ≤ portion (heads ts)
unfolding head heads portion
all-portion end = omega arith
all-portion (field t ts) = joined_len (head t) (head_all ts) (portion (heads ts)) (all-portion ts)

-- The length of a vector is its count times that of an element, 0 if that is of variable size; and no more than its fixed portion.
times_len : (n : ℕ) (h : Head) → len_of (times n h) ≡ n * len_of h
unfolding times
times_len n (Fixed k) = refl
times_len n Variable = omega arith

times-portion : (n : ℕ) (h : Head) → len_of (times n h) ≤ n * width h
unfolding times width
times-portion n (Fixed k) = omega arith
times-portion n Variable = omega arith

pub len_small : (l : List ℕ) (t : ℕ) → LegalNode l t (node_of l t) → len_of (head (tree_of l t)) < 2 ^ 32
unfolding head
len_small l t g =
    let n = node_of l t in
    each-kind (len_of (head (tree_of l t)) < 2 ^ 32) n.kind
    (λ k. rw (as_leaf l t n refl k) (leaf-small t n g.small))
    (λ k. rw (as_container l t n refl k) (omega (arith, g.short k, all-portion (fields l (trees l t) (n.at + 2) n.second))))
    (λ k. rw (as_union l t n refl k) (omega arith))
    (λ k. rw (as_list_lem l t n refl k (g.element (rw k))) (omega arith))
    (λ k. rw (as_vector l t n refl k (g.element (rw k)))
    (omega (arith, g.narrow k, times-portion (word_at l (n.at + 2)) (head (tree_of l n.second)))))

-- The length of a type does not hang on its number.
pub leaf-number : (k : Kind) (t w : ℕ) → len_of (head (leaf_with k t w)) ≡ leaf_len_lem k w
unfolding head
leaf-number Kind.Number t w = refl
leaf-number Kind.Boolean t w = refl
leaf-number Kind.FixedBytes t w = refl
leaf-number Kind.FreeBytes t w = refl
leaf-number Kind.BitVector t w = refl
leaf-number k t w = refl

-- The length of a vector is its count times that of an element, 0 if that is of variable size: of a vector alone, and of one that a table has.
pub vector-length : (t n : ℕ) (x : Ty) → len_of (head (vector t x n)) ≡ n * len_of (head x)
unfolding head
vector-length t n x = times_len n (head x)

pub vector_len : (l : List ℕ) (t : ℕ) (r : Node) → r ≡ node_of l t → r.kind ≡ Kind.Vector → r.second < t →
    len_of (head (tree_of l t)) ≡ word_at l (r.at + 2) * len_of (head (tree_of l r.second))
vector_len l t r e h i = rw (as_vector l t r e h i) (vector-length t (word_at l (r.at + 2)) (tree_of l r.second))

pub leaf_len-small : (k : Kind) (m r : ℕ) → r ≡ leaf_len_lem k m → m < 2 ^ 32 → r < 2 ^ 32
unfolding leaf_of
leaf_len-small k m r e h = rw e (leaf-small 0 (record { kind = k; at = 0; second = m }) h)
