-- The tree of a table: its types by number, its fields one by one, its lengths in an array. Assumes nothing.
use mathlib.Core.Path.{◌≡◌, refl, sym, ap, ◌∙◌}
use mathlib.Core.Logic.{⊎_elim}
use mathlib.Core.List.{List, [], ◌∷◌, ◌++◌, append_assoc}
use mathlib.Core.Bool.{true}
use Prim.Native.Nat.{ℕ, zero, suc, ◌+◌, ◌-◌, ◌≤◌, ◌<◌}
use native.Mathlib.Nat.{eq-or-lt_of_le, add-zero}
use native.Mathlib.Omega.{arith}
use borrow.Author.Tests.{ne_eqb}
use lib.ListN.{length, get_or, set, replicate, length-append, length-replicate, get_or-append}
use lib.Seq.{get_or_at, set_at}
use Rattle.standard.specs.Bytes.{word_at}
use Rattle.standard.specs.Types.{Ty, boolean, container, union, list, vector, end, field, head, LegalTy}
use Rattle.standard.specs.declared.Head.{Head}
use Rattle.standard.specs.declared.Head.TheVariants.{Fixed, Variable}
use Rattle.standard.proofs.Laws.{fixed-some}
use Rattle.std.specs.Prelude.{unwrap_or}
use Rattle.std.specs.declared.option.Option.TheVariants.{Some}
use Rattle.layout.specs.Kinds.{kind_of, is_leaf}
use Rattle.layout.specs.declared.Kind.{Kind}
use Rattle.layout.specs.Tree.{node_of, leaf_with, leaf_of, type_with, from_node, fields, options, trees, tree_of, len_of, head_of, lengths, filled}
use Rattle.layout.specs.Table.{count}
use Rattle.layout.specs.Legal.{Lower, LegalNode, Legal}
use Rattle.layout.specs.declared.Node.{Node}

-- What holds of each number below n, and of n, holds below n + 1.
below_suc : (P : ℕ → Type 0) (n t : ℕ) → ((u : ℕ) → u < n → P u) → P n → t < suc n → P t
below_suc P n t f g h =
    ⊎_elim
    (λ (e : suc t ≡ suc n). let q : t ≡ n = omega arith in rw q g)
    (λ (e : suc t < suc n). f t (omega arith))
    (eq-or-lt_of_le h)

-- The table's types, by their number.
pub length-trees : (l : List ℕ) (n : ℕ) → length (trees l n) ≡ n
unfolding trees
length-trees l zero = refl
length-trees l (suc n) = simp length-append (omega (arith, length-trees l n))

pub trees-get : (l : List ℕ) (n t : ℕ) (d : Ty) → t < n → get_or (trees l n) t d ≡ tree_of l t
unfolding trees tree_of
trees-get l zero t d h = absurd (omega arith)
trees-get l (suc n) t d h =
    below_suc (λ (u : ℕ). get_or (trees l (suc n)) u d ≡ tree_of l u) n t
    (λ u k. get_or-append (trees l n) (from_node l (trees l n) n (node_of l n) ∷ []) d u (omega (arith, length-trees l n)) ∙ trees-get l n u d k)
    (get_or_at (trees l n) (from_node l (trees l n) n (node_of l n)) [] d n (length-trees l n))
    h

-- Their lengths, and the array that they stand in.
length-lengths : (l : List ℕ) (n : ℕ) → length (lengths l n) ≡ n
unfolding lengths
length-lengths l zero = refl
length-lengths l (suc n) = simp length-append (omega (arith, length-lengths l n))

lengths-get : (l : List ℕ) (n t : ℕ) → t < n → get_or (lengths l n) t 0 ≡ len_of (head (tree_of l t))
unfolding lengths
lengths-get l zero t h = absurd (omega arith)
lengths-get l (suc n) t h =
    below_suc (λ (u : ℕ). get_or (lengths l (suc n)) u 0 ≡ len_of (head (tree_of l u))) n t
    (λ u k. get_or-append (lengths l n) (len_of (head (tree_of l n)) ∷ []) 0 u (omega (arith, length-lengths l n)) ∙ lengths-get l n u k)
    (get_or_at (lengths l n) (len_of (head (tree_of l n))) [] 0 n (length-lengths l n))
    h

pub filled-get : (l : List ℕ) (n t : ℕ) → t < n → get_or (filled l n) t 0 ≡ len_of (head (tree_of l t))
unfolding filled
filled-get l n t h = get_or-append (lengths l n) (replicate (64 - n) 0) 0 t (omega (arith, length-lengths l n)) ∙ lengths-get l n t h

pub length-filled : (l : List ℕ) (n : ℕ) → n ≤ 64 → length (filled l n) ≡ 64
unfolding filled
length-filled l n h = simp (length-append, length-lengths, length-replicate) (omega arith)

filled_more : (x y : List ℕ) (n m v : ℕ) → length x ≡ n → set (x ++ replicate (suc m) 0) n v ≡ (x ++ (v ∷ [])) ++ replicate m 0
filled_more x y n m v e = set_at x 0 (replicate m 0) v n e ∙ sym (append_assoc x (v ∷ []) (replicate m 0))

pub filled-set : (l : List ℕ) (n : ℕ) → n < 64 → set (filled l n) n (len_of (head (tree_of l n))) ≡ filled l (suc n)
unfolding filled lengths
filled-set l n h =
    let e : 64 - n ≡ suc (64 - suc n) = omega arith in
    rw e (filled_more (lengths l n) [] n (64 - suc n) (len_of (head (tree_of l n))) (length-lengths l n))

-- A type's head, from its length.
head-of_len : (h : Head) → ((n : ℕ) → h ≡ Fixed n → 1 ≤ n) → head_of (len_of h) ≡ h
head-of_len (Fixed zero) f = absurd (omega (arith, f 0 refl))
head-of_len (Fixed (suc n)) f = rw (ne_eqb (suc n) 0 (λ (q : suc n ≡ 0). omega arith))
head-of_len Variable f = refl

pub head_len : (t : Ty) → LegalTy t → head_of (len_of (head t)) ≡ head t
head_len t g = head-of_len (head t) (λ n e. fixed-some t n g e)

-- What holds of leaves, of containers, of unions, of lists and of vectors holds of every kind.
pub each-kind : (P : Type 0) (k : Kind) → (is_leaf k ≡ true → P) → (k ≡ Kind.Container → P) → (k ≡ Kind.Union → P) → (k ≡ Kind.List → P) →
    (k ≡ Kind.Vector → P) → P
each-kind P Kind.Container leaf six seven eight nine = six refl
each-kind P Kind.Union leaf six seven eight nine = seven refl
each-kind P Kind.List leaf six seven eight nine = eight refl
each-kind P Kind.Vector leaf six seven eight nine = nine refl
each-kind P k leaf six seven eight nine = leaf refl

leaf_alone : (k : Kind) (l : List ℕ) (lower : List Ty) (t at w : ℕ) → is_leaf k ≡ true → type_with k l lower t at w ≡ leaf_with k t w
leaf_alone Kind.Container l lower t at w h = absurd (cc)
leaf_alone Kind.Union l lower t at w h = absurd (cc)
leaf_alone Kind.List l lower t at w h = absurd (cc)
leaf_alone Kind.Vector l lower t at w h = absurd (cc)
leaf_alone k l lower t at w h = refl

-- What the node says of the tree.
module _ (l : List ℕ) (t : ℕ) (r : Node) (e : r ≡ node_of l t) where
  pub as_container : r.kind ≡ Kind.Container → tree_of l t ≡ container t (fields l (trees l t) (r.at + 2) r.second)
  unfolding tree_of from_node
  as_container h = rw (← e, h)

  pub as_union : r.kind ≡ Kind.Union → tree_of l t ≡ union t (options l (trees l t) (r.at + 2) 0 r.second)
  unfolding tree_of from_node
  as_union h = rw (← e, h)

  pub as_leaf : is_leaf r.kind ≡ true → tree_of l t ≡ leaf_of t r
  unfolding tree_of from_node leaf_of
  as_leaf h = rw (← e) (leaf_alone r.kind l (trees l t) t r.at r.second h)

  -- a list and a vector, over the lower types, and over the type of their elements
  list_over : r.kind ≡ Kind.List → tree_of l t ≡ list t (get_or (trees l t) r.second (boolean 0)) (word_at l (r.at + 2))
  unfolding tree_of from_node
  list_over h = rw (← e, h)

  pub as_list_lem : r.kind ≡ Kind.List → r.second < t → tree_of l t ≡ list t (tree_of l r.second) (word_at l (r.at + 2))
  as_list_lem h k = list_over h ∙ ap (λ (x : Ty). list t x (word_at l (r.at + 2))) (trees-get l t r.second (boolean 0) k)

  vector-over : r.kind ≡ Kind.Vector → tree_of l t ≡ vector t (get_or (trees l t) r.second (boolean 0)) (word_at l (r.at + 2))
  unfolding tree_of from_node
  vector-over h = rw (← e, h)

  pub as_vector : r.kind ≡ Kind.Vector → r.second < t → tree_of l t ≡ vector t (tree_of l r.second) (word_at l (r.at + 2))
  as_vector h k = vector-over h ∙ ap (λ (x : Ty). vector t x (word_at l (r.at + 2))) (trees-get l t r.second (boolean 0) k)

  pub legal_node : Legal l (t + 1) → LegalNode l t r
  unfolding Legal
  legal_node g = rw e (g t (omega arith))

-- The start word and the kind word of a legal type are there.
pub legal-words : (l : List ℕ) (t : ℕ) → Legal l (t + 1) → (1 + t < count l) × (word_at l (1 + t) < count l)
unfolding node_of
legal-words l t g = let n = legal_node l t (node_of l t) refl g in (n.listed, n.begun)

-- Its kind word names its kind.
pub legal_known : (l : List ℕ) (t : ℕ) → Legal l (t + 1) → kind_of (word_at l (word_at l (1 + t))) ≡ Some (unwrap_or (kind_of (word_at l (word_at l (1 + t)))) Kind.BitList)
unfolding node_of
legal_known l t g = (legal_node l t (node_of l t) refl g).known

pub legal-below : (l : List ℕ) (t f : ℕ) → f ≤ t → Legal l t → Legal l f
unfolding Legal
legal-below l t f h g = λ u k. g u (omega arith)

pub legal-more : (l : List ℕ) (t : ℕ) → Legal l t → LegalNode l t (node_of l t) → Legal l (t + 1)
unfolding Legal
legal-more l t g h u k = below_suc (λ (v : ℕ). LegalNode l v (node_of l v)) t u g h (omega arith)

-- The first of some fields, and the rest.
pub fields_at : (l : List ℕ) (t a rest : ℕ) → word_at l a < t →
    fields l (trees l t) a (suc rest) ≡ field (tree_of l (word_at l a)) (fields l (trees l t) (a + 1) rest)
unfolding fields
fields_at l t a rest h = ap (λ (x : Ty). field x (fields l (trees l t) (a + 1) rest)) (trees-get l t (word_at l a) (boolean 0) h)

module _ (l : List ℕ) (t a left : ℕ) (g : Lower l t a left) (p : 0 < left) where
  pub lower-here : word_at l a < t
  unfolding Lower
  lower-here = rw add-zero at (g 0 p)

  pub lower-rest : Lower l t (a + 1) (left - 1)
  unfolding Lower
  lower-rest = λ i h. let e : a + (i + 1) ≡ a + 1 + i = omega arith in rw e at (g (i + 1) (omega arith))

pub fields-none : (l : List ℕ) (lower : List Ty) (a left : ℕ) → left ≤ 0 → fields l lower a left ≡ end
unfolding fields
fields-none l lower a zero h = refl
fields-none l lower a (suc n) h = absurd (omega arith)
