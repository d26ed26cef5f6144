-- The elements of a list or vector in a legal table: a row of fields that share one word. Assumes nothing.
--     element-row      they are a row with step 0, any number of them
--     list_read        a list is read as that row, behind its count; list-listed, list-words, list-bytes likewise
--     vector-read      and so is a vector
use mathlib.Core.Path.{◌≡◌, refl, ap, ◌∙◌}
use mathlib.Core.List.{List, ◌∷◌, ◌++◌}
use Prim.Native.Nat.{ℕ, zero, suc, ◌+◌, ◌*◌, ◌<◌, ◌^◌}
use native.Mathlib.Nat.{add-zero}
use native.Mathlib.Omega.{arith}
use lib.ListN.{get_or, replicate}
use Rattle.standard.specs.Bytes.{word_at}
use Rattle.standard.specs.Types.{Ty, boolean, list, vector, field, head, heads, width, LegalTy}
use Rattle.standard.proofs.Elements.{copies, heads-copies}
use Rattle.standard.proofs.Laws.{fixed-some}
use Rattle.layout.specs.Tree.{node_of, trees, tree_of, head_of}
use Rattle.layout.specs.Table.{count}
use Rattle.layout.specs.declared.Node.{Node}
use Rattle.layout.proofs.Facts.{trees-get, as_list_lem, as_vector}
use Rattle.layout.proofs.Trees.{legal_tree}
use Rattle.message.specs.Read.{one, and_then, built, of_elements, elements, many_of, vector_told_lem, read_item, read_fields}
use Rattle.message.specs.Listing.{entry, list_item_lem, list_fields_lem}
use Rattle.message.specs.Unfold.{unfold_words, unfold_bytes, words_fields, bytes_fields}
use Rattle.message.specs.Steps.{Under, Row, Named, row_of, heads_of}
use Rattle.message.proofs.Rows.{node_legal, under-below, under-head}
use Rattle.message.proofs.Copies.{TakesBytes, read-copies, list-copies, words-copies, bytes-copies}
use Rattle.standard.specs.declared.Refusal.{Refusal}
use Rattle.std.specs.declared.result.Result.{Result}
use Rattle.std.specs.declared.result.Result.TheVariants.{Ok, Err}
use Rattle.message.specs.declared.RefusedAt.{RefusedAt}
use Rattle.message.specs.declared.Counts.{Counts}
use Rattle.layout.specs.declared.Kind.{Kind}
use Rattle.layout.specs.Kinds.{has_element}
use mathlib.Core.Bool.{true}

-- Fields that share the word at, which names the type e
shared-row : (l : List ℕ) (t at n : ℕ) (e : Ty) → get_or (trees l t) (word_at l at) (boolean 0) ≡ e → row_of l t at 0 n ≡ copies e n
unfolding row_of
shared-row l t at zero e h = refl
shared-row l t at (suc n) e h = rw (add-zero at, h) (ap (field e) (shared-row l t at n e h))

shared-named : (l : List ℕ) (t at n : ℕ) → at < count l → word_at l at < t → Named l t at 0 n
unfolding Named
shared-named l t at zero h k = tt
shared-named l t at (suc n) h k = (h, k, rw (add-zero at) (shared-named l t at n h k))

-- Their types and heads, by the type that the word names
module _ (l : List ℕ) (t at e : ℕ) (q : e ≡ word_at l at) (h : e < t) where
  pub shared-copies : (n : ℕ) → row_of l t at 0 n ≡ copies (tree_of l e) n
  shared-copies n = shared-row l t at n (tree_of l e) (rw (← q) (trees-get l t e (boolean 0) h))

  pub shared-heads : (n : ℕ) → heads_of l t at 0 n ≡ replicate n (head (tree_of l e))
  shared-heads n = ap heads (shared-copies n) ∙ heads-copies (tree_of l e) n

elements_same : (d : Result ℕ Refusal) (t s : ℕ) (x y : ℕ → Result Counts RefusedAt) → ((m : ℕ) → x m ≡ y m) → of_elements d t s x ≡ of_elements d t s y
elements_same (Err r) t s x y f = refl
elements_same (Ok m) t s x y f = f m

module _ (lens l : List ℕ) (t : ℕ) (n : Node) (e : n ≡ node_of l t) (g : Under lens l (t + 1)) (k : has_element n.kind ≡ true) where
  -- what is not a vector is a list
  pub else_list : (n.kind ≡ Kind.Vector → ⊥) → n.kind ≡ Kind.List
  else_list z = go n.kind k z
    where
      go : (i : Kind) → has_element i ≡ true → (i ≡ Kind.Vector → ⊥) → i ≡ Kind.List
      go Kind.List h z = refl
      go Kind.Vector h z = absurd (z refl)
      go i h z = absurd (cc)

  pub element-below : n.second < t
  element-below = (node_legal lens l t n e g).element k

  pub third-there : n.at + 2 < count l
  third-there = (node_legal lens l t n e g).third k

  -- the type of an element, and the word that names it
  abbrev element_type : Ty
  element_type = tree_of l n.second

  pub element-word : n.second ≡ word_at l (n.at + 1)
  unfolding node_of
  element-word = rw e

  pub element-legal : LegalTy element_type
  element-legal = legal_tree l (t + 1) n.second g.legal (omega (arith, element-below))

  pub element-some : TakesBytes (head element_type)
  element-some m h = fixed-some element_type m element-legal h

  under-elements : Under lens l t
  under-elements = under-below lens l (t + 1) t (omega arith) g

  pub element-head : head_of (get_or lens n.second 0) ≡ head element_type
  element-head = under-head lens l t under-elements n.second element-below

  pub element-copies : (m : ℕ) → row_of l t (n.at + 1) 0 m ≡ copies element_type m
  element-copies m = shared-copies l t (n.at + 1) n.second element-word element-below m

  pub element-heads : (m : ℕ) → heads_of l t (n.at + 1) 0 m ≡ replicate m (head element_type)
  element-heads m = shared-heads l t (n.at + 1) n.second element-word element-below m

  pub element-row : (m : ℕ) → m < 2 ^ 32 → Row lens l t (n.at + 1) 0 m
  element-row m h =
      record {
        under = under-elements;
        near = omega (arith, (node_legal lens l t n e g).near);
        steps = omega arith;
        named = shared-named l t (n.at + 1) m (omega (arith, third-there)) (rw (← element-word) element-below);
      }

  -- A list.
  module _ (q : n.kind ≡ Kind.List) where
    list_tree : tree_of l t ≡ list t element_type (word_at l (n.at + 2))
    list_tree = as_list_lem l t n e q element-below

    pub list_read : (b : List ℕ) (s : ℕ) → read_item (tree_of l t) b s ≡
        of_elements (elements (head element_type) (word_at l (n.at + 2)) b) t s
        (λ (m : ℕ). and_then (one 1 0) (read_fields (row_of l t (n.at + 1) 0 m) b 0 s))
    unfolding read_item
    list_read b s =
        rw list_tree
        (elements_same (elements (head element_type) (word_at l (n.at + 2)) b) t s _ _
        (λ m. rw (element-copies m) (ap (and_then (one 1 0)) (read-copies element_type m b 0 s))))

    -- How many elements there are, by the table's limit
    abbrev counted : List ℕ → ℕ
    counted b = many_of (elements (head element_type) (word_at l (n.at + 2)) b)

    pub list-listed : (b : List ℕ) (s : ℕ) → list_item_lem (tree_of l t) b s ≡ entry t b s ++ list_fields_lem (row_of l t (n.at + 1) 0 (counted b)) b 0 s
    unfolding list_item_lem
    list-listed b s = rw (list_tree, element-copies (counted b)) (ap (λ (x : List ℕ). entry t b s ++ x) (list-copies element_type (counted b) b 0 s))

    pub list-words : (b : List ℕ) → unfold_words (tree_of l t) b ≡ counted b ∷ words_fields (row_of l t (n.at + 1) 0 (counted b)) b 0
    unfolding unfold_words
    list-words b = rw (list_tree, element-copies (counted b)) (ap (λ (x : List ℕ). counted b ∷ x) (words-copies element_type (counted b) b 0))

    pub list-bytes : (b : List ℕ) → unfold_bytes (tree_of l t) b ≡ bytes_fields (row_of l t (n.at + 1) 0 (counted b)) b 0
    unfolding unfold_bytes
    list-bytes b = rw (list_tree, element-copies (counted b)) (bytes-copies element_type (counted b) b 0)

  -- A vector.
  module _ (q : n.kind ≡ Kind.Vector) where
    vector_tree : tree_of l t ≡ vector t element_type (word_at l (n.at + 2))
    vector_tree = as_vector l t n e q element-below

    pub vector-narrow : word_at l (n.at + 2) * width (head element_type) < 2 ^ 32
    vector-narrow = (node_legal lens l t n e g).narrow q

    pub vector-read : (b : List ℕ) (s : ℕ) → read_item (tree_of l t) b s ≡
        built (vector_told_lem (head element_type) (word_at l (n.at + 2)) b) t s
        (and_then (one 0 0) (read_fields (row_of l t (n.at + 1) 0 (word_at l (n.at + 2))) b 0 s))
    unfolding read_item
    vector-read b s =
        rw (vector_tree, element-copies (word_at l (n.at + 2)))
        (ap (λ (x : Result Counts RefusedAt). built (vector_told_lem (head element_type) (word_at l (n.at + 2)) b) t s (and_then (one 0 0) x))
        (read-copies element_type (word_at l (n.at + 2)) b 0 s))

    pub vector-listed : (b : List ℕ) (s : ℕ) → list_item_lem (tree_of l t) b s ≡ entry t b s ++ list_fields_lem (row_of l t (n.at + 1) 0 (word_at l (n.at + 2))) b 0 s
    unfolding list_item_lem
    vector-listed b s =
        rw (vector_tree, element-copies (word_at l (n.at + 2)))
        (ap (λ (x : List ℕ). entry t b s ++ x) (list-copies element_type (word_at l (n.at + 2)) b 0 s))

    pub vector-words : (b : List ℕ) → unfold_words (tree_of l t) b ≡ words_fields (row_of l t (n.at + 1) 0 (word_at l (n.at + 2))) b 0
    unfolding unfold_words
    vector-words b = rw (vector_tree, element-copies (word_at l (n.at + 2))) (words-copies element_type (word_at l (n.at + 2)) b 0)

    pub vector-bytes : (b : List ℕ) → unfold_bytes (tree_of l t) b ≡ bytes_fields (row_of l t (n.at + 1) 0 (word_at l (n.at + 2))) b 0
    unfolding unfold_bytes
    vector-bytes b = rw (vector_tree, element-copies (word_at l (n.at + 2))) (bytes-copies element_type (word_at l (n.at + 2)) b 0)
