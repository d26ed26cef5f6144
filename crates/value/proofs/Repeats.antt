-- A list or vector in a legal table is walked and written as a row of fields that share one word, and a container as a row of fields
-- with a word each. Assumes nothing.
use mathlib.Core.Path.{◌≡◌, refl, sym, ap, ◌∙◌}
use mathlib.Core.Bool.{true, false}
use mathlib.Core.List.{List}
use mathlib.Core.Logic.{◌⊎◌, inl, inr}
use Prim.Native.Nat.{ℕ, zero, suc, ◌+◌, ◌*◌, ◌<◌, ◌≤◌, ◌^◌}
use native.Mathlib.Omega.{arith}
use borrow.Author.Tests.{lt-ltb, le-leb}
use lib.ListN.{length, get_or}
use lib.Dec.{leb}
use Rattle.standard.specs.Bytes.{word_at}
use Rattle.standard.specs.Types.{list, vector, head, head_all, width, portion}
use Rattle.standard.specs.Parts.{join}
use Rattle.standard.specs.declared.Head.{Head}
use Rattle.standard.proofs.Elements.{portion-copies}
use Rattle.layout.specs.Tree.{node_of, tree_of}
use Rattle.layout.specs.Kinds.{is_leaf, has_element}
use Rattle.layout.specs.declared.Kind.{Kind}
use Rattle.layout.specs.declared.Node.{Node}
use Rattle.layout.proofs.Facts.{as_list_lem, as_vector, legal_node}
use Rattle.message.specs.Steps.{Under, Row, row_of}
use Rattle.message.proofs.Rows.{row_below, row-fixed, row_variable, heads-none}
use Rattle.message.proofs.Bodies.{container-row}
use Rattle.message.proofs.Repeats.{element-below, element-copies, element-row, shared-copies, shared-heads}
use Rattle.std.specs.declared.result.Result.TheVariants.{Ok, Err}
use Rattle.value.specs.Walk.{with_word, walk_item, walk_fields}
use Rattle.value.specs.Write.{write_item_lem, parts_from}
use Rattle.value.specs.Steps.{counted, fields_of, elements_of, LaidAs}
use Rattle.value.specs.Stores.{Together}
use Rattle.value.specs.declared.laid.Laid.{Laid}
use Rattle.standard.specs.declared.Refusal.{Refusal}
use Rattle.value.proofs.Walks.{counted-there, counted-wrong}
use Rattle.value.proofs.Copies.{walk-copies, parts-copies}
use Rattle.value.proofs.Fixed.{copies-fixed}
use Rattle.value.proofs.Rows.{in-row, container-walk, container-write}

module _ (lens l : List ℕ) (t : ℕ) (n : Node) (e : n ≡ node_of l t) (g : Under lens l (t + 1)) (k : has_element n.kind ≡ true) (c b : List ℕ) (i j : ℕ) where
  -- A list: its count, and its elements behind it
  module _ (q : n.kind ≡ Kind.List) where
    list_tree : tree_of l t ≡ list t (tree_of l n.second) (word_at l (n.at + 2))
    list_tree = as_list_lem l t n e q (element-below lens l t n e g k)

    pub list-walk : walk_item (tree_of l t) c b i j ≡
        with_word c i (leb (get_or c i 0) (word_at l (n.at + 2))) (walk_fields (row_of l t (n.at + 1) 0 (get_or c i 0)) c b (i + 1) j)
    unfolding walk_item
    list-walk =
        rw (list_tree, element-copies lens l t n e g k (get_or c i 0))
        (ap (with_word c i (leb (get_or c i 0) (word_at l (n.at + 2)))) (walk-copies (tree_of l n.second) c b (get_or c i 0) (i + 1) j))

    pub list-write : write_item_lem (tree_of l t) c b i j ≡ join (parts_from (row_of l t (n.at + 1) 0 (get_or c i 0)) c b (i + 1) j)
    unfolding write_item_lem
    list-write =
        rw (list_tree, element-copies lens l t n e g k (get_or c i 0)) (ap join (parts-copies (tree_of l n.second) c b (get_or c i 0) (i + 1) j))

  -- A vector: its elements alone
  module _ (q : n.kind ≡ Kind.Vector) where
    vector_tree : tree_of l t ≡ vector t (tree_of l n.second) (word_at l (n.at + 2))
    vector_tree = as_vector l t n e q (element-below lens l t n e g k)

    pub vector-walk : walk_item (tree_of l t) c b i j ≡ walk_fields (row_of l t (n.at + 1) 0 (word_at l (n.at + 2))) c b i j
    unfolding walk_item
    vector-walk = rw (vector_tree, element-copies lens l t n e g k (word_at l (n.at + 2))) (walk-copies (tree_of l n.second) c b (word_at l (n.at + 2)) i j)

    pub vector-write : write_item_lem (tree_of l t) c b i j ≡ join (parts_from (row_of l t (n.at + 1) 0 (word_at l (n.at + 2))) c b i j)
    unfolding write_item_lem
    vector-write =
        rw (vector_tree, element-copies lens l t n e g k (word_at l (n.at + 2))) (ap join (parts-copies (tree_of l n.second) c b (word_at l (n.at + 2)) i j))

-- What `lay` answers of the type t, whose words are n.
module _ (lens l : List ℕ) (t : ℕ) (u : Under lens l (t + 1)) (n : Node) (e : n ≡ node_of l t) (c : List ℕ) (i : ℕ) where
  pub laid-container : n.kind ≡ Kind.Container → LaidAs l t c i (Ok (Laid.Row (fields_of t n) i))
  laid-container q =
      record {
        own = refl;
        row = in-row lens l (fields_of t n) (container-row lens l t n e u q);
        small = (legal_node l t n e u.legal).small;
        walk = λ b j. container-walk l t n e q c b i j;
        write = λ b j. container-write l t n e q c b i j;
      }

  module _ (m : ℕ) (d : m ≡ word_at l (n.at + 2)) (h : m < 2 ^ 32) where
    pub laid-vector : n.kind ≡ Kind.Vector → LaidAs l t c i (Ok (Laid.Row (elements_of t n m) i))
    laid-vector q =
        let k : has_element n.kind ≡ true = ap has_element q in
        record {
          own = refl;
          row = in-row lens l (elements_of t n m) (element-row lens l t n e u k m h);
          small = h;
          walk = λ b j. rw d (vector-walk lens l t n e u k c b i j q);
          write = λ b j. rw d (vector-write lens l t n e u k c b i j q);
        }

    module _ (q : n.kind ≡ Kind.List) where
      has : has_element n.kind ≡ true
      has = ap has_element q

      pub laid-uncounted : (r : Refusal) → Err r ≡ counted c i m → LaidAs l t c i (Err r)
      laid-uncounted r x b j = list-walk lens l t n e u has c b i j q ∙ rw (← d) (counted-wrong c i m r x _)

      pub laid-list : (x : ℕ) → Ok x ≡ counted c i m → LaidAs l t c i (Ok (Laid.Row (elements_of t n x) (i + 1)))
      laid-list x y =
          let z = counted-there c i m x y in
          let s : x < 2 ^ 32 = omega arith in
          record {
            own = refl;
            row = in-row lens l (elements_of t n x) (element-row lens l t n e u has x s);
            small = s;
            walk = λ b j. rw (list-walk lens l t n e u has c b i j q, lt-ltb i (length c) z.0, ← d, ← z.1, le-leb x m z.2);
            write = λ b j. rw z.1 (list-write lens l t n e u has c b i j q);
          }

-- What has lower types and is no container, union or vector is a list.
pub other_list : (k : Kind) → is_leaf k ≡ false → (k ≡ Kind.Container → ⊥) → (k ≡ Kind.Union → ⊥) → (k ≡ Kind.Vector → ⊥) → k ≡ Kind.List
other_list Kind.Container h x y z = absurd (x refl)
other_list Kind.Union h x y z = absurd (y refl)
other_list Kind.List h x y z = refl
other_list Kind.Vector h x y z = absurd (z refl)
other_list k h x y z = absurd (cc)

-- Elements of fixed size are of their length together, others have an offset each.
some_factor : (n k : ℕ) → 0 < n * k → 0 < k
some_factor n zero h = absurd (omega arith)
some_factor n (suc k) h = omega arith

none_factor : (n k : ℕ) → 0 < n → n * k ≤ 0 → k ≡ 0
none_factor n zero z h = refl
none_factor n (suc k) z h = absurd (omega arith)

pub elements-together : (lens l : List ℕ) (t a n f k : ℕ) → Row lens l t a 0 n → 0 < n → f ≡ word_at l a → k ≡ get_or lens f 0 →
    Together (row_of l t a 0 n) 0 n (n * k)
unfolding width
elements-together lens l t a n f k g z e q =
    let below = row_below lens l t a 0 n f g z e in
    record {
      fixed = λ s.
          let x = row-fixed lens l t a 0 n f g z e k q (λ (h : k ≡ 0). omega (arith, some_factor n k s)) in
          ap head_all (shared-copies l t a f e below n) ∙ copies-fixed (tree_of l f) k n (sym x);
      offsets = λ s h.
          let x = row_variable lens l t a 0 n f g z e k q (none_factor n k z s) in
          ap portion (shared-heads l t a f e below n) ∙ portion-copies n (head (tree_of l f)) ∙ ap (λ (v : Head). n * width v) (sym x) ∙ omega arith;
    }

pub not-together : (l : List ℕ) (t a step n : ℕ) → (0 < step) ⊎ ((step ≤ 0) × (n ≡ 0)) → Together (row_of l t a step n) step n 0
unfolding portion
not-together l t a step n (inl h) =
    record { fixed = λ (s : 0 < 0). absurd (omega arith); offsets = λ (s : 0 ≤ 0) (d : step ≡ 0). absurd (omega arith) }
not-together l t a step n (inr h) =
    record {
      fixed = λ (s : 0 < 0). absurd (omega arith);
      offsets = λ s d. let e : 0 ≡ 4 * n = omega arith in rw (heads-none l t a step n (omega arith)) e;
    }
