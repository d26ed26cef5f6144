-- Fields that a loop takes without looking at their type twice: a leaf by what the table says of it, a number or fixed bytes
-- by their length alone. Assumes nothing.
use mathlib.Core.Path.{◌≡◌, refl, sym, ap, ◌∙◌}
use mathlib.Core.List.{List}
use mathlib.Core.Bool.{true, false}
use Prim.Native.Nat.{ℕ, ◌+◌, ◌-◌, ◌≤◌, ◌<◌}
use native.Mathlib.Omega.{arith}
use borrow.Author.Tests.{leb-true}
use lib.ListN.{length, get_or}
use lib.Dec.{leb}
use Rattle.standard.specs.Bytes.{Room, word_at}
use Rattle.standard.specs.Types.{Ty, number, fixed_bytes, head}
use Rattle.standard.specs.Parts.{join}
use Rattle.standard.specs.declared.Head.TheVariants.{Fixed, Variable}
use Rattle.standard.specs.declared.Refusal.TheVariants.{BadValue}
use Rattle.layout.specs.Tree.{node_of, tree_of, leaf_with, leaf_of, len_of, head_of}
use Rattle.layout.specs.Kinds.{is_leaf, is_plain}
use Rattle.layout.specs.declared.Kind.{Kind}
use Rattle.layout.specs.declared.Node.{Node}
use Rattle.layout.proofs.Facts.{as_leaf}
use Rattle.message.specs.Steps.{Under, Row, row_of}
use Rattle.message.proofs.Rows.{under-head, row_below, row-head}
use Rattle.value.specs.Walk.{upto, wrong, with_body, walk_item, walk_fields}
use Rattle.value.specs.Write.{bytes_at, write_item_lem, parts_from}
use Rattle.value.specs.Steps.{cap, measured, IsUpto}
use Rattle.value.specs.Stores.{Put}
use Rattle.value.specs.declared.measure.Mark.{Mark}
use Rattle.value.specs.declared.store.Stop.{Stop}
use Rattle.value.proofs.Walks.{length-bytes_at}
use Rattle.value.proofs.Rows.{Measuring, measuring_next, measuring_stop}
use Rattle.value.proofs.Unions.{leaf-head}
use Rattle.value.proofs.Fills.{tree_walk, tree_write}
use Rattle.std.specs.declared.result.Result.{Result}
use Rattle.std.specs.declared.result.Result.TheVariants.{Err}
use Rattle.standard.specs.declared.Refusal.{Refusal}

-- A leaf has no lower types, and the number of its type is no matter.
module _ (l : List ℕ) (f : ℕ) (n : Node) (e : n ≡ node_of l f) (h : is_leaf n.kind ≡ true) where
  module _ (c b : List ℕ) (i j : ℕ) where
    below-walk : walk_item (tree_of l f) c b i j ≡ walk_item (leaf_of 0 n) c b i j
    below-walk = tree_walk l f n e h c b i j

    below-write : write_item_lem (tree_of l f) c b i j ≡ write_item_lem (leaf_of 0 n) c b i j
    below-write = tree_write l f n e h c b i j

    pub below-measured : (r : Result Mark Refusal) → r ≡ measured (walk_item (leaf_of 0 n) c b i j) (length (write_item_lem (leaf_of 0 n) c b i j)) →
        r ≡ measured (walk_item (tree_of l f) c b i j) (length (write_item_lem (tree_of l f) c b i j))
    below-measured r q = rw (below-walk, below-write) q

    pub below-asked : (o : List ℕ) (at : ℕ) (lens : List ℕ) → Under lens l (f + 1) → get_or lens f 0 ≤ 0 → IsUpto (walk_item (tree_of l f) c b i j) →
        Room o at (write_item_lem (tree_of l f) c b i j) →
        (head (leaf_of 0 n) ≡ Variable) × IsUpto (walk_item (leaf_of 0 n) c b i j) × Room o at (write_item_lem (leaf_of 0 n) c b i j)
    below-asked o at lens v z u g =
        let y : get_or lens f 0 ≡ 0 = omega arith in
        let d = sym (leaf-head f n) ∙ sym (ap head (as_leaf l f n e h)) ∙ sym (under-head lens l (f + 1) v f (omega arith)) ∙ ap head_of y in
        (d, rw below-walk at u, rw below-write at g)

    pub below_put : (o : List ℕ) (at : ℕ) (r : Stop) (o' : List ℕ) →
        Put o at (write_item_lem (leaf_of 0 n) c b i j) (walk_item (leaf_of 0 n) c b i j) r o' →
        Put o at (write_item_lem (tree_of l f) c b i j) (walk_item (tree_of l f) c b i j) r o'
    below_put o at r o' p = rw (below-walk, below-write) p

-- A type whose items are k bytes of the bodies, whatever they are
pub record Plain (x : Ty) (k : ℕ) : Type 0 where
  pub head : head x ≡ Fixed k
  pub walk : (c b : List ℕ) (i j : ℕ) → walk_item x c b i j ≡ with_body b j k (upto i (j + k))
  pub write : (c b : List ℕ) (i j : ℕ) → write_item_lem x c b i j ≡ bytes_at b j k

number-plain : (t k : ℕ) → Plain (number t k) k
unfolding head walk_item write_item_lem
number-plain t k = record { head = refl; walk = λ c b i j. refl; write = λ c b i j. refl }

fixed_plain : (t k : ℕ) → Plain (fixed_bytes t k) k
unfolding head walk_item write_item_lem
fixed_plain t k = record { head = refl; walk = λ c b i j. refl; write = λ c b i j. refl }

plain-leaf : (t w : ℕ) (k : Kind) → is_plain k ≡ true → Plain (leaf_with k t w) w × (is_leaf k ≡ true)
unfolding is_plain
plain-leaf t w Kind.Number h = (number-plain t w, refl)
plain-leaf t w Kind.FixedBytes h = (fixed_plain t w, refl)
plain-leaf t w k h = absurd (cc)

-- The length of a plain field is what the table says.
module _ (lens l : List ℕ) (t a step left f : ℕ) (g : Row lens l t a step left) (z : 0 < left) (e : f ≡ word_at l a) (k : ℕ) (q : k ≡ get_or lens f 0) where
  pub plain-field : (x : Kind) → x ≡ (node_of l f).kind → is_plain x ≡ true → Plain (tree_of l f) k
  unfolding leaf_of
  plain-field x d h =
      let n = node_of l f in
      let s = plain-leaf f n.second n.kind (rw d at h) in
      let x : Plain (tree_of l f) n.second = rw (as_leaf l f n refl s.1) s.0 in
      let y : k ≡ n.second = q ∙ g.under.found f (row_below lens l t a step left f g z e) ∙ ap len_of x.head in
      rw y x

-- A plain field is measured.
module _ (lens l : List ℕ) (t a₀ step n : ℕ) (c b : List ℕ) (i₀ j₀ : ℕ) (sum a left i j f : ℕ) (g : Measuring lens l t a₀ step n c b i₀ j₀ sum a left i j)
    (z : 0 < left) (e : f ≡ word_at l a) (k : ℕ) (q : k ≡ get_or lens f 0) (p : Plain (tree_of l f) k) where
  pub measuring_plain : leb (j + k) (length b) ≡ true → Measuring lens l t a₀ step n c b i₀ j₀ (cap (sum + k)) (a + step) (left - 1) i (j + k)
  measuring_plain h =
      let y : length (write_item_lem (tree_of l f) c b i j) ≡ k = ap length (p.write c b i j) ∙ length-bytes_at b j k (leb-true _ _ h) in
      let w : walk_item (tree_of l f) c b i j ≡ upto i (j + k) = p.walk c b i j ∙ rw h in
      let d : head_of k ≡ Fixed k = ap head_of q ∙ row-head lens l t a step left f g.row z e ∙ p.head in
      let x = measuring_next lens l t a₀ step n c b i₀ j₀ sum a left i j f g z e (record { end = record { word = i; byte = j + k }; len = cap k }) (rw (w, y)) k q (cap k)
      (rw d (omega arith)) in
      let v : cap (sum + cap k) ≡ cap (sum + k) = omega arith in
      rw v at x

  pub measuring_short : leb (j + k) (length b) ≡ false →
      Err (BadValue 1 (length b)) ≡
      measured (walk_fields (row_of l t a₀ step n) c b i₀ j₀) (length (join (parts_from (row_of l t a₀ step n) c b i₀ j₀)))
  measuring_short h =
      let w : walk_item (tree_of l f) c b i j ≡ wrong (BadValue 1 (length b)) = p.walk c b i j ∙ rw h in
      measuring_stop lens l t a₀ step n c b i₀ j₀ sum a left i j f g z e (BadValue 1 (length b)) (rw w)
