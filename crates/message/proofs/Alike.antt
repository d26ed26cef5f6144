-- Lists and vectors: what their steps give is what the rules of reading say. Assumes nothing.
--     row-found            elements that are numbers or fixed bytes and lie as they should are accepted: their number and bytes are all that counts
--     told-..              what is found of a vector
--     vector-.., list-..   what is asked of the elements then, and the answer
use mathlib.Core.Path.{◌≡◌, refl, sym, ap, ◌∙◌}
use mathlib.Core.List.{List}
use mathlib.Core.Bool.{Bool, true, false}
use Prim.Native.Nat.{ℕ, zero, suc, ◌+◌, ◌-◌, ◌*◌, ◌≤◌, ◌<◌, ◌^◌}
use native.Mathlib.Nat.{zero-add, add-zero}
use native.Mathlib.Omega.{arith}
use borrow.Author.Tests.{eq-eqb, ne_eqb}
use lib.ListN.{length, get_or, take, drop, replicate, length-take, length-drop}
use Rattle.standard.specs.Choice.{pick}
use Rattle.standard.specs.Bytes.{word_at}
use Rattle.standard.specs.Types.{Ty, head, width}
use Rattle.standard.specs.declared.Head.TheVariants.{Fixed}
use Rattle.standard.specs.declared.Refusal.{Refusal}
use Rattle.standard.proofs.Elements.{copies}
use Rattle.decode.specs.Builder.{lay_out_lem}
use Rattle.layout.specs.Tree.{node_of, tree_of, head_of}
use Rattle.layout.specs.declared.Node.{Node}
use Rattle.message.specs.Read.{one, plus, and_then, elements, vector_told_lem, read_exact, read_item, read_fields}
use Rattle.message.specs.Steps.{Under, Row, Alike, Found, row_of, heads_of}
use Rattle.message.specs.declared.items.Inside.{Inside}
use Rattle.message.specs.declared.parts.Series.{Series}
use Rattle.message.proofs.Answers.{single, then_accepts}
use Rattle.message.proofs.Rows.{under-head}
use Rattle.message.proofs.Copies.{Laid, laid-fixed, vector-laid, elements_laid}
use Rattle.message.proofs.Repeats.{else_list, shared-copies, shared-heads, element-below, element-word, element-head, element-heads}
use Rattle.message.proofs.Repeats.{element-some, element-row, list_read, vector-read}
use Rattle.message.proofs.Bodies.{plain_type, exact_read}
use Rattle.std.specs.declared.result.Result.TheVariants.{Ok, Err}
use Rattle.message.specs.Read.{located}
use Rattle.layout.specs.declared.Kind.{Kind}
use Rattle.layout.specs.Kinds.{is_plain, has_element}

-- n elements of k bytes, of which only the length is asked
plain-each :
    (x : Ty) (k f : ℕ) → head x ≡ Fixed k → ((b : List ℕ) (s : ℕ) → read_item x b s ≡ read_exact k f b s)
    → (n : ℕ) (b : List ℕ) (p s : ℕ) → p + n * k ≤ length b
    → read_fields (copies x n) b p s ≡ Ok (record { records = n; words = 0; bytes = n * k })
unfolding read_item
plain-each x k f h r zero b p s e = let z : 0 * k ≡ 0 = omega arith in rw z
plain-each x k f h r (suc n) b p s e =
    let o = take (p + k - p) (drop p b) in
    let y : length o ≡ k = simp (length-take, length-drop) (omega arith) in
    let first : read_item x o (s + p) ≡ one 0 k = r o (s + p) ∙ sym (exact_read k f o (s + p) k y refl) in
    let rest = plain-each x k f h r n b (p + k) s (omega arith) in
    let i : suc n ≡ 1 + n = omega arith in
    let z : suc n * k ≡ k + n * k = omega arith in
    let same : plus (single 0 k) (record { records = n; words = 0; bytes = n * k }) ≡ record { records = suc n; words = 0; bytes = suc n * k } =
    rw (z, i) in
    rw h (then_accepts _ _ _ _ first rest ∙ ap Ok same)

module _ (lens l : List ℕ) (t at m e : ℕ) (b : List ℕ) (g : Alike lens l t at m e b) (d : Node) (i : d ≡ node_of l e) (k : is_plain d.kind ≡ true) where
  plain-laid : Laid (replicate m (Fixed d.second)) b
  plain-laid =
      let hs : heads_of l t at 0 m ≡ replicate m (Fixed d.second) =
      shared-heads l t at e g.shared g.lower m ∙ ap (replicate m) (plain_type l e d i k).0 in
      record { ranges = rw hs at g.ranges; first = rw hs at g.first }

  plain-read : (s : ℕ) → read_fields (row_of l t at 0 m) b 0 s ≡ Ok (record { records = m; words = 0; bytes = length b })
  plain-read s =
      let w = laid-fixed m d.second b plain-laid in
      let x = plain_type l e d i k in
      rw (shared-copies l t at e g.shared g.lower m, w) (plain-each (tree_of l e) d.second e x.0 x.1 m b 0 s (omega arith))

-- What is found of m elements in an item with `own` contents words: all of it, where they are numbers or fixed bytes.
module _ (lens l : List ℕ) (t at m e own : ℕ) (b : List ℕ) (g : Alike lens l t at m e b) (o : own ≤ 1)
    (same : (s : ℕ) → and_then (one own 0) (read_fields (row_of l t at 0 m) b 0 s) ≡ read_item (tree_of l t) b s) where
  plain-found : (k : is_plain (node_of l e).kind ≡ true) (s : ℕ) → Ok (record { records = 1 + m; words = own; bytes = length b }) ≡ read_item (tree_of l t) b s
  plain-found k s = sym (simp (zero-add, add-zero)) ∙ rw (plain-read lens l t at m e b g (node_of l e) refl k s) at (same s)

  pub row-found :
      (r : Series) → r ≡ record { below = t; first = at; step = 0; many = m }
      → Found lens l t b (Ok (pick (is_plain (node_of l e).kind) (Inside.Counted (1 + r.many) own) (Inside.Fields r own)))
  row-found r q = rw q (go (is_plain (node_of l e).kind) refl)
    where
      go : (c : Bool) → is_plain (node_of l e).kind ≡ c → Found lens l t b (Ok (pick c (Inside.Counted (1 + m) own) (Inside.Fields (record { below = t; first = at; step = 0; many = m }) own)))
      go true k = plain-found k
      go false k = (omega arith, g.row, g.ranges, o, same)

-- What is found of a vector, by the length k of its elements.
module _ (lens l : List ℕ) (t at n e : ℕ) (g : Row lens l t at 0 n) (q : e ≡ word_at l at) (h : e < t) (k : ℕ) (i : k ≡ get_or lens e 0) where
  told-head : head_of k ≡ head (tree_of l e)
  told-head = rw i (under-head lens l t g.under e h)

  pub told-offsets : k ≡ 0 → (b : List ℕ) → lay_out_lem (heads_of l t at 0 n) b ≡ vector_told_lem (head (tree_of l e)) n b
  unfolding vector_told_lem
  told-offsets z b = rw (shared-heads l t at e q h n, ← told-head, eq-eqb k 0 z)

  pub told_fixed : (b : List ℕ) → vector_told_lem (head_of k) n b ≡ vector_told_lem (head (tree_of l e)) n b
  told_fixed b = rw told-head

  pub told-narrow : (k ≡ 0 → ⊥) → n * width (head (tree_of l e)) < 2 ^ 32 → n * k < 2 ^ 32
  unfolding width
  told-narrow z w = rw (← told-head, ne_eqb k 0 z) at w

module _ (lens l : List ℕ) (t : ℕ) (n : Node) (e : n ≡ node_of l t) (g : Under lens l (t + 1)) (k : has_element n.kind ≡ true) where
  elements-alike : (m : ℕ) (b : List ℕ) → m < 2 ^ 32 → Laid (replicate m (head (tree_of l n.second))) b → Alike lens l t (n.at + 1) m n.second b
  elements-alike m b h d =
      let hs = sym (element-heads lens l t n e g k m) in
      record {
        row = element-row lens l t n e g k m h;
        shared = element-word lens l t n e g k;
        lower = element-below lens l t n e g k;
        ranges = rw hs at d.ranges;
        first = rw hs at d.first;
      }

  -- A vector of m elements
  module _ (q : n.kind ≡ Kind.Vector) (m : ℕ) (i : m ≡ word_at l (n.at + 2)) (b : List ℕ) where
    pub vector-alike : m < 2 ^ 32 → (Ok tt) ≡ vector_told_lem (head (tree_of l n.second)) m b → Alike lens l t (n.at + 1) m n.second b
    vector-alike h d = elements-alike m b h (vector-laid _ m b (sym d))

    pub vector_on :
        (Ok tt) ≡ vector_told_lem (head (tree_of l n.second)) m b → (s : ℕ)
        → and_then (one 0 0) (read_fields (row_of l t (n.at + 1) 0 m) b 0 s) ≡ read_item (tree_of l t) b s
    vector_on d s = rw (vector-read lens l t n e g k q b s, ← i, ← d)

    pub vector_stop : (r : Refusal) → Err r ≡ vector_told_lem (head (tree_of l n.second)) m b → (s : ℕ) → Err (located r t s) ≡ read_item (tree_of l t) b s
    vector_stop r d s = rw (vector-read lens l t n e g k q b s, ← i, ← d)

  -- A list whose elements have the length w
  module _ (q : n.kind ≡ Kind.Vector → ⊥) (limit : ℕ) (i : limit ≡ word_at l (n.at + 2)) (w : ℕ) (j : w ≡ get_or lens n.second 0) (b : List ℕ) where
    list-says : elements (head_of w) limit b ≡ elements (head (tree_of l n.second)) (word_at l (n.at + 2)) b
    list-says = rw (j, element-head lens l t n e g k, i)

    pub list_stop : (r : Refusal) → Err r ≡ elements (head_of w) limit b → (s : ℕ) → Err (located r t s) ≡ read_item (tree_of l t) b s
    list_stop r d s = rw (list_read lens l t n e g k (else_list lens l t n e g k q) b s, ← d ∙ list-says)

    module _ (m : ℕ) (d : Ok m ≡ elements (head_of w) limit b) where
      pub list-alike : limit < 2 ^ 32 → Alike lens l t (n.at + 1) m n.second b
      list-alike h =
          let x = elements_laid (head (tree_of l n.second)) (word_at l (n.at + 2)) b m (element-some lens l t n e g k) (sym (d ∙ list-says)) in
          elements-alike m b (omega (arith, x.1)) x.0

      pub list_on : (s : ℕ) → and_then (one 1 0) (read_fields (row_of l t (n.at + 1) 0 m) b 0 s) ≡ read_item (tree_of l t) b s
      list_on s = rw (list_read lens l t n e g k (else_list lens l t n e g k q) b s, ← (d ∙ list-says))
