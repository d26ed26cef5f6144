-- Lengths as they are found: in the loop of `fields_len` what the fields so far take, and what is left of them, make the whole; a vector's is its
-- count times its element's. Assumes nothing.
use mathlib.Core.Path.{◌≡◌, refl, sym, ap, ◌∙◌}
use mathlib.Core.List.{List}
use mathlib.Core.Bool.{Bool, true, false}
use Prim.Native.Nat.{ℕ, zero, suc, ◌+◌, ◌*◌, ◌≤◌, ◌<◌, ◌^◌}
use native.Mathlib.Nat.{mul-le-mul_right}
use native.Mathlib.Numerals.{add-one}
use native.Mathlib.Omega.{arith}
use borrow.Author.Tests.{lt-ltb, le-ltb, lt-leb, le-leb, ne_eqb}
use lib.ListN.{get_or, set}
use lib.Dec.{leb, ltb}
use Rattle.std.specs.Result.{IsOk, IsErr}
use Rattle.std.specs.declared.option.Option.TheVariants.{Some}
use Rattle.std.specs.declared.result.Result.{Result}
use Rattle.std.specs.declared.result.Result.TheVariants.{Ok, Err}
use Rattle.standard.specs.Choice.{pick}
use Rattle.standard.specs.Bytes.{word_at}
use Rattle.standard.specs.Types.{Ty, Tys, boolean, field, head, head_all, heads, joined, width, portion}
use Rattle.standard.specs.declared.Head.{Head}
use Rattle.standard.specs.declared.Head.TheVariants.{Fixed, Variable}
use Rattle.standard.specs.declared.Refusal.{Refusal}
use Rattle.standard.specs.declared.Refusal.TheVariants.{BadLayout}
use Rattle.layout.specs.Kinds.{kind_of}
use Rattle.layout.specs.Tree.{node_of, type_with, from_node, fields, trees, tree_of, len_of, head_of, filled}
use Rattle.layout.specs.Table.{count, refs, counted, many, container_end_lem, list_end_lem, vector_end_lem, leaf_end_lem, kind_end, body_end_lem}
use Rattle.layout.specs.Steps.{Known, Lengthened, leaf_len_lem, sizes_of, with_len}
use Rattle.layout.specs.Legal.{Legal}
use Rattle.layout.specs.declared.Kind.{Kind}
use Rattle.layout.specs.declared.Node.{Node}
use Rattle.layout.specs.declared.types.Sizes.{Sizes}
use Rattle.layout.specs.declared.types.Body.{Body}
use Rattle.layout.proofs.Facts.{trees-get, fields_at, fields-none, filled-get, filled-set, head_len, legal_node, as_container}
use Rattle.layout.proofs.Tables.{refs-wrong, refs-next, refs-none, refs-cut, refs-lower}
use Rattle.layout.proofs.Tables.{Counted, counted-says, element-lower, known_len, known-head, known_small}
use Rattle.layout.proofs.Trees.{legal_tree, len_small, leaf-number, vector-length, vector_len}

width_small : (m : ℕ) → m < 2 ^ 32 → width (head_of m) < 2 ^ 32
unfolding width
width_small zero h = omega arith
width_small (suc m) h = rw (ne_eqb (suc m) 0 (λ (z : suc m ≡ 0). omega arith)) h

joined-zero : (h : Head) → joined (Fixed 0) h ≡ h
unfolding joined
joined-zero (Fixed n) = ap Fixed (omega arith)
joined-zero Variable = refl

joined-add : (n k : ℕ) (h : Head) → joined (Fixed n) (joined (Fixed k) h) ≡ joined (Fixed (n + k)) h
unfolding joined
joined-add n k (Fixed m) = ap Fixed (omega arith)
joined-add n k Variable = refl

-- The head of the fields so far, each of them fixed or not, with that of the rest
abbrev with_rest : Bool → ℕ → Head → Head
with_rest fixed sum h = pick fixed (joined (Fixed sum) h) Variable

with_next : (fixed : Bool) (sum k : ℕ) (h : Head) → with_rest fixed sum (joined (Fixed k) h) ≡ with_rest fixed (sum + k) h
with_next true sum k h = joined-add sum k h
with_next false sum k h = refl

with_variable : (fixed : Bool) (sum : ℕ) (h : Head) → with_rest fixed sum (joined Variable h) ≡ Variable
unfolding joined
with_variable true sum h = refl
with_variable false sum h = refl

with_end : (fixed : Bool) (sum : ℕ) → len_of (with_rest fixed sum (Fixed 0)) ≡ pick fixed sum 0
unfolding joined
with_end true sum = omega arith
with_end false sum = refl

-- The loop of `fields_len`: what is left to test, what is added to the fixed portion, and the head of the fields so far.
pub record Taking (l : List ℕ) (t a₀ n a left sum : ℕ) (fixed : Bool) : Type 0 where
  pub tests : refs l t false a left ≡ refs l t false a₀ n
  pub bound : sum + 4294967296 * left ≤ 4294967296 * n
  pub taken : sum + portion (heads (fields l (trees l t) a left)) ≡ portion (heads (fields l (trees l t) a₀ n))
  pub same : with_rest fixed sum (head_all (fields l (trees l t) a left)) ≡ head_all (fields l (trees l t) a₀ n)

pub taking_start : (l : List ℕ) (t a₀ n left : ℕ) → left ≡ n → Taking l t a₀ n a₀ left 0 true
taking_start l t a₀ n left e =
    rw e (record { tests = refl; bound = omega arith; taken = omega arith; same = joined-zero _ })

module _ (l : List ℕ) (t a₀ n a left rest sum : ℕ) (fixed : Bool) (f : ℕ) (g : Legal l t) (s : Taking l t a₀ n a left sum fixed)
    (p : left ≡ suc rest) (e : f ≡ word_at l a) (j : a < count l) where
  -- a word that names no lower type
  pub taking_wrong : (ts : Tys) → t ≤ f → Err (BadLayout a) ≡ sizes_of (refs l t false a₀ n) ts
  unfolding sizes_of
  taking_wrong ts u =
      let m : ltb (word_at l a) t ≡ false = rw (← e) (le-ltb f t u) in
      rw (← refs-wrong l t false a left rest _ p s.tests j (rw m))

  -- a field whose length is k
  module _ (h : f < t) (k : ℕ) (q : k ≡ len_of (head (tree_of l f))) where
    taking_first : fields l (trees l t) a left ≡ field (tree_of l f) (fields l (trees l t) (a + 1) rest)
    taking_first = rw (p, e) (fields_at l t a rest (rw (← e) h))

    taking_head : head (tree_of l f) ≡ head_of k
    taking_head = rw q (sym (head_len (tree_of l f) (legal_tree l t f g h)))

    taking_small : k < 2 ^ 32
    unfolding Legal
    taking_small = rw q (len_small l f (g f h))

    taking_tests : refs l t false (a + 1) rest ≡ refs l t false a₀ n
    taking_tests =
        let m : ltb (word_at l a) t ≡ true = rw (← e) (lt-ltb f t h) in
        refs-next l t false a left rest _ p s.tests j (rw m)

    module _ (w : ℕ) (v : w ≡ width (head_of k)) where
      pub taking_width : w < 2 ^ 32
      taking_width = rw v (width_small k taking_small)

      taking_bound : sum + w + 4294967296 * rest ≤ 4294967296 * n
      taking_bound = omega (arith, s.bound, taking_width)

      taking_sum : sum + w + portion (heads (fields l (trees l t) (a + 1) rest)) ≡ portion (heads (fields l (trees l t) a₀ n))
      unfolding heads portion
      taking_sum = let x = rw (taking_first, taking_head, ← v) at s.taken in omega arith

      taking_rest : (x : Head) → head_of k ≡ x → with_rest fixed sum (joined x (head_all (fields l (trees l t) (a + 1) rest))) ≡
          head_all (fields l (trees l t) a₀ n)
      unfolding head
      taking_rest x z = rw (taking_first, taking_head, z) at s.same

      pub taking_fixed : (k ≡ 0 → ⊥) → Taking l t a₀ n (a + 1) rest (sum + w) fixed
      unfolding width
      taking_fixed z =
          let y : w ≡ k = rw (ne_eqb k 0 z) at v in
          record {
            tests = taking_tests;
            bound = taking_bound;
            taken = taking_sum;
            same = rw y (sym (with_next fixed sum k _) ∙ taking_rest (Fixed k) (rw (ne_eqb k 0 z)));
          }

      pub taking_variable : k ≡ 0 → Taking l t a₀ n (a + 1) rest (sum + w) false
      taking_variable z =
          record { tests = taking_tests; bound = taking_bound; taken = taking_sum; same = sym (with_variable fixed sum _) ∙ taking_rest Variable (rw z) }

pub taking_end : (l : List ℕ) (t a₀ n a left sum : ℕ) (fixed : Bool) → Taking l t a₀ n a left sum fixed → left ≡ 0 → a ≡ a₀ + n →
    Ok (record { end = a₀ + n; portion = sum; length = pick fixed sum 0 }) ≡ sizes_of (refs l t false a₀ n) (fields l (trees l t) a₀ n)
unfolding head heads portion sizes_of
taking_end l t a₀ n a left sum fixed s h q =
    let d = fields-none l (trees l t) a left (omega arith) in
    let y : pick fixed sum 0 ≡ len_of (head_all (fields l (trees l t) a₀ n)) = sym (with_end fixed sum) ∙ ap len_of (rw d at s.same) in
    let x : sum ≡ portion (heads (fields l (trees l t) a₀ n)) = omega (arith, rw d at s.taken) in
    rw (← s.tests, refs-none l t false a left h, ← q, y, x)

-- Of a container's words that are not all there, one is the first bad word.
pub cut-short : (l : List ℕ) (t n a : ℕ) (x : Result ℕ Refusal) → a ≤ count l → count l < a + n → x ≡ refs l t false a n → IsErr x
cut-short l t n a (Err r) i h e = refl
cut-short l t n a (Ok k) i h e = absurd (refs-cut l t n a k i h (sym e))

-- The vector at the word at, whose element f is known: what n elements take of a fixed portion, and how long they are.
module _ (lens l : List ℕ) (t at e n f : ℕ) (g : Known lens l t) (r : Ok e ≡ refs l t false (at + 1) 1) (k : Ok n ≡ counted l (at + 1) 4294967295)
    (q : f ≡ word_at l (at + 1)) where
  pub element-below : f < t
  element-below = rw q (element-lower l t (at + 1) e (sym r)).0

  elements-count : Counted l (at + 1) 4294967295 n
  elements-count = counted-says l (at + 1) 4294967295 n (sym k)

  pub elements_len_fits : n * get_or lens f 0 < 2 ^ 64
  elements_len_fits =
      let x = mul-le-mul_right (get_or lens f 0) elements-count.few in
      let y = known_small lens l t g f element-below in
      omega arith

  element_len : len_of (head (get_or (trees l t) (word_at l (at + 1)) (boolean 0))) ≡ get_or lens f 0
  element_len = rw (← q, trees-get l t f (boolean 0) element-below) (sym (known_len lens l t g f element-below))

  elements_len : word_at l (at + 2) * len_of (head (get_or (trees l t) (word_at l (at + 1)) (boolean 0))) ≡ n * get_or lens f 0
  elements_len =
      let two : at + 1 + 1 ≡ at + 2 = omega arith in
      let m = rw two at elements-count.word in
      rw (element_len, ← m)

  module _ (w : ℕ) (v : w ≡ width (head_of (get_or lens f 0))) where
    element-width : w ≡ width (head (tree_of l f))
    element-width = v ∙ ap width (known-head lens l t g f element-below)

    pub elements_fit : n * w < 2 ^ 64
    elements_fit =
        let x = mul-le-mul_right w elements-count.few in
        let y : w < 2 ^ 32 = rw v (width_small (get_or lens f 0) (known_small lens l t g f element-below)) in
        omega arith

    vector-tests : vector_end_lem l t at ≡ pick (leb (n * w) 4294967295) (Ok (at + 3)) (Err (BadLayout at))
    unfolding vector_end_lem
    vector-tests = rw (← r, ← k, ← q, trees-get l t f (boolean 0) element-below, ← element-width)

    pub vector_wide : (m : ℕ) → 4294967295 < n * w → Err (BadLayout at) ≡ with_len (vector_end_lem l t at) m
    vector_wide m h = rw (vector-tests, lt-leb _ _ h)

    pub vector-ends : n * w ≤ 4294967295 → Ok (record { end = at + 3; len = n * get_or lens f 0 }) ≡
        with_len (vector_end_lem l t at) (word_at l (at + 2) * len_of (head (get_or (trees l t) (word_at l (at + 1)) (boolean 0))))
    vector-ends h = rw (vector-tests, le-leb _ _ h, elements_len)

-- A leaf with a word behind its kind
abbrev pub with_word : Kind → Bool
with_word Kind.Number = true
with_word Kind.FixedBytes = true
with_word Kind.FreeBytes = true
with_word Kind.BitVector = true
with_word Kind.BitList = true
with_word k = false

-- A leaf with one word, by its kind.
leaf_with_word : (k : Kind) (l : List ℕ) (t at : ℕ) → with_word k ≡ true →
    with_len (kind_end (Some k) l t at) (len_of (head (type_with k l (trees l t) t at (word_at l (at + 1))))) ≡
    with_len (leaf_end_lem k l at) (leaf_len_lem k (word_at l (at + 1)))
leaf_with_word Kind.Boolean l t at h = absurd (cc)
leaf_with_word Kind.Container l t at h = absurd (cc)
leaf_with_word Kind.Union l t at h = absurd (cc)
leaf_with_word Kind.List l t at h = absurd (cc)
leaf_with_word Kind.Vector l t at h = absurd (cc)
leaf_with_word Kind.Number l t at h = ap (with_len (leaf_end_lem Kind.Number l at)) (leaf-number Kind.Number t _)
leaf_with_word Kind.FixedBytes l t at h = ap (with_len (leaf_end_lem Kind.FixedBytes l at)) (leaf-number Kind.FixedBytes t _)
leaf_with_word Kind.FreeBytes l t at h = ap (with_len (leaf_end_lem Kind.FreeBytes l at)) (leaf-number Kind.FreeBytes t _)
leaf_with_word Kind.BitVector l t at h = ap (with_len (leaf_end_lem Kind.BitVector l at)) (leaf-number Kind.BitVector t _)
leaf_with_word Kind.BitList l t at h = ap (with_len (leaf_end_lem Kind.BitList l at)) (leaf-number Kind.BitList t _)

-- The type t, whose body starts at the word at, which names the kind k.
module _ (l : List ℕ) (t at : ℕ) (k : Kind) (x : ℕ) (w : at ≡ word_at l (1 + t)) (i : at < count l) (y : x ≡ word_at l at) (q : Some k ≡ kind_of x) where
  tree_here : tree_of l t ≡ type_with k l (trees l t) t at (word_at l (at + 1))
  unfolding tree_of from_node node_of
  tree_here = rw (← w, ← y, ← q)

  body_here : with_len (kind_end (Some k) l t at) (len_of (head (type_with k l (trees l t) t at (word_at l (at + 1))))) ≡
      with_len (body_end_lem l t at) (len_of (head (tree_of l t)))
  unfolding body_end_lem
  body_here = rw (tree_here, lt-ltb _ _ i, ← y, ← q)

  pub leaf_here : {j : Kind} → k ≡ j → with_word j ≡ true → with_len (leaf_end_lem j l at) (leaf_len_lem j (word_at l (at + 1))) ≡
      with_len (body_end_lem l t at) (len_of (head (tree_of l t)))
  leaf_here {j} h b = sym (leaf_with_word j l t at b) ∙ (rw h at body_here)

  pub boolean_here : k ≡ Kind.Boolean → Ok (record { end = at + 1; len = 1 }) ≡ with_len (body_end_lem l t at) (len_of (head (tree_of l t)))
  unfolding head
  boolean_here h = rw h at body_here

  pub container_here : k ≡ Kind.Container → with_len (container_end_lem l t at) (len_of (head_all (fields l (trees l t) (at + 2) (word_at l (at + 1))))) ≡
      with_len (body_end_lem l t at) (len_of (head (tree_of l t)))
  unfolding head
  container_here h = rw h at body_here

  pub union_here : (e : ℕ) → k ≡ Kind.Union → Ok e ≡ many l t at true 128 → Ok (record { end = e; len = 0 }) ≡
      with_len (body_end_lem l t at) (len_of (head (tree_of l t)))
  unfolding head
  union_here e h z = rw (h, ← z) at body_here

  pub list_here : (e : ℕ) → k ≡ Kind.List → Ok e ≡ list_end_lem l t at → Ok (record { end = e; len = 0 }) ≡
      with_len (body_end_lem l t at) (len_of (head (tree_of l t)))
  unfolding head
  list_here e h z = rw (h, ← z) at body_here

  pub vector_here : k ≡ Kind.Vector →
      with_len (vector_end_lem l t at) (word_at l (at + 2) * len_of (head (get_or (trees l t) (word_at l (at + 1)) (boolean 0)))) ≡
      with_len (body_end_lem l t at) (len_of (head (tree_of l t)))
  vector_here h =
      ap (with_len (vector_end_lem l t at)) (sym (vector-length t (word_at l (at + 2)) (get_or (trees l t) (word_at l (at + 1)) (boolean 0))))
      ∙ rw h at body_here

-- A legal type's length is remembered.
pub found-set : (l : List ℕ) (t v : ℕ) (lens : List ℕ) → lens ≡ filled l t → t < 64 → v ≡ len_of (head (tree_of l t)) → set lens t v ≡ filled l (t + 1)
found-set l t v lens f b h = rw (h, f, add-one) (filled-set l t b)

-- A type whose kind word names a kind
named_here : (l : List ℕ) (t : ℕ) (k : Kind) → kind_of (word_at l (word_at l (1 + t))) ≡ Some k →
    tree_of l t ≡ type_with k l (trees l t) t (word_at l (1 + t)) (word_at l (word_at l (1 + t) + 1))
unfolding tree_of from_node node_of
named_here l t k q = rw q

-- What the call for a lower type leaves: nothing new is remembered.
pub kept_lower : (l : List ℕ) (t f : ℕ) (lens : List ℕ) → f < t → lens ≡ filled l (pick (ltb f t) t (t + 1)) → lens ≡ filled l t
kept_lower l t f lens h e = rw (lt-ltb f t h) at e

-- The length of a type that is no container and no vector
alone_len : (k : Kind) (l : List ℕ) (lower : List Ty) (t at w : ℕ) → (k ≡ Kind.Vector → ⊥) → (k ≡ Kind.Container → ⊥) →
    leaf_len_lem k w ≡ len_of (head (type_with k l lower t at w))
unfolding head
alone_len Kind.Vector l lower t at w f g = absurd (f refl)
alone_len Kind.Container l lower t at w f g = absurd (g refl)
alone_len Kind.Union l lower t at w f g = refl
alone_len Kind.List l lower t at w f g = refl
alone_len Kind.Number l lower t at w f g = refl
alone_len Kind.Boolean l lower t at w f g = refl
alone_len Kind.FixedBytes l lower t at w f g = refl
alone_len Kind.FreeBytes l lower t at w f g = refl
alone_len Kind.BitVector l lower t at w f g = refl
alone_len Kind.BitList l lower t at w f g = refl

-- A legal type's length, worked out from those of its lower types.
module _ (l : List ℕ) (t : ℕ) (r : Node) (e : r ≡ node_of l t) (g : Legal l (t + 1)) where
  pub worked_alone : (v : ℕ) → v ≡ leaf_len_lem r.kind r.second → (r.kind ≡ Kind.Vector → ⊥) → (r.kind ≡ Kind.Container → ⊥) →
      v ≡ len_of (head (tree_of l t))
  unfolding tree_of from_node
  worked_alone v h x y = rw (← e, h) (alone_len r.kind l (trees l t) t r.at r.second x y)

  pub element_lower : r.kind ≡ Kind.Vector → r.second < t
  element_lower k = (legal_node l t r e g).element (rw k)

  pub worked_vector : (n k : ℕ) → r.kind ≡ Kind.Vector → n ≡ word_at l (r.at + 2) → k ≡ len_of (head (tree_of l r.second)) →
      n * k ≡ len_of (head (tree_of l t))
  worked_vector n k h q m = rw (q, m) (sym (vector_len l t r e h (element_lower h)))

  -- of a legal container the words are accepted
  sized : (x : Result Sizes Refusal) → r.kind ≡ Kind.Container →
      x ≡ sizes_of (refs l t false (r.at + 2) r.second) (fields l (trees l t) (r.at + 2) r.second) →
      x ≡ Ok (record {
        end = r.at + 2 + r.second;
        portion = portion (heads (fields l (trees l t) (r.at + 2) r.second));
        length = len_of (head_all (fields l (trees l t) (r.at + 2) r.second));
      })
  unfolding sizes_of
  sized x h q =
      let n = legal_node l t r e g in
      q ∙ rw (refs-lower l t r.second (r.at + 2) (n.lower h) (n.within (rw h)))

  pub worked_sizes : (x : Result Sizes Refusal) → r.kind ≡ Kind.Container →
      x ≡ sizes_of (refs l t false (r.at + 2) r.second) (fields l (trees l t) (r.at + 2) r.second) → IsOk x
  worked_sizes x h q = rw (sized x h q)

  pub worked_container : (s : Sizes) → r.kind ≡ Kind.Container →
      Ok s ≡ sizes_of (refs l t false (r.at + 2) r.second) (fields l (trees l t) (r.at + 2) r.second) → s.length ≡ len_of (head (tree_of l t))
  unfolding head
  worked_container s h q =
      let z : s.length ≡ len_of (head_all (fields l (trees l t) (r.at + 2) r.second)) = cc (sized (Ok s) h q) in
      rw (as_container l t r e h) z

  pub worked_small : (v : ℕ) → v ≡ len_of (head (tree_of l t)) → v < 2 ^ 32
  worked_small v h = rw h (len_small l t (legal_node l t (node_of l t) refl g))

-- A length that is worked out is remembered.
pub lengthened : (l : List ℕ) (t r : ℕ) (lens : List ℕ) → lens ≡ filled l t → t < 64 → r ≡ len_of (head (tree_of l t)) → Lengthened l t t r (set lens t r)
lengthened l t r lens f b h = record { gives = h; found = rw (le-ltb t t (omega arith)) (found-set l t r lens f b h) }

-- What a container's length, and a vector's, make of the lengths before it.
pub container_filled : (l : List ℕ) (t : ℕ) → t < 64 → kind_of (word_at l (word_at l (1 + t))) ≡ Some Kind.Container →
    filled l (t + 1) ≡
    set (filled l t) t (len_of (head_all (fields l (trees l t) (word_at l (1 + t) + 2) (word_at l (word_at l (1 + t) + 1)))))
unfolding head
container_filled l t b k = sym (found-set l t _ _ refl b (rw (named_here l t Kind.Container k)))

-- An end that is none has no number.
abbrev upto : Result ℕ Refusal → ℕ
upto (Err r) = 0
upto (Ok e) = e

abbrev ends : Result ℕ Refusal → Bool
ends (Err r) = false
ends (Ok e) = true

ended_at : (x : Result ℕ Refusal) → ends x ≡ true → x ≡ Ok (upto x)
ended_at (Err r) h = absurd (cc)
ended_at (Ok e) h = refl

module _ (l : List ℕ) (t : ℕ) where
  below : (a : ℕ) → ends (refs l t false a 1) ≡ true → word_at l a < t
  below a h = (element-lower l t a _ (ended_at _ h)).0

  pub element_head : (a : ℕ) → Legal l t → ends (refs l t false a 1) ≡ true →
      head (get_or (trees l t) (word_at l a) (boolean 0)) ≡ head_of (get_or (filled l t) (word_at l a) 0)
  element_head a g h =
      let k = below a h in
      rw (trees-get l t (word_at l a) (boolean 0) k, filled-get l t (word_at l a) k)
      (sym (head_len (tree_of l (word_at l a)) (legal_tree l t (word_at l a) g k)))

  pub vector_filled : t < 64 → kind_of (word_at l (word_at l (1 + t))) ≡ Some Kind.Vector →
      ends (refs l t false (word_at l (1 + t) + 1) 1) ≡ true → ends (counted l (word_at l (1 + t) + 1) 4294967295) ≡ true →
      filled l (t + 1) ≡
      set (filled l t) t (upto (counted l (word_at l (1 + t) + 1) 4294967295) * get_or (filled l t) (word_at l (word_at l (1 + t) + 1)) 0)
  vector_filled b z h k =
      let i = below (word_at l (1 + t) + 1) h in
      let two : word_at l (1 + t) + 1 + 1 ≡ word_at l (1 + t) + 2 = omega arith in
      let m = rw two at (counted-says l (word_at l (1 + t) + 1) 4294967295 _ (ended_at _ k)).word in
      let x = get_or (trees l t) (word_at l (word_at l (1 + t) + 1)) (boolean 0) in
      let len = ap (λ (y : Ty). len_of (head y)) (named_here l t Kind.Vector z) ∙ vector-length t (word_at l (word_at l (1 + t) + 2)) x in
      rw (m, filled-get l t _ i, ← trees-get l t _ (boolean 0) i, ← len) (sym (found-set l t _ _ refl b refl))

pub ruleset vector_rules = (element_head, vector_filled)

-- A body that ends, beside its type's length.
pub record Stands (x : Result ℕ Refusal) (n : ℕ) (b : Body) : Type 0 where
  pub reached : x ≡ Ok b.end
  pub long : b.len ≡ n

pub stands : (x : Result ℕ Refusal) (n : ℕ) (b : Body) → Ok b ≡ with_len x n → Stands x n b
stands (Err r) n b e = let z : ◌≡◌ {A = ℕ} 0 1 = cc in absurd (omega arith)
stands (Ok i) n b e = let q : b ≡ record { end = i; len = n } = cc in rw q (record { reached = refl; long = refl })

pub stands-not : (x : Result ℕ Refusal) (n : ℕ) (r : Refusal) → Err r ≡ with_len x n → Err r ≡ x
stands-not (Err q) n r e = cc
stands-not (Ok i) n r e = let z : ◌≡◌ {A = ℕ} 0 1 = cc in absurd (omega arith)
