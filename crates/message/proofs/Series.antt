-- The fields or elements of an accepted item: of a leaf none, of a container its fields, of a list or vector its elements. Assumes nothing.
use mathlib.Core.Path.{◌≡◌, refl, sym, ◌∙◌}
use mathlib.Core.List.{List, ◌∷◌, [], ◌++◌, append-nil}
use mathlib.Core.Bool.{true, false}
use Prim.Native.Nat.{ℕ, ◌+◌, ◌<◌, ◌^◌}
use native.Mathlib.Omega.{arith}
use borrow.Author.Tests.{ne_eqb}
use lib.ListN.{length, get_or}
use Rattle.standard.specs.Choice.{pick}
use Rattle.standard.specs.Bytes.{word_at}
use Rattle.standard.specs.Types.{head, heads}
use Rattle.standard.specs.Parts.{InRange}
use Rattle.standard.specs.declared.Head.TheVariants.{Fixed}
use Rattle.layout.specs.Tree.{node_of, tree_of}
use Rattle.layout.specs.declared.Node.{Node}
use Rattle.message.specs.Read.{elements, many_of, read_item}
use Rattle.message.specs.Listing.{list_item_lem}
use Rattle.message.specs.Unfold.{unfold_words, words_fields, unfold_bytes, bytes_fields}
use Rattle.message.specs.Steps.{Under, Named, row_of, many_in_lem, IsAccepted, is_list, is_vector}
use Rattle.message.specs.Series.{MadeOf, count_word}
use Rattle.message.specs.declared.parts.Series.{Series}
use Rattle.message.proofs.Rows.{node_legal, under-below, container_tree}
use Rattle.message.proofs.Bodies.{container-row}
use Rattle.message.proofs.Entries.{accepted-start, container-accepted, list-container, list-leaf}
use Rattle.message.proofs.Repeats.{element-head, element-copies, list-words, vector-words}
use Rattle.message.proofs.Copies.{laid-fixed}
use Rattle.message.proofs.Fixed.{fixed-each}
use Rattle.message.proofs.Manys.{many-held, many-ranges, many-few, many-row}
use Rattle.layout.specs.declared.Kind.{Kind}
use Rattle.layout.specs.Kinds.{is_leaf, has_element}

no_leaf : {A : Type 0} → true ≡ false → A
no_leaf e = cc

no_container : Kind.Container ≡ Kind.List → ⊥
no_container e = cc

module _ (lens l : List ℕ) (t : ℕ) (n : Node) (e : n ≡ node_of l t) (g : Under lens l (t + 1)) (b : List ℕ) (h : IsAccepted (read_item (tree_of l t) b 0)) where
  accepted-at : (s : ℕ) → IsAccepted (read_item (tree_of l t) b s)
  accepted-at s = accepted-start (tree_of l t) b 0 s h

  pub no-items-made : is_leaf n.kind ≡ true → (r : Series) → r ≡ record { below = 0; first = 0; step = 0; many = 0 } → MadeOf lens l t n b r
  unfolding row_of heads InRange Named read_item list_item_lem
  no-items-made k r q =
      rw q (record {
        below = omega arith;
        row = record { under = under-below lens l (t + 1) 0 (omega arith) g; near = omega arith; steps = omega arith; named = tt };
        few = omega arith;
        ranges = omega arith;
        accepted = λ s. tt;
        listed = λ s. rw (list-leaf l t n e b s k, append-nil);
        words = λ (z : is_leaf n.kind ≡ false). no_leaf (sym k ∙ z);
        bytes = λ (z : is_leaf n.kind ≡ false). no_leaf (sym k ∙ z);
        copied = λ (z : n.kind ≡ Kind.List) v. no_leaf (sym k ∙ rw z);
      })

  module _ (k : n.kind ≡ Kind.Container) where
    container-words : unfold_words (tree_of l t) b ≡ words_fields (row_of l t (n.at + 2) 1 n.second) b 0
    unfolding unfold_words
    container-words = rw (container_tree l t n e k)

    container-bytes : unfold_bytes (tree_of l t) b ≡ bytes_fields (row_of l t (n.at + 2) 1 n.second) b 0
    unfolding unfold_bytes
    container-bytes = rw (container_tree l t n e k)

    pub fields_made : (r : Series) → r ≡ record { below = t; first = n.at + 2; step = 1; many = n.second } → MadeOf lens l t n b r
    fields_made r q =
        rw q (record {
          below = omega arith;
          row = container-row lens l t n e g k;
          few = (node_legal lens l t n e g).small;
          ranges = (container-accepted lens l t n e g b 0 h k).0;
          accepted = λ s. (container-accepted lens l t n e g b s (accepted-at s) k).1;
          listed = λ s. list-container l t n e b s k;
          words = λ (z : is_leaf n.kind ≡ false). rw k container-words;
          bytes = λ (z : is_leaf n.kind ≡ false). container-bytes;
          copied = λ (z : n.kind ≡ Kind.List) v. absurd (no_container (sym k ∙ z));
        })

  module _ (k : has_element n.kind ≡ true) (m : ℕ) (c : m ≡ many_in_lem l n (head (tree_of l n.second)) b) where
    elements-words : unfold_words (tree_of l t) b ≡ count_word n m ++ words_fields (row_of l t (n.at + 1) 0 m) b 0
    elements-words = rw c (go n.kind refl k)
      where
        -- as many as the table says, or as the list says
        said : Kind → ℕ
        said i = pick (is_vector i) (word_at l (n.at + 2)) (many_of (elements (head (tree_of l n.second)) (word_at l (n.at + 2)) b))

        go : (i : Kind) → n.kind ≡ i → has_element i ≡ true →
            unfold_words (tree_of l t) b ≡ pick (is_list i) (said i ∷ []) [] ++ words_fields (row_of l t (n.at + 1) 0 (said i)) b 0
        go Kind.Vector q j = vector-words lens l t n e g k q b
        go Kind.List q j = list-words lens l t n e g k q b
        go i q j = absurd (cc)

    -- elements of fixed size are the bytes of all
    elements-copied : 0 < get_or lens n.second 0 → (words_fields (row_of l t (n.at + 1) 0 m) b 0 ≡ []) × (bytes_fields (row_of l t (n.at + 1) 0 m) b 0 ≡ b)
    elements-copied z =
        let w = get_or lens n.second 0 in
        let f : head (tree_of l n.second) ≡ Fixed w =
        sym (element-head lens l t n e g k) ∙ rw (ne_eqb w 0 (λ (v : w ≡ 0). omega arith)) in
        let long = laid-fixed m w b (rw (← f) (rw c (many-held lens l t n e g k b 0 h).laid)) in
        rw (element-copies lens l t n e g k m) (fixed-each (tree_of l n.second) w m b f (sym long))

    pub elements-made : length b < 2 ^ 32 → (r : Series) → r ≡ record { below = t; first = n.at + 1; step = 0; many = m } → MadeOf lens l t n b r
    elements-made z r q =
        rw q (record {
          below = omega arith;
          row = rw c (many-row lens l t n e g k b 0 h z);
          few = rw c (omega (arith, many-few lens l t n e g k b 0 h));
          ranges = rw c (many-ranges lens l t n e g k b 0 h);
          accepted = λ s. rw c (many-held lens l t n e g k b s (accepted-at s)).accepted;
          listed = λ s. rw c (many-held lens l t n e g k b s (accepted-at s)).listed;
          words = λ (v : is_leaf n.kind ≡ false). elements-words;
          bytes = λ (v : is_leaf n.kind ≡ false). rw c (many-held lens l t n e g k b 0 h).bytes;
          copied = λ (v : n.kind ≡ Kind.List) i. elements-copied i;
        })
