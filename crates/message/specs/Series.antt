-- The items that one is made of, as listing and unfolding go through them. Assumes nothing: these are definitions.
use Rattle.std.specs.Prelude.{ℕ, ◌≤◌, ◌<◌, ◌^◌, ◌≡◌, List, [], ◌∷◌, ◌++◌, false, get_or}
use Rattle.standard.specs.Choice.{pick}
use Rattle.standard.specs.Types.{heads}
use Rattle.standard.specs.Parts.{InRange}
use Rattle.layout.specs.Tree.{tree_of}
use Rattle.layout.specs.Kinds.{is_leaf}
use Rattle.layout.specs.declared.Kind.{Kind}
use Rattle.layout.specs.declared.Node.{Node}
use Rattle.message.specs.Read.{read_fields}
use Rattle.message.specs.Listing.{entry, list_item_lem, list_fields_lem}
use Rattle.message.specs.Unfold.{unfold_words, words_fields, unfold_bytes, bytes_fields}
use Rattle.message.specs.Steps.{Row, types_of, is_list, IsAccepted}
use Rattle.message.specs.declared.parts.Series.{Series}

-- The contents words that stand before m fields or elements: a list's count, else none
abbrev pub count_word : Node → ℕ → List ℕ
count_word n m = pick (is_list n.kind) (m ∷ []) []

-- The item b of the type t, whose words are n, is made of these fields or elements: they lie in it and are accepted. Its listing is its own
-- record and theirs; and if it is no leaf, its value form is its count and theirs. Of a list's elements of fixed size that is its bytes.
pub record MadeOf (lens l : List ℕ) (t : ℕ) (n : Node) (b : List ℕ) (r : Series) : Type 0 where
  pub below : r.below ≤ t
  pub row : Row lens l r.below r.first r.step r.many
  pub few : r.many < 2 ^ 32
  pub ranges : InRange (heads (types_of l r)) b 0 0
  pub accepted : (s : ℕ) → IsAccepted (read_fields (types_of l r) b 0 s)
  pub listed : (s : ℕ) → list_item_lem (tree_of l t) b s ≡ entry t b s ++ list_fields_lem (types_of l r) b 0 s
  pub words : is_leaf n.kind ≡ false → unfold_words (tree_of l t) b ≡ count_word n r.many ++ words_fields (types_of l r) b 0
  pub bytes : is_leaf n.kind ≡ false → unfold_bytes (tree_of l t) b ≡ bytes_fields (types_of l r) b 0
  pub copied : n.kind ≡ Kind.List → 0 < get_or lens n.second 0 → (words_fields (types_of l r) b 0 ≡ []) × (bytes_fields (types_of l r) b 0 ≡ b)
