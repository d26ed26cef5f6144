-- What reading leans on in a legal table. Assumes nothing: these are definitions.
use Rattle.std.specs.Prelude.{ℕ, ◌+◌, ◌*◌, ◌≤◌, ◌<◌, ◌^◌, ◌≡◌, List, true}
use Rattle.standard.specs.Bytes.{word_at}
use Rattle.standard.specs.Types.{head, width, portion, heads}
use Rattle.std.specs.declared.option.Option.TheVariants.{Some}
use Rattle.layout.specs.Kinds.{kind_of, has_many, has_element}
use Rattle.layout.specs.Tree.{node_of, fields, trees, tree_of}
use Rattle.layout.specs.Table.{count, leaf_word}
use Rattle.layout.specs.declared.Kind.{Kind}
use Rattle.layout.specs.declared.Node.{Node}

-- The n words from at on name types below t.
unfoldable pub Lower : List ℕ → ℕ → ℕ → ℕ → Type 0
Lower l t at n = (i : ℕ) → i < n → word_at l (at + i) < t

-- The n words from at on name types below t, or no body.
unfoldable pub LowerOrBare : List ℕ → ℕ → ℕ → ℕ → Type 0
LowerOrBare l t at n = (i : ℕ) → i < n → (word_at l (at + i) ≡ 4294967295 → ⊥) → word_at l (at + i) < t

-- A legal type t of which the table says n.
pub record LegalNode (l : List ℕ) (t : ℕ) (n : Node) : Type 0 where
  pub known : kind_of (word_at l n.at) ≡ Some n.kind
  pub listed : 1 + t < count l
  pub begun : n.at < count l
  pub near : n.at < 2 ^ 32
  pub small : n.second < 2 ^ 32
  pub leaf : leaf_word n.kind n.second ≡ true
  -- a number of fields or options, and as many words
  pub some : has_many n.kind ≡ true → 1 ≤ n.second
  pub within : has_many n.kind ≡ true → n.at + 2 + n.second ≤ count l
  pub few : n.kind ≡ Kind.Container → n.second ≤ 64
  pub lower : n.kind ≡ Kind.Container → Lower l t (n.at + 2) n.second
  pub short : n.kind ≡ Kind.Container → portion (heads (fields l (trees l t) (n.at + 2) n.second)) < 2 ^ 32
  pub most : n.kind ≡ Kind.Union → n.second ≤ 128
  pub optional : n.kind ≡ Kind.Union → LowerOrBare l t (n.at + 2) n.second
  -- an element's type, and the number behind it: a greatest count, or a vector's count
  pub element : has_element n.kind ≡ true → n.second < t
  pub third : has_element n.kind ≡ true → n.at + 2 < count l
  pub several : n.kind ≡ Kind.Vector → 1 ≤ word_at l (n.at + 2)
  pub narrow : n.kind ≡ Kind.Vector → word_at l (n.at + 2) * width (head (tree_of l n.second)) < 2 ^ 32

-- The types below n are legal.
unfoldable pub Legal : List ℕ → ℕ → Type 0
Legal l n = (t : ℕ) → t < n → LegalNode l t (node_of l t)
