-- The leaves of a listing, read back from its bytes, and the leaves of a value's pieces, in one form. Assumes nothing: these are definitions.
use Rattle.std.specs.Prelude.{ℕ, zero, suc, ◌+◌, List, [], ◌∷◌, drop, ltb}
use Rattle.standard.specs.Choice.{pick}
use Rattle.standard.specs.Bytes.{four, word_at}
use Rattle.standard.specs.Pieces.{Kind, offset_word, selector_byte, leaf_body, Piece}

-- An item: its type, and the positions from its start to before its end
pub record Item : Type 0 where
  pub type : ℕ
  pub from : ℕ
  pub to : ℕ

-- The items that the first n records in b say: "three words an item .. type, start, end"
unfoldable pub items_in : ℕ → List ℕ → List Item
items_in zero b = []
items_in (suc n) b = record { type = four b 0; from = four b 4; to = four b 8 } ∷ items_in n (drop 12 b)

-- The kind word of the type t in the table l
abbrev pub kind_word : List ℕ → ℕ → ℕ
kind_word l t = word_at l (word_at l (1 + t))

-- Those that are leaves: the kind word of their type in the table l is below 6
unfoldable pub leaves_of : List ℕ → List Item → List Item
leaves_of l [] = []
leaves_of l (x ∷ xs) = pick (ltb (kind_word l x.type) 6) (x ∷ leaves_of l xs) (leaves_of l xs)

-- A piece before some items: a leaf's body is an item, an offset word or a selector byte is none
abbrev pub item_before : Kind → ℕ → ℕ → List Item → List Item
item_before offset_word from to xs = xs
item_before selector_byte from to xs = xs
item_before (leaf_body t) from to xs = record { type = t; from = from; to = to } ∷ xs

-- The leaf bodies among some pieces, as items
unfoldable pub leaf_pieces : List Piece → List Item
leaf_pieces [] = []
leaf_pieces (p ∷ ps) = item_before p.kind p.from p.to (leaf_pieces ps)
