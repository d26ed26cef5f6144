-- A layout table as a tree of the standard's types: document 01, "The layout table". Assumes nothing: these are definitions.
use Rattle.std.specs.Prelude.{ℕ, zero, suc, ◌+◌, ◌-◌, List, [], ◌∷◌, ◌++◌, get_or, replicate, eqb, unwrap_or}
use Rattle.standard.specs.Choice.{pick}
use Rattle.standard.specs.Bytes.{word_at}
use Rattle.standard.specs.Types.{Ty, Tys, Opts, number, boolean, fixed_bytes, free_bytes, bit_vector, bit_list, container, union, list, vector, end, field, over, bare, body, head}
use Rattle.standard.specs.declared.Head.{Head}
use Rattle.standard.specs.declared.Head.TheVariants.{Fixed, Variable}
use Rattle.layout.specs.Kinds.{kind_of}
use Rattle.layout.specs.declared.Kind.{Kind}
use Rattle.layout.specs.declared.Node.{Node}

-- "Words 1 to T say at which word each type's body starts": the kind of the kind word there, and the word behind it. A word that names no kind,
-- as a legal table has none, counts as a bit list's.
unfoldable pub node_of : List ℕ → ℕ → Node
node_of l t =
    record {
      kind = unwrap_or (kind_of (word_at l (word_at l (1 + t)))) Kind.BitList;
      at = word_at l (1 + t);
      second = word_at l (word_at l (1 + t) + 1);
    }

-- n fields from the word at on; a field names one of the lower types
unfoldable pub fields : List ℕ → List Ty → ℕ → ℕ → Tys
fields l lower at zero = end
fields l lower at (suc n) = field (get_or lower (word_at l at) (boolean 0)) (fields l lower (at + 1) n)

-- n options from the word at on, with the selectors from k on: "a type, or 4294967295 for no body"
unfoldable pub options : List ℕ → List Ty → ℕ → ℕ → ℕ → Opts
options l lower at k zero = over
options l lower at k (suc n) =
    pick (eqb (word_at l at) 4294967295)
    (bare k (options l lower (at + 1) (k + 1) n))
    (body k (get_or lower (word_at l at) (boolean 0)) (options l lower (at + 1) (k + 1) n))

-- The type t of the kind, with the word w behind the kind word, if it has no lower types: kinds 0 to 5
abbrev pub leaf_with : Kind → ℕ → ℕ → Ty
leaf_with Kind.Number t w = number t w
leaf_with Kind.Boolean t w = boolean t
leaf_with Kind.FixedBytes t w = fixed_bytes t w
leaf_with Kind.FreeBytes t w = free_bytes t w
leaf_with Kind.BitVector t w = bit_vector t w
leaf_with k t w = bit_list t w

unfoldable pub leaf_of : ℕ → Node → Ty
leaf_of t n = leaf_with n.kind t n.second

-- The type t of the kind at the word at, with the word w behind it, over the lower types: kind 6 is a container, kind 7 a union; "kind 8, list
-- (element type, greatest count), and kind 9, vector (element type, count of at least 1)"
abbrev pub type_with : Kind → List ℕ → List Ty → ℕ → ℕ → ℕ → Ty
type_with Kind.Container l lower t at w = container t (fields l lower (at + 2) w)
type_with Kind.Union l lower t at w = union t (options l lower (at + 2) 0 w)
type_with Kind.List l lower t at w = list t (get_or lower w (boolean 0)) (word_at l (at + 2))
type_with Kind.Vector l lower t at w = vector t (get_or lower w (boolean 0)) (word_at l (at + 2))
type_with k l lower t at w = leaf_with k t w

-- The type t of which the table says n
unfoldable pub from_node : List ℕ → List Ty → ℕ → Node → Ty
from_node l lower t n = type_with n.kind l lower t n.at n.second

-- The first n types
unfoldable pub trees : List ℕ → ℕ → List Ty
trees l zero = []
trees l (suc n) = trees l n ++ (from_node l (trees l n) n (node_of l n) ∷ [])

-- The type t
unfoldable pub tree_of : List ℕ → ℕ → Ty
tree_of l t = from_node l (trees l t) t (node_of l t)

-- A type's fixed length; 0 stands for a type of variable size
abbrev pub len_of : Head → ℕ
len_of (Fixed n) = n
len_of Variable = 0

abbrev pub head_of : ℕ → Head
head_of n = pick (eqb n 0) Variable (Fixed n)

-- The fixed lengths of the first n types
unfoldable pub lengths : List ℕ → ℕ → List ℕ
lengths l zero = []
lengths l (suc n) = lengths l n ++ (len_of (head (tree_of l n)) ∷ [])

-- They stand at the front of 64 numbers.
unfoldable pub filled : List ℕ → ℕ → List ℕ
filled l n = lengths l n ++ replicate (64 - n) 0
