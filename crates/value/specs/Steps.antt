-- What the steps of the writer ask and give, one to another. Assumes nothing: these are definitions.
use Rattle.std.specs.Prelude.{ℕ, ◌+◌, ◌≤◌, ◌<◌, ◌^◌, min, ◌≡◌, List, ◌∷◌, [], length, get_or, eqb, ltb, leb}
use Rattle.standard.specs.Choice.{pick}
use Rattle.standard.specs.Bytes.{word_at}
use Rattle.standard.specs.Types.{Ty, Tys, heads}
use Rattle.standard.specs.Parts.{join}
use Rattle.standard.specs.declared.Head.{Head}
use Rattle.standard.specs.declared.Head.TheVariants.{Fixed, Variable}
use Rattle.standard.specs.declared.Refusal.TheVariants.{BadValue}
use Rattle.layout.specs.Tree.{tree_of}
use Rattle.layout.specs.declared.Node.{Node}
use Rattle.message.specs.Steps.{Named, row_of}
use Rattle.value.specs.Walk.{Walked, upto, wrong, with_body, walk_item, walk_fields}
use Rattle.value.specs.Write.{write_item_lem, parts_from}
use Rattle.value.specs.declared.laid.Laid.{Laid}
use Rattle.value.specs.declared.laid.Members.{Members}
use Rattle.value.specs.declared.measure.Mark.{Mark}
use Rattle.std.specs.declared.result.Result.{Result}
use Rattle.std.specs.declared.result.Result.TheVariants.{Ok, Err}
use Rattle.standard.specs.declared.Refusal.{Refusal}

-- A length as far as 2^32: from there on it is too large, whatever it is.
abbrev pub cap : ℕ → ℕ
cap n = min n 4294967296

-- "its contents word (missing, over limit ..)": the word at i, where it is at most limit
abbrev pub counted : List ℕ → ℕ → ℕ → Result ℕ Refusal
counted c i limit =
    pick (ltb i (length c)) (pick (leb (get_or c i 0) limit) (Ok (get_or c i 0)) (Err (BadValue 0 i))) (Err (BadValue 0 (length c)))

-- A walk, with the length of what it would write
abbrev pub measured : Walked → ℕ → Result Mark Refusal
measured (upto i j) n = Ok (record { end = record { word = i; byte = j }; len = cap n })
measured (wrong r) n = Err r

-- What is measured of an item of the type x, and of the fields xs
abbrev pub measured_item : Ty → List ℕ → List ℕ → ℕ → ℕ → Result Mark Refusal
measured_item x c b i j = measured (walk_item x c b i j) (length (write_item_lem x c b i j))

abbrev pub measured_row : Tys → List ℕ → List ℕ → ℕ → ℕ → Result Mark Refusal
measured_row xs c b i j = measured (walk_fields xs c b i j) (length (join (parts_from xs c b i j)))

-- A union's selector byte besides
abbrev pub selected : Result Mark Refusal → Result Mark Refusal
selected (Ok m) = Ok (record { end = m.end; len = cap (1 + m.len) })
selected (Err r) = Err r

-- What an item takes besides its bytes: an offset is four bytes
abbrev pub extra : Head → ℕ
extra (Fixed n) = 0
extra Variable = 4

-- What the contents word at i chooses among the n options that the table's words from a on name
abbrev pub laid_at : ℕ → Laid
laid_at w = pick (eqb w 4294967295) Laid.Bare (Laid.Body w)

abbrev pub laid_of : List ℕ → ℕ → ℕ → ℕ → ℕ → Result Laid Refusal
laid_of l a n k i = pick (ltb k n) (Ok (laid_at (word_at l (a + k)))) (Err (BadValue 0 i))

unfoldable pub choose : List ℕ → ℕ → ℕ → List ℕ → ℕ → Result Laid Refusal
choose l a n c i =
    pick (ltb i (length c))
    (laid_of l a n (get_or c i 0) i)
    (Err (BadValue 0 (length c)))

-- A walk without fault
abbrev pub IsUpto : Walked → Type 0
IsUpto (upto i j) = Unit {0}
IsUpto (wrong r) = ⊥

-- The fields of a container t of which the table says n, and m elements of a list or vector
abbrev pub fields_of : ℕ → Node → Members
fields_of t n = record { of = t; first = n.at + 2; step = 1; many = n.second }

abbrev pub elements_of : ℕ → Node → ℕ → Members
elements_of t n m = record { of = t; first = n.at + 1; step = 0; many = m }

-- Fields or elements of one of the first k types that can be read: the words that name them are near, and name lower types.
pub record InRow (l : List ℕ) (k : ℕ) (m : Members) : Type 0 where
  pub own : m.of < k
  pub near : m.first + m.many < 2 ^ 34
  pub steps : m.step ≤ 1
  pub named : Named l m.of m.first m.step m.many

-- Their types, and the heads of those
abbrev pub types_in : List ℕ → Members → Tys
types_in l m = row_of l m.of m.first m.step m.many

abbrev pub heads_in : List ℕ → Members → List Head
heads_in l m = heads (types_in l m)

-- The type t is a row of fields: whatever the bodies are, its item, which starts at the contents word i, is walked and written as those
-- fields from the contents word p on.
pub record AsRow (l : List ℕ) (t : ℕ) (c : List ℕ) (i : ℕ) (m : Members) (p : ℕ) : Type 0 where
  pub own : m.of ≡ t
  pub row : (k : ℕ) → t < k → InRow l k m
  pub small : m.many < 2 ^ 32
  pub walk : (b : List ℕ) (j : ℕ) → walk_item (tree_of l t) c b i j ≡ walk_fields (types_in l m) c b p j
  pub write : (b : List ℕ) (j : ℕ) → write_item_lem (tree_of l t) c b i j ≡ join (parts_from (types_in l m) c b p j)

-- The type t is a union whose selector is the contents word i: its item is that byte, and what `of` and `x` say of its body.
pub record AsOption (l : List ℕ) (t : ℕ) (c : List ℕ) (i : ℕ) (of : List ℕ → ℕ → Walked) (x : List ℕ → ℕ → List ℕ) : Type 0 where
  pub there : i < length c
  pub small : get_or c i 0 < 256
  pub walk : (b : List ℕ) (j : ℕ) → walk_item (tree_of l t) c b i j ≡ of b j
  pub write : (b : List ℕ) (j : ℕ) → write_item_lem (tree_of l t) c b i j ≡ get_or c i 0 ∷ x b j

-- What the item of the type t, which starts at the contents word i, is made of
abbrev pub LaidAs : List ℕ → ℕ → List ℕ → ℕ → Result Laid Refusal → Type 0
LaidAs l t c i (Ok (Laid.Row m p)) = AsRow l t c i m p
LaidAs l t c i (Ok Laid.Bare) = AsOption l t c i (λ b j. upto (i + 1) j) (λ b j. [])
LaidAs l t c i (Ok (Laid.Body o)) =
    (o < t) × AsOption l t c i (λ b j. walk_item (tree_of l o) c b (i + 1) j) (λ b j. write_item_lem (tree_of l o) c b (i + 1) j)
LaidAs l t c i (Err r) = (b : List ℕ) (j : ℕ) → walk_item (tree_of l t) c b i j ≡ wrong r

-- What is measured of these fields is what is measured of n bytes of the bodies.
unfoldable pub AllPlain : Tys → ℕ → Type 0
AllPlain ts n =
    (c b : List ℕ) (i j : ℕ) → measured (with_body b j n (upto i (j + n))) n ≡ measured_row ts c b i j
