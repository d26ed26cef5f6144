-- The kinds of a layout table's types: document 01, "The layout table". Assumes nothing: these are definitions.
use Rattle.std.specs.Prelude.{ℕ, Bool, true, false, eqb}
use Rattle.std.specs.declared.option.Option.{Option}
use Rattle.std.specs.declared.option.Option.TheVariants.{Some, None}
use Rattle.standard.specs.Choice.{pick}
use Rattle.layout.specs.declared.Kind.{Kind}

-- The kind that a kind word names
unfoldable pub kind_of : ℕ → Option Kind
kind_of w =
    pick (eqb w 0) (Some Kind.Number)
    (pick (eqb w 1) (Some Kind.Boolean)
    (pick (eqb w 2) (Some Kind.FixedBytes)
    (pick (eqb w 3) (Some Kind.FreeBytes)
    (pick (eqb w 4) (Some Kind.BitVector)
    (pick (eqb w 5) (Some Kind.BitList)
    (pick (eqb w 6) (Some Kind.Container)
    (pick (eqb w 7) (Some Kind.Union)
    (pick (eqb w 8) (Some Kind.List)
    (pick (eqb w 9) (Some Kind.Vector)
    None)))))))))

-- Kinds 0 to 5: a type of such a kind names no other type
abbrev pub is_leaf : Kind → Bool
is_leaf Kind.Container = false
is_leaf Kind.Union = false
is_leaf Kind.List = false
is_leaf Kind.Vector = false
is_leaf k = true

-- Kind 0 is a number, kind 2 fixed bytes: "wrong length is 1", and no other rule
unfoldable pub is_plain : Kind → Bool
is_plain Kind.Number = true
is_plain Kind.FixedBytes = true
is_plain k = false

-- Kinds 6 and 7: a number of fields or options, and as many words
abbrev pub has_many : Kind → Bool
has_many Kind.Container = true
has_many Kind.Union = true
has_many k = false

-- Kinds 8 and 9: the type of the elements, and a number
abbrev pub has_element : Kind → Bool
has_element Kind.List = true
has_element Kind.Vector = true
has_element k = false
