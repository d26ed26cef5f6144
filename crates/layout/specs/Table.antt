-- The check of a layout table: document 01, "Order of the check". Assumes nothing: these are definitions.
use Rattle.std.specs.Prelude.{ℕ, zero, suc, ◌+◌, ◌*◌, ◌/◌, ◌%◌, List, Bool, true, false, length, get_or, replicate, eqb, ltb, leb}
use Rattle.standard.specs.Choice.{pick, and_also, or_else}
use Rattle.standard.specs.Bytes.{word_at}
use Rattle.standard.specs.Types.{boolean, is_width, head, width, portion, heads}
use Rattle.standard.specs.declared.Refusal.TheVariants.{BadLayout}
use Rattle.layout.specs.Kinds.{kind_of}
use Rattle.layout.specs.Tree.{fields, trees, filled}
use Rattle.layout.specs.declared.Kind.{Kind}
use Rattle.std.specs.declared.option.Option.{Option}
use Rattle.std.specs.declared.option.Option.TheVariants.{Some, None}
use Rattle.std.specs.declared.result.Result.{Result}
use Rattle.std.specs.declared.result.Result.TheVariants.{Ok, Err}
use Rattle.std.specs.Prelude.{⊤}
use Rattle.standard.specs.declared.Refusal.{Refusal}

abbrev pub onward : Result ℕ Refusal → (ℕ → Result ℕ Refusal) → Result ℕ Refusal
onward (Err r) k = Err r
onward (Ok e) k = k e

-- How many whole words there are: "a missing word has the table's length as its number"
unfoldable pub count : List ℕ → ℕ
count l = length l / 4

-- "A body names only types of a lower number"; an option may be without body
abbrev pub may_name_lem : ℕ → ℕ → Bool → Bool
may_name_lem w t none = or_else (ltb w t) (and_also none (eqb w 4294967295))

-- The n words from at on are there, and name types below t, or no body where that may be
unfoldable pub refs : List ℕ → ℕ → Bool → ℕ → ℕ → Result ℕ Refusal
refs l t none at zero = Ok at
refs l t none at (suc n) =
    pick (ltb at (count l))
    (pick (may_name_lem (word_at l at) t none) (refs l t none (at + 1) n) (Err (BadLayout at)))
    (Err (BadLayout (count l)))

-- A number of 1 to most at the word behind at
unfoldable pub counted : List ℕ → ℕ → ℕ → Result ℕ Refusal
counted l at most =
    pick (ltb (at + 1) (count l))
    (pick (and_also (ltb 0 (word_at l (at + 1))) (leb (word_at l (at + 1)) most)) (Ok (word_at l (at + 1))) (Err (BadLayout (at + 1))))
    (Err (BadLayout (count l)))

-- Where such a number, and as many references, end
unfoldable pub many : List ℕ → ℕ → ℕ → Bool → ℕ → Result ℕ Refusal
many l t at none most = onward (counted l at most) (λ n. refs l t none (at + 2) n)

-- "A container's fixed portion .. is at most 4,294,967,295", "charged to the kind word"
unfoldable pub container_end_lem : List ℕ → ℕ → ℕ → Result ℕ Refusal
container_end_lem l t at =
    onward (many l t at false 64)
    (λ e. pick (leb (portion (heads (fields l (trees l t) (at + 2) (word_at l (at + 1))))) 4294967295) (Ok e) (Err (BadLayout at)))

-- Where a list ends: its element's type, and any greatest count
unfoldable pub list_end_lem : List ℕ → ℕ → ℕ → Result ℕ Refusal
list_end_lem l t at = onward (refs l t false (at + 1) 1) (λ e. pick (ltb e (count l)) (Ok (e + 1)) (Err (BadLayout (count l))))

-- Where a vector ends: its element's type, and a count of at least 1. "Both vectors have the limit of a container's fixed portion"
unfoldable pub vector_end_lem : List ℕ → ℕ → ℕ → Result ℕ Refusal
vector_end_lem l t at =
    onward (refs l t false (at + 1) 1) (λ e.
    onward (counted l (at + 1) 4294967295) (λ n.
    pick (leb (n * width (head (get_or (trees l t) (word_at l (at + 1)) (boolean 0)))) 4294967295) (Ok (at + 3)) (Err (BadLayout at))))

-- What a leaf's word must be: a width; at least 1 for fixed bytes and bit vectors; any limit
abbrev pub leaf_word : Kind → ℕ → Bool
leaf_word Kind.Number w = is_width w
leaf_word Kind.FixedBytes w = ltb 0 w
leaf_word Kind.BitVector w = ltb 0 w
leaf_word k w = true

-- Where a leaf of the kind, with one word, ends
unfoldable pub leaf_end_lem : Kind → List ℕ → ℕ → Result ℕ Refusal
leaf_end_lem k l at =
    pick (ltb (at + 1) (count l))
    (pick (leaf_word k (word_at l (at + 1))) (Ok (at + 2)) (Err (BadLayout (at + 1))))
    (Err (BadLayout (count l)))

-- Where the body of type t ends, whose kind word is the word at; one that names no kind is bad
abbrev pub kind_end : Option Kind → List ℕ → ℕ → ℕ → Result ℕ Refusal
kind_end None l t at = Err (BadLayout at)
kind_end (Some Kind.Container) l t at = container_end_lem l t at
kind_end (Some Kind.Union) l t at = many l t at true 128
kind_end (Some Kind.List) l t at = list_end_lem l t at
kind_end (Some Kind.Vector) l t at = vector_end_lem l t at
kind_end (Some Kind.Boolean) l t at = Ok (at + 1)
kind_end (Some k) l t at = leaf_end_lem k l at

-- Where the body of type t ends, which starts at the word at
unfoldable pub body_end_lem : List ℕ → ℕ → ℕ → Result ℕ Refusal
body_end_lem l t at = pick (ltb at (count l)) (kind_end (kind_of (word_at l at)) l t at) (Err (BadLayout (count l)))

-- Where the k types from t on end, the first of which starts at the word at: "for each type its start word, kind, further words"
unfoldable pub types_end_lem : List ℕ → ℕ → ℕ → ℕ → Result ℕ Refusal
types_end_lem l zero t at = Ok at
types_end_lem l (suc k) t at =
    pick (eqb (word_at l (1 + t)) at)
    (onward (body_end_lem l t at) (λ e. types_end_lem l k (t + 1) e))
    (Err (BadLayout (1 + t)))

-- "A cut last layout word is 20 at it, first"; "word 0; presence of words 1 to T": the number of types, or the first bad word
unfoldable pub types_of : List ℕ → Result ℕ Refusal
types_of l =
    pick (eqb (length l % 4) 0)
    (pick (ltb 0 (count l))
    (pick (and_also (ltb 0 (word_at l 0)) (leb (word_at l 0) 64))
    (pick (ltb (word_at l 0) (count l)) (Ok (word_at l 0)) (Err (BadLayout (count l))))
    (Err (BadLayout 0)))
    (Err (BadLayout 0)))
    (Err (BadLayout (count l)))

-- "then for each type ..; then leftover words": the number of types of a legal table, or the first bad word
unfoldable pub table_of : List ℕ → Result ℕ Refusal
table_of l =
    onward (types_of l) (λ n.
    onward (types_end_lem l n 0 (n + 1)) (λ e.
    pick (eqb e (count l)) (Ok n) (Err (BadLayout e))))

-- The types' fixed lengths where the table is legal, and nothing else
abbrev pub lengths_of : Result ℕ Refusal → List ℕ → List ℕ
lengths_of (Err r) l = replicate 64 0
lengths_of (Ok n) l = filled l n

abbrev pub told_of : Result ℕ Refusal → Result ⊤ Refusal
told_of (Err r) = Err r
told_of (Ok n) = Ok tt
