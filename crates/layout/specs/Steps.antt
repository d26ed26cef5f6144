-- What the steps of the table check ask and give, one to another. Assumes nothing: these are definitions.
use Rattle.std.specs.Prelude.{ℕ, ◌+◌, ◌≤◌, ◌≡◌, List, ltb}
use Rattle.standard.specs.Choice.{pick}
use Rattle.standard.specs.Types.{Tys, head, head_all, heads, portion}
use Rattle.layout.specs.Tree.{leaf_with, tree_of, len_of, filled}
use Rattle.layout.specs.Table.{types_end_lem, table_of}
use Rattle.layout.specs.Legal.{Legal}
use Rattle.layout.specs.declared.Kind.{Kind}
use Rattle.layout.specs.declared.types.Body.{Body}
use Rattle.layout.specs.declared.types.Sizes.{Sizes}
use Rattle.std.specs.declared.result.Result.{Result}
use Rattle.std.specs.declared.result.Result.TheVariants.{Ok, Err}
use Rattle.standard.specs.declared.Refusal.{Refusal}

-- The first k types of the table l are legal, and their lengths stand in lens.
pub record Known (lens l : List ℕ) (k : ℕ) : Type 0 where
  pub found : lens ≡ filled l k
  pub legal : Legal l k
  pub few : k ≤ 64

-- The fixed length of a leaf
abbrev pub leaf_len_lem : Kind → ℕ → ℕ
leaf_len_lem k w = len_of (head (leaf_with k 0 w))

-- Where the words of some fields end, what the fields take of a fixed portion, and their length, where 0 stands for variable size; or the
-- first bad word
unfoldable pub sizes_of : Result ℕ Refusal → Tys → Result Sizes Refusal
sizes_of (Err r) ts = Err r
sizes_of (Ok e) ts = Ok (record { end = e; portion = portion (heads ts); length = len_of (head_all ts) })

-- r is the length of the type t, and lens' has it.
pub record Lengthened (l : List ℕ) (known t r : ℕ) (lens' : List ℕ) : Type 0 where
  pub gives : r ≡ len_of (head (tree_of l t))
  pub found : lens' ≡ filled l (pick (ltb t known) known (known + 1))

-- Where a body ends, with its type's length beside it
abbrev pub with_len : Result ℕ Refusal → ℕ → Result Body Refusal
with_len (Err r) n = Err r
with_len (Ok e) n = Ok (record { end = e; len = n })

-- r is where the n types end; if they do, lens' has their lengths.
pub record Typed (l : List ℕ) (n : ℕ) (r : Result ℕ Refusal) (lens' : List ℕ) : Type 0 where
  pub gives : r ≡ types_end_lem l n 0 (n + 1)
  pub found : (e : ℕ) → r ≡ Ok e → lens' ≡ filled l n

-- r is what the table l says; if it is legal, lens' has its types' lengths.
pub record Tabled (l : List ℕ) (r : Result ℕ Refusal) (lens' : List ℕ) : Type 0 where
  pub gives : r ≡ table_of l
  pub found : (n : ℕ) → r ≡ Ok n → lens' ≡ filled l n
