-- The split of a union's bytes: document 01, "Rules of reading". Assumes nothing: these are definitions.
use Rattle.std.specs.Prelude.{List, ℕ, length, get_or, drop, eqb, leb}
use Rattle.standard.specs.Choice.{pick}
use Rattle.standard.specs.declared.Refusal.TheVariants.{OutOfBoundsByte, UnionSelectorInvalid}
use Rattle.std.specs.declared.result.Result.{Result}
use Rattle.std.specs.declared.result.Result.TheVariants.{Ok, Err}
use Rattle.standard.specs.declared.Refusal.{Refusal}
use Rattle.decode.specs.declared.union_selector.UnionSelector.{UnionSelector}

-- "Legal selectors are 0 to 127": else 8 with the selector
abbrev pub selector_of : ℕ → Result UnionSelector Refusal
selector_of s = pick (leb s 127) (Ok (record { 0 = s })) (Err (UnionSelectorInvalid s))

-- "no bytes is 3 with 0"
abbrev pub split_union : List ℕ → Result UnionSelector Refusal
split_union b = pick (eqb (length b) 0) (Err (OutOfBoundsByte 0)) (selector_of (get_or b 0 0))

-- What stands behind the selector
abbrev pub union_body_lem : List ℕ → List ℕ
union_body_lem b = drop 1 b
