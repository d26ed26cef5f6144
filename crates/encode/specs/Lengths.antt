-- The bytes of a length. Assumes nothing: these are definitions.
use Rattle.std.specs.Prelude.{List, ℕ, leb}
use Rattle.std.specs.declared.result.Result.{Result}
use Rattle.std.specs.declared.result.Result.TheVariants.{Ok, Err}
use Rattle.standard.specs.Choice.{pick}
use Rattle.standard.specs.Bytes.{le}
use Rattle.standard.specs.declared.Refusal.{Refusal}
use Rattle.standard.specs.declared.Refusal.TheVariants.{TooLarge}

-- "An offset is four bytes, little-endian"; "`encode_length` above" 4,294,967,295 "is 21"
abbrev pub encode_length_lem : ℕ → Result (List ℕ) Refusal
encode_length_lem n = pick (leb n 4294967295) (Ok (le 4 n)) (Err TooLarge)
