-- The encoder's end: document 01, module 5. Assumes nothing: these are definitions.
use Rattle.std.specs.Prelude.{List, ℕ, ◌+◌, length, leb}
use Rattle.std.proofs.lemmas.List.Edits.{sets}
use Rattle.standard.specs.Choice.{pick}
use Rattle.standard.specs.declared.Refusal.TheVariants.{NoRoom, BadState}
use Rattle.encode.specs.Encoder.{holds}
use Rattle.encode.specs.declared.encoder.SszEncoder.{SszEncoder}
use Rattle.std.specs.declared.result.Result.{Result}
use Rattle.std.specs.declared.result.Result.TheVariants.{Ok, Err}
use Rattle.standard.specs.declared.Refusal.{Refusal}

-- "The end, 23 likewise, moves the second behind the first, else 22"
unfoldable pub finalize : SszEncoder → List ℕ → List ℕ → Result ℕ Refusal
finalize x f v =
    pick (holds x f v)
    (pick (leb (x.fixed_used + x.variable_used) (length f))
    (Ok (x.fixed_used + x.variable_used))
    (Err (NoRoom (x.fixed_used + x.variable_used) (length f))))
    (Err BadState)

-- The fixed buffer afterwards: the bytes stored from the place at on; on a refusal all is kept
abbrev pub finished : Result ℕ Refusal → List ℕ → ℕ → List ℕ → List ℕ
finished (Ok n) o at s = sets o at s
finished (Err r) o at s = o
