-- The encoder: document 01, module 5. Assumes nothing: these are definitions.
use Rattle.std.specs.Prelude.{List, [], Bool, true, false, ℕ, ◌+◌, length, leb}
use Rattle.std.proofs.lemmas.List.Edits.{sets}
use Rattle.standard.specs.Choice.{pick, and_also}
use Rattle.standard.specs.Bytes.{le}
use Rattle.standard.specs.declared.Refusal.TheVariants.{TooLarge, NoRoom, BadState}
use Rattle.encode.specs.declared.encoder.SszEncoder.{SszEncoder}
use Rattle.std.specs.declared.result.Result.{Result}
use Rattle.std.specs.declared.result.Result.TheVariants.{Ok, Err}
use Rattle.standard.specs.declared.Refusal.{Refusal}

-- A fixed portion of n bytes, and nothing used
abbrev pub container : ℕ → SszEncoder
container n = record { offset = n; fixed_used = 0; variable_used = 0 }

-- The encoder with so many bytes of each buffer used
abbrev pub after : SszEncoder → ℕ → ℕ → SszEncoder
after x n m = record { offset = x.offset; fixed_used = n; variable_used = m }

-- "23 if a buffer has less than is used": else the answer that follows
abbrev pub holds : SszEncoder → List ℕ → List ℕ → Bool
holds x f v = and_also (leb x.fixed_used (length f)) (leb x.variable_used (length v))

-- An item of fixed size: 22 (bytes used after it, room)
unfoldable pub append_fixed_lem : SszEncoder → List ℕ → List ℕ → List ℕ → Result SszEncoder Refusal
append_fixed_lem x s f v =
    pick (holds x f v)
    (pick (leb (x.fixed_used + length s) (length f))
    (Ok (after x (x.fixed_used + length s) x.variable_used))
    (Err (NoRoom (x.fixed_used + length s) (length f))))
    (Err BadState)

-- An item of variable size: "21 if the offset to write (fixed size plus variable bytes used) is 2^32 or more", then 22, "the fixed one first"
unfoldable pub append_variable_lem : SszEncoder → List ℕ → List ℕ → List ℕ → Result SszEncoder Refusal
append_variable_lem x s f v =
    pick (holds x f v)
    (pick (leb (x.offset + x.variable_used) 4294967295)
    (pick (leb (x.fixed_used + 4) (length f))
    (pick (leb (x.variable_used + length s) (length v))
    (Ok (after x (x.fixed_used + 4) (x.variable_used + length s)))
    (Err (NoRoom (x.variable_used + length s) (length v))))
    (Err (NoRoom (x.fixed_used + 4) (length f))))
    (Err TooLarge))
    (Err BadState)

-- A buffer afterwards: the bytes stored from the place at on, the rest kept; on a refusal all is kept
abbrev pub appended : Result SszEncoder Refusal → List ℕ → ℕ → List ℕ → List ℕ
appended (Ok y) o at s = sets o at s
appended (Err r) o at s = o

-- Either kind: what is answered, and what goes into each buffer
abbrev pub append : Bool → SszEncoder → List ℕ → List ℕ → List ℕ → Result SszEncoder Refusal
append true x s f v = append_fixed_lem x s f v
append false x s f v = append_variable_lem x s f v

abbrev pub front_of : Bool → SszEncoder → List ℕ → List ℕ
front_of true x s = s
front_of false x s = le 4 (x.offset + x.variable_used)

abbrev pub back_of : Bool → List ℕ → List ℕ
back_of true s = []
back_of false s = s
