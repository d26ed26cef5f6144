-- A record and its parts. Assumes nothing: these are definitions.
use Rattle.std.specs.Prelude.{ℕ, zero, suc, ◌+◌, ◌*◌, ◌-◌, ◌/◌, List, [], eqb, leb, ltb, length, take, drop}
use Rattle.standard.specs.Bytes.{four, num_at, word_at}
use Rattle.standard.specs.Choice.{pick}
use Rattle.std.specs.declared.option.Option.{Option}
use Rattle.std.specs.declared.option.Option.TheVariants.{Some, None}

-- where the part that begins at p ends: a word for its length, and so many bytes
unfoldable pub end_of : List ℕ → ℕ → Option ℕ
end_of b p = pick (leb (p + 4 + four b p) (length b)) (Some (p + 4 + four b p)) None

abbrev pub go_on_lem : Option ℕ → (ℕ → (Option ℕ)) → Option ℕ
go_on_lem (Some p) f = f p
go_on_lem None f = None

-- where a row of n parts ends that begins at p
unfoldable pub row_end : List ℕ → ℕ → ℕ → Option ℕ
row_end b zero p = Some p
row_end b (suc n) p = go_on_lem (end_of b p) (row_end b n)

-- where the record ends that begins the bytes: behind its two words, and so many parts
unfoldable pub record_end_lem : List ℕ → Option ℕ
record_end_lem b = pick (ltb (length b) 8) None (row_end b (word_at b 1) 8)

abbrev pub reach : Option ℕ → ℕ → ℕ
reach (Some e) n = e
reach None n = n

-- where the part behind the one at p begins: nowhere but at the end, where that one is not all there
unfoldable pub next_of : List ℕ → ℕ → ℕ
next_of b p = reach (end_of b p) (length b)

unfoldable pub start_of : List ℕ → ℕ → ℕ
start_of b zero = 8
start_of b (suc i) = next_of b (start_of b i)

abbrev pub within : Option ℕ → List ℕ → ℕ → List ℕ
within (Some e) b p = take (e - (p + 4)) (drop (p + 4) b)
within None b p = []

-- the bytes of the part that begins at p
unfoldable pub body_of : List ℕ → ℕ → List ℕ
body_of b p = within (end_of b p) b p

-- a record's i-th part
abbrev pub part_of : List ℕ → ℕ → List ℕ
part_of b i = body_of b (start_of b i)

-- a number is eight bytes
abbrev pub number_of : List ℕ → Option ℕ
number_of l = pick (eqb (length l) 8) (Some (num_at 8 l 0)) None

-- the i-th number of a row, where the row has it whole
abbrev pub number_at : List ℕ → ℕ → ℕ
number_at l i = pick (ltb i (length l / 8)) (num_at 8 l (8 * i)) 0
