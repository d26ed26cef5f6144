-- The C calls: document 01, "Changes of shape". Assumes nothing: these are definitions.
use Rattle.std.specs.Prelude.{ℕ, List, eqb, ltb}
use Rattle.standard.specs.Choice.{pick}
use Rattle.standard.specs.Refusals.{numbers_of_lem}
use Rattle.standard.specs.declared.Numbers.{Numbers}
use Rattle.message.specs.Check.{check_message, list_message, listed_records}
use Rattle.message.specs.declared.Counts.{Counts}
use Rattle.message.specs.declared.RefusedAt.{RefusedAt}
use Rattle.std.specs.declared.result.Result.{Result}
use Rattle.std.specs.declared.result.Result.TheVariants.{Ok, Err}

-- "a last argument 0 to 4 picks which is returned: number, a, b, type, start"
abbrev pub which_of_lem : ℕ → Numbers → ℕ → ℕ → ℕ
which_of_lem w n t s = pick (eqb w 0) n.number (pick (eqb w 1) n.a (pick (eqb w 2) n.b (pick (eqb w 3) t s)))

-- "on success all 0"
abbrev pub answer_number : Result Counts RefusedAt → ℕ → ℕ
answer_number (Ok c) w = 0
answer_number (Err e) w = which_of_lem w (numbers_of_lem e.refusal) e.type_number e.start

-- "but a is the listing's count"
abbrev pub listed_number : Result ℕ RefusedAt → ℕ → ℕ
listed_number (Ok n) w = pick (eqb w 1) n 0
listed_number (Err e) w = which_of_lem w (numbers_of_lem e.refusal) e.type_number e.start

-- "above 4 gives 0 and writes nothing"
abbrev pub check_number : List ℕ → List ℕ → ℕ → ℕ
check_number l m w = pick (ltb 4 w) 0 (answer_number (check_message l m) w)

abbrev pub list_number : List ℕ → List ℕ → List ℕ → ℕ → ℕ
list_number l m o w = pick (ltb 4 w) 0 (listed_number (list_message l m o) w)

abbrev pub list_buffer : List ℕ → List ℕ → List ℕ → ℕ → List ℕ
list_buffer l m o w = pick (ltb 4 w) o (listed_records l m o)
