-- The calls: "Check, listing and unfolding: 20, 21, rules of reading, 22." Assumes nothing: these are definitions.
use Rattle.std.specs.Prelude.{ℕ, ◌-◌, ◌/◌, List, length, ltb}
use Rattle.std.proofs.lemmas.List.Edits.{sets}
use Rattle.standard.specs.Choice.{pick}
use Rattle.standard.specs.Types.{Ty}
use Rattle.standard.specs.declared.Refusal.TheVariants.{TooLarge, NoRoom}
use Rattle.layout.specs.Tree.{tree_of}
use Rattle.layout.specs.Table.{table_of}
use Rattle.message.specs.Read.{read_item}
use Rattle.message.specs.Listing.{list_item_lem}
use Rattle.standard.specs.declared.Refusal.{Refusal}
use Rattle.std.specs.declared.result.Result.{Result}
use Rattle.std.specs.declared.result.Result.TheVariants.{Ok, Err}
use Rattle.message.specs.declared.RefusedAt.{RefusedAt}
use Rattle.message.specs.declared.Counts.{Counts}
use Rattle.message.specs.Read.{located}

-- "The message has the type T-1"
abbrev pub message_type : List ℕ → ℕ → Ty
message_type l n = tree_of l (n - 1)

-- 20, then 21 "by length alone", then the rules of reading
abbrev pub under_table_lem : Result ℕ Refusal → List ℕ → List ℕ → Result Counts RefusedAt
under_table_lem (Err r) l m = Err (located r 0 0)
under_table_lem (Ok n) l m = pick (ltb 4294967295 (length m)) (Err (located TooLarge 0 0)) (read_item (message_type l n) m 0)

unfoldable pub check_message : List ℕ → List ℕ → Result Counts RefusedAt
check_message l m = under_table_lem (table_of l) l m

-- "22 is given exactly when all else is well and the result is longer than the room .. for the listing it counts whole records"
abbrev pub listed_of : Result Counts RefusedAt → List ℕ → Result ℕ RefusedAt
listed_of (Err r) o = Err r
listed_of (Ok c) o = pick (ltb (length o / 12) c.records) (Err (located (NoRoom c.records (length o / 12)) 0 0)) (Ok c.records)

-- "Success fills exactly the result's length and keeps the rest"; a refusal changes nothing
abbrev pub records_of : Result Counts RefusedAt → Ty → List ℕ → List ℕ → List ℕ
records_of (Err r) x m o = o
records_of (Ok c) x m o = pick (ltb (length o / 12) c.records) o (sets o 0 (list_item_lem x m 0))

unfoldable pub list_message : List ℕ → List ℕ → List ℕ → Result ℕ RefusedAt
list_message l m o = listed_of (check_message l m) o

-- The type of the message, where the table has one
abbrev pub type_under : Result ℕ Refusal → List ℕ → Ty
type_under (Err r) l = tree_of l 0
type_under (Ok n) l = message_type l n

unfoldable pub listed_records : List ℕ → List ℕ → List ℕ → List ℕ
listed_records l m o = records_of (check_message l m) (type_under (table_of l) l) m o
