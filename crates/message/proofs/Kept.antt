-- A refusal of the listing changes nothing of its buffer, whatever it is: by the cases of the check's answer, then of the room. Assumes nothing.
-- (Of the unfolding `unfold-refused` says it, in UnfoldTheorem.)
use mathlib.Core.Path.{◌≡◌, refl}
use mathlib.Core.List.{List}
use Prim.Native.Nat.{ℕ, ◌/◌}
use native.Mathlib.Omega.{arith}
use lib.ListN.{length}
use lib.Seq.{sets}
use lib.Dec.{ltb}
use Rattle.standard.specs.Types.{Ty}
use Rattle.standard.specs.declared.Refusal.TheVariants.{NoRoom}
use Rattle.standard.proofs.Kept.{pick-kept}
use Rattle.layout.specs.Table.{table_of}
use Rattle.message.specs.Listing.{list_item_lem}
use Rattle.message.specs.Check.{check_message, type_under, listed_of, records_of, list_message, listed_records}
use Rattle.std.specs.declared.result.Result.{Result}
use Rattle.std.specs.declared.result.Result.TheVariants.{Ok, Err}
use Rattle.message.specs.declared.RefusedAt.{RefusedAt}
use Rattle.message.specs.declared.Counts.{Counts}
use Rattle.message.specs.Read.{located}

records_refused : {A : Type 0} (n : ℕ) (r : RefusedAt) → Ok n ≡ Err r → A
records_refused n r e = let z : ◌≡◌ {A = ℕ} 0 1 = cc in absurd (omega arith)

kept : (x : Result Counts RefusedAt) (y : Ty) (m o : List ℕ) (r : RefusedAt) → listed_of x o ≡ Err r → records_of x y m o ≡ o
kept (Err r') y m o r e = refl
kept (Ok c) y m o r e =
    pick-kept (ltb (length o / 12) c.records) (Err (located (NoRoom c.records (length o / 12)) 0 0)) (Ok c.records) (Err r)
    o (sets o 0 (list_item_lem y m 0)) (records_refused c.records r) e

pub list_refused : (l m o : List ℕ) (r : RefusedAt) → list_message l m o ≡ Err r → listed_records l m o ≡ o
unfolding list_message listed_records
list_refused l m o r e = kept (check_message l m) (type_under (table_of l) l) m o r e
