-- A refusal of the writer changes nothing of its buffer, whatever it is: by the cases of the table, of the form, of the length and of the room.
-- Assumes nothing.
use mathlib.Core.Path.{◌≡◌, refl}
use mathlib.Core.List.{List}
use Prim.Native.Nat.{ℕ}
use native.Mathlib.Omega.{arith}
use lib.ListN.{length}
use lib.Seq.{sets}
use lib.Dec.{ltb}
use Rattle.standard.specs.Choice.{pick}
use Rattle.standard.specs.declared.Refusal.{Refusal}
use Rattle.std.specs.declared.result.Result.{Result}
use Rattle.standard.specs.declared.Refusal.TheVariants.{TooLarge, NoRoom}
use Rattle.standard.proofs.Kept.{pick-kept}
use Rattle.layout.specs.Table.{table_of}
use Rattle.message.specs.Check.{message_type}
use Rattle.value.specs.Walk.{Walked, upto, wrong}
use Rattle.value.specs.Write.{write_item_lem, walk_all, written_of, stored_of, written_under, stored_under, write_message, written_bytes}
use Rattle.std.specs.declared.result.Result.TheVariants.{Ok, Err}

length_refused : {A : Type 0} (n : ℕ) (r : Refusal) → Ok n ≡ Err r → A
length_refused n r e = let z : ◌≡◌ {A = ℕ} 0 1 = cc in absurd (omega arith)

kept : (w : Walked) (x o : List ℕ) (r : Refusal) → written_of w x o ≡ Err r → stored_of w x o ≡ o
kept (wrong r') x o r e = refl
kept (upto i j) x o r e =
    let n = length x in
    let short = Err (NoRoom n (length o)) in
    let room = pick-kept (ltb (length o) n) short (Ok n) (Err r) o (sets o 0 x) (length_refused n r) in
    pick-kept (ltb 4294967295 n) (Err TooLarge) (pick (ltb (length o) n) short (Ok n)) (Err r)
    o (pick (ltb (length o) n) o (sets o 0 x)) room e

under-kept : (t : Result ℕ Refusal) (l c b o : List ℕ) (r : Refusal) → written_under t l c b o ≡ Err r → stored_under t l c b o ≡ o
under-kept (Err x) l c b o r e = refl
under-kept (Ok n) l c b o r e = kept (walk_all (message_type l n) c b) (write_item_lem (message_type l n) c b 0 0) o r e

pub write_refused : (l c b o : List ℕ) (r : Refusal) → write_message l c b o ≡ Err r → written_bytes l c b o ≡ o
unfolding write_message written_bytes
write_refused l c b o r e = under-kept (table_of l) l c b o r e
