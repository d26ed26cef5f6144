-- How a reader goes on: behind an item it stands at the next one; past the last it tells 23, and stays where it is. Assumes nothing.
use mathlib.Core.Path.{◌≡◌, ap}
use Prim.Native.Nat.{ℕ, ◌+◌, ◌≤◌}
use mathlib.Core.List.{List}
use borrow.Author.Tests.{le-ltb}
use denote.Ref.{Bor}
use Rattle.standard.specs.declared.Refusal.{Refusal}
use Rattle.standard.specs.declared.Refusal.TheVariants.{BadState}
use Rattle.decode.specs.Reader.{item_told_lem, item_of}
use Rattle.decode.specs.declared.decoder.SszDecoder.{SszDecoder}
use Rattle.reader.specs.Walked.{next_after, reader_at, told_next, item_next, reader_after}
use Rattle.reader.specs.declared.SszReader.{SszReader}
use Rattle.std.specs.declared.result.Result.{Result}
use Rattle.std.specs.declared.result.Result.TheVariants.{Ok, Err}
use Rattle.std.specs.Prelude.{⊤}

pub moves : (r : SszReader) → told_next r ≡ Ok tt → reader_after r ≡ reader_at r.bytes r.ranges (r.next + 1)
moves r e = ap (λ (t : Result ⊤ Refusal). reader_at r.bytes r.ranges (next_after t r.next)) e

-- So the second of two steps hands out the item behind the first one's.
pub then_item : (b : Bor (List ℕ)) (d : SszDecoder) (n : ℕ) → told_next (reader_at b d n) ≡ Ok tt
    → item_next (reader_after (reader_at b d n)) ≡ item_of d (n + 1) b.now
then_item b d n e = ap item_next (moves (reader_at b d n) e)

pub stays : (r : SszReader) (x : Refusal) → told_next r ≡ Err x → reader_after r ≡ r
stays r x e = ap (λ (t : Result ⊤ Refusal). reader_at r.bytes r.ranges (next_after t r.next)) e

pub past-last : (r : SszReader) → r.ranges.count ≤ r.next → told_next r ≡ Err BadState
unfolding item_told_lem
past-last r h = rw (le-ltb _ _ h)
