-- What a reader over lent bytes hands out, and the reader that comes after it. Assumes nothing: these are definitions.
use Rattle.std.specs.Prelude.{◌≡◌, ⊤, ℕ, ◌+◌, List, length}
use Rattle.std.specs.Borrow.{Bor}
use Rattle.std.specs.declared.result.Result.{Result}
use Rattle.std.specs.declared.result.Result.TheVariants.{Ok, Err}
use Rattle.standard.specs.declared.Refusal.{Refusal}
use Rattle.standard.specs.declared.Refused.{Refused}
use Rattle.decode.specs.declared.decoder.SszDecoder.{SszDecoder}
use Rattle.decode.specs.Reader.{item_told_lem, item_of}
use Rattle.reader.specs.declared.SszReader.{SszReader}
use Rattle.reader.specs.declared.Taken.{Taken}

-- The number behind an item that there is
abbrev pub next_after : Result ⊤ Refusal → ℕ → ℕ
next_after (Ok tt) n = n + 1
next_after (Err r) n = n

abbrev pub step_told : Result ⊤ Refusal → ℕ → Result ℕ (Refused ℕ)
step_told (Ok tt) n = Ok (n + 1)
step_told (Err r) n = Err (record { state = n; refusal = r })

abbrev pub step_after_lem : SszDecoder → ℕ → ℕ → Result ℕ (Refused ℕ)
step_after_lem d n len = step_told (item_told_lem d n len) n

abbrev pub reader_at : Bor (List ℕ) → SszDecoder → ℕ → SszReader
reader_at b d n = record { bytes = b; ranges = d; next = n }

-- "hands out the next item as a part of the slice and the reader that comes after it; past the last it answers 23"
abbrev pub told_next : SszReader → Result ⊤ Refusal
told_next r = item_told_lem r.ranges r.next (length r.bytes.now)

abbrev pub item_next : SszReader → List ℕ
item_next r = item_of r.ranges r.next r.bytes.now

abbrev pub reader_after : SszReader → SszReader
reader_after r = record { bytes = r.bytes; ranges = r.ranges; next = next_after (told_next r) r.next }

-- What is answered of a reader: the item and the reader after it, or what is wrong and the reader as it was
abbrev pub Decoded : SszReader → Result Taken (Refused SszReader) → Type 0
Decoded r (Ok t) = (told_next r ≡ Ok tt) × ((t.item.now ≡ item_next r) × (t.rest ≡ reader_after r))
Decoded r (Err e) = (told_next r ≡ Err e.refusal) × (e.state ≡ r)
