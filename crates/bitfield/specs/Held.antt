-- Held bitfields: what their bytes mean, and what is said first of them. Assumes nothing: these are definitions.
use Rattle.std.specs.Prelude.{List, ◌++◌, Bool, ⊤, ℕ, ◌+◌, max, eqb, leb, ltb, length, drop}
use Rattle.std.specs.declared.result.Result.{Result}
use Rattle.std.specs.declared.result.Result.TheVariants.{Ok, Err}
use Rattle.standard.specs.Bits.{packs, bits_of}
use Rattle.standard.specs.Bytes.{num}
use Rattle.standard.specs.Choice.{pick}
use Rattle.standard.specs.declared.Refusal.{Refusal}
use Rattle.standard.specs.declared.Refusal.TheVariants.{OutOfBounds, InvalidByteCount, OverLimit, NoRoom, BadState, LimitsDiffer}
use Rattle.standard.specs.declared.Refused.{Refused}
use Rattle.bitfield.specs.Body.{bytes_for_lem}
use Rattle.bitfield.specs.declared.Bitfield.{Bitfield}

-- The bits that a bitfield's bytes hold
unfoldable pub bits_in : List ℕ → ℕ → List Bool
bits_in bytes len = bits_of len (num bytes)

-- A bitfield by its parts
abbrev pub of_parts : {T : Type 0} → List ℕ → ℕ → ℕ → Bitfield T
of_parts bytes len n = record { bytes = bytes; len = len; n = n; behaviour = record {} }

-- Bits as they are held: in 256 bytes, with their number, under a limit
unfoldable pub held : {T : Type 0} → List Bool → ℕ → Bitfield T
held bs n = of_parts (packs 256 bs) (length bs) n

-- Raw bytes as they are written: at least one
unfoldable pub raw_bytes_lem : List Bool → List ℕ
raw_bytes_lem bs = packs (max 1 (bytes_for_lem (length bs))) bs

-- 14: a limit above 2,048
unfoldable pub limited : ℕ → Result ⊤ Refusal
limited n = pick (leb n 2048) (Ok tt) (Err (OverLimit n 2048))

-- 23 for a field that is not well formed, then 14
unfoldable pub one_told_lem : Bool → ℕ → Result ⊤ Refusal
one_told_lem good n = pick good (limited n) (Err BadState)

-- 23 for either field, 24 for unlike limits, then 14
unfoldable pub two_told_lem : Bool → ℕ → ℕ → Result ⊤ Refusal
two_told_lem good n m = pick good (pick (eqb n m) (limited n) (Err LimitsDiffer)) (Err BadState)

-- 9: no such bit
unfoldable pub inside : ℕ → ℕ → Result ⊤ Refusal
inside i len = pick (ltb i len) (Ok tt) (Err (OutOfBounds i len))

-- 9: more than there may be
unfoldable pub up_to : ℕ → ℕ → Result ⊤ Refusal
up_to k most = pick (leb k most) (Ok tt) (Err (OutOfBounds k most))

-- 12: a limit below the old one
unfoldable pub not_below : ℕ → ℕ → Result ⊤ Refusal
not_below m n = pick (leb n m) (Ok tt) (Err (InvalidByteCount m (n + 1)))

-- 22: no room
unfoldable pub room_for : ℕ → ℕ → Result ⊤ Refusal
room_for need room = pick (leb need room) (Ok tt) (Err (NoRoom need room))

-- One test after another
abbrev pub and_then : Result ⊤ Refusal → Result ⊤ Refusal → Result ⊤ Refusal
and_then (Ok _) next = next
and_then (Err x) next = Err x

-- Answers: what there is to say, unless a test refuses
abbrev pub answer : {A : Type 0} → Result ⊤ Refusal → A → Result A Refusal
answer (Ok _) x = Ok x
answer (Err y) x = Err y

-- The new bitfield, or the old one beside a refusal
abbrev pub made : {T : Type 0} → Result ⊤ Refusal → Bitfield T → Bitfield T → Result (Bitfield T) (Refused (Bitfield T))
made (Ok _) old new = Ok new
made (Err x) old new = Err (record { state = old; refusal = x })

-- A buffer afterwards: bytes at its front and the rest kept, or as it was
abbrev pub written : Result ⊤ Refusal → List ℕ → List ℕ → List ℕ
written (Ok _) x out = x ++ drop (length x) out
written (Err y) x out = out
