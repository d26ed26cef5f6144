-- What a call on a lent bitfield leaves, as the answer that the method by value gives: the bitfield behind the reference, and what is told.
-- Assumes nothing: these are definitions.
use Rattle.std.specs.Prelude.{⊤}
use Rattle.std.specs.declared.result.Result.{Result}
use Rattle.std.specs.declared.result.Result.TheVariants.{Ok, Err}
use Rattle.standard.specs.declared.Refusal.{Refusal}
use Rattle.bitfield.specs.Bitfields.{Made}
use Rattle.bitfield.specs.declared.Bitfield.{Bitfield}

abbrev pub left : {T : Type 0} → Bitfield T → Result ⊤ Refusal → Made T
left b (Ok _) = Ok b
left b (Err x) = Err (record { state = b; refusal = x })
