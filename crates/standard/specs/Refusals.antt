-- Document 01, "Numbers given back": each refusal's number and its two numbers a and b, 0 where unnamed. Assumes nothing: these are definitions.
use Rattle.standard.specs.declared.Numbers.{Numbers}
use Rattle.standard.specs.declared.Refusal.{Refusal}
use Rattle.standard.specs.declared.Refusal.TheVariants.{InvalidByteLength, InvalidLengthPrefix, OutOfBoundsByte, OffsetIntoFixedPortion, OffsetSkipsVariableBytes, OffsetsAreDecreasing, OffsetOutOfBounds, UnionSelectorInvalid, OutOfBounds, MissingLengthInformation, ExcessBits, InvalidByteCount, BadBoolean, OverLimit, InvalidListFixedBytesLen, BadLayout, TooLarge, NoRoom, BadState, LimitsDiffer, BadValue, BuilderFull}

abbrev pub numbers_of_lem : Refusal → Numbers
numbers_of_lem (InvalidByteLength a b) = record { number = 1; a = a; b = b }
numbers_of_lem (InvalidLengthPrefix a b) = record { number = 2; a = a; b = b }
numbers_of_lem (OutOfBoundsByte a) = record { number = 3; a = a; b = 0 }
numbers_of_lem (OffsetIntoFixedPortion a) = record { number = 4; a = a; b = 0 }
numbers_of_lem (OffsetSkipsVariableBytes a) = record { number = 5; a = a; b = 0 }
numbers_of_lem (OffsetsAreDecreasing a) = record { number = 6; a = a; b = 0 }
numbers_of_lem (OffsetOutOfBounds a) = record { number = 7; a = a; b = 0 }
numbers_of_lem (UnionSelectorInvalid a) = record { number = 8; a = a; b = 0 }
numbers_of_lem (OutOfBounds a b) = record { number = 9; a = a; b = b }
numbers_of_lem MissingLengthInformation = record { number = 10; a = 0; b = 0 }
numbers_of_lem ExcessBits = record { number = 11; a = 0; b = 0 }
numbers_of_lem (InvalidByteCount a b) = record { number = 12; a = a; b = b }
numbers_of_lem (BadBoolean a) = record { number = 13; a = a; b = 0 }
numbers_of_lem (OverLimit a b) = record { number = 14; a = a; b = b }
numbers_of_lem (InvalidListFixedBytesLen a) = record { number = 15; a = a; b = 0 }
numbers_of_lem (BadLayout a) = record { number = 20; a = a; b = 0 }
numbers_of_lem TooLarge = record { number = 21; a = 0; b = 0 }
numbers_of_lem (NoRoom a b) = record { number = 22; a = a; b = b }
numbers_of_lem BadState = record { number = 23; a = 0; b = 0 }
numbers_of_lem LimitsDiffer = record { number = 24; a = 0; b = 0 }
numbers_of_lem (BadValue a b) = record { number = 25; a = a; b = b }
numbers_of_lem (BuilderFull a) = record { number = 26; a = a; b = 0 }
