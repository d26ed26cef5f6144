-- The numbers that are given back lose nothing of a refusal: it is had back from them, so a promise that names the case names its number, a
-- and b, and one that names these names the case. Assumes nothing.
use mathlib.Core.Path.{◌≡◌, refl, sym, ap, ◌∙◌}
use Prim.Native.Nat.{ℕ, ◌≤◌}
use native.Mathlib.Omega.{arith}
use borrow.Author.Tests.{ne_eqb}
use lib.Dec.{eqb}
use Rattle.standard.specs.Choice.{pick}
use Rattle.standard.specs.Refusals.{numbers_of_lem}
use Rattle.standard.specs.declared.Numbers.{Numbers}
use Rattle.standard.specs.declared.Refusal.{Refusal}
use Rattle.standard.specs.declared.Refusal.TheVariants.{InvalidByteLength, InvalidLengthPrefix, OutOfBoundsByte, OffsetIntoFixedPortion, OffsetSkipsVariableBytes, OffsetsAreDecreasing, OffsetOutOfBounds, UnionSelectorInvalid, OutOfBounds, MissingLengthInformation, ExcessBits, InvalidByteCount, BadBoolean, OverLimit, InvalidListFixedBytesLen, BadLayout, TooLarge, NoRoom, BadState, LimitsDiffer, BadValue, BuilderFull}
use Rattle.std.specs.declared.result.Result.{Result}
use Rattle.std.specs.declared.result.Result.TheVariants.{Ok, Err}
use Rattle.std.specs.Prelude.{⊤}

-- The refusal of a number, a and b. Any other number is read as 26, which no statement below relies on.
abbrev pub refusal_of : Numbers → Refusal
refusal_of n =
    let a = n.a in
    let b = n.b in
    let is = eqb n.number in
    pick (is 1) (InvalidByteLength a b)
    (pick (is 2) (InvalidLengthPrefix a b)
    (pick (is 3) (OutOfBoundsByte a)
    (pick (is 4) (OffsetIntoFixedPortion a)
    (pick (is 5) (OffsetSkipsVariableBytes a)
    (pick (is 6) (OffsetsAreDecreasing a)
    (pick (is 7) (OffsetOutOfBounds a)
    (pick (is 8) (UnionSelectorInvalid a)
    (pick (is 9) (OutOfBounds a b)
    (pick (is 10) MissingLengthInformation
    (pick (is 11) ExcessBits
    (pick (is 12) (InvalidByteCount a b)
    (pick (is 13) (BadBoolean a)
    (pick (is 14) (OverLimit a b)
    (pick (is 15) (InvalidListFixedBytesLen a)
    (pick (is 20) (BadLayout a)
    (pick (is 21) TooLarge
    (pick (is 22) (NoRoom a b)
    (pick (is 23) BadState
    (pick (is 24) LimitsDiffer
    (pick (is 25) (BadValue a b) (BuilderFull a)))))))))))))))))))))

pub refusal_back : (r : Refusal) → refusal_of (numbers_of_lem r) ≡ r
refusal_back (InvalidByteLength a b) = refl
refusal_back (InvalidLengthPrefix a b) = refl
refusal_back (OutOfBoundsByte a) = refl
refusal_back (OffsetIntoFixedPortion a) = refl
refusal_back (OffsetSkipsVariableBytes a) = refl
refusal_back (OffsetsAreDecreasing a) = refl
refusal_back (OffsetOutOfBounds a) = refl
refusal_back (UnionSelectorInvalid a) = refl
refusal_back (OutOfBounds a b) = refl
refusal_back MissingLengthInformation = refl
refusal_back ExcessBits = refl
refusal_back (InvalidByteCount a b) = refl
refusal_back (BadBoolean a) = refl
refusal_back (OverLimit a b) = refl
refusal_back (InvalidListFixedBytesLen a) = refl
refusal_back (BadLayout a) = refl
refusal_back TooLarge = refl
refusal_back (NoRoom a b) = refl
refusal_back BadState = refl
refusal_back LimitsDiffer = refl
refusal_back (BadValue a b) = refl
refusal_back (BuilderFull a) = refl

-- Two refusals with the same number, a and b are one.
pub numbers_only : (r s : Refusal) → numbers_of_lem r ≡ numbers_of_lem s → r ≡ s
numbers_only r s e = sym (refusal_back r) ∙ (ap refusal_of e ∙ refusal_back s)

-- To name the case is to name the numbers, and the other way round.
pub case_iff : (r s : Refusal) → (r ≡ s → numbers_of_lem r ≡ numbers_of_lem s) × (numbers_of_lem r ≡ numbers_of_lem s → r ≡ s)
case_iff r s = (ap numbers_of_lem, numbers_only r s)

-- No refusal has the number 0.
pub number-some : (r : Refusal) → 1 ≤ (numbers_of_lem r).number
number-some (InvalidByteLength a b) = omega arith
number-some (InvalidLengthPrefix a b) = omega arith
number-some (OutOfBoundsByte a) = omega arith
number-some (OffsetIntoFixedPortion a) = omega arith
number-some (OffsetSkipsVariableBytes a) = omega arith
number-some (OffsetsAreDecreasing a) = omega arith
number-some (OffsetOutOfBounds a) = omega arith
number-some (UnionSelectorInvalid a) = omega arith
number-some (OutOfBounds a b) = omega arith
number-some MissingLengthInformation = omega arith
number-some ExcessBits = omega arith
number-some (InvalidByteCount a b) = omega arith
number-some (BadBoolean a) = omega arith
number-some (OverLimit a b) = omega arith
number-some (InvalidListFixedBytesLen a) = omega arith
number-some (BadLayout a) = omega arith
number-some TooLarge = omega arith
number-some (NoRoom a b) = omega arith
number-some BadState = omega arith
number-some LimitsDiffer = omega arith
number-some (BadValue a b) = omega arith
number-some (BuilderFull a) = omega arith

-- What a call tells, as numbers: "on success all 0"
abbrev pub told_numbers : Result ⊤ Refusal → Numbers
told_numbers (Ok tt) = record { number = 0; a = 0; b = 0 }
told_numbers (Err r) = numbers_of_lem r

-- The other way: 0 tells that all is fine
abbrev pub told_from : Numbers → Result ⊤ Refusal
told_from n = pick (eqb n.number 0) (Ok tt) (Err (refusal_of n))

pub told_back : (t : Result ⊤ Refusal) → told_from (told_numbers t) ≡ t
told_back (Ok tt) = refl
told_back (Err r) =
    ap (λ c. pick c (Ok tt) (Err (refusal_of (numbers_of_lem r))))
    (ne_eqb (numbers_of_lem r).number 0 (λ (e : (numbers_of_lem r).number ≡ 0). omega (arith, number-some r)))
    ∙ ap Err (refusal_back r)

-- Two calls that tell the same numbers tell the same.
pub told_only : (t u : Result ⊤ Refusal) → told_numbers t ≡ told_numbers u → t ≡ u
told_only t u e = sym (told_back t) ∙ (ap told_from e ∙ told_back u)

-- Equal number, a and b are equal numbers.
pub numbers-same : (m n : Numbers) → m.number ≡ n.number → m.a ≡ n.a → m.b ≡ n.b → m ≡ n
numbers-same m n e f g =
    ap (λ (k : ℕ). record { number = k; a = m.a; b = m.b }) e
    ∙ (ap (λ (k : ℕ). record { number = n.number; a = k; b = m.b }) f ∙ ap (λ (k : ℕ). record { number = n.number; a = n.a; b = k }) g)
