-- A choice by a test. Assumes nothing: these are definitions.
use Rattle.std.specs.Prelude.{Bool, true, false}

-- the first where the test holds, the second where not
abbrev pub pick {ℓ} : {A : Type ℓ} → Bool → A → A → A
pick true a b = a
pick false a b = b

abbrev pub and_also : Bool → Bool → Bool
and_also true b = b
and_also false b = false

abbrev pub or_else : Bool → Bool → Bool
or_else true b = true
or_else false b = b
