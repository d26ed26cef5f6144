-- What the laws on refusals share: a choice that gives a refusal has kept the buffer, if each of its two sides has. Assumes nothing.
use mathlib.Core.Path.{◌≡◌, refl}
use mathlib.Core.Bool.{Bool, true, false}
use Rattle.standard.specs.Choice.{pick}

-- The answer and the buffer are chosen by the same test, and its first side refuses and keeps the buffer o.
pub pick-kept : {A B : Type 0} (c : Bool) (x y r : A) (o p : B) → (y ≡ r → p ≡ o) → pick c x y ≡ r → pick c o p ≡ o
pick-kept true x y r o p k e = refl
pick-kept false x y r o p k e = k e

-- What holds of both sides holds of the choice.
pub pick-both : {A : Type 0} (P : A → Type 0) (c : Bool) (x y : A) → P x → P y → P (pick c x y)
pick-both P true x y h k = h
pick-both P false x y h k = k
