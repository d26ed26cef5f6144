-- What it says that a test did not refuse. Assumes nothing.
use mathlib.Core.Path.{◌≡◌, refl}
use mathlib.Core.List.{List}
use mathlib.Core.Bool.{Bool, true, false}
use Prim.Native.Nat.{ℕ, ◌<◌, ◌≤◌}
use native.Mathlib.Omega.{arith}
use borrow.Author.Tests.{leb-true, ltb-true}
use lib.Dec.{leb, ltb}
use Rattle.standard.specs.Choice.{pick}
use Rattle.standard.specs.declared.Refusal.{Refusal}
use Rattle.bitfield.specs.Raw.{Raw, clean}
use Rattle.bitfield.specs.Facts.{Kept}
use Rattle.bitfield.specs.Held.{limited, inside, up_to, not_below, room_for}
use Rattle.bitfield.proofs.Clean.{clean-says}
use Rattle.std.specs.declared.result.Result.{Result}
use Rattle.std.specs.declared.result.Result.TheVariants.{Ok, Err}
use Rattle.std.specs.Prelude.{⊤}

picked : (s : Bool) (t : Result ⊤ Refusal) (x : Refusal) → pick s t (Err x) ≡ Ok tt → (s ≡ true) × (t ≡ Ok tt)
picked true t x e = (refl, e)
picked false t x e = let w : ◌≡◌ {A = ℕ} 0 1 = cc in absurd (omega arith)

pub limited_fine : (n : ℕ) → limited n ≡ Ok tt → n ≤ 2048
unfolding limited
limited_fine n e = leb-true _ _ (picked (leb n 2048) _ _ e).0

pub inside_fine : (i len : ℕ) → inside i len ≡ Ok tt → i < len
unfolding inside
inside_fine i len e = ltb-true _ _ (picked (ltb i len) _ _ e).0

pub up_to_fine : (k most : ℕ) → up_to k most ≡ Ok tt → k ≤ most
unfolding up_to
up_to_fine k most e = leb-true _ _ (picked (leb k most) _ _ e).0

pub not_below_fine : (m n : ℕ) → not_below m n ≡ Ok tt → n ≤ m
unfolding not_below
not_below_fine m n e = leb-true _ _ (picked (leb n m) _ _ e).0

pub room_fine : (need room : ℕ) → room_for need room ≡ Ok tt → need ≤ room
unfolding room_for
room_fine need room e = leb-true _ _ (picked (leb need room) _ _ e).0

pub clean-kept : (l : List ℕ) (len : ℕ) → Raw l → clean l len ≡ true → Kept l len
clean-kept l len r e = let s = clean-says l len e in record { raw = r; few = s.0; small = s.1 }

-- All of them, for functions that use a test
pub ruleset fine = (limited_fine, inside_fine, up_to_fine, not_below_fine, room_fine)
