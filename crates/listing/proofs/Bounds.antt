-- What bounds what is printed: the records of a listing. Assumes nothing.
use mathlib.Core.Path.{◌≡◌, refl}
use mathlib.Core.List.{List}
use mathlib.Core.Bool.{Bool, true, false}
use Prim.Native.Nat.{ℕ, ◌*◌, ◌/◌, ◌≤◌}
use native.Mathlib.Omega.{arith}
use borrow.Author.Tests.{ltb-false}
use lib.ListN.{length}
use lib.Dec.{ltb}
use Rattle.std.specs.declared.result.Result.{Result}
use Rattle.std.specs.declared.result.Result.TheVariants.{Ok, Err}
use Rattle.standard.specs.Choice.{pick}
use Rattle.standard.specs.declared.Refusal.TheVariants.{NoRoom}
use Rattle.message.specs.Check.{check_message, listed_of, list_message}
use Rattle.message.specs.Read.{located}
use Rattle.message.specs.declared.Counts.{Counts}
use Rattle.message.specs.declared.RefusedAt.{RefusedAt}

-- Records take at most so many bytes.
abbrev Within : ℕ → Result ℕ RefusedAt → Type 0
Within k (Ok n) = 12 * n ≤ k
Within k (Err r) = Unit {0}

listed-within : (a : Result Counts RefusedAt) (o : List ℕ) → Within (length o) (listed_of a o)
listed-within (Err r) o = tt
listed-within (Ok c) o = go (ltb (length o / 12) c.records) refl
  where
    go : (b : Bool) → ltb (length o / 12) c.records ≡ b → Within (length o)
        (pick b (Err (located (NoRoom c.records (length o / 12)) 0 0)) (Ok c.records))
    go true p = tt
    go false p = let h : c.records ≤ length o / 12 = ltb-false _ _ p in omega arith

pub records-within : (l m o : List ℕ) (n : ℕ) (r : Result ℕ RefusedAt) → r ≡ list_message l m o → r ≡ Ok n → 12 * n ≤ length o
unfolding list_message
records-within l m o n r e h = let w = listed-within (check_message l m) o in rw (← e, h) at w
