-- The C listing changes nothing of its buffer where it refuses, whichever number is asked for, nor where no number is. Assumes nothing.
use mathlib.Core.Path.{◌≡◌, refl}
use mathlib.Core.Bool.{Bool, true, false}
use mathlib.Core.List.{List}
use Prim.Native.Nat.{ℕ, ◌≤◌, ◌<◌}
use native.Mathlib.Omega.{arith}
use borrow.Author.Tests.{lt-ltb}
use lib.Dec.{ltb}
use Rattle.standard.specs.Choice.{pick}
use Rattle.message.specs.Check.{list_message, listed_records}
use Rattle.message.specs.declared.RefusedAt.{RefusedAt}
use Rattle.std.specs.declared.result.Result.{Result}
use Rattle.std.specs.declared.result.Result.TheVariants.{Ok, Err}
use Rattle.message.proofs.Kept.{list_refused}
use Rattle.cartwhisker.specs.Calls.{listed_number, list_number, list_buffer}

-- Both sides of the test of the last argument have kept the buffer.
either-kept : (c : Bool) (o p : List ℕ) → p ≡ o → pick c o p ≡ o
either-kept true o p e = refl
either-kept false o p e = e

pub c_list_refused : (l m o : List ℕ) (w : ℕ) (r : RefusedAt) → list_message l m o ≡ Err r → list_buffer l m o w ≡ o
c_list_refused l m o w r e = either-kept (ltb 4 w) o (listed_records l m o) (list_refused l m o r e)

some_refused : (x : Result ℕ RefusedAt) → 1 ≤ listed_number x 0 → (r : RefusedAt) × (x ≡ Err r)
some_refused (Ok n) h = absurd (omega arith)
some_refused (Err r) h = (r, refl)

-- As a host sees it: a number that is not 0
pub number_refused : (l m o : List ℕ) (w : ℕ) → 1 ≤ list_number l m o 0 → list_buffer l m o w ≡ o
number_refused l m o w h = let q = some_refused (list_message l m o) h in c_list_refused l m o w q.0 q.1

-- "above 4 gives 0 and writes nothing"
pub above_kept : (l m o : List ℕ) (w : ℕ) → 4 < w → (list_number l m o w ≡ 0) × (list_buffer l m o w ≡ o)
above_kept l m o w h = (rw (lt-ltb 4 w h), rw (lt-ltb 4 w h))
