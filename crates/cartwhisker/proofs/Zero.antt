-- The check's first number is 0 for accepted messages, and for no others. Assumes nothing.
use mathlib.Core.Path.{◌≡◌, refl}
use Prim.Native.Nat.{ℕ}
use mathlib.Core.List.{List}
use native.Mathlib.Omega.{arith}
use Rattle.standard.specs.Refusals.{numbers_of_lem}
use Rattle.standard.proofs.Numbered.{number-some}
use Rattle.message.specs.Check.{check_message}
use Rattle.message.specs.Steps.{IsAccepted}
use Rattle.message.specs.declared.Counts.{Counts}
use Rattle.message.specs.declared.RefusedAt.{RefusedAt}
use Rattle.std.specs.declared.result.Result.{Result}
use Rattle.std.specs.declared.result.Result.TheVariants.{Ok, Err}
use Rattle.cartwhisker.specs.Calls.{answer_number, check_number}

answer-zero : (x : Result Counts RefusedAt) → (answer_number x 0 ≡ 0 → IsAccepted x) × (IsAccepted x → answer_number x 0 ≡ 0)
answer-zero (Ok c) = (λ e. tt, λ h. refl)
answer-zero (Err r) = (λ (e : (numbers_of_lem r.refusal).number ≡ 0). absurd (omega (arith, number-some r.refusal)), λ h. absurd h)

-- "on success all 0": the number 0 tells acceptance
pub zero_iff : (l m : List ℕ) → (check_number l m 0 ≡ 0 → IsAccepted (check_message l m)) × (IsAccepted (check_message l m) → check_number l m 0 ≡ 0)
zero_iff l m = answer-zero (check_message l m)
