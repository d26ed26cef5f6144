-- The five numbers of a refusal lose nothing of it: they are those of one refusal at one item only. Assumes nothing.
use mathlib.Core.Path.{◌≡◌, ap, ◌∙◌}
use Prim.Native.Nat.{ℕ, ◌≤◌}
use native.Mathlib.Omega.{arith}
use Rattle.standard.specs.Refusals.{numbers_of_lem}
use Rattle.standard.specs.declared.Refusal.{Refusal}
use Rattle.standard.proofs.Numbered.{numbers_only, numbers-same, number-some}
use Rattle.message.specs.declared.Counts.{Counts}
use Rattle.message.specs.declared.RefusedAt.{RefusedAt}
use Rattle.std.specs.declared.result.Result.{Result}
use Rattle.std.specs.declared.result.Result.TheVariants.{Ok, Err}
use Rattle.message.specs.Read.{located}
use Rattle.cartwhisker.specs.Calls.{which_of_lem, answer_number, listed_number}

-- The numbers asked with 0 to 4 are number, a, b, type and start, so they give back the refusal, the type and the start.
five_only : (x y : RefusedAt)
    → ((w : ℕ) → which_of_lem w (numbers_of_lem x.refusal) x.type_number x.start ≡ which_of_lem w (numbers_of_lem y.refusal) y.type_number y.start)
    → x ≡ y
five_only x y e =
    let r : x.refusal ≡ y.refusal =
    numbers_only x.refusal y.refusal (numbers-same (numbers_of_lem x.refusal) (numbers_of_lem y.refusal) (e 0) (e 1) (e 2)) in
    ap (λ (k : Refusal). located k x.type_number x.start) r
    ∙ (ap (λ (k : ℕ). located y.refusal k x.start) (e 3) ∙ ap (λ (k : ℕ). located y.refusal y.type_number k) (e 4))

-- The first of them is not 0.
not_none : {X : Type 0} (r : Refusal) → (numbers_of_lem r).number ≡ 0 → X
not_none r e = absurd (omega (arith, number-some r))

pub answer_only : (x y : Result Counts RefusedAt) → 1 ≤ answer_number x 0 → ((w : ℕ) → answer_number x w ≡ answer_number y w) → x ≡ y
answer_only (Ok c) y h e = absurd (omega arith)
answer_only (Err r) (Ok c) h e = not_none r.refusal (e 0)
answer_only (Err r) (Err r') h e = ap (λ (k : RefusedAt). Err k) (five_only r r' e)

pub listed_only : (x y : Result ℕ RefusedAt) → 1 ≤ listed_number x 0 → ((w : ℕ) → listed_number x w ≡ listed_number y w) → x ≡ y
listed_only (Ok n) y h e = absurd (omega arith)
listed_only (Err r) (Ok n) h e = not_none r.refusal (e 0)
listed_only (Err r) (Err r') h e = ap (λ (k : RefusedAt). Err k) (five_only r r' e)
