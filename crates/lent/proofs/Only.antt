-- The contract of each public function has one answer only, and leaves one bitfield behind the reference, whatever the behaviour. Of the functions
-- on plain parameters it is said of the postconditions themselves, for the same arguments at entry; of those over a reference, of the equation
-- that they promise: d is what the method by value answers. Assumes nothing.
use mathlib.Core.Path.{◌≡◌, refl, ap}
use Prim.Native.Nat.{ℕ}
use native.Mathlib.Omega.{arith}
use denote.Param.Laws.{Laws}
use denote.RattleType.{RattleType}
use mir.Syntax.{Dict}
use Rattle.std.specs.Prelude.{⊤}
use Rattle.std.specs.declared.result.Result.{Result}
use Rattle.std.specs.declared.result.Result.TheVariants.{Ok, Err}
use Rattle.standard.specs.declared.Refusal.{Refusal}
use Rattle.standard.specs.declared.Refused.{Refused}
use Rattle.standard.proofs.Only.{Only, only_answer}
use Rattle.bitfield.specs.Bitfields.{Made}
use Rattle.bitfield.specs.declared.Bitfield.{Bitfield}
use Rattle.bitfield.specs.declared.BitfieldBehaviour.{Ghosts}
use Rattle.lent.specs.Left.{left}
use Rattle.lent.proofs.after_set.Kinds as after_set_kinds
use Rattle.lent.proofs.after_set.Reads as after_set_reads
use Rattle.lent.proofs.after_not.Kinds as after_not_kinds
use Rattle.lent.proofs.after_not.Reads as after_not_reads
use Rattle.lent.proofs.after_difference.Kinds as after_difference_kinds
use Rattle.lent.proofs.after_difference.Reads as after_difference_reads

-- What is left and what is told are two parts of one answer.
parts : {T : Type 0} (b c : Bitfield T) (t u : Result ⊤ Refusal) → left b t ≡ left c u → (b ≡ c) × (t ≡ u)
parts b c (Ok one) (Ok two) e = (cc, refl)
parts b c (Ok one) (Err y) e = let z : ◌≡◌ {A = ℕ} 0 1 = cc in absurd (omega arith)
parts b c (Err x) (Ok two) e = let z : ◌≡◌ {A = ℕ} 0 1 = cc in absurd (omega arith)
parts {T} b c (Err x) (Err y) e =
    let one : Refused (Bitfield T) = record { state = b; refusal = x } in
    let two : Refused (Bitfield T) = record { state = c; refusal = y } in
    let q : one ≡ two = cc in
    (ap (λ (r : Refused (Bitfield T)). r.state) q, ap (λ (r : Refused (Bitfield T)). Err r.refusal) q)

pub left_only : {T : Type 0} (d : Made T) (b c : Bitfield T) (t u : Result ⊤ Refusal) → left b t ≡ d → left c u ≡ d → (b ≡ c) × (t ≡ u)
left_only d b c t u p q = parts b c t u (only_answer d (left b t) (left c u) p q)

module _ (T : RattleType) (L : Laws T) (behaviour : Ghosts T.Denot) (dict : Dict) where
  pub after_set_only : Only (after_set_kinds.ps T L) (after_set_kinds.r T L) (after_set_reads.Post T L behaviour dict)
  after_set_only κs a x y e f p q = only_answer _ x y p q

  pub after_not_only : Only (after_not_kinds.ps T L) (after_not_kinds.r T L) (after_not_reads.Post T L behaviour dict)
  after_not_only κs a x y e f p q = only_answer _ x y p q

  pub after_difference_only : Only (after_difference_kinds.ps T L) (after_difference_kinds.r T L) (after_difference_reads.Post T L behaviour dict)
  after_difference_only κs a x y e f p q = only_answer _ x y p q
