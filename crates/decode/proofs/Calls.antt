-- The runs are just what the builder's own calls reach: so a state is refused with 23 just if no calls over the bytes give it.
-- Assumes nothing.
use mathlib.Core.Path.{◌≡◌, refl, ap, ◌∙◌}
use mathlib.Core.Logic.{◌↔◌}
use mathlib.Core.List.{List}
use mathlib.Core.Bool.{Bool, true, false}
use Prim.Native.Nat.{ℕ, ◌≤◌, ◌<◌, ◌^◌}
use native.Mathlib.Omega.{arith}
use borrow.Author.Tests.{ltb-true, ltb-false}
use lib.ListN.{length}
use lib.Dec.{ltb}
use Rattle.standard.specs.Choice.{pick}
use Rattle.standard.specs.declared.Head.{Head}
use Rattle.standard.specs.declared.Refusal.{Refusal}
use Rattle.standard.specs.declared.Refusal.TheVariants.{TooLarge, BadState, BuilderFull}
use Rattle.decode.specs.Builder.{step}
use Rattle.decode.specs.Held.{put, Run, none, more, old, taken, register_item}
use Rattle.decode.specs.Heads.{Calls, start, call}
use Rattle.decode.specs.declared.builder.Progress.{Progress}
use Rattle.decode.specs.declared.decoder.SszDecoderBuilder.{SszDecoderBuilder}
use Rattle.decode.proofs.Register.{refused_next}
use Rattle.decode.proofs.Reached.{Long, run_recalled}
use Rattle.decode.proofs.BadState.{register-bad_iff}
use Rattle.decode.proofs.Heads.{item-registered}
use Rattle.std.specs.declared.result.Result.{Result}
use Rattle.std.specs.declared.result.Result.TheVariants.{Ok, Err}

-- What an accepted call says.
record Taken (c d : Bool) (s : Result Progress Refusal) (h : Head) (b : List ℕ) (x y : SszDecoderBuilder) : Type 0 where
  short : c ≡ false
  few : d ≡ true
  progress : Progress
  stepped : s ≡ Ok progress
  state_is : y ≡ put h b x

old_fine : {A : Type 0} (x y : SszDecoderBuilder) (r : Refusal) → old x r ≡ Ok y → A
old_fine x y r e = refused_next _ y e

taken-says : (c d : Bool) (s : Result Progress Refusal) (h : Head) (b : List ℕ) (x y : SszDecoderBuilder)
    → pick c (old x TooLarge) (pick d (taken s h b x) (old x (BuilderFull 64))) ≡ Ok y → Taken c d s h b x y
taken-says true d s h b x y e = old_fine x y TooLarge e
taken-says false false s h b x y e = old_fine x y (BuilderFull 64) e
taken-says false true (Ok q) h b x y e =
    record { short = refl; few = refl; progress = q; stepped = refl; state_is = cc e }
taken-says false true (Err r) h b x y e = old_fine x y r e

called : (h : Head) (b : List ℕ) (p : Progress) (x y : SszDecoderBuilder) → Run b p x → register_item h b x ≡ Ok y
    → Taken (ltb 4294967295 (length b)) (ltb x.count 64) (step h b p) h b x y
unfolding register_item
called h b p x y r e = taken-says (ltb 4294967295 (length b)) (ltb x.count 64) (step h b p) h b x y (rw (run_recalled r) at e)

below : (b : List ℕ) → ltb 4294967295 (length b) ≡ false → length b < 2 ^ 32
below b q = let k : length b ≤ 4294967295 = ltb-false _ _ q in omega arith

run_at : {b : List ℕ} {q : Progress} {x y : SszDecoderBuilder} → x ≡ y → Run b q y → Run b q x
run_at e r = rw e r

-- There and back.
pub calls_run : {b : List ℕ} {x : SszDecoderBuilder} → Calls b x → (p : Progress) × Run b p x
calls_run start = (_, none)
calls_run {b} (call h {x} {y} c e) =
    let r = calls_run c in
    let t = called h b r.0 x y r.1 e in
    (t.progress, run_at t.state_is (more h r.1 (below b t.short) (ltb-true _ _ t.few) t.stepped))

pub run_calls : {b : List ℕ} {p : Progress} {x : SszDecoderBuilder} → Run b p x → Calls b x
run_calls none = start
run_calls {b} (more h {p} {q} {x} r small few e) =
    call h {x = x} {y = put h b x} (run_calls r) (item-registered h b p x r small few ∙ ap (λ (s : Result Progress Refusal). taken s h b x) e)

-- 23, in terms of the calls alone.
pub never-called_iff : (b : List ℕ) (x : SszDecoderBuilder) → Long x → (h : Head) → (register_item h b x ≡ old x BadState) ↔ (Calls b x → ⊥)
never-called_iff b x l h = (
  λ e c. (register-bad_iff b x l h).0 e (calls_run c).0 (calls_run c).1,
  λ never. (register-bad_iff b x l h).1 (λ p r. never (run_calls r)),
)
