-- 23 is given just to a state that no run reaches: no other refusal of the builder has that number. Assumes nothing.
use mathlib.Core.Path.{◌≡◌, refl}
use mathlib.Core.Logic.{◌↔◌}
use mathlib.Core.List.{List}
use mathlib.Core.Bool.{Bool, true, false}
use Prim.Native.Nat.{ℕ, ◌+◌, ◌-◌}
use native.Mathlib.Omega.{arith}
use lib.ListN.{length}
use lib.Dec.{eqb, ltb}
use Rattle.standard.specs.Choice.{pick}
use Rattle.standard.specs.Bytes.{four}
use Rattle.standard.specs.Refusals.{numbers_of_lem}
use Rattle.standard.specs.declared.Head.{Head}
use Rattle.standard.specs.declared.Head.TheVariants.{Fixed, Variable}
use Rattle.standard.specs.declared.Refusal.{Refusal}
use Rattle.standard.specs.declared.Refusal.TheVariants.{InvalidByteLength, InvalidLengthPrefix, OffsetIntoFixedPortion, OffsetSkipsVariableBytes, OffsetsAreDecreasing, OffsetOutOfBounds, OverLimit, TooLarge, BadState, BuilderFull}
use Rattle.decode.specs.Offsets.{sanitize_offset_lem}
use Rattle.decode.specs.Builder.{behind_offset, step, build_at, build}
use Rattle.decode.specs.Held.{Run, recalled, Registered, old, taken, allowed, register_item}
use Rattle.decode.specs.Reader.{Built, built_as, closable, build_items}
use Rattle.decode.specs.declared.builder.Progress.{Progress}
use Rattle.decode.specs.declared.decoder.SszDecoderBuilder.{SszDecoderBuilder}
use Rattle.decode.proofs.Reached.{Long, reached_iff}
use Rattle.std.specs.declared.result.Result.{Result}
use Rattle.std.specs.declared.option.Option.{Option}
use Rattle.std.specs.declared.result.Result.TheVariants.{Ok, Err}
use Rattle.std.specs.declared.option.Option.TheVariants.{Some, None}
use Rattle.std.specs.Prelude.{⊤}

-- Any answer but a refusal with 23
abbrev Sound : {A : Type 0} → Result A Refusal → Type 0
Sound (Ok y) = Unit {0}
Sound (Err r) = (numbers_of_lem r).number ≡ 23 → ⊥

sound-pick : {A : Type 0} (c : Bool) (u v : Result A Refusal) → Sound u → Sound v → Sound (pick c u v)
sound-pick true u v h k = h
sound-pick false u v h k = k

abbrev Fair : Registered → Type 0
Fair (Ok y) = Unit {0}
Fair (Err e) = (numbers_of_lem e.refusal).number ≡ 23 → ⊥

-- The rules of reading and of building.
tests-sound : (c d : Bool) (o : ℕ) (p : Progress)
    → Sound (behind_offset (pick c (Err (OffsetOutOfBounds o))
    (pick d (Err (OffsetsAreDecreasing o)) (Ok o))) p)
tests-sound true d o p = omega arith
tests-sound false true o p = omega arith
tests-sound false false o p = tt

offset_sound : (m : Option ℕ) (o len : ℕ) (p : Progress) → Sound (behind_offset (sanitize_offset_lem o m len None) p)
offset_sound (Some n) o len p = tests-sound (ltb len o) (ltb o n) o p
offset_sound None o len p = tests-sound (ltb len o) false o p

step-sound : (h : Head) (b : List ℕ) (p : Progress) → Sound (step h b p)
unfolding step
step-sound (Fixed n) b p =
    sound-pick (ltb 4294967295 n) (Err (OverLimit n 4294967295)) _ (omega arith)
    (sound-pick (ltb (length b) (p.pos + n)) (Err (InvalidByteLength (length b) (p.pos + n))) _ (omega arith) tt)
step-sound Variable b p =
    sound-pick (ltb (length b - p.pos) 4) (Err (InvalidLengthPrefix (length b - p.pos) 4)) _ (omega arith)
    (offset_sound p.previous (four b p.pos) (length b) p)

build-sound : (m : Option ℕ) (p len : ℕ) → Sound (build_at m p len)
build-sound (Some o) p len =
    sound-pick (ltb o p) (Err (OffsetIntoFixedPortion o)) _ (omega arith)
    (sound-pick (ltb p o) (Err (OffsetSkipsVariableBytes o)) (Ok tt) (omega arith) tt)
build-sound None p len = sound-pick (eqb p len) (Ok tt) (Err (InvalidByteLength len p)) tt (omega arith)

-- The builder's own tests behind 23.
module _ (h : Head) (b : List ℕ) (x : SszDecoderBuilder) where
  taken_fair : (c d : Bool) (s : Result Progress Refusal) → Sound s → Fair (pick c (old x TooLarge) (pick d (taken s h b x) (old x (BuilderFull 64))))
  taken_fair true d s k = omega arith
  taken_fair false false s k = omega arith
  taken_fair false true (Ok y) k = tt
  taken_fair false true (Err r) k = k

  allowed_fair : (p : Progress) → Fair (allowed p h b x)
  allowed_fair p = taken_fair (ltb 4294967295 (length b)) (ltb x.count 64) (step h b p) (step-sound h b p)

built-sound : (c : Bool) (t : Result ⊤ Refusal) (x : SszDecoderBuilder) (len : ℕ) → Sound t → Sound (pick c (Err TooLarge) (built_as t x len))
built-sound true t x len k = omega arith
built-sound false (Ok tt) x len k = tt
built-sound false (Err r) x len k = k

closable-sound : (p : Progress) (b : List ℕ) (x : SszDecoderBuilder) → Sound (closable p b x)
unfolding build
closable-sound p b x = built-sound (ltb 4294967295 (length b)) (build (length b) p) x (length b) (build-sound p.first p.pos (length b))

not-fair : (t : Registered) (x : SszDecoderBuilder) → Fair t → t ≡ old x BadState → ⊥
not-fair t x k e = (rw e at k) refl

not-sound : (t : Built) → Sound t → t ≡ Err BadState → ⊥
not-sound t k e = (rw e at k) refl

-- No run over the bytes reaches the state.
abbrev pub NoRun : List ℕ → SszDecoderBuilder → Type 0
NoRun b x = (p : Progress) → Run b p x → ⊥

module _ (b : List ℕ) (x : SszDecoderBuilder) (l : Long x) where
  unreached : NoRun b x → (r : Refusal) × (recalled x b ≡ Err r)
  unreached none_runs = go (recalled x b) refl
    where
      go : (s : Result Progress Refusal) → recalled x b ≡ s → (r : Refusal) × (recalled x b ≡ Err r)
      go (Ok p) q = absurd (none_runs p ((reached_iff b p x l).0 q))
      go (Err r) q = (r, q)

  pub register-bad_iff : (h : Head) → (register_item h b x ≡ old x BadState) ↔ NoRun b x
  unfolding register_item
  register-bad_iff h = (
    λ e p r.
        let k = rw ((reached_iff b p x l).1 r) at e in
        not-fair (allowed p h b x) x (allowed_fair h b x p) k,
    λ none_runs. rw (unreached none_runs).1,
  )

  pub build-bad_iff : (build_items b x ≡ Err BadState) ↔ NoRun b x
  unfolding build_items
  build-bad_iff = (
    λ e p r.
        let k = rw ((reached_iff b p x l).1 r) at e in
        not-sound (closable p b x) (closable-sound p b x) k,
    λ none_runs. rw (unreached none_runs).1,
  )
