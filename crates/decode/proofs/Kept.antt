-- A refusal of the builder gives back the state that it was handed, and a refusal to build gives no ranges: by the cases of the tests. Assumes nothing.
use mathlib.Core.Path.{◌≡◌, sym, ap, ◌∙◌}
use mathlib.Core.List.{List}
use Prim.Native.Nat.{ℕ}
use lib.ListN.{length}
use lib.Dec.{ltb}
use Rattle.standard.specs.Choice.{pick}
use Rattle.standard.specs.declared.Head.{Head}
use Rattle.standard.specs.declared.Refusal.{Refusal}
use Rattle.standard.specs.declared.Refusal.TheVariants.{TooLarge, BadState, BuilderFull}
use Rattle.standard.proofs.Kept.{pick-both}
use Rattle.decode.specs.declared.decoder.SszDecoderBuilder.{SszDecoderBuilder}
use Rattle.standard.specs.declared.Refused.{Refused}
use Rattle.decode.specs.declared.builder.Progress.{Progress}
use Rattle.decode.specs.declared.decoder.SszDecoder.{SszDecoder}
use Rattle.decode.proofs.Register.{refused_next}
use Rattle.decode.specs.Builder.{step}
use Rattle.decode.specs.Held.{put, Registered, old, taken, known, recalled, register_item}
use Rattle.decode.specs.Reader.{build_items}
use Rattle.std.specs.declared.result.Result.{Result}
use Rattle.std.specs.declared.result.Result.TheVariants.{Ok, Err}

-- One registration
module _ (h : Head) (b : List ℕ) (x : SszDecoderBuilder) (r : Refused SszDecoderBuilder) where
  abbrev Keeps : Registered → Type 0
  Keeps y = y ≡ Err r → r.state ≡ x

  old_keeps : (q : Refusal) → Keeps (old x q)
  old_keeps q e = let s : record { state = x; refusal = q } ≡ r = cc e in ap (λ (z : Refused SszDecoderBuilder). z.state) (sym s)

  taken_keeps : (s : Result Progress Refusal) → Keeps (taken s h b x)
  taken_keeps (Ok y) e = refused_next r (put h b x) (sym e)
  taken_keeps (Err q) e = old_keeps q e

  known_keeps : (s : Result Progress Refusal) → Keeps (known s h b x)
  known_keeps (Err q) = old_keeps BadState
  known_keeps (Ok p) =
      let within = taken (step h b p) h b x in
      let full = old x (BuilderFull 64) in
      pick-both Keeps (ltb 4294967295 (length b)) (old x TooLarge) (pick (ltb x.count 64) within full) (old_keeps TooLarge)
      (pick-both Keeps (ltb x.count 64) within full (taken_keeps (step h b p)) (old_keeps (BuilderFull 64)))

  pub register_refused : register_item h b x ≡ Err r → r.state ≡ x
  unfolding register_item
  register_refused e = known_keeps (recalled x b) e

-- Building: the state is handed over by value, and no ranges stand beside a refusal.
pub build_refused : (b : List ℕ) (x : SszDecoderBuilder) (r : Refusal) → build_items b x ≡ Err r → (d : SszDecoder) → build_items b x ≡ Ok d → ⊥
build_refused b x r e d f = refused_next r d (sym e ∙ f)
