-- Registering heads one by one is the fold over them, and what is then built are the spans of the split. Assumes nothing.
use mathlib.Core.Path.{◌≡◌, refl, sym, ap, ◌∙◌}
use mathlib.Core.List.{List, [], ◌∷◌, ◌++◌}
use Prim.Native.Nat.{ℕ, ◌+◌, ◌≤◌, ◌<◌, ◌^◌}
use native.Mathlib.Omega.{arith}
use borrow.Author.Tests.{lt-ltb, le-ltb}
use lib.ListN.{length}
use Rattle.standard.specs.declared.Head.{Head}
use Rattle.decode.specs.Builder.{fresh, step, follow, register}
use Rattle.decode.specs.Held.{new, put, Run, none, more, taken, register_item}
use Rattle.decode.specs.Heads.{if_fine, register_all_lem, told_lem, told_by, put_all, state_of}
use Rattle.decode.specs.declared.builder.Progress.{Progress}
use Rattle.decode.specs.declared.decoder.SszDecoderBuilder.{SszDecoderBuilder}
use Rattle.decode.proofs.Register.{follow-next}
use Rattle.decode.proofs.Reached.{run_recalled}
use Rattle.std.specs.declared.result.Result.{Result}
use Rattle.std.specs.declared.result.Result.TheVariants.{Ok, Err}
use Rattle.standard.specs.declared.Refusal.{Refusal}

-- One registration, in a state that a run reaches.
pub item-registered : (h : Head) (b : List ℕ) (p : Progress) (x : SszDecoderBuilder) → Run b p x → length b < 2 ^ 32 → x.count < 64
    → register_item h b x ≡ taken (step h b p) h b x
unfolding register_item
item-registered h b p x r small few = rw (run_recalled r, le-ltb 4294967295 (length b) (omega arith), lt-ltb _ _ few)

-- All of them: what is told,
told-next : (s : Result Progress Refusal) (h : Head) (hs : List Head) (b : List ℕ) (x : SszDecoderBuilder)
    → ((y : Progress) → s ≡ Ok y → told_lem (register_all_lem hs b (put h b x)) ≡ told_by (register hs b y))
    → told_lem (if_fine (taken s h b x) (register_all_lem hs b)) ≡ told_by (follow s (register hs b))
told-next (Ok y) h hs b x k = k y refl
told-next (Err r) h hs b x k = refl

module _ (b : List ℕ) (small : length b < 2 ^ 32) where
  pub registers_told : (hs : List Head) (p : Progress) (x : SszDecoderBuilder) → Run b p x → x.count + length hs ≤ 64
      → told_lem (register_all_lem hs b x) ≡ told_by (register hs b p)
  unfolding register_all_lem register
  registers_told [] p x r few = refl
  registers_told (h ∷ hs) p x r few =
      let one : x.count < 64 = omega arith in
      rw (item-registered h b p x r small one)
      (told-next (step h b p) h hs b x
      (λ (y : Progress) (e : step h b p ≡ Ok y). registers_told hs y (put h b x) (more h r small one e) (omega arith)))

  -- and the state that they reach, where all are accepted.
  pub registers_state : (hs : List Head) (p q : Progress) (x : SszDecoderBuilder) → Run b p x → x.count + length hs ≤ 64
      → register hs b p ≡ Ok q → (register_all_lem hs b x ≡ Ok (put_all hs b x)) × Run b q (put_all hs b x)
  unfolding register_all_lem register put_all
  registers_state [] p q x r few e = let s : p ≡ q = cc in (refl, rw s at r)
  registers_state (h ∷ hs) p q x r few e =
      let one : x.count < 64 = omega arith in
      let f = follow-next _ _ _ e in
      let s = registers_state hs f.0 q (put h b x) (more h r small one f.1) (omega arith) f.2 in
      (rw (item-registered h b p x r small one, f.1) s.0, s.1)

-- One head more, at the end of a row.
put_last : (hs : List Head) (h : Head) (b : List ℕ) (x : SszDecoderBuilder) → put_all (hs ++ (h ∷ [])) b x ≡ put h b (put_all hs b x)
unfolding put_all
put_last [] h b x = refl
put_last (k ∷ hs) h b x = put_last hs h b (put k b x)

register-last : (hs : List Head) (h : Head) (b : List ℕ) (p q r : Progress) → register hs b p ≡ Ok q → step h b q ≡ Ok r
    → register (hs ++ (h ∷ [])) b p ≡ Ok r
unfolding register
register-last [] h b p q r e f = let s : p ≡ q = cc in rw (s, f)
register-last (k ∷ hs) h b p q r e f =
    let g = follow-next (step k b p) (register hs b) q e in
    rw g.1 (register-last hs h b g.0 q r g.2 f)

-- A state that a run reaches is the one that a fresh run over some heads gives, and has come as far as their fold.
pub record Fresh (b : List ℕ) (p : Progress) (x : SszDecoderBuilder) : Type 0 where
  pub heads : List Head
  pub state_is : x ≡ state_of heads b
  pub registered : register heads b fresh ≡ Ok p

pub run_fresh : {b : List ℕ} {p : Progress} {x : SszDecoderBuilder} → Run b p x → Fresh b p x
unfolding put_all register
run_fresh none = record { heads = []; state_is = refl; registered = refl }
run_fresh {b} (more h {p} {q} {x} r small few e) =
    let g = run_fresh r in
    record {
      heads = g.heads ++ (h ∷ []);
      state_is = ap (put h b) g.state_is ∙ sym (put_last g.heads h b new);
      registered = register-last g.heads h b fresh p q g.registered e;
    }
