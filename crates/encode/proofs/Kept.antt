-- A refusal of the encoder changes neither buffer: the buffers afterwards are told by the answer. The encoder itself is handed over by value, and
-- a refusal gives no other. Assumes nothing.
use mathlib.Core.Path.{◌≡◌, ap}
use mathlib.Core.Bool.{Bool}
use mathlib.Core.List.{List}
use lib.ListN.{take}
use Rattle.standard.specs.Bytes.{le}
use Prim.Native.Nat.{ℕ, ◌+◌}
use Rattle.standard.specs.declared.Refusal.{Refusal}
use Rattle.encode.specs.Encoder.{append_fixed_lem, append_variable_lem, append, appended, front_of, back_of}
use Rattle.encode.specs.Finish.{finalize, finished}
use Rattle.encode.specs.declared.encoder.SszEncoder.{SszEncoder}
use Rattle.std.specs.declared.result.Result.{Result}
use Rattle.std.specs.declared.result.Result.TheVariants.{Err}

kept : (a : Result SszEncoder Refusal) (r : Refusal) (o : List ℕ) (at : ℕ) (s : List ℕ) → a ≡ Err r → appended a o at s ≡ o
kept a r o at s e = ap (λ (b : Result SszEncoder Refusal). appended b o at s) e

module _ (x : SszEncoder) (s f v : List ℕ) (r : Refusal) where
  pub append-fixed_refused : append_fixed_lem x s f v ≡ Err r → appended (append_fixed_lem x s f v) f x.fixed_used s ≡ f
  append-fixed_refused e = kept (append_fixed_lem x s f v) r f x.fixed_used s e

  pub append_variable_refused :
      append_variable_lem x s f v ≡ Err r
      → (appended (append_variable_lem x s f v) f x.fixed_used (le 4 (x.offset + x.variable_used)) ≡ f) ×
      (appended (append_variable_lem x s f v) v x.variable_used s ≡ v)
  append_variable_refused e = (
    kept (append_variable_lem x s f v) r f x.fixed_used (le 4 (x.offset + x.variable_used)) e,
    kept (append_variable_lem x s f v) r v x.variable_used s e,
  )

  -- Of either kind
  pub append_refused :
      (k : Bool) → append k x s f v ≡ Err r
      → (appended (append k x s f v) f x.fixed_used (front_of k x s) ≡ f) × (appended (append k x s f v) v x.variable_used (back_of k s) ≡ v)
  append_refused k e = (
    kept (append k x s f v) r f x.fixed_used (front_of k x s) e,
    kept (append k x s f v) r v x.variable_used (back_of k s) e,
  )

pub finalize_refused :
    (x : SszEncoder) (f v : List ℕ) (r : Refusal) → finalize x f v ≡ Err r
    → finished (finalize x f v) f x.fixed_used (take x.variable_used v) ≡ f
finalize_refused x f v r e = ap (λ (a : Result ℕ Refusal). finished a f x.fixed_used (take x.variable_used v)) e
