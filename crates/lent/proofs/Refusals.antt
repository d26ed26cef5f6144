-- A call that tells a refusal leaves the bitfield behind the reference as it was, list or vector: the contract's equation says so. Assumes nothing.
use mathlib.Core.Path.{◌≡◌, ap}
use mathlib.Core.Bool.{Bool}
use Prim.Native.Nat.{ℕ}
use lib.ListN.{set}
use native.Mathlib.Omega.{arith}
use Rattle.std.specs.Prelude.{⊤}
use Rattle.std.specs.declared.result.Result.{Result}
use Rattle.std.specs.declared.result.Result.TheVariants.{Ok, Err}
use Rattle.standard.specs.declared.Refusal.{Refusal}
use Rattle.standard.specs.declared.Refused.{Refused}
use Rattle.bitfield.specs.declared.Bitfield.{Bitfield}
use Rattle.bitfield.specs.Bools.{flipped, without}
use Rattle.bitfield.specs.Held.{held, and_then, inside, made}
use Rattle.bitfield.specs.Bitfields.{bits, field_told, fields_told, field_set, field_not, field_difference}
use Rattle.lent.specs.Left.{left}

-- What the answer tells is a refusal, so it is the one that has the bitfield as it was.
kept : {T : Type 0} (a b new : Bitfield T) (t : Result ⊤ Refusal) (x : Refusal) → left b (Err x) ≡ made t a new → b ≡ a
kept a b new (Ok tt) x e = let z : ◌≡◌ {A = ℕ} 0 1 = cc in absurd (omega arith)
kept {T} a b new (Err y) x e =
    let old : Refused (Bitfield T) = record { state = a; refusal = y } in
    let now : Refused (Bitfield T) = record { state = b; refusal = x } in
    let q : now ≡ old = cc in
    ap (λ (r : Refused (Bitfield T)). r.state) q

-- And where the method by value refuses, it is that answer.
pub made_left : {T : Type 0} (t : Result ⊤ Refusal) (a new : Bitfield T) (e : Refused (Bitfield T)) → made t a new ≡ Err e
    → left a (Err e.refusal) ≡ made t a new
made_left (Ok tt) a new e p = let z : ◌≡◌ {A = ℕ} 0 1 = cc in absurd (omega arith)
made_left {T} (Err y) a new e p =
    let old : Refused (Bitfield T) = record { state = a; refusal = y } in
    let q : old ≡ e = cc in
    rw (← q)

module _ {T : Type 0} (fits : ℕ → ℕ → Bool) (a b : Bitfield T) where
  pub set_refused : (i : ℕ) (v : Bool) (x : Refusal) → left b (Err x) ≡ field_set fits a i v → b ≡ a
  unfolding field_set
  set_refused i v = kept a b (held (set (bits a) i v) a.n) (and_then (field_told fits a) (inside i a.len))

  pub not_refused : (x : Refusal) → left b (Err x) ≡ field_not fits a → b ≡ a
  unfolding field_not
  not_refused = kept a b (held (flipped (bits a)) a.n) (field_told fits a)

  pub difference_refused : (o : Bitfield T) (x : Refusal) → left b (Err x) ≡ field_difference fits a o → b ≡ a
  unfolding field_difference
  difference_refused o = kept a b (held (without (bits a) (bits o)) a.n) (fields_told fits a o)
