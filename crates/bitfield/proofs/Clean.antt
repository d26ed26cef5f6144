-- Nothing set behind the end: only the word that holds the end, and those behind it, matter. Assumes nothing.
use mathlib.Core.Path.{◌≡◌, refl, sym, ◌∙◌}
use mathlib.Core.List.{List}
use mathlib.Core.Bool.{Bool, true, false}
use Prim.Native.Nat.{ℕ, zero, suc, ◌+◌, ◌*◌, ◌/◌, ◌%◌, ◌^◌, ◌<◌, ◌≤◌}
use native.Mathlib.Omega.{arith}
use borrow.Author.Tests.{lt-ltb, le-ltb, le-leb, ne_eqb, leb-true, ltb-true}
use lib.Dec.{eqb, leb, ltb}
use lib.Pow.{pow_mono}
use lib.ListN.{length, drop}
use Rattle.standard.specs.Bytes.{num}
use Rattle.standard.specs.Choice.{and_also}
use Rattle.standard.proofs.Bytes.{num-bound}
use Rattle.standard.proofs.Bits.{pow_bytes}
use Rattle.bitfield.specs.Raw.{Raw, clean}
use Rattle.bitfield.specs.Facts.{Word}
use Rattle.bitfield.proofs.Bodies.{cut_below, below-cut, small_shifted, shifted_small}

pub clean_full : (l : List ℕ) (len : ℕ) → Raw l → len ≤ 2048 → len / 64 ≡ 32 → true ≡ clean l len
unfolding clean
clean_full l len r h e =
    let b = rw r.long at (num-bound l r.bytes) in
    let p = pow_bytes 256 in
    let m : len ≡ 8 * 256 = omega arith in
    rw (le-leb len 2048 h, lt-ltb (num l) (2 ^ len) (rw (m, ← p) b))

module _ (l : List ℕ) (len x : ℕ) (r : Raw l) (h : len ≤ 2048) (n : len / 64 ≡ 32 → ⊥) (w : Word l (8 * (len / 64)) x) where
  abbrev place : ℕ
  place = 8 * (len / 64)

  rest : num (drop (8 * (len / 64 + 1)) l) ≡ num (drop (place + 8) l)
  rest = let e : 8 * (len / 64 + 1) ≡ 8 * (len / 64) + 8 = omega arith in rw e

  inside : place ≤ length l
  inside = rw r.long (omega arith)

  bits : 8 * place + len % 64 ≡ len
  bits = omega arith

  pub clean_not : (x / 2 ^ (len % 64) ≡ 0 → ⊥) → false ≡ clean l len
  unfolding clean
  clean_not k =
      let s = shifted_small x (len % 64) k in
      let e = w.says in
      let no : num l < 2 ^ len → ⊥ = λ (m : num l < 2 ^ len).
      let c = cut_below l place (len % 64) r.bytes inside (rw bits m) in
      omega arith in
      rw (le-leb len 2048 h, le-ltb (num l) (2 ^ len) (omega arith))

  pub clean-rest : x / 2 ^ (len % 64) ≡ 0 → eqb (num (drop (8 * (len / 64 + 1)) l)) 0 ≡ clean l len
  unfolding clean
  clean-rest k = rw (rest, le-leb len 2048 h) (cases (num (drop (place + 8) l)) w.says)
    where
      small : x < 2 ^ (len % 64)
      small = small_shifted x (len % 64) k

      word : 2 ^ (len % 64) ≤ 2 ^ 63
      word = pow_mono {j = 63} (omega arith)

      cases : (y : ℕ) → num (drop place l) ≡ x + 18446744073709551616 * y → eqb y 0 ≡ ltb (num l) (2 ^ len)
      cases zero e =
          let s = small in
          let b = below-cut l place (len % 64) r.bytes inside (omega arith) in
          sym (lt-ltb (num l) (2 ^ len) (rw bits at b))
      cases (suc y) e =
          let b = word in
          let no : num l < 2 ^ len → ⊥ = λ (m : num l < 2 ^ len).
          let c = cut_below l place (len % 64) r.bytes inside (rw bits m) in
          omega arith in
          ne_eqb (suc y) 0 (λ (z : suc y ≡ 0). omega arith) ∙ sym (le-ltb (num l) (2 ^ len) (omega arith))

-- What a clean bitfield is
pub clean-says : (l : List ℕ) (len : ℕ) → clean l len ≡ true → (len ≤ 2048) × (num l < 2 ^ len)
unfolding clean
clean-says l len e = let t = two (leb len 2048) (ltb (num l) (2 ^ len)) e in (leb-true _ _ t.0, ltb-true _ _ t.1)
  where
    two : (a b : Bool) → and_also a b ≡ true → (a ≡ true) × (b ≡ true)
    two true b e = (refl, e)
    two false b e = let w : ◌≡◌ {A = ℕ} 0 1 = cc in absurd (omega arith)
