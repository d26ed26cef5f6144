-- Walks and what is measured of them, leaf by leaf. Assumes nothing.
use mathlib.Core.Path.{◌≡◌, refl, ap}
use mathlib.Core.List.{List}
use mathlib.Core.Bool.{Bool, true, false}
use Prim.Native.Nat.{ℕ, ◌+◌, ◌/◌, ◌≤◌, ◌<◌}
use native.Mathlib.Omega.{arith}
use borrow.Author.Tests.{ltb-true, leb-true}
use lib.ListN.{length, get_or, length-take, length-drop, length-append}
use lib.Dec.{ltb, leb}
use Rattle.standard.specs.Choice.{pick}
use Rattle.standard.specs.declared.Refusal.{Refusal}
use Rattle.standard.specs.declared.Refusal.TheVariants.{BadValue}
use Rattle.message.specs.Read.{raw_bytes_lem}
use Rattle.value.specs.Walk.{Walked, upto, wrong, with_word}
use Rattle.value.specs.Write.{bytes_at, with_mark}
use Rattle.value.specs.Steps.{cap, counted, measured}
use Rattle.value.specs.declared.measure.Mark.{Mark}
use Rattle.std.specs.declared.result.Result.TheVariants.{Ok, Err}

-- What a measure says of its walk.
pub measured-says : (w : Walked) (n : ℕ) (m : Mark) → Ok m ≡ measured w n → (w ≡ upto m.end.word m.end.byte) × (m.len ≡ cap n)
measured-says (upto i j) n m e =
    let q : m ≡ record { end = record { word = i; byte = j }; len = cap n } = cc in
    rw q (refl, refl)
measured-says (wrong r) n m e = let z : ◌≡◌ {A = ℕ} 0 1 = cc in absurd (omega arith)

pub measured-wrong : (w : Walked) (n : ℕ) (r : Refusal) → Err r ≡ measured w n → w ≡ wrong r
measured-wrong (upto i j) n r e = let z : ◌≡◌ {A = ℕ} 0 1 = cc in absurd (omega arith)
measured-wrong (wrong x) n r e = let q : r ≡ x = cc in rw q

-- Only the length as far as 2^32 counts.
pub measured-cap : (w : Walked) (m n : ℕ) → cap m ≡ cap n → measured w m ≡ measured w n
measured-cap (upto i j) m n e = ap (λ (k : ℕ). Ok (record { end = record { word = i; byte = j }; len = k })) e
measured-cap (wrong r) m n e = refl

-- A contents word that counts: it is there and at most the limit, or what is wrong is what a walk says.
pub counted-there : (c : List ℕ) (i limit k : ℕ) → Ok k ≡ counted c i limit → (i < length c) × (k ≡ get_or c i 0) × (k ≤ limit)
counted-there c i limit k = go (ltb i (length c)) (leb (get_or c i 0) limit) refl refl
  where
    go : (p q : Bool) → ltb i (length c) ≡ p → leb (get_or c i 0) limit ≡ q →
        Ok k ≡ pick p (pick q (Ok (get_or c i 0)) (Err (BadValue 0 i))) (Err (BadValue 0 (length c))) →
        (i < length c) × (k ≡ get_or c i 0) × (k ≤ limit)
    go true true e f h = let z : k ≡ get_or c i 0 = cc in (ltb-true _ _ e, z, rw z (leb-true _ _ f))
    go true false e f h = cc
    go false q e f h = cc

pub counted-wrong : (c : List ℕ) (i limit : ℕ) (r : Refusal) → Err r ≡ counted c i limit → (x : Walked) →
    with_word c i (leb (get_or c i 0) limit) x ≡ wrong r
counted-wrong c i limit r h x = go (ltb i (length c)) (leb (get_or c i 0) limit) h
  where
    go : (p q : Bool) → Err r ≡ pick p (pick q (Ok (get_or c i 0)) (Err (BadValue 0 i))) (Err (BadValue 0 (length c))) →
        pick p (pick q x (wrong (BadValue 0 i))) (wrong (BadValue 0 (length c))) ≡ wrong r
    go true true h = cc
    go true false h = let z : r ≡ BadValue 0 i = cc in rw z
    go false q h = let z : r ≡ BadValue 0 (length c) = cc in rw z

pub length-bytes_at : (b : List ℕ) (j n : ℕ) → j + n ≤ length b → length (bytes_at b j n) ≡ n
length-bytes_at b j n h = simp (length-take, length-drop) (omega arith)

pub length-with_mark : (b : List ℕ) (j k : ℕ) → j + raw_bytes_lem k ≤ length b → length (with_mark b j k) ≡ k / 8 + 1
length-with_mark b j k h = simp (length-append, length-take, length-drop) (omega arith)
