-- What is measured of numbers or fixed bytes that share a word is what is measured of all their bytes at once. Assumes nothing.
use mathlib.Core.Path.{◌≡◌, refl, ◌∙◌}
use mathlib.Core.List.{List}
use mathlib.Core.Bool.{Bool, true, false}
use Prim.Native.Nat.{ℕ, zero, suc, ◌+◌, ◌-◌, ◌*◌, ◌≤◌, ◌<◌}
use native.Mathlib.Nat.{add-zero, zero-add}
use native.Mathlib.Omega.{arith}
use borrow.Author.Tests.{le-leb, lt-leb, leb-true, leb-false}
use lib.ListN.{length, get_or}
use lib.Dec.{leb}
use Rattle.standard.specs.Bytes.{word_at}
use Rattle.standard.specs.Parts.{join}
use Rattle.layout.specs.Tree.{node_of, tree_of}
use Rattle.layout.specs.declared.Kind.{Kind}
use Rattle.layout.specs.Kinds.{is_plain}
use Rattle.message.specs.Steps.{Row, row_of}
use Rattle.value.specs.Walk.{upto, with_body, walk_fields}
use Rattle.value.specs.Write.{parts_from}
use Rattle.value.specs.Steps.{cap, measured, AllPlain}
use Rattle.value.specs.declared.measure.Mark.{Mark}
use Rattle.value.proofs.Walks.{measured-cap}
use Rattle.value.proofs.Rows.{Measuring, measuring_none, measuring_end}
use Rattle.value.proofs.Plain.{Plain, plain-field, measuring_plain, measuring_short}
use Rattle.std.specs.declared.result.Result.{Result}
use Rattle.standard.specs.declared.Refusal.{Refusal}

-- Fewer than 2^32 elements, each of fewer bytes
-- The m elements that share the word at a, each k bytes of the bodies, are m * k bytes of them.
module _ (lens l : List ℕ) (t a m : ℕ) (c b : List ℕ) (i j f : ℕ) (e : f ≡ word_at l a) (k : ℕ) (q : k ≡ get_or lens f 0) (p : Plain (tree_of l f) k) where
  -- what is measured of all of them
  abbrev whole : Result Mark Refusal
  whole = measured (walk_fields (row_of l t a 0 m) c b i j) (length (join (parts_from (row_of l t a 0 m) c b i j)))

  -- some of them are left, from the byte at on; sum bytes are measured
  abbrev Left : ℕ → ℕ → ℕ → Type 0
  Left left sum at = Measuring lens l t a 0 m c b i j sum a left i at

  -- what is measured of those by their length
  abbrev at_once : ℕ → ℕ → ℕ → Result Mark Refusal
  at_once left sum at = measured (with_body b at (left * k) (upto i (at + left * k))) (sum + left * k)

  plain-none : (sum at : ℕ) → Left 0 sum at → at ≤ length b → at_once 0 sum at ≡ whole
  plain-none sum at g h =
      let z : 0 * k ≡ 0 = omega arith in
      let s : cap sum ≡ sum = omega (arith, g.small) in
      rw (z, add-zero at, add-zero sum, le-leb at (length b) h, s) (measuring_end lens l t a 0 m c b i j sum a 0 i at g (omega arith))

  plain-one : (left sum at : ℕ) → Left (suc left) sum at → ((sum at : ℕ) → Left left sum at → at ≤ length b → at_once left sum at ≡ whole) →
      at_once (suc left) sum at ≡ whole
  plain-one left sum at g more = go (leb (at + k) (length b)) refl
    where
      u : at + suc left * k ≡ at + k + left * k
      u = omega arith

      go : (d : Bool) → leb (at + k) (length b) ≡ d → at_once (suc left) sum at ≡ whole
      go false d =
          rw (lt-leb (at + suc left * k) (length b) (omega (arith, leb-false (at + k) (length b) d)))
          (measuring_short lens l t a 0 m c b i j sum a (suc left) i at f g (omega arith) e k q p d)
      go true d =
          let x = measuring_plain lens l t a 0 m c b i j sum a (suc left) i at f g (omega arith) e k q p d in
          let v : suc left - 1 ≡ left = omega arith in
          let s : cap (sum + suc left * k) ≡ cap (cap (sum + k) + left * k) = omega arith in
          let y = more (cap (sum + k)) (at + k) (rw (add-zero a, v) at x) (leb-true (at + k) (length b) d) in
          rw u (measured-cap (with_body b (at + k) (left * k) (upto i (at + k + left * k))) _ _ s ∙ y)

  plain-left : (left sum at : ℕ) → Left left sum at → at ≤ length b → at_once left sum at ≡ whole
  plain-left zero sum at g h = plain-none sum at g h
  plain-left (suc left) sum at g h = plain-one left sum at g (λ x y. plain-left left x y)

  plain-measured : Row lens l t a 0 m → 0 < m → measured (with_body b j (m * k) (upto i (j + m * k))) (m * k) ≡ whole
  plain-measured g z =
      let v : suc (m - 1) ≡ m = omega arith in
      let x = plain-one (m - 1) 0 j (rw v (measuring_none lens l t a 0 m c b i j g)) (λ x y. plain-left (m - 1) x y) in
      rw (v, zero-add (m * k)) at x

pub elements-plain : (lens l : List ℕ) (t a m f : ℕ) → Row lens l t a 0 m → 0 < m → f ≡ word_at l a → (x : Kind) →
    x ≡ (node_of l f).kind → is_plain x ≡ true → AllPlain (row_of l t a 0 m) (m * get_or lens f 0)
unfolding AllPlain
elements-plain lens l t a m f g z e x d u =
    let k = get_or lens f 0 in
    let p = plain-field lens l t a 0 m f g z e k refl x d u in
    λ c b i j. plain-measured lens l t a m c b i j f e k refl p g z
