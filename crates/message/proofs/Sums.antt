-- How large the sums are that are made over fields or elements, however many there are: what is counted so far, and 64 times the bytes that
-- are left, stay within 64 times the bytes of all, and one for what holds them. A type has at most 64 levels. Assumes nothing.
use mathlib.Core.Path.{◌≡◌}
use mathlib.Core.List.{List, [], ◌∷◌}
use Prim.Native.Nat.{ℕ, ◌+◌, ◌-◌, ◌*◌, ◌≤◌, ◌<◌, ◌^◌}
use native.Mathlib.Omega.{arith}
use lib.ListN.{length}
use Rattle.standard.specs.Types.{head, width, portion}
use Rattle.standard.specs.Parts.{next, span_of, part, InRange}
use Rattle.standard.specs.declared.Head.{Head}
use Rattle.standard.specs.declared.Head.TheVariants.{Fixed, Variable}
use Rattle.standard.specs.declared.Span.{Span}
use Rattle.standard.proofs.Join.{next-between}
use Rattle.layout.specs.Tree.{tree_of}
use Rattle.layout.specs.Legal.{Legal}
use Rattle.layout.proofs.Trees.{legal_tree}
use Rattle.message.specs.Read.{plus, read_item}
use Rattle.message.specs.Steps.{Small}
use Rattle.message.specs.declared.Counts.{Counts}
use Rattle.message.proofs.Bounds.{Within, room, room_least, room_span, item_in, tree_depth}
use Rattle.std.specs.declared.result.Result.TheVariants.{Ok}

-- The bytes that fields from the position p on take: their fixed portion, and what lies behind the next offset
unfoldable pub spread : List Head → List ℕ → ℕ → ℕ
spread hs b p = portion hs + (length b - next hs b p)

-- What is counted, with so many bytes left of the whole
pub record Summed (sum : Counts) (left whole : ℕ) : Type 0 where
  pub records : sum.records + 64 * left ≤ 1 + 64 * whole
  pub words : sum.words + 64 * left ≤ 1 + 64 * whole
  pub bytes : sum.bytes + 64 * left ≤ 1 + 64 * whole

pub summed-own : (own : ℕ) → own ≤ 1 → (n : ℕ) → Summed (record { records = 1; words = own; bytes = 0 }) n n
summed-own own h n = record { records = omega arith; words = omega arith; bytes = omega arith }

pub summed-small : (sum : Counts) (left whole : ℕ) → Summed sum left whole → whole < 2 ^ 33 → Small sum (2 ^ 50)
summed-small sum left whole g h =
    record { records = omega (arith, g.records); words = omega (arith, g.words); bytes = omega (arith, g.bytes) }

summed-next : (sum c : Counts) (r m left whole : ℕ) → Summed sum (r + left) whole → Within c (64 * r) m → m ≤ r → Summed (plus sum c) left whole
summed-next sum c r m left whole g k h =
    record { records = omega (arith, g.records, k.0); words = omega (arith, g.words, k.1); bytes = omega (arith, g.bytes, k.2) }

-- The fixed portion and what lies behind the first offset are both within the bytes.
portion-within : (hs : List Head) (b : List ℕ) (p prev : ℕ) → InRange hs b p prev → p ≤ length b → p + portion hs ≤ length b
unfolding InRange portion width
portion-within [] b p prev r h = omega arith
portion-within (Fixed n ∷ hs) b p prev r h = let q = portion-within hs b (p + n) prev r.1 r.0 in omega arith
portion-within (Variable ∷ hs) b p prev r h = let q = portion-within hs b (p + 4) _ r.3 r.0 in omega arith

pub spread-small : (hs : List Head) (b : List ℕ) → InRange hs b 0 0 → length b < 2 ^ 32 → spread hs b 0 < 2 ^ 33
unfolding spread
spread-small hs b r h = let q = portion-within hs b 0 0 r (omega arith) in omega arith

-- The first field's bytes and the rest's make up the whole's.
spread-first : (h : Head) (hs : List Head) (b : List ℕ) (p : ℕ) → InRange (h ∷ hs) b p 0 →
    room h (part b (span_of h hs b p)) + spread hs b (span_of h hs b p).next ≡ spread (h ∷ hs) b p
unfolding spread portion
spread-first h hs b p r =
    let k = next-between (h ∷ hs) b p 0 r in
    let j = room_span h hs b p (length b - next (h ∷ hs) b p) r (omega arith) in
    let e : length b - next hs b (span_of h hs b p).next ≡ j.0 = omega (arith, j.1) in
    rw e j.2

-- One item more
module _ (l : List ℕ) (f : ℕ) (hs : List Head) (b : List ℕ) (p : ℕ) (g : Legal l (f + 1)) (few : f < 64) (r : InRange (head (tree_of l f) ∷ hs) b p 0) where
  pub summed-item :
      (w : Span) → w ≡ span_of (head (tree_of l f)) hs b p → (s : ℕ) (sum c : Counts) (whole : ℕ)
      → Summed sum (spread (head (tree_of l f) ∷ hs) b p) whole → read_item (tree_of l f) (part b w) s ≡ Ok c
      → Summed (plus sum c) (spread hs b w.next) whole
  summed-item w q s sum c whole x e =
      let d = tree_depth l (f + 1) f g (omega arith) in
      let k = item_in (tree_of l f) (part b w) s 64 c (legal_tree l (f + 1) f g (omega arith)) (omega arith) e in
      let i : room (head (tree_of l f)) (part b w) + spread hs b w.next ≡ spread (head (tree_of l f) ∷ hs) b p = rw q (spread-first _ hs b p r) in
      summed-next sum c _ _ _ whole (rw (← i) at x) k (room_least (head (tree_of l f)) (part b w))
