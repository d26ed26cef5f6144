-- The parts of a container, list or vector, joined and taken apart. Assumes nothing: these are definitions.
use Rattle.std.specs.Prelude.{ℕ, ◌+◌, ◌-◌, ◌≤◌, List, [], ◌∷◌, ◌++◌, length, take, drop}
use Rattle.standard.specs.Bytes.{le, four}
use Rattle.standard.specs.declared.Head.{Head}
use Rattle.standard.specs.declared.Head.TheVariants.{Fixed, Variable}
use Rattle.standard.specs.declared.Span.{Span}

-- An element's serialization, and what stands for it in the fixed portion
pub data Part : Type 0 where
  piece : Head → List ℕ → Part

-- Elements of one type: each has this head, and `of` is its serialization.
unfoldable pub alike : {A : Type 0} → Head → (A → List ℕ) → List A → List Part
alike h of [] = []
alike h of (v ∷ vs) = piece h (of v) ∷ alike h of vs

-- fixed_lengths: the length of a fixed part, four for an offset
unfoldable pub fixed_lengths : List Part → ℕ
fixed_lengths [] = 0
fixed_lengths (piece (Fixed n) s ∷ xs) = length s + fixed_lengths xs
fixed_lengths (piece Variable s ∷ xs) = 4 + fixed_lengths xs

-- fixed_parts, with the offset for each variable part: the next variable part comes at off
unfoldable pub fronts : List Part → ℕ → List ℕ
fronts [] off = []
fronts (piece (Fixed n) s ∷ xs) off = s ++ fronts xs off
fronts (piece Variable s ∷ xs) off = le 4 off ++ fronts xs (off + length s)

-- variable_parts
unfoldable pub backs : List Part → List ℕ
backs [] = []
backs (piece (Fixed n) s ∷ xs) = backs xs
backs (piece Variable s ∷ xs) = s ++ backs xs

-- "Vectors, containers, lists": the fixed parts, then the variable parts
unfoldable pub join : List Part → List ℕ
join xs = fronts xs (fixed_lengths xs) ++ backs xs

unfoldable pub part_heads : List Part → List Head
part_heads [] = []
part_heads (piece h s ∷ xs) = h ∷ part_heads xs

-- Where the next variable item starts, from the position p on: at the next offset, or at the end
unfoldable pub next : List Head → List ℕ → ℕ → ℕ
next [] b p = length b
next (Fixed n ∷ hs) b p = next hs b (p + n)
next (Variable ∷ hs) b p = four b p

-- Where a field with this head at position p lies, with the heads behind it, and where the next one's head is
abbrev pub span_of : Head → List Head → List ℕ → ℕ → Span
span_of (Fixed n) hs b p = record { from = p; to = p + n; next = p + n }
span_of Variable hs b p = record { from = four b p; to = next hs b (p + 4); next = p + 4 }

abbrev pub part : List ℕ → Span → List ℕ
part b w = take (w.to - w.from) (drop w.from b)

-- The parts that the heads from position p on have in b
unfoldable pub split : List Head → List ℕ → ℕ → List Part
split [] b p = []
split (h ∷ hs) b p = piece h (part b (span_of h hs b p)) ∷ split hs b (span_of h hs b p).next

-- The ranges of the heads from p on lie within b, the variable ones in order from prev on.
unfoldable pub InRange : List Head → List ℕ → ℕ → ℕ → Type 0
InRange [] b p prev = prev ≤ length b
InRange (Fixed n ∷ hs) b p prev = (p + n ≤ length b) × InRange hs b (p + n) prev
InRange (Variable ∷ hs) b p prev =
    (p + 4 ≤ length b) × (four b p ≤ length b) × (prev ≤ four b p) × InRange hs b (p + 4) (four b p)
