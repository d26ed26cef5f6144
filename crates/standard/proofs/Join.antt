-- A container's parts: splitting and joining undo one another. The parts stand in the bytes as two rows, the fronts from a
-- position on and the backs from an offset on; every law here goes along both rows at once. Assumes nothing.
use mathlib.Core.Path.{◌≡◌, refl, sym, ap, ◌∙◌}
use mathlib.Core.List.{List, [], ◌∷◌, ◌++◌, append_assoc}
use Prim.Native.Nat.{ℕ, ◌+◌, ◌-◌, ◌≤◌, ◌<◌, ◌^◌}
use native.Mathlib.Omega.{arith}
use lib.ListN.{length, take, drop, length-append, length-take, length-drop, take-append-drop}
use lib.Seq.{take-add, drop-drop, take_at, drop_at, drop-length}
use Rattle.standard.specs.Bytes.{Bytes, le, four}
use Rattle.standard.specs.Types.{width, portion}
use Rattle.standard.specs.Parts.{Part, piece, fixed_lengths, fronts, backs, join, part_heads, next, span_of, split, InRange}
use Rattle.standard.specs.declared.Head.{Head}
use Rattle.standard.specs.declared.Head.TheVariants.{Fixed, Variable}
use Rattle.standard.proofs.Bytes.{length-le, le-num_at, num_at-le, num_at-drop}

-- Ranges.
pub range_weaken : (hs : List Head) (b : List ℕ) (p m n : ℕ) → m ≤ n → InRange hs b p n → InRange hs b p m
unfolding InRange
range_weaken [] b p m n h r = omega arith
range_weaken (Fixed k ∷ hs) b p m n h r = (r.0, range_weaken hs b (p + k) m n h r.1)
range_weaken (Variable ∷ hs) b p m n h r = (r.0, r.1, omega arith, r.3)

pub next-between : (hs : List Head) (b : List ℕ) (p n : ℕ) → InRange hs b p n → (n ≤ next hs b p) × (next hs b p ≤ length b)
unfolding InRange next
next-between [] b p n r = omega arith
next-between (Fixed k ∷ hs) b p n r = next-between hs b (p + k) n r.1
next-between (Variable ∷ hs) b p n r = (r.2, r.1)

-- Where the first item lies, and what is left.
pub span_ranges : (h : Head) (hs : List Head) (b : List ℕ) (p : ℕ) → InRange (h ∷ hs) b p 0 →
    ((span_of h hs b p).from ≤ (span_of h hs b p).to) × ((span_of h hs b p).to ≤ length b) × InRange hs b (span_of h hs b p).next 0
unfolding InRange
span_ranges (Fixed n) hs b p r = (omega arith, r.0, r.1)
span_ranges Variable hs b p r =
    let q = next-between hs b (p + 4) _ r.3 in
    (q.0, q.1, range_weaken hs b (p + 4) 0 (four b p) (omega arith) r.3)

-- Joining what was split.
pub heads-split : (hs : List Head) (b : List ℕ) (p : ℕ) → part_heads (split hs b p) ≡ hs
unfolding part_heads split
heads-split [] b p = refl
heads-split (h ∷ hs) b p = ap (λ (t : List Head). h ∷ t) (heads-split hs b (span_of h hs b p).next)

backs-split : (hs : List Head) (b : List ℕ) (p n : ℕ) → InRange hs b p n → backs (split hs b p) ≡ drop (next hs b p) b
unfolding backs split next InRange
backs-split [] b p n r = sym (drop-length b)
backs-split (Fixed k ∷ hs) b p n r = backs-split hs b (p + k) n r.1
backs-split (Variable ∷ hs) b p n r =
    let q = next-between hs b (p + 4) _ r.3 in
    let e : four b p + (next hs b (p + 4) - four b p) ≡ next hs b (p + 4) = omega arith in
    rw (backs-split hs b (p + 4) _ r.3)
    (ap (λ (i : ℕ). take (next hs b (p + 4) - four b p) (drop (four b p) b) ++ drop i b) (sym e)
    ∙ rw (← drop-drop) (take-append-drop (next hs b (p + 4) - four b p) (drop (four b p) b)))

fronts-split : (hs : List Head) (b : List ℕ) (p n : ℕ) → Bytes b → InRange hs b p n → fronts (split hs b p) (next hs b p) ≡ take (portion hs) (drop p b)
unfolding fronts split next InRange portion width
fronts-split [] b p n h r = refl
fronts-split (Fixed k ∷ hs) b p n h r =
    let e : p + k - p ≡ k = omega arith in
    rw (e, fronts-split hs b (p + k) n h r.1, take-add, drop-drop)
fronts-split (Variable ∷ hs) b p n h r =
    let q = next-between hs b (p + 4) _ r.3 in
    let e : four b p + length (take (next hs b (p + 4) - four b p) (drop (four b p) b)) ≡ next hs b (p + 4) = simp (length-take, length-drop) (omega arith) in
    rw (e, fronts-split hs b (p + 4) _ h r.3, le-num_at 4 b p h r.0, take-add, drop-drop)

fixed-split : (hs : List Head) (b : List ℕ) (p n : ℕ) → InRange hs b p n → fixed_lengths (split hs b p) ≡ portion hs
unfolding fixed_lengths split InRange portion width
fixed-split [] b p n r = refl
fixed-split (Fixed k ∷ hs) b p n r = simp (length-take, length-drop) (omega (arith, r.0, fixed-split hs b (p + k) n r.1))
fixed-split (Variable ∷ hs) b p n r = ap (λ (k : ℕ). 4 + k) (fixed-split hs b (p + 4) (four b p) r.3)

-- What lies in range, with the first variable part right behind the fixed portion, is the join of its parts.
pub join-split : (hs : List Head) (b : List ℕ) → Bytes b → InRange hs b 0 0 → next hs b 0 ≡ portion hs → join (split hs b 0) ≡ b
unfolding join
join-split hs b h r n =
    rw (fixed-split hs b 0 0 r, ← n, backs-split hs b 0 0 r, fronts-split hs b 0 0 h r, n)
    (take-append-drop (portion hs) b)

-- A part has the length that its head says.
unfoldable pub Size : Head → List ℕ → Type 0
Size (Fixed n) s = length s ≡ n
Size Variable s = Unit {0}

unfoldable pub Sized : List Part → Type 0
Sized [] = Unit {0}
Sized (piece h s ∷ xs) = Size h s × Sized xs

pub fixed-portion : (xs : List Part) → Sized xs → fixed_lengths xs ≡ portion (part_heads xs)
unfolding Sized Size fixed_lengths part_heads portion width
fixed-portion [] z = refl
fixed-portion (piece (Fixed n) s ∷ xs) z = omega (arith, z.0, fixed-portion xs z.1)
fixed-portion (piece Variable s ∷ xs) z = ap (λ (k : ℕ). 4 + k) (fixed-portion xs z.1)

pub length-fronts : (xs : List Part) (off : ℕ) → length (fronts xs off) ≡ fixed_lengths xs
unfolding fronts fixed_lengths
length-fronts [] off = refl
length-fronts (piece (Fixed n) s ∷ xs) off = simp length-append (omega (arith, length-fronts xs off))
length-fronts (piece Variable s ∷ xs) off = simp (length-append, length-le) (omega (arith, length-fronts xs (off + length s)))

pub length-join : (xs : List Part) → length (join xs) ≡ fixed_lengths xs + length (backs xs)
unfolding join
length-join xs = simp (length-append, length-fronts)

-- Splitting what was joined. The parts xs stand in b: their fronts from p on, their backs from off to the end.
record Stand (xs : List Part) (b : List ℕ) (p off : ℕ) (rest : List ℕ) : Type 0 where
  fronts-at : drop p b ≡ fronts xs off ++ rest
  backs-at : drop off b ≡ backs xs
  p_in : p ≤ length b
  off_in : off ≤ length b

module _ (b : List ℕ) (small : length b < 2 ^ 32) where
  stand_fixed : (n : ℕ) (s : List ℕ) (xs : List Part) (p off : ℕ) (rest : List ℕ) → length s ≡ n → Stand (piece (Fixed n) s ∷ xs) b p off rest →
      (p + n ≤ length b) × (take n (drop p b) ≡ s) × Stand xs b (p + n) off rest
  unfolding fronts backs
  stand_fixed n s xs p off rest e g =
      let h = g.fronts-at ∙ append_assoc s (fronts xs off) rest in
      let k = simp (length-drop, length-append) at (ap length h) in (
        omega (arith, g.p_in),
        rw h (take_at s (fronts xs off ++ rest) n e),
        record {
          fronts-at = sym (drop-drop n p b) ∙ ap (drop n) h ∙ drop_at s (fronts xs off ++ rest) n e;
          backs-at = g.backs-at;
          p_in = omega (arith, g.p_in);
          off_in = g.off_in;
        },
      )

  stand_variable : (s : List ℕ) (xs : List Part) (p off : ℕ) (rest : List ℕ) → Stand (piece Variable s ∷ xs) b p off rest →
      (p + 4 ≤ length b) × (four b p ≡ off) × (take (length s) (drop off b) ≡ s) × (off + length s ≤ length b) ×
      Stand xs b (p + 4) (off + length s) rest
  unfolding fronts backs
  stand_variable s xs p off rest g =
      let h = g.fronts-at ∙ append_assoc (le 4 off) (fronts xs (off + length s)) rest in
      let k = simp (length-drop, length-append, length-le) at (ap length h) in
      let j = simp (length-drop, length-append) at (ap length g.backs-at) in (
        omega (arith, g.p_in),
        sym (num_at-drop 4 b p) ∙ rw h (num_at-le 4 off _ (omega (arith, g.off_in))),
        rw g.backs-at (take_at s (backs xs) (length s) refl),
        omega (arith, g.off_in),
        record {
          fronts-at = sym (drop-drop 4 p b) ∙ ap (drop 4) h ∙ drop_at (le 4 off) (fronts xs (off + length s) ++ rest) 4 (length-le 4 off);
          backs-at = sym (drop-drop (length s) off b) ∙ ap (drop (length s)) g.backs-at ∙ drop_at s (backs xs) (length s) refl;
          p_in = omega (arith, g.p_in);
          off_in = omega (arith, g.off_in);
        },
      )

  stand_split : (xs : List Part) (p off : ℕ) (rest : List ℕ) → Sized xs → Stand xs b p off rest →
      (next (part_heads xs) b p ≡ off) × (split (part_heads xs) b p ≡ xs) × InRange (part_heads xs) b p off
  unfolding Sized Size part_heads next split InRange backs
  stand_split [] p off rest z g =
      let j = simp length-drop at (ap length g.backs-at) in
      (omega (arith, g.off_in), refl, g.off_in)
  stand_split (piece (Fixed n) s ∷ xs) p off rest z g =
      let q = stand_fixed n s xs p off rest z.0 g in
      let r = stand_split xs (p + n) off rest z.1 q.2 in
      let e : p + n - p ≡ n = omega arith in
      (r.0, rw (e, q.1, r.1), (q.0, r.2))
  stand_split (piece Variable s ∷ xs) p off rest z g =
      let q = stand_variable s xs p off rest g in
      let r = stand_split xs (p + 4) (off + length s) rest z.1 q.4 in
      let e : off + length s - off ≡ length s = omega arith in (
        q.1,
        rw (q.1, r.0, e, q.2, r.1),
        rw q.1 (q.0, omega (arith, q.3), omega arith, range_weaken (part_heads xs) b (p + 4) off (off + length s) (omega arith) r.2),
      )

module _ (xs : List Part) (z : Sized xs) (small : length (join xs) < 2 ^ 32) where
  join_stands : (next (part_heads xs) (join xs) 0 ≡ fixed_lengths xs) × (split (part_heads xs) (join xs) 0 ≡ xs) ×
      InRange (part_heads xs) (join xs) 0 (fixed_lengths xs)
  unfolding join
  join_stands =
      let k = length-fronts xs (fixed_lengths xs) in
      stand_split (fronts xs (fixed_lengths xs) ++ backs xs) small xs 0 (fixed_lengths xs) (backs xs) z
      (record {
        fronts-at = refl;
        backs-at = drop_at (fronts xs (fixed_lengths xs)) (backs xs) (fixed_lengths xs) k;
        p_in = omega arith;
        off_in = simp length-append (omega arith);
      })

  pub join-ranges : InRange (part_heads xs) (join xs) 0 0
  join-ranges = range_weaken (part_heads xs) (join xs) 0 0 (fixed_lengths xs) (omega arith) join_stands.2

  pub join-next : next (part_heads xs) (join xs) 0 ≡ portion (part_heads xs)
  join-next = join_stands.0 ∙ fixed-portion xs z

  pub split-join : split (part_heads xs) (join xs) 0 ≡ xs
  split-join = join_stands.1

pub join-injective : (xs ys : List Part) → Sized xs → Sized ys → length (join xs) < 2 ^ 32 → part_heads xs ≡ part_heads ys → join xs ≡ join ys → xs ≡ ys
join-injective xs ys z w small h e = sym (split-join xs z small) ∙ rw (h, e) (split-join ys w (rw (← e) small))

-- Each part is below 2^32 bytes.
unfoldable pub Small : List Part → Type 0
Small [] = Unit {0}
Small (piece h s ∷ xs) = (length s < 2 ^ 32) × Small xs

small-split : (hs : List Head) (b : List ℕ) (p : ℕ) → length b < 2 ^ 32 → Small (split hs b p)
unfolding Small split
small-split [] b p h = tt
small-split (k ∷ hs) b p h = (simp (length-take, length-drop) (omega arith), small-split hs b (span_of k hs b p).next h)

pub small-join : (xs : List Part) → Sized xs → length (join xs) < 2 ^ 32 → Small xs
small-join xs z k = rw (split-join xs z k) at (small-split (part_heads xs) (join xs) 0 k)
