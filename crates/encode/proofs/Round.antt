-- What the encoder wrote for some parts, the builder takes apart into the same parts. Assumes nothing.
use mathlib.Core.Path.{◌≡◌, refl, ap, ◌∙◌}
use mathlib.Core.List.{List, [], ◌∷◌}
use Prim.Native.Nat.{ℕ, suc, ◌+◌, ◌≤◌, ◌<◌}
use native.Mathlib.Omega.{arith}
use lib.ListN.{length, take, drop, get_or}
use lib.Seq.{sets-eq, take_at}
use Rattle.standard.specs.Parts.{Part, piece, join, part_heads, split}
use Rattle.standard.proofs.Join.{Sized, join-ranges, join-next, split-join}
use Rattle.decode.specs.Heads.{state_of, pieces}
use Rattle.decode.specs.Reader.{ranges, item_of}
use Rattle.decode.proofs.Register.{layout-passes}
use Rattle.decode.proofs.Spans.{Reads, reads}
use Rattle.encode.specs.Whole.{ending, encoded, Fitting}
use Rattle.encode.proofs.Container.{encoded_buffer}

-- The bytes that the encoder says are the container's
abbrev pub written : List Part → List ℕ → List ℕ → List ℕ
written xs f v = take (length (join xs)) (ending (encoded xs f v))

pub written-joined : (xs : List Part) (f v : List ℕ) → Fitting xs f v → written xs f v ≡ join xs
written-joined xs f v g =
    rw (encoded_buffer xs f v g, sets-eq (join xs) f 0 (omega (arith, g.front)))
    (take_at (join xs) (drop (0 + length (join xs)) f) (length (join xs)) refl)

length-heads : (xs : List Part) → length (part_heads xs) ≡ length xs
unfolding part_heads
length-heads [] = refl
length-heads (piece h s ∷ xs) = ap suc (length-heads xs)

module _ (xs : List Part) (f v : List ℕ) (g : Fitting xs f v) (z : Sized xs) (few : length xs ≤ 64) where
  -- Registered by its heads, built and read, what was written comes apart as its split,
  pub read_back : Reads (part_heads xs) (written xs f v)
  read_back =
      let l = length-heads xs in
      let e = layout-passes (part_heads xs) (join xs) g.small (join-ranges xs z g.small) (join-next xs z g.small) in
      rw (written-joined xs f v g) (reads (part_heads xs) (join xs) g.small (omega arith) e)

  -- and that is the parts.
  pub split-back : split (part_heads xs) (written xs f v) 0 ≡ xs
  split-back = rw (written-joined xs f v g) (split-join xs z g.small)

  -- So each item that is read is the part's bytes.
  pub item_back : (i : ℕ) → i < length xs
      → item_of (ranges (state_of (part_heads xs) (written xs f v)) (length (written xs f v))) i (written xs f v) ≡ get_or (pieces xs) i []
  item_back i h =
      let l = length-heads xs in
      let r = (read_back.items i (omega arith)).1 in
      r ∙ ap (λ (ys : List Part). get_or (pieces ys) i []) split-back
