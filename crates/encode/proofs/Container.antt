-- Encoding the parts of a container gives their join, and so the serialization of its value. Assumes nothing.
use mathlib.Core.Path.{◌≡◌, refl}
use mathlib.Core.List.{List, [], ◌∷◌}
use Prim.Native.Nat.{ℕ, ◌+◌, ◌≤◌}
use native.Mathlib.Nat.{add-zero, zero-add, add_assoc}
use native.Mathlib.Omega.{arith}
use borrow.Author.Tests.{le-leb}
use lib.ListN.{length, take, drop, length-append}
use lib.Seq.{sets, length-sets, sets-eq, take_at}
use Rattle.standard.specs.Bytes.{le}
use Rattle.standard.specs.Parts.{Part, piece, fixed_lengths, fronts, backs, join}
use Rattle.standard.specs.Types.{Tys, container}
use Rattle.standard.specs.Serialize.{Vals, serialize, parts}
use Rattle.standard.specs.declared.Head.TheVariants.{Fixed, Variable}
use Rattle.standard.proofs.Bytes.{length-le}
use Rattle.standard.proofs.Store.{sets-append}
use Rattle.standard.proofs.Join.{length-fronts, length-join}
use Rattle.encode.specs.Encoder.{container as empty, after, append_fixed_lem, append_variable_lem}
use Rattle.encode.specs.Finish.{finalize}
use Rattle.encode.specs.Whole.{going, append_all_lem, closed, ending, encoded, Fitting}
use Rattle.encode.specs.declared.encoder.SszEncoder.{SszEncoder}
use Rattle.std.specs.declared.result.Result.TheVariants.{Ok}

-- One part, where there is room.
module _ (x : SszEncoder) (s f v : List ℕ) where
  fixed-next : x.fixed_used + length s ≤ length f → x.variable_used ≤ length v
      → append_fixed_lem x s f v ≡ Ok (after x (x.fixed_used + length s) x.variable_used)
  unfolding append_fixed_lem
  fixed-next h k =
      let i : x.fixed_used ≤ length f = omega arith in
      rw (le-leb _ _ i, le-leb _ _ k, le-leb _ _ h)

  variable_next : x.fixed_used + 4 ≤ length f → x.variable_used + length s ≤ length v → x.offset + x.variable_used ≤ 4294967295
      → append_variable_lem x s f v ≡ Ok (after x (x.fixed_used + 4) (x.variable_used + length s))
  unfolding append_variable_lem
  variable_next h k o =
      let i : x.fixed_used ≤ length f = omega arith in
      let j : x.variable_used ≤ length v = omega arith in
      rw (le-leb _ _ i, le-leb _ _ j, le-leb _ _ o, le-leb _ _ h, le-leb _ _ k)

-- There is room for the parts behind what is used, and their offsets fit.
record Ahead (xs : List Part) (x : SszEncoder) (f v : List ℕ) : Type 0 where
  front : x.fixed_used + fixed_lengths xs ≤ length f
  back : x.variable_used + length (backs xs) ≤ length v
  small : x.offset + x.variable_used + length (backs xs) ≤ 4294967295

-- The parts behind what is used: their fronts in the one buffer, their backs in the other.
filled : List Part → SszEncoder → List ℕ → List ℕ → Type 0
filled xs x f v =
    append_all_lem xs x f v
    ≡ going (after x (x.fixed_used + fixed_lengths xs) (x.variable_used + length (backs xs)))
    (sets f x.fixed_used (fronts xs (x.offset + x.variable_used)))
    (sets v x.variable_used (backs xs))

appends : (xs : List Part) (x : SszEncoder) (f v : List ℕ) → Ahead xs x f v → filled xs x f v
unfolding filled append_all_lem fixed_lengths fronts backs
appends [] x f v g = simp add-zero
appends (piece (Fixed n) s ∷ xs) x f v g =
    let used = x.fixed_used in
    let e = fixed-next x s f v (omega (arith, g.front)) (omega (arith, g.back)) in
    let r = appends xs (after x (used + length s) x.variable_used) (sets f used s) v (record {
      front = rw length-sets (omega (arith, g.front));
      back = g.back;
      small = g.small;
    }) in
    rw (e, r, sets-append s _ f used, add_assoc used (length s) (fixed_lengths xs))
appends (piece Variable s ∷ xs) x f v g =
    let used = x.fixed_used in
    let held = x.variable_used in
    let l = simp length-append at g.back in
    let m = simp length-append at g.small in
    let e = variable_next x s f v (omega (arith, g.front)) (omega arith) (omega arith) in
    let r = appends xs (after x (used + 4) (held + length s)) (sets f used (le 4 (x.offset + held))) (sets v held s) (record {
      front = rw length-sets (omega (arith, g.front));
      back = rw length-sets (omega arith);
      small = omega arith;
    }) in
    let o = add_assoc x.offset held (length s) in
    let p = sets-append (le 4 (x.offset + held)) (fronts xs (x.offset + held + length s)) f used in
    let q = rw length-le at p in
    rw (e, r, add_assoc used 4 (fixed_lengths xs), ← o, q, sets-append s (backs xs) v held, length-append, add_assoc held (length s) (length (backs xs)))

-- The whole.
module _ (xs : List Part) (f v : List ℕ) (g : Fitting xs f v) where
  last : SszEncoder
  last = after (empty (fixed_lengths xs)) (fixed_lengths xs) (length (backs xs))

  all-appended : encoded xs f v ≡ going last (sets f 0 (fronts xs (fixed_lengths xs))) (sets v 0 (backs xs))
  unfolding last filled
  all-appended =
      let l = length-join xs in
      let a : Ahead xs (empty (fixed_lengths xs)) f v = record
      { front = omega (arith, g.front); back = omega (arith, g.back); small = omega (arith, g.small) } in
      simp (zero-add, add-zero) at (appends xs (empty (fixed_lengths xs)) f v a)

  finalized : finalize last (sets f 0 (fronts xs (fixed_lengths xs))) (sets v 0 (backs xs)) ≡ Ok (length (join xs))
  unfolding last finalize
  finalized =
      let l = length-join xs in
      let i : fixed_lengths xs ≤ length (sets f 0 (fronts xs (fixed_lengths xs))) = rw length-sets (omega (arith, g.front)) in
      let j : length (backs xs) ≤ length (sets v 0 (backs xs)) = rw length-sets g.back in
      let k : fixed_lengths xs + length (backs xs) ≤ length (sets f 0 (fronts xs (fixed_lengths xs))) = rw length-sets (omega (arith, g.front)) in
      rw (le-leb _ _ i, le-leb _ _ j, le-leb _ _ k, l)

  backs-kept : take (length (backs xs)) (sets v 0 (backs xs)) ≡ backs xs
  backs-kept =
      rw (sets-eq (backs xs) v 0 (omega (arith, g.back)))
      (take_at (backs xs) (drop (0 + length (backs xs)) v) (length (backs xs)) refl)

  -- The answer is the length of the parts' join,
  pub encoded-length : closed (encoded xs f v) ≡ Ok (length (join xs))
  encoded-length = rw all-appended finalized

  -- and the fixed buffer has the join at its start, and is else kept.
  pub encoded_buffer : ending (encoded xs f v) ≡ sets f 0 (join xs)
  unfolding join last
  encoded_buffer =
      let n = fixed_lengths xs in
      let s = sets-append (fronts xs n) (backs xs) f 0 in
      rw (all-appended, finalized, backs-kept) (simp (length-fronts, zero-add) at s)

-- Encoding the parts of a container's value writes its serialization.
pub encodes : (t : ℕ) (ts : Tys) (vs : Vals ts) (f v : List ℕ) → Fitting (parts ts vs) f v
    → (closed (encoded (parts ts vs) f v) ≡ Ok (length (serialize (container t ts) vs))) ×
    (ending (encoded (parts ts vs) f v) ≡ sets f 0 (serialize (container t ts) vs))
unfolding serialize
encodes t ts vs f v g = (encoded-length (parts ts vs) f v g, encoded_buffer (parts ts vs) f v g)
