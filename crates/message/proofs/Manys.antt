-- The elements of an accepted list or vector, by one law over both kinds: as many as `many_in_lem` says, they are accepted where they lie.
-- Assumes nothing.
--     many-elements    a list says so many itself
--     many-held        where they lie, that they are accepted, and that listing and body bytes are theirs
--     many-row         they are a row
use mathlib.Core.Path.{◌≡◌, refl, ap}
use mathlib.Core.List.{List, ◌++◌}
use mathlib.Core.Bool.{true, false}
use Prim.Native.Nat.{ℕ, zero, suc, ◌+◌, ◌≤◌, ◌<◌, ◌^◌}
use native.Mathlib.Omega.{arith}
use lib.ListN.{length, replicate}
use Rattle.standard.specs.Choice.{pick}
use Rattle.standard.specs.Bytes.{word_at}
use Rattle.standard.specs.Types.{head}
use Rattle.standard.specs.Parts.{InRange}
use Rattle.standard.specs.declared.Head.{Head}
use Rattle.standard.specs.declared.Head.TheVariants.{Fixed, Variable}
use Rattle.layout.specs.Tree.{node_of, tree_of}
use Rattle.layout.specs.declared.Node.{Node}
use Rattle.message.specs.Read.{one, elements, many_of, read_item, read_fields}
use Rattle.message.specs.Listing.{entry, list_item_lem, list_fields_lem}
use Rattle.message.specs.Unfold.{unfold_bytes, bytes_fields}
use Rattle.message.specs.Steps.{Under, Row, row_of, heads_of, many_in_lem, IsAccepted, is_vector}
use Rattle.message.proofs.Answers.{then_both, built-both, many-both}
use Rattle.message.proofs.Copies.{TakesBytes, Laid, elements_laid, vector-laid}
use Rattle.message.proofs.Repeats.{else_list, element-some, element-heads, element-row, list_read, list-listed, list-bytes, vector-read, vector-listed, vector-bytes}
use Rattle.standard.specs.declared.Refusal.{Refusal}
use Rattle.std.specs.declared.result.Result.{Result}
use Rattle.std.specs.declared.result.Result.TheVariants.{Ok}
use Rattle.layout.specs.declared.Kind.{Kind}
use Rattle.layout.specs.Kinds.{is_leaf, has_element}

-- m elements of the type t, whose words are n, lie in b and are accepted; the listing and the body bytes of b are theirs.
pub record Held (l : List ℕ) (t : ℕ) (n : Node) (m : ℕ) (b : List ℕ) (s : ℕ) : Type 0 where
  pub laid : Laid (replicate m (head (tree_of l n.second))) b
  pub accepted : IsAccepted (read_fields (row_of l t (n.at + 1) 0 m) b 0 s)
  pub listed : list_item_lem (tree_of l t) b s ≡ entry t b s ++ list_fields_lem (row_of l t (n.at + 1) 0 m) b 0 s
  pub bytes : unfold_bytes (tree_of l t) b ≡ bytes_fields (row_of l t (n.at + 1) 0 m) b 0

-- A kind that is no leaf's, no container's and no union's
pub several : (k : Kind) → is_leaf k ≡ false → (k ≡ Kind.Container → ⊥) → (k ≡ Kind.Union → ⊥) → has_element k ≡ true
several Kind.Container h i j = absurd (i refl)
several Kind.Union h i j = absurd (j refl)
several Kind.List h i j = refl
several Kind.Vector h i j = refl
several k h i j = absurd (cc)

-- An element takes at least a byte.
range_few : (m : ℕ) (h : Head) → TakesBytes h → (b : List ℕ) (p prev : ℕ) → p ≤ length b → InRange (replicate m h) b p prev → p + m ≤ length b
unfolding InRange
range_few zero h i b p prev k r = omega arith
range_few (suc m) (Fixed w) i b p prev k r = omega (arith, i w refl, range_few m (Fixed w) i b (p + w) prev r.0 r.1)
range_few (suc m) Variable i b p prev k r = omega (arith, range_few m Variable i b (p + 4) _ r.0 r.3)

module _ (lens l : List ℕ) (t : ℕ) (n : Node) (e : n ≡ node_of l t) (g : Under lens l (t + 1)) (k : has_element n.kind ≡ true) (b : List ℕ) (s : ℕ)
    (h : IsAccepted (read_item (tree_of l t) b s)) where
  -- what a list says of its elements
  abbrev said : Result ℕ Refusal
  said = elements (head (tree_of l n.second)) (word_at l (n.at + 2)) b

  abbrev many : ℕ
  many = many_in_lem l n (head (tree_of l n.second)) b

  list-many : n.kind ≡ Kind.List → (m : ℕ) × (said ≡ Ok m) × IsAccepted (read_fields (row_of l t (n.at + 1) 0 m) b 0 s)
  list-many q =
      let p = many-both said t s _ (rw (list_read lens l t n e g k q b s) at h) in
      (p.0, p.1, (then_both (one 1 0) (read_fields (row_of l t (n.at + 1) 0 p.0) b 0 s) p.2).1)

  pub many-elements : (n.kind ≡ Kind.Vector → ⊥) → said ≡ Ok many
  many-elements z =
      let p = list-many (else_list lens l t n e g k z) in
      rw (else_list lens l t n e g k z, p.1)

  list_held : n.kind ≡ Kind.List → Held l t n (many_of said) b s
  list_held q =
      let p = list-many q in
      let c : many_of said ≡ p.0 = ap many_of p.1 in
      record {
        laid = rw c (elements_laid _ _ b p.0 (element-some lens l t n e g k) p.1).0;
        accepted = rw c p.2;
        listed = list-listed lens l t n e g k q b s;
        bytes = list-bytes lens l t n e g k q b;
      }

  vector-held : n.kind ≡ Kind.Vector → Held l t n (word_at l (n.at + 2)) b s
  vector-held q =
      let p = built-both _ t s _ (rw (vector-read lens l t n e g k q b s) at h) in
      record {
        laid = vector-laid _ _ b p.0;
        accepted = (then_both (one 0 0) (read_fields (row_of l t (n.at + 1) 0 (word_at l (n.at + 2))) b 0 s) p.1).1;
        listed = vector-listed lens l t n e g k q b s;
        bytes = vector-bytes lens l t n e g k q b;
      }

  pub many-held : Held l t n many b s
  many-held = go n.kind refl k
    where
      go : (i : Kind) → n.kind ≡ i → has_element i ≡ true → Held l t n (pick (is_vector i) (word_at l (n.at + 2)) (many_of said)) b s
      go Kind.Vector q c = vector-held q
      go Kind.List q c = list_held q
      go i q c = absurd (cc)

  pub many-ranges : InRange (heads_of l t (n.at + 1) 0 many) b 0 0
  many-ranges = rw (element-heads lens l t n e g k many) many-held.laid.ranges

  -- each takes a byte, so there are no more than bytes
  pub many-few : many ≤ length b
  many-few = omega (arith, range_few many _ (element-some lens l t n e g k) b 0 0 (omega arith) many-held.laid.ranges)

  pub many-row : length b < 2 ^ 32 → Row lens l t (n.at + 1) 0 many
  many-row z = element-row lens l t n e g k many (omega (arith, many-few))
