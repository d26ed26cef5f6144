-- Items of fixed size: whatever its kind, such an item unfolds to its own bytes and to no contents words. Assumes nothing.
--     fixed-form      an item that has its type's fixed length
--     fixed-each      elements of fixed size that fill b
--     fixed-long      an accepted item of a type of fixed size has that length
use mathlib.Core.Path.{◌≡◌, refl, sym, ap, ◌∙◌}
use mathlib.Core.List.{List, []}
use mathlib.Core.Bool.{Bool, true, false}
use Prim.Native.Nat.{ℕ, zero, suc, ◌+◌, ◌-◌, ◌*◌}
use native.Mathlib.Omega.{arith}
use borrow.Author.Tests.{eqb-true}
use lib.ListN.{length, take, drop, length-take, length-drop, take-append-drop, drop_of_length-le}
use lib.Seq.{drop-drop}
use lib.Dec.{eqb}
use Rattle.standard.specs.Choice.{pick}
use Rattle.standard.specs.Types.{Ty, Tys, number, boolean, fixed_bytes, free_bytes, bit_vector, bit_list, container, union, list, vector, end, field, head, head_all, heads, joined, times, LegalTy}
use Rattle.standard.specs.Parts.{next}
use Rattle.standard.specs.declared.Head.{Head}
use Rattle.standard.specs.declared.Head.TheVariants.{Fixed, Variable}
use Rattle.standard.specs.declared.Refusal.{Refusal}
use Rattle.standard.proofs.Elements.{All, copies, all-copies}
use Rattle.standard.proofs.Laws.{joined-fixed, fixed-injective, all-fixed}
use Rattle.decode.specs.Builder.{lay_out_lem}
use Rattle.bitfield.specs.Body.{bit_vector_body}
use Rattle.message.specs.Read.{of_vector_lem, vector_told_lem, read_item}
use Rattle.message.specs.Unfold.{each_from, unfold_words, words_fields, unfold_bytes, bytes_fields, Accepts}
use Rattle.message.specs.Steps.{IsAccepted}
use Rattle.message.proofs.Answers.{built-both}
use Rattle.message.proofs.Bounds.{vector-length}
use Rattle.message.proofs.Copies.{words-copies, bytes-copies, laid_out, laid-fixed, vector-laid}
use Rattle.std.specs.Prelude.{⊤}
use Rattle.std.specs.declared.result.Result.{Result}
use Rattle.std.specs.declared.result.Result.TheVariants.{Ok, Err}
use Rattle.message.specs.declared.RefusedAt.{RefusedAt}
use Rattle.message.specs.declared.Counts.{Counts}

not_fixed : {A : Type 0} (k : ℕ) → Variable ≡ Fixed k → A
not_fixed k e = let z : ◌≡◌ {A = ℕ} 0 1 = cc in absurd (omega arith)

-- The law about one type, from it that about a row of fields, and that about elements
FixedForm : Ty → Type 0
FixedForm t = (b : List ℕ) → head t ≡ Fixed (length b) → (unfold_words t b ≡ []) × (unfold_bytes t b ≡ b)

row-form :
    (ts : Tys) → All FixedForm ts → (b : List ℕ) (p m : ℕ) → head_all ts ≡ Fixed m → p + m ≡ length b
    → (words_fields ts b p ≡ []) × (bytes_fields ts b p ≡ drop p b)
unfolding FixedForm head unfold_words unfold_bytes
row-form end f b p m e h = let q : 0 ≡ m = fixed-injective 0 m e in (refl, sym (drop_of_length-le b {i = p} (omega arith)))
row-form (field t ts) f b p m e h =
    let j = joined-fixed (head t) (head_all ts) m e in
    let o = take j.0 (drop p b) in
    let l : length o ≡ j.0 = simp (length-take, length-drop) (omega (arith, j.4)) in
    let x = f.0 o (j.2 ∙ ap Fixed (sym l)) in
    let r = row-form ts f.1 b (p + j.0) j.1 j.3 (omega (arith, j.4)) in
    let i : p + j.0 - p ≡ j.0 = omega arith in (
      rw (j.2, i, x.0, r.0),
      rw (j.2, i, x.1, r.1, ← drop-drop j.0 p b) (take-append-drop j.0 (drop p b)),
    )

copies-head : (e : Ty) (w n : ℕ) → head e ≡ Fixed w → head_all (copies e n) ≡ Fixed (n * w)
unfolding head joined
copies-head e w zero q = ap Fixed (omega arith)
copies-head e w (suc n) q = rw (q, copies-head e w n q) (ap Fixed (omega arith))

copies-form :
    (e : Ty) → FixedForm e → (w n : ℕ) (b : List ℕ) → head e ≡ Fixed w → n * w ≡ length b
    → (words_fields (copies e n) b 0 ≡ []) × (bytes_fields (copies e n) b 0 ≡ b)
copies-form e f w n b q h = row-form (copies e n) (all-copies FixedForm e n f) b 0 (n * w) (copies-head e w n q) (omega arith)

each-form :
    (e : Ty) → FixedForm e → (n : ℕ) (b : List ℕ) → times n (head e) ≡ Fixed (length b)
    → (each_from (λ (x : List ℕ). unfold_words e x) (head e) n b 0 ≡ []) × (each_from (λ (x : List ℕ). unfold_bytes e x) (head e) n b 0 ≡ b)
unfolding times
each-form e f n b = rw (words-copies e n b 0, bytes-copies e n b 0) (go (head e) refl)
  where
    go : (h : Head) → head e ≡ h → times n h ≡ Fixed (length b) → (words_fields (copies e n) b 0 ≡ []) × (bytes_fields (copies e n) b 0 ≡ b)
    go (Fixed w) q i = copies-form e f w n b q (fixed-injective (n * w) (length b) i)
    go Variable q i = not_fixed (length b) i

mutual
  unfolding FixedForm head unfold_words unfold_bytes

  pub fixed-form : (t : Ty) (b : List ℕ) → head t ≡ Fixed (length b) → (unfold_words t b ≡ []) × (unfold_bytes t b ≡ b)
  fixed-form (number t w) b e = (refl, refl)
  fixed-form (boolean t) b e = (refl, refl)
  fixed-form (fixed_bytes t n) b e = (refl, refl)
  fixed-form (free_bytes t limit) b e = not_fixed (length b) e
  fixed-form (bit_vector t n) b e = (refl, refl)
  fixed-form (bit_list t limit) b e = not_fixed (length b) e
  fixed-form (container t ts) b e = row-form ts (all_forms ts) b 0 (length b) e (omega arith)
  fixed-form (union t os) b e = not_fixed (length b) e
  fixed-form (list t a limit) b e = not_fixed (length b) e
  fixed-form (vector t a n) b e = each-form a (λ x i. fixed-form a x i) n b e

  all_forms : (ts : Tys) → All FixedForm ts
  all_forms end = tt
  all_forms (field t ts) = ((λ b e. fixed-form t b e), all_forms ts)

-- Elements of w bytes that fill b
pub fixed-each :
    (e : Ty) (w n : ℕ) (b : List ℕ) → head e ≡ Fixed w → n * w ≡ length b
    → (words_fields (copies e n) b 0 ≡ []) × (bytes_fields (copies e n) b 0 ≡ b)
unfolding FixedForm
fixed-each e w n b q h = copies-form e (λ x i. fixed-form e x i) w n b q h

-- An accepted item of fixed size: its length is asked, or that of its fields or elements.
test_true : (q : Bool) (x : Result Counts RefusedAt) (r : RefusedAt) → IsAccepted (pick q x (Err r)) → q ≡ true
test_true true x r h = refl
test_true false x r h = absurd h

bits_fine : (d : Result ⊤ Refusal) (t s n : ℕ) → IsAccepted (of_vector_lem d t s n) → d ≡ Ok tt
bits_fine (Ok tt) t s n h = refl
bits_fine (Err r) t s n h = absurd h

next-all : (ts : Tys) (b : List ℕ) (p m : ℕ) → head_all ts ≡ Fixed m → next (heads ts) b p ≡ length b
unfolding next heads head
next-all end b p m e = refl
next-all (field t ts) b p m e = let j = joined-fixed (head t) (head_all ts) m e in rw j.2 (next-all ts b (p + j.0) j.1 j.3)

fields-long : (ts : Tys) (b : List ℕ) (k : ℕ) → lay_out_lem (heads ts) b ≡ Ok tt → head_all ts ≡ Fixed k → length b ≡ k
fields-long ts b k d e = sym (next-all ts b 0 k e) ∙ (laid_out (heads ts) b d).first ∙ all-fixed ts k e

elements-long : (h : Head) (n : ℕ) (b : List ℕ) (k : ℕ) → vector_told_lem h n b ≡ Ok tt → times n h ≡ Fixed k → length b ≡ k
unfolding times
elements-long (Fixed w) n b k d e = laid-fixed n w b (vector-laid (Fixed w) n b d) ∙ fixed-injective (n * w) k e
elements-long Variable n b k d e = not_fixed k e

pub fixed-long : (t : Ty) (b : List ℕ) (k : ℕ) → LegalTy t → Accepts t b → head t ≡ Fixed k → length b ≡ k
unfolding head LegalTy read_item
fixed-long (number t w) b k l g e = eqb-true _ _ (test_true (eqb (length b) w) _ _ g.accepted) ∙ fixed-injective w k e
fixed-long (boolean t) b k l g e = eqb-true _ _ (test_true (eqb (length b) 1) _ _ g.accepted) ∙ fixed-injective 1 k e
fixed-long (fixed_bytes t n) b k l g e = eqb-true _ _ (test_true (eqb (length b) n) _ _ g.accepted) ∙ fixed-injective n k e
fixed-long (free_bytes t limit) b k l g e = not_fixed k e
fixed-long (bit_vector t n) b k l g e = vector-length b n l (bits_fine (bit_vector_body b n) t 0 (length b) g.accepted) ∙ fixed-injective _ k e
fixed-long (bit_list t limit) b k l g e = not_fixed k e
fixed-long (container t ts) b k l g e = fields-long ts b k (built-both (lay_out_lem (heads ts) b) t 0 _ g.accepted).0 e
fixed-long (union t os) b k l g e = not_fixed k e
fixed-long (list t a limit) b k l g e = not_fixed k e
fixed-long (vector t a n) b k l g e = elements-long (head a) n b k (built-both (vector_told_lem (head a) n b) t 0 _ g.accepted).0 e
