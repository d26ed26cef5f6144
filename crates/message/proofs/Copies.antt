-- Elements are read as fields of one type, and where a list or vector is well they lie as a container's fields do. Assumes nothing.
--     read-copies      n elements are read as n fields; so are the listing, the contents, the bodies
--     elements_laid    a list of n elements has their heads in range, the first variable one right behind the offsets; and back
--     vector-laid      so has a vector
--     copies-many      a list is counted as the elements of the value that it is the serialization of
use mathlib.Core.Path.{◌≡◌, refl, sym, ap, ◌∙◌}
use mathlib.Core.List.{List, ◌++◌}
use mathlib.Core.Bool.{Bool, true, false}
use Prim.Native.Nat.{ℕ, zero, suc, ◌+◌, ◌-◌, ◌*◌, ◌/◌, ◌%◌, ◌≤◌, ◌<◌, ◌^◌}
use native.Mathlib.Nat.{add-zero, mul-div_cancel, mul-mod_left, div-add-mod'}
use native.Mathlib.Omega.{arith}
use borrow.Author.Tests.{eqb-true, eqb-false, ltb-false, leb-true, le-leb, le-ltb, eq-eqb, ne_eqb}
use lib.ListN.{length, replicate}
use lib.Dec.{eqb, ltb, leb}
use Rattle.standard.specs.Choice.{pick, or_else}
use Rattle.standard.specs.Bytes.{four}
use Rattle.standard.specs.Types.{Ty, head, heads, width, portion, LegalTy}
use Rattle.standard.specs.Parts.{join, span_of, part, next, InRange}
use Rattle.standard.specs.Serialize.{Val, Vals, OkAll, parts}
use Rattle.standard.specs.declared.Head.{Head}
use Rattle.standard.specs.declared.Head.TheVariants.{Fixed, Variable}
use Rattle.standard.specs.declared.Refusal.{Refusal}
use Rattle.standard.specs.declared.Refusal.TheVariants.{InvalidLengthPrefix, OffsetOutOfBounds, InvalidListFixedBytesLen}
use Rattle.standard.proofs.Elements.{copies, heads-copies, as_list, portion-copies}
use Rattle.standard.proofs.Join.{join-ranges, join-next}
use Rattle.standard.proofs.Laws.{fixed-some, copies-heads, values_sized}
use Rattle.decode.specs.Builder.{lay_out_lem}
use Rattle.decode.proofs.Register.{layout-ranges, layout-next, layout-passes}
use Rattle.message.specs.Read.{within, further, then_many, behind_first_lem, offset_elements_lem, elements, vector_told_lem, and_then, read_each, read_item, read_fields}
use Rattle.message.specs.Listing.{list_each, list_item_lem, list_fields_lem}
use Rattle.message.specs.Form.{in_order, contents, contents_all, bodies, bodies_all}
use Rattle.message.specs.Unfold.{each_from, unfold_words, unfold_bytes, words_fields, bytes_fields}
use Rattle.message.proofs.Answers.{pick-left, pick_right}
use Rattle.std.specs.Prelude.{⊤}
use Rattle.std.specs.declared.result.Result.{Result}
use Rattle.std.specs.declared.result.Result.TheVariants.{Ok, Err}
use Rattle.message.specs.declared.RefusedAt.{RefusedAt}
use Rattle.message.specs.declared.Counts.{Counts}

-- What is said of n elements is said of n fields.
module _ (e : Ty) where
  pub read-copies : (n : ℕ) (b : List ℕ) (p s : ℕ) → read_each (λ (x : List ℕ) (u : ℕ). read_item e x u) (head e) n b p s ≡ read_fields (copies e n) b p s
  unfolding read_each read_item
  read-copies zero b p s = refl
  read-copies (suc n) b p s =
      let w = span_of (head e) (heads (copies e n)) b p in
      rw (← heads-copies e n) (ap (λ (x : Result Counts RefusedAt). and_then (read_item e (part b w) (s + w.from)) x) (read-copies n b w.next s))

  pub list-copies : (n : ℕ) (b : List ℕ) (p s : ℕ) → list_each (λ (x : List ℕ) (u : ℕ). list_item_lem e x u) (head e) n b p s ≡ list_fields_lem (copies e n) b p s
  unfolding list_each list_item_lem
  list-copies zero b p s = refl
  list-copies (suc n) b p s =
      let w = span_of (head e) (heads (copies e n)) b p in
      rw (← heads-copies e n) (ap (λ (x : List ℕ). list_item_lem e (part b w) (s + w.from) ++ x) (list-copies n b w.next s))

  pub words-copies : (n : ℕ) (b : List ℕ) (p : ℕ) → each_from (λ (x : List ℕ). unfold_words e x) (head e) n b p ≡ words_fields (copies e n) b p
  unfolding each_from unfold_words
  words-copies zero b p = refl
  words-copies (suc n) b p =
      let w = span_of (head e) (heads (copies e n)) b p in
      rw (← heads-copies e n) (ap (λ (x : List ℕ). unfold_words e (part b w) ++ x) (words-copies n b w.next))

  pub bytes-copies : (n : ℕ) (b : List ℕ) (p : ℕ) → each_from (λ (x : List ℕ). unfold_bytes e x) (head e) n b p ≡ bytes_fields (copies e n) b p
  unfolding each_from unfold_bytes
  bytes-copies zero b p = refl
  bytes-copies (suc n) b p =
      let w = span_of (head e) (heads (copies e n)) b p in
      rw (← heads-copies e n) (ap (λ (x : List ℕ). unfold_bytes e (part b w) ++ x) (bytes-copies n b w.next))

  pub contents-copies : (n : ℕ) (vs : Vals (copies e n)) → in_order (λ (v : Val e). contents e v) (as_list e n vs) ≡ contents_all (copies e n) vs
  unfolding in_order contents
  contents-copies zero vs = refl
  contents-copies (suc n) vs = ap (λ (x : List ℕ). contents e vs.0 ++ x) (contents-copies n vs.1)

  pub bodies-copies : (n : ℕ) (vs : Vals (copies e n)) → in_order (λ (v : Val e). bodies e v) (as_list e n vs) ≡ bodies_all (copies e n) vs
  unfolding in_order bodies
  bodies-copies zero vs = refl
  bodies-copies (suc n) vs = ap (λ (x : List ℕ). bodies e vs.0 ++ x) (bodies-copies n vs.1)

-- The heads are in range in b, and the first variable item lies right behind the fixed portion.
pub record Laid (hs : List Head) (b : List ℕ) : Type 0 where
  pub ranges : InRange hs b 0 0
  pub first : next hs b 0 ≡ portion hs

pub laid_out : (hs : List Head) (b : List ℕ) → lay_out_lem hs b ≡ Ok tt → Laid hs b
laid_out hs b e = record { ranges = layout-ranges hs b e; first = layout-next hs b e }

-- n elements of k bytes lie in n * k bytes, and back.
fixed-ranges : (n k : ℕ) (b : List ℕ) (p : ℕ) → p + n * k ≡ length b → InRange (replicate n (Fixed k)) b p 0
unfolding InRange
fixed-ranges zero k b p e = omega arith
fixed-ranges (suc n) k b p e = (omega arith, fixed-ranges n k b (p + k) (omega arith))

next-fixed : (n k : ℕ) (b : List ℕ) (p : ℕ) → next (replicate n (Fixed k)) b p ≡ length b
unfolding next
next-fixed zero k b p = refl
next-fixed (suc n) k b p = next-fixed n k b (p + k)

fixed-laid : (n k : ℕ) (b : List ℕ) → length b ≡ n * k → Laid (replicate n (Fixed k)) b
unfolding width
fixed-laid n k b e =
    record { ranges = fixed-ranges n k b 0 (omega arith); first = next-fixed n k b 0 ∙ (e ∙ sym (portion-copies n (Fixed k))) }

pub laid-fixed : (n k : ℕ) (b : List ℕ) → Laid (replicate n (Fixed k)) b → length b ≡ n * k
unfolding width
laid-fixed n k b g = sym (next-fixed n k b 0) ∙ g.first ∙ portion-copies n (Fixed k)

not_fine : (r : Refusal) → ◌≡◌ {A = Result ⊤ Refusal} (Err r) (Ok tt) → ⊥
not_fine r e = cc

-- A vector.
pub vector-laid : (h : Head) (n : ℕ) (b : List ℕ) → vector_told_lem h n b ≡ Ok tt → Laid (replicate n h) b
unfolding vector_told_lem
vector-laid (Fixed k) n b e =
    fixed-laid n k b (eqb-true _ _ (pick-left (eqb (length b) (n * k)) (Ok tt) _ (Ok tt) (not_fine _) e).0)
vector-laid Variable n b e = laid_out (replicate n Variable) b e

pub laid-vector : (h : Head) (n : ℕ) (b : List ℕ) → length b < 2 ^ 32 → Laid (replicate n h) b → vector_told_lem h n b ≡ Ok tt
unfolding vector_told_lem
laid-vector (Fixed k) n b small g = rw (eq-eqb _ _ (laid-fixed n k b g))
laid-vector Variable n b small g = layout-passes (replicate n Variable) b small g.ranges g.first

-- A list. What a count within the limit says.
within-many : (m limit n : ℕ) → within m limit ≡ Ok n → (m ≡ n) × (n ≤ limit)
within-many m limit n e =
    let p = pick-left (leb m limit) (Ok m) _ (Ok n) (λ q. let z : ◌≡◌ {A = ℕ} 0 1 = cc in omega arith) e in
    let q : m ≡ n = cc p.1 in
    (q, rw q at (leb-true m limit p.0))

-- The further offsets are in range from the one before on, and back.
further-next :
    (b : List ℕ) (first previous p n : ℕ) → further b first previous p (suc n) ≡ Ok tt
    → (four b p ≤ length b) × (previous ≤ four b p) × (further b first (four b p) (p + 4) n ≡ Ok tt)
unfolding further
further-next b first previous p n e =
    let x = pick_right (ltb (four b p) first) _ _ (Ok tt) (not_fine _) e in
    let y = pick_right (ltb (length b) (four b p)) _ _ (Ok tt) (not_fine _) x.1 in
    let z = pick_right (ltb (four b p) previous) _ _ (Ok tt) (not_fine _) y.1 in
    (ltb-false _ _ y.0, ltb-false _ _ z.0, z.1)

four_in_lem : (p n m : ℕ) → p + 4 * suc n ≤ m → (p + 4 ≤ m) × (p + 4 + 4 * n ≤ m)
four_in_lem p n m h = (omega arith, omega arith)

further-ranges :
    (b : List ℕ) (first previous p n : ℕ) → p + 4 * n ≤ length b → previous ≤ length b → further b first previous p n ≡ Ok tt
    → InRange (replicate n Variable) b p previous
unfolding InRange
further-ranges b first previous p zero l k e = k
further-ranges b first previous p (suc n) l k e =
    let q = further-next b first previous p n e in
    let i = four_in_lem p n (length b) l in
    (i.0, q.0, q.1, further-ranges b first (four b p) (p + 4) n i.1 q.0 q.2)

ranges-further :
    (b : List ℕ) (first previous p n : ℕ) → first ≤ previous → InRange (replicate n Variable) b p previous → further b first previous p n ≡ Ok tt
unfolding further InRange
ranges-further b first previous p zero l r = refl
ranges-further b first previous p (suc n) l r =
    rw (le-ltb (four b p) first (omega (arith, r.2)), le-ltb (length b) (four b p) r.1, le-ltb (four b p) previous r.2)
    (ranges-further b first (four b p) (p + 4) n (omega (arith, r.2)) r.3)

-- What the offset o, the first, says: n elements, and their offsets before it.
behind-many :
    (limit : ℕ) (b : List ℕ) (o n : ℕ) → behind_first_lem (within (o / 4) limit) b o ≡ Ok n
    → (o / 4 ≡ n) × (n ≤ limit) × (further b o o 4 (n - 1) ≡ Ok tt)
behind-many limit b o n = go (within (o / 4) limit) refl
  where
    told : (d : Result ⊤ Refusal) (m : ℕ) → then_many d m ≡ Ok n → (d ≡ Ok tt) × (m ≡ n)
    told (Ok tt) m e = (refl, cc)
    told (Err r) m e = let z : ◌≡◌ {A = ℕ} 0 1 = cc in absurd (omega arith)

    go : (x : Result ℕ Refusal) → within (o / 4) limit ≡ x → behind_first_lem x b o ≡ Ok n → (o / 4 ≡ n) × (n ≤ limit) × (further b o o 4 (n - 1) ≡ Ok tt)
    go (Err r) d e = let z : ◌≡◌ {A = ℕ} 0 1 = cc in absurd (omega arith)
    go (Ok m) d e =
        let p = told (further b o o 4 (m - 1)) m e in
        let q = within-many (o / 4) limit m d in
        (q.0 ∙ p.1, rw p.1 at q.1, rw p.1 at p.0)

or_false : (x y : Bool) → or_else x y ≡ false → (x ≡ false) × (y ≡ false)
or_false true y e = let z : true ≡ false = e in let w : ◌≡◌ {A = ℕ} 0 1 = cc in absurd (omega arith)
or_false false y e = (refl, e)

module _ (limit : ℕ) (b : List ℕ) (n : ℕ) where
  offsets-laid : offset_elements_lem limit b ≡ Ok n → Laid (replicate n Variable) b × (n ≤ limit)
  unfolding InRange next portion width
  offsets-laid = go (eqb (length b) 0) refl
    where
      none : {A : Type 0} (r : Refusal) → Err r ≡ Ok n → A
      none r q = let z : ◌≡◌ {A = ℕ} 0 1 = cc in absurd (omega arith)

      no : (r : Refusal) → Err r ≡ Ok n → ⊥
      no r q = none r q

      some : (m : ℕ) → n ≡ suc m → 4 ≤ length b → four b 0 ≤ length b → four b 0 ≡ 4 * n → further b (four b 0) (four b 0) 4 m ≡ Ok tt →
          Laid (replicate n Variable) b
      some m q k l o f =
          let r = further-ranges b (four b 0) (four b 0) 4 m (omega arith) l f in
          rw q (record { ranges = (k, l, omega arith, r); first = o ∙ rw q (omega (arith, portion-copies (suc m) Variable)) })

      -- the tests behind the first
      behind : Result ℕ Refusal
      behind =
          pick (ltb (length b) 4) (Err (InvalidLengthPrefix (length b) 4))
          (pick (ltb (length b) (four b 0)) (Err (OffsetOutOfBounds (four b 0)))
          (pick (or_else (eqb (four b 0) 0) (ltb 0 (four b 0 % 4))) (Err (InvalidListFixedBytesLen (four b 0)))
          (behind_first_lem (within (four b 0 / 4) limit) b (four b 0))))

      go : (q : Bool) → eqb (length b) 0 ≡ q → pick q (Ok 0) behind ≡ Ok n → Laid (replicate n Variable) b × (n ≤ limit)
      go true d e =
          let q : 0 ≡ n = cc in
          let l = eqb-true (length b) 0 d in
          rw (← q) (record { ranges = omega arith; first = l }, omega arith)
      go false d e =
          let x = pick_right (ltb (length b) 4) _ _ (Ok n) (no _) e in
          let y = pick_right (ltb (length b) (four b 0)) _ _ (Ok n) (no _) x.1 in
          let z = pick_right (or_else (eqb (four b 0) 0) (ltb 0 (four b 0 % 4))) _ _ (Ok n) (no _) y.1 in
          let f = or_false _ _ z.0 in
          let w = behind-many limit b (four b 0) n z.1 in
          let zero-not = eqb-false (four b 0) 0 f.0 in
          let whole = ltb-false 0 (four b 0 % 4) f.1 in
          (some (n - 1) (omega (arith, w.0)) (ltb-false _ _ x.0) (ltb-false _ _ y.0) (omega (arith, w.0)) w.2, w.1)

  laid-offsets : n ≤ limit → Laid (replicate n Variable) b → offset_elements_lem limit b ≡ Ok n
  unfolding InRange next portion width
  laid-offsets h g = go n refl g
    where
      go : (m : ℕ) → n ≡ m → Laid (replicate m Variable) b → offset_elements_lem limit b ≡ Ok n
      go zero q i = rw (eq-eqb (length b) 0 i.first, q)
      go (suc m) q i =
          let o : four b 0 ≡ 4 * n = i.first ∙ rw q (omega (arith, portion-copies m Variable)) in
          let r = i.ranges in
          let d : four b 0 / 4 ≡ n = omega arith in
          let k : n - 1 ≡ m = omega arith in
          rw (
            ne_eqb (length b) 0 (λ (z : length b ≡ 0). omega (arith, r.0)),
            le-ltb (length b) 4 (omega (arith, r.0)),
            le-ltb (length b) (four b 0) r.1,
            ne_eqb (four b 0) 0 (λ (z : four b 0 ≡ 0). omega arith),
            le-ltb 0 (four b 0 % 4) (omega arith),
            d,
            le-leb n limit h,
            k,
            ranges-further b (four b 0) (four b 0) 4 m (omega arith) r.3,
          )

-- A head that takes at least a byte, as every element's does
abbrev pub TakesBytes : Head → Type 0
TakesBytes h = (k : ℕ) → h ≡ Fixed k → 1 ≤ k

pub elements_laid :
    (h : Head) (limit : ℕ) (b : List ℕ) (n : ℕ) → TakesBytes h → elements h limit b ≡ Ok n → Laid (replicate n h) b × (n ≤ limit)
unfolding elements
elements_laid (Fixed k) limit b n some e =
    let p = pick-left (eqb (length b % k) 0) (within (length b / k) limit) _ (Ok n) (λ q. let z : ◌≡◌ {A = ℕ} 0 1 = cc in omega arith) e in
    let q = within-many (length b / k) limit n p.1 in
    let r = eqb-true (length b % k) 0 p.0 in
    (fixed-laid n k b (rw (r, q.0, add-zero) at (sym (div-add-mod' (length b) k))), q.1)
elements_laid Variable limit b n some e = offsets-laid limit b n e

pub laid-elements :
    (h : Head) (limit : ℕ) (b : List ℕ) (n : ℕ) → TakesBytes h → n ≤ limit → Laid (replicate n h) b → elements h limit b ≡ Ok n
unfolding elements
laid-elements (Fixed k) limit b n some l g =
    let e = laid-fixed n k b g in
    rw (e, mul-mod_left n k, mul-div_cancel n (some k refl), le-leb n limit l)
laid-elements Variable limit b n some l g = laid-offsets limit b n l g

-- The elements of a value, counted in its serialization.
pub copies-many :
    (e : Ty) (limit n : ℕ) (vs : Vals (copies e n)) → LegalTy e → OkAll (copies e n) vs → length (join (parts (copies e n) vs)) < 2 ^ 32 → n ≤ limit
    → elements (head e) limit (join (parts (copies e n) vs)) ≡ Ok n
copies-many e limit n vs l h k m =
    let xs = parts (copies e n) vs in
    let z = values_sized (copies e n) vs h in
    let d = copies-heads e n vs in
    laid-elements (head e) limit (join xs) n (λ i j. fixed-some e i l j) m
    (record { ranges = rw d at (join-ranges xs z k); first = rw d at (join-next xs z k) })
