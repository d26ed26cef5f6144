-- An item of fixed size is written as its body bytes, whatever its kind: the law about one type, from it that about a row of fields, and
-- that about elements, which are such a row. So what is written has the length that its head says. Assumes nothing.
use mathlib.Core.Path.{◌≡◌, refl, sym, ap, ◌∙◌}
use mathlib.Core.List.{List, [], ◌∷◌, append-nil}
use Prim.Native.Nat.{ℕ, zero, suc, ◌+◌, ◌*◌, ◌/◌, ◌≤◌, ◌<◌}
use native.Mathlib.Omega.{arith}
use lib.ListN.{length, drop}
use lib.Seq.{take-add, drop-drop}
use Rattle.standard.specs.Bytes.{word_at}
use Rattle.standard.specs.Types.{Ty, Tys, number, boolean, fixed_bytes, free_bytes, bit_vector, bit_list, container, union, list, vector}
use Rattle.standard.specs.Types.{end, field, head, head_all, heads, joined, times, portion, LegalTy, LegalAll}
use Rattle.standard.specs.Parts.{fixed_lengths, fronts, backs, join, part_heads}
use Rattle.standard.specs.declared.Head.{Head}
use Rattle.standard.specs.declared.Head.TheVariants.{Fixed, Variable}
use Rattle.standard.proofs.Join.{Size, Sized, fixed-portion}
use Rattle.standard.proofs.Elements.{All, copies, all-copies}
use Rattle.standard.proofs.Laws.{joined-fixed, fixed-injective, legal-copies}
use Rattle.layout.specs.Legal.{Legal}
use Rattle.layout.proofs.Facts.{trees-get}
use Rattle.layout.proofs.Trees.{legal_tree}
use Rattle.message.specs.Read.{raw_bytes_lem}
use Rattle.message.specs.Steps.{Row, Named, row_of, heads_of}
use Rattle.value.specs.Walk.{Walked, upto, wrong, onward, walk_item, walk_fields}
use Rattle.value.specs.Write.{word_after, byte_after, bytes_at, write_item_lem, parts_from}
use Rattle.value.specs.Steps.{IsUpto}
use Rattle.value.proofs.Copies.{walk-copies, parts-copies}
use Rattle.value.proofs.Walks.{length-bytes_at}
use Rattle.value.proofs.Leaves.{PartForm, number-form, fixed-form, boolean-form, vector-form}

pub onward-first : (x : Walked) (f : ℕ → ℕ → Walked) → IsUpto (onward x f) → (IsUpto x) × (onward x f ≡ f (word_after x) (byte_after x))
onward-first (upto i j) f h = (tt, refl)
onward-first (wrong r) f h = absurd h

-- The walk w and the bytes x are those of k body bytes from j on. Where there are none of them, nothing says that j is within the bodies.
pub record Bare (w : Walked) (x b : List ℕ) (i j k : ℕ) : Type 0 where
  pub walk : w ≡ upto i (j + k)
  pub write : x ≡ bytes_at b j k
  pub there : 0 < k → j + k ≤ length b

some-there : (j k m n : ℕ) → (0 < k → j + k ≤ n) → (0 < m → j + k + m ≤ n) → 0 < k + m → j + (k + m) ≤ n
some-there j k zero n f g z = omega (arith, f (omega arith))
some-there j k (suc m) n f g z = omega (arith, g (omega arith))

module _ (c b : List ℕ) where
  -- what is said of one type
  FixedAs : Ty → Type 0
  FixedAs t = (i j k : ℕ) → LegalTy t → head t ≡ Fixed k → IsUpto (walk_item t c b i j) → Bare (walk_item t c b i j) (write_item_lem t c b i j) b i j k

  -- and of a row: its fronts are those bytes, and it has no backs
  abbrev BareRow : Tys → ℕ → ℕ → ℕ → ℕ → Type 0
  BareRow ts i j k off =
      Bare (walk_fields ts c b i j) (fronts (parts_from ts c b i j) off) b i j k × (backs (parts_from ts c b i j) ≡ [])

  row_more : (t : Ty) (ts : Tys) (i j k m off : ℕ) → head t ≡ Fixed k → Bare (walk_item t c b i j) (write_item_lem t c b i j) b i j k →
      BareRow ts i (j + k) m off → BareRow (field t ts) i j (k + m) off
  unfolding walk_item write_item_lem fronts backs
  row_more t ts i j k m off e p r = (
    record {
      walk = rw p.walk (r.0.walk ∙ ap (upto i) (omega arith));
      write = rw (e, p.walk, p.write, r.0.write, take-add k m (drop j b), drop-drop k j b);
      there = some-there j k m (length b) p.there r.0.there;
    },
    rw (e, p.walk) r.1,
  )

  row-fronts : (ts : Tys) → All FixedAs ts → (i j k off : ℕ) → LegalAll ts → head_all ts ≡ Fixed k → IsUpto (walk_fields ts c b i j) → BareRow ts i j k off
  unfolding FixedAs head walk_item write_item_lem fronts backs LegalTy
  row-fronts end f i j k off l e u =
      let z = fixed-injective 0 k e in
      rw (← z) (record { walk = ap (upto i) (omega arith); write = refl; there = λ (h : 0 < 0). absurd (omega arith) }, refl)
  row-fronts (field t ts) f i j k off l e u =
      let s = joined-fixed (head t) (head_all ts) k e in
      let p = f.0 i j s.0 l.0 s.2 (onward-first (walk_item t c b i j) (λ m n. walk_fields ts c b m n) u).0 in
      let r = row-fronts ts f.1 i (j + s.0) s.1 off l.1 s.3 (rw p.walk at u) in
      rw (← s.4) (row_more t ts i j s.0 s.1 off s.2 p r)

  row-bare : (ts : Tys) → All FixedAs ts → (i j k : ℕ) → LegalAll ts → head_all ts ≡ Fixed k → IsUpto (walk_fields ts c b i j) →
      Bare (walk_fields ts c b i j) (join (parts_from ts c b i j)) b i j k
  unfolding join
  row-bare ts f i j k l e u =
      let p = row-fronts ts f i j k (fixed_lengths (parts_from ts c b i j)) l e u in
      record { walk = p.0.walk; write = rw (p.0.write, p.1) (append-nil _); there = p.0.there }

  part-bare : (w : Walked) (x : List ℕ) (i j k n : ℕ) → PartForm w x b i j n → Fixed n ≡ Fixed k → Bare w x b i j k
  part-bare w x i j k n p e = rw (← fixed-injective n k e) (record { walk = p.walk; write = p.write; there = λ h. p.there })

-- n elements are of fixed size if one is.
pub copies-fixed : (e : Ty) (m n : ℕ) → head e ≡ Fixed m → head_all (copies e n) ≡ Fixed (n * m)
unfolding head joined
copies-fixed e m zero h = ap Fixed (omega arith)
copies-fixed e m (suc n) h = rw (h, copies-fixed e m n h) (ap Fixed (omega arith))

copies-times : (e : Ty) (h : Head) (n k : ℕ) → head e ≡ h → times n h ≡ Fixed k → head_all (copies e n) ≡ Fixed k
unfolding times
copies-times e (Fixed m) n k d f = copies-fixed e m n d ∙ f
copies-times e Variable n k d f = let w : ◌≡◌ {A = ℕ} 0 1 = cc in absurd (omega arith)

mutual
  unfolding FixedAs head walk_item write_item_lem LegalTy

  item-bare : (t : Ty) (c b : List ℕ) (i j k : ℕ) → LegalTy t → head t ≡ Fixed k → IsUpto (walk_item t c b i j) →
      Bare (walk_item t c b i j) (write_item_lem t c b i j) b i j k
  item-bare (number t w) c b i j k l e u = part-bare c b _ _ i j k w (number-form t c b i j w u) e
  item-bare (boolean t) c b i j k l e u = part-bare c b _ _ i j k 1 (boolean-form t c b i j u).0 e
  item-bare (fixed_bytes t n) c b i j k l e u = part-bare c b _ _ i j k n (fixed-form t c b i j n u) e
  item-bare (free_bytes t limit) c b i j k l e u = let w : ◌≡◌ {A = ℕ} 0 1 = cc in absurd (omega arith)
  item-bare (bit_vector t n) c b i j k l e u =
      let d : raw_bytes_lem n ≡ (n + 7) / 8 = omega (arith, l) in
      part-bare c b _ _ i j k (raw_bytes_lem n) (vector-form t c b i j n u).0 (ap Fixed d ∙ e)
  item-bare (bit_list t limit) c b i j k l e u = let w : ◌≡◌ {A = ℕ} 0 1 = cc in absurd (omega arith)
  item-bare (container t ts) c b i j k l e u = row-bare c b ts (all-bare ts c b) i j k l.1 e u
  item-bare (union t os) c b i j k l e u = let w : ◌≡◌ {A = ℕ} 0 1 = cc in absurd (omega arith)
  item-bare (list t a limit) c b i j k l e u = let w : ◌≡◌ {A = ℕ} 0 1 = cc in absurd (omega arith)
  item-bare (vector t a n) c b i j k l e u =
      rw (walk-copies a c b n i j, parts-copies a c b n i j)
      (row-bare c b (copies a n) (all-copies (FixedAs c b) a n (λ x y m g d v. item-bare a c b x y m g d v)) i j k (legal-copies a n l.1)
      (copies-times a (head a) n k refl e) (rw (walk-copies a c b n i j) at u))

  all-bare : (ts : Tys) (c b : List ℕ) → All (FixedAs c b) ts
  all-bare end c b = tt
  all-bare (field t ts) c b = ((λ i j k l e u. item-bare t c b i j k l e u), all-bare ts c b)

-- An item of fixed size is its body bytes, and so are fields that are all of fixed size, some of them.
pub item-part : (t : Ty) (c b : List ℕ) (i j k : ℕ) → LegalTy t → Fixed k ≡ head t → 0 < k → IsUpto (walk_item t c b i j) →
    PartForm (walk_item t c b i j) (write_item_lem t c b i j) b i j k
item-part t c b i j k l e z u =
    let p = item-bare t c b i j k l (sym e) u in
    record { walk = p.walk; write = p.write; there = p.there z }

pub row-part : (ts : Tys) (c b : List ℕ) (i j k : ℕ) → LegalAll ts → head_all ts ≡ Fixed k → 0 < k → IsUpto (walk_fields ts c b i j) →
    PartForm (walk_fields ts c b i j) (join (parts_from ts c b i j)) b i j k
row-part ts c b i j k l e z u =
    let p = row-bare c b ts (all-bare ts c b) i j k l e u in
    record { walk = p.walk; write = p.write; there = p.there z }

-- What is written of an item has the length that its head says.
bare-size : (b : List ℕ) (j k : ℕ) → (0 < k → j + k ≤ length b) → length (bytes_at b j k) ≡ k
bare-size b j zero f = refl
bare-size b j (suc k) f = length-bytes_at b j (suc k) (f (omega arith))

item-size : (t : Ty) (c b : List ℕ) (i j : ℕ) → LegalTy t → IsUpto (walk_item t c b i j) → Size (head t) (write_item_lem t c b i j)
unfolding Size
item-size t c b i j l u = go (head t) refl
  where
    go : (h : Head) → head t ≡ h → Size h (write_item_lem t c b i j)
    go (Fixed k) e = let p = item-bare t c b i j k l e u in ap length p.write ∙ bare-size b j k p.there
    go Variable e = tt

parts_sized : (ts : Tys) (c b : List ℕ) (i j : ℕ) → LegalAll ts → IsUpto (walk_fields ts c b i j) → Sized (parts_from ts c b i j)
unfolding Sized write_item_lem walk_item LegalTy
parts_sized end c b i j l h = tt
parts_sized (field t ts) c b i j l h =
    let q = onward-first (walk_item t c b i j) (λ m k. walk_fields ts c b m k) h in
    (item-size t c b i j l.0 q.0, parts_sized ts c b (word_after (walk_item t c b i j)) (byte_after (walk_item t c b i j)) l.1 (rw q.1 at h))

parts-heads : (ts : Tys) (c b : List ℕ) (i j : ℕ) → part_heads (parts_from ts c b i j) ≡ heads ts
unfolding part_heads write_item_lem heads
parts-heads end c b i j = refl
parts-heads (field t ts) c b i j = ap (λ (hs : List Head). head t ∷ hs) (parts-heads ts c b _ _)

own-portion : (ts : Tys) (c b : List ℕ) (i j : ℕ) → LegalAll ts → IsUpto (walk_fields ts c b i j) →
    fixed_lengths (parts_from ts c b i j) ≡ portion (heads ts)
own-portion ts c b i j l h = fixed-portion (parts_from ts c b i j) (parts_sized ts c b i j l h) ∙ ap portion (parts-heads ts c b i j)

-- The types of a row are legal.
legal-named : (l : List ℕ) (t a step n : ℕ) → Legal l t → Named l t a step n → LegalAll (row_of l t a step n)
unfolding row_of Named LegalTy
legal-named l t a step zero g d = tt
legal-named l t a step (suc n) g d =
    let e = trees-get l t (word_at l a) (boolean 0) d.1 in
    (rw e (legal_tree l t (word_at l a) g d.1), legal-named l t (a + step) step n g d.2)

pub legal-row : (lens l : List ℕ) (t a step n : ℕ) → Row lens l t a step n → LegalAll (row_of l t a step n)
legal-row lens l t a step n g = legal-named l t a step n g.under.legal g.named

pub row-portion : (lens l : List ℕ) (t a step n : ℕ) (c b : List ℕ) (i j : ℕ) → Row lens l t a step n → IsUpto (walk_fields (row_of l t a step n) c b i j) →
    fixed_lengths (parts_from (row_of l t a step n) c b i j) ≡ portion (heads_of l t a step n)
row-portion lens l t a step n c b i j g h = own-portion (row_of l t a step n) c b i j (legal-row lens l t a step n g) h
