-- How large the counts of an accepted item are. Each level of a type counts at most the bytes that it has, and four more for an
-- item of variable size, whose offset stands in the container around it; so the counts are at most the levels times those bytes.
-- Assumes nothing.
use mathlib.Core.Path.{◌≡◌, refl}
use mathlib.Core.List.{List, ◌∷◌}
use Prim.Native.Nat.{ℕ, zero, suc, ◌+◌, ◌-◌, ◌*◌, ◌/◌, ◌≤◌, ◌<◌, ◌^◌, max}
use native.Mathlib.Nat.{add-zero, mul-le-mul_left, mul-le-mul_right}
use native.Mathlib.Omega.{arith}
use borrow.Author.Tests.{eqb-true, eqb-false, ne_eqb}
use lib.ListN.{length, get_or, drop, replicate, length-take, length-drop}
use lib.Dec.{eqb, ltb, leb}
use Rattle.standard.specs.Bytes.{word_at, four}
use Rattle.standard.specs.Types.{Ty, Tys, Opts, number, boolean, fixed_bytes, free_bytes, bit_vector, bit_list, container, union, list, vector, end, field, over, bare, body, head, head_all, heads, width, portion, NoFields, LegalTy, LegalAll, LegalOptions}
use Rattle.standard.specs.Parts.{next, span_of, part, InRange}
use Rattle.standard.specs.declared.Head.{Head}
use Rattle.standard.specs.declared.Head.TheVariants.{Fixed, Variable}
use Rattle.standard.proofs.Join.{next-between, span_ranges}
use Rattle.standard.proofs.Elements.{All, copies, all-copies, heads-copies}
use Rattle.standard.proofs.Laws.{fixed-some, legal-copies}
use Rattle.decode.specs.Builder.{lay_out_lem}
use Rattle.bitfield.specs.Body.{bit_list_body, bit_vector_body, bytes_for_lem, marked_at, highest, all_bits, list_bits_lem, within}
use Rattle.layout.specs.Tree.{node_of, leaf_of, fields, options, trees, tree_of}
use Rattle.layout.specs.Legal.{Lower, LowerOrBare, LegalNode, Legal}
use Rattle.layout.specs.declared.Node.{Node}
use Rattle.layout.proofs.Facts.{trees-get, as_container, as_union, as_list_lem, as_vector, as_leaf, each-kind}
use Rattle.layout.proofs.Trees.{legal_tree, leaf-cases}
use Rattle.message.specs.Read.{raw_bytes_lem, one, plus, and_then, elements, vector_told_lem, read_each, read_item, read_fields, read_option}
use Rattle.message.specs.declared.Counts.{Counts}
use Rattle.message.proofs.Answers.{none, single, not_accepted, accepted-same, pick-left, pick_right, pick-cases, pick-holds, left-accepted, right_accepted, leaf-accepted, then_accepted, behind-accepted, built-accepted, vector-accepted, list-accepted, many-accepted}
use Rattle.message.proofs.Copies.{read-copies, Laid, laid_out, vector-laid, elements_laid}
use Rattle.std.specs.declared.result.Result.TheVariants.{Ok}
use Rattle.std.specs.declared.option.Option.{Option}
use Rattle.std.specs.declared.option.Option.TheVariants.{Some, None}

-- How many levels a type has
unfoldable mutual
  pub depth : Ty → ℕ
  depth (number t w) = 1
  depth (boolean t) = 1
  depth (fixed_bytes t n) = 1
  depth (free_bytes t limit) = 1
  depth (bit_vector t n) = 1
  depth (bit_list t limit) = 1
  depth (container t ts) = 1 + depth_all ts
  depth (union t os) = 1 + depth_options os
  depth (list t e limit) = 1 + depth e
  depth (vector t e n) = 1 + depth e

  pub depth_all : Tys → ℕ
  depth_all end = 0
  depth_all (field t ts) = max (depth t) (depth_all ts)

  pub depth_options : Opts → ℕ
  depth_options over = 0
  depth_options (bare j os) = depth_options os
  depth_options (body j t os) = max (depth t) (depth_options os)

-- The type t of a table has at most t + 1 levels, since a type names lower ones.
One : Ty → Type 0
One x = depth x ≡ 1

leaf-depth : (t : ℕ) (n : Node) → depth (leaf_of t n) ≡ 1
unfolding depth One
leaf-depth t n = leaf-cases t n One (λ e. refl) (λ e. refl) (λ e. refl) refl (λ e. refl) refl

module _ (l : List ℕ) (t : ℕ) (f : (u : ℕ) → u < t → depth (tree_of l u) ≤ u + 1) where
  lower-depth : (w : ℕ) → w < t → depth (get_or (trees l t) w (boolean 0)) ≤ t
  lower-depth w h = rw (trees-get l t w (boolean 0) h) (omega (arith, f w h))

  fields-depth : (at n : ℕ) → Lower l t at n → depth_all (fields l (trees l t) at n) ≤ t
  unfolding fields depth Lower
  fields-depth at zero g = omega arith
  fields-depth at (suc n) g =
      let h : word_at l at < t = rw add-zero at (g 0 (omega arith)) in
      let x = lower-depth (word_at l at) h in
      let y = fields-depth (at + 1) n (λ i k. let e : at + suc i ≡ at + 1 + i = omega arith in rw e at (g (suc i) (omega arith))) in
      omega arith

  options-depth : (at k n : ℕ) → LowerOrBare l t at n → depth_options (options l (trees l t) at k n) ≤ t
  unfolding options depth LowerOrBare
  options-depth at k zero g = omega arith
  options-depth at k (suc n) g =
      let r = options-depth (at + 1) (k + 1) n (λ i h. let e : at + suc i ≡ at + 1 + i = omega arith in rw e at (g (suc i) (omega arith))) in
      pick-holds (λ (os : Opts). depth_options os ≤ t) (eqb (word_at l at) 4294967295) _ _ (λ q. r)
      (λ q.
      let h : word_at l at < t = (rw add-zero at (g 0 (omega arith))) (eqb-false _ _ q) in
      let x = lower-depth (word_at l at) h in
      omega arith)

  node_depth : LegalNode l t (node_of l t) → depth (tree_of l t) ≤ t + 1
  unfolding depth
  node_depth g =
      let n = node_of l t in
      each-kind (depth (tree_of l t) ≤ t + 1) n.kind
      (λ k. rw (as_leaf l t n refl k, leaf-depth t n) (omega arith))
      (λ k. let x = fields-depth (n.at + 2) n.second (g.lower k) in rw (as_container l t n refl k) (omega arith))
      (λ k. let x = options-depth (n.at + 2) 0 n.second (g.optional k) in rw (as_union l t n refl k) (omega arith))
      (λ k. let b = g.element (rw k) in let x = f n.second b in rw (as_list_lem l t n refl k b) (omega arith))
      (λ k. let b = g.element (rw k) in let x = f n.second b in rw (as_vector l t n refl k b) (omega arith))

pub tree_depth : (l : List ℕ) (n t : ℕ) → Legal l n → t < n → depth (tree_of l t) ≤ t + 1
unfolding Legal
tree_depth l zero t g h = absurd (omega arith)
tree_depth l (suc n) t g h = node_depth l t (λ u k. tree_depth l n u (λ v q. g v (omega arith)) (omega arith)) (g t h)

-- Accepted bodies of bits have their length.
pub vector-length : (b : List ℕ) (n : ℕ) → 1 ≤ n → bit_vector_body b n ≡ Ok tt → length b ≡ bytes_for_lem n
unfolding bit_vector_body
vector-length b n h e =
    let f = rw (ne_eqb n 0 (omega arith)) at e in
    eqb-true _ _ (pick-left (eqb (length b) (bytes_for_lem n)) (within b n) _ (Ok tt) (λ q. let z : ◌≡◌ {A = ℕ} 0 1 = cc in omega arith) f).0

marked-length : (x : Option ℕ) (given n k : ℕ) → marked_at x given n ≡ Ok k → given ≡ k / 8 + 1
marked-length None given n k e = let z : ◌≡◌ {A = ℕ} 0 1 = cc in absurd (omega arith)
marked-length (Some j) given n k e =
    let p = pick-left (eqb given (j / 8 + 1)) (list_bits_lem j n) _ (Ok k) (λ q. let z : ◌≡◌ {A = ℕ} 0 1 = cc in omega arith) e in
    let r = pick-left (leb j n) (Ok j) _ (Ok k) (λ q. let z : ◌≡◌ {A = ℕ} 0 1 = cc in omega arith) p.1 in
    let m : j ≡ k = cc r.1 in
    rw (← m) (eqb-true _ _ p.0)

pub list_length : (b : List ℕ) (n k : ℕ) → bit_list_body b n ≡ Ok k → length b ≡ k / 8 + 1
unfolding bit_list_body
list_length b n k e =
    marked-length (highest (all_bits b)) (length b) n k
    (pick_right (eqb (length b) 0) _ (marked_at (highest (all_bits b)) (length b) n) (Ok k) (λ q. let z : ◌≡◌ {A = ℕ} 0 1 = cc in omega arith) e).1

-- At most n records and n words, and m bytes
abbrev pub Within : Counts → ℕ → ℕ → Type 0
Within c n m = (c.records ≤ n) × (c.words ≤ n) × (c.bytes ≤ m)

-- The bytes that an item takes, with its offset where it has one
abbrev pub room : Head → List ℕ → ℕ
room (Fixed n) b = length b
room Variable b = length b + 4

pub room_least : (h : Head) (b : List ℕ) → length b ≤ room h b
room_least (Fixed n) b = omega arith
room_least Variable b = omega arith

room_most : (h : Head) (b : List ℕ) (n : ℕ) → length b ≤ n → room h b ≤ n + 4
room_most (Fixed k) b n l = omega arith
room_most Variable b n l = omega arith

-- A leaf, and what stands above others
leaf_in : (w k n m d : ℕ) (c : Counts) → c ≡ single w k → 1 ≤ d → 1 ≤ n → w ≤ n → k ≤ m → Within c (d * n) m
leaf_in w k n m d c e h i j o = let q = mul-le-mul_right n h in rw e (omega arith)

above_in : (a b c : Counts) (m n i j : ℕ) → c ≡ plus a b → Within a 1 0 → Within b m i → 1 + m ≤ n → i ≤ j → Within c n j
above_in a b c m n i j e x y h o = rw e (omega arith)

-- The first field's room and the rest's make up the whole's.
pub room_span :
    (h : Head) (hs : List Head) (b : List ℕ) (p k : ℕ) → InRange (h ∷ hs) b p 0 → next (h ∷ hs) b p + k ≡ length b
    → (j : ℕ) × (next hs b (span_of h hs b p).next + j ≡ length b) × (room h (part b (span_of h hs b p)) + (portion hs + j) ≡ width h + portion hs + k)
unfolding InRange next width
room_span (Fixed n) hs b p k r e = (k, e, simp (length-take, length-drop) (omega (arith, r.0)))
room_span Variable hs b p k r e =
    let q = next-between hs b (p + 4) (four b p) r.3 in
    (length b - next hs b (p + 4), omega arith, simp (length-take, length-drop) (omega arith))

-- A container has a byte.
portion-some : (ts : Tys) → (NoFields ts → ⊥) → LegalAll ts → 1 ≤ portion (heads ts)
unfolding LegalTy heads portion width
portion-some end f l = absurd (f tt)
portion-some (field t ts) f l = go (head t) refl
  where
    go : (h : Head) → head t ≡ h → 1 ≤ width (head t) + portion (heads ts)
    go (Fixed n) e = rw e (omega (arith, fixed-some t n l.0 e))
    go Variable e = rw e (omega arith)

depth-copies : (e : Ty) (n : ℕ) → depth_all (copies e n) ≤ depth e
unfolding depth
depth-copies e zero = omega arith
depth-copies e (suc n) = omega (arith, depth-copies e n)

-- The law about one type, and from it that about a row of fields
In : Ty → Type 0
In t =
    (b : List ℕ) (s d : ℕ) (c : Counts) → LegalTy t → depth t ≤ d → read_item t b s ≡ Ok c
    → Within c (d * room (head t) b) (length b)

row_in :
    (ts : Tys) → All In ts → (b : List ℕ) (p s d k : ℕ) (c : Counts) → LegalAll ts → depth_all ts ≤ d → InRange (heads ts) b p 0
    → next (heads ts) b p + k ≡ length b → read_fields ts b p s ≡ Ok c
    → Within c (d * (portion (heads ts) + k)) (portion (heads ts) + k)
unfolding In read_item head heads depth LegalTy portion
row_in end f b p s d k c l h r n e = rw (← accepted-same none c e) (omega arith)
row_in (field t ts) f b p s d k c l h r n e =
    let w = span_of (head t) (heads ts) b p in
    let q = then_accepted (read_item t (part b w) (s + w.from)) (read_fields ts b w.next s) c e in
    let x = f.0 (part b w) (s + w.from) d q.0 l.0 (omega arith) q.2 in
    let j = room_span (head t) (heads ts) b p k r n in
    let y = row_in ts f.1 b w.next s d j.0 q.1 l.1 (omega arith) (span_ranges (head t) (heads ts) b p r).2 j.1 q.3 in
    rw (q.4, ← j.2) (omega (arith, x, y, room_least (head t) (part b w)))

-- Fields that lie as they should count at most the levels times their bytes.
whole_in :
    (ts : Tys) → All In ts → (b : List ℕ) (s d : ℕ) (c : Counts) → LegalAll ts → depth_all ts ≤ d → Laid (heads ts) b → read_fields ts b 0 s ≡ Ok c
    → Within c (d * length b) (length b) × (portion (heads ts) ≤ length b)
whole_in ts f b s d c l h g e =
    let m = next-between (heads ts) b 0 0 g.ranges in
    let o = g.first in
    let i : portion (heads ts) + (length b - portion (heads ts)) ≡ length b = omega arith in
    let x = row_in ts f b 0 s d (length b - portion (heads ts)) c l h g.ranges (omega arith) e in
    (rw i at x, omega arith)

elements_in :
    (e : Ty) → In e → (n : ℕ) (b : List ℕ) (s d : ℕ) (c : Counts) → LegalTy e → depth e ≤ d → Laid (replicate n (head e)) b
    → read_each (λ (x : List ℕ) (u : ℕ). read_item e x u) (head e) n b 0 s ≡ Ok c
    → Within c (d * length b) (length b) × (portion (heads (copies e n)) ≤ length b)
elements_in e f n b s d c l h g i =
    let m = depth-copies e n in
    whole_in (copies e n) (all-copies In e n f) b s d c (legal-copies e n l) (omega arith) (rw (← heads-copies e n) at g) (rw (read-copies e n b 0 s) at i)

no_copies : (e : Ty) (n : ℕ) → 1 ≤ n → NoFields (copies e n) → ⊥
no_copies e zero h k = omega arith
no_copies e (suc n) h k = k

mutual
  unfolding In read_item head depth LegalTy

  pub item_in :
      (t : Ty) (b : List ℕ) (s d : ℕ) (c : Counts) → LegalTy t → depth t ≤ d → read_item t b s ≡ Ok c
      → Within c (d * room (head t) b) (length b)
  item_in (number t w) b s d c l h e =
      let p = leaf-accepted (eqb (length b) w) 0 (length b) _ c e in
      let k : 1 ≤ length b = omega (arith, eqb-true (length b) w p.0, fixed-some (number t w) w l refl) in
      leaf_in 0 (length b) (length b) (length b) d c p.1 h k (omega arith) (omega arith)
  item_in (boolean t) b s d c l h e =
      let p = left-accepted (eqb (length b) 1) _ _ c e in
      let q = leaf-accepted (ltb (get_or b 0 0) 2) 0 1 _ c p.1 in
      let k = eqb-true (length b) 1 p.0 in
      leaf_in 0 1 (length b) (length b) d c q.1 h (omega arith) (omega arith) (omega arith)
  item_in (fixed_bytes t n) b s d c l h e =
      let p = leaf-accepted (eqb (length b) n) 0 (length b) _ c e in
      leaf_in 0 (length b) (length b) (length b) d c p.1 h (omega (arith, eqb-true (length b) n p.0)) (omega arith) (omega arith)
  item_in (free_bytes t limit) b s d c l h e =
      let p = leaf-accepted (leb (length b) limit) 1 (length b) _ c e in
      leaf_in 1 (length b) (length b + 4) (length b) d c p.1 h (omega arith) (omega arith) (omega arith)
  item_in (bit_vector t n) b s d c l h e =
      let p = vector-accepted (bit_vector_body b n) t s (length b) c e in
      leaf_in 0 (length b) (length b) (length b) d c p.1 h (omega (arith, vector-length b n l p.0)) (omega arith) (omega arith)
  item_in (bit_list t limit) b s d c l h e =
      let p = list-accepted (bit_list_body b limit) t s c e in
      let k = list_length b limit p.0 p.1 in
      leaf_in 1 (raw_bytes_lem p.0) (length b + 4) (length b) d c p.2 h (omega arith) (omega arith) (omega arith)
  item_in (container t ts) b s zero c l h e = absurd (omega arith)
  item_in (container t ts) b s (suc d) c l h e =
      let p = built-accepted (lay_out_lem (heads ts) b) t s _ c e in
      let q = behind-accepted (single 0 0) (read_fields ts b 0 s) c p.1 in
      let x = whole_in ts (all_in ts) b s d q.0 l.1 (omega arith) (laid_out (heads ts) b p.0) q.1 in
      let y = portion-some ts l.0 l.1 in
      let z = mul-le-mul_left (suc d) (room_least (head_all ts) b) in
      above_in (single 0 0) q.0 c (d * length b) _ (length b) (length b) q.2 (omega arith) x.0 (omega arith) (omega arith)
  item_in (union t os) b s zero c l h e = absurd (omega arith)
  item_in (union t os) b s (suc d) c l h e =
      let p = right_accepted (eqb (length b) 0) _ _ c e in
      let q = left-accepted (leb (get_or b 0 0) 127) _ _ c p.1 in
      option_in os (get_or b 0 0) b t s d c l.2 (omega arith) q.1
  item_in (list t a limit) b s zero c l h e = absurd (omega arith)
  item_in (list t a limit) b s (suc d) c l h e =
      let p = many-accepted (elements (head a) limit b) t s _ c e in
      let g = elements_laid (head a) limit b p.0 (λ k i. fixed-some a k l i) p.1 in
      let q = behind-accepted (single 1 0) _ c p.2 in
      let x = elements_in a (λ o u v i j k m. item_in a o u v i j k m) p.0 b s d q.0 l (omega arith) g.0 q.1 in
      above_in (single 1 0) q.0 c (d * length b) _ (length b) (length b) q.2 (omega arith) x.0 (omega arith) (omega arith)
  item_in (vector t a n) b s zero c l h e = absurd (omega arith)
  item_in (vector t a n) b s (suc d) c l h e =
      let p = built-accepted (vector_told_lem (head a) n b) t s _ c e in
      let q = behind-accepted (single 0 0) _ c p.1 in
      let x = elements_in a (λ o u v i j k m. item_in a o u v i j k m) n b s d q.0 l.1 (omega arith) (vector-laid (head a) n b p.0) q.1 in
      let y = portion-some (copies a n) (no_copies a n l.0) (legal-copies a n l.1) in
      let z = mul-le-mul_left (suc d) (room_least (head (vector t a n)) b) in
      above_in (single 0 0) q.0 c (d * length b) _ (length b) (length b) q.2 (omega arith) x.0 (omega arith) (omega arith)

  all_in : (ts : Tys) → All In ts
  all_in end = tt
  all_in (field t ts) = ((λ b s d c l h e. item_in t b s d c l h e), all_in ts)

  option_in :
      (os : Opts) (k : ℕ) (b : List ℕ) (t s d : ℕ) (c : Counts) → LegalOptions os → depth_options os ≤ d
      → read_option os k b t s ≡ Ok c → Within c (suc d * (length b + 4)) (length b)
  option_in over k b t s d c l h e = not_accepted _ c e
  option_in (bare j os) k b t s d c l h e =
      pick-cases (eqb k j) _ (read_option os k b t s) (Ok c)
      (λ i f.
      let q = leaf-accepted (eqb (length b) 1) 1 0 _ c f in
      leaf_in 1 0 (length b + 4) (length b) (suc d) c q.1 (omega arith) (omega arith) (omega arith) (omega arith))
      (λ i f. option_in os k b t s d c l h f)
      e
  option_in (body j o os) k b t s d c l h e =
      pick-cases (eqb k j) (and_then (one 1 0) (read_item o (drop 1 b) (s + 1))) (read_option os k b t s) (Ok c)
      (λ i f.
      let q = behind-accepted (single 1 0) (read_item o (drop 1 b) (s + 1)) c f in
      let x = item_in o (drop 1 b) (s + 1) d q.0 l.0 (omega arith) q.1 in
      let y : length (drop 1 b) ≤ length b = omega (arith, length-drop 1 b) in
      let z = mul-le-mul_left d (room_most (head o) (drop 1 b) (length b) y) in
      above_in (single 1 0) q.0 c (d * room (head o) (drop 1 b)) _ (length (drop 1 b)) (length b) q.2 (omega arith) x (omega arith) (omega arith))
      (λ i f. option_in os k b t s d c l.1 (omega arith) f)
      e

pub fields_in :
    (ts : Tys) (b : List ℕ) (p s d k : ℕ) (c : Counts) → LegalAll ts → depth_all ts ≤ d → InRange (heads ts) b p 0
    → next (heads ts) b p + k ≡ length b → read_fields ts b p s ≡ Ok c
    → Within c (d * (portion (heads ts) + k)) (portion (heads ts) + k)
fields_in ts = row_in ts (all_in ts)

-- The bodies of an item are no longer than the item.
pub bytes-bound : (t : Ty) (b : List ℕ) (s : ℕ) (c : Counts) → LegalTy t → read_item t b s ≡ Ok c → c.bytes ≤ length b
bytes-bound t b s c l e = (item_in t b s (depth t) c l (omega arith) e).2

-- The counts of a message below 2^32 bytes are far below a word's end.
pub counts_small :
    (l : List ℕ) (t : ℕ) (b : List ℕ) (s : ℕ) (c : Counts) → Legal l (t + 1) → t < 64 → length b < 2 ^ 32
    → read_item (tree_of l t) b s ≡ Ok c → (c.records < 2 ^ 40) × (c.words < 2 ^ 40) × (c.bytes < 2 ^ 40)
counts_small l t b s c g h k e =
    let d = tree_depth l (t + 1) t g (omega arith) in
    let x = item_in (tree_of l t) b s 64 c (legal_tree l (t + 1) t g (omega arith)) (omega arith) e in
    let y = room_most (head (tree_of l t)) b (length b) (omega arith) in
    omega arith
