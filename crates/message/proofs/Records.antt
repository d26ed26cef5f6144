-- The listing of an accepted item has as many records as are counted, of twelve bytes each. Assumes nothing.
use mathlib.Core.Path.{◌≡◌, ap}
use mathlib.Core.List.{List}
use Prim.Native.Nat.{ℕ, ◌+◌, ◌*◌}
use native.Mathlib.Omega.{arith}
use lib.ListN.{length, get_or, drop, length-append}
use lib.Dec.{eqb, ltb, leb}
use Rattle.standard.specs.Types.{Ty, Tys, Opts, number, boolean, fixed_bytes, free_bytes, bit_vector, bit_list, container, union, list, vector, end, field, over, bare, body, head, heads}
use Rattle.standard.specs.Parts.{span_of, part}
use Rattle.standard.proofs.Bytes.{length-le}
use Rattle.standard.proofs.Elements.{All, copies, all-copies}
use Rattle.decode.specs.Builder.{lay_out_lem}
use Rattle.bitfield.specs.Body.{bit_list_body, bit_vector_body}
use Rattle.message.specs.Read.{raw_bytes_lem, one, and_then, elements, many_of, vector_told_lem, read_each, read_item, read_fields, read_option}
use Rattle.message.specs.Listing.{entry, list_each, list_item_lem, list_fields_lem, list_option}
use Rattle.message.specs.declared.Counts.{Counts}
use Rattle.message.proofs.Answers.{none, single, not_accepted, accepted-same, pick-cases, left-accepted, right_accepted, leaf-accepted, then_accepted, behind-accepted, built-accepted, vector-accepted, list-accepted, many-accepted}
use Rattle.message.proofs.Copies.{read-copies, list-copies}
use Rattle.std.specs.declared.result.Result.TheVariants.{Ok}

pub length-entry : (t : ℕ) (b : List ℕ) (s : ℕ) → length (entry t b s) ≡ 12
unfolding entry
length-entry t b s = simp (length-append, length-le)

leaf-listed : (t : ℕ) (b : List ℕ) (s w k : ℕ) (c : Counts) → c ≡ single w k → length (entry t b s) ≡ 12 * c.records
leaf-listed t b s w k c e = rw e (length-entry t b s)

-- The law about one type, from it that about a row of fields, and that about elements
Counted : Ty → Type 0
Counted t = (b : List ℕ) (s : ℕ) (c : Counts) → read_item t b s ≡ Ok c → length (list_item_lem t b s) ≡ 12 * c.records

row_listed :
    (ts : Tys) → All Counted ts → (b : List ℕ) (p s : ℕ) (c : Counts) → read_fields ts b p s ≡ Ok c → length (list_fields_lem ts b p s) ≡ 12 * c.records
unfolding Counted read_item list_item_lem
row_listed end f b p s c e = rw (← accepted-same none c e)
row_listed (field t ts) f b p s c e =
    let w = span_of (head t) (heads ts) b p in
    let q = then_accepted (read_item t (part b w) (s + w.from)) (read_fields ts b w.next s) c e in
    let x = f.0 (part b w) (s + w.from) q.0 q.2 in
    let y = row_listed ts f.1 b w.next s q.1 q.3 in
    rw q.4 (simp length-append (omega (arith, x, y)))

elements-listed :
    (e : Ty) → Counted e → (n : ℕ) (b : List ℕ) (s : ℕ) (c : Counts)
    → read_each (λ (x : List ℕ) (u : ℕ). read_item e x u) (head e) n b 0 s ≡ Ok c
    → length (list_each (λ (x : List ℕ) (u : ℕ). list_item_lem e x u) (head e) n b 0 s) ≡ 12 * c.records
elements-listed e f n b s c i =
    rw (list-copies e n b 0 s) (row_listed (copies e n) (all-copies Counted e n f) b 0 s c (rw (read-copies e n b 0 s) at i))

mutual
  unfolding Counted read_item list_item_lem

  pub listed-length : (t : Ty) (b : List ℕ) (s : ℕ) (c : Counts) → read_item t b s ≡ Ok c → length (list_item_lem t b s) ≡ 12 * c.records
  listed-length (number t w) b s c e = leaf-listed t b s 0 (length b) c (leaf-accepted (eqb (length b) w) 0 (length b) _ c e).1
  listed-length (boolean t) b s c e =
      let p = left-accepted (eqb (length b) 1) _ _ c e in
      leaf-listed t b s 0 1 c (leaf-accepted (ltb (get_or b 0 0) 2) 0 1 _ c p.1).1
  listed-length (fixed_bytes t n) b s c e = leaf-listed t b s 0 (length b) c (leaf-accepted (eqb (length b) n) 0 (length b) _ c e).1
  listed-length (free_bytes t limit) b s c e =
      leaf-listed t b s 1 (length b) c (leaf-accepted (leb (length b) limit) 1 (length b) _ c e).1
  listed-length (bit_vector t n) b s c e = leaf-listed t b s 0 (length b) c (vector-accepted (bit_vector_body b n) t s (length b) c e).1
  listed-length (bit_list t limit) b s c e =
      let p = list-accepted (bit_list_body b limit) t s c e in
      leaf-listed t b s 1 (raw_bytes_lem p.0) c p.2
  listed-length (container t ts) b s c e =
      let p = built-accepted (lay_out_lem (heads ts) b) t s _ c e in
      let q = behind-accepted (single 0 0) (read_fields ts b 0 s) c p.1 in
      rw q.2 (simp (length-append, length-entry) (omega (arith, row_listed ts (all_listed ts) b 0 s q.0 q.1)))
  listed-length (union t os) b s c e =
      let p = right_accepted (eqb (length b) 0) _ _ c e in
      let q = left-accepted (leb (get_or b 0 0) 127) _ _ c p.1 in
      simp (length-append, length-entry) (option-listed os (get_or b 0 0) b t s c q.1)
  listed-length (list t a limit) b s c e =
      let p = many-accepted (elements (head a) limit b) t s _ c e in
      let q = behind-accepted (single 1 0) _ c p.2 in
      let r = elements-listed a (λ x u d i. listed-length a x u d i) p.0 b s q.0 q.1 in
      let m : many_of (elements (head a) limit b) ≡ p.0 = ap many_of p.1 in
      rw (q.2, m) (simp (length-append, length-entry) (omega (arith, r)))
  listed-length (vector t a n) b s c e =
      let p = built-accepted (vector_told_lem (head a) n b) t s _ c e in
      let q = behind-accepted (single 0 0) _ c p.1 in
      let r = elements-listed a (λ x u d i. listed-length a x u d i) n b s q.0 q.1 in
      rw q.2 (simp (length-append, length-entry) (omega (arith, r)))

  all_listed : (ts : Tys) → All Counted ts
  all_listed end = tt
  all_listed (field t ts) = ((λ b s c e. listed-length t b s c e), all_listed ts)

  -- the union's own record, and those of the option
  option-listed :
      (os : Opts) (k : ℕ) (b : List ℕ) (t s : ℕ) (c : Counts) → read_option os k b t s ≡ Ok c
      → 12 + length (list_option os k b s) ≡ 12 * c.records
  option-listed over k b t s c e = not_accepted _ c e
  option-listed (bare j os) k b t s c e =
      pick-cases (eqb k j) _ (read_option os k b t s) (Ok c)
      (λ i f. let q = leaf-accepted (eqb (length b) 1) 1 0 _ c f in rw (i, q.1))
      (λ i f. rw i (option-listed os k b t s c f))
      e
  option-listed (body j o os) k b t s c e =
      pick-cases (eqb k j) (and_then (one 1 0) (read_item o (drop 1 b) (s + 1))) (read_option os k b t s) (Ok c)
      (λ i f.
      let q = behind-accepted (single 1 0) (read_item o (drop 1 b) (s + 1)) c f in
      rw (i, q.2) (omega (arith, listed-length o (drop 1 b) (s + 1) q.0 q.1)))
      (λ i f. rw i (option-listed os k b t s c f))
      e

pub fields-listed :
    (ts : Tys) (b : List ℕ) (p s : ℕ) (c : Counts) → read_fields ts b p s ≡ Ok c → length (list_fields_lem ts b p s) ≡ 12 * c.records
fields-listed ts = row_listed ts (all_listed ts)
