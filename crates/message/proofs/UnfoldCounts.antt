-- The value form of an accepted item has as many words and bytes as the check counts. Assumes nothing.
use mathlib.Core.Path.{◌≡◌, refl, ap}
use mathlib.Core.List.{List}
use Prim.Native.Nat.{ℕ, ◌+◌, ◌≤◌}
use native.Mathlib.Omega.{arith}
use borrow.Author.Tests.{eqb-true}
use lib.ListN.{length, get_or, drop, length-append}
use lib.Dec.{eqb, ltb, leb}
use Rattle.standard.specs.Types.{Ty, Tys, Opts, number, boolean, fixed_bytes, free_bytes, bit_vector, bit_list, container, union, list, vector, end, field, over, bare, body, head, heads}
use Rattle.standard.specs.Parts.{span_of, part}
use Rattle.standard.proofs.Elements.{All, copies, all-copies}
use Rattle.decode.specs.Builder.{lay_out_lem}
use Rattle.bitfield.specs.Body.{bit_list_body, bit_vector_body}
use Rattle.message.specs.Read.{raw_bytes_lem, one, and_then, elements, many_of, vector_told_lem, read_each, read_item, read_fields, read_option}
use Rattle.message.specs.Unfold.{bit_count, raw_of, each_from, unfold_words, words_fields, words_option, unfold_bytes, bytes_fields, bytes_option, Rooms}
use Rattle.message.specs.declared.Counts.{Counts}
use Rattle.message.proofs.Answers.{none, single, not_accepted, accepted-same, pick-cases, left-accepted, right_accepted, leaf-accepted, then_accepted, behind-accepted, built-accepted, vector-accepted, list-accepted, many-accepted}
use Rattle.message.proofs.Copies.{read-copies, words-copies, bytes-copies}
use Rattle.message.proofs.UnfoldLeaves.{length-raw}
use Rattle.std.specs.declared.result.Result.TheVariants.{Ok}

bits-counted :
    (b : List ℕ) (limit k : ℕ) (c : Counts) → bit_list_body b limit ≡ Ok k → c ≡ single 1 (raw_bytes_lem k)
    → (1 ≡ c.words) × (length (raw_of b (bit_count (bit_list_body b limit))) ≡ c.bytes)
bits-counted b limit k c e f = rw (e, f) (refl, length-raw b k)

-- The law about one type, from it that about a row of fields, and that about elements
Counted : Ty → Type 0
Counted t =
    (b : List ℕ) (s : ℕ) (c : Counts) → read_item t b s ≡ Ok c → (length (unfold_words t b) ≡ c.words) × (length (unfold_bytes t b) ≡ c.bytes)

row-counted :
    (ts : Tys) → All Counted ts → (b : List ℕ) (p s : ℕ) (c : Counts) → read_fields ts b p s ≡ Ok c
    → (length (words_fields ts b p) ≡ c.words) × (length (bytes_fields ts b p) ≡ c.bytes)
unfolding Counted read_item unfold_words unfold_bytes
row-counted end f b p s c e = let q = accepted-same none c e in (rw (← q), rw (← q))
row-counted (field t ts) f b p s c e =
    let w = span_of (head t) (heads ts) b p in
    let q = then_accepted (read_item t (part b w) (s + w.from)) (read_fields ts b w.next s) c e in
    let x = f.0 (part b w) (s + w.from) q.0 q.2 in
    let y = row-counted ts f.1 b w.next s q.1 q.3 in
    rw q.4 (simp length-append (omega (arith, x.0, y.0)), simp length-append (omega (arith, x.1, y.1)))

elements-counted :
    (e : Ty) → Counted e → (n : ℕ) (b : List ℕ) (s : ℕ) (c : Counts)
    → read_each (λ (x : List ℕ) (u : ℕ). read_item e x u) (head e) n b 0 s ≡ Ok c
    → (length (each_from (λ (x : List ℕ). unfold_words e x) (head e) n b 0) ≡ c.words) ×
    (length (each_from (λ (x : List ℕ). unfold_bytes e x) (head e) n b 0) ≡ c.bytes)
elements-counted e f n b s c i =
    rw (words-copies e n b 0, bytes-copies e n b 0)
    (row-counted (copies e n) (all-copies Counted e n f) b 0 s c (rw (read-copies e n b 0 s) at i))

-- words and bytes of an item, of fields, and of an option beside its selector
mutual
  unfolding Counted read_item unfold_words unfold_bytes

  pub form-counted : (t : Ty) (b : List ℕ) (s : ℕ) (c : Counts) → read_item t b s ≡ Ok c →
      (length (unfold_words t b) ≡ c.words) × (length (unfold_bytes t b) ≡ c.bytes)
  form-counted (number t w) b s c e = let q = leaf-accepted (eqb (length b) w) 0 (length b) _ c e in (rw q.1, rw q.1)
  form-counted (boolean t) b s c e =
      let p = left-accepted (eqb (length b) 1) _ _ c e in
      let q = leaf-accepted (ltb (get_or b 0 0) 2) 0 1 _ c p.1 in
      (rw q.1, rw q.1 (eqb-true _ _ p.0))
  form-counted (fixed_bytes t n) b s c e = let q = leaf-accepted (eqb (length b) n) 0 (length b) _ c e in (rw q.1, rw q.1)
  form-counted (free_bytes t limit) b s c e = let q = leaf-accepted (leb (length b) limit) 1 (length b) _ c e in (rw q.1, rw q.1)
  form-counted (bit_vector t n) b s c e = let q = vector-accepted (bit_vector_body b n) t s (length b) c e in (rw q.1, rw q.1)
  form-counted (bit_list t limit) b s c e =
      let p = list-accepted (bit_list_body b limit) t s c e in
      bits-counted b limit p.0 c p.1 p.2
  form-counted (container t ts) b s c e =
      let p = built-accepted (lay_out_lem (heads ts) b) t s _ c e in
      let q = behind-accepted (single 0 0) (read_fields ts b 0 s) c p.1 in
      let r = row-counted ts (all-counted ts) b 0 s q.0 q.1 in
      rw q.2 (omega (arith, r.0), omega (arith, r.1))
  form-counted (union t os) b s c e =
      let p = right_accepted (eqb (length b) 0) _ _ c e in
      let q = left-accepted (leb (get_or b 0 0) 127) _ _ c p.1 in
      let r = option-counted os (get_or b 0 0) b t s c q.1 in
      (omega (arith, r.0), r.1)
  form-counted (list t a limit) b s c e =
      let p = many-accepted (elements (head a) limit b) t s _ c e in
      let q = behind-accepted (single 1 0) _ c p.2 in
      let r = elements-counted a (λ x u d i. form-counted a x u d i) p.0 b s q.0 q.1 in
      let m : many_of (elements (head a) limit b) ≡ p.0 = ap many_of p.1 in
      rw (q.2, m) (omega (arith, r.0), omega (arith, r.1))
  form-counted (vector t a n) b s c e =
      let p = built-accepted (vector_told_lem (head a) n b) t s _ c e in
      let q = behind-accepted (single 0 0) _ c p.1 in
      let r = elements-counted a (λ x u d i. form-counted a x u d i) n b s q.0 q.1 in
      rw q.2 (omega (arith, r.0), omega (arith, r.1))

  all-counted : (ts : Tys) → All Counted ts
  all-counted end = tt
  all-counted (field t ts) = ((λ b s c e. form-counted t b s c e), all-counted ts)

  option-counted :
      (os : Opts) (k : ℕ) (b : List ℕ) (t s : ℕ) (c : Counts) → read_option os k b t s ≡ Ok c
      → (1 + length (words_option os k b) ≡ c.words) × (length (bytes_option os k b) ≡ c.bytes)
  option-counted over k b t s c e = not_accepted _ c e
  option-counted (bare j os) k b t s c e =
      pick-cases (eqb k j) _ (read_option os k b t s) (Ok c)
      (λ i f. let q = leaf-accepted (eqb (length b) 1) 1 0 _ c f in (rw (i, q.1), rw (i, q.1)))
      (λ i f. rw i (option-counted os k b t s c f))
      e
  option-counted (body j o os) k b t s c e =
      pick-cases (eqb k j) (and_then (one 1 0) (read_item o (drop 1 b) (s + 1))) (read_option os k b t s) (Ok c)
      (λ i f.
      let q = behind-accepted (single 1 0) (read_item o (drop 1 b) (s + 1)) c f in
      let r = form-counted o (drop 1 b) (s + 1) q.0 q.1 in
      rw (i, q.2) (omega (arith, r.0), omega (arith, r.1)))
      (λ i f. rw i (option-counted os k b t s c f))
      e

pub fields-counted :
    (ts : Tys) (b : List ℕ) (p s : ℕ) (c : Counts) → read_fields ts b p s ≡ Ok c
    → (length (words_fields ts b p) ≡ c.words) × (length (bytes_fields ts b p) ≡ c.bytes)
fields-counted ts = row-counted ts (all-counted ts)

pub words-counted : (t : Ty) (b : List ℕ) (s : ℕ) (c : Counts) → read_item t b s ≡ Ok c → length (unfold_words t b) ≡ c.words
words-counted t b s c e = (form-counted t b s c e).0

pub bytes_counted : (t : Ty) (b : List ℕ) (s : ℕ) (c : Counts) → read_item t b s ≡ Ok c → length (unfold_bytes t b) ≡ c.bytes
bytes_counted t b s c e = (form-counted t b s c e).1

-- There is room for as much as is counted.
pub form-rooms :
    (x : Ty) (m o p : List ℕ) (c : Counts) → read_item x m 0 ≡ Ok c → c.words ≤ length o → c.bytes ≤ length p
    → Rooms o p (record { word = 0; byte = 0 }) (unfold_words x m) (unfold_bytes x m)
form-rooms x m o p c e i j =
    record {
      words = record { room = omega (arith, words-counted x m 0 c e) };
      bytes = record { room = omega (arith, bytes_counted x m 0 c e) };
    }
