-- Unfolding gives the value form of the one value whose serialization the message is. Assumes nothing.
--     unfolds          the value form made from the serialization of a value is the value's form
--     unfold_value     of the call: with room for its form, the message of a value is answered by that form's sizes, and the form is filled in
--     unfold_accepted  of the call: where sizes are answered, there is one value, and its form is filled in
--     unfold_refused   of the call: a refusal changes neither buffer
use mathlib.Core.Path.{◌≡◌, refl, sym, ap, ap₂, ◌∙◌}
use mathlib.Core.Logic.{inl, inr}
use mathlib.Core.List.{List, ◌∷◌, ◌++◌}
use mathlib.Core.Bool.{Bool, true, false}
use Prim.Native.Nat.{ℕ, ◌+◌, ◌/◌, ◌≤◌, ◌<◌, ◌^◌}
use native.Mathlib.Omega.{arith}
use borrow.Author.Tests.{eq-eqb, ne_eqb, le-ltb, ltb-false}
use lib.ListN.{length}
use lib.Seq.{sets}
use lib.Dec.{ltb}
use Rattle.standard.specs.Choice.{pick}
use Rattle.standard.specs.Bytes.{Bytes, num}
use Rattle.standard.specs.Bits.{packs, pack, marked}
use Rattle.standard.specs.Types.{Ty, Tys, Opts, number, boolean, fixed_bytes, free_bytes, bit_vector, bit_list, container, union, list, vector, end, field, over, bare, body, head, heads, Rising, LegalTy, LegalAll, LegalOptions}
use Rattle.standard.specs.Parts.{join, span_of, part, split}
use Rattle.standard.specs.Serialize.{Val, Vals, Option, Ok, OkAll, OkOption, serialize, parts}
use Rattle.standard.specs.declared.Refusal.TheVariants.{NoRoom}
use Rattle.standard.proofs.Bits.{bits_of, marked-injective, bytes-marked}
use Rattle.standard.proofs.Join.{Small, split-join, small-join}
use Rattle.standard.proofs.Elements.{All, copies, all-copies, length-as_list, by_copies, alike-copies, ok-copies}
use Rattle.standard.proofs.Laws.{heads-parts, legal-copies, values_sized, piece_bytes, piece-rest, selector, payload, selected_is, selector-bounds}
use Rattle.bitfield.proofs.Standard.{list-sound, list-complete}
use Rattle.layout.specs.Table.{table_of}
use Rattle.message.specs.Read.{raw_bytes_lem}
use Rattle.message.specs.Check.{message_type, check_message, type_under}
use Rattle.message.specs.Form.{raw_bits, contents, contents_all, contents_option, bodies, bodies_all, bodies_option}
use Rattle.message.specs.Unfold.{raw_of, unfold_words, words_fields, words_option, unfold_bytes, bytes_fields, bytes_option, unfolded_of, filled_of, unfold_message, unfolded_words, unfolded_bytes}
use Rattle.message.specs.declared.Counts.{Counts}
use Rattle.message.proofs.Answers.{pick_right}
use Rattle.message.proofs.Theorem.{sound, complete, message-read, message-legal}
use Rattle.message.proofs.UnfoldCounts.{words-counted, bytes_counted}
use Rattle.message.proofs.Copies.{copies-many, words-copies, bytes-copies, contents-copies, bodies-copies}
use Rattle.message.specs.declared.Sizes.{Sizes}
use Rattle.std.specs.declared.result.Result.{Result}
use Rattle.std.specs.declared.result.Result.TheVariants.{Err}
use Rattle.message.specs.declared.RefusedAt.{RefusedAt}
use Rattle.message.specs.Read.{located}

-- Bits: raw bytes of a vector are its bytes, and those of a list are its bytes without the mark.
vector-raw : (bs : List Bool) → 1 ≤ length bs → pack bs ≡ raw_bits bs
unfolding pack
vector-raw bs h = let e : (length bs + 7) / 8 ≡ raw_bytes_lem (length bs) = omega arith in ap (λ (i : ℕ). packs i bs) e

list-raw : (bs : List Bool) → raw_of (marked bs) (length bs) ≡ raw_bits bs
unfolding raw_of
list-raw bs =
    let q = list-sound (marked bs) (length bs) (length bs) (bytes-marked bs) (list-complete bs (length bs) (omega arith)) in
    ap (packs (raw_bytes_lem (length bs))) (marked-injective (bits_of (length bs) (num (marked bs))) bs q.0)

-- The law about one type, from it that about a row of fields, and that about elements
Unfolds : Ty → Type 0
Unfolds t =
    (v : Val t) → LegalTy t → Ok t v → length (serialize t v) < 2 ^ 32
    → (unfold_words t (serialize t v) ≡ contents t v) × (unfold_bytes t (serialize t v) ≡ bodies t v)

row-unfolds :
    (ts : Tys) → All Unfolds ts → (vs : Vals ts) (b : List ℕ) (p : ℕ) → LegalAll ts → OkAll ts vs → Small (parts ts vs)
    → split (heads ts) b p ≡ parts ts vs → (words_fields ts b p ≡ contents_all ts vs) × (bytes_fields ts b p ≡ bodies_all ts vs)
unfolding Unfolds unfold_words unfold_bytes contents bodies serialize Ok heads split Small LegalTy
row-unfolds end f vs b p l h k e = (refl, refl)
row-unfolds (field t ts) f vs b p l h k e =
    let w = span_of (head t) (heads ts) b p in
    let u = piece_bytes (head t) (part b w) (serialize t vs.0) (split (heads ts) b w.next) (parts ts vs.1) e in
    let r = piece-rest (head t) (part b w) (serialize t vs.0) (split (heads ts) b w.next) (parts ts vs.1) e in
    let x = f.0 vs.0 l.0 h.0 k.0 in
    let y = row-unfolds ts f.1 vs.1 b w.next l.1 h.1 k.1 r in (
      ap₂ (λ (i j : List ℕ). i ++ j) (ap (unfold_words t) u ∙ x.0) y.0,
      ap₂ (λ (i j : List ℕ). i ++ j) (ap (unfold_bytes t) u ∙ x.1) y.1,
    )

whole-unfolds :
    (ts : Tys) → All Unfolds ts → (vs : Vals ts) → LegalAll ts → OkAll ts vs → length (join (parts ts vs)) < 2 ^ 32
    → (words_fields ts (join (parts ts vs)) 0 ≡ contents_all ts vs) × (bytes_fields ts (join (parts ts vs)) 0 ≡ bodies_all ts vs)
whole-unfolds ts f vs l h k =
    let xs = parts ts vs in
    let z = values_sized ts vs h in
    row-unfolds ts f vs (join xs) 0 l h (small-join xs z k) (rw (heads-parts ts vs) at (split-join xs z k))

copies_unfold :
    (e : Ty) → Unfolds e → LegalTy e → (n : ℕ) (vs : Vals (copies e n)) → OkAll (copies e n) vs → length (join (parts (copies e n) vs)) < 2 ^ 32
    → (words_fields (copies e n) (join (parts (copies e n) vs)) 0 ≡ contents_all (copies e n) vs) ×
    (bytes_fields (copies e n) (join (parts (copies e n) vs)) 0 ≡ bodies_all (copies e n) vs)
copies_unfold e f l n vs h k = whole-unfolds (copies e n) (all-copies Unfolds e n f) vs (legal-copies e n l) h k

list-unfolds :
    (t : ℕ) (e : Ty) (limit : ℕ) → Unfolds e → LegalTy e → (vs : List (Val e)) → Ok (list t e limit) vs → length (serialize (list t e limit) vs) < 2 ^ 32
    → (unfold_words (list t e limit) (serialize (list t e limit) vs) ≡ contents (list t e limit) vs) ×
    (unfold_bytes (list t e limit) (serialize (list t e limit) vs) ≡ bodies (list t e limit) vs)
unfolding unfold_words unfold_bytes contents bodies serialize Ok
list-unfolds t e limit f l =
    by_copies e _
    (λ n vs h k.
    let q = alike-copies e n vs in
    let o = ok-copies e n vs h.1 in
    let small = rw q at k in
    let m : n ≤ limit = rw (length-as_list e n vs) at h.0 in
    let r = copies_unfold e f l n vs o small in
    let c = copies-many e limit n vs l o small m in (
      rw (q, c, words-copies e n (join (parts (copies e n) vs)) 0, contents-copies e n vs, length-as_list e n vs, r.0),
      rw (q, c, bytes-copies e n (join (parts (copies e n) vs)) 0, bodies-copies e n vs, r.1),
    ))

vector-unfolds :
    (t : ℕ) (e : Ty) (m : ℕ) → Unfolds e → LegalTy e → (vs : List (Val e)) → Ok (vector t e m) vs → length (serialize (vector t e m) vs) < 2 ^ 32
    → (unfold_words (vector t e m) (serialize (vector t e m) vs) ≡ contents (vector t e m) vs) ×
    (unfold_bytes (vector t e m) (serialize (vector t e m) vs) ≡ bodies (vector t e m) vs)
unfolding unfold_words unfold_bytes contents bodies serialize Ok
vector-unfolds t e m f l =
    by_copies e _
    (λ n vs h k.
    let q = alike-copies e n vs in
    let i : m ≡ n = sym h.0 ∙ length-as_list e n vs in
    let r = copies_unfold e f l n vs (ok-copies e n vs h.1) (rw q at k) in (
      rw (q, i, words-copies e n (join (parts (copies e n) vs)) 0, contents-copies e n vs, r.0),
      rw (q, i, bytes-copies e n (join (parts (copies e n) vs)) 0, bodies-copies e n vs, r.1),
    ))

mutual
  unfolding Unfolds unfold_words unfold_bytes contents bodies serialize Ok LegalTy Rising selector payload

  pub unfolds :
      (t : Ty) (v : Val t) → LegalTy t → Ok t v → length (serialize t v) < 2 ^ 32
      → (unfold_words t (serialize t v) ≡ contents t v) × (unfold_bytes t (serialize t v) ≡ bodies t v)
  unfolds (number t w) n l h k = (refl, refl)
  unfolds (boolean t) x l h k = (refl, refl)
  unfolds (fixed_bytes t n) bs l h k = (refl, refl)
  unfolds (free_bytes t limit) bs l h k = (refl, refl)
  unfolds (bit_vector t n) bs l h k = (refl, vector-raw bs (rw h l))
  unfolds (bit_list t limit) bs l h k = (rw (list-complete bs limit h), rw (list-complete bs limit h) (list-raw bs))
  unfolds (container t ts) vs l h k = whole-unfolds ts (all_unfold ts) vs l.1 h k
  unfolds (union t os) v l h k =
      let e = selected_is os v in
      rw e (unfolds-option os v 0 l.1 l.2 h (rw e at k))
  unfolds (list t e limit) vs l h k = list-unfolds t e limit (λ v i j m. unfolds e v i j m) l vs h k
  unfolds (vector t e n) vs l h k = vector-unfolds t e n (λ v i j m. unfolds e v i j m) l.1 vs h k

  all_unfold : (ts : Tys) → All Unfolds ts
  all_unfold end = tt
  all_unfold (field t ts) = ((λ v l h k. unfolds t v l h k), all_unfold ts)

  unfolds-option :
      (os : Opts) (v : Option os) (k : ℕ) → Rising k os → LegalOptions os → OkOption os v → length (selector os v ∷ payload os v) < 2 ^ 32
      → (selector os v ∷ words_option os (selector os v) (selector os v ∷ payload os v) ≡ contents_option os v) ×
      (bytes_option os (selector os v) (selector os v ∷ payload os v) ≡ bodies_option os v)
  unfolds-option over v k g l h n = absurd v
  unfolds-option (bare j os) (inl x) k g l h n = (rw (eq-eqb j j refl), rw (eq-eqb j j refl))
  unfolds-option (bare j os) (inr v) k g l h n =
      let m = selector-bounds os (j + 1) v g.2 in
      rw (ne_eqb (selector os v) j (λ (q : selector os v ≡ j). omega arith)) (unfolds-option os v (j + 1) g.2 l h n)
  unfolds-option (body j o os) (inl x) k g l h n =
      let f = unfolds o x l.0 h (omega arith) in
      (rw (eq-eqb j j refl, f.0), rw (eq-eqb j j refl, f.1))
  unfolds-option (body j o os) (inr v) k g l h n =
      let m = selector-bounds os (j + 1) v g.2 in
      rw (ne_eqb (selector os v) j (λ (q : selector os v ≡ j). omega arith)) (unfolds-option os v (j + 1) g.2 l.1 h n)

-- An item that is the serialization of a value has that value's form.
pub item-unfolds :
    (t : Ty) (v : Val t) (b : List ℕ) → LegalTy t → Ok t v → serialize t v ≡ b → length b < 2 ^ 32
    → (unfold_words t b ≡ contents t v) × (unfold_bytes t b ≡ bodies t v)
item-unfolds t v b l h e k = rw e at (unfolds t v l h (rw e k))

-- What the answer says of the room.
sizes-says :
    (x : Result Counts RefusedAt) (o p : List ℕ) (w y : ℕ) → unfolded_of x o p ≡ Result.Ok (record { words = w; bytes = y })
    → (c : Counts) × (x ≡ Result.Ok c) × (c.words ≤ length o) × (c.bytes ≤ length p) × (c.words ≡ w) × (c.bytes ≡ y)
sizes-says (Err r) o p w y e = let z : ◌≡◌ {A = ℕ} 0 1 = cc in absurd (omega arith)
sizes-says (Result.Ok c) o p w y e =
    let i = pick_right (ltb (length o) c.words) _ _ (Result.Ok (record { words = w; bytes = y })) (λ f. let z : ◌≡◌ {A = ℕ} 0 1 = cc in omega arith) e in
    let j = pick_right (ltb (length p) c.bytes) _ _ (Result.Ok (record { words = w; bytes = y })) (λ f. let z : ◌≡◌ {A = ℕ} 0 1 = cc in omega arith) i.1 in
    let q : ◌≡◌ {A = Result Sizes RefusedAt} (Result.Ok (record { words = c.words; bytes = c.bytes })) (Result.Ok (record { words = w; bytes = y })) = j.1 in
    let r : ◌≡◌ {A = Sizes} (record { words = c.words; bytes = c.bytes }) (record { words = w; bytes = y }) = cc in
    (c, refl, ltb-false _ _ i.0, ltb-false _ _ j.0, ap (λ (z : Sizes). z.words) r, ap (λ (z : Sizes). z.bytes) r)

-- The call: under a legal table, for a message below 2^32 bytes.
module _ (l : List ℕ) (n : ℕ) (h : Bytes l) (e : table_of l ≡ Result.Ok n) (m : List ℕ) (k : length m < 2 ^ 32) (o p : List ℕ) where
  given :
      (c : Counts) (x y : List ℕ) → check_message l m ≡ Result.Ok c → unfold_words (message_type l n) m ≡ x → unfold_bytes (message_type l n) m ≡ y
      → c.words ≤ length o → c.bytes ≤ length p
      → (unfold_message l m o p ≡ Result.Ok (record { words = length x; bytes = length y })) × (unfolded_words l m o p ≡ sets o 0 x) × (unfolded_bytes l m o p ≡ sets p 0 y)
  unfolding unfold_message unfolded_words unfolded_bytes
  given c x y f q r i j =
      let a = sym (message-read l n h e m k) ∙ f in
      let u : length x ≡ c.words = ap length (sym q) ∙ words-counted (message_type l n) m 0 c a in
      let v : length y ≡ c.bytes = ap length (sym r) ∙ bytes_counted (message_type l n) m 0 c a in
      let s = le-ltb (length o) c.words i in
      let z = le-ltb (length p) c.bytes j in
      (rw (f, s, z, u, v), rw (e, f, s, z, q), rw (e, f, s, z, r))

  pub unfold_value :
      (v : Val (message_type l n)) → Ok (message_type l n) v → serialize (message_type l n) v ≡ m
      → length (contents (message_type l n) v) ≤ length o → length (bodies (message_type l n) v) ≤ length p
      → (unfold_message l m o p ≡ Result.Ok (record { words = length (contents (message_type l n) v); bytes = length (bodies (message_type l n) v) })) ×
      (unfolded_words l m o p ≡ sets o 0 (contents (message_type l n) v)) × (unfolded_bytes l m o p ≡ sets p 0 (bodies (message_type l n) v))
  unfold_value v g s i j =
      let t = message_type l n in
      let legal = message-legal l n h e m k in
      let a = rw s at (complete t v 0 legal g (rw s k)) in
      let f = item-unfolds t v m legal g s k in
      let x = ap length (sym f.0) ∙ words-counted t m 0 a.0 a.1 in
      let y = ap length (sym f.1) ∙ bytes_counted t m 0 a.0 a.1 in
      given a.0 (contents t v) (bodies t v) (message-read l n h e m k ∙ a.1) f.0 f.1 (omega (arith, x)) (omega (arith, y))

  pub unfold_accepted :
      (w y : ℕ) → Bytes m → unfold_message l m o p ≡ Result.Ok (record { words = w; bytes = y })
      → (v : Val (message_type l n)) × Ok (message_type l n) v × (serialize (message_type l n) v ≡ m) × (w ≡ length (contents (message_type l n) v)) ×
      (y ≡ length (bodies (message_type l n) v)) × (unfolded_words l m o p ≡ sets o 0 (contents (message_type l n) v)) ×
      (unfolded_bytes l m o p ≡ sets p 0 (bodies (message_type l n) v))
  unfolding unfold_message
  unfold_accepted w y i f =
      let t = message_type l n in
      let legal = message-legal l n h e m k in
      let q = sizes-says (check_message l m) o p w y f in
      let a = sym (message-read l n h e m k) ∙ q.1 in
      let v = sound t m 0 q.0 legal i a in
      let u = item-unfolds t v.0 m legal v.1 v.2 k in
      let g = given q.0 (contents t v.0) (bodies t v.0) q.1 u.0 u.1 q.2 q.3 in
      let x = ap length (sym u.0) ∙ words-counted t m 0 q.0 a in
      let z = ap length (sym u.1) ∙ bytes_counted t m 0 q.0 a in
      (v.0, v.1, v.2, sym (x ∙ q.4), sym (z ∙ q.5), g.1, g.2)

-- A refusal changes nothing, whatever it is.
kept : (x : Result Counts RefusedAt) (o p q y : List ℕ) (r : RefusedAt) → unfolded_of x o p ≡ Err r → filled_of x o p q y ≡ q
kept (Err r) o p q y r' e = refl
kept (Result.Ok c) o p q y r e = go (ltb (length o) c.words) (ltb (length p) c.bytes) e
  where
    go : (a b : Bool) → pick {A = Result Sizes RefusedAt} a (Err (located (NoRoom c.words c.bytes) 0 0))
        (pick b (Err (located (NoRoom c.words c.bytes) 0 0)) (Result.Ok (record { words = c.words; bytes = c.bytes }))) ≡ Err r →
        pick a q (pick b q (sets q 0 y)) ≡ q
    go true b f = refl
    go false true f = refl
    go false false f = let z : ◌≡◌ {A = ℕ} 0 1 = cc in absurd (omega arith)

pub unfold_refused :
    (l m o p : List ℕ) (r : RefusedAt) → unfold_message l m o p ≡ Err r
    → (unfolded_words l m o p ≡ o) × (unfolded_bytes l m o p ≡ p)
unfolding unfold_message unfolded_words unfolded_bytes
unfold_refused l m o p r e = (
  kept (check_message l m) o p o (unfold_words (type_under (table_of l) l) m) r e,
  kept (check_message l m) o p p (unfold_bytes (type_under (table_of l) l) m) r e,
)
