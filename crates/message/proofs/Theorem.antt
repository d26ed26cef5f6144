-- An item is accepted if and only if it is the serialization of a value of its type, and that value is the only one. Assumes nothing.
--     sound       what is accepted is the serialization of a value
--     complete    the serialization of a value is accepted
--     only_one    two values with one serialization are equal
-- Each from the law about one type, that about a row of fields, and that about elements, which are fields of one type.
-- Then the same of a whole message under a legal layout table; and where an item starts is no matter to its acceptance.
use mathlib.Core.Path.{◌≡◌, refl, sym, ap, ap₂, ◌∙◌}
use mathlib.Core.Logic.{inl, inr, ◌↔◌}
use mathlib.Core.List.{List, [], ◌∷◌}
use mathlib.Core.Bool.{Bool, true, false}
use Prim.Native.Nat.{ℕ, zero, suc, ◌+◌, ◌-◌, ◌≤◌, ◌<◌, ◌^◌}
use native.Mathlib.Omega.{arith}
use borrow.Author.Tests.{eqb-true, leb-true, ltb-true, le-leb, eq-eqb, lt-ltb, ne_eqb, le-ltb}
use lib.ListN.{length, get_or, drop, replicate}
use lib.Dec.{eqb, ltb, leb}
use Rattle.standard.specs.Choice.{pick}
use Rattle.standard.specs.Bytes.{Bytes, le, num}
use Rattle.standard.specs.Bits.{bit, pack}
use Rattle.standard.specs.Types.{Ty, Tys, Opts, number, boolean, fixed_bytes, free_bytes, bit_vector, bit_list, container, union, list, vector, end, field, over, bare, body, head, heads, Rising, LegalTy, LegalAll, LegalOptions}
use Rattle.standard.specs.Parts.{Part, piece, alike, join, span_of, part, split}
use Rattle.standard.specs.Serialize.{Val, Vals, Option, Each, Ok, OkAll, OkOption, serialize, parts, selected}
use Rattle.standard.specs.declared.Span.{Span}
use Rattle.standard.specs.declared.Refusal.{Refusal}
use Rattle.standard.proofs.Bytes.{bytes_drop, bytes_take, length-le, le-num, num-bound}
use Rattle.standard.proofs.Bits.{bits_of, length-bits_of, bit-bound}
use Rattle.standard.proofs.Join.{Small, join-split, join-ranges, join-next, split-join, small-join}
use Rattle.standard.proofs.Elements.{All, copies, all-copies, heads-copies, as_list, length-as_list, by_copies, alike-copies, ok-copies, copies-ok}
use Rattle.standard.proofs.Laws.{fixed-some, heads-parts, legal-copies, values_sized, piece_bytes, piece-rest, selector, payload, selected_is, selector-bounds, injective}
use Rattle.decode.specs.Builder.{lay_out_lem}
use Rattle.decode.proofs.Register.{layout-passes}
use Rattle.bitfield.specs.Body.{bit_list_body, bit_vector_body}
use Rattle.bitfield.proofs.Standard.{list-sound, list-complete, vector-sound, vector-complete}
use Rattle.layout.specs.Table.{table_of}
use Rattle.layout.proofs.Trees.{legal_tree}
use Rattle.layout.proofs.Tables.{table_legal}
use Rattle.message.specs.Read.{raw_bytes_lem, one, plus, and_then, built, of_vector_lem, of_list, of_elements, elements, vector_told_lem, read_each, read_item, read_fields, read_option}
use Rattle.message.specs.Check.{message_type, check_message}
use Rattle.message.specs.declared.Counts.{Counts}
use Rattle.message.proofs.Answers.{single, not_accepted, pick-cases, left-accepted, right_accepted, leaf-accepted, then_accepted, then_accepts, behind-accepted, built-accepted, vector-accepted, list-accepted, many-accepted}
use Rattle.message.proofs.Copies.{read-copies, Laid, laid_out, vector-laid, laid-vector, elements_laid, laid-elements}
use Rattle.std.specs.Prelude.{⊤}
use Rattle.std.specs.declared.result.Result.{Result}
use Rattle.std.specs.declared.result.Result.TheVariants.{Err}
use Rattle.message.specs.declared.RefusedAt.{RefusedAt}
use Rattle.message.specs.Read.{located}

-- What is accepted is the serialization of a value.
sound-boolean : (b : List ℕ) → length b ≡ 1 → get_or b 0 0 < 2 → (x : Bool) × (bit x ∷ [] ≡ b)
sound-boolean [] h k = absurd (omega arith)
sound-boolean (zero ∷ []) h k = (false, refl)
sound-boolean (suc zero ∷ []) h k = (true, refl)
sound-boolean (suc (suc n) ∷ []) h k = absurd (omega arith)
sound-boolean (x ∷ y ∷ b) h k = absurd (omega arith)

bytes-part : (b : List ℕ) (w : Span) → Bytes b → Bytes (part b w)
bytes-part b w h = bytes_take (w.to - w.from) (drop w.from b) (bytes_drop w.from b h)

alone : (j k : ℕ) (r : List ℕ) → k ≡ j → length (k ∷ r) ≡ 1 → j ∷ [] ≡ k ∷ r
alone j k [] e l = ap (λ (y : ℕ). y ∷ []) (sym e)
alone j k (x ∷ r) e l = absurd (omega arith)

Sound : Ty → Type 0
Sound t = (b : List ℕ) (s : ℕ) (c : Counts) → LegalTy t → Bytes b → read_item t b s ≡ Result.Ok c → (v : Val t) × Ok t v × (serialize t v ≡ b)

row-sound :
    (ts : Tys) → All Sound ts → (b : List ℕ) (p s : ℕ) (c : Counts) → LegalAll ts → Bytes b → read_fields ts b p s ≡ Result.Ok c
    → (vs : Vals ts) × OkAll ts vs × (parts ts vs ≡ split (heads ts) b p)
unfolding Sound read_item serialize Ok heads split LegalTy
row-sound end f b p s c l h e = (tt, tt, refl)
row-sound (field t ts) f b p s c l h e =
    let w = span_of (head t) (heads ts) b p in
    let q = then_accepted (read_item t (part b w) (s + w.from)) (read_fields ts b w.next s) c e in
    let x = f.0 (part b w) (s + w.from) q.0 l.0 (bytes-part b w h) q.2 in
    let y = row-sound ts f.1 b w.next s q.1 l.1 h q.3 in
    ((x.0, y.0), (x.1, y.1), ap₂ (λ (u : List ℕ) (v : List Part). piece (head t) u ∷ v) x.2 y.2)

whole-sound :
    (ts : Tys) → All Sound ts → (b : List ℕ) (s : ℕ) (c : Counts) → LegalAll ts → Bytes b → Laid (heads ts) b → read_fields ts b 0 s ≡ Result.Ok c
    → (vs : Vals ts) × OkAll ts vs × (join (parts ts vs) ≡ b)
whole-sound ts f b s c l h g e =
    let r = row-sound ts f b 0 s c l h e in
    (r.0, r.1, rw r.2 (join-split (heads ts) b h g.ranges g.first))

elements-sound :
    (e : Ty) → Sound e → (n : ℕ) (b : List ℕ) (s : ℕ) (c : Counts) → LegalTy e → Bytes b → Laid (replicate n (head e)) b
    → read_each (λ (x : List ℕ) (u : ℕ). read_item e x u) (head e) n b 0 s ≡ Result.Ok c
    → (vs : List (Val e)) × (length vs ≡ n) × Each (λ (v : Val e). Ok e v) vs × (join (alike (head e) (λ (v : Val e). serialize e v) vs) ≡ b)
elements-sound e f n b s c l h g i =
    let d = rw (← heads-copies e n) at g in
    let r = whole-sound (copies e n) (all-copies Sound e n f) b s c (legal-copies e n l) h d (sym (read-copies e n b 0 s) ∙ i) in
    (as_list e n r.0, length-as_list e n r.0, copies-ok e n r.0 r.1, ap join (alike-copies e n r.0) ∙ r.2)

mutual
  unfolding Sound read_item serialize Ok LegalTy

  pub sound :
      (t : Ty) (b : List ℕ) (s : ℕ) (c : Counts) → LegalTy t → Bytes b → read_item t b s ≡ Result.Ok c
      → (v : Val t) × Ok t v × (serialize t v ≡ b)
  sound (number t w) b s c l h e =
      let k : length b ≡ w = eqb-true _ _ (leaf-accepted (eqb (length b) w) 0 (length b) _ c e).0 in
      (num b, rw (← k) (num-bound b h), rw (← k) (le-num b h))
  sound (boolean t) b s c l h e =
      let p = left-accepted (eqb (length b) 1) _ _ c e in
      let q = leaf-accepted (ltb (get_or b 0 0) 2) 0 1 _ c p.1 in
      let r = sound-boolean b (eqb-true _ _ p.0) (ltb-true _ _ q.0) in
      (r.0, tt, r.1)
  sound (fixed_bytes t n) b s c l h e =
      (b, (h, eqb-true _ _ (leaf-accepted (eqb (length b) n) 0 (length b) _ c e).0), refl)
  sound (free_bytes t limit) b s c l h e =
      (b, (h, leb-true _ _ (leaf-accepted (leb (length b) limit) 1 (length b) _ c e).0), refl)
  sound (bit_vector t n) b s c l h e =
      let p = vector-accepted (bit_vector_body b n) t s (length b) c e in
      (bits_of n (num b), length-bits_of n (num b), vector-sound b n h l p.0)
  sound (bit_list t limit) b s c l h e =
      let p = list-accepted (bit_list_body b limit) t s c e in
      let q = list-sound b limit p.0 h p.1 in
      (bits_of p.0 (num b), rw (length-bits_of p.0 (num b)) q.1, q.0)
  sound (container t ts) b s c l h e =
      let p = built-accepted (lay_out_lem (heads ts) b) t s _ c e in
      let q = behind-accepted (single 0 0) (read_fields ts b 0 s) c p.1 in
      whole-sound ts (all_sound ts) b s q.0 l.1 h (laid_out (heads ts) b p.0) q.1
  sound (union t os) [] s c l h e = not_accepted _ c e
  sound (union t os) (x ∷ b) s c l h e =
      let p = right_accepted (eqb (length (x ∷ b)) 0) _ _ c e in
      let q = left-accepted (leb x 127) _ _ c p.1 in
      sound-option os x b t s c l.2 h q.1
  sound (list t a limit) b s c l h e =
      let p = many-accepted (elements (head a) limit b) t s _ c e in
      let g = elements_laid (head a) limit b p.0 (λ k i. fixed-some a k l i) p.1 in
      let q = behind-accepted (single 1 0) _ c p.2 in
      let r = elements-sound a (λ x u d i j k. sound a x u d i j k) p.0 b s q.0 l h g.0 q.1 in
      (r.0, (rw r.1 g.1, r.2), r.3)
  sound (vector t a n) b s c l h e =
      let p = built-accepted (vector_told_lem (head a) n b) t s _ c e in
      let q = behind-accepted (single 0 0) _ c p.1 in
      let r = elements-sound a (λ x u d i j k. sound a x u d i j k) n b s q.0 l.1 h (vector-laid (head a) n b p.0) q.1 in
      (r.0, (r.1, r.2), r.3)

  all_sound : (ts : Tys) → All Sound ts
  all_sound end = tt
  all_sound (field t ts) = ((λ b s c l h e. sound t b s c l h e), all_sound ts)

  sound-option :
      (os : Opts) (k : ℕ) (r : List ℕ) (t s : ℕ) (c : Counts) → LegalOptions os → Bytes (k ∷ r) → read_option os k (k ∷ r) t s ≡ Result.Ok c
      → (v : Option os) × OkOption os v × (selected os v ≡ k ∷ r)
  sound-option over k r t s c l h e = not_accepted _ c e
  sound-option (bare j os) k r t s c l h e =
      pick-cases (eqb k j) _ (read_option os k (k ∷ r) t s) (Result.Ok c)
      (λ i f.
      let q = leaf-accepted (eqb (length (k ∷ r)) 1) 1 0 _ c f in
      (inl tt, tt, alone j k r (eqb-true _ _ i) (eqb-true _ _ q.0)))
      (λ i f. let x = sound-option os k r t s c l h f in (inr x.0, x.1, x.2))
      e
  sound-option (body j o os) k r t s c l h e =
      pick-cases (eqb k j) (and_then (one 1 0) (read_item o r (s + 1))) (read_option os k (k ∷ r) t s) (Result.Ok c)
      (λ i f.
      let q = behind-accepted (single 1 0) (read_item o r (s + 1)) c f in
      let x = sound o r (s + 1) q.0 l.0 (bytes_drop 1 (k ∷ r) h) q.1 in
      (inl x.0, x.1, ap₂ (λ (y : ℕ) (z : List ℕ). y ∷ z) (sym (eqb-true _ _ i)) x.2))
      (λ i f. let x = sound-option os k r t s c l.1 h f in (inr x.0, x.1, x.2))
      e

-- The serialization of a value is accepted.
Complete : Ty → Type 0
Complete t =
    (v : Val t) (s : ℕ) → LegalTy t → Ok t v → length (serialize t v) < 2 ^ 32 → (c : Counts) × (read_item t (serialize t v) s ≡ Result.Ok c)

row-complete :
    (ts : Tys) → All Complete ts → (vs : Vals ts) (b : List ℕ) (p s : ℕ) → LegalAll ts → OkAll ts vs → Small (parts ts vs)
    → split (heads ts) b p ≡ parts ts vs → (c : Counts) × (read_fields ts b p s ≡ Result.Ok c)
unfolding Complete read_item serialize Ok heads split Small LegalTy
row-complete end f vs b p s l h k e = (record { records = 0; words = 0; bytes = 0 }, refl)
row-complete (field t ts) f vs b p s l h k e =
    let w = span_of (head t) (heads ts) b p in
    let u = piece_bytes (head t) (part b w) (serialize t vs.0) (split (heads ts) b w.next) (parts ts vs.1) e in
    let r = piece-rest (head t) (part b w) (serialize t vs.0) (split (heads ts) b w.next) (parts ts vs.1) e in
    let x = f.0 vs.0 (s + w.from) l.0 h.0 k.0 in
    let y = row-complete ts f.1 vs.1 b w.next s l.1 h.1 k.1 r in
    let z = ap (λ (i : List ℕ). read_item t i (s + w.from)) u ∙ x.1 in
    (plus x.0 y.0, then_accepts (read_item t (part b w) (s + w.from)) (read_fields ts b w.next s) x.0 y.0 z y.1)

whole-complete :
    (ts : Tys) → All Complete ts → (vs : Vals ts) (s : ℕ) → LegalAll ts → OkAll ts vs → length (join (parts ts vs)) < 2 ^ 32
    → (c : Counts) × Laid (heads ts) (join (parts ts vs)) × (read_fields ts (join (parts ts vs)) 0 s ≡ Result.Ok c)
whole-complete ts f vs s l h k =
    let xs = parts ts vs in
    let z = values_sized ts vs h in
    let d = heads-parts ts vs in
    let r = row-complete ts f vs (join xs) 0 s l h (small-join xs z k) (rw d at (split-join xs z k)) in
    (r.0, record { ranges = rw d at (join-ranges xs z k); first = rw d at (join-next xs z k) }, r.1)

elements-complete :
    (e : Ty) → Complete e → (n : ℕ) (vs : Vals (copies e n)) (s : ℕ) → LegalTy e → OkAll (copies e n) vs → length (join (parts (copies e n) vs)) < 2 ^ 32
    → (c : Counts) × Laid (replicate n (head e)) (join (parts (copies e n) vs))
    × (read_each (λ (x : List ℕ) (u : ℕ). read_item e x u) (head e) n (join (parts (copies e n) vs)) 0 s ≡ Result.Ok c)
elements-complete e f n vs s l h k =
    let r = whole-complete (copies e n) (all-copies Complete e n f) vs s (legal-copies e n l) h k in
    (r.0, rw (heads-copies e n) at r.1, read-copies e n (join (parts (copies e n) vs)) 0 s ∙ r.2)

list_completes :
    (t : ℕ) (e : Ty) (limit : ℕ) → Complete e → LegalTy e → (vs : List (Val e)) (s : ℕ) → Ok (list t e limit) vs
    → length (serialize (list t e limit) vs) < 2 ^ 32 → (c : Counts) × (read_item (list t e limit) (serialize (list t e limit) vs) s ≡ Result.Ok c)
unfolding read_item serialize Ok
list_completes t e limit f l =
    by_copies e _
    (λ n vs s h k.
    let q = alike-copies e n vs in
    let r = elements-complete e f n vs s l (ok-copies e n vs h.1) (rw q at k) in
    let m : n ≤ limit = rw (length-as_list e n vs) at h.0 in
    (plus (single 1 0) r.0, rw (q, laid-elements (head e) limit _ n (λ k i. fixed-some e k l i) m r.1, r.2)))

vector_completes :
    (t : ℕ) (e : Ty) (m : ℕ) → Complete e → LegalTy e → (vs : List (Val e)) (s : ℕ) → Ok (vector t e m) vs
    → length (serialize (vector t e m) vs) < 2 ^ 32 → (c : Counts) × (read_item (vector t e m) (serialize (vector t e m) vs) s ≡ Result.Ok c)
unfolding read_item serialize Ok
vector_completes t e m f l =
    by_copies e _
    (λ n vs s h k.
    let q = alike-copies e n vs in
    let small = rw q at k in
    let r = elements-complete e f n vs s l (ok-copies e n vs h.1) small in
    let i : m ≡ n = sym h.0 ∙ length-as_list e n vs in
    (plus (single 0 0) r.0, rw (q, i, laid-vector (head e) n _ small r.1, r.2)))

mutual
  unfolding Complete read_item serialize Ok LegalTy Rising selector payload

  pub complete :
      (t : Ty) (v : Val t) (s : ℕ) → LegalTy t → Ok t v → length (serialize t v) < 2 ^ 32
      → (c : Counts) × (read_item t (serialize t v) s ≡ Result.Ok c)
  complete (number t w) n s l h k = (single 0 (length (le w n)), rw (eq-eqb _ _ (length-le w n)))
  complete (boolean t) x s l h k = (single 0 1, rw (lt-ltb _ _ (bit-bound x)))
  complete (fixed_bytes t n) bs s l h k = (single 0 (length bs), rw (eq-eqb _ _ h.1))
  complete (free_bytes t limit) bs s l h k = (single 1 (length bs), rw (le-leb _ _ h.1))
  complete (bit_vector t n) bs s l h k = (single 0 (length (pack bs)), rw (rw h at (vector-complete bs (rw h l))))
  complete (bit_list t limit) bs s l h k = (single 1 (raw_bytes_lem (length bs)), rw (list-complete bs limit h))
  complete (container t ts) vs s l h k =
      let f = whole-complete ts (all-complete ts) vs s l.1 h k in
      let d = layout-passes (heads ts) (join (parts ts vs)) k f.1.ranges f.1.first in
      (plus (single 0 0) f.0, rw (d, f.2))
  complete (union t os) v s l h k =
      let e = selected_is os v in
      let m = selector-bounds os 0 v l.1 in
      let z : eqb (suc (length (payload os v))) 0 ≡ false = ne_eqb _ _ (λ (q : suc (length (payload os v)) ≡ 0). omega arith) in
      let f = complete-option os v 0 t s l.1 l.2 h (rw e at k) in
      (f.0, rw (e, z, le-leb (selector os v) 127 (omega arith)) f.1)
  complete (list t e limit) vs s l h k = list_completes t e limit (λ v u i j m. complete e v u i j m) l vs s h k
  complete (vector t e n) vs s l h k = vector_completes t e n (λ v u i j m. complete e v u i j m) l.1 vs s h k

  all-complete : (ts : Tys) → All Complete ts
  all-complete end = tt
  all-complete (field t ts) = ((λ v s l h k. complete t v s l h k), all-complete ts)

  complete-option :
      (os : Opts) (v : Option os) (k t s : ℕ) → Rising k os → LegalOptions os → OkOption os v
      → length (selector os v ∷ payload os v) < 2 ^ 32
      → (c : Counts) × (read_option os (selector os v) (selector os v ∷ payload os v) t s ≡ Result.Ok c)
  complete-option over v k t s g l h n = absurd v
  complete-option (bare j os) (inl x) k t s g l h n = (single 1 0, rw (eq-eqb j j refl))
  complete-option (bare j os) (inr v) k t s g l h n =
      let f = complete-option os v (j + 1) t s g.2 l h n in
      let m = selector-bounds os (j + 1) v g.2 in
      (f.0, rw (ne_eqb (selector os v) j (λ (q : selector os v ≡ j). omega arith)) f.1)
  complete-option (body j o os) (inl x) k t s g l h n =
      let f = complete o x (s + 1) l.0 h (omega arith) in
      (plus (single 1 0) f.0, rw (eq-eqb j j refl, f.1))
  complete-option (body j o os) (inr v) k t s g l h n =
      let f = complete-option os v (j + 1) t s g.2 l.1 h n in
      let m = selector-bounds os (j + 1) v g.2 in
      (f.0, rw (ne_eqb (selector os v) j (λ (q : selector os v ≡ j). omega arith)) f.1)

-- The whole: b is accepted exactly if it is the serialization of a value of the type t, and that value is the only one.
module _ (t : Ty) (g : LegalTy t) (b : List ℕ) where
  pub accepted_iff :
      (s : ℕ) → Bytes b → length b < 2 ^ 32 → ((c : Counts) × (read_item t b s ≡ Result.Ok c)) ↔ ((v : Val t) × Ok t v × (serialize t v ≡ b))
  accepted_iff s h k = (
    (λ (x : (c : Counts) × (read_item t b s ≡ Result.Ok c)). sound t b s x.0 g h x.1),
    (λ (x : (v : Val t) × Ok t v × (serialize t v ≡ b)). rw x.2 at (complete t x.0 s g x.1 (rw x.2 k))),
  )

  pub only_one : length b < 2 ^ 32 → (v w : Val t) → Ok t v → Ok t w → serialize t v ≡ b → serialize t w ≡ b → v ≡ w
  only_one k v w h i e f = injective t v w g h i (rw e k) (e ∙ sym f)

-- The call: under a legal table, a message is accepted exactly if it is the serialization of a value of the table's last type.
module _ (l : List ℕ) (n : ℕ) (h : Bytes l) (e : table_of l ≡ Result.Ok n) (m : List ℕ) (k : length m < 2 ^ 32) where
  pub message-read : check_message l m ≡ read_item (message_type l n) m 0
  unfolding check_message
  message-read = rw (e, le-ltb 4294967295 (length m) (omega arith))

  pub message-legal : LegalTy (message_type l n)
  message-legal = let g = table_legal l n h e in legal_tree l n (n - 1) g.0 (omega (arith, g.1))

  pub message_iff :
      Bytes m
      → ((c : Counts) × (check_message l m ≡ Result.Ok c)) ↔ ((v : Val (message_type l n)) × Ok (message_type l n) v × (serialize (message_type l n) v ≡ m))
  message_iff i = rw message-read (accepted_iff (message_type l n) message-legal m 0 i k)

  pub message-one :
      (v w : Val (message_type l n)) → Ok (message_type l n) v → Ok (message_type l n) w
      → serialize (message_type l n) v ≡ m → serialize (message_type l n) w ≡ m → v ≡ w
  message-one = only_one (message_type l n) message-legal m k

-- Where an item starts is no matter to its acceptance, nor to its counts: y accepts what x accepts.
Same : Result Counts RefusedAt → Result Counts RefusedAt → Type 0
Same x y = (c : Counts) → x ≡ Result.Ok c → y ≡ Result.Ok c

same_refused : (r : RefusedAt) (y : Result Counts RefusedAt) → Same (Err r) y
unfolding Same
same_refused r y c e = not_accepted r c e

same_self : (x : Result Counts RefusedAt) → Same x x
unfolding Same
same_self x c e = e

same-pick : (q : Bool) (x y u v : Result Counts RefusedAt) → Same x u → Same y v → Same (pick q x y) (pick q u v)
same-pick true x y u v f g = f
same-pick false x y u v f g = g

same_then : (x y u v : Result Counts RefusedAt) → Same x u → Same y v → Same (and_then x y) (and_then u v)
unfolding Same
same_then x y u v f g c e =
    let q = then_accepted x y c e in
    then_accepts u v q.0 q.1 (f q.0 q.2) (g q.1 q.3) ∙ ap Result.Ok (sym q.4)

same-built : (d : Result ⊤ Refusal) (t s u : ℕ) (x y : Result Counts RefusedAt) → Same x y → Same (built d t s x) (built d t u y)
same-built (Err r) t s u x y f = same_refused (located r t s) (Err (located r t u))
same-built (Result.Ok tt) t s u x y f = f

same-vector : (d : Result ⊤ Refusal) (t s u n : ℕ) → Same (of_vector_lem d t s n) (of_vector_lem d t u n)
same-vector (Err r) t s u n = same_refused (located r t s) (Err (located r t u))
same-vector (Result.Ok tt) t s u n = same_self (one 0 n)

same-list : (d : Result ℕ Refusal) (t s u : ℕ) → Same (of_list d t s) (of_list d t u)
same-list (Err r) t s u = same_refused (located r t s) (Err (located r t u))
same-list (Result.Ok k) t s u = same_self (one 1 (raw_bytes_lem k))

same-elements : (d : Result ℕ Refusal) (t s u : ℕ) (x y : ℕ → Result Counts RefusedAt) → ((n : ℕ) → Same (x n) (y n)) → Same (of_elements d t s x) (of_elements d t u y)
same-elements (Err r) t s u x y f = same_refused (located r t s) (Err (located r t u))
same-elements (Result.Ok n) t s u x y f = f n

Starts : Ty → Type 0
Starts t = (b : List ℕ) (s u : ℕ) → Same (read_item t b s) (read_item t b u)

row-start : (ts : Tys) → All Starts ts → (b : List ℕ) (p s u : ℕ) → Same (read_fields ts b p s) (read_fields ts b p u)
unfolding Starts read_item
row-start end f b p s u = same_self _
row-start (field t ts) f b p s u =
    let w = span_of (head t) (heads ts) b p in
    same_then _ _ _ _ (f.0 (part b w) (s + w.from) (u + w.from)) (row-start ts f.1 b w.next s u)

elements-start :
    (e : Ty) → Starts e → (k n : ℕ) (b : List ℕ) (s u : ℕ)
    → Same (and_then (one k 0) (read_each (λ (x : List ℕ) (v : ℕ). read_item e x v) (head e) n b 0 s))
    (and_then (one k 0) (read_each (λ (x : List ℕ) (v : ℕ). read_item e x v) (head e) n b 0 u))
elements-start e f k n b s u =
    rw (read-copies e n b 0 s, read-copies e n b 0 u)
    (same_then (one k 0) _ (one k 0) _ (same_self (one k 0)) (row-start (copies e n) (all-copies Starts e n f) b 0 s u))

mutual
  unfolding Starts read_item

  item-start : (t : Ty) (b : List ℕ) (s u : ℕ) → Same (read_item t b s) (read_item t b u)
  item-start (number t w) b s u = same-pick (eqb (length b) w) _ _ _ _ (same_self _) (same_refused _ _)
  item-start (boolean t) b s u =
      same-pick (eqb (length b) 1) _ _ _ _
      (same-pick (ltb (get_or b 0 0) 2) _ _ _ _ (same_self _) (same_refused _ _))
      (same_refused _ _)
  item-start (fixed_bytes t n) b s u = same-pick (eqb (length b) n) _ _ _ _ (same_self _) (same_refused _ _)
  item-start (free_bytes t limit) b s u = same-pick (leb (length b) limit) _ _ _ _ (same_self _) (same_refused _ _)
  item-start (bit_vector t n) b s u = same-vector (bit_vector_body b n) t s u (length b)
  item-start (bit_list t limit) b s u = same-list (bit_list_body b limit) t s u
  item-start (container t ts) b s u =
      same-built (lay_out_lem (heads ts) b) t s u _ _
      (same_then (one 0 0) (read_fields ts b 0 s) (one 0 0) (read_fields ts b 0 u) (same_self (one 0 0)) (row-start ts (all_start ts) b 0 s u))
  item-start (union t os) b s u =
      same-pick (eqb (length b) 0) _ _ _ _ (same_refused _ _)
      (same-pick (leb (get_or b 0 0) 127) _ _ _ _ (option-start os (get_or b 0 0) b t s u) (same_refused _ _))
  item-start (list t e limit) b s u =
      same-elements (elements (head e) limit b) t s u _ _ (λ n. elements-start e (λ x v w. item-start e x v w) 1 n b s u)
  item-start (vector t e n) b s u =
      same-built (vector_told_lem (head e) n b) t s u _ _ (elements-start e (λ x v w. item-start e x v w) 0 n b s u)

  all_start : (ts : Tys) → All Starts ts
  all_start end = tt
  all_start (field t ts) = ((λ b s u. item-start t b s u), all_start ts)

  option-start : (os : Opts) (k : ℕ) (b : List ℕ) (t s u : ℕ) → Same (read_option os k b t s) (read_option os k b t u)
  option-start over k b t s u = same_refused _ _
  option-start (bare j os) k b t s u =
      same-pick (eqb k j) _ _ _ _
      (same-pick (eqb (length b) 1) _ _ _ _ (same_self _) (same_refused _ _))
      (option-start os k b t s u)
  option-start (body j o os) k b t s u =
      same-pick (eqb k j) _ _ _ _
      (same_then (one 1 0) _ (one 1 0) _ (same_self (one 1 0)) (item-start o (drop 1 b) (s + 1) (u + 1)))
      (option-start os k b t s u)

pub read-start : (t : Ty) (b : List ℕ) (s u : ℕ) (c : Counts) → read_item t b s ≡ Result.Ok c → read_item t b u ≡ Result.Ok c
unfolding Same
read-start t b s u = item-start t b s u
