-- The form of a value within its bounds is walked without fault, and says the value's serialization. Assumes nothing.
use mathlib.Core.Path.{◌≡◌, refl, sym, ap, ap₂, ◌∙◌}
use mathlib.Core.Logic.{inl, inr}
use mathlib.Core.List.{List, [], ◌∷◌, ◌++◌, append_assoc, append-nil}
use mathlib.Core.Bool.{Bool, true, false}
use Prim.Native.Nat.{ℕ, suc, ◌+◌, ◌-◌, ◌*◌, ◌/◌, ◌%◌, ◌≤◌, ◌<◌, ◌^◌}
use native.Mathlib.Nat.{add-zero, zero-add, mul-add}
use native.Mathlib.Omega.{arith}
use borrow.Author.Tests.{le-leb, lt-ltb, le-ltb, eq-eqb, ne_eqb, eqb-true, eqb-false}
use lib.Dec.{eqb}
use lib.Pow.{pow-add}
use lib.ListN.{length, get_or, take, drop, length-append, length-take, length-drop, take-append-drop, get_or-append}
use lib.Seq.{sets, take_at, drop_at, drop-drop, get_or-drop, drop-cons, drop-length, take-append-le}
use Rattle.standard.specs.Choice.{pick}
use Rattle.standard.specs.Bytes.{Bytes, le, num}
use Rattle.standard.specs.Bits.{bit, packs, pack, marked, bit_num}
use Rattle.standard.specs.Types.{Ty, Tys, Opts, number, boolean, fixed_bytes, free_bytes, bit_vector, bit_list, container, union, list, vector, end, field, over, bare, body, head, Rising, LegalTy, LegalAll, LegalOptions}
use Rattle.standard.specs.Parts.{Part, piece, join}
use Rattle.standard.specs.Serialize.{Val, Vals, Option, Ok, OkAll, OkOption, serialize, parts, selected}
use Rattle.standard.proofs.Bytes.{length-le, le-num, bytes_take, bytes-append}
use Rattle.standard.proofs.Bits.{bit-bound, length-packs, bytes-packs, num-packs, packs-le, pow_bytes, bit_num-bound, bit_num-marked, num-append}
use Rattle.standard.proofs.Elements.{All, copies, all-copies, length-as_list, by_copies, alike-copies, ok-copies}
use Rattle.standard.proofs.Laws.{legal-copies}
use Rattle.bitfield.proofs.Bodies.{cut_below}
use Rattle.layout.specs.Table.{table_of}
use Rattle.message.specs.Read.{raw_bytes_lem}
use Rattle.message.specs.Check.{message_type}
use Rattle.message.specs.Form.{raw_bits, contents, contents_all, contents_option, bodies, bodies_all, bodies_option}
use Rattle.message.proofs.Theorem.{message-legal}
use Rattle.message.proofs.Copies.{contents-copies, bodies-copies}
use Rattle.value.specs.Walk.{upto, last_bits, walk_bits, walk_item, walk_fields, walk_option}
use Rattle.value.specs.Write.{bytes_at, with_mark, write_item_lem, parts_from, write_option, walk_all, write_message, written_bytes}
use Rattle.std.specs.declared.result.Result.{Result}
use Rattle.value.proofs.Copies.{walk-copies, parts-copies}

-- A part x that stands in b at j, and a word that stands in c at i.
module _ (b : List ℕ) (j : ℕ) (x r : List ℕ) (e : drop j b ≡ x ++ r) (h : j ≤ length b) where
  at_there : j + length x ≤ length b
  at_there = omega (arith, simp (length-drop, length-append) at (ap length e))

  at-bytes : (n : ℕ) → length x ≡ n → bytes_at b j n ≡ x
  at-bytes n m = rw e (take_at x r n m)

  pub at_byte : (i : ℕ) → i < length x → get_or b (j + i) 0 ≡ get_or x i 0
  at_byte i k = sym (get_or-drop j b i 0) ∙ rw e (get_or-append x r 0 i k)

module _ (c : List ℕ) (i k : ℕ) (r : List ℕ) (e : drop i c ≡ k ∷ r) where
  at_in : i < length c
  at_in = omega (arith, simp length-drop at (ap length e))

  at-word : get_or c i 0 ≡ k
  at-word = let z : i + 0 ≡ i = omega arith in rw z at (sym (get_or-drop i c 0 0)) ∙ ap (λ (l : List ℕ). get_or l 0 0) e

  at_next : drop (i + 1) c ≡ r
  at_next = sym (drop-drop 1 i c) ∙ ap (drop 1) e

-- Bits.
pub last-alone : (l : List ℕ) (q : ℕ) → length l ≡ suc q → drop q l ≡ get_or l q 0 ∷ []
last-alone l q h = drop-cons l q 0 (omega arith) ∙ rw (← h, drop-length l)

pub num-one : (x : ℕ) → num (x ∷ []) ≡ x
unfolding num
num-one x = omega arith

module _ (bs : List Bool) where
  raw-length : length (raw_bits bs) ≡ raw_bytes_lem (length bs)
  raw-length = length-packs (raw_bytes_lem (length bs)) bs

  pub raw-num : num (raw_bits bs) ≡ bit_num bs
  raw-num = num-packs (raw_bytes_lem (length bs)) bs (omega arith)

  raw-cut : (q r : ℕ) → 8 * q + r ≡ length bs → q ≤ raw_bytes_lem (length bs) → num (drop q (raw_bits bs)) < 2 ^ r
  raw-cut q r e h =
      cut_below (raw_bits bs) q r (bytes-packs (raw_bytes_lem (length bs)) bs) (rw raw-length h) (rw (raw-num, e) (bit_num-bound bs))

  raw-last : get_or (raw_bits bs) (raw_bytes_lem (length bs) - 1) 0 < 2 ^ last_bits (length bs)
  raw-last =
      let q = raw_bytes_lem (length bs) - 1 in
      let m : length (raw_bits bs) ≡ suc q = raw-length ∙ omega arith in
      rw (last-alone (raw_bits bs) q m, num-one) at (raw-cut q (last_bits (length bs)) (omega arith) (omega arith))

  marked-le : marked bs ≡ le (length bs / 8 + 1) (bit_num bs + 2 ^ length bs)
  unfolding marked pack
  marked-le =
      let e : (length (bs ++ (true ∷ [])) + 7) / 8 ≡ length bs / 8 + 1 = simp length-append (omega arith) in
      rw (packs-le, e, bit_num-marked bs)

  by_number : (l : List ℕ) → Bytes l → length l ≡ length bs / 8 + 1 → num l ≡ bit_num bs + 2 ^ length bs → l ≡ marked bs
  by_number l b m n = sym (le-num l b) ∙ rw (m, n) (sym marked-le)

  -- the raw bytes before the last bits, and a byte with those and the mark
  marked-raw : (x : ℕ) → x ≡ num (drop (length bs / 8) (raw_bits bs)) + 2 ^ (length bs % 8) → take (length bs / 8) (raw_bits bs) ++ (x ∷ []) ≡ marked bs
  unfolding Bytes
  marked-raw x e =
      let q = length bs / 8 in
      let r = length bs % 8 in
      let l = take q (raw_bits bs) in
      let c = raw-cut q r (omega arith) (omega arith) in
      let y : length l ≡ q = simp (length-take, length-packs) (omega arith) in
      let p : 2 ^ r ≤ 128 = lib.Pow.pow_mono {j = 7} (omega arith) in
      let a = num-append l (x ∷ []) in
      let w = num-append l (drop q (raw_bits bs)) in
      let z : bit_num bs ≡ num l + 256 ^ q * num (drop q (raw_bits bs)) = sym raw-num ∙ sym (ap num (take-append-drop q (raw_bits bs))) ∙ rw y at w in
      let v : 2 ^ length bs ≡ 256 ^ q * 2 ^ r = let d : length bs ≡ 8 * q + r =
      omega arith in ap (λ (n : ℕ). 2 ^ n) d ∙ pow-add 2 (8 * q) r ∙ ap (λ (n : ℕ). n * 2 ^ r) (sym (pow_bytes q)) in
      by_number (l ++ (x ∷ []))
      (bytes-append l (x ∷ []) (bytes_take q (raw_bits bs) (bytes-packs (raw_bytes_lem (length bs)) bs)) (omega arith, tt))
      (simp length-append (omega (arith, y)))
      (a ∙ rw (y, num-one, e, mul-add (256 ^ q) (num (drop q (raw_bits bs))) (2 ^ r)) (omega (arith, z, v)))

  module _ (b : List ℕ) (j : ℕ) (s : List ℕ) (e : drop j b ≡ raw_bits bs ++ s) (h : j ≤ length b) where
    mark_form : with_mark b j (length bs) ≡ marked bs
    mark_form = go (eqb (length bs % 8) 0) refl
      where
        front : bytes_at b j (length bs / 8) ≡ take (length bs / 8) (raw_bits bs)
        front = rw e (take-append-le (length bs / 8) (raw_bits bs) s (rw raw-length (omega arith)))

        go : (z : Bool) → eqb (length bs % 8) 0 ≡ z → bytes_at b j (length bs / 8) ++
            (pick z 1 (get_or b (j + length bs / 8) 0 + 2 ^ (length bs % 8)) ∷ []) ≡ marked bs
        go true f =
            let r : length bs % 8 ≡ 0 = eqb-true _ _ f in
            let c = raw-cut (length bs / 8) 0 (omega arith) (omega arith) in
            rw front (marked-raw 1 (rw r (omega arith)))
        go false f =
            let r : length bs % 8 ≡ 0 → ⊥ = eqb-false _ _ f in
            let m : length (raw_bits bs) ≡ suc (length bs / 8) = raw-length ∙ omega arith in
            let y = at_byte b j (raw_bits bs) s e h (length bs / 8) (omega arith) in
            rw (front, y) (marked-raw (get_or (raw_bits bs) (length bs / 8) 0 + 2 ^ (length bs % 8)) (rw (last-alone (raw_bits bs) (length bs / 8) m, num-one)))

    bits-form : (i k : ℕ) → k ≡ length bs → walk_bits b k i j ≡ upto i (j + length (raw_bits bs))
    bits-form i k f =
        let t = at_there b j (raw_bits bs) s e h in
        let y = at_byte b j (raw_bits bs) s e h (raw_bytes_lem (length bs) - 1) (rw raw-length (omega arith)) in
        let d : j + raw_bytes_lem (length bs) - 1 ≡ j + (raw_bytes_lem (length bs) - 1) = omega arith in
        rw (f, le-leb (j + raw_bytes_lem (length bs)) (length b) (rw raw-length at t), d, y, lt-ltb _ _ raw-last, raw-length)

-- The form of v stands in c at i and in b at j: it is walked to its end, and says v's serialization.
pub record Formed (t : Ty) (v : Val t) (c b : List ℕ) (i j : ℕ) : Type 0 where
  pub walk : walk_item t c b i j ≡ upto (i + length (contents t v)) (j + length (bodies t v))
  pub write : write_item_lem t c b i j ≡ serialize t v

pub record FormedAll (ts : Tys) (vs : Vals ts) (c b : List ℕ) (i j : ℕ) : Type 0 where
  pub walk : walk_fields ts c b i j ≡ upto (i + length (contents_all ts vs)) (j + length (bodies_all ts vs))
  pub all : parts_from ts c b i j ≡ parts ts vs

pub record FormedOption (n : ℕ) (os : Opts) (v : Option os) (c b : List ℕ) (i j : ℕ) : Type 0 where
  pub there : i < length c
  pub from : n ≤ get_or c i 0
  pub walk : walk_option os (get_or c i 0) c b i j ≡ upto (i + length (contents_option os v)) (j + length (bodies_option os v))
  pub write : get_or c i 0 ∷ write_option os (get_or c i 0) c b i j ≡ selected os v

more-rest : (c : List ℕ) (i : ℕ) (x r : List ℕ) → drop i c ≡ x ++ r → drop (i + length x) c ≡ r
more-rest c i x r e = sym (drop-drop (length x) i c) ∙ rw e (drop_at x r (length x) refl)

-- The law about one type, from it that about a row of fields, and that about elements
module _ (c b : List ℕ) where
  Forms : Ty → Type 0
  Forms t =
      (v : Val t) → LegalTy t → Ok t v → (i j : ℕ) (cs bs : List ℕ) → drop i c ≡ contents t v ++ cs → drop j b ≡ bodies t v ++ bs → j ≤ length b
      → Formed t v c b i j

  row-formed :
      (ts : Tys) → All Forms ts → (vs : Vals ts) → LegalAll ts → OkAll ts vs → (i j : ℕ) (cs bs : List ℕ) → drop i c ≡ contents_all ts vs ++ cs
      → drop j b ≡ bodies_all ts vs ++ bs → j ≤ length b → FormedAll ts vs c b i j
  unfolding Forms walk_item write_item_lem contents bodies serialize Ok LegalTy
  row-formed end p vs l o i j cs bs e f h = record { walk = rw (add-zero i, add-zero j); all = refl }
  row-formed (field t ts) k vs l o i j cs bs e f h =
      let x = contents t vs.0 in
      let y = bodies t vs.0 in
      let d = e ∙ append_assoc x (contents_all ts vs.1) cs in
      let g = f ∙ append_assoc y (bodies_all ts vs.1) bs in
      let p = k.0 vs.0 l.0 o.0 i j _ _ d g h in
      let q = row-formed ts k.1 vs.1 l.1 o.1 (i + length x) (j + length y) cs bs (more-rest c i x _ d) (more-rest b j y _ g) (at_there b j y _ g h) in
      record {
        walk =
            rw p.walk
            (q.walk ∙ ap₂ upto (omega (arith, length-append x (contents_all ts vs.1))) (omega (arith, length-append y (bodies_all ts vs.1))));
        all = rw (p.walk, p.write) (ap (λ (xs : List Part). piece (head t) (serialize t vs.0) ∷ xs) q.all);
      }

  module _ (t : ℕ) (e : Ty) (k : Forms e) (l : LegalTy e) where
    vector-formed :
        (m : ℕ) (vs : List (Val e)) → Ok (vector t e m) vs → (i j : ℕ) (cs bs : List ℕ) → drop i c ≡ contents (vector t e m) vs ++ cs
        → drop j b ≡ bodies (vector t e m) vs ++ bs → j ≤ length b → Formed (vector t e m) vs c b i j
    unfolding walk_item write_item_lem contents bodies serialize Ok
    vector-formed m =
        by_copies e _
        (λ n vs o i j cs bs d f h.
        let w = contents-copies e n vs in
        let y = bodies-copies e n vs in
        let q : m ≡ n = sym o.0 ∙ length-as_list e n vs in
        let g = row-formed (copies e n) (all-copies Forms e n k) vs (legal-copies e n l) (ok-copies e n vs o.1) i j cs bs (rw w at d) (rw y at f) h in
        record {
          walk = rw (q, w, y, walk-copies e c b n i j) g.walk;
          write = rw (q, parts-copies e c b n i j, alike-copies e n vs) (ap join g.all);
        })

    list-formed :
        (limit : ℕ) (vs : List (Val e)) → Ok (list t e limit) vs → (i j : ℕ) (cs bs : List ℕ) → drop i c ≡ contents (list t e limit) vs ++ cs
        → drop j b ≡ bodies (list t e limit) vs ++ bs → j ≤ length b → Formed (list t e limit) vs c b i j
    unfolding walk_item write_item_lem contents bodies serialize Ok
    list-formed limit =
        by_copies e _
        (λ n vs o i j cs bs d f h.
        let w = contents-copies e n vs in
        let y = bodies-copies e n vs in
        let q = length-as_list e n vs in
        let r : drop i c ≡ n ∷ (contents_all (copies e n) vs ++ cs) = rw (q, w) at d in
        let z = at-word c i n (contents_all (copies e n) vs ++ cs) r in
        let g = row-formed (copies e n) (all-copies Forms e n k) vs (legal-copies e n l) (ok-copies e n vs o.1) (i + 1) j cs bs
        (at_next c i n (contents_all (copies e n) vs ++ cs) r) (rw y at f) h in
        let u : i + 1 + length (contents_all (copies e n) vs) ≡ i + length (n ∷ contents_all (copies e n) vs) = omega arith in
        record {
          walk =
              rw (z, lt-ltb i (length c) (at_in c i n _ r), le-leb n limit (rw q at o.0), walk-copies e c b n (i + 1) j, w, y)
              (g.walk ∙ ap (λ (m : ℕ). upto m (j + length (bodies_all (copies e n) vs))) u);
          write = rw (z, parts-copies e c b n (i + 1) j, alike-copies e n vs) (ap join g.all);
        })

mutual
  unfolding Forms walk_item write_item_lem contents bodies serialize Ok LegalTy Rising pack

  pub formed : (t : Ty) (v : Val t) → LegalTy t → Ok t v → (c b : List ℕ) (i j : ℕ) (cs bs : List ℕ) → drop i c ≡ contents t v ++ cs →
      drop j b ≡ bodies t v ++ bs → j ≤ length b → Formed t v c b i j
  formed (number t w) n l o c b i j cs bs e f h =
      let k = at_there b j (le w n) bs f h in
      let m = length-le w n in
      record { walk = rw (le-leb (j + w) (length b) (rw m at k), add-zero i, m); write = at-bytes b j (le w n) bs f h w m }
  formed (boolean t) x l o c b i j cs bs e f h =
      let k = at_there b j (bit x ∷ []) bs f h in
      let z : j + 0 ≡ j = omega arith in
      let y = rw z at (at_byte b j (bit x ∷ []) bs f h 0 (omega arith)) in
      record { walk = rw (le-leb (j + 1) (length b) k, y, lt-ltb _ _ (bit-bound x), add-zero i); write = at-bytes b j (bit x ∷ []) bs f h 1 refl }
  formed (fixed_bytes t n) v l o c b i j cs bs e f h =
      let k = at_there b j v bs f h in
      record { walk = rw (le-leb (j + n) (length b) (rw o.1 at k), add-zero i, o.1); write = at-bytes b j v bs f h n o.1 }
  formed (free_bytes t limit) v l o c b i j cs bs e f h =
      let k = at_there b j v bs f h in
      let w = at-word c i (length v) cs e in
      record {
        walk = rw (w, lt-ltb i (length c) (at_in c i (length v) cs e), le-leb (length v) limit o.1, le-leb (j + length v) (length b) k);
        write = rw w (at-bytes b j v bs f h (length v) refl);
      }
  formed (bit_vector t n) v l o c b i j cs bs e f h =
      let m : raw_bytes_lem (length v) ≡ (length v + 7) / 8 = omega (arith, o, l) in
      record {
        walk = rw (add-zero i) (bits-form v b j bs f h i n (sym o));
        write = at-bytes b j (raw_bits v) bs f h (raw_bytes_lem n) (raw-length v ∙ ap raw_bytes_lem o) ∙ ap (λ (k : ℕ). packs k v) m;
      }
  formed (bit_list t limit) v l o c b i j cs bs e f h =
      let w = at-word c i (length v) cs e in
      record {
        walk = rw (w, lt-ltb i (length c) (at_in c i (length v) cs e), le-leb (length v) limit o) (bits-form v b j bs f h (i + 1) (length v) refl);
        write = rw w (mark_form v b j bs f h);
      }
  formed (container t ts) vs l o c b i j cs bs e f h =
      let g = row-formed c b ts (each-formed ts c b) vs l.1 o i j cs bs e f h in
      record { walk = g.walk; write = ap join g.all }
  formed (union t os) v l o c b i j cs bs e f h =
      let g = formed-option os v 0 l.1 l.2 o c b i j cs bs e f h in
      record { walk = rw (lt-ltb i (length c) g.there) g.walk; write = g.write }
  formed (list t a limit) vs l o c b i j cs bs e f h = list-formed c b t a (λ v d q r s u w x y z. formed a v d q c b r s u w x y z) l limit vs o i j cs bs e f h
  formed (vector t a n) vs l o c b i j cs bs e f h = vector-formed c b t a (λ v d q r s u w x y z. formed a v d q c b r s u w x y z) l.1 n vs o i j cs bs e f h

  each-formed : (ts : Tys) (c b : List ℕ) → All (Forms c b) ts
  each-formed end c b = tt
  each-formed (field t ts) c b = ((λ v l o i j cs bs e f h. formed t v l o c b i j cs bs e f h), each-formed ts c b)

  pub formed-option : (os : Opts) (v : Option os) (n : ℕ) → Rising n os → LegalOptions os → OkOption os v →
      (c b : List ℕ) (i j : ℕ) (cs bs : List ℕ) → drop i c ≡ contents_option os v ++ cs → drop j b ≡ bodies_option os v ++ bs → j ≤ length b →
      FormedOption n os v c b i j
  formed-option over v n r l o c b i j cs bs e f h = absurd v
  formed-option (bare s os) (inl x) n r l o c b i j cs bs e f h =
      let w = at-word c i s cs e in
      record {
        there = at_in c i s cs e;
        from = rw w r.0;
        walk = rw (w, eq-eqb s s refl, add-zero j);
        write = rw (w, eq-eqb s s refl);
      }
  formed-option (bare s os) (inr v) n r l o c b i j cs bs e f h =
      let g = formed-option os v (s + 1) r.2 l o c b i j cs bs e f h in
      let d = ne_eqb (get_or c i 0) s (λ (q : get_or c i 0 ≡ s). omega (arith, g.from)) in
      record { there = g.there; from = omega (arith, g.from, r.0); walk = rw d g.walk; write = rw d g.write }
  formed-option (body s t os) (inl x) n r l o c b i j cs bs e f h =
      let w = at-word c i s _ e in
      let g = formed t x l.0 o c b (i + 1) j cs bs (at_next c i s _ e) f h in
      record {
        there = at_in c i s _ e;
        from = rw w r.0;
        walk = rw (w, eq-eqb s s refl) (g.walk ∙ ap (λ (m : ℕ). upto m (j + length (bodies t x))) (omega arith));
        write = rw (w, eq-eqb s s refl) (ap (λ (y : List ℕ). s ∷ y) g.write);
      }
  formed-option (body s t os) (inr v) n r l o c b i j cs bs e f h =
      let g = formed-option os v (s + 1) r.2 l.1 o c b i j cs bs e f h in
      let d = ne_eqb (get_or c i 0) s (λ (q : get_or c i 0 ≡ s). omega (arith, g.from)) in
      record { there = g.there; from = omega (arith, g.from, r.0); walk = rw d g.walk; write = rw d g.write }

-- The form of a value and nothing else: it is walked to its end.
module _ (t : Ty) (v : Val t) (l : LegalTy t) (o : Ok t v) where
  pub formed-alone : Formed t v (contents t v) (bodies t v) 0 0
  formed-alone =
      let c = contents t v in
      let b = bodies t v in
      formed t v l o c b 0 0 [] [] (sym (append-nil c)) (sym (append-nil b)) (omega arith)

  pub walked-alone : walk_all t (contents t v) (bodies t v) ≡ upto (length (contents t v)) (length (bodies t v))
  walked-alone =
      let c = contents t v in
      let b = bodies t v in
      let w : walk_item t c b 0 0 ≡ upto (length c) (length b) = rw (zero-add (length c), zero-add (length b)) at formed-alone.walk in
      rw (w, le-ltb (length c) (length c) (omega arith), le-ltb (length b) (length b) (omega arith))

-- The call: the form of a value within its bounds is accepted, and what is stored is the value's serialization.
pub form-written :
    (l : List ℕ) (n : ℕ) → Bytes l → table_of l ≡ Result.Ok n → (v : Val (message_type l n)) → Ok (message_type l n) v → (o : List ℕ)
    → length (serialize (message_type l n) v) < 2 ^ 32 → length (serialize (message_type l n) v) ≤ length o
    → (write_message l (contents (message_type l n) v) (bodies (message_type l n) v) o ≡ Result.Ok (length (serialize (message_type l n) v)))
    × (written_bytes l (contents (message_type l n) v) (bodies (message_type l n) v) o ≡ sets o 0 (serialize (message_type l n) v))
unfolding write_message written_bytes
form-written l n b e v k o small room =
    let t = message_type l n in
    let g = message-legal l n b e [] (omega arith) in
    let w = walked-alone t v g k in
    let f = formed-alone t v g k in
    let p = le-ltb 4294967295 (length (serialize t v)) (omega arith) in
    let q = le-ltb (length o) (length (serialize t v)) room in
    (rw (e, w, f.write, p, q), rw (e, w, f.write, p, q))
