-- Each form that is walked without fault is the form of a value within its bounds; each other has a fault that 25 names. Assumes nothing.
-- The value is read off the form where the walk stands: a leaf from its bytes, a container field by field, a union from the option whose selector the word is.
use mathlib.Core.Path.{◌≡◌, refl, sym, ap, ◌∙◌}
use mathlib.Core.Logic.{inl, inr}
use mathlib.Core.List.{List, [], ◌∷◌, ◌++◌, append_assoc}
use mathlib.Core.Bool.{Bool, true, false}
use Prim.Native.Nat.{ℕ, zero, suc, ◌+◌, ◌-◌, ◌*◌, ◌≤◌, ◌<◌, ◌^◌}
use native.Mathlib.Omega.{arith}
use borrow.Author.Tests.{leb-true, ltb-true, eqb-true}
use lib.Dec.{eqb, ltb, leb}
use lib.ListN.{length, get_or, drop, take-append-drop}
use lib.Seq.{drop-drop, drop-cons}
use Rattle.standard.specs.Choice.{pick}
use Rattle.standard.specs.Bytes.{Bytes, num, num_at}
use Rattle.standard.specs.Bits.{bit, bits_of}
use Rattle.standard.specs.Types.{Ty, Tys, Opts, number, boolean, fixed_bytes, free_bytes, bit_vector, bit_list, container, union, list, vector, end, field, over, bare, body}
use Rattle.standard.specs.Serialize.{Val, Vals, Option, Ok, OkAll, OkOption}
use Rattle.standard.specs.declared.Refusal.{Refusal}
use Rattle.standard.specs.declared.Refusal.TheVariants.{BadValue}
use Rattle.standard.proofs.Bytes.{bytes_take, bytes_drop, le-num, le-num_at, num_at-bound}
use Rattle.standard.proofs.Bits.{packs-le, length-bits_of, bit_num-bits_of}
use Rattle.standard.proofs.Elements.{All, copies, all-copies, as_list, length-as_list, copies-ok}
use Rattle.bitfield.proofs.Bodies.{below-cut}
use Rattle.message.specs.Read.{raw_bytes_lem}
use Rattle.message.specs.Form.{raw_bits, contents, contents_all, contents_option, bodies, bodies_all, bodies_option}
use Rattle.message.proofs.Copies.{contents-copies, bodies-copies}
use Rattle.value.specs.Walk.{Walked, upto, wrong, onward, with_word, with_body, last_bits, walk_bits, walk_each, walk_item, walk_fields, walk_option}
use Rattle.value.specs.Write.{bytes_at}
use Rattle.value.proofs.Copies.{walk-copies}
use Rattle.value.proofs.Walks.{length-bytes_at}
use Rattle.value.proofs.Forms.{at_byte, last-alone, num-one}

-- What 25 names: which list, and the place in it
abbrev pub Fault : Refusal → Type 0
Fault r = (which at : ℕ) × (r ≡ BadValue which at)

-- What a form is of: a value, the values of fields, or one of some options; with its bounds, its contents and its bodies
pub record Formal : Type 1 where
  pub of : Type 0
  pub ok : of → Type 0
  pub words : of → List ℕ
  pub bytes : of → List ℕ

abbrev pub item : Ty → Formal
item t = record { of = Val t; ok = Ok t; words = contents t; bytes = bodies t }

abbrev all : Tys → Formal
all ts = record { of = Vals ts; ok = OkAll ts; words = contents_all ts; bytes = bodies_all ts }

abbrev chosen : Opts → Formal
chosen os = record { of = Option os; ok = OkOption os; words = contents_option os; bytes = bodies_option os }

-- What stands at i, up to p and then up to m
after : (l x y z : List ℕ) (i p m : ℕ) → drop i l ≡ x ++ drop p l → drop p l ≡ y ++ drop m l → z ≡ x ++ y → drop i l ≡ z ++ drop m l
after l x y z i p m d k e = d ∙ ap (λ (r : List ℕ). x ++ r) k ∙ sym (append_assoc x y (drop m l)) ∙ ap (λ (r : List ℕ). r ++ drop m l) (sym e)

module _ (c b : List ℕ) (h : Bytes b) where
  -- What a walk from i and j on says: it ends behind the form of some v that is within its bounds, or at a fault.
  abbrev pub Says : Formal → (i j : ℕ) → Walked → Type 0
  Says f i j (upto m n) = (v : f.of) × f.ok v × (drop i c ≡ f.words v ++ drop m c) × (drop j b ≡ f.bytes v ++ drop n b)
  Says f i j (wrong r) = Fault r

  -- A test: where it does not hold, the walk ends at a fault.
  module _ (f : Formal) (i j : ℕ) where
    tested : (q : Bool) (w : Walked) (which at : ℕ) → (q ≡ true → Says f i j w) → Says f i j (pick q w (wrong (BadValue which at)))
    tested true w which at g = g refl
    tested false w which at g = (which, at, refl)

    bodied : (n : ℕ) (w : Walked) → (j + n ≤ length b → Says f i j w) → Says f i j (with_body b j n w)
    bodied n w g = tested (leb (j + n) (length b)) w 1 (length b) (λ e. g (leb-true _ _ e))

    worded : (k : ℕ) (w : Walked) → (i < length c → get_or c i 0 ≤ k → Says f i j w) → Says f i j (with_word c i (leb (get_or c i 0) k) w)
    worded k w g =
        tested (ltb i (length c)) _ 0 (length c)
        (λ e. tested (leb (get_or c i 0) k) w 0 i (λ l. g (ltb-true _ _ e) (leb-true _ _ l)))

  -- What stands at j: n bytes and the rest. What stands at i: a word and the rest.
  bytes-here : (j n : ℕ) → drop j b ≡ bytes_at b j n ++ drop (j + n) b
  bytes-here j n = sym (rw (drop-drop n j b) at (take-append-drop n (drop j b)))

  bytes_of : (j n : ℕ) → Bytes (bytes_at b j n)
  bytes_of j n = bytes_take n (drop j b) (bytes_drop j b h)

  word-here : (i s : ℕ) → i < length c → get_or c i 0 ≡ s → drop i c ≡ (s ∷ []) ++ drop (i + 1) c
  word-here i s k e = let d : i + 1 ≡ suc i = omega arith in rw (d, ← e) (drop-cons c i 0 k)

  -- A boolean's byte
  bit-of : (k : ℕ) → k < 2 → (x : Bool) × (k ≡ bit x)
  bit-of zero m = (false, refl)
  bit-of (suc zero) m = (true, refl)
  bit-of (suc (suc k)) m = absurd (omega arith)

  -- k bits as raw bytes, with zero above the last bit: they are the bytes' lowest bits.
  module _ (j k : ℕ) (m : j + raw_bytes_lem k ≤ length b) (z : get_or b (j + raw_bytes_lem k - 1) 0 < 2 ^ last_bits k) where
    raw-small : num (bytes_at b j (raw_bytes_lem k)) < 2 ^ k
    raw-small =
        let raw = bytes_at b j (raw_bytes_lem k) in
        let q = raw_bytes_lem k - 1 in
        let l : length raw ≡ suc q = length-bytes_at b j (raw_bytes_lem k) m ∙ omega arith in
        let d : j + raw_bytes_lem k - 1 ≡ j + q = omega arith in
        let y : get_or b (j + q) 0 ≡ get_or raw q 0 = at_byte b j raw (drop (j + raw_bytes_lem k) b) (bytes-here j (raw_bytes_lem k)) (omega arith) q (omega arith) in
        let s : num (drop q raw) < 2 ^ last_bits k = rw (last-alone raw q l, num-one, ← y) (rw d at z) in
        let t : 8 * q + last_bits k ≡ k = omega arith in
        rw t at (below-cut raw q (last_bits k) (bytes_of j (raw_bytes_lem k)) (omega arith) s)

    raw-bits : raw_bits (bits_of k (num (bytes_at b j (raw_bytes_lem k)))) ≡ bytes_at b j (raw_bytes_lem k)
    raw-bits =
        let raw = bytes_at b j (raw_bytes_lem k) in
        rw (packs-le, length-bits_of k (num raw), bit_num-bits_of k (num raw) raw-small)
        (rw (length-bytes_at b j (raw_bytes_lem k) m) at (le-num raw (bytes_of j (raw_bytes_lem k))))

  bits-said :
      (ok : List Bool → Type 0) (x : List Bool → List ℕ) (i j n k : ℕ) → ((v : List Bool) → length v ≡ k → ok v × (drop i c ≡ x v ++ drop n c))
      → Says (record { of = List Bool; ok = ok; words = x; bytes = raw_bits }) i j (walk_bits b k n j)
  bits-said ok x i j n k g =
      let f : Formal = record { of = List Bool; ok = ok; words = x; bytes = raw_bits } in
      let v = bits_of k (num (bytes_at b j (raw_bytes_lem k))) in
      let w = g v (length-bits_of k (num (bytes_at b j (raw_bytes_lem k)))) in
      bodied f i j (raw_bytes_lem k) _
      (λ m.
      tested f i j (ltb (get_or b (j + raw_bytes_lem k - 1) 0) (2 ^ last_bits k)) _ 1 (j + raw_bytes_lem k - 1)
      (λ e. (v, w.0, w.1, rw (raw-bits j k m (ltb-true _ _ e)) (bytes-here j (raw_bytes_lem k)))))

  -- A form behind the words x from i to p and the bytes y from j to q: with them it is the form of what `with` makes of it.
  behind :
      (f g : Formal) (i j p q : ℕ) (x y : List ℕ) → drop i c ≡ x ++ drop p c → drop j b ≡ y ++ drop q b → (with : f.of → g.of)
      → ((v : f.of) → f.ok v → g.ok (with v)) → ((v : f.of) → g.words (with v) ≡ x ++ f.words v) → ((v : f.of) → g.bytes (with v) ≡ y ++ f.bytes v)
      → (w : Walked) → Says f p q w → Says g i j w
  behind f g i j p q x y d e with o s t (wrong r) k = k
  behind f g i j p q x y d e with o s t (upto m n) k = (
    with k.0,
    o k.0 k.1,
    after c x (f.words k.0) _ i p m d k.2 (s k.0),
    after b y (f.bytes k.0) _ j q n e k.3 (t k.0),
  )

  -- Fields behind a field
  onward-said :
      (t : Ty) (ts : Tys) (i j : ℕ) (w : Walked) → Says (item t) i j w → ((m n : ℕ) → Says (all ts) m n (walk_fields ts c b m n))
      → Says (all (field t ts)) i j (onward w (λ m n. walk_fields ts c b m n))
  unfolding Ok contents bodies
  onward-said t ts i j (wrong r) p f = p
  onward-said t ts i j (upto m n) p f =
      behind (all ts) (all (field t ts)) i j m n (contents t p.0) (bodies t p.0) p.2 p.3
      (λ vs. (p.0, vs)) (λ vs o. (p.1, o)) (λ vs. refl) (λ vs. refl)
      (walk_fields ts c b m n) (f m n)

  -- One option before others: it, where the word is its selector, and else one of the others
  bare-said :
      (s : ℕ) (os : Opts) (i j : ℕ) (e : Bool) (w : Walked) → (e ≡ true → drop i c ≡ (s ∷ []) ++ drop (i + 1) c) → Says (chosen os) i j w
      → Says (chosen (bare s os)) i j (pick e (upto (i + 1) j) w)
  unfolding Ok contents bodies
  bare-said s os i j true w f q = (inl tt, tt, f refl, refl)
  bare-said s os i j false w f q = behind (chosen os) (chosen (bare s os)) i j i j [] [] refl refl inr (λ v o. o) (λ v. refl) (λ v. refl) w q

  body-said :
      (s : ℕ) (t : Ty) (os : Opts) (i j : ℕ) (e : Bool) (u w : Walked) → (e ≡ true → drop i c ≡ (s ∷ []) ++ drop (i + 1) c)
      → Says (item t) (i + 1) j u → Says (chosen os) i j w → Says (chosen (body s t os)) i j (pick e u w)
  unfolding Ok contents bodies
  body-said s t os i j true u w f p q =
      behind (item t) (chosen (body s t os)) i j (i + 1) j (s ∷ []) [] (f refl) refl inl (λ v o. o) (λ v. refl) (λ v. refl) u p
  body-said s t os i j false u w f p q = behind (chosen os) (chosen (body s t os)) i j i j [] [] refl refl inr (λ v o. o) (λ v. refl) (λ v. refl) w q

  -- The law about one type, from it that about a row of fields, and that about elements
  Said : Ty → Type 0
  Said t = (i j : ℕ) → Says (item t) i j (walk_item t c b i j)

  row-said : (ts : Tys) → All Said ts → (i j : ℕ) → Says (all ts) i j (walk_fields ts c b i j)
  unfolding Said walk_item contents bodies Ok
  row-said end f i j = (tt, tt, refl, refl)
  row-said (field t ts) f i j = onward-said t ts i j (walk_item t c b i j) (f.0 i j) (λ m n. row-said ts f.1 m n)

  module _ (t : ℕ) (e : Ty) (f : Said e) (n : ℕ) where
    elements-said : (i j : ℕ) → Says (all (copies e n)) i j (walk_each (λ (m k : ℕ). walk_item e c b m k) n i j)
    elements-said i j = rw (walk-copies e c b n i j) (row-said (copies e n) (all-copies Said e n f) i j)

    vector-said : (i j : ℕ) → Says (item (vector t e n)) i j (walk_item (vector t e n) c b i j)
    unfolding walk_item contents bodies Ok
    vector-said i j =
        behind (all (copies e n)) (item (vector t e n)) i j i j [] [] refl refl (as_list e n)
        (λ vs o. (length-as_list e n vs, copies-ok e n vs o)) (λ vs. contents-copies e n vs) (λ vs. bodies-copies e n vs)
        (walk_each (λ (m k : ℕ). walk_item e c b m k) n i j) (elements-said i j)

    -- behind the word that says n
    list-said :
        (limit i j : ℕ) → n ≤ limit → drop i c ≡ (n ∷ []) ++ drop (i + 1) c
        → Says (item (list t e limit)) i j (walk_each (λ (m k : ℕ). walk_item e c b m k) n (i + 1) j)
    unfolding contents bodies Ok
    list-said limit i j h d =
        behind (all (copies e n)) (item (list t e limit)) i j (i + 1) j (n ∷ []) [] d refl (as_list e n)
        (λ vs o. (rw (length-as_list e n vs) h, copies-ok e n vs o))
        (λ vs. rw (length-as_list e n vs) (ap (λ (x : List ℕ). n ∷ x) (contents-copies e n vs)))
        (λ vs. bodies-copies e n vs)
        (walk_each (λ (m k : ℕ). walk_item e c b m k) n (i + 1) j) (elements-said (i + 1) j)

  -- An item, the fields of a container, and the option that the word at i selects
  mutual
    unfolding Said walk_item contents bodies Ok num_at

    pub item-said : (t : Ty) (i j : ℕ) → Says (item t) i j (walk_item t c b i j)
    item-said (number t w) i j =
        bodied (item (number t w)) i j w (upto i (j + w))
        (λ m. (num_at w b j, num_at-bound w b j h m, refl, rw (le-num_at w b j h m) (bytes-here j w)))
    item-said (boolean t) i j =
        bodied (item (boolean t)) i j 1 _
        (λ m.
        tested (item (boolean t)) i j (ltb (get_or b j 0) 2) (upto i (j + 1)) 1 j
        (λ e.
        let v = bit-of (get_or b j 0) (ltb-true _ _ e) in
        let d : j + 1 ≡ suc j = omega arith in
        (v.0, tt, refl, rw (d, ← v.1) (drop-cons b j 0 (omega arith)))))
    item-said (fixed_bytes t n) i j =
        bodied (item (fixed_bytes t n)) i j n (upto i (j + n))
        (λ m. (bytes_at b j n, (bytes_of j n, length-bytes_at b j n m), refl, bytes-here j n))
    item-said (free_bytes t limit) i j =
        let k = get_or c i 0 in
        worded (item (free_bytes t limit)) i j limit _
        (λ p q.
        bodied (item (free_bytes t limit)) i j k (upto (i + 1) (j + k))
        (λ m.
        let l = length-bytes_at b j k m in
        (bytes_at b j k, (bytes_of j k, rw l q), word-here i _ p (sym l), bytes-here j k)))
    item-said (bit_vector t n) i j = bits-said (Ok (bit_vector t n)) (contents (bit_vector t n)) i j i n (λ v l. (l, refl))
    item-said (bit_list t limit) i j =
        worded (item (bit_list t limit)) i j limit _
        (λ p q.
        bits-said (Ok (bit_list t limit)) (contents (bit_list t limit)) i j (i + 1) (get_or c i 0)
        (λ v l. (rw l q, word-here i (length v) p (sym l))))
    item-said (container t ts) i j = row-said ts (all_said ts) i j
    item-said (union t os) i j =
        tested (item (union t os)) i j (ltb i (length c)) _ 0 (length c)
        (λ e. option-said os i j (ltb-true _ _ e))
    item-said (list t e limit) i j =
        worded (item (list t e limit)) i j limit _
        (λ p q. list-said t e (λ m k. item-said e m k) (get_or c i 0) limit i j q (word-here i _ p refl))
    item-said (vector t e n) i j = vector-said t e (λ m k. item-said e m k) n i j

    all_said : (ts : Tys) → All Said ts
    all_said end = tt
    all_said (field t ts) = ((λ i j. item-said t i j), all_said ts)

    option-said : (os : Opts) (i j : ℕ) → i < length c → Says (chosen os) i j (walk_option os (get_or c i 0) c b i j)
    option-said over i j p = (0, i, refl)
    option-said (bare s os) i j p =
        bare-said s os i j (eqb (get_or c i 0) s) (walk_option os (get_or c i 0) c b i j)
        (λ e. word-here i s p (eqb-true _ _ e))
        (option-said os i j p)
    option-said (body s t os) i j p =
        body-said s t os i j (eqb (get_or c i 0) s) (walk_item t c b (i + 1) j) (walk_option os (get_or c i 0) c b i j)
        (λ e. word-here i s p (eqb-true _ _ e))
        (item-said t (i + 1) j)
        (option-said os i j p)
