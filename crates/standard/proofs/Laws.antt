-- The laws on serialization that everything cites. Assumes nothing.
--     value-size       the encodings of a fixed type all have its fixed length
--     value-bytes      an encoding is bytes
--     injective        two values within bounds that have one encoding are equal
-- Each goes down the type; a container is a matter of its parts, and so are lists and vectors, whose elements are fields of one type (Elements);
-- a union is a matter of its selector. A law about a row of fields comes from the law about each field, `All`.
use mathlib.Core.Path.{◌≡◌, refl, sym, ap, ap₂, ◌∙◌}
use mathlib.Core.Logic.{inl, inr}
use mathlib.Core.List.{List, [], ◌∷◌, append-nil}
use mathlib.Core.Bool.{Bool, true, false}
use Prim.Native.Nat.{ℕ, zero, suc, ◌+◌, ◌*◌, ◌/◌, ◌≤◌, ◌<◌, ◌^◌}
use native.Mathlib.Nat.{mul-le-mul_right, eq_of_mul-eq-mul_right}
use native.Mathlib.Omega.{arith}
use lib.ListN.{length, replicate}
use Rattle.standard.specs.Bytes.{Bytes, le, four, num}
use Rattle.standard.specs.Bits.{bit}
use Rattle.standard.specs.Types.{Ty, Tys, Opts, number, boolean, fixed_bytes, free_bytes, bit_vector, bit_list, container, union, list, vector, end, field, over, bare, body, head, head_all, heads, joined, times, width, portion, is_width, NoFields, Rising, LegalTy, LegalAll, LegalOptions}
use Rattle.standard.specs.Parts.{Part, piece, alike, fixed_lengths, fronts, backs, join, part_heads, next}
use Rattle.standard.specs.Serialize.{Val, Vals, Option, Each, Ok, OkAll, OkOption, serialize, parts, selected}
use Rattle.standard.specs.declared.Head.{Head}
use Rattle.standard.specs.declared.Head.TheVariants.{Fixed, Variable}
use Rattle.standard.proofs.Bytes.{length-le, bytes_le, bytes-append, num-le}
use Rattle.standard.proofs.Bits.{length-pack, bytes-pack, bytes-marked, pack-injective, marked-injective}
use Rattle.standard.proofs.Join.{Size, Sized, Small, small-join, fixed-portion, length-fronts, length-join, join-next, join-injective}
use Rattle.standard.proofs.Elements.{All, copies, all-copies, heads-copies, as_list, length-as_list, by_copies, alike-copies, ok-copies, portion-copies}

-- The parts of a container's value have the heads of its fields.
pub heads-parts : (ts : Tys) (vs : Vals ts) → part_heads (parts ts vs) ≡ heads ts
unfolding part_heads serialize heads
heads-parts end vs = refl
heads-parts (field t ts) vs = ap (λ (hs : List Head). head t ∷ hs) (heads-parts ts vs.1)

-- The head of a container, from its parts' heads.
pub together : List Head → Head
together [] = Fixed 0
together (h ∷ hs) = joined h (together hs)

pub together-all : (ts : Tys) → together (heads ts) ≡ head_all ts
unfolding together heads head
together-all end = refl
together-all (field t ts) = ap (joined (head t)) (together-all ts)

-- A joined head is fixed only if both are.
pub joined-fixed : (g h : Head) (n : ℕ) → joined g h ≡ Fixed n → (k : ℕ) × (m : ℕ) × (g ≡ Fixed k) × (h ≡ Fixed m) × (k + m ≡ n)
unfolding joined
joined-fixed (Fixed k) (Fixed m) n e = (k, m, refl, refl, cc)
joined-fixed (Fixed k) Variable n e = let w : ◌≡◌ {A = ℕ} 0 1 = cc in absurd (omega arith)
joined-fixed Variable h n e = let w : ◌≡◌ {A = ℕ} 0 1 = cc in absurd (omega arith)

pub fixed-injective : (k m : ℕ) → Fixed k ≡ Fixed m → k ≡ m
fixed-injective k m e = cc

-- Fields of fixed size are their fixed portion.
pub all-fixed : (ts : Tys) (m : ℕ) → head_all ts ≡ Fixed m → portion (heads ts) ≡ m
unfolding head heads portion width
all-fixed end m e = fixed-injective 0 m e
all-fixed (field t ts) m e =
    let j = joined-fixed (head t) (head_all ts) m e in
    rw (j.2, all-fixed ts j.1 j.3) j.4

-- A fixed type of the standard takes at least one byte.
width_some : (w : ℕ) → is_width w ≡ true → 1 ≤ w
width_some zero h = let w : ◌≡◌ {A = ℕ} 0 1 = cc in absurd (omega arith)
width_some (suc n) h = omega arith

times-fixed : (k : ℕ) (h : Head) (n : ℕ) → times k h ≡ Fixed n → (m : ℕ) × (h ≡ Fixed m) × (k * m ≡ n)
unfolding times
times-fixed k (Fixed m) n e = (m, refl, fixed-injective (k * m) n e)
times-fixed k Variable n e = let w : ◌≡◌ {A = ℕ} 0 1 = cc in absurd (omega arith)

times_cancel : (n m k : ℕ) → 1 ≤ k → n * k ≡ m * k → n ≡ m
times_cancel n m k h e = eq_of_mul-eq-mul_right k h n m e

times-some : (k m : ℕ) → 1 ≤ k → 1 ≤ m → 1 ≤ k * m
times-some k m h i = let q = mul-le-mul_right m h in omega arith

mutual
  unfolding head LegalTy

  pub fixed-some : (t : Ty) (n : ℕ) → LegalTy t → head t ≡ Fixed n → 1 ≤ n
  fixed-some (number t w) n l e = rw (← fixed-injective w n e) (width_some w l)
  fixed-some (boolean t) n l e = omega (arith, fixed-injective 1 n e)
  fixed-some (fixed_bytes t m) n l e = omega (arith, fixed-injective m n e)
  fixed-some (free_bytes t limit) n l e = let w : ◌≡◌ {A = ℕ} 0 1 = cc in absurd (omega arith)
  fixed-some (bit_vector t m) n l e = omega (arith, fixed-injective ((m + 7) / 8) n e)
  fixed-some (bit_list t limit) n l e = let w : ◌≡◌ {A = ℕ} 0 1 = cc in absurd (omega arith)
  fixed-some (container t ts) n l e = fields-some ts n l e
  fixed-some (union t os) n l e = let w : ◌≡◌ {A = ℕ} 0 1 = cc in absurd (omega arith)
  fixed-some (list t e limit) n l i = let w : ◌≡◌ {A = ℕ} 0 1 = cc in absurd (omega arith)
  fixed-some (vector t e k) n l i =
      let p = times-fixed k (head e) n i in
      rw (← p.2) (times-some k p.0 l.0 (fixed-some e p.0 l.1 p.1))

  fields-some : (ts : Tys) (n : ℕ) → (NoFields ts → ⊥) × LegalAll ts → head_all ts ≡ Fixed n → 1 ≤ n
  fields-some end n l e = absurd (l.0 tt)
  fields-some (field t ts) n l e =
      let p = joined-fixed (head t) (head_all ts) n e in
      omega (arith, fixed-some t p.0 l.1.0 p.2, p.4)

-- Where all the parts are fixed, there are no backs, and the fronts are n bytes.
flat : (xs : List Part) → Sized xs → (n : ℕ) → together (part_heads xs) ≡ Fixed n → (backs xs ≡ []) × (fixed_lengths xs ≡ n)
unfolding together part_heads backs fixed_lengths Sized Size
flat [] z n q = (refl, cc)
flat (piece Variable s ∷ xs) z n q =
    let p = (joined-fixed Variable (together (part_heads xs)) n q).2 in
    let w : ◌≡◌ {A = ℕ} 0 1 = cc in
    absurd (omega arith)
flat (piece (Fixed k) s ∷ xs) z n q =
    let p = joined-fixed (Fixed k) (together (part_heads xs)) n q in
    let f = flat xs z.1 p.1 p.3 in
    let w : k ≡ p.0 = fixed-injective k p.0 p.2 in
    (f.0, omega (arith, f.1, p.4, z.0))

pub size-join : (xs : List Part) (h : Head) → Sized xs → together (part_heads xs) ≡ h → Size h (join xs)
unfolding Size join
size-join xs (Fixed n) z e = let f = flat xs z n e in rw (f.0, append-nil, length-fronts) f.1
size-join xs Variable z e = tt

-- Parts that all have one head: n of them.
same-fixed : (xs : List Part) (n k : ℕ) → Sized xs → part_heads xs ≡ replicate n (Fixed k) → (backs xs ≡ []) × (fixed_lengths xs ≡ n * k)
unfolding part_heads backs fixed_lengths Sized Size width
same-fixed xs n k z e = (none xs n e, fixed-portion xs z ∙ ap portion e ∙ portion-copies n (Fixed k))
  where
    none : (xs : List Part) (n : ℕ) → part_heads xs ≡ replicate n (Fixed k) → backs xs ≡ []
    none [] n e = refl
    none (piece (Fixed m) s ∷ xs) zero e = let w : ◌≡◌ {A = ℕ} 0 1 = cc in absurd (omega arith)
    none (piece (Fixed m) s ∷ xs) (suc n) e = none xs n cc
    none (piece Variable s ∷ xs) zero e = let w : ◌≡◌ {A = ℕ} 0 1 = cc in absurd (omega arith)
    none (piece Variable s ∷ xs) (suc n) e = let q : Variable ≡ Fixed k = cc in let w : ◌≡◌ {A = ℕ} 0 1 = cc in absurd (omega arith)

pub size-times : (xs : List Part) (n : ℕ) (h : Head) → Sized xs → part_heads xs ≡ replicate n h → Size (times n h) (join xs)
unfolding Size join times
size-times xs n (Fixed k) z e = let f = same-fixed xs n k z e in rw (f.0, append-nil, length-fronts) f.1
size-times xs n Variable z e = tt

-- Elements of a legal type are legal fields.
pub legal-copies : (e : Ty) (n : ℕ) → LegalTy e → LegalAll (copies e n)
unfolding LegalTy
legal-copies e zero l = tt
legal-copies e (suc n) l = (l, legal-copies e n l)

-- The law about one type, and from it that about a row of fields.
Sizes : Ty → Type 0
Sizes t = (v : Val t) → Ok t v → Size (head t) (serialize t v)

row_sized : (ts : Tys) → All Sizes ts → (vs : Vals ts) → OkAll ts vs → Sized (parts ts vs)
unfolding Sizes Sized serialize Ok
row_sized end f vs h = tt
row_sized (field t ts) f vs h = (f.0 vs.0 h.0, row_sized ts f.1 vs.1 h.1)

pub copies-heads : (e : Ty) (n : ℕ) (vs : Vals (copies e n)) → part_heads (parts (copies e n) vs) ≡ replicate n (head e)
copies-heads e n vs = heads-parts (copies e n) vs ∙ heads-copies e n

elements-size :
    (e : Ty) → Sizes e → (vs : List (Val e)) → Each (λ (v : Val e). Ok e v) vs
    → Size (times (length vs) (head e)) (join (alike (head e) (λ (v : Val e). serialize e v) vs))
elements-size e f =
    by_copies e _
    (λ n vs h.
    rw (length-as_list e n vs, alike-copies e n vs)
    (size-times (parts (copies e n) vs) n (head e) (row_sized (copies e n) (all-copies Sizes e n f) vs (ok-copies e n vs h)) (copies-heads e n vs)))

mutual
  unfolding head serialize Size Sizes Ok

  pub value-size : (t : Ty) (v : Val t) → Ok t v → Size (head t) (serialize t v)
  value-size (number t w) n h = length-le w n
  value-size (boolean t) x h = refl
  value-size (fixed_bytes t n) bs h = h.1
  value-size (free_bytes t limit) bs h = tt
  value-size (bit_vector t n) bs h = rw (length-pack bs, h)
  value-size (bit_list t limit) bs h = tt
  value-size (container t ts) vs h =
      size-join (parts ts vs) (head_all ts) (row_sized ts (sizes ts) vs h) (ap together (heads-parts ts vs) ∙ together-all ts)
  value-size (union t os) v h = tt
  value-size (list t e limit) vs h = tt
  value-size (vector t e n) vs h = rw h.0 at (elements-size e (λ v i. value-size e v i) vs h.1)

  sizes : (ts : Tys) → All Sizes ts
  sizes end = tt
  sizes (field t ts) = ((λ v h. value-size t v h), sizes ts)

pub values_sized : (ts : Tys) (vs : Vals ts) → OkAll ts vs → Sized (parts ts vs)
values_sized ts vs h = row_sized ts (sizes ts) vs h

-- An encoding is bytes.
BytesAll : List Part → Type 0
BytesAll [] = Unit {0}
BytesAll (piece h s ∷ xs) = Bytes s × BytesAll xs

bytes-fronts : (xs : List Part) (off : ℕ) → BytesAll xs → Bytes (fronts xs off)
unfolding BytesAll fronts Bytes
bytes-fronts [] off h = tt
bytes-fronts (piece (Fixed n) s ∷ xs) off h = bytes-append s _ h.0 (bytes-fronts xs off h.1)
bytes-fronts (piece Variable s ∷ xs) off h = bytes-append (le 4 off) _ (bytes_le 4 off) (bytes-fronts xs (off + length s) h.1)

bytes-backs : (xs : List Part) → BytesAll xs → Bytes (backs xs)
unfolding BytesAll backs Bytes
bytes-backs [] h = tt
bytes-backs (piece (Fixed n) s ∷ xs) h = bytes-backs xs h.1
bytes-backs (piece Variable s ∷ xs) h = bytes-append s _ h.0 (bytes-backs xs h.1)

bytes-join : (xs : List Part) → BytesAll xs → Bytes (join xs)
unfolding join
bytes-join xs h = bytes-append (fronts xs (fixed_lengths xs)) (backs xs) (bytes-fronts xs (fixed_lengths xs) h) (bytes-backs xs h)

bytes-bit : (x : Bool) → Bytes (bit x ∷ [])
unfolding Bytes
bytes-bit true = (omega arith, tt)
bytes-bit false = (omega arith, tt)

Encoded : Ty → Type 0
Encoded t = (v : Val t) → LegalTy t → Ok t v → Bytes (serialize t v)

row-bytes : (ts : Tys) → All Encoded ts → (vs : Vals ts) → LegalAll ts → OkAll ts vs → BytesAll (parts ts vs)
unfolding Encoded serialize Ok LegalTy BytesAll
row-bytes end f vs l h = tt
row-bytes (field t ts) f vs l h = (f.0 vs.0 l.0 h.0, row-bytes ts f.1 vs.1 l.1 h.1)

elements-bytes :
    (e : Ty) → Encoded e → LegalTy e → (vs : List (Val e)) → Each (λ (v : Val e). Ok e v) vs
    → Bytes (join (alike (head e) (λ (v : Val e). serialize e v) vs))
elements-bytes e f l =
    by_copies e _
    (λ n vs h.
    rw (alike-copies e n vs)
    (bytes-join (parts (copies e n) vs) (row-bytes (copies e n) (all-copies Encoded e n f) vs (legal-copies e n l) (ok-copies e n vs h))))

mutual
  unfolding Encoded serialize Ok LegalTy Rising Bytes BytesAll

  pub value-bytes : (t : Ty) (v : Val t) → LegalTy t → Ok t v → Bytes (serialize t v)
  value-bytes (number t w) n l h = bytes_le w n
  value-bytes (boolean t) x l h = bytes-bit x
  value-bytes (fixed_bytes t n) bs l h = h.0
  value-bytes (free_bytes t limit) bs l h = h.0
  value-bytes (bit_vector t n) bs l h = bytes-pack bs
  value-bytes (bit_list t limit) bs l h = bytes-marked bs
  value-bytes (container t ts) vs l h = bytes-join (parts ts vs) (row-bytes ts (encoded ts) vs l.1 h)
  value-bytes (union t os) v l h = option-bytes os v 0 l.1 l.2 h
  value-bytes (list t e limit) vs l h = elements-bytes e (λ v i j. value-bytes e v i j) l vs h.1
  value-bytes (vector t e n) vs l h = elements-bytes e (λ v i j. value-bytes e v i j) l.1 vs h.1

  encoded : (ts : Tys) → All Encoded ts
  encoded end = tt
  encoded (field t ts) = ((λ v l h. value-bytes t v l h), encoded ts)

  option-bytes : (os : Opts) (v : Option os) (k : ℕ) → Rising k os → LegalOptions os → OkOption os v → Bytes (selected os v)
  option-bytes over v k r l h = absurd v
  option-bytes (bare s os) (inl x) k r l h = (omega (arith, r.1), tt)
  option-bytes (bare s os) (inr v) k r l h = option-bytes os v (s + 1) r.2 l h
  option-bytes (body s t os) (inl x) k r l h = (omega (arith, r.1), value-bytes t x l.0 h)
  option-bytes (body s t os) (inr v) k r l h = option-bytes os v (s + 1) r.2 l.1 h

-- Two values that have one encoding are equal.
bit-injective : (x y : Bool) → bit x ∷ [] ≡ bit y ∷ [] → x ≡ y
bit-injective true true e = refl
bit-injective true false e = let w : ◌≡◌ {A = ℕ} 1 0 = cc in absurd (omega arith)
bit-injective false true e = let w : ◌≡◌ {A = ℕ} 0 1 = cc in absurd (omega arith)
bit-injective false false e = refl

pub piece_bytes : (h : Head) (u v : List ℕ) (xs ys : List Part) → piece h u ∷ xs ≡ piece h v ∷ ys → u ≡ v
piece_bytes h u v xs ys e = cc

pub piece-rest : (h : Head) (u v : List ℕ) (xs ys : List Part) → piece h u ∷ xs ≡ piece h v ∷ ys → xs ≡ ys
piece-rest h u v xs ys e = cc

-- The selector of an option, and what follows it.
unfoldable pub selector : (os : Opts) → Option os → ℕ
selector over v = 0
selector (bare s os) (inl x) = s
selector (bare s os) (inr v) = selector os v
selector (body s t os) (inl x) = s
selector (body s t os) (inr v) = selector os v

unfoldable pub payload : (os : Opts) → Option os → List ℕ
payload over v = []
payload (bare s os) (inl x) = []
payload (bare s os) (inr v) = payload os v
payload (body s t os) (inl x) = serialize t x
payload (body s t os) (inr v) = payload os v

pub selected_is : (os : Opts) (v : Option os) → selected os v ≡ selector os v ∷ payload os v
unfolding serialize selector payload
selected_is over v = absurd v
selected_is (bare s os) (inl x) = refl
selected_is (bare s os) (inr v) = selected_is os v
selected_is (body s t os) (inl x) = refl
selected_is (body s t os) (inr v) = selected_is os v

pub selector-bounds : (os : Opts) (k : ℕ) (v : Option os) → Rising k os → (k ≤ selector os v) × (selector os v < 128)
unfolding selector Rising
selector-bounds over k v r = absurd v
selector-bounds (bare s os) k (inl x) r = (r.0, r.1)
selector-bounds (bare s os) k (inr v) r = let q = selector-bounds os (s + 1) v r.2 in (omega arith, q.1)
selector-bounds (body s t os) k (inl x) r = (r.0, r.1)
selector-bounds (body s t os) k (inr v) r = let q = selector-bounds os (s + 1) v r.2 in (omega arith, q.1)

-- A selector is none of the later ones.
apart : {A : Type 0} (os : Opts) (s : ℕ) (r : List ℕ) (v : Option os) → Rising (s + 1) os → s ∷ r ≡ selected os v → A
apart os s r v g e =
    let f = e ∙ selected_is os v in
    let w : s ≡ selector os v = cc in
    absurd (omega (arith, selector-bounds os (s + 1) v g))

-- Elements with one encoding are as many: of fixed size they have the length, of variable size the first offset behind their offsets.
count-one :
    (h : Head) (xs ys : List Part) (n m : ℕ) → ((k : ℕ) → h ≡ Fixed k → 1 ≤ k) → Sized xs → Sized ys
    → part_heads xs ≡ replicate n h → part_heads ys ≡ replicate m h → length (join xs) < 2 ^ 32 → join xs ≡ join ys → n ≡ m
unfolding next portion width
count-one (Fixed k) xs ys n m some z w d g small e =
    let f = same-fixed xs n k z d in
    let i = same-fixed ys m k w g in
    let p : length (join xs) ≡ n * k = length-join xs ∙ rw (f.0, f.1) (omega arith) in
    let q : length (join ys) ≡ m * k = length-join ys ∙ rw (i.0, i.1) (omega arith) in
    times_cancel n m k (some k refl) (sym p ∙ ap length e ∙ q)
count-one Variable xs ys zero zero some z w d g small e = refl
count-one Variable xs ys zero (suc m) some z w d g small e =
    let p = rw d at (join-next xs z small) in
    let q = fixed-portion ys w ∙ ap portion g in
    absurd (omega (arith, p, q, length-join ys, ap length e))
count-one Variable xs ys (suc n) zero some z w d g small e =
    let p = rw g at (join-next ys w (rw (← e) small)) in
    let q = fixed-portion xs z ∙ ap portion d in
    absurd (omega (arith, p, q, length-join xs, ap length e))
count-one Variable xs ys (suc n) (suc m) some z w d g small e =
    let p = rw d at (join-next xs z small) in
    let q = rw g at (join-next ys w (rw (← e) small)) in
    let r = ap (λ (b : List ℕ). four b 0) e in
    omega (arith, p, q, r, portion-copies n Variable, portion-copies m Variable)

Injective : Ty → Type 0
Injective t = (v w : Val t) → LegalTy t → Ok t v → Ok t w → length (serialize t v) < 2 ^ 32 → serialize t v ≡ serialize t w → v ≡ w

row-injective :
    (ts : Tys) → All Injective ts → (vs ws : Vals ts) → LegalAll ts → OkAll ts vs → OkAll ts ws → Small (parts ts vs) → parts ts vs ≡ parts ts ws → vs ≡ ws
unfolding Injective serialize Ok LegalTy Small
row-injective end f vs ws l h g k e = refl
row-injective (field t ts) f vs ws l h g k e =
    let p = f.0 vs.0 ws.0 l.0 h.0 g.0 k.0 (piece_bytes (head t) _ _ (parts ts vs.1) (parts ts ws.1) e) in
    let q = row-injective ts f.1 vs.1 ws.1 l.1 h.1 g.1 k.1 (piece-rest (head t) (serialize t vs.0) (serialize t ws.0) _ _ e) in
    ap₂ (λ (x : Val t) (y : Vals ts). (x, y)) p q

-- Two rows with one encoding and one number of heads
rows-injective :
    (ts : Tys) → All Injective ts → (vs ws : Vals ts) → LegalAll ts → OkAll ts vs → OkAll ts ws → length (join (parts ts vs)) < 2 ^ 32
    → join (parts ts vs) ≡ join (parts ts ws) → vs ≡ ws
rows-injective ts f vs ws l h g k e =
    row-injective ts f vs ws l h g (small-join (parts ts vs) (values_sized ts vs h) k)
    (join-injective (parts ts vs) (parts ts ws) (values_sized ts vs h) (values_sized ts ws g) k (heads-parts ts vs ∙ sym (heads-parts ts ws)) e)

-- Two lists of elements with one encoding: they are as many, so they are rows of fields of one type.
module _ (e : Ty) (f : Injective e) (l : LegalTy e) where
  encoding : List (Val e) → List ℕ
  encoding vs = join (alike (head e) (λ (v : Val e). serialize e v) vs)

  counted-injective :
      (n m : ℕ) → n ≡ m → (vs : Vals (copies e n)) (ws : Vals (copies e m)) → OkAll (copies e n) vs → OkAll (copies e m) ws
      → length (join (parts (copies e n) vs)) < 2 ^ 32 → join (parts (copies e n) vs) ≡ join (parts (copies e m) ws) → as_list e n vs ≡ as_list e m ws
  counted-injective n m q = rw q (λ vs ws h g k i. ap (as_list e m) (rows-injective (copies e m) (all-copies Injective e m f) vs ws (legal-copies e m l) h g k i))

  elements-injective :
      (vs ws : List (Val e)) → Each (λ (v : Val e). Ok e v) vs → Each (λ (v : Val e). Ok e v) ws → length (encoding vs) < 2 ^ 32
      → encoding vs ≡ encoding ws → vs ≡ ws
  unfolding encoding
  elements-injective vs ws =
      by_copies e (λ vs. Each (λ (v : Val e). Ok e v) vs → Each (λ (v : Val e). Ok e v) ws → length (encoding vs) < 2 ^ 32 → encoding vs ≡ encoding ws → vs ≡ ws)
      (λ n xs.
      by_copies e (λ ws. Each (λ (v : Val e). Ok e v) (as_list e n xs) → Each (λ (v : Val e). Ok e v) ws → length (encoding (as_list e n xs)) < 2 ^ 32 → encoding (as_list e n xs) ≡ encoding ws → as_list e n xs ≡ ws)
      (λ m ys h g k i.
      let o = ok-copies e n xs h in
      let p = ok-copies e m ys g in
      let small = rw (alike-copies e n xs) at k in
      let same = rw (alike-copies e n xs, alike-copies e m ys) at i in
      let q = count-one (head e) (parts (copies e n) xs) (parts (copies e m) ys) n m (λ k j. fixed-some e k l j)
      (values_sized (copies e n) xs o) (values_sized (copies e m) ys p) (copies-heads e n xs) (copies-heads e m ys) small same in
      counted-injective n m q xs ys o p small same)
      ws) vs

mutual
  unfolding Injective serialize Ok LegalTy Rising encoding

  pub injective : (t : Ty) (v w : Val t) → LegalTy t → Ok t v → Ok t w → length (serialize t v) < 2 ^ 32 → serialize t v ≡ serialize t w → v ≡ w
  injective (number t w) n m l h g k e = sym (num-le w n h) ∙ ap num e ∙ num-le w m g
  injective (boolean t) x y l h g k e = bit-injective x y e
  injective (fixed_bytes t n) x y l h g k e = e
  injective (free_bytes t limit) x y l h g k e = e
  injective (bit_vector t n) x y l h g k e = pack-injective x y (h ∙ sym g) e
  injective (bit_list t limit) x y l h g k e = marked-injective x y e
  injective (container t ts) vs ws l h g k e = rows-injective ts (each-injective ts) vs ws l.1 h g k e
  injective (union t os) v w l h g k e = injective-option os v w 0 l.1 l.2 h g k e
  injective (list t a limit) vs ws l h g k e = elements-injective a (λ v w i j m n p. injective a v w i j m n p) l vs ws h.1 g.1 k e
  injective (vector t a n) vs ws l h g k e = elements-injective a (λ v w i j m n p. injective a v w i j m n p) l.1 vs ws h.1 g.1 k e

  each-injective : (ts : Tys) → All Injective ts
  each-injective end = tt
  each-injective (field t ts) = ((λ v w l h g k e. injective t v w l h g k e), each-injective ts)

  injective-option : (os : Opts) (v w : Option os) (k : ℕ) → Rising k os → LegalOptions os → OkOption os v → OkOption os w →
      length (selected os v) < 2 ^ 32 → selected os v ≡ selected os w → v ≡ w
  injective-option over v w k r l h g n e = absurd v
  injective-option (bare s os) (inl x) (inl y) k r l h g n e = refl
  injective-option (bare s os) (inl x) (inr w) k r l h g n e = apart os s [] w r.2 e
  injective-option (bare s os) (inr v) (inl y) k r l h g n e = apart os s [] v r.2 (sym e)
  injective-option (bare s os) (inr v) (inr w) k r l h g n e = ap inr (injective-option os v w (s + 1) r.2 l h g n e)
  injective-option (body s t os) (inl x) (inl y) k r l h g n e = ap inl (injective t x y l.0 h g (omega arith) cc)
  injective-option (body s t os) (inl x) (inr w) k r l h g n e = apart os s (serialize t x) w r.2 e
  injective-option (body s t os) (inr v) (inl y) k r l h g n e = apart os s (serialize t y) v r.2 (sym e)
  injective-option (body s t os) (inr v) (inr w) k r l h g n e = ap inr (injective-option os v w (s + 1) r.2 l.1 h g n e)
