-- Bodies and the standard: bytes are accepted exactly if some bits serialize to them, and those bits are the only ones. Assumes nothing.
use mathlib.Core.Path.{◌≡◌, refl, sym, ap, ◌∙◌}
use mathlib.Core.Logic.{◌↔◌, ⊎_elim}
use mathlib.Core.List.{List}
use mathlib.Core.Bool.{Bool, true, false}
use Prim.Native.Nat.{ℕ, ◌+◌, ◌*◌, ◌/◌, ◌^◌, ◌<◌, ◌≤◌}
use native.Mathlib.Nat.{pow-succ', eq-zero-or-pos}
use native.Mathlib.Omega.{arith}
use borrow.Author.Tests.{eqb-true, leb-true, ltb-true, eq-eqb, ne_eqb, le-leb, lt-ltb}
use lib.Dec.{eqb, leb, ltb}
use lib.ListN.{length}
use Rattle.standard.specs.Bytes.{Bytes, num}
use Rattle.standard.specs.Bits.{pack, marked}
use Rattle.standard.specs.Choice.{pick}
use Rattle.standard.specs.declared.Refusal.{Refusal}
use Rattle.standard.specs.declared.Refusal.TheVariants.{ExcessBits}
use Rattle.standard.proofs.Bytes.{num-bound}
use Rattle.standard.proofs.Bits.{bits_of, length-bits_of, bit_num-bound, marked-bits, marked-injective, num-marked, length_marked, pack-bits}
use Rattle.standard.proofs.Bits.{pack-injective, num-pack, length-pack, pow_bytes}
use Rattle.bitfield.specs.Body.{highest, all_bits, marked_at, bit_list_body, bit_vector_body, bytes_for_lem}
use Rattle.bitfield.proofs.Tops.{highest-at, highest-says}
use Rattle.std.specs.declared.option.Option.{Option}
use Rattle.std.specs.declared.result.Result.{Result}
use Rattle.std.specs.declared.result.Result.TheVariants.{Ok, Err}
use Rattle.std.specs.Prelude.{⊤}
use Rattle.std.specs.declared.option.Option.TheVariants.{Some, None}

-- What each test says where bytes are accepted
placed : (j given n k : ℕ) (x y : Refusal) (s t : Bool) → eqb given (j / 8 + 1) ≡ s → leb j n ≡ t
    → pick s (pick t (Ok j) (Err x)) (Err y) ≡ Ok k → (j ≡ k) × (given ≡ j / 8 + 1) × (j ≤ n)
placed j given n k x y true true p q e = (cc, eqb-true _ _ p, leb-true _ _ q)
placed j given n k x y true false p q e = let w : ◌≡◌ {A = ℕ} 0 1 = cc in absurd (omega arith)
placed j given n k x y false t p q e = let w : ◌≡◌ {A = ℕ} 0 1 = cc in absurd (omega arith)

topped : (s : Bool) (t : Option ℕ) (given n k : ℕ) → pick s (Err ExcessBits) (marked_at t given n) ≡ Ok k
    → (t ≡ Some k) × (given ≡ k / 8 + 1) × (k ≤ n)
topped true t given n k e = let w : ◌≡◌ {A = ℕ} 0 1 = cc in absurd (omega arith)
topped false None given n k e = let w : ◌≡◌ {A = ℕ} 0 1 = cc in absurd (omega arith)
topped false (Some j) given n k e = let p = placed j given n k _ _ _ _ refl refl e in (ap Some p.0, rw p.0 at p.1, rw p.0 at p.2)

-- What an accepted body has
pub list_says : (l : List ℕ) (n k : ℕ) → bit_list_body l n ≡ Ok k → (length l ≡ k / 8 + 1) × (k ≤ n)
unfolding bit_list_body
list_says l n k e = let t = topped (eqb (length l) 0) (highest (all_bits l)) (length l) n k e in (t.1, t.2)

pub list_few : (l : List ℕ) (n k : ℕ) → bit_list_body l n ≡ Ok k → k ≤ n
list_few l n k e = (list_says l n k e).1

pub list_there : (l : List ℕ) (n k : ℕ) → bit_list_body l n ≡ Ok k → bytes_for_lem k ≤ length l
list_there l n k e = let s = list_says l n k e in omega (arith, s.0)

pub ruleset list_body = (list_few, list_there)

-- A bit list's body: sound, complete, and one
pub list-sound : (l : List ℕ) (n k : ℕ) → Bytes l → bit_list_body l n ≡ Ok k → (marked (bits_of k (num l)) ≡ l) × (k ≤ n)
unfolding bit_list_body
list-sound l n k b e =
    let t = topped (eqb (length l) 0) (highest (all_bits l)) (length l) n k e in
    let f = num-bound l b in
    let p = pow_bytes (length l) in
    let s = highest-says (8 * length l) (num l) k (omega arith) t.0 in
    (marked-bits l k b t.1 s.0 s.1, t.2)

pub list-complete : (bs : List Bool) (n : ℕ) → length bs ≤ n → bit_list_body (marked bs) n ≡ Ok (length bs)
unfolding bit_list_body
list-complete bs n h =
    let l = length_marked bs in
    let e = num-marked bs in
    let b = bit_num-bound bs in
    let p = pow-succ' 2 (length bs) in
    let t = highest-at (8 * length (marked bs)) (num (marked bs)) (length bs) (omega arith) (omega arith) (omega arith) in
    rw (ne_eqb (length (marked bs)) 0 (omega arith), t, eq-eqb (length (marked bs)) (length bs / 8 + 1) l, le-leb (length bs) n h)

-- bs is written as l: a bit list of at most n bits
pub record ListBits (l : List ℕ) (n k : ℕ) (bs : List Bool) : Type 0 where
  pub written : marked bs ≡ l
  pub count : length bs ≡ k
  pub limit : k ≤ n

pub list_iff : (l : List ℕ) (n k : ℕ) → Bytes l → (bit_list_body l n ≡ Ok k) ↔ ((bs : List Bool) × ListBits l n k bs)
list_iff l n k b = (
  (λ (e : bit_list_body l n ≡ Ok k).
      let s = list-sound l n k b e in
      (bits_of k (num l), record { written = s.0; count = length-bits_of k (num l); limit = s.1 })),
  (λ (s : (bs : List Bool) × ListBits l n k bs).
      let e = list-complete s.0 n (rw s.1.count s.1.limit) in
      rw (s.1.written, s.1.count) at e),
)

pub list-one : (l : List ℕ) (n k m j : ℕ) (xs ys : List Bool) → ListBits l n k xs → ListBits l m j ys → xs ≡ ys
list-one l n k m j xs ys p q = marked-injective xs ys (p.written ∙ sym q.written)

-- A bit vector's body: sound, complete, and one
kept : (s t : Bool) (x : Refusal) → ◌≡◌ {A = Result ⊤ Refusal} (pick s (pick t (Ok tt) (Err ExcessBits)) (Err x)) (Ok tt) → (s ≡ true) × (t ≡ true)
kept true true x e = (refl, refl)
kept true false x e = let w : ◌≡◌ {A = ℕ} 0 1 = cc in absurd (omega arith)
kept false t x e = let w : ◌≡◌ {A = ℕ} 0 1 = cc in absurd (omega arith)

-- Where n bits are accepted there are bytes for them; for none there is one.
pub vector_says : (l : List ℕ) (n : ℕ) → bit_vector_body l n ≡ Ok tt → bytes_for_lem n ≤ length l
unfolding bit_vector_body
vector_says l n e = ⊎_elim none some (eq-zero-or-pos n)
  where
    none : n ≡ 0 → bytes_for_lem n ≤ length l
    none z = rw z (omega arith)

    some : 0 < n → bytes_for_lem n ≤ length l
    some p =
        let f = rw (ne_eqb n 0 (omega arith)) at e in
        let k = kept (eqb (length l) (bytes_for_lem n)) (ltb (num l) (2 ^ n)) _ f in
        let q : length l ≡ bytes_for_lem n = eqb-true _ _ k.0 in
        omega arith

pub vector-sound : (l : List ℕ) (n : ℕ) → Bytes l → 1 ≤ n → bit_vector_body l n ≡ Ok tt → pack (bits_of n (num l)) ≡ l
unfolding bit_vector_body
vector-sound l n b h e =
    let f = rw (ne_eqb n 0 (omega arith)) at e in
    let k = kept (eqb (length l) (bytes_for_lem n)) (ltb (num l) (2 ^ n)) _ f in
    pack-bits l n b (eqb-true _ _ k.0) (ltb-true _ _ k.1)

pub vector-complete : (bs : List Bool) → 1 ≤ length bs → bit_vector_body (pack bs) (length bs) ≡ Ok tt
unfolding bit_vector_body
vector-complete bs h =
    let b = bit_num-bound bs in
    let e = num-pack bs in
    rw (
      ne_eqb (length bs) 0 (omega arith),
      eq-eqb (length (pack bs)) (bytes_for_lem (length bs)) (length-pack bs),
      lt-ltb (num (pack bs)) (2 ^ length bs)
          (omega arith),
    )

-- bs is written as l: a bit vector of n bits
pub record VectorBits (l : List ℕ) (n : ℕ) (bs : List Bool) : Type 0 where
  pub written : pack bs ≡ l
  pub count : length bs ≡ n

pub vector_iff : (l : List ℕ) (n : ℕ) → Bytes l → 1 ≤ n → (bit_vector_body l n ≡ Ok tt) ↔ ((bs : List Bool) × VectorBits l n bs)
vector_iff l n b h = (
  (λ (e : bit_vector_body l n ≡ Ok tt).
      (bits_of n (num l), record { written = vector-sound l n b h e; count = length-bits_of n (num l) })),
  (λ (s : (bs : List Bool) × VectorBits l n bs).
      let e = vector-complete s.0 (rw s.1.count h) in
      rw (s.1.written, s.1.count) at e),
)

pub vector-one : (l : List ℕ) (n : ℕ) (xs ys : List Bool) → VectorBits l n xs → VectorBits l n ys → xs ≡ ys
vector-one l n xs ys p q = pack-injective xs ys (p.count ∙ sym q.count) (p.written ∙ sym q.written)
