-- Elements are fields: n elements of one type are read, written and laid out as n fields of it. Assumes nothing.
--     copies        n fields of one type
--     by_copies     what holds of every row of such fields holds of every list of elements
-- So a law about a row of fields, from a law P about each of its types (`All P`), is a law about elements too.
use mathlib.Core.Path.{◌≡◌, refl, ap}
use mathlib.Core.List.{List, [], ◌∷◌, ◌++◌}
use Prim.Native.Nat.{ℕ, zero, suc, ◌*◌}
use native.Mathlib.Omega.{arith}
use lib.ListN.{length, replicate}
use Rattle.standard.specs.Types.{Ty, Tys, end, field, head, heads, width, portion}
use Rattle.standard.specs.Parts.{Part, piece, alike}
use Rattle.standard.specs.Serialize.{Val, Vals, Each, Ok, OkAll, serialize, parts}
use Rattle.standard.specs.Pieces.{Piece, field_at, next_fixed, next_variable, pieces, field_pieces, alike_pieces}
use Rattle.standard.specs.declared.Head.{Head}

-- P of the type of each field
abbrev pub All : (Ty → Type 0) → Tys → Type 0
All P end = Unit {0}
All P (field t ts) = P t × All P ts

-- n fields of the type e
abbrev pub copies : Ty → ℕ → Tys
copies e zero = end
copies e (suc n) = field e (copies e n)

pub all-copies : (P : Ty → Type 0) (e : Ty) (n : ℕ) → P e → All P (copies e n)
all-copies P e zero h = tt
all-copies P e (suc n) h = (h, all-copies P e n h)

pub heads-copies : (e : Ty) (n : ℕ) → heads (copies e n) ≡ replicate n (head e)
unfolding heads
heads-copies e zero = refl
heads-copies e (suc n) = ap (λ (hs : List Head). head e ∷ hs) (heads-copies e n)

-- Their values as a list, and every list is one of some fields' values.
abbrev pub as_list : (e : Ty) (n : ℕ) → Vals (copies e n) → List (Val e)
as_list e zero vs = []
as_list e (suc n) vs = vs.0 ∷ as_list e n vs.1

pub length-as_list : (e : Ty) (n : ℕ) (vs : Vals (copies e n)) → length (as_list e n vs) ≡ n
length-as_list e zero vs = refl
length-as_list e (suc n) vs = ap suc (length-as_list e n vs.1)

as_fields : (e : Ty) (vs : List (Val e)) → (n : ℕ) × (ws : Vals (copies e n)) × (as_list e n ws ≡ vs)
as_fields e [] = (0, tt, refl)
as_fields e (v ∷ vs) =
    let r = as_fields e vs in
    (suc r.0, (v, r.1), ap (λ (xs : List (Val e)). v ∷ xs) r.2)

pub by_copies : (e : Ty) (P : List (Val e) → Type 0) → ((n : ℕ) (vs : Vals (copies e n)) → P (as_list e n vs)) → (vs : List (Val e)) → P vs
by_copies e P f vs = let r = as_fields e vs in rw r.2 at (f r.0 r.1)

-- What is said of elements is said of those fields.
pub alike-copies : (e : Ty) (n : ℕ) (vs : Vals (copies e n)) → alike (head e) (λ (v : Val e). serialize e v) (as_list e n vs) ≡ parts (copies e n) vs
unfolding alike serialize
alike-copies e zero vs = refl
alike-copies e (suc n) vs = ap (λ (xs : List Part). piece (head e) (serialize e vs.0) ∷ xs) (alike-copies e n vs.1)

pub ok-copies : (e : Ty) (n : ℕ) (vs : Vals (copies e n)) → Each (λ (v : Val e). Ok e v) (as_list e n vs) → OkAll (copies e n) vs
unfolding Each Ok
ok-copies e zero vs h = tt
ok-copies e (suc n) vs h = (h.0, ok-copies e n vs.1 h.1)

pub copies-ok : (e : Ty) (n : ℕ) (vs : Vals (copies e n)) → OkAll (copies e n) vs → Each (λ (v : Val e). Ok e v) (as_list e n vs)
unfolding Each Ok
copies-ok e zero vs h = tt
copies-ok e (suc n) vs h = (h.0, copies-ok e n vs.1 h.1)

pub pieces-copies :
    (e : Ty) (n : ℕ) (vs : Vals (copies e n)) (s p q : ℕ)
    → alike_pieces (head e) (λ (v : Val e). serialize e v) (λ (v : Val e) (u : ℕ). pieces e v u) (as_list e n vs) s p q
    ≡ field_pieces (copies e n) vs s p q
unfolding alike_pieces pieces
pieces-copies e zero vs s p q = refl
pieces-copies e (suc n) vs s p q =
    let b = serialize e vs.0 in
    ap (λ (ps : List Piece). field_at (head e) s p q (λ (u : ℕ). pieces e vs.0 u) ++ ps)
    (pieces-copies e n vs.1 s (next_fixed (head e) b p) (next_variable (head e) b q))

-- The fixed portion of n elements
pub portion-copies : (n : ℕ) (h : Head) → portion (replicate n h) ≡ n * width h
unfolding portion
portion-copies zero h = omega arith
portion-copies (suc n) h = omega (arith, portion-copies n h)
