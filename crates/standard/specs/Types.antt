-- The standard's types, as far as a layout table can say them. Assumes nothing: these are definitions.
use Rattle.std.specs.Prelude.{◌≡◌, List, [], ◌∷◌, Bool, true, ℕ, ◌+◌, ◌*◌, ◌/◌, ◌≤◌, ◌<◌, eqb}
use Rattle.standard.specs.Choice.{or_else}
use Rattle.standard.specs.declared.Head.{Head}
use Rattle.standard.specs.declared.Head.TheVariants.{Fixed, Variable}

mutual
  -- A type. Each begins with the number that it goes by in its table.
  pub data Ty : Type 0 where
    -- uintN, in so many bytes
    number : ℕ → ℕ → Ty
    boolean : ℕ → Ty
    -- Vector[byte, n]
    fixed_bytes : ℕ → ℕ → Ty
    -- List[byte, limit]
    free_bytes : ℕ → ℕ → Ty
    -- Bitvector[n]
    bit_vector : ℕ → ℕ → Ty
    -- Bitlist[limit]
    bit_list : ℕ → ℕ → Ty
    container : ℕ → Tys → Ty
    union : ℕ → Opts → Ty
    -- List[element, limit]
    list : ℕ → Ty → ℕ → Ty
    -- Vector[element, n]
    vector : ℕ → Ty → ℕ → Ty

  -- The fields of a container, in order.
  pub data Tys : Type 0 where
    end : Tys
    field : Ty → Tys → Tys

  -- The options of a union, each with its selector: without a body, or with one.
  pub data Opts : Type 0 where
    over : Opts
    bare : ℕ → Opts → Opts
    body : ℕ → Ty → Opts → Opts

-- A container is of fixed size if all its fields are: their lengths add up.
unfoldable pub joined : Head → Head → Head
joined (Fixed n) (Fixed m) = Fixed (n + m)
joined (Fixed n) Variable = Variable
joined Variable h = Variable

-- A vector is of fixed size if its element is: n of its length.
unfoldable pub times : ℕ → Head → Head
times n (Fixed k) = Fixed (n * k)
times n Variable = Variable

-- "Variable-size and fixed-size": lists, bit lists, unions and what holds one of them are of variable size.
unfoldable mutual
  pub head : Ty → Head
  head (number t w) = Fixed w
  head (boolean t) = Fixed 1
  head (fixed_bytes t n) = Fixed n
  head (free_bytes t limit) = Variable
  head (bit_vector t n) = Fixed ((n + 7) / 8)
  head (bit_list t limit) = Variable
  head (container t ts) = head_all ts
  head (union t os) = Variable
  head (list t e limit) = Variable
  head (vector t e n) = times n (head e)

  pub head_all : Tys → Head
  head_all end = Fixed 0
  head_all (field t ts) = joined (head t) (head_all ts)

-- The fields' heads, in order
unfoldable pub heads : Tys → List Head
heads end = []
heads (field t ts) = head t ∷ heads ts

-- How much of the fixed portion a head takes: an offset is four bytes
unfoldable pub width : Head → ℕ
width (Fixed n) = n
width Variable = 4

-- The fixed portion
unfoldable pub portion : List Head → ℕ
portion [] = 0
portion (h ∷ hs) = width h + portion hs

-- uintN has 8, 16, 32, 64, 128 or 256 bits.
abbrev pub is_width : ℕ → Bool
is_width w = or_else (eqb w 1) (or_else (eqb w 2) (or_else (eqb w 4) (or_else (eqb w 8) (or_else (eqb w 16) (eqb w 32)))))

-- The selectors of some options rise from k on, and are at most 127.
unfoldable pub Rising : ℕ → Opts → Type 0
Rising k over = Unit {0}
Rising k (bare s os) = (k ≤ s) × (s < 128) × Rising (s + 1) os
Rising k (body s t os) = (k ≤ s) × (s < 128) × Rising (s + 1) os

abbrev pub NoFields : Tys → Type 0
NoFields end = Unit {0}
NoFields (field t ts) = ⊥

abbrev pub NoOptions : Opts → Type 0
NoOptions over = Unit {0}
NoOptions (bare s os) = ⊥
NoOptions (body s t os) = ⊥

-- "Illegal types": empty vectors, containers without fields, unions without options or with selectors that do not fit
unfoldable mutual
  pub LegalTy : Ty → Type 0
  LegalTy (number t w) = is_width w ≡ true
  LegalTy (boolean t) = Unit {0}
  LegalTy (fixed_bytes t n) = 1 ≤ n
  LegalTy (free_bytes t limit) = Unit {0}
  LegalTy (bit_vector t n) = 1 ≤ n
  LegalTy (bit_list t limit) = Unit {0}
  LegalTy (container t ts) = (NoFields ts → ⊥) × LegalAll ts
  LegalTy (union t os) = (NoOptions os → ⊥) × Rising 0 os × LegalOptions os
  LegalTy (list t e limit) = LegalTy e
  LegalTy (vector t e n) = (1 ≤ n) × LegalTy e

  pub LegalAll : Tys → Type 0
  LegalAll end = Unit {0}
  LegalAll (field t ts) = LegalTy t × LegalAll ts

  pub LegalOptions : Opts → Type 0
  LegalOptions over = Unit {0}
  LegalOptions (bare s os) = LegalOptions os
  LegalOptions (body s t os) = LegalTy t × LegalOptions os
