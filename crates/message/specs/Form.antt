-- The value form: document 01, "The value form". Assumes nothing: these are definitions.
use Rattle.std.specs.Prelude.{ℕ, List, [], ◌∷◌, ◌++◌, Bool, length}
use Rattle.std.proofs.Common.{inl, inr}
use Rattle.standard.specs.Bytes.{le}
use Rattle.standard.specs.Bits.{bit, packs}
use Rattle.standard.specs.Types.{Ty, Tys, Opts, number, boolean, fixed_bytes, free_bytes, bit_vector, bit_list, container, union, list, vector, end, field, over, bare, body}
use Rattle.standard.specs.Serialize.{Val, Vals, Option}
use Rattle.message.specs.Read.{raw_bytes_lem}

-- "bitfields as raw bytes": "with zero above the last bit"
abbrev pub raw_bits : List Bool → List ℕ
raw_bits bs = packs (raw_bytes_lem (length bs)) bs

-- What `of` gives of each element, one behind another
unfoldable pub in_order : {A : Type 0} → (A → List ℕ) → List A → List ℕ
in_order of [] = []
in_order of (v ∷ vs) = of v ++ in_order of vs

-- "Contents, in preorder, one word each: byte length of free bytes, bit length of a bit list, selector of a union", and "a contents word for a list's count
-- .. before its elements"
unfoldable mutual
  pub contents : (t : Ty) → Val t → List ℕ
  contents (number t w) n = []
  contents (boolean t) x = []
  contents (fixed_bytes t n) bs = []
  contents (free_bytes t limit) bs = length bs ∷ []
  contents (bit_vector t n) bs = []
  contents (bit_list t limit) bs = length bs ∷ []
  contents (container t ts) vs = contents_all ts vs
  contents (union t os) v = contents_option os v
  contents (list t e limit) vs = length vs ∷ in_order (λ (v : Val e). contents e v) vs
  contents (vector t e n) vs = in_order (λ (v : Val e). contents e v) vs

  pub contents_all : (ts : Tys) → Vals ts → List ℕ
  contents_all end vs = []
  contents_all (field t ts) vs = contents t vs.0 ++ contents_all ts vs.1

  pub contents_option : (os : Opts) → Option os → List ℕ
  contents_option over v = []
  contents_option (bare s os) (inl x) = s ∷ []
  contents_option (bare s os) (inr v) = contents_option os v
  contents_option (body s t os) (inl x) = s ∷ contents t x
  contents_option (body s t os) (inr v) = contents_option os v

-- "Bodies: the leaves' bytes one after another"
unfoldable mutual
  pub bodies : (t : Ty) → Val t → List ℕ
  bodies (number t w) n = le w n
  bodies (boolean t) x = bit x ∷ []
  bodies (fixed_bytes t n) bs = bs
  bodies (free_bytes t limit) bs = bs
  bodies (bit_vector t n) bs = raw_bits bs
  bodies (bit_list t limit) bs = raw_bits bs
  bodies (container t ts) vs = bodies_all ts vs
  bodies (union t os) v = bodies_option os v
  bodies (list t e limit) vs = in_order (λ (v : Val e). bodies e v) vs
  bodies (vector t e n) vs = in_order (λ (v : Val e). bodies e v) vs

  pub bodies_all : (ts : Tys) → Vals ts → List ℕ
  bodies_all end vs = []
  bodies_all (field t ts) vs = bodies t vs.0 ++ bodies_all ts vs.1

  pub bodies_option : (os : Opts) → Option os → List ℕ
  bodies_option over v = []
  bodies_option (bare s os) (inl x) = []
  bodies_option (bare s os) (inr v) = bodies_option os v
  bodies_option (body s t os) (inl x) = bodies t x
  bodies_option (body s t os) (inr v) = bodies_option os v
