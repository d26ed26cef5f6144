-- The pieces of an encoding: its offset words, selector bytes and leaf bodies, each with the place where it stands. Assumes nothing: these are definitions.
use Rattle.std.specs.Prelude.{◌≡◌, List, [], ◌∷◌, ◌++◌, ℕ, ◌+◌, ◌-◌, ◌≤◌, length, take, drop, leb, ltb}
use Rattle.std.proofs.Common.{inl, inr}
use Rattle.standard.specs.Choice.{pick, and_also}
use Rattle.standard.specs.Bytes.{le}
use Rattle.standard.specs.Types.{Ty, Tys, Opts, number, boolean, fixed_bytes, free_bytes, bit_vector, bit_list, container, union, list, vector, end, field, over, bare, body, head}
use Rattle.standard.specs.Parts.{alike, fixed_lengths}
use Rattle.standard.specs.Serialize.{Val, Vals, Option, serialize, parts}
use Rattle.standard.specs.declared.Head.{Head}
use Rattle.standard.specs.declared.Head.TheVariants.{Fixed, Variable}

pub data Kind : Type 0 where
  offset_word : Kind
  selector_byte : Kind
  -- the body of a leaf of the type with this number; a bit list's with its mark
  leaf_body : ℕ → Kind

-- A piece: what it is, the positions from its first to before its end, and its bytes
pub record Piece : Type 0 where
  pub kind : Kind
  pub from : ℕ
  pub to : ℕ
  pub bytes : List ℕ

-- The bytes b as a piece that starts at s
abbrev pub standing : Kind → ℕ → List ℕ → Piece
standing k s b = record { kind = k; from = s; to = s + length b; bytes = b }

-- A field's pieces in a container that starts at s, its fixed part at p and its variable part at q behind that start: a fixed field is its fixed part;
-- a variable one has its offset there, which says q, and is its variable part
abbrev pub field_at : Head → ℕ → ℕ → ℕ → (ℕ → List Piece) → List Piece
field_at (Fixed n) s p q own = own (s + p)
field_at Variable s p q own = standing offset_word (s + p) (le 4 q) ∷ own (s + q)

-- Where the next fixed part stands, and the next variable part, behind a field with the serialization b
abbrev pub next_fixed : Head → List ℕ → ℕ → ℕ
next_fixed (Fixed n) b p = p + length b
next_fixed Variable b p = p + 4

abbrev pub next_variable : Head → List ℕ → ℕ → ℕ
next_variable (Fixed n) b q = q
next_variable Variable b q = q + length b

-- The pieces of elements with this head, as those of fields: of is an element's serialization, own its pieces from a place on
unfoldable pub alike_pieces : {A : Type 0} → Head → (A → List ℕ) → (A → ℕ → List Piece) → List A → ℕ → ℕ → ℕ → List Piece
alike_pieces h of own [] s p q = []
alike_pieces h of own (v ∷ vs) s p q =
    field_at h s p q (λ (u : ℕ). own v u) ++ alike_pieces h of own vs s (next_fixed h (of v) p) (next_variable h (of v) q)

unfoldable mutual
  -- The pieces of a value's encoding that starts at s
  pub pieces : (t : Ty) → Val t → ℕ → List Piece
  pieces (number t w) v s = standing (leaf_body t) s (serialize (number t w) v) ∷ []
  pieces (boolean t) v s = standing (leaf_body t) s (serialize (boolean t) v) ∷ []
  pieces (fixed_bytes t n) v s = standing (leaf_body t) s (serialize (fixed_bytes t n) v) ∷ []
  pieces (free_bytes t limit) v s = standing (leaf_body t) s (serialize (free_bytes t limit) v) ∷ []
  pieces (bit_vector t n) v s = standing (leaf_body t) s (serialize (bit_vector t n) v) ∷ []
  pieces (bit_list t limit) v s = standing (leaf_body t) s (serialize (bit_list t limit) v) ∷ []
  pieces (container t ts) vs s = field_pieces ts vs s 0 (fixed_lengths (parts ts vs))
  pieces (union t os) v s = option_pieces os v s
  pieces (list t e limit) vs s =
      alike_pieces (head e) (λ (v : Val e). serialize e v) (λ (v : Val e) (u : ℕ). pieces e v u) vs s 0
      (fixed_lengths (alike (head e) (λ (v : Val e). serialize e v) vs))
  pieces (vector t e n) vs s =
      alike_pieces (head e) (λ (v : Val e). serialize e v) (λ (v : Val e) (u : ℕ). pieces e v u) vs s 0
      (fixed_lengths (alike (head e) (λ (v : Val e). serialize e v) vs))

  pub field_pieces : (ts : Tys) → Vals ts → ℕ → ℕ → ℕ → List Piece
  field_pieces end vs s p q = []
  field_pieces (field t ts) vs s p q =
      field_at (head t) s p q (λ (u : ℕ). pieces t vs.0 u)
      ++ field_pieces ts vs.1 s (next_fixed (head t) (serialize t vs.0) p) (next_variable (head t) (serialize t vs.0) q)

  -- The selector, and the body's pieces behind it where the option has one
  pub option_pieces : (os : Opts) → Option os → ℕ → List Piece
  option_pieces over v s = []
  option_pieces (bare k os) (inl x) s = standing selector_byte s (k ∷ []) ∷ []
  option_pieces (bare k os) (inr v) s = option_pieces os v s
  option_pieces (body k t os) (inl x) s = standing selector_byte s (k ∷ []) ∷ pieces t x (s + 1)
  option_pieces (body k t os) (inr v) s = option_pieces os v s

-- 1 where the position x lies from a on and before b, 0 where not
unfoldable pub inside : ℕ → ℕ → ℕ → ℕ
inside a b x = pick (and_also (leb a x) (ltb x b)) 1 0

-- How many of some pieces the position x lies in
unfoldable pub covers : ℕ → List Piece → ℕ
covers x [] = 0
covers x (p ∷ ps) = inside p.from p.to x + covers x ps

-- The piece lies within m, and its bytes are those of m there.
pub record StandsIn (m : List ℕ) (p : Piece) : Type 0 where
  pub ordered : p.from ≤ p.to
  pub within : p.to ≤ length m
  pub there : take (p.to - p.from) (drop p.from m) ≡ p.bytes

unfoldable pub AllStandIn : List ℕ → List Piece → Type 0
AllStandIn m [] = Unit {0}
AllStandIn m (p ∷ ps) = StandsIn m p × AllStandIn m ps
