-- What the steps that store give. Assumes nothing: these are definitions.
use Rattle.std.specs.Prelude.{ℕ, ◌*◌, ◌≤◌, ◌<◌, ◌≡◌, List}
use Rattle.standard.specs.Bytes.{Stored, Room}
use Rattle.standard.specs.Types.{Tys, head_all, heads, portion}
use Rattle.standard.specs.Parts.{join}
use Rattle.standard.specs.declared.Head.TheVariants.{Fixed}
use Rattle.value.specs.Walk.{Walked, walk_fields}
use Rattle.value.specs.Write.{word_after, byte_after, parts_from}
use Rattle.value.specs.Steps.{InRow, types_in, heads_in, IsUpto}
use Rattle.value.specs.declared.laid.Members.{Members}
use Rattle.value.specs.declared.store.Stop.{Stop}

-- The bytes x of an item with this walk were stored in o from at on, which gives o'.
pub record Put (o : List ℕ) (at : ℕ) (x : List ℕ) (w : Walked) (r : Stop) (o' : List ℕ) : Type 0 where
  pub stored : Stored o at x r.to o'
  pub word : r.end.word ≡ word_after w
  pub byte : r.end.byte ≡ byte_after w

-- n elements of fixed size are r bytes together. For fields, and for elements of variable size, which have an offset each, r is 0.
pub record Together (ts : Tys) (step n r : ℕ) : Type 0 where
  pub fixed : 0 < r → head_all ts ≡ Fixed r
  pub offsets : r ≤ 0 → step ≡ 0 → portion (heads ts) ≡ 4 * n

-- What storing these fields asks: elements have an offset each, their form is well, and there is room for them. So there is room for their
-- fixed portion, however many they are.
pub record Fields (l : List ℕ) (k : ℕ) (m : Members) (c b : List ℕ) (i j : ℕ) (o : List ℕ) (at : ℕ) : Type 0 where
  pub row : InRow l k m
  pub offsets : m.step ≡ 0 → portion (heads_in l m) ≡ 4 * m.many
  pub walk : IsUpto (walk_fields (types_in l m) c b i j)
  pub room : Room o at (join (parts_from (types_in l m) c b i j))
