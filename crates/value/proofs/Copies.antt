-- The forms of elements are walked and written as those of fields of one type. Assumes nothing.
use mathlib.Core.Path.{◌≡◌, refl, ap}
use mathlib.Core.List.{List, ◌∷◌}
use Prim.Native.Nat.{ℕ, zero, suc}
use Rattle.standard.specs.Types.{Ty, head}
use Rattle.standard.specs.Parts.{Part, piece}
use Rattle.standard.proofs.Elements.{copies}
use Rattle.value.specs.Walk.{Walked, upto, wrong, onward, walk_each, walk_item, walk_fields}
use Rattle.value.specs.Write.{word_after, byte_after, parts_each, write_item_lem, parts_from}

onward-same : (w : Walked) (f g : ℕ → ℕ → Walked) → ((m n : ℕ) → f m n ≡ g m n) → onward w f ≡ onward w g
onward-same (upto m n) f g h = h m n
onward-same (wrong r) f g h = refl

module _ (e : Ty) (c b : List ℕ) where
  pub walk-copies : (n i j : ℕ) → walk_each (λ (m k : ℕ). walk_item e c b m k) n i j ≡ walk_fields (copies e n) c b i j
  unfolding walk_each walk_item
  walk-copies zero i j = refl
  walk-copies (suc n) i j = onward-same (walk_item e c b i j) _ _ (λ m k. walk-copies n m k)

  pub parts-copies : (n i j : ℕ) →
      parts_each (head e) (λ (m k : ℕ). walk_item e c b m k) (λ (m k : ℕ). write_item_lem e c b m k) n i j ≡ parts_from (copies e n) c b i j
  unfolding parts_each write_item_lem
  parts-copies zero i j = refl
  parts-copies (suc n) i j =
      ap (λ (xs : List Part). piece (head e) (write_item_lem e c b i j) ∷ xs)
      (parts-copies n (word_after (walk_item e c b i j)) (byte_after (walk_item e c b i j)))
