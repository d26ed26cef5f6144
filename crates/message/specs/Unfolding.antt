-- What the steps of unfolding ask and give, one to another. Assumes nothing: these are definitions.
use Rattle.std.specs.Prelude.{ℕ, ◌≤◌, ◌≡◌, List, ◌++◌}
use Rattle.standard.specs.Types.{heads}
use Rattle.standard.specs.Parts.{InRange}
use Rattle.message.specs.Unfold.{words_fields, bytes_fields, AcceptsAll, Rooms, Filled}
use Rattle.message.specs.Steps.{Row, types_of}
use Rattle.message.specs.declared.parts.Series.{Series}
use Rattle.message.specs.declared.unfolding.Place.{Place}

-- The words x and the bytes y are being stored from the place at₀ on, up to `at`. What was stored and what the fields or elements r give that are
-- left are x and y. They are of types below t, and the first's head is at the position q of b.
pub record Filling (lens l : List ℕ) (t : ℕ) (b x y o₀ p₀ : List ℕ) (at₀ : Place) (o p : List ℕ) (at : Place) (r : Series) (q : ℕ) : Type 0 where
  pub below : r.below ≤ t
  pub row : Row lens l r.below r.first r.step r.many
  pub ranges : InRange (heads (types_of l r)) b q 0
  pub accepted : AcceptsAll (types_of l r) b q
  pub rooms : Rooms o p at (words_fields (types_of l r) b q) (bytes_fields (types_of l r) b q)
  pub words : List ℕ
  pub bytes : List ℕ
  pub filled : Filled o₀ p₀ at₀ words bytes at o p
  pub all_words : x ≡ words ++ words_fields (types_of l r) b q
  pub all-bytes : y ≡ bytes ++ bytes_fields (types_of l r) b q
