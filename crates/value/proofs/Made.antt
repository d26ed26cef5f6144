-- An item of a type with lower types, by what it is made of: what storing it asks and gives, and what is measured of it. Assumes nothing.
use mathlib.Core.Path.{◌≡◌, ◌∙◌}
use mathlib.Core.List.{List, [], ◌∷◌}
use Prim.Native.Nat.{ℕ, ◌+◌, ◌≤◌, ◌<◌, ◌^◌}
use lib.ListN.{get_or}
use Rattle.standard.specs.Bytes.{Room}
use Rattle.standard.proofs.Store.{room_then}
use Rattle.layout.specs.Tree.{tree_of}
use Rattle.layout.specs.Steps.{Known}
use Rattle.value.specs.Walk.{upto, with_body, walk_item}
use Rattle.value.specs.Write.{write_item_lem}
use Rattle.value.specs.Steps.{InRow, measured, measured_item, types_in, IsUpto, AsRow, LaidAs, AllPlain}
use Rattle.value.specs.Stores.{Put, Together, Fields}
use Rattle.value.specs.declared.laid.Laid.{Laid}
use Rattle.value.specs.declared.laid.Members.{Members}
use Rattle.value.specs.declared.measure.Mark.{Mark}
use Rattle.value.specs.declared.store.Stop.{Stop}
use Rattle.value.proofs.Leaves.{PartForm}
use Rattle.value.proofs.Rows.{row-known}
use Rattle.value.proofs.Fixed.{row-part, legal-row}
use Rattle.std.specs.declared.result.Result.{Result}
use Rattle.std.specs.declared.result.Result.TheVariants.{Ok}
use Rattle.standard.specs.declared.Refusal.{Refusal}

module _ (l : List ℕ) (t : ℕ) (c : List ℕ) (i : ℕ) where
  pub laid-below : (made : Laid) → LaidAs l t c i (Ok made) → (f : ℕ) → made ≡ Laid.Body f → f < t
  laid-below made d f e = let g : LaidAs l t c i (Ok (Laid.Body f)) = rw e at d in g.0

  -- A row of fields or elements, in a table of k types
  pub laid-row : (made : Laid) → LaidAs l t c i (Ok made) → (m : Members) (p : ℕ) → made ≡ Laid.Row m p → (k : ℕ) → t < k →
      InRow l k m × (m.of ≡ t) × (m.many < 2 ^ 32)
  laid-row made d m p e k h = let g : AsRow l t c i m p = rw e at d in (g.row k h, g.own, g.small)

  pub row_ready : (b : List ℕ) (j : ℕ) (o : List ℕ) (at : ℕ) (made : Laid) → LaidAs l t c i (Ok made) → (m : Members) (p : ℕ) → made ≡ Laid.Row m p →
      (q : ℕ) → t < q → (k : ℕ) → Together (types_in l m) m.step m.many k → k ≤ 0 → IsUpto (walk_item (tree_of l t) c b i j) →
      Room o at (write_item_lem (tree_of l t) c b i j) → Fields l q m c b p j o at
  row_ready b j o at made d m p e q y k f z u r =
      let g : AsRow l t c i m p = rw e at d in
      record { row = g.row q y; offsets = f.offsets z; walk = rw (g.walk b j) at u; room = rw (g.write b j) at r }

  -- The body of a union, behind its selector
  pub body_ready : (b : List ℕ) (j : ℕ) (o : List ℕ) (at : ℕ) (made : Laid) → LaidAs l t c i (Ok made) → (f : ℕ) → made ≡ Laid.Body f →
      (s : Stop) (o₁ : List ℕ) → Put o at (get_or c i 0 ∷ []) (upto (i + 1) j) s o₁ →
      IsUpto (walk_item (tree_of l t) c b i j) → Room o at (write_item_lem (tree_of l t) c b i j) →
      IsUpto (walk_item (tree_of l f) c b s.end.word s.end.byte) × Room o₁ s.to (write_item_lem (tree_of l f) c b s.end.word s.end.byte)
  body_ready b j o at made d f e s o₁ p u m =
      let g : LaidAs l t c i (Ok (Laid.Body f)) = rw e at d in
      rw (p.word, p.byte) (rw (g.1.walk b j) at u, room_then o at _ (get_or c i 0 ∷ []) _ s.to o₁ m (g.1.write b j) p.stored)

  -- A row of fields that are all numbers or fixed bytes is measured as its bytes,
  pub plain-measured : (b : List ℕ) (j : ℕ) (made : Laid) → LaidAs l t c i (Ok made) → (m : Members) (p : ℕ) → made ≡ Laid.Row m p → (k : ℕ) →
      AllPlain (types_in l m) k → (r : Result Mark Refusal) → r ≡ measured (with_body b j k (upto p (j + k))) k →
      r ≡ measured_item (tree_of l t) c b i j
  unfolding AllPlain
  plain-measured b j made d m p e k f r q = let g : AsRow l t c i m p = rw e at d in rw (g.walk b j, g.write b j) (q ∙ f c b p j)

  -- and one whose fields are all of fixed size is its body bytes.
  pub row-all : (b : List ℕ) (j : ℕ) (made : Laid) → LaidAs l t c i (Ok made) → (m : Members) (p : ℕ) → made ≡ Laid.Row m p → (lens : List ℕ) (q : ℕ) →
      Known lens l q → t < q → IsUpto (walk_item (tree_of l t) c b i j) → (k : ℕ) → 0 < k → Together (types_in l m) m.step m.many k →
      PartForm (walk_item (tree_of l t) c b i j) (write_item_lem (tree_of l t) c b i j) b p j k
  row-all b j made d m p e lens q y r h k z f =
      let g : AsRow l t c i m p = rw e at d in
      let x = row-part (types_in l m) c b p j k (legal-row lens l m.of m.first m.step m.many (row-known lens l q m y (g.row q r))) (f.fixed z) z (rw (g.walk b j) at h) in
      record { walk = g.walk b j ∙ x.walk; write = g.write b j ∙ x.write; there = x.there }
