-- What a walk without fault says, leaf by leaf. Assumes nothing.
use mathlib.Core.Path.{◌≡◌, refl, ap, ◌∙◌}
use mathlib.Core.List.{List}
use mathlib.Core.Bool.{Bool, true, false}
use Prim.Native.Nat.{ℕ, ◌+◌, ◌-◌, ◌/◌, ◌≤◌, ◌<◌, ◌^◌}
use native.Mathlib.Omega.{arith}
use borrow.Author.Tests.{leb-true, ltb-true}
use lib.ListN.{length, get_or}
use lib.Dec.{ltb, leb}
use Rattle.standard.specs.Choice.{pick}
use Rattle.standard.specs.Bytes.{Room}
use Rattle.standard.specs.Types.{number, boolean, fixed_bytes, free_bytes, bit_vector, bit_list, head}
use Rattle.standard.specs.declared.Head.TheVariants.{Variable}
use Rattle.standard.specs.declared.Refusal.{Refusal}
use Rattle.standard.specs.declared.Refusal.TheVariants.{BadValue}
use Rattle.layout.specs.Tree.{leaf_with, leaf_of}
use Rattle.layout.specs.declared.Kind.{Kind}
use Rattle.layout.specs.declared.Node.{Node}
use Rattle.message.specs.Read.{raw_bytes_lem}
use Rattle.value.specs.Walk.{Walked, upto, wrong, with_word, with_body, last_bits, walk_bits, walk_item}
use Rattle.value.specs.Write.{bytes_at, with_mark, write_item_lem}
use Rattle.value.specs.Steps.{IsUpto}
use Rattle.value.specs.Stores.{Put}
use Rattle.value.specs.declared.store.Stop.{Stop}
use Rattle.value.proofs.Walks.{length-bytes_at, length-with_mark}

-- A test that a walk passes.
pub test_upto : (q : Bool) (x : Walked) (r : Refusal) → IsUpto (pick q x (wrong r)) → (q ≡ true) × (pick q x (wrong r) ≡ x)
test_upto true x r h = (refl, refl)
test_upto false x r h = absurd h

pub body-upto : (b : List ℕ) (j n : ℕ) (x : Walked) → IsUpto (with_body b j n x) → (j + n ≤ length b) × (with_body b j n x ≡ x)
body-upto b j n x h = let p = test_upto (leb (j + n) (length b)) x (BadValue 1 (length b)) h in (leb-true _ _ p.0, p.1)

pub word-upto : (c : List ℕ) (i : ℕ) (ok : Bool) (x : Walked) → IsUpto (with_word c i ok x) → (i < length c) × (ok ≡ true) × (with_word c i ok x ≡ x)
word-upto c i ok x h =
    let p = test_upto (ltb i (length c)) (pick ok x (wrong (BadValue 0 i))) (BadValue 0 (length c)) h in
    let q = test_upto ok x (BadValue 0 i) (rw p.1 at h) in
    (ltb-true _ _ p.0, q.0, p.1 ∙ q.1)

-- The walk w and the bytes x are those of n bytes of the bodies from j on.
pub record PartForm (w : Walked) (x b : List ℕ) (m j n : ℕ) : Type 0 where
  pub walk : w ≡ upto m (j + n)
  pub write : x ≡ bytes_at b j n
  pub there : j + n ≤ length b

-- The same of a bit list of k bits
pub record ListForm (w : Walked) (x b : List ℕ) (m j k : ℕ) : Type 0 where
  pub walk : w ≡ upto m (j + raw_bytes_lem k)
  pub write : x ≡ with_mark b j k
  pub there : j + raw_bytes_lem k ≤ length b
  pub last : get_or b (j + raw_bytes_lem k - 1) 0 < 2 ^ last_bits k

pub bits-upto : (b : List ℕ) (k i j : ℕ) → IsUpto (walk_bits b k i j) →
    (walk_bits b k i j ≡ upto i (j + raw_bytes_lem k)) × (j + raw_bytes_lem k ≤ length b) × (get_or b (j + raw_bytes_lem k - 1) 0 < 2 ^ last_bits k)
bits-upto b k i j h =
    let x = pick (ltb (get_or b (j + raw_bytes_lem k - 1) 0) (2 ^ last_bits k)) (upto i (j + raw_bytes_lem k)) (wrong (BadValue 1 (j + raw_bytes_lem k - 1))) in
    let p = body-upto b j (raw_bytes_lem k) x h in
    let q = test_upto (ltb (get_or b (j + raw_bytes_lem k - 1) 0) (2 ^ last_bits k)) (upto i (j + raw_bytes_lem k)) (BadValue 1 (j + raw_bytes_lem k - 1)) (rw p.1 at h) in
    (p.1 ∙ q.1, p.0, ltb-true _ _ q.0)

module _ (t : ℕ) (c b : List ℕ) (i j : ℕ) where
  pub number-form : (w : ℕ) → IsUpto (walk_item (number t w) c b i j) → PartForm (walk_item (number t w) c b i j) (write_item_lem (number t w) c b i j) b i j w
  unfolding walk_item write_item_lem
  number-form w h = let p = body-upto b j w (upto i (j + w)) h in record { walk = p.1; write = refl; there = p.0 }

  pub fixed-form : (n : ℕ) → IsUpto (walk_item (fixed_bytes t n) c b i j) →
      PartForm (walk_item (fixed_bytes t n) c b i j) (write_item_lem (fixed_bytes t n) c b i j) b i j n
  unfolding walk_item write_item_lem
  fixed-form n h = let p = body-upto b j n (upto i (j + n)) h in record { walk = p.1; write = refl; there = p.0 }

  pub boolean-form : IsUpto (walk_item (boolean t) c b i j) →
      PartForm (walk_item (boolean t) c b i j) (write_item_lem (boolean t) c b i j) b i j 1 × (get_or b j 0 < 2)
  unfolding walk_item write_item_lem
  boolean-form h =
      let p = body-upto b j 1 (pick (ltb (get_or b j 0) 2) (upto i (j + 1)) (wrong (BadValue 1 j))) h in
      let q = test_upto (ltb (get_or b j 0) 2) (upto i (j + 1)) (BadValue 1 j) (rw p.1 at h) in
      (record { walk = p.1 ∙ q.1; write = refl; there = p.0 }, ltb-true _ _ q.0)

  pub free_form : (limit : ℕ) → IsUpto (walk_item (free_bytes t limit) c b i j) →
      PartForm (walk_item (free_bytes t limit) c b i j) (write_item_lem (free_bytes t limit) c b i j) b (i + 1) j (get_or c i 0) × (i < length c) × (get_or c i 0 ≤ limit)
  unfolding walk_item write_item_lem
  free_form limit h =
      let k = get_or c i 0 in
      let p = word-upto c i (leb k limit) (with_body b j k (upto (i + 1) (j + k))) h in
      let q = body-upto b j k (upto (i + 1) (j + k)) (rw p.2 at h) in
      (record { walk = p.2 ∙ q.1; write = refl; there = q.0 }, p.0, leb-true _ _ p.1)

  pub vector-form : (n : ℕ) → IsUpto (walk_item (bit_vector t n) c b i j) →
      PartForm (walk_item (bit_vector t n) c b i j) (write_item_lem (bit_vector t n) c b i j) b i j (raw_bytes_lem n) × (get_or b (j + raw_bytes_lem n - 1) 0 < 2 ^ last_bits n)
  unfolding walk_item write_item_lem
  vector-form n h = let p = bits-upto b n i j h in (record { walk = p.0; write = refl; there = p.1 }, p.2)

  pub list-form : (limit : ℕ) → IsUpto (walk_item (bit_list t limit) c b i j) →
      ListForm (walk_item (bit_list t limit) c b i j) (write_item_lem (bit_list t limit) c b i j) b (i + 1) j (get_or c i 0) × (i < length c) × (get_or c i 0 ≤ limit)
  unfolding walk_item write_item_lem
  list-form limit h =
      let k = get_or c i 0 in
      let p = word-upto c i (leb k limit) (walk_bits b k (i + 1) j) h in
      let q = bits-upto b k (i + 1) j (rw p.2 at h) in
      (record { walk = p.2 ∙ q.0; write = refl; there = q.1; last = q.2 }, p.0, leb-true _ _ p.1)

-- A leaf of variable size is free bytes or a bit list.
module _ (n : Node) (v : head (leaf_of 0 n) ≡ Variable) where
  leaf_list : (n.kind ≡ Kind.FreeBytes → ⊥) → leaf_of 0 n ≡ bit_list 0 n.second
  unfolding leaf_of head
  leaf_list = go n.kind v
    where
      go : (k : Kind) → head (leaf_with k 0 n.second) ≡ Variable → (k ≡ Kind.FreeBytes → ⊥) → leaf_with k 0 n.second ≡ bit_list 0 n.second
      go Kind.Number e z = absurd (cc)
      go Kind.Boolean e z = absurd (cc)
      go Kind.FixedBytes e z = absurd (cc)
      go Kind.FreeBytes e z = absurd (z refl)
      go Kind.BitVector e z = absurd (cc)
      go k e z = refl

  -- What its walk says
  module _ (c b : List ℕ) (i j : ℕ) (h : IsUpto (walk_item (leaf_of 0 n) c b i j)) where
    pub kind_free : n.kind ≡ Kind.FreeBytes →
        PartForm (walk_item (leaf_of 0 n) c b i j) (write_item_lem (leaf_of 0 n) c b i j) b (i + 1) j (get_or c i 0)
    unfolding leaf_of
    kind_free k = let p = free_form 0 c b i j n.second (rw k at h) in rw k p.0

    pub kind-bits : (n.kind ≡ Kind.FreeBytes → ⊥) →
        ListForm (walk_item (leaf_of 0 n) c b i j) (write_item_lem (leaf_of 0 n) c b i j) b (i + 1) j (get_or c i 0)
    kind-bits z = let e = leaf_list z in let p = list-form 0 c b i j n.second (rw e at h) in rw e p.0

    pub kind-word : i < length c
    unfolding leaf_of head
    kind-word = go n.kind v h
      where
        go : (k : Kind) → head (leaf_with k 0 n.second) ≡ Variable → IsUpto (walk_item (leaf_with k 0 n.second) c b i j) → i < length c
        go Kind.Number e u = absurd (cc)
        go Kind.Boolean e u = absurd (cc)
        go Kind.FixedBytes e u = absurd (cc)
        go Kind.FreeBytes e u = (free_form 0 c b i j n.second u).1
        go Kind.BitVector e u = absurd (cc)
        go k e u = (list-form 0 c b i j n.second u).1

-- What storing body bytes, or a bit list, asks and gives.
module _ {w : Walked} {x b : List ℕ} {m j n : ℕ} {o : List ℕ} {at : ℕ} where
  pub part_need : PartForm w x b m j n → Room o at x → (j + n ≤ length b) × (at + n ≤ length o)
  part_need f g =
      let e : length x ≡ n = ap length f.write ∙ length-bytes_at b j n f.there in
      (f.there, omega (arith, g.room))

  pub part-done : PartForm w x b m j n → {r : Stop} {o' : List ℕ} → Put o at (bytes_at b j n) (upto m (j + n)) r o' → Put o at x w r o'
  part-done f p = rw (f.walk, f.write) p

  pub list_need_lem : ListForm w x b m j n → Room o at x →
      (j + raw_bytes_lem n ≤ length b) × (get_or b (j + raw_bytes_lem n - 1) 0 < 2 ^ last_bits n) × (at + (n / 8 + 1) ≤ length o)
  list_need_lem f g =
      let e : length x ≡ n / 8 + 1 = ap length f.write ∙ length-with_mark b j n f.there in
      (f.there, f.last, omega (arith, g.room))

  pub list_done : ListForm w x b m j n → {r : Stop} {o' : List ℕ} → Put o at (with_mark b j n) (upto m (j + raw_bytes_lem n)) r o' → Put o at x w r o'
  list_done f p = rw (f.walk, f.write) p
