-- The value form of a leaf: bytes copied one by one, and bits without their mark. Assumes nothing.
use mathlib.Core.Path.{◌≡◌, refl, sym, ap, ◌∙◌}
use mathlib.Core.List.{List, [], ◌∷◌, ◌++◌}
use Prim.Native.Nat.{ℕ, suc, ◌+◌, ◌-◌, ◌*◌, ◌/◌, ◌%◌, ◌≤◌, ◌<◌, ◌^◌, max}
use native.Mathlib.Omega.{arith}
use lib.ListN.{length, get_or, take, drop, length-append, length-take, take-append-drop}
use lib.Seq.{length-sets, drop-cons, drop-length}
use lib.Pow.{pow-add}
use lib.Pow as Pow
use Rattle.standard.specs.Bytes.{Bytes, le, num, Stored, Room}
use Rattle.standard.specs.Types.{free_bytes, bit_list, head}
use Rattle.standard.specs.declared.Head.TheVariants.{Fixed, Variable}
use Rattle.standard.specs.declared.Refusal.{Refusal}
use Rattle.standard.proofs.Bytes.{bytes_take, bytes-append, le-num}
use Rattle.standard.proofs.Bits.{bits_of, packs-le, length-packs, length-bits_of, bit_num-low, bit_num-bound, length_marked, num-marked, num-append, pow_bytes}
use Rattle.standard.proofs.Store.{stored-none}
use Rattle.bitfield.specs.Body.{bit_list_body}
use Rattle.bitfield.proofs.Bodies.{cut_below, below-cut}
use Rattle.bitfield.proofs.Standard.{list-sound}
use Rattle.bitfield.proofs.Tops.{byte_at}
use Rattle.layout.specs.Tree.{leaf_with, leaf_of}
use Rattle.layout.specs.declared.Node.{Node}
use Rattle.message.specs.Read.{raw_bytes_lem, read_item}
use Rattle.message.specs.Unfold.{raw_of, unfold_words, unfold_bytes, Accepts, Rooms, Filled, MarkedAt}
use Rattle.message.specs.declared.unfolding.Place.{Place}
use Rattle.std.specs.declared.result.Result.TheVariants.{Ok, Err}
use Rattle.layout.specs.declared.Kind.{Kind}

pub stored-length : (o : List ℕ) (at : ℕ) (x : List ℕ) (r : ℕ) (o' : List ℕ) → Stored o at x r o' → length o' ≡ length o
stored-length o at x r o' g = ap length g.list ∙ length-sets o at x

-- Raw bytes: what they are in numbers
pub length-raw : (b : List ℕ) (k : ℕ) → length (raw_of b k) ≡ max 1 ((k + 7) / 8)
unfolding raw_of
length-raw b k = length-packs (raw_bytes_lem k) (bits_of k (num b))

raw-rest : (n z y v p : ℕ) → v ≡ n + p * (z + y) → v - p * z ≡ n + p * y
raw-rest n z y v p e = omega arith

module _ (b : List ℕ) (k : ℕ) (h : Bytes b) (m : MarkedAt b k) where
  raw-cut : b ≡ take (k / 8) b ++ (get_or b (k / 8) 0 ∷ [])
  raw-cut =
      let e : k / 8 < length b = omega (arith, m.long) in
      let f : suc (k / 8) ≡ length b = omega (arith, m.long) in
      sym (take-append-drop (k / 8) b) ∙ rw (drop-cons b (k / 8) 0 e, f, drop-length)

  raw-split : num b ≡ num (take (k / 8) b) + 256 ^ (k / 8) * get_or b (k / 8) 0
  unfolding num
  raw-split =
      let l : length (take (k / 8) b) ≡ k / 8 = rw length-take (omega (arith, m.long)) in
      ap num raw-cut ∙ rw (num-append, l) (omega arith)

  raw_power : 2 ^ k ≡ 256 ^ (k / 8) * 2 ^ (k % 8)
  raw_power =
      let e : k ≡ 8 * (k / 8) + k % 8 = omega arith in
      ap (λ (i : ℕ). 2 ^ i) e ∙ rw (pow-add 2 (8 * (k / 8)) (k % 8), pow_bytes (k / 8))

  raw-drop : num (drop (k / 8) b) ≡ get_or b (k / 8) 0
  unfolding num
  raw-drop =
      let e : k / 8 < length b = omega (arith, m.long) in
      let f : suc (k / 8) ≡ length b = omega (arith, m.long) in
      let d : drop (k / 8) b ≡ get_or b (k / 8) 0 ∷ [] = rw (drop-cons b (k / 8) 0 e, f, drop-length) in
      ap num d ∙ omega arith

  -- the mark is the highest bit of the last byte
  pub last-from : 2 ^ (k % 8) ≤ get_or b (k / 8) 0
  last-from =
      let e : 8 * (k / 8) + k % 8 ≡ k = omega arith in
      let no : get_or b (k / 8) 0 < 2 ^ (k % 8) → ⊥ = λ (i : get_or b (k / 8) 0 < 2 ^ (k % 8)).
      let c = rw e at (below-cut b (k / 8) (k % 8) h (omega (arith, m.long)) (rw raw-drop i)) in
      omega (arith, m.from) in
      omega arith

  pub last-to : get_or b (k / 8) 0 < 2 ^ suc (k % 8)
  last-to =
      let e : suc k ≡ 8 * (k / 8) + suc (k % 8) = omega arith in
      rw raw-drop at (cut_below b (k / 8) (suc (k % 8)) h (omega (arith, m.long)) (rw e at m.to))

  raw-number : raw_of b k ≡ le (raw_bytes_lem k) (num b - 2 ^ k)
  unfolding raw_of
  raw-number =
      let s : num b - 2 ^ k < 2 ^ k = omega (arith, m.to, m.from) in
      let e : num b ≡ 1 * 2 ^ k + (num b - 2 ^ k) = omega (arith, m.from) in
      let f : num b % 2 ^ k ≡ num b - 2 ^ k = ap (λ (i : ℕ). i % 2 ^ k) e ∙ Pow.low 1 k s in
      rw (packs-le, bit_num-low, f)

  raw-less : num b - 2 ^ k ≡ num (take (k / 8) b) + 256 ^ (k / 8) * (get_or b (k / 8) 0 - 2 ^ (k % 8))
  raw-less =
      let e : get_or b (k / 8) 0 ≡ 2 ^ (k % 8) + (get_or b (k / 8) 0 - 2 ^ (k % 8)) = omega (arith, last-from) in
      let f : num b ≡ num (take (k / 8) b) + 256 ^ (k / 8) * (2 ^ (k % 8) + (get_or b (k / 8) 0 - 2 ^ (k % 8))) =
      raw-split ∙ ap (λ (i : ℕ). num (take (k / 8) b) + 256 ^ (k / 8) * i) e in
      ap (λ (i : ℕ). num b - i) raw_power ∙ raw-rest _ _ _ _ _ f

  -- the last byte has bits beside the mark, or is the only one
  pub raw-long : raw_bytes_lem k ≡ k / 8 + 1 → raw_of b k ≡ take (k / 8) b ++ ((get_or b (k / 8) 0 - 2 ^ (k % 8)) ∷ [])
  unfolding num Bytes
  raw-long z =
      let x = get_or b (k / 8) 0 - 2 ^ (k % 8) in
      let c = take (k / 8) b ++ (x ∷ []) in
      let l : length (take (k / 8) b) ≡ k / 8 = rw length-take (omega (arith, m.long)) in
      let i : length c ≡ raw_bytes_lem k = rw (length-append, l) (omega arith) in
      let n : num c ≡ num b - 2 ^ k = rw (num-append, l, raw-less) (omega arith) in
      let y : Bytes (x ∷ []) = (omega (arith, byte_at b (k / 8) h), tt) in
      let s : Bytes c = bytes-append (take (k / 8) b) (x ∷ []) (bytes_take (k / 8) b h) y in
      raw-number ∙ rw (← n, ← i) (le-num c s)

  -- the last byte is the mark alone
  pub raw-short : k % 8 ≡ 0 → (k / 8 ≡ 0 → ⊥) → raw_of b k ≡ take (k / 8) b
  raw-short z y =
      let l : length (take (k / 8) b) ≡ k / 8 = rw length-take (omega (arith, m.long)) in
      let i : length (take (k / 8) b) ≡ raw_bytes_lem k = omega arith in
      let f = rw z at last-from in
      let t = rw z at last-to in
      let x : get_or b (k / 8) 0 ≡ 1 = omega arith in
      let p : 2 ^ k ≡ 256 ^ (k / 8) * 1 = raw_power ∙ rw z in
      let n : num (take (k / 8) b) ≡ num b - 2 ^ k = omega (arith, p, rw x at raw-split) in
      raw-number ∙ rw (← n, ← i) (le-num (take (k / 8) b) (bytes_take (k / 8) b h))

-- How much room the last byte needs
pub raw-odd : (k : ℕ) → (k % 8 ≡ 0 → ⊥) → raw_bytes_lem k ≡ k / 8 + 1
raw-odd k h = omega arith

pub raw-single : (k : ℕ) → k / 8 ≡ 0 → raw_bytes_lem k ≡ k / 8 + 1
raw-single k h = omega arith

pub raw-room : (b : List ℕ) (k : ℕ) (o : List ℕ) (at : ℕ) → MarkedAt b k → Room o at (raw_of b k) → Room o at (take (k / 8) b)
raw-room b k o at m g =
    let l : length (take (k / 8) b) ≡ k / 8 = rw length-take (omega (arith, m.long)) in
    record { room = omega (arith, length-raw b k, g.room) }

pub raw-place :
    (b : List ℕ) (k : ℕ) (o : List ℕ) (at r : ℕ) (o' : List ℕ) → MarkedAt b k → Room o at (raw_of b k) → raw_bytes_lem k ≡ k / 8 + 1
    → Stored o at (take (k / 8) b) r o' → r < length o'
raw-place b k o at r o' m g e h =
    let l : length (take (k / 8) b) ≡ k / 8 = rw length-take (omega (arith, m.long)) in
    omega (arith, length-raw b k, g.room, h.ends, stored-length o at (take (k / 8) b) r o' h)

pub marked-at : (b : List ℕ) (limit k : ℕ) → Bytes b → bit_list_body b limit ≡ Ok k → MarkedAt b k × (k ≤ limit)
marked-at b limit k h e =
    let q = list-sound b limit k h e in
    let bs = bits_of k (num b) in
    let l : length bs ≡ k = length-bits_of k (num b) in
    let n = rw (l, q.0) at (num-marked bs) in
    let s = rw l at (bit_num-bound bs) in (
      record {
        long = rw (l, q.0) at (length_marked bs);
        from = omega arith;
        to = omega arith;
      },
      q.1,
    )

-- The leaves, by their kind
pub leaf_free : (t : ℕ) (n : Node) → n.kind ≡ Kind.FreeBytes → leaf_of t n ≡ free_bytes t n.second
unfolding leaf_of
leaf_free t n e = rw e

-- what is of variable size and no free bytes
pub variable_bits : (t : ℕ) (n : Node) → head (leaf_of t n) ≡ Variable → (n.kind ≡ Kind.FreeBytes → ⊥) → leaf_of t n ≡ bit_list t n.second
unfolding leaf_of head
variable_bits t n h f = go n.kind h f
  where
    no : {A : Type 0} (k : ℕ) → Fixed k ≡ Variable → A
    no k e = cc

    go : (i : Kind) → head (leaf_with i t n.second) ≡ Variable → (i ≡ Kind.FreeBytes → ⊥) → leaf_with i t n.second ≡ bit_list t n.second
    go Kind.Number h f = no _ h
    go Kind.Boolean h f = no _ h
    go Kind.FixedBytes h f = no _ h
    go Kind.FreeBytes h f = absurd (f refl)
    go Kind.BitVector h f = no _ h
    go i h f = refl

-- A body that is refused is not accepted.
pub bits_refused : (t limit : ℕ) (b : List ℕ) (r : Refusal) → Err r ≡ bit_list_body b limit → Accepts (bit_list t limit) b → ⊥
unfolding read_item
bits_refused t limit b r e g = rw (← e) at g.accepted

-- Where there are no words x, and the bytes y are b
module _ (x y b : List ℕ) (e : (x ≡ []) × (y ≡ b)) (o p : List ℕ) (at : Place) where
  pub bytes-room : Rooms o p at x y → Room p at.byte b
  bytes-room g = rw e.1 at g.bytes

  pub bytes-filled : (r : Place) (p' : List ℕ) → Stored p at.byte b r.byte p' → r.word ≡ at.word → Filled o p at x y r o p'
  bytes-filled r p' g q = record { words = rw q (stored-none o at.word x e.0); bytes = rw e.1 g }

-- A leaf's room and what is stored there, by its kind
module _ (t : ℕ) (n : Node) (b o p : List ℕ) (at : Place) where
  module _ (k : n.kind ≡ Kind.FreeBytes) where
    pub free_rooms : Rooms o p at (unfold_words (leaf_of t n) b) (unfold_bytes (leaf_of t n) b) → Rooms o p at (length b ∷ []) b
    unfolding unfold_words unfold_bytes
    free_rooms g = rw (leaf_free t n k) at g

    pub free_filled : (r : Place) (o' p' : List ℕ) → Filled o p at (length b ∷ []) b r o' p' →
        Filled o p at (unfold_words (leaf_of t n) b) (unfold_bytes (leaf_of t n) b) r o' p'
    unfolding unfold_words unfold_bytes
    free_filled r o' p' g = rw (leaf_free t n k) g

  module _ (k : leaf_of t n ≡ bit_list t n.second) (c : ℕ) (e : Ok c ≡ bit_list_body b n.second) where
    pub bits-rooms : Rooms o p at (unfold_words (leaf_of t n) b) (unfold_bytes (leaf_of t n) b) → Rooms o p at (c ∷ []) (raw_of b c)
    unfolding unfold_words unfold_bytes
    bits-rooms g = rw (k, ← e) at g

    pub bits-filled : (r : Place) (o' p' : List ℕ) → Filled o p at (c ∷ []) (raw_of b c) r o' p' →
        Filled o p at (unfold_words (leaf_of t n) b) (unfold_bytes (leaf_of t n) b) r o' p'
    unfolding unfold_words unfold_bytes
    bits-filled r o' p' g = rw (k, ← e) g

pub bits-never : {A : Type 0} (t : ℕ) (n : Node) (b : List ℕ) → leaf_of t n ≡ bit_list t n.second → (r : Refusal) → Err r ≡ bit_list_body b n.second →
    Accepts (leaf_of t n) b → A
bits-never t n b k r e g = absurd (bits_refused t n.second b r e (rw k at g))
