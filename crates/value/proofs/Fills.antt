-- Bytes stored one after another, and fields stored at two places: heads in the fixed portion, bodies behind it. Assumes nothing.
use mathlib.Core.Path.{◌≡◌, refl, sym, ap, ◌∙◌}
use mathlib.Core.Bool.{true}
use mathlib.Core.List.{List, [], ◌∷◌, ◌++◌, append-nil}
use Prim.Native.Nat.{ℕ, suc, ◌+◌, ◌-◌, ◌*◌, ◌/◌, ◌%◌, ◌≤◌, ◌<◌, ◌^◌}
use native.Mathlib.Nat.{zero-add, div-eq_of_lt}
use native.Mathlib.Omega.{arith}
use lib.ListN.{length, get_or, take, drop, set, length-append, length-take, length-drop, drop_of_length-le}
use lib.Bits.{bit_or}
use lib.Dec.{eqb}
use lib.Seq.{sets, sets-eq, length-sets, set_comm}
use borrow.Rule.Slice.PartMut.{put_mid}
use Rattle.standard.specs.Choice.{pick}
use Rattle.standard.specs.Bytes.{Stored, Room, le, word_at}
use Rattle.standard.specs.Types.{Ty, head, width, portion}
use Rattle.standard.specs.Parts.{Part, piece, fixed_lengths, fronts, backs, join}
use Rattle.standard.specs.declared.Head.TheVariants.{Fixed, Variable}
use Rattle.standard.proofs.Bytes.{length-le}
use Rattle.standard.proofs.Store.{sets-append, part_sets}
use Rattle.standard.proofs.Join.{length-fronts, length-join}
use Rattle.bitfield.proofs.Places.{bit-on, one_shifted}
use Rattle.layout.specs.Tree.{node_of, leaf_of, tree_of, head_of}
use Rattle.layout.specs.Kinds.{is_leaf}
use Rattle.layout.specs.declared.Node.{Node}
use Rattle.layout.proofs.Facts.{as_leaf}
use Rattle.layout.proofs.Trees.{legal_tree}
use Rattle.message.specs.Read.{raw_bytes_lem}
use Rattle.message.specs.Steps.{Under, Row, row_of, heads_of}
use Rattle.message.proofs.Rows.{len_head, row_under, row_next, row-head, row-heads, row-fixed, row_variable, heads-none}
use Rattle.value.specs.Walk.{Walked, upto, walk_item, walk_fields}
use Rattle.value.specs.Write.{word_after, byte_after, bytes_at, with_mark, write_item_lem, parts_from}
use Rattle.value.specs.Steps.{types_in, heads_in, IsUpto}
use Rattle.value.specs.declared.laid.Members.{Members}
use Rattle.value.specs.Stores.{Put, Fields}
use Rattle.value.specs.declared.store.Stop.{Stop}
use Rattle.value.proofs.Walks.{length-bytes_at}
use Rattle.value.proofs.Leaves.{PartForm, part_need, part-done}
use Rattle.value.proofs.Unions.{leaf-walk, leaf-write}
use Rattle.layout.specs.Steps.{Known}
use Rattle.value.proofs.Rows.{row-known, fields-walk, fields-parts, none_walk, none-parts}
use Rattle.value.proofs.Fixed.{onward-first, item-part, row-portion}

-- n bytes of the bodies.
-- An offset, stored in the four bytes that are cut out for it.
pub offset-stored : (o : List ℕ) (at k x : ℕ) (s : List ℕ) → k ≡ 4 → s ≡ sets (take k (drop at o)) 0 (le 4 x) → at + 4 ≤ length o →
    put_mid at k o s ≡ sets o at (le 4 x)
offset-stored o at k x s h e r =
    let y = le 4 x in
    let l = take k (drop at o) in
    let n = length-le 4 x in
    let m : length l ≡ 4 = simp (length-take, length-drop) (omega arith) in
    let d : length l ≤ 0 + length y = omega arith in
    let w : sets l 0 y ≡ y = sets-eq y l 0 (omega arith) ∙ rw (drop_of_length-le l d) (append-nil y) in
    part_sets o s y at k (e ∙ w) (omega arith) (omega arith)

-- A bit list: its full bytes, then the byte with the mark.
pub list-stored : (o : List ℕ) (at : ℕ) (b : List ℕ) (i j k x : ℕ) (o₁ : List ℕ) (raw : ℕ) → j + raw_bytes_lem k ≤ length b →
    o₁ ≡ sets o at (take (j + k / 8 - j) (drop j b)) → x ≡ pick (eqb (k % 8) 0) 1 (get_or b (j + k / 8) 0 + 2 ^ (k % 8)) → raw ≡ raw_bytes_lem k →
    Put o at (with_mark b j k) (upto i (j + raw_bytes_lem k)) (record { end = record { word = i; byte = j + raw }; to = at + k / 8 + 1 }) (set o₁ (at + k / 8) x)
list-stored o at b i j k x o₁ raw h e y f =
    let m : bytes_at b j (k / 8) ++ (x ∷ []) ≡ with_mark b j k = ap (λ (v : ℕ). bytes_at b j (k / 8) ++ (v ∷ [])) y in
    let q : j + k / 8 - j ≡ k / 8 = omega arith in
    let n : length (bytes_at b j (k / 8)) ≡ k / 8 = length-bytes_at b j (k / 8) (omega arith) in
    let s : set o₁ (at + k / 8) x ≡ sets o at (bytes_at b j (k / 8) ++ (x ∷ [])) =
    rw (e, q) (rw n at (sets-append (bytes_at b j (k / 8)) (x ∷ []) o at)) in
    record {
      stored = record { list = s ∙ ap (sets o at) m; ends = rw (← m) (simp length-append (omega (arith, n))) };
      word = refl;
      byte = ap (λ (v : ℕ). j + v) f;
    }

-- The mark set in a byte that has no bit there or above.
pub mark_set : (x r : ℕ) → x < 2 ^ r → r < 8 → bit_or x ((1 * 2 ^ r) % 256) ≡ x + 2 ^ r
mark_set x r h k =
    let z : x / 2 ^ r ≡ 0 = div-eq_of_lt h in
    rw (one_shifted r k) (omega (arith, rw z at (bit-on x r)))

-- Stores at places apart can change places.
set-sets : (ys l : List ℕ) (i k x : ℕ) → i < k → set (sets l k ys) i x ≡ sets (set l i x) k ys
set-sets [] l i k x h = refl
set-sets (y ∷ ys) l i k x h =
    set-sets ys (set l k y) i (suc k) x (omega arith)
    ∙ ap (λ (v : List ℕ). sets v (suc k) ys) (set_comm l k i y x (λ (e : k ≡ i). omega arith))

pub sets-apart : (xs ys l : List ℕ) (i k : ℕ) → i + length xs ≤ k → sets (sets l k ys) i xs ≡ sets (sets l i xs) k ys
sets-apart [] ys l i k h = refl
sets-apart (x ∷ xs) ys l i k h = rw (set-sets ys l i k x (omega arith)) (sets-apart xs ys (set l i x) (suc i) k (omega arith))

-- The parts xs are to be stored in o, the heads from p on, the bodies of variable size from q on: this gives z, which ends at e.
pub record Two (xs : List Part) (o : List ℕ) (p q start own e : ℕ) (z : List ℕ) : Type 0 where
  pub heads : p + fixed_lengths xs ≡ start + own
  pub tails : q + length (backs xs) ≡ e
  pub apart : start + own ≤ q
  pub rest : sets (sets o p (fronts xs (q - start))) q (backs xs) ≡ z

pub two-start : (xs : List Part) (o : List ℕ) (start own : ℕ) → own ≡ fixed_lengths xs →
    Two xs o start (start + own) start own (start + length (join xs)) (sets o start (join xs))
unfolding join
two-start xs o start own f =
    let d : start + own - start ≡ fixed_lengths xs = omega arith in
    let k : start + own ≡ start + length (fronts xs (fixed_lengths xs)) = omega (arith, length-fronts xs (fixed_lengths xs)) in
    record {
      heads = omega (arith, f);
      tails = omega (arith, length-join xs, f);
      apart = omega arith;
      rest = rw (d, k) (sets-append (fronts xs (fixed_lengths xs)) (backs xs) o start);
    }

module _ (x : List ℕ) (ys : List Part) (o : List ℕ) (p q start own e : ℕ) (z : List ℕ) where
  two-fixed : (m : ℕ) → Two (piece (Fixed m) x ∷ ys) o p q start own e z → (o₂ : List ℕ) (to : ℕ) → Stored o p x to o₂ → Two ys o₂ to q start own e z
  unfolding fronts backs fixed_lengths
  two-fixed m g o₂ to s =
      record {
        heads = omega (arith, g.heads, s.ends);
        tails = g.tails;
        apart = g.apart;
        rest = rw (s.list, s.ends, sets-append x (fronts ys (q - start)) o p) g.rest;
      }

  two_variable : Two (piece Variable x ∷ ys) o p q start own e z → (o₂ : List ℕ) (to : ℕ) → Stored (sets o p (le 4 (q - start))) q x to o₂ →
      Two ys o₂ (p + 4) to start own e z
  unfolding fronts backs fixed_lengths
  two_variable g o₂ to s =
      let d : q + length x - start ≡ q - start + length x = omega (arith, g.apart) in
      let fr = fronts ys (q - start + length x) in
      let k : length fr ≡ fixed_lengths ys = length-fronts ys (q - start + length x) in
      let a = sets-apart fr x (sets o p (le 4 (q - start))) (p + 4) q (omega (arith, g.heads, g.apart, k)) in
      let y = sets-append (le 4 (q - start)) fr o p in
      record {
        heads = omega (arith, g.heads);
        tails = omega (arith, s.ends, simp length-append at g.tails);
        apart = omega (arith, g.apart, s.ends);
        rest =
            rw (s.list, s.ends, d, a, sets-append x (backs ys))
            (rw (length-le 4 (q - start)) at (ap (λ (v : List ℕ). sets v q (x ++ backs ys)) y) ∙ g.rest);
      }

  -- Room for a fixed part, for an offset, and for a part of variable size
  pub room-fixed : (m : ℕ) → Two (piece (Fixed m) x ∷ ys) o p q start own e z → e ≤ length o → Room o p x
  unfolding fixed_lengths backs
  room-fixed m g l = record { room = omega (arith, g.heads, g.tails, g.apart) }

  pub room_offset : Two (piece Variable x ∷ ys) o p q start own e z → e ≤ length o → p + 4 ≤ length o
  unfolding fixed_lengths
  room_offset g l = omega (arith, g.heads, g.tails, g.apart)

  pub room_variable : Two (piece Variable x ∷ ys) o p q start own e z → e ≤ length o → (o₁ : List ℕ) → length o₁ ≡ length o → Room o₁ q x
  unfolding backs
  room_variable g l o₁ d = record { room = rw d (omega (arith, simp length-append at g.tails)) }

pub two-end : (o : List ℕ) (p q start own e : ℕ) (z : List ℕ) → Two [] o p q start own e z → (o ≡ z) × (q ≡ e)
unfolding fronts backs
two-end o p q start own e z g = (g.rest, omega (arith, g.tails))

pub put-length : (o : List ℕ) (at : ℕ) (x : List ℕ) (w : Walked) (r : Stop) (o' : List ℕ) → Put o at x w r o' → length o' ≡ length o
put-length o at x w r o' p = ap length p.stored.list ∙ length-sets o at x

-- An item of fixed size, by the length that the table's check found.
pub item-own : (lens l : List ℕ) (t : ℕ) (c b : List ℕ) (i j : ℕ) → Under lens l (t + 1) → IsUpto (walk_item (tree_of l t) c b i j) →
    0 < get_or lens t 0 → PartForm (walk_item (tree_of l t) c b i j) (write_item_lem (tree_of l t) c b i j) b i j (get_or lens t 0)
item-own lens l t c b i j g u z =
    let h = len_head (head (tree_of l t)) (get_or lens t 0) (g.found t (omega arith)) (λ (d : get_or lens t 0 ≡ 0). omega arith) in
    item-part (tree_of l t) c b i j (get_or lens t 0) (legal_tree l (t + 1) t g.legal (omega arith)) h z u

-- The loop of `write_fields`: what is left to store gives the whole.
pub record Writing (lens l : List ℕ) (t step : ℕ) (c b : List ℕ) (start own e : ℕ) (w : Walked) (z o₀ o : List ℕ) (p q a left i j : ℕ) : Type 0 where
  pub well : IsUpto w
  pub long : length o ≡ length o₀
  pub row : Row lens l t a step left
  pub walk : walk_fields (row_of l t a step left) c b i j ≡ w
  pub room : e ≤ length o
  pub two : Two (parts_from (row_of l t a step left) c b i j) o p q start own e z

module _ {lens l : List ℕ} {t step : ℕ} {c b : List ℕ} {start own e : ℕ} {w : Walked} {z o₀ o : List ℕ} {p q a left i j f : ℕ}
    (g : Writing lens l t step c b start own e w z o₀ o p q a left i j) (y : 0 < left) (v : f ≡ word_at l a) where
  writing-parts : Two (piece (head (tree_of l f)) (write_item_lem (tree_of l f) c b i j) ∷ parts_from (row_of l t (a + step) step (left - 1)) c b
      (word_after (walk_item (tree_of l f) c b i j)) (byte_after (walk_item (tree_of l f) c b i j))) o p q start own e z
  writing-parts = rw (fields-parts lens l t a step left f g.row y v c b i j) at g.two

  writing-onward : (IsUpto (walk_item (tree_of l f) c b i j)) ×
      (walk_fields (row_of l t (a + step) step (left - 1)) c b (word_after (walk_item (tree_of l f) c b i j)) (byte_after (walk_item (tree_of l f) c b i j)) ≡ w)
  writing-onward =
      let d = sym (fields-walk lens l t a step left f g.row y v c b i j) ∙ g.walk in
      let r = onward-first (walk_item (tree_of l f) c b i j) (λ m k. walk_fields (row_of l t (a + step) step (left - 1)) c b m k) (rw (← d) at g.well) in
      (r.0, sym r.1 ∙ d)

  pub writing-upto : IsUpto (walk_item (tree_of l f) c b i j)
  writing-upto = writing-onward.0

  -- Behind the field
  writing-behind : (r : Stop) (o₁ : List ℕ) (at : ℕ) (o₂ : List ℕ) → length o₁ ≡ length o →
      Put o₁ at (write_item_lem (tree_of l f) c b i j) (walk_item (tree_of l f) c b i j) r o₂ → (p₂ q₂ : ℕ) →
      Two (parts_from (row_of l t (a + step) step (left - 1)) c b (word_after (walk_item (tree_of l f) c b i j)) (byte_after (walk_item (tree_of l f) c b i j)))
      o₂ p₂ q₂ start own e z → Writing lens l t step c b start own e w z o₀ o₂ p₂ q₂ (a + step) (left - 1) r.end.word r.end.byte
  writing-behind r o₁ at o₂ d x p₂ q₂ two =
      let s : length o₂ ≡ length o = put-length o₁ at _ _ r o₂ x ∙ d in
      record {
        well = g.well;
        long = s ∙ g.long;
        row = row_next lens l t a step left f g.row y v;
        walk = rw (x.word, x.byte) writing-onward.1;
        room = rw s g.room;
        two = rw (x.word, x.byte) two;
      }

  -- A field of fixed size is body bytes, stored where its head is.
  module _ {k : ℕ} (n : k ≡ get_or lens f 0) (s : 0 < k) where
    fixed-part : PartForm (walk_item (tree_of l f) c b i j) (write_item_lem (tree_of l f) c b i j) b i j k
    fixed-part = rw n (item-own lens l f c b i j (row_under lens l t a step left f g.row y v) writing-upto (rw n at s))

    fixed-parts : Two (piece (Fixed k) (write_item_lem (tree_of l f) c b i j) ∷ parts_from (row_of l t (a + step) step (left - 1)) c b
        (word_after (walk_item (tree_of l f) c b i j)) (byte_after (walk_item (tree_of l f) c b i j))) o p q start own e z
    fixed-parts = rw (← row-fixed lens l t a step left f g.row y v k n (λ (h : k ≡ 0). omega arith)) at writing-parts

    pub writing-there : (j + k ≤ length b) × (p + k ≤ length o)
    writing-there = part_need fixed-part (room-fixed _ _ o p q start own e z k fixed-parts g.room)

    pub writing-fixed : {r : Stop} {o₂ : List ℕ} → Put o p (bytes_at b j k) (upto i (j + k)) r o₂ →
        Writing lens l t step c b start own e w z o₀ o₂ r.to q (a + step) (left - 1) r.end.word r.end.byte
    writing-fixed {r} {o₂} d =
        let x = part-done fixed-part d in
        writing-behind r o p o₂ refl x r.to q (two-fixed _ _ o p q start own e z k fixed-parts o₂ r.to x.stored)

  -- A field of variable size: its offset where its head is, then the item at q.
  module _ {k : ℕ} (n : k ≡ get_or lens f 0) (s : k ≤ 0) where
    variable_parts_lem : Two (piece Variable (write_item_lem (tree_of l f) c b i j) ∷ parts_from (row_of l t (a + step) step (left - 1)) c b
        (word_after (walk_item (tree_of l f) c b i j)) (byte_after (walk_item (tree_of l f) c b i j))) o p q start own e z
    variable_parts_lem = rw (← row_variable lens l t a step left f g.row y v k n (omega arith)) at writing-parts

    pub writing_offset : (start ≤ q) × (p + 4 ≤ length o)
    writing_offset = (omega (arith, g.two.apart), room_offset _ _ o p q start own e z variable_parts_lem g.room)

    module _ {o₁ : List ℕ} (d : o₁ ≡ sets o p (le 4 (q - start))) where
      offset_long : length o₁ ≡ length o
      offset_long = ap length d ∙ length-sets o p (le 4 (q - start))

      pub writing-room : Room o₁ q (write_item_lem (tree_of l f) c b i j)
      writing-room = room_variable _ _ o p q start own e z variable_parts_lem g.room o₁ offset_long

      pub writing-next : {r : Stop} {o₂ : List ℕ} → Put o₁ q (write_item_lem (tree_of l f) c b i j) (walk_item (tree_of l f) c b i j) r o₂ →
          Writing lens l t step c b start own e w z o₀ o₂ (p + 4) r.to (a + step) (left - 1) r.end.word r.end.byte
      writing-next {r} {o₂} x =
          writing-behind r o₁ q o₂ offset_long x (p + 4) r.to
          (two_variable _ _ o p q start own e z variable_parts_lem o₂ r.to (rw d at x.stored))

module _ {lens l : List ℕ} {k : ℕ} {m : Members} {c b : List ℕ} {i j : ℕ} {o : List ℕ} {start own : ℕ} (y : Known lens l k)
    (g : Fields l k m c b i j o start) (e : own ≡ portion (heads_in l m)) where
  known-row : Row lens l m.of m.first m.step m.many
  known-row = row-known lens l k m y g.row

  pub writing-none : Writing lens l m.of m.step c b start own (start + length (join (parts_from (types_in l m) c b i j)))
      (walk_fields (types_in l m) c b i j) (sets o start (join (parts_from (types_in l m) c b i j))) o o start (start + own) m.first m.many i j
  writing-none =
      record {
        well = g.walk;
        long = refl;
        row = known-row;
        walk = refl;
        room = g.room.room;
        two =
            two-start (parts_from (types_in l m) c b i j) o start own
            (e ∙ sym (row-portion lens l m.of m.first m.step m.many c b i j known-row g.walk));
      }

  pub fields_fit : start + own ≤ length o
  fields_fit =
      let p = row-portion lens l m.of m.first m.step m.many c b i j known-row g.walk in
      omega (arith, g.room.room, p, length-join (parts_from (types_in l m) c b i j))

pub writing-end : {lens l : List ℕ} {t step : ℕ} {c b : List ℕ} {start own e : ℕ} {w : Walked} {x o₀ o : List ℕ} {p q a left i j : ℕ} →
    Writing lens l t step c b start own e w (sets o₀ start x) o₀ o p q a left i j → e ≡ start + length x → left ≤ 0 →
    Put o₀ start x w (record { end = record { word = i; byte = j }; to = q }) o
writing-end {lens} {l} {t} {step} {c} {b} {start} {own} {e} {w} {x} {o₀} {o} {p} {q} {a} {left} {i} {j} g n h =
    let d = sym (none_walk l t a step left c b i j h) ∙ g.walk in
    let y = two-end o p q start own e (sets o₀ start x) (rw (none-parts l t a step left c b i j h) at g.two) in
    record { stored = record { list = y.0; ends = y.1 ∙ n }; word = ap word_after d; byte = ap byte_after d }

-- The loop of `portion_of`.
pub record Adding (lens l : List ℕ) (t a₀ step n a left sum : ℕ) : Type 0 where
  pub row : Row lens l t a step left
  pub same : sum + portion (heads_of l t a step left) ≡ portion (heads_of l t a₀ step n)

pub adding-none : (lens l : List ℕ) (t a step n : ℕ) → Row lens l t a step n → Adding lens l t a step n a n 0
adding-none lens l t a step n g = record { row = g; same = zero-add _ }

module _ (lens l : List ℕ) (t a₀ step n a left sum f k : ℕ) (g : Adding lens l t a₀ step n a left sum) (z : 0 < left) (e : f ≡ word_at l a)
    (q : k ≡ width (head_of (get_or lens f 0))) where
  pub adding-same : sum + (k + portion (heads_of l t (a + step) step (left - 1))) ≡ portion (heads_of l t a₀ step n)
  unfolding portion
  adding-same =
      rw q (rw (row-heads lens l t a step left f g.row z e (head_of (get_or lens f 0)) (row-head lens l t a step left f g.row z e)) at g.same)

  pub adding-next : Adding lens l t a₀ step n (a + step) (left - 1) (sum + k)
  adding-next = record { row = row_next lens l t a step left f g.row z e; same = omega (arith, adding-same) }

pub adding-end : (lens l : List ℕ) (t a₀ step n a left sum : ℕ) → Adding lens l t a₀ step n a left sum → left ≤ 0 → sum ≡ portion (heads_of l t a₀ step n)
unfolding portion
adding-end lens l t a₀ step n a left sum g h = omega (arith, rw (heads-none l t a step left h) at g.same)

-- A leaf.
module _ (l : List ℕ) (t : ℕ) (n : Node) (e : n ≡ node_of l t) (h : is_leaf n.kind ≡ true) (c b : List ℕ) (i j : ℕ) where
  pub tree_walk : walk_item (tree_of l t) c b i j ≡ walk_item (leaf_of 0 n) c b i j
  tree_walk = ap (λ (x : Ty). walk_item x c b i j) (as_leaf l t n e h) ∙ leaf-walk t n c b i j

  pub tree_write : write_item_lem (tree_of l t) c b i j ≡ write_item_lem (leaf_of 0 n) c b i j
  tree_write = ap (λ (x : Ty). write_item_lem x c b i j) (as_leaf l t n e h) ∙ leaf-write t n c b i j
