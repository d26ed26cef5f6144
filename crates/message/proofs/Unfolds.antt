-- Unfolding, item by item: what is stored and what is left make the whole. Assumes nothing.
use mathlib.Core.Path.{◌≡◌, refl, sym, ap, ◌∙◌}
use mathlib.Core.List.{List, [], ◌∷◌, ◌++◌, append-nil, append_assoc}
use mathlib.Core.Bool.{Bool, true, false}
use Prim.Native.Nat.{ℕ, zero, suc, ◌+◌, ◌-◌, ◌≤◌, ◌<◌}
use native.Mathlib.Nat.{add-zero}
use native.Mathlib.Omega.{arith}
use borrow.Author.Tests.{eqb-true, eqb-false, eq-eqb, ne_eqb}
use lib.ListN.{length, get_or, take, drop, length-take, length-drop}
use lib.Seq.{take_all}
use lib.Dec.{eqb}
use Rattle.standard.specs.Choice.{pick}
use Rattle.standard.specs.Bytes.{word_at, Stored, Room}
use Rattle.standard.specs.Types.{Ty, Opts, boolean, union, bare, body, head, heads}
use Rattle.standard.specs.Parts.{span_of, part, InRange}
use Rattle.standard.specs.declared.Head.TheVariants.{Fixed, Variable}
use Rattle.standard.specs.declared.Span.{Span}
use Rattle.standard.specs.declared.Refusal.{Refusal}
use Rattle.standard.proofs.Store.{stored_then, room-first, room_then}
use Rattle.layout.specs.Tree.{node_of, leaf_of, options, trees, tree_of}
use Rattle.layout.specs.declared.Node.{Node}
use Rattle.layout.proofs.Facts.{trees-get, as_union, as_leaf}
use Rattle.layout.proofs.Trees.{legal_tree}
use Rattle.message.specs.Read.{read_item, read_fields}
use Rattle.message.specs.Unfold.{unfold_words, words_fields, words_option, unfold_bytes, bytes_fields, bytes_option, Accepts, Rooms, Filled}
use Rattle.message.specs.Steps.{Under, Row, Named, row_of, choose, IsAccepted, types_of, Next}
use Rattle.message.specs.Series.{MadeOf, count_word}
use Rattle.message.specs.Unfolding.{Filling}
use Rattle.message.specs.declared.parts.Series.{Series}
use Rattle.message.specs.declared.unfolding.Place.{Place}
use Rattle.message.specs.declared.unfolding.Opened.{Opened}
use Rattle.message.proofs.Answers.{then_both}
use Rattle.message.proofs.Rows.{Lies, under-below, under-head, span_ok, span_lies, next_types, next_row, next_fixed, types_none, first-ranges}
use Rattle.message.proofs.Bodies.{fields_read, bare-says, body-says, body_below}
use Rattle.message.proofs.Entries.{accepted-start, union-never, body-accepted}
use Rattle.message.proofs.Repeats.{element-below}
use Rattle.message.proofs.Fixed.{fixed-form, fixed-long}
use Rattle.message.proofs.UnfoldLeaves.{bytes-room, bytes-filled}
use Rattle.std.specs.declared.result.Result.TheVariants.{Ok, Err}
use Rattle.std.specs.declared.option.Option.TheVariants.{Some, None}
use Rattle.layout.specs.declared.Kind.{Kind}
use Rattle.layout.specs.Kinds.{is_leaf}

-- An item that is accepted where it starts
pub accepts_at : (t : Ty) (b : List ℕ) (s : ℕ) → IsAccepted (read_item t b s) → Accepts t b
accepts_at t b s h = record { accepted = accepted-start t b s 0 h }

-- First x and y, then x' and y': together u and v.
pub filled_then :
    (o p : List ℕ) (at : Place) (x y : List ℕ) (r : Place) (o₁ p₁ x' y' : List ℕ) (r' : Place) (o₂ p₂ u v : List ℕ)
    → Filled o p at x y r o₁ p₁ → Filled o₁ p₁ r x' y' r' o₂ p₂ → u ≡ x ++ x' → v ≡ y ++ y' → Filled o p at u v r' o₂ p₂
filled_then o p at x y r o₁ p₁ x' y' r' o₂ p₂ u v g h e f =
    record {
      words = stored_then o at.word x r.word o₁ x' r'.word o₂ u g.words h.words e;
      bytes = stored_then p at.byte y r.byte p₁ y' r'.byte p₂ v g.bytes h.bytes f;
    }

pub rooms-first :
    (o p : List ℕ) (at : Place) (u v x y x' y' : List ℕ) → Rooms o p at u v → u ≡ x ++ x' → v ≡ y ++ y' → Rooms o p at x y
rooms-first o p at u v x y x' y' g e f =
    record { words = room-first o at.word u x x' g.words e; bytes = room-first p at.byte v y y' g.bytes f }

pub rooms_then :
    (o p : List ℕ) (at : Place) (u v x y x' y' : List ℕ) (r : Place) (o₁ p₁ : List ℕ)
    → Rooms o p at u v → u ≡ x ++ x' → v ≡ y ++ y' → Filled o p at x y r o₁ p₁ → Rooms o₁ p₁ r x' y'
rooms_then o p at u v x y x' y' r o₁ p₁ g e f h =
    record {
      words = room_then o at.word u x x' r.word o₁ g.words e h.words;
      bytes = room_then p at.byte v y y' r.byte p₁ g.bytes f h.bytes;
    }

-- Words alone: the selector of a union, the count of a list
pub words-filled :
    (o p : List ℕ) (at : Place) (x : List ℕ) (r : Place) (o' : List ℕ)
    → Stored o at.word x r.word o' → r.byte ≡ at.byte → Filled o p at x [] r o' p
words-filled o p at x r o' g e = record { words = g; bytes = record { list = refl; ends = e ∙ sym (add-zero at.byte) } }

-- The first field's value form, and that of the rest
module _ (lens l : List ℕ) (r r' : Series) (f : ℕ) (g : Row lens l r.below r.first r.step r.many) (j : Next l r (Some f) r') (b : List ℕ) (q : ℕ) (w : Span)
    (i : w ≡ span_of (head (tree_of l f)) (heads (types_of l r')) b q) where
  fields-words : words_fields (types_of l r) b q ≡ unfold_words (tree_of l f) (part b w) ++ words_fields (types_of l r') b w.next
  unfolding unfold_words
  fields-words = rw (next_types lens l r r' f g j, i)

  fields-bytes : bytes_fields (types_of l r) b q ≡ unfold_bytes (tree_of l f) (part b w) ++ bytes_fields (types_of l r') b w.next
  unfolding unfold_bytes
  fields-bytes = rw (next_types lens l r r' f g j, i)

-- The loop of `unfold_fields`.
module _ {lens l : List ℕ} {t : ℕ} {b x y o₀ p₀ : List ℕ} {at₀ : Place} {o p : List ℕ} {at : Place} {r : Series} {q : ℕ}
    (g : Filling lens l t b x y o₀ p₀ at₀ o p at r q) where
  module _ {f : ℕ} {r' : Series} (j : Next l r (Some f) r') where
    module _ {w : Span} (i : w ≡ span_of (head (tree_of l f)) (heads (types_of l r')) b q) where
      filling_both : IsAccepted (read_item (tree_of l f) (part b w) (0 + w.from)) × IsAccepted (read_fields (types_of l r') b w.next 0)
      filling_both = then_both (read_item (tree_of l f) (part b w) (0 + w.from)) (read_fields (types_of l r') b w.next 0)
          (rw (fields_read lens l r r' f g.row j b q w i 0) at g.accepted.accepted)

      pub filling_lies : Lies b w
      filling_lies = span_lies lens l r r' f g.row j b q g.ranges w i

      pub filling_accepts : Accepts (tree_of l f) (part b w)
      filling_accepts = accepts_at (tree_of l f) (part b w) (0 + w.from) filling_both.0

      pub filling_rooms : Rooms o p at (unfold_words (tree_of l f) (part b w)) (unfold_bytes (tree_of l f) (part b w))
      filling_rooms = rooms-first o p at _ _ _ _ _ _ g.rooms (fields-words lens l r r' f g.row j b q w i) (fields-bytes lens l r r' f g.row j b q w i)

      pub filling_next :
          (e : Place) (o' p' : List ℕ) → Filled o p at (unfold_words (tree_of l f) (part b w)) (unfold_bytes (tree_of l f) (part b w)) e o' p'
          → Filling lens l t b x y o₀ p₀ at₀ o' p' e r' w.next
      filling_next e o' p' h =
          let u = fields-words lens l r r' f g.row j b q w i in
          let v = fields-bytes lens l r r' f g.row j b q w i in
          record {
            below = rw j.2 g.below;
            row = next_row lens l r r' f g.row j;
            ranges = (span_ok lens l r r' f g.row j b q g.ranges w i).2;
            accepted = record { accepted = filling_both.1 };
            rooms = rooms_then o p at _ _ _ _ _ _ e o' p' g.rooms u v h;
            words = g.words ++ unfold_words (tree_of l f) (part b w);
            bytes = g.bytes ++ unfold_bytes (tree_of l f) (part b w);
            filled = filled_then o₀ p₀ at₀ g.words g.bytes at o p _ _ e o' p' _ _ g.filled h refl refl;
            all_words = g.all_words ∙ rw (u, ← append_assoc);
            all-bytes = g.all-bytes ∙ rw (v, ← append_assoc);
          }

    -- A field of the fixed length k is its own bytes.
    module _ {k : ℕ} (i : k ≡ get_or lens f 0) (z : 0 < k) where
      abbrev own_span : Span
      own_span = record { from = q; to = q + k; next = q + k }

      own-head : Fixed k ≡ head (tree_of l f)
      own-head = next_fixed lens l r r' f g.row j k i (λ (v : k ≡ 0). omega arith)

      own_span_lem : own_span ≡ span_of (head (tree_of l f)) (heads (types_of l r')) b q
      own_span_lem = rw (← own-head)

      pub own-fits : q + k ≤ length b
      unfolding InRange
      own-fits = (rw (← own-head) at (first-ranges lens l r r' f g.row j b q g.ranges)).0

      own-form : (unfold_words (tree_of l f) (part b own_span) ≡ []) × (unfold_bytes (tree_of l f) (part b own_span) ≡ part b own_span)
      own-form =
          let r = own-fits in
          let m : length (part b own_span) ≡ k = simp (length-take, length-drop) (omega arith) in
          fixed-form (tree_of l f) (part b own_span) (sym own-head ∙ ap Fixed (sym m))

      pub own_room : Room p at.byte (part b own_span)
      own_room = bytes-room _ _ _ own-form o p at (filling_rooms own_span_lem)

      pub own-next : (e : Place) (p' : List ℕ) → Stored p at.byte (part b own_span) e.byte p' → e.word ≡ at.word →
          Filling lens l t b x y o₀ p₀ at₀ o p' e r' (q + k)
      own-next e p' h v = filling_next own_span_lem e o p' (bytes-filled _ _ _ own-form o p at e p' h v)

  -- what is left, stored
  pub filling_last :
      (e : Place) (o' p' : List ℕ) → Filled o p at (words_fields (types_of l r) b q) (bytes_fields (types_of l r) b q) e o' p'
      → Filled o₀ p₀ at₀ x y e o' p'
  filling_last e o' p' h = filled_then o₀ p₀ at₀ g.words g.bytes at o p _ _ e o' p' x y g.filled h g.all_words g.all-bytes

  pub filling_end : r.many ≡ 0 → Filled o₀ p₀ at₀ x y at o p
  unfolding unfold_words unfold_bytes
  filling_end h =
      let e : x ≡ g.words = g.all_words ∙ rw (types_none l r h, append-nil) in
      let f : y ≡ g.bytes = g.all-bytes ∙ rw (types_none l r h, append-nil) in
      rw (e, f) g.filled

-- The option that is asked for: of words and of bytes alike.
made : List Ty → List ℕ → (Ty → List ℕ → List ℕ) → ℕ → List ℕ
made lower b item w = pick (eqb w 4294967295) [] (item (get_or lower w (boolean 0)) (drop 1 b))

module _ (l : List ℕ) (lower : List Ty) (b : List ℕ) (item : Ty → List ℕ → List ℕ) (option : Opts → ℕ → List ℕ → List ℕ)
    (at_bare : (j : ℕ) (os : Opts) (k : ℕ) → option (bare j os) k b ≡ pick (eqb k j) [] (option os k b))
    (at_body : (j : ℕ) (o : Ty) (os : Opts) (k : ℕ) → option (body j o os) k b ≡ pick (eqb k j) (item o (drop 1 b)) (option os k b)) where
  made-here : (w : ℕ) (os : Opts) (k : ℕ) → option (pick (eqb w 4294967295) (bare k os) (body k (get_or lower w (boolean 0)) os)) k b ≡ made lower b item w
  unfolding made
  made-here w os k = go (eqb w 4294967295)
    where
      go : (c : Bool) → option (pick c (bare k os) (body k (get_or lower w (boolean 0)) os)) k b ≡ pick c [] (item (get_or lower w (boolean 0)) (drop 1 b))
      go true = at_bare k os k ∙ rw (eq-eqb k k refl)
      go false = at_body k _ os k ∙ rw (eq-eqb k k refl)

  made_skip : (c : Bool) (x : Ty) (os : Opts) (j k : ℕ) → (k ≡ j → ⊥) → option (pick c (bare j os) (body j x os)) k b ≡ option os k b
  made_skip true x os j k h = at_bare j os k ∙ rw (ne_eqb k j h)
  made_skip false x os j k h = at_body j x os k ∙ rw (ne_eqb k j h)

  made-option : (n a j k : ℕ) → j ≤ k → k < j + n → option (options l lower a j n) k b ≡ made lower b item (word_at l (a + (k - j)))
  unfolding options
  made-option zero a j k h i = absurd (omega arith)
  made-option (suc n) a j k h i = go (eqb k j) refl (made-option n (a + 1) (j + 1) k)
    where
      go : (c : Bool) → eqb k j ≡ c → (j + 1 ≤ k → k < j + 1 + n →
          option (options l lower (a + 1) (j + 1) n) k b ≡ made lower b item (word_at l (a + 1 + (k - (j + 1))))) →
          option (pick (eqb (word_at l a) 4294967295) (bare j (options l lower (a + 1) (j + 1) n))
          (body j (get_or lower (word_at l a) (boolean 0)) (options l lower (a + 1) (j + 1) n))) k b ≡ made lower b item (word_at l (a + (k - j)))
      go true p f =
          let q : k ≡ j = eqb-true _ _ p in
          let m : a + (k - j) ≡ a = omega arith in
          rw (m, q) (made-here (word_at l a) (options l lower (a + 1) (j + 1) n) j)
      go false p f =
          let q : k ≡ j → ⊥ = eqb-false _ _ p in
          let m : a + 1 + (k - (j + 1)) ≡ a + (k - j) = omega arith in
          made_skip (eqb (word_at l a) 4294967295) (get_or lower (word_at l a) (boolean 0)) (options l lower (a + 1) (j + 1) n) j k q ∙
          rw m at (f (omega arith) (omega arith))

  made-chosen : (a n : ℕ) → get_or b 0 0 < n → option (options l lower a 0 n) (get_or b 0 0) b ≡ made lower b item (word_at l (a + get_or b 0 0))
  made-chosen a n h = let j : get_or b 0 0 - 0 ≡ get_or b 0 0 = omega arith in rw j at (made-option n a 0 (get_or b 0 0) (omega arith) (omega arith))

module _ (l : List ℕ) (lower : List Ty) (b : List ℕ) (a n : ℕ) (h : get_or b 0 0 < n) where
  words-chosen : words_option (options l lower a 0 n) (get_or b 0 0) b ≡ made lower b unfold_words (word_at l (a + get_or b 0 0))
  unfolding unfold_words
  words-chosen = made-chosen l lower b unfold_words words_option (λ j os k. refl) (λ j o os k. refl) a n h

  bytes_chosen : bytes_option (options l lower a 0 n) (get_or b 0 0) b ≡ made lower b unfold_bytes (word_at l (a + get_or b 0 0))
  unfolding unfold_bytes
  bytes_chosen = made-chosen l lower b unfold_bytes bytes_option (λ j os k. refl) (λ j o os k. refl) a n h

pub no_more : (k : ℕ) → k ≤ 0 → k ≡ 0
no_more k h = omega arith

-- An item of a type whose length stands in the table
module _ (lens l : List ℕ) (t : ℕ) (g : Under lens l (t + 1)) where
  pub len_variable : get_or lens t 0 ≡ 0 → head (tree_of l t) ≡ Variable
  len_variable z = sym (under-head lens l (t + 1) g t (omega arith)) ∙ rw (eq-eqb (get_or lens t 0) 0 z)

  len_fixed : 0 < get_or lens t 0 → head (tree_of l t) ≡ Fixed (get_or lens t 0)
  len_fixed z = sym (under-head lens l (t + 1) g t (omega arith)) ∙ rw (ne_eqb (get_or lens t 0) 0 (λ (v : get_or lens t 0 ≡ 0). omega arith))

  pub item-form : (b : List ℕ) → Accepts (tree_of l t) b → 0 < get_or lens t 0 → (unfold_words (tree_of l t) b ≡ []) × (unfold_bytes (tree_of l t) b ≡ b)
  item-form b h z =
      let m = fixed-long (tree_of l t) b (get_or lens t 0) (legal_tree l (t + 1) t g.legal (omega arith)) h (len_fixed z) in
      fixed-form (tree_of l t) b (len_fixed z ∙ ap Fixed (sym m))

  -- Nothing is left of an item that was stored.
  pub all-stored :
      (b x y o₀ p₀ : List ℕ) (at₀ : Place) (o p : List ℕ) (at : Place) (r : Opened)
      → r ≡ record { at = at; left = record { below = 0; first = 0; step = 0; many = 0 } } → Rooms o₀ p₀ at₀ x y → Filled o₀ p₀ at₀ x y at o p
      → Filling lens l t b x y o₀ p₀ at₀ o p r.at r.left 0
  unfolding row_of heads InRange Named read_item unfold_words unfold_bytes
  all-stored b x y o₀ p₀ at₀ o p at r e i h =
      rw e (record {
        below = omega arith;
        row = record { under = under-below lens l (t + 1) 0 (omega arith) g; near = omega arith; steps = omega arith; named = tt };
        ranges = omega arith;
        accepted = record { accepted = tt };
        rooms = rooms_then o₀ p₀ at₀ x y x y [] [] at o p i (sym (append-nil x)) (sym (append-nil y)) h;
        words = x;
        bytes = y;
        filled = h;
        all_words = sym (append-nil x);
        all-bytes = sym (append-nil y);
      })

-- A list of elements of fixed size
pub list-below : (lens l : List ℕ) (t : ℕ) (n : Node) → n ≡ node_of l t → Under lens l (t + 1) → n.kind ≡ Kind.List → n.second < 64
list-below lens l t n e g k = omega (arith, element-below lens l t n e g (rw k), g.few)

-- An item that is made of fields or elements: a list's count, then theirs.
module _ {lens l : List ℕ} {t : ℕ} {n : Node} {b : List ℕ} {r : Series} (g : MadeOf lens l t n b r) (k : is_leaf n.kind ≡ false) {o p : List ℕ} {at : Place}
    (h : Rooms o p at (unfold_words (tree_of l t) b) (unfold_bytes (tree_of l t) b)) where
  module _ (i : Place) (o' : List ℕ) (s : Stored o at.word (count_word n r.many) i.word o') (q : i.byte ≡ at.byte) where
    pub parts-rooms : Rooms o' p i (words_fields (types_of l r) b 0) (bytes_fields (types_of l r) b 0)
    parts-rooms = rooms_then o p at _ _ _ _ _ _ i o' p h (g.words k) (g.bytes k) (words-filled o p at _ i o' s q)

    pub parts-left : Filling lens l t b (unfold_words (tree_of l t) b) (unfold_bytes (tree_of l t) b) o p at o' p i r 0
    parts-left =
        record {
          below = g.below;
          row = g.row;
          ranges = g.ranges;
          accepted = record { accepted = g.accepted 0 };
          rooms = parts-rooms;
          words = count_word n r.many;
          bytes = [];
          filled = words-filled o p at _ i o' s q;
          all_words = g.words k;
          all-bytes = g.bytes k;
        }

-- Items, by their kind
pub union-some : (t : ℕ) (os : Opts) (b : List ℕ) → Accepts (union t os) b → 1 ≤ length b
unfolding read_item
union-some t os [] g = absurd g.accepted
union-some t os (x ∷ b) g = omega arith

module _ (lens l : List ℕ) (t : ℕ) (n : Node) (e : n ≡ node_of l t) (g : Under lens l (t + 1)) (b : List ℕ) (h : Accepts (tree_of l t) b) where
  module _ (c : is_leaf n.kind ≡ true) where
    pub leaf_variable : get_or lens t 0 ≡ 0 → head (leaf_of t n) ≡ Variable
    leaf_variable z = rw (as_leaf l t n e c) at (len_variable lens l t g z)

    pub leaf_accepts : Accepts (leaf_of t n) b
    leaf_accepts = rw (as_leaf l t n e c) at h

    pub leaf-rooms : (o p : List ℕ) (at : Place) → Rooms o p at (unfold_words (tree_of l t) b) (unfold_bytes (tree_of l t) b) →
        Rooms o p at (unfold_words (leaf_of t n) b) (unfold_bytes (leaf_of t n) b)
    leaf-rooms o p at r = rw (as_leaf l t n e c) at r

    pub leaf-filled :
        (o p : List ℕ) (at r : Place) (o' p' : List ℕ) → Filled o p at (unfold_words (leaf_of t n) b) (unfold_bytes (leaf_of t n) b) r o' p'
        → Filled o p at (unfold_words (tree_of l t) b) (unfold_bytes (tree_of l t) b) r o' p'
    leaf-filled o p at r o' p' q = rw (as_leaf l t n e c) q

  module _ (k : n.kind ≡ Kind.Union) where
    pub union-room : (o p : List ℕ) (at : Place) → Rooms o p at (unfold_words (tree_of l t) b) (unfold_bytes (tree_of l t) b) → at.word < length o
    unfolding unfold_words
    union-room o p at r = let q = rw (as_union l t n e k) at r.words in omega (arith, q.room)

    pub union-long : 1 ≤ length b
    union-long = union-some t _ b (rw (as_union l t n e k) at h)

    union-words : get_or b 0 0 < n.second → unfold_words (tree_of l t) b ≡ get_or b 0 0 ∷ made (trees l t) b unfold_words (word_at l (n.at + 2 + get_or b 0 0))
    unfolding unfold_words
    union-words i = rw (as_union l t n e k, words-chosen l (trees l t) b (n.at + 2) n.second i)

    union-bytes : get_or b 0 0 < n.second → unfold_bytes (tree_of l t) b ≡ made (trees l t) b unfold_bytes (word_at l (n.at + 2 + get_or b 0 0))
    unfolding unfold_bytes
    union-bytes i = rw (as_union l t n e k, bytes_chosen l (trees l t) b (n.at + 2) n.second i)

    module _ (q : (Ok None) ≡ choose l (n.at + 2) n.second b) where
      pub bare-words : unfold_words (tree_of l t) b ≡ get_or b 0 0 ∷ []
      unfolding made
      bare-words =
          let r = bare-says l (n.at + 2) n.second b (sym q) in
          union-words r.0 ∙ rw r.1

      pub bare-bytes : unfold_bytes (tree_of l t) b ≡ []
      unfolding made
      bare-bytes =
          let r = bare-says l (n.at + 2) n.second b (sym q) in
          union-bytes r.0 ∙ rw r.1

      pub bare-filled :
          (o p : List ℕ) (at r : Place) (o' p' : List ℕ) → Filled o p at (get_or b 0 0 ∷ []) [] r o' p'
          → Filled o p at (unfold_words (tree_of l t) b) (unfold_bytes (tree_of l t) b) r o' p'
      bare-filled o p at r o' p' i = rw (bare-words, bare-bytes) i

    pub never : {A : Type 0} (r : Refusal) → Err r ≡ choose l (n.at + 2) n.second b → A
    never r q = union-never lens l t n e g b 0 h.accepted k r q

    module _ (o : ℕ) (q : Ok (Some o) ≡ choose l (n.at + 2) n.second b) where
      body-made : (item : Ty → List ℕ → List ℕ) → made (trees l t) b item (word_at l (n.at + 2 + get_or b 0 0)) ≡
          item (tree_of l o) (take (length b - 1) (drop 1 b))
      unfolding made
      body-made item =
          let r = body-says l (n.at + 2) n.second b o (sym q) in
          let z = body_below lens l t n e g k b o q in
          rw (
            ← r.1,
            ne_eqb o 4294967295 (rw (← r.1) at r.2),
            trees-get l t o (boolean 0) z.0,
            take_all (length b - 1) (drop 1 b)
                (simp length-drop (omega arith)),
          )

      pub body-words : unfold_words (tree_of l t) b ≡ (get_or b 0 0 ∷ []) ++ unfold_words (tree_of l o) (take (length b - 1) (drop 1 b))
      body-words =
          let r = body-says l (n.at + 2) n.second b o (sym q) in
          union-words r.0 ∙ ap (λ (x : List ℕ). get_or b 0 0 ∷ x) (body-made unfold_words)

      pub body_bytes : unfold_bytes (tree_of l t) b ≡ [] ++ unfold_bytes (tree_of l o) (take (length b - 1) (drop 1 b))
      body_bytes =
          let r = body-says l (n.at + 2) n.second b o (sym q) in
          union-bytes r.0 ∙ body-made unfold_bytes

      pub body_accepts : Accepts (tree_of l o) (take (length b - 1) (drop 1 b))
      body_accepts = accepts_at _ _ (0 + 1) (body-accepted lens l t n e g b 0 h.accepted k o q)
