-- The listing, stored item by item: what is stored and what is left make the whole. Assumes nothing.
use mathlib.Core.Path.{◌≡◌, refl, sym, ap, ◌∙◌}
use mathlib.Core.List.{List, [], ◌++◌, append-nil, append_assoc}
use mathlib.Core.Bool.{Bool, true, false}
use Prim.Native.Nat.{ℕ, zero, suc, ◌+◌, ◌-◌, ◌/◌, ◌≤◌, ◌<◌, ◌^◌}
use native.Mathlib.Omega.{arith}
use borrow.Author.Tests.{eqb-true, eqb-false, eq-eqb, ne_eqb, ltb-false}
use lib.ListN.{length, get_or, take, drop, length-append, length-drop}
use lib.Seq.{sets, length-sets, take_all}
use lib.Dec.{eqb, ltb}
use Rattle.standard.specs.Choice.{pick}
use Rattle.standard.specs.Bytes.{le, word_at, Stored, Room}
use Rattle.standard.specs.Types.{Ty, Opts, number, boolean, fixed_bytes, free_bytes, bit_vector, bit_list, container, union, list, vector, bare, body, head, Tys, heads}
use Rattle.standard.specs.Parts.{span_of, part, InRange}
use Rattle.standard.specs.declared.Span.{Span}
use Rattle.standard.specs.declared.Refusal.{Refusal}
use Rattle.standard.specs.declared.Refusal.TheVariants.{TooLarge}
use Rattle.standard.proofs.Bytes.{length-le}
use Rattle.standard.proofs.Store.{stored_then, room-first, room_then}
use Rattle.decode.specs.Builder.{lay_out_lem}
use Rattle.decode.proofs.Register.{layout-ranges}
use Rattle.layout.specs.Tree.{node_of, leaf_of, options, trees, tree_of}
use Rattle.layout.specs.declared.Node.{Node}
use Rattle.layout.proofs.Facts.{trees-get, as_union, as_leaf}
use Rattle.layout.proofs.Trees.{leaf-cases}
use Rattle.message.specs.Read.{one, and_then, read_item, read_fields}
use Rattle.message.specs.Check.{message_type, under_table_lem}
use Rattle.message.specs.Listing.{entry, list_item_lem, list_fields_lem, list_option}
use Rattle.message.specs.Steps.{Under, Row, row_of, heads_of, choose, IsAccepted, types_of, Next}
use Rattle.message.specs.declared.Counts.{Counts}
use Rattle.message.proofs.Answers.{right_accepted, then_both, built-both}
use Rattle.message.proofs.Theorem.{read-start}
use Rattle.message.proofs.Records.{length-entry, listed-length}
use Rattle.message.proofs.Rows.{Lies, container_tree, span_ok, span_lies, next_types, next_row, types_none}
use Rattle.message.proofs.Bodies.{fields_read, container-read, bare-says, body-says, body_below, body-read, wrong-read}
use Rattle.std.specs.declared.result.Result.{Result}
use Rattle.std.specs.declared.result.Result.TheVariants.{Ok, Err}
use Rattle.std.specs.declared.option.Option.TheVariants.{Some, None}
use Rattle.message.specs.declared.RefusedAt.{RefusedAt}
use Rattle.message.specs.Read.{located}
use Rattle.layout.specs.declared.Kind.{Kind}
use Rattle.layout.specs.Kinds.{is_leaf}
use Rattle.message.specs.declared.parts.Series.{Series}

-- Acceptance does not depend on where the item starts.
pub accepted-start : (x : Ty) (b : List ℕ) (s u : ℕ) → IsAccepted (read_item x b s) → IsAccepted (read_item x b u)
accepted-start x b s u = go (read_item x b s) refl
  where
    go : (r : Result Counts RefusedAt) → read_item x b s ≡ r → IsAccepted r → IsAccepted (read_item x b u)
    go (Ok c) e h = rw (read-start x b s u c e) tt
    go (Err r) e h = absurd h

-- One record.
pub entry-stored : (o o₁ o₂ o₃ : List ℕ) (at t : ℕ) (b : List ℕ) (s : ℕ) → o₁ ≡ sets o at (le 4 t) → o₂ ≡ sets o₁ (at + 4) (le 4 s) →
    o₃ ≡ sets o₂ (at + 8) (le 4 (s + length b)) → Stored o at (entry t b s) (at + 12) o₃
unfolding entry le
entry-stored o o₁ o₂ o₃ at t b s p q r =
    let put : (x : List ℕ) (i n : ℕ) → Stored x i (le 4 n) (i + 4) (sets x i (le 4 n)) = λ x i n. record { list = refl; ends = simp length-le } in
    let f = rw (← p) at (put o at t) in
    let g = rw (← q) at (put o₁ (at + 4) s) in
    let i : at + 4 + 4 ≡ at + 8 = omega arith in
    let j : at + 8 + 4 ≡ at + 12 = omega arith in
    let h = rw (← r, j) at (put o₂ (at + 8) (s + length b)) in
    let u = stored_then o at (le 4 t) (at + 4) o₁ (le 4 s) (at + 8) o₂ (le 4 t ++ le 4 s) f (rw i at g) refl in
    stored_then o at (le 4 t ++ le 4 s) (at + 8) o₂ (le 4 (s + length b)) (at + 12) o₃ _ u h (sym (append_assoc (le 4 t) (le 4 s) (le 4 (s + length b))))

-- The first field's listing, and that of the rest.
module _ (lens l : List ℕ) (r r' : Series) (f : ℕ) (g : Row lens l r.below r.first r.step r.many) (i : Next l r (Some f) r') (b : List ℕ) (p : ℕ) (w : Span)
    (q : w ≡ span_of (head (tree_of l f)) (heads (types_of l r')) b p) (s : ℕ) where
  fields-list : list_fields_lem (types_of l r) b p s ≡ list_item_lem (tree_of l f) (part b w) (s + w.from) ++ list_fields_lem (types_of l r') b w.next s
  unfolding list_item_lem
  fields-list = rw (next_types lens l r r' f g i, q)

-- The loop of `list_fields`.
pub record Storing (lens l : List ℕ) (t : ℕ) (ts : Tys) (b : List ℕ) (s : ℕ) (o₀ : List ℕ) (at₀ : ℕ) (o : List ℕ) (at : ℕ) (r : Series) (p : ℕ) : Type 0 where
  pub below : r.below ≤ t
  pub row : Row lens l r.below r.first r.step r.many
  pub ranges : InRange (heads (types_of l r)) b p 0
  pub accepted : IsAccepted (read_fields (types_of l r) b p s)
  pub room : Room o at (list_fields_lem (types_of l r) b p s)
  pub done : List ℕ
  pub stored : Stored o₀ at₀ done at o
  pub whole : list_fields_lem ts b 0 s ≡ done ++ list_fields_lem (types_of l r) b p s

module _ {lens l : List ℕ} {t : ℕ} {ts : Tys} {b : List ℕ} {s : ℕ} {o₀ : List ℕ} {at₀ : ℕ} {o : List ℕ} {at : ℕ} {r r' : Series} {p f : ℕ}
    (g : Storing lens l t ts b s o₀ at₀ o at r p) (i : Next l r (Some f) r') {w : Span} (q : w ≡ span_of (head (tree_of l f)) (heads (types_of l r')) b p) where
  storing_both : IsAccepted (read_item (tree_of l f) (part b w) (s + w.from)) × IsAccepted (read_fields (types_of l r') b w.next s)
  storing_both = then_both (read_item (tree_of l f) (part b w) (s + w.from)) (read_fields (types_of l r') b w.next s)
      (rw (fields_read lens l r r' f g.row i b p w q s) at g.accepted)

  pub storing_lies : Lies b w
  storing_lies = span_lies lens l r r' f g.row i b p g.ranges w q

  pub storing_accepted : IsAccepted (read_item (tree_of l f) (part b w) (s + w.from))
  storing_accepted = storing_both.0

  pub storing_room : Room o at (list_item_lem (tree_of l f) (part b w) (s + w.from))
  storing_room = room-first o at _ _ _ g.room (fields-list lens l r r' f g.row i b p w q s)

  pub storing_next : (e : ℕ) (o' : List ℕ) → Stored o at (list_item_lem (tree_of l f) (part b w) (s + w.from)) e o' →
      Storing lens l t ts b s o₀ at₀ o' e r' w.next
  storing_next e o' h =
      let j = fields-list lens l r r' f g.row i b p w q s in
      record {
        below = rw i.2 g.below;
        row = next_row lens l r r' f g.row i;
        ranges = (span_ok lens l r r' f g.row i b p g.ranges w q).2;
        accepted = storing_both.1;
        room = room_then o at _ _ _ e o' g.room j h;
        done = g.done ++ list_item_lem (tree_of l f) (part b w) (s + w.from);
        stored = stored_then o₀ at₀ g.done at o _ e o' _ g.stored h refl;
        whole = g.whole ∙ rw (j, ← append_assoc);
      }

pub storing_end : {lens l : List ℕ} {t : ℕ} {ts : Tys} {b : List ℕ} {s : ℕ} {o₀ : List ℕ} {at₀ : ℕ} {o : List ℕ} {at : ℕ} {r : Series} {p : ℕ} →
    Storing lens l t ts b s o₀ at₀ o at r p → r.many ≡ 0 → Stored o₀ at₀ (list_fields_lem ts b 0 s) at o
unfolding list_item_lem
storing_end {l = l} {ts = ts} {b = b} {s = s} {r = r} g h =
    let e : list_fields_lem ts b 0 s ≡ g.done = g.whole ∙ rw (types_none l r h, append-nil) in
    rw e g.stored

pub stored-length : (o : List ℕ) (at : ℕ) (x : List ℕ) (r : ℕ) (o' : List ℕ) → Stored o at x r o' → length o' ≡ length o
stored-length o at x r o' g = ap length g.list ∙ length-sets o at x

-- Items, by their kind.
module _ (l : List ℕ) (t : ℕ) (n : Node) (e : n ≡ node_of l t) (b : List ℕ) (s : ℕ) where
  pub list-container : n.kind ≡ Kind.Container → list_item_lem (tree_of l t) b s ≡ entry t b s ++ list_fields_lem (row_of l t (n.at + 2) 1 n.second) b 0 s
  unfolding list_item_lem
  list-container k = rw (container_tree l t n e k)

  leaf-list : (t : ℕ) (n : Node) (b : List ℕ) (s : ℕ) → list_item_lem (leaf_of t n) b s ≡ entry t b s
  unfolding list_item_lem
  leaf-list t n b s =
      leaf-cases t n (λ (x : Ty). list_item_lem x b s ≡ entry t b s) (λ e. refl) (λ e. refl) (λ e. refl) refl (λ e. refl) refl

  pub list-leaf : is_leaf n.kind ≡ true → list_item_lem (tree_of l t) b s ≡ entry t b s
  list-leaf h = rw (as_leaf l t n e h) (leaf-list t n b s)

pub leaf-stored : (l : List ℕ) (f : ℕ) (n : Node) → n ≡ node_of l f → is_leaf n.kind ≡ true → (o : List ℕ) (at : ℕ) (b : List ℕ) (s r : ℕ) (o' : List ℕ) →
    Stored o at (entry f b s) r o' → Stored o at (list_item_lem (tree_of l f) b s) r o'
leaf-stored l f n e h o at b s r o' g = rw (list-leaf l f n e b s h) g

-- The listing of the option that is asked for.
module _ (l : List ℕ) (lower : List Ty) (b : List ℕ) (s : ℕ) where
  listed : ℕ → List ℕ
  listed w = pick (eqb w 4294967295) [] (list_item_lem (get_or lower w (boolean 0)) (drop 1 b) (s + 1))

  list-here : (w : ℕ) (os : Opts) (k : ℕ) → list_option (pick (eqb w 4294967295) (bare k os) (body k (get_or lower w (boolean 0)) os)) k b s ≡ listed w
  unfolding list_item_lem listed
  list-here w os k = go (eqb w 4294967295)
    where
      go : (c : Bool) → list_option (pick c (bare k os) (body k (get_or lower w (boolean 0)) os)) k b s ≡
          pick c [] (list_item_lem (get_or lower w (boolean 0)) (drop 1 b) (s + 1))
      go true = rw (eq-eqb k k refl)
      go false = rw (eq-eqb k k refl)

  list_skip : (c : Bool) (x : Ty) (os : Opts) (j k : ℕ) → (k ≡ j → ⊥) → list_option (pick c (bare j os) (body j x os)) k b s ≡ list_option os k b s
  unfolding list_item_lem
  list_skip true x os j k h = rw (ne_eqb k j h)
  list_skip false x os j k h = rw (ne_eqb k j h)

  list-option : (n a j k : ℕ) → j ≤ k → k < j + n → list_option (options l lower a j n) k b s ≡ listed (word_at l (a + (k - j)))
  unfolding options
  list-option zero a j k h i = absurd (omega arith)
  list-option (suc n) a j k h i = go (eqb k j) refl (list-option n (a + 1) (j + 1) k)
    where
      go : (c : Bool) → eqb k j ≡ c → (j + 1 ≤ k → k < j + 1 + n →
          list_option (options l lower (a + 1) (j + 1) n) k b s ≡ listed (word_at l (a + 1 + (k - (j + 1))))) →
          list_option (pick (eqb (word_at l a) 4294967295) (bare j (options l lower (a + 1) (j + 1) n))
          (body j (get_or lower (word_at l a) (boolean 0)) (options l lower (a + 1) (j + 1) n))) k b s ≡ listed (word_at l (a + (k - j)))
      go true p f =
          let q : k ≡ j = eqb-true _ _ p in
          let m : a + (k - j) ≡ a = omega arith in
          rw (m, q) (list-here (word_at l a) (options l lower (a + 1) (j + 1) n) j)
      go false p f =
          let q : k ≡ j → ⊥ = eqb-false _ _ p in
          let m : a + 1 + (k - (j + 1)) ≡ a + (k - j) = omega arith in
          list_skip (eqb (word_at l a) 4294967295) (get_or lower (word_at l a) (boolean 0)) (options l lower (a + 1) (j + 1) n) j k q ∙
          rw m at (f (omega arith) (omega arith))

  list-chosen : (a n : ℕ) → get_or b 0 0 < n → list_option (options l lower a 0 n) (get_or b 0 0) b s ≡ listed (word_at l (a + get_or b 0 0))
  list-chosen a n h = let j : get_or b 0 0 - 0 ≡ get_or b 0 0 = omega arith in rw j at (list-option n a 0 (get_or b 0 0) (omega arith) (omega arith))

-- A container's and a union's parts are accepted, and stored behind their own record.
module _ (lens l : List ℕ) (t : ℕ) (n : Node) (e : n ≡ node_of l t) (g : Under lens l (t + 1)) (b : List ℕ) (s : ℕ)
    (h : IsAccepted (read_item (tree_of l t) b s)) where
  module _ (k : n.kind ≡ Kind.Container) where
    container-both : (lay_out_lem (heads_of l t (n.at + 2) 1 n.second) b ≡ Ok tt) ×
        IsAccepted (and_then (one 0 0) (read_fields (row_of l t (n.at + 2) 1 n.second) b 0 s))
    container-both = built-both _ t s _ (rw (container-read lens l t n e g k b s) at h)

    pub container-accepted : InRange (heads_of l t (n.at + 2) 1 n.second) b 0 0 × IsAccepted (read_fields (row_of l t (n.at + 2) 1 n.second) b 0 s)
    container-accepted = (
      layout-ranges _ b container-both.0,
      (then_both (one 0 0) (read_fields (row_of l t (n.at + 2) 1 n.second) b 0 s)
          container-both.1).1,
    )

  module _ (k : n.kind ≡ Kind.Union) where
    union-list : get_or b 0 0 < n.second → list_item_lem (tree_of l t) b s ≡ entry t b s ++ listed l (trees l t) b s (word_at l (n.at + 2 + get_or b 0 0))
    unfolding list_item_lem
    union-list i = rw (as_union l t n e k, list-chosen l (trees l t) b s (n.at + 2) n.second i)

    pub union-bare : (Ok None) ≡ choose l (n.at + 2) n.second b → list_item_lem (tree_of l t) b s ≡ entry t b s
    unfolding listed
    union-bare q =
        let r = bare-says l (n.at + 2) n.second b (sym q) in
        union-list r.0 ∙ rw (r.1, append-nil)

    pub union-never : {A : Type 0} (r : Refusal) → Err r ≡ choose l (n.at + 2) n.second b → A
    union-never r q = absurd (rw (← wrong-read lens l t n e g k b s r q) at h)

    module _ (o : ℕ) (q : Ok (Some o) ≡ choose l (n.at + 2) n.second b) where
      pub union-body : list_item_lem (tree_of l t) b s ≡ entry t b s ++ list_item_lem (tree_of l o) (take (length b - 1) (drop 1 b)) (s + 1)
      unfolding listed
      union-body =
          let r = body-says l (n.at + 2) n.second b o (sym q) in
          let z = body_below lens l t n e g k b o q in
          union-list r.0 ∙ rw (
            ← r.1,
            ne_eqb o 4294967295 (rw (← r.1) at r.2),
            trees-get l t o (boolean 0) z.0,
            take_all (length b - 1)
                (drop 1 b) (simp length-drop (omega arith)),
          )

      pub body-accepted : IsAccepted (read_item (tree_of l o) (take (length b - 1) (drop 1 b)) (s + 1))
      body-accepted = (then_both (one 1 0) (read_item (tree_of l o) (take (length b - 1) (drop 1 b)) (s + 1)) (rw (← body-read lens l t n e g k b o q s) at h)).1

-- A listing begins with a record.
list-long : (x : Ty) (b : List ℕ) (s : ℕ) → 12 ≤ length (list_item_lem x b s)
unfolding list_item_lem
list-long (number t w) b s = omega (arith, length-entry t b s)
list-long (boolean t) b s = omega (arith, length-entry t b s)
list-long (fixed_bytes t n) b s = omega (arith, length-entry t b s)
list-long (free_bytes t limit) b s = omega (arith, length-entry t b s)
list-long (bit_vector t n) b s = omega (arith, length-entry t b s)
list-long (bit_list t limit) b s = omega (arith, length-entry t b s)
list-long (container t ts) b s = simp (length-append, length-entry) (omega arith)
list-long (union t os) b s = simp (length-append, length-entry) (omega arith)
list-long (list t e limit) b s = simp (length-append, length-entry) (omega arith)
list-long (vector t e n) b s = simp (length-append, length-entry) (omega arith)

pub room-long : (o : List ℕ) (at : ℕ) (x : Ty) (b : List ℕ) (s : ℕ) → Room o at (list_item_lem x b s) → at + 12 ≤ length o
room-long o at x b s g = omega (arith, g.room, list-long x b s)

-- An accepted message under a legal table: it is below 2^32 bytes, and there is room for as many records as it counts.
pub under-accepted : (l m : List ℕ) (n : ℕ) (c : Counts) → under_table_lem (Ok n) l m ≡ Ok c →
    (read_item (message_type l n) m 0 ≡ Ok c) × (length m < 2 ^ 32)
under-accepted l m n c e =
    let q = right_accepted (ltb 4294967295 (length m)) (read_item (message_type l n) m 0) (located TooLarge 0 0) c e in
    let k : length m ≤ 4294967295 = ltb-false _ _ q.0 in
    (q.1, omega arith)

pub records-room : (x : Ty) (m o : List ℕ) (c : Counts) → read_item x m 0 ≡ Ok c → c.records ≤ length o / 12 → Room o 0 (list_item_lem x m 0)
records-room x m o c e k = record { room = omega (arith, listed-length x m 0 c e) }
