-- The leaf records of an accepted message's listing are the leaf pieces of its value, in order, with type, start and end. Assumes nothing.
--     item_leaves      of an item, at any start: the leaf records of its listing are the leaf pieces of its value
--     listed_leaves    of the call: from its answer alone, for every layout and message
-- What is read of one listing and of another is read of both together (`Reads`), so the law goes up the tree of the table. A row of fields is
-- followed with the place p of the next fixed part and the place q of the next variable part, which is what the next offset says.
use mathlib.Core.Path.{◌≡◌, refl, sym, ap, ◌∙◌}
use mathlib.Core.Logic.{inl, inr}
use mathlib.Core.List.{List, [], ◌∷◌, ◌++◌, append_assoc, append-nil}
use mathlib.Core.Bool.{Bool, true, false}
use Prim.Native.Nat.{ℕ, zero, suc, ◌+◌, ◌-◌, ◌*◌, ◌/◌, ◌≤◌, ◌<◌, ◌^◌}
use native.Mathlib.Nat.{zero-add}
use native.Mathlib.Omega.{arith}
use borrow.Author.Tests.{eq-eqb, ne_eqb, lt-ltb, le-ltb, ltb-true, ltb-false}
use lib.ListN.{length, drop, length-append, length-take, length-drop}
use lib.Seq.{sets, length-sets, sets-eq, drop-drop, drop_at}
use lib.Dec.{ltb}
use Rattle.standard.specs.Choice.{pick}
use Rattle.standard.specs.Bytes.{Bytes, le, num_at}
use Rattle.standard.specs.Types.{Ty, Tys, Opts, container, union, list, vector, end, field, over, bare, body, head, heads, Rising, LegalTy, LegalAll, LegalOptions}
use Rattle.standard.specs.Parts.{fixed_lengths, join, next, span_of, part, split, InRange}
use Rattle.standard.specs.Serialize.{Val, Vals, Option, Ok, OkAll, OkOption, serialize, parts}
use Rattle.standard.specs.Pieces.{Kind, offset_word, selector_byte, leaf_body, Piece, field_at, next_fixed, next_variable, pieces, field_pieces, option_pieces}
use Rattle.standard.specs.declared.Head.{Head}
use Rattle.standard.specs.declared.Head.TheVariants.{Fixed, Variable}
use Rattle.standard.proofs.Bytes.{num-le}
use Rattle.standard.proofs.Join.{span_ranges, fixed-portion, join-ranges, join-next, split-join}
use Rattle.standard.proofs.Elements.{All, copies, all-copies, length-as_list, by_copies, alike-copies, ok-copies, pieces-copies}
use Rattle.standard.proofs.Laws.{heads-parts, legal-copies, values_sized, piece_bytes, piece-rest, selector, payload, selected_is, selector-bounds}
use Rattle.layout.specs.Kinds.{kind_of, is_leaf}
use Rattle.layout.specs.declared.Kind.{Kind as TypeKind}
use Rattle.layout.specs.Tree.{node_of, leaf_of, tree_of}
use Rattle.layout.specs.Table.{table_of}
use Rattle.layout.specs.Legal.{Legal}
use Rattle.layout.specs.declared.Node.{Node}
use Rattle.layout.proofs.Trees.{AllBodies, leaf-cases, node_holds, by_lower, legal_tree}
use Rattle.layout.proofs.Tables.{table_legal}
use Rattle.message.specs.Listing.{entry, list_item_lem, list_fields_lem, list_option}
use Rattle.message.specs.Leaves.{Item, kind_word, items_in, leaves_of, item_before, leaf_pieces}
use Rattle.message.specs.Check.{message_type, check_message, listed_of, list_message, listed_records}
use Rattle.message.specs.declared.Counts.{Counts}
use Rattle.message.proofs.Answers.{pick_right}
use Rattle.message.proofs.Copies.{list-copies, copies-many}
use Rattle.message.proofs.Records.{length-entry, listed-length}
use Rattle.message.proofs.Theorem.{message-read}
use Rattle.message.proofs.Tiles.{message-tiled}
use Rattle.std.specs.declared.result.Result.{Result}
use Rattle.std.specs.declared.result.Result.TheVariants.{Err}
use Rattle.std.specs.declared.option.Option.TheVariants.{Some, None}
use Rattle.message.specs.declared.RefusedAt.{RefusedAt}

-- The kind words of leaves are those below 6.
no_word : {A : Type 0} (k : TypeKind) → None ≡ Some k → A
no_word k e = cc

kind_above : (w : ℕ) → 9 < w → kind_of w ≡ None
unfolding kind_of
kind_above w h =
    let no : (n : ℕ) → n ≤ 9 → w ≡ n → ⊥ = λ (n : ℕ) (i : n ≤ 9) (e : w ≡ n). omega arith in
    rw (
      ne_eqb w 0 (no 0 (omega arith)),
      ne_eqb w 1 (no 1 (omega arith)),
      ne_eqb w 2 (no 2 (omega arith)),
      ne_eqb w 3 (no 3 (omega arith)),
      ne_eqb w 4 (no 4 (omega arith)),
      ne_eqb w 5 (no 5 (omega arith)),
      ne_eqb w 6 (no 6 (omega arith)),
      ne_eqb w 7 (no 7 (omega arith)),
      ne_eqb w 8 (no 8 (omega arith)),
      ne_eqb w 9 (no 9 (omega arith)),
    )

word_says : (w : ℕ) (k : TypeKind) → kind_of w ≡ Some k → ltb w 6 ≡ is_leaf k
unfolding kind_of
word_says zero k e = let q : TypeKind.Number ≡ k = cc in rw (← q)
word_says (suc zero) k e = let q : TypeKind.Boolean ≡ k = cc in rw (← q)
word_says (suc (suc zero)) k e = let q : TypeKind.FixedBytes ≡ k = cc in rw (← q)
word_says (suc (suc (suc zero))) k e = let q : TypeKind.FreeBytes ≡ k = cc in rw (← q)
word_says (suc (suc (suc (suc zero)))) k e = let q : TypeKind.BitVector ≡ k = cc in rw (← q)
word_says (suc (suc (suc (suc (suc zero))))) k e = let q : TypeKind.BitList ≡ k = cc in rw (← q)
word_says (suc (suc (suc (suc (suc (suc zero)))))) k e = let q : TypeKind.Container ≡ k = cc in rw (← q)
word_says (suc (suc (suc (suc (suc (suc (suc zero))))))) k e = let q : TypeKind.Union ≡ k = cc in rw (← q)
word_says (suc (suc (suc (suc (suc (suc (suc (suc zero)))))))) k e = let q : TypeKind.List ≡ k = cc in rw (← q)
word_says (suc (suc (suc (suc (suc (suc (suc (suc (suc zero))))))))) k e = let q : TypeKind.Vector ≡ k = cc in rw (← q)
word_says (suc (suc (suc (suc (suc (suc (suc (suc (suc (suc w)))))))))) k e = no_word k (sym (kind_above (suc (suc (suc (suc (suc (suc (suc (suc (suc (suc w)))))))))) (omega arith)) ∙ e)

leaf_word : (w : ℕ) (k : TypeKind) → kind_of w ≡ Some k → is_leaf k ≡ true → w < 6
leaf_word w k e h = ltb-true w 6 (word_says w k e ∙ h)

node_word : (w : ℕ) (k : TypeKind) → kind_of w ≡ Some k → is_leaf k ≡ false → 6 ≤ w
node_word w k e h = ltb-false w 6 (word_says w k e ∙ h)

-- Leaves of two rows.
leaves_append : (l : List ℕ) (xs ys : List Item) → leaves_of l (xs ++ ys) ≡ leaves_of l xs ++ leaves_of l ys
unfolding leaves_of
leaves_append l [] ys = refl
leaves_append l (x ∷ xs) ys = go (ltb (kind_word l x.type) 6) (leaves_append l xs ys)
  where
    go : (c : Bool) → leaves_of l (xs ++ ys) ≡ leaves_of l xs ++ leaves_of l ys
        → pick c (x ∷ leaves_of l (xs ++ ys)) (leaves_of l (xs ++ ys)) ≡ pick c (x ∷ leaves_of l xs) (leaves_of l xs) ++ leaves_of l ys
    go true e = ap (λ (zs : List Item). x ∷ zs) e
    go false e = e

pieces-append : (ps qs : List Piece) → leaf_pieces (ps ++ qs) ≡ leaf_pieces ps ++ leaf_pieces qs
unfolding leaf_pieces
pieces-append [] qs = refl
pieces-append (p ∷ ps) qs = go p.kind (pieces-append ps qs)
  where
    go : (k : Kind) → leaf_pieces (ps ++ qs) ≡ leaf_pieces ps ++ leaf_pieces qs
        → item_before k p.from p.to (leaf_pieces (ps ++ qs)) ≡ item_before k p.from p.to (leaf_pieces ps) ++ leaf_pieces qs
    go offset_word e = e
    go selector_byte e = e
    go (leaf_body t) e = ap (λ (xs : List Item). record { type = t; from = p.from; to = p.to } ∷ xs) e

items-append : (n m : ℕ) (b : List ℕ) → items_in (n + m) b ≡ items_in n b ++ items_in m (drop (12 * n) b)
unfolding items_in
items-append zero m b = rw (zero-add m)
items-append (suc n) m b =
    let e : suc n + m ≡ suc (n + m) = omega arith in
    let d : 12 * suc n ≡ 12 + 12 * n = omega arith in
    rw (e, d, ← drop-drop, items-append n m (drop 12 b))

-- The bytes x are whole records, and the leaves that they say are xs, whatever stands behind them.
record Reads (l x : List ℕ) (xs : List Item) : Type 0 where
  many : ℕ
  long : length x ≡ 12 * many
  read : (rest : List ℕ) → leaves_of l (items_in many (x ++ rest)) ≡ xs

reads_none : {l : List ℕ} → Reads l [] []
unfolding items_in leaves_of
reads_none = record { many = 0; long = refl; read = λ rest. refl }

reads-append : {l x y : List ℕ} {xs ys : List Item} → Reads l x xs → Reads l y ys → Reads l (x ++ y) (xs ++ ys)
reads-append {x = x} {y = y} g h =
    record {
      many = g.many + h.many;
      long = simp length-append (omega (arith, g.long, h.long));
      read = λ rest.
          rw (append_assoc, items-append, leaves_append, g.read, drop_at x (y ++ rest) (12 * g.many) g.long, h.read);
    }

-- One record says its item.
module _ (t : ℕ) (b : List ℕ) (s : ℕ) (i : t < 2 ^ 32) (j : s + length b < 2 ^ 32) where
  abbrev own : Item
  own = record { type = t; from = s; to = s + length b }

  entry-says : (rest : List ℕ) → items_in 1 (entry t b s ++ rest) ≡ own ∷ []
  unfolding items_in entry le num_at
  entry-says rest = rw (num-le 4 t (omega arith), num-le 4 s (omega arith), num-le 4 (s + length b) (omega arith))

  reads-entry : {l : List ℕ} {xs : List Item} → leaves_of l (own ∷ []) ≡ xs → Reads l (entry t b s) xs
  reads-entry {l = l} e = record { many = 1; long = length-entry t b s; read = λ rest. ap (leaves_of l) (entry-says rest) ∙ e }

  reads-leaf : {l : List ℕ} → kind_word l t < 6 → Reads l (entry t b s) (own ∷ [])
  unfolding leaves_of
  reads-leaf k = reads-entry (rw (lt-ltb _ 6 k))

  -- the record of an item that is no leaf, before those of its parts
  reads_node : {l x : List ℕ} {xs : List Item} → 6 ≤ kind_word l t → Reads l x xs → Reads l (entry t b s ++ x) xs
  unfolding leaves_of
  reads_node k = reads-append (reads-entry {xs = []} (rw (le-ltb _ 6 k)))

-- A field with the bytes x before a row of fields: where it ends, where the next fixed and variable parts stand, and that its leaves are its own.
module _ (hs : List Head) (b x : List ℕ) (p q : ℕ) where
  field-ends :
      (h : Head) → part b (span_of h hs b p) ≡ x → InRange (h ∷ hs) b p 0
      → ((span_of h hs b p).from + length x ≡ (span_of h hs b p).to) × ((span_of h hs b p).to ≤ length b)
  field-ends h e r =
      let w = span_ranges h hs b p r in
      let k : length x ≡ (span_of h hs b p).to - (span_of h hs b p).from =
      ap length (sym e) ∙ simp (length-take, length-drop) (omega (arith, w.0, w.1)) in
      (omega (arith, w.0), w.1)

  field_next :
      (h : Head) → part b (span_of h hs b p) ≡ x → InRange (h ∷ hs) b p 0 → next (h ∷ hs) b p ≡ q
      → ((span_of h hs b p).next ≡ next_fixed h x p) × (next hs b (span_of h hs b p).next ≡ next_variable h x q)
  unfolding next
  field_next (Fixed m) e r n = (sym (field-ends (Fixed m) e r).0, n)
  field_next Variable e r n = (refl, omega (arith, (field-ends Variable e r).0))

  field_leaves :
      (h : Head) (s : ℕ) (own : ℕ → List Piece) → next (h ∷ hs) b p ≡ q
      → leaf_pieces (field_at h s p q own) ≡ leaf_pieces (own (s + (span_of h hs b p).from))
  unfolding next leaf_pieces
  field_leaves (Fixed m) s own n = refl
  field_leaves Variable s own n = rw n

-- The law about one type, from it that about a row of fields, and that about elements and options.
module _ (l : List ℕ) where
  Agrees : Ty → Type 0
  Agrees t =
      (v : Val t) (s : ℕ) → LegalTy t → Ok t v → s + length (serialize t v) < 2 ^ 32
      → Reads l (list_item_lem t (serialize t v) s) (leaf_pieces (pieces t v s))

  row_leaves :
      (ts : Tys) → All Agrees ts → (vs : Vals ts) (b : List ℕ) (p q s : ℕ) → LegalAll ts → OkAll ts vs → s + length b < 2 ^ 32
      → InRange (heads ts) b p 0 → next (heads ts) b p ≡ q → split (heads ts) b p ≡ parts ts vs
      → Reads l (list_fields_lem ts b p s) (leaf_pieces (field_pieces ts vs s p q))
  unfolding Agrees list_item_lem pieces serialize Ok heads split LegalTy leaf_pieces
  row_leaves end f vs b p q s g h k r n e = reads_none
  row_leaves (field t ts) f vs b p q s g h k r n e =
      let w = span_of (head t) (heads ts) b p in
      let x = serialize t vs.0 in
      let u = piece_bytes (head t) (part b w) x (split (heads ts) b w.next) (parts ts vs.1) e in
      let z = piece-rest (head t) (part b w) x (split (heads ts) b w.next) (parts ts vs.1) e in
      let c = field-ends (heads ts) b x p q (head t) u r in
      let d = field_next (heads ts) b x p q (head t) u r n in
      let first = f.0 vs.0 (s + w.from) g.0 h.0 (omega (arith, c)) in
      let rest = row_leaves ts f.1 vs.1 b w.next (next_variable (head t) x q) s g.1 h.1 k
      (span_ranges (head t) (heads ts) b p r).2 d.1 z in
      rw (pieces-append, field_leaves (heads ts) b x p q (head t) s (λ (i : ℕ). pieces t vs.0 i) n, u, ← d.0)
      (reads-append first rest)

  whole_leaves :
      (ts : Tys) → All Agrees ts → (vs : Vals ts) (s : ℕ) → LegalAll ts → OkAll ts vs → s + length (join (parts ts vs)) < 2 ^ 32
      → Reads l (list_fields_lem ts (join (parts ts vs)) 0 s) (leaf_pieces (field_pieces ts vs s 0 (fixed_lengths (parts ts vs))))
  whole_leaves ts f vs s g h k =
      let xs = parts ts vs in
      let z = values_sized ts vs h in
      let d = heads-parts ts vs in
      let small : length (join xs) < 2 ^ 32 = omega arith in
      row_leaves ts f vs (join xs) 0 (fixed_lengths xs) s g h k (rw d at (join-ranges xs z small))
      (rw d at (join-next xs z small ∙ sym (fixed-portion xs z))) (rw d at (split-join xs z small))

  option_leaves :
      (os : Opts) → AllBodies Agrees os → (v : Option os) (k s : ℕ) → Rising k os → LegalOptions os → OkOption os v
      → s + length (selector os v ∷ payload os v) < 2 ^ 32
      → Reads l (list_option os (selector os v) (selector os v ∷ payload os v) s) (leaf_pieces (option_pieces os v s))
  unfolding Agrees list_item_lem pieces serialize Ok LegalTy Rising selector payload leaf_pieces
  option_leaves over f v k s r g h n = absurd v
  option_leaves (bare j os) f (inl x) k s r g h n = rw (eq-eqb j j refl) reads_none
  option_leaves (bare j os) f (inr v) k s r g h n =
      let m = selector-bounds os (j + 1) v r.2 in
      rw (ne_eqb (selector os v) j (λ (q : selector os v ≡ j). omega arith)) (option_leaves os f v (j + 1) s r.2 g h n)
  option_leaves (body j o os) f (inl x) k s r g h n = rw (eq-eqb j j refl) (f.0 x (s + 1) g.0 h (omega arith))
  option_leaves (body j o os) f (inr v) k s r g h n =
      let m = selector-bounds os (j + 1) v r.2 in
      rw (ne_eqb (selector os v) j (λ (q : selector os v ≡ j). omega arith)) (option_leaves os f.1 v (j + 1) s r.2 g.1 h n)

  -- A type of each kind, by what the table says of its number
  leaf-agrees : (t : ℕ) (n : Node) → t < 2 ^ 32 → kind_word l t < 6 → Agrees (leaf_of t n)
  unfolding Agrees list_item_lem pieces leaf_pieces
  leaf-agrees t n i k =
      leaf-cases t n Agrees
      (λ e v s g h j. reads-leaf t _ s i j k)
      (λ e v s g h j. reads-leaf t _ s i j k)
      (λ e v s g h j. reads-leaf t _ s i j k)
      (λ v s g h j. reads-leaf t _ s i j k)
      (λ e v s g h j. reads-leaf t _ s i j k)
      (λ v s g h j. reads-leaf t _ s i j k)

  module _ (t : ℕ) (i : t < 2 ^ 32) (k : 6 ≤ kind_word l t) where
    container-agrees : (ts : Tys) → All Agrees ts → Agrees (container t ts)
    unfolding Agrees list_item_lem pieces serialize Ok LegalTy
    container-agrees ts f vs s g h j = reads_node t _ s i j k (whole_leaves ts f vs s g.1 h j)

    union-agrees : (os : Opts) → AllBodies Agrees os → Agrees (union t os)
    unfolding Agrees list_item_lem pieces serialize Ok LegalTy
    union-agrees os f v s g h j =
        let e = selected_is os v in
        let m = rw e at j in
        rw e (reads_node t _ s i m k (option_leaves os f v 0 s g.1 g.2 h m))

    -- n elements are n fields
    elements_leaves :
        (e : Ty) → Agrees e → (n : ℕ) (vs : Vals (copies e n)) (s : ℕ) → LegalTy e → OkAll (copies e n) vs
        → s + length (join (parts (copies e n) vs)) < 2 ^ 32
        → Reads l (entry t (join (parts (copies e n) vs)) s ++ list_fields_lem (copies e n) (join (parts (copies e n) vs)) 0 s)
        (leaf_pieces (field_pieces (copies e n) vs s 0 (fixed_lengths (parts (copies e n) vs))))
    elements_leaves e f n vs s g h j =
        reads_node t _ s i j k (whole_leaves (copies e n) (all-copies Agrees e n f) vs s (legal-copies e n g) h j)

    list-agrees : (e : Ty) (limit : ℕ) → Agrees e → Agrees (list t e limit)
    unfolding Agrees list_item_lem pieces serialize Ok LegalTy
    list-agrees e limit f =
        by_copies e _
        (λ n vs s g h j.
        let q = alike-copies e n vs in
        let o = ok-copies e n vs h.1 in
        let d = rw q at j in
        let m : n ≤ limit = rw (length-as_list e n vs) at h.0 in
        rw (q, copies-many e limit n vs g o (omega arith) m, list-copies e n (join (parts (copies e n) vs)) 0 s, pieces-copies e n vs)
        (elements_leaves e f n vs s g o d))

    vector-agrees : (e : Ty) (m : ℕ) → Agrees e → Agrees (vector t e m)
    unfolding Agrees list_item_lem pieces serialize Ok LegalTy
    vector-agrees e m f =
        by_copies e _
        (λ n vs s g h j.
        let q = alike-copies e n vs in
        let c : m ≡ n = sym h.0 ∙ length-as_list e n vs in
        rw (q, c, list-copies e n (join (parts (copies e n) vs)) 0 s, pieces-copies e n vs)
        (elements_leaves e f n vs s g.1 (ok-copies e n vs h.1) (rw q at j)))

  tree_agrees : (n : ℕ) → Legal l n → n ≤ 64 → (t : ℕ) → t < n → Agrees (tree_of l t)
  unfolding Legal node_of
  tree_agrees n g few =
      by_lower (λ (u : ℕ). Agrees (tree_of l u)) n
      (λ t h f.
      let i : t < 2 ^ 32 = omega arith in
      node_holds Agrees l t f (node_of l t) refl (g t h)
      (λ k. leaf-agrees t (node_of l t) i (leaf_word _ _ (g t h).known k))
      (λ k. container-agrees t i (node_word _ _ (g t h).known (rw k)) _)
      (λ k. union-agrees t i (node_word _ _ (g t h).known (rw k)) _)
      (λ k. list-agrees t i (node_word _ _ (g t h).known (rw k)) _ _)
      (λ k. vector-agrees t i (node_word _ _ (g t h).known (rw k)) _ _))

-- An item: the listing of a value's encoding, of a type of a legal table, at any start.
module _ (l : List ℕ) (n : ℕ) (h : Bytes l) (e : table_of l ≡ Result.Ok n) (t : ℕ) (i : t < n) (v : Val (tree_of l t)) (o : Ok (tree_of l t) v)
    (b : List ℕ) (q : serialize (tree_of l t) v ≡ b) (s : ℕ) (j : s + length b < 2 ^ 32) where
  item_reads : Reads l (list_item_lem (tree_of l t) b s) (leaf_pieces (pieces (tree_of l t) v s))
  unfolding Agrees
  item_reads =
      let g = table_legal l n h e in
      rw q at (tree_agrees l n g.0 g.2 t i v s (legal_tree l n t g.0 i) o (rw q j))

  pub item_leaves : (k : ℕ) × (length (list_item_lem (tree_of l t) b s) ≡ 12 * k) ×
      (leaves_of l (items_in k (list_item_lem (tree_of l t) b s)) ≡ leaf_pieces (pieces (tree_of l t) v s))
  item_leaves = (item_reads.many, item_reads.long, rw append-nil at (item_reads.read []))

-- What is said of a call that lists k records of the message m under the layout l in the buffer o: the layout is legal and has so many types, the
-- message is the encoding of a value within bounds, and the leaves among the k records that the buffer then begins with are that value's leaf pieces.
pub record Leaves (l m o : List ℕ) (k : ℕ) : Type 0 where
  pub types : ℕ
  pub legal : table_of l ≡ Result.Ok types
  pub value : Val (message_type l types)
  pub in_bounds : Ok (message_type l types) value
  pub encoded : serialize (message_type l types) value ≡ m
  -- no record is cut
  pub all_there : 12 * k ≤ length (listed_records l m o)
  pub same_leaves : leaves_of l (items_in k (listed_records l m o)) ≡ leaf_pieces (pieces (message_type l types) value 0)

-- The answer says that the message is accepted, with so many records, and that there is room for them.
records_say :
    (x : Result Counts RefusedAt) (o : List ℕ) (k : ℕ) → listed_of x o ≡ Result.Ok k
    → (c : Counts) × (x ≡ Result.Ok c) × (c.records ≤ length o / 12) × (c.records ≡ k)
records_say (Err r) o k e = let z : ◌≡◌ {A = ℕ} 0 1 = cc in absurd (omega arith)
records_say (Result.Ok c) o k e =
    let i = pick_right (ltb (length o / 12) c.records) _ _ (Result.Ok k) (λ f. let z : ◌≡◌ {A = ℕ} 0 1 = cc in omega arith) e in
    let q : ◌≡◌ {A = Result ℕ RefusedAt} (Result.Ok c.records) (Result.Ok k) = i.1 in
    (c, refl, ltb-false _ _ i.0, cc)

-- Records that are stored at the front are read there.
reads-stored :
    {l x : List ℕ} {xs : List Item} (o : List ℕ) (k : ℕ) → Reads l x xs → length x ≡ 12 * k → 12 * k ≤ length o
    → leaves_of l (items_in k (sets o 0 x)) ≡ xs
reads-stored {x = x} o k g h i =
    let n : g.many ≡ k = omega (arith, g.long) in
    rw (sets-eq x o 0 (omega arith), ← n) (g.read (drop (0 + length x) o))

-- What the call leaves in the buffer.
listed-stored :
    (l m o : List ℕ) (n : ℕ) (c : Counts) → table_of l ≡ Result.Ok n → check_message l m ≡ Result.Ok c → c.records ≤ length o / 12
    → listed_records l m o ≡ sets o 0 (list_item_lem (message_type l n) m 0)
unfolding listed_records
listed-stored l m o n c e f h = rw (e, f, le-ltb _ _ h)

pub listed_leaves : (l m o : List ℕ) (k : ℕ) → Bytes l → Bytes m → list_message l m o ≡ Result.Ok k → Leaves l m o k
unfolding list_message
listed_leaves l m o k h i e =
    let q = records_say (check_message l m) o k e in
    let g = message-tiled l m h i q.0 q.1 in
    let n = g.types in
    let a = sym (message-read l n h g.legal m g.small) ∙ q.1 in
    let u = listed-stored l m o n q.0 g.legal q.1 q.2 in
    let some = (table_legal l n h g.legal).1 in
    let r = item_reads l n h g.legal (n - 1) (omega (arith, some)) g.value g.in_bounds m g.encoded 0 (omega (arith, g.small)) in
    let long = rw q.3 at (listed-length (message_type l n) m 0 q.0 a) in
    let room : 12 * k ≤ length o = omega (arith, q.2, q.3) in
    record {
      types = n;
      legal = g.legal;
      value = g.value;
      in_bounds = g.in_bounds;
      encoded = g.encoded;
      all_there = rw (u, length-sets) room;
      same_leaves = rw u (reads-stored o k r long room);
    }
