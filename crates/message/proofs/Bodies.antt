-- Containers and unions: what their steps give is what the rules of reading say. Assumes nothing.
use mathlib.Core.Path.{◌≡◌, refl, sym, ap, ◌∙◌}
use mathlib.Core.List.{List}
use mathlib.Core.Bool.{Bool, true, false}
use mathlib.Core.Logic.{◌⊎◌, inl, inr, ⊎_elim}
use Prim.Native.Nat.{ℕ, zero, suc, ◌+◌, ◌-◌, ◌≤◌, ◌<◌, ◌^◌}
use native.Mathlib.Nat.{add-zero}
use native.Mathlib.Omega.{arith}
use borrow.Author.Tests.{eqb-true, eqb-false, ltb-true, lt-ltb, le-ltb, eq-eqb, ne_eqb, le-leb}
use lib.ListN.{length, get_or, take, drop, length-drop}
use lib.Seq.{take_all}
use lib.Dec.{eqb, leb, ltb}
use Rattle.standard.specs.Choice.{pick}
use Rattle.standard.specs.Bytes.{word_at}
use Rattle.standard.specs.Types.{Ty, Opts, number, boolean, fixed_bytes, free_bytes, union, bare, body, head, Tys, heads}
use Rattle.standard.specs.Parts.{span_of, part, InRange}
use Rattle.standard.specs.declared.Head.TheVariants.{Fixed}
use Rattle.standard.specs.declared.Span.{Span}
use Rattle.standard.specs.declared.Refusal.{Refusal}
use Rattle.standard.specs.declared.Refusal.TheVariants.{OutOfBoundsByte, UnionSelectorInvalid, InvalidByteLength, OverLimit}
use Rattle.decode.specs.Builder.{lay_out_lem}
use Rattle.layout.specs.Tree.{node_of, leaf_of, options, trees, tree_of, len_of}
use Rattle.layout.specs.Legal.{LowerOrBare}
use Rattle.layout.specs.declared.Node.{Node}
use Rattle.layout.proofs.Facts.{trees-get, as_union, as_leaf}
use Rattle.message.specs.Read.{one, plus, and_then, built, read_exact, read_item, read_fields, read_option}
use Rattle.message.specs.Steps.{Under, Row, row_of, heads_of, placed, option_at_lem, choice_of, choose, Small, types_of, Next}
use Rattle.message.specs.declared.Counts.{Counts}
use Rattle.message.proofs.Answers.{then_assoc}
use Rattle.message.proofs.Bounds.{counts_small}
use Rattle.message.proofs.Sums.{Summed, spread, spread-small, summed-own, summed-small, summed-item}
use Rattle.message.proofs.Rows.{Lies, node_legal, under-below, container_tree, container-named, first-ranges, span_ok, span_lies, next_types, next_row, next_heads, next_under, next_below, types_none}
use Rattle.std.specs.declared.result.Result.{Result}
use Rattle.std.specs.declared.result.Result.TheVariants.{Ok, Err}
use Rattle.std.specs.declared.option.Option.{Option}
use Rattle.std.specs.declared.option.Option.TheVariants.{Some, None}
use Rattle.message.specs.declared.RefusedAt.{RefusedAt}
use Rattle.message.specs.declared.Sizes.{Sizes}
use Rattle.message.specs.Read.{located}
use Rattle.layout.specs.declared.Kind.{Kind}
use Rattle.layout.specs.Kinds.{is_leaf, is_plain}
use Rattle.message.specs.declared.parts.Series.{Series}

plus-zero : (a : Counts) → plus a (record { records = 0; words = 0; bytes = 0 }) ≡ a
plus-zero a = simp add-zero

-- The loop of `field_check`: what is counted, and what is left to read, give the whole of the fields ts. What holds them has `own` contents words.
pub record Reading (lens l : List ℕ) (t : ℕ) (ts : Tys) (own : ℕ) (b : List ℕ) (s : ℕ) (sum : Counts) (r : Series) (p : ℕ) : Type 0 where
  pub below : r.below ≤ t
  pub row : Row lens l r.below r.first r.step r.many
  pub ranges : InRange (heads (types_of l r)) b p 0
  pub summed : Summed sum (spread (heads (types_of l r)) b p) (spread (heads ts) b 0)
  pub short : spread (heads ts) b 0 < 2 ^ 33
  pub same : and_then (Ok sum) (read_fields (types_of l r) b p s) ≡ and_then (one own 0) (read_fields ts b 0 s)

pub reading-new : (lens l : List ℕ) (r : Series) (own : ℕ) (b : List ℕ) (s : ℕ) → Row lens l r.below r.first r.step r.many → s + length b < 2 ^ 32 →
    InRange (heads (types_of l r)) b 0 0 → own ≤ 1 →
    Reading lens l r.below (types_of l r) own b s (record { records = 1; words = own; bytes = 0 }) r 0
reading-new lens l r own b s g h j i =
    record { below = omega arith; row = g; ranges = j; summed = summed-own own i _; short = spread-small _ b j (omega arith); same = refl }

pub reading_small : {lens l : List ℕ} {t : ℕ} {ts : Tys} {own : ℕ} {b : List ℕ} {s : ℕ} {sum : Counts} {r : Series} {p : ℕ} →
    Reading lens l t ts own b s sum r p → Small sum (2 ^ 50)
reading_small g = summed-small _ _ _ g.summed g.short

-- What an item counts.
pub item-small : (lens l : List ℕ) (f : ℕ) (b : List ℕ) (s : ℕ) (c : Counts) → Under lens l (f + 1) → length b < 2 ^ 32 →
    Ok c ≡ read_item (tree_of l f) b s → Small c (2 ^ 40)
item-small lens l f b s c g k e =
    let q = counts_small l f b s c g.legal (omega (arith, g.few)) k (sym e) in
    record { records = omega (arith, q.0); words = omega (arith, q.1); bytes = omega (arith, q.2) }

pub small-more : (c : Counts) → Small c (2 ^ 40) → Small c (2 ^ 50)
small-more c g = record { records = omega (arith, g.records); words = omega (arith, g.words); bytes = omega (arith, g.bytes) }

-- A number or fixed bytes: the table names the length, and an item of that length is accepted.
plain-kind : (k : Kind) → is_plain k ≡ true → (k ≡ Kind.Number) ⊎ (k ≡ Kind.FixedBytes)
unfolding is_plain
plain-kind Kind.Number h = inl refl
plain-kind Kind.FixedBytes h = inr refl
plain-kind k h = absurd (cc)

pub exact_read : (m t : ℕ) (b : List ℕ) (s k : ℕ) → length b ≡ k → k ≡ m → one 0 k ≡ read_exact m t b s
exact_read m t b s k h e = rw (h, eq-eqb k m e)

module _ (l : List ℕ) (f : ℕ) (n : Node) (e : n ≡ node_of l f) where
  as_number : n.kind ≡ Kind.Number → tree_of l f ≡ number f n.second
  unfolding leaf_of
  as_number h = as_leaf l f n e (rw h) ∙ rw h

  as_fixed_bytes : n.kind ≡ Kind.FixedBytes → tree_of l f ≡ fixed_bytes f n.second
  unfolding leaf_of
  as_fixed_bytes h = as_leaf l f n e (rw h) ∙ rw h

  pub as_free : n.kind ≡ Kind.FreeBytes → tree_of l f ≡ free_bytes f n.second
  unfolding leaf_of
  as_free h = as_leaf l f n e (rw h) ∙ rw h

  pub plain_type : is_plain n.kind ≡ true → (head (tree_of l f) ≡ Fixed n.second) ×
      ((b : List ℕ) (s : ℕ) → read_item (tree_of l f) b s ≡ read_exact n.second f b s)
  unfolding head read_item
  plain_type h =
      ⊎_elim
      (λ (k : n.kind ≡ Kind.Number). (rw (as_number k), λ b s. rw (as_number k)))
      (λ (k : n.kind ≡ Kind.FixedBytes). (rw (as_fixed_bytes k), λ b s. rw (as_fixed_bytes k)))
      (plain-kind n.kind h)

-- What a leaf is told to be, y, is what the rules of reading say.
pub leaf-told : (l : List ℕ) (f : ℕ) (n : Node) → n ≡ node_of l f → is_leaf n.kind ≡ true → (b : List ℕ) (x y : Result Sizes Refusal) → y ≡ x →
    ((t s : ℕ) → placed y t s ≡ read_item (leaf_of t n) b s) → (s : ℕ) → placed x f s ≡ read_item (tree_of l f) b s
leaf-told l f n e h b x y q k s = rw (← q, as_leaf l f n e h) (k f s)

-- The first field's answer, and that of the rest.
module _ (lens l : List ℕ) (r r' : Series) (f : ℕ) (g : Row lens l r.below r.first r.step r.many) (i : Next l r (Some f) r') (b : List ℕ) (p : ℕ) (w : Span)
    (q : w ≡ span_of (head (tree_of l f)) (heads (types_of l r')) b p) (s : ℕ) where
  pub fields_read : read_fields (types_of l r) b p s ≡ and_then (read_item (tree_of l f) (part b w) (s + w.from)) (read_fields (types_of l r') b w.next s)
  unfolding read_item
  fields_read = rw (next_types lens l r r' f g i, q)

module _ {lens l : List ℕ} {t : ℕ} {ts : Tys} {own : ℕ} {b : List ℕ} {s : ℕ} {sum : Counts} {r r' : Series} {p f : ℕ}
    (g : Reading lens l t ts own b s sum r p) (i : Next l r (Some f) r') {w : Span} (q : w ≡ span_of (head (tree_of l f)) (heads (types_of l r')) b p) where
  reading-first : and_then (Ok sum) (and_then (read_item (tree_of l f) (part b w) (s + w.from)) (read_fields (types_of l r') b w.next s)) ≡
      and_then (one own 0) (read_fields ts b 0 s)
  reading-first = rw (fields_read lens l r r' f g.row i b p w q s) at g.same

  -- where the first field lies, and what it counts
  pub reading_span : Lies b w
  reading_span = span_lies lens l r r' f g.row i b p g.ranges w q

  pub reading-item : (c : Counts) → s + length b < 2 ^ 32 → Ok c ≡ read_item (tree_of l f) (part b w) (s + w.from) → Small c (2 ^ 40)
  reading-item c h j = item-small lens l f (part b w) (s + w.from) c (next_under lens l r r' f g.row i) (omega (arith, reading_span)) j

  reading-summed : (c : Counts) → Ok c ≡ read_item (tree_of l f) (part b w) (s + w.from) →
      Summed (plus sum c) (spread (heads (types_of l r')) b w.next) (spread (heads ts) b 0)
  reading-summed c h =
      let u = next_under lens l r r' f g.row i in
      let j = rw (next_heads lens l r r' f g.row i) at g.summed in
      summed-item l f _ b p u.legal (omega (arith, u.few)) (first-ranges lens l r r' f g.row i b p g.ranges) w q (s + w.from) sum c _ j (sym h)

  pub reading-next : (c : Counts) → s + length b < 2 ^ 32 → Ok c ≡ read_item (tree_of l f) (part b w) (s + w.from) →
      Reading lens l t ts own b s (plus sum c) r' w.next
  reading-next c k h =
      record {
        below = rw i.2 g.below;
        row = next_row lens l r r' f g.row i;
        ranges = (span_ok lens l r r' f g.row i b p g.ranges w q).2;
        summed = reading-summed c h;
        short = g.short;
        same = then_assoc (Ok sum) (Ok c) (read_fields (types_of l r') b w.next s) ∙ rw (← h) at reading-first;
      }

  pub reading_stop : (e : RefusedAt) → Err e ≡ read_item (tree_of l f) (part b w) (s + w.from) → Err e ≡ and_then (one own 0) (read_fields ts b 0 s)
  reading_stop e h = rw (← h) at reading-first

  -- Free bytes: of them only the length is asked.
  module _ {d : Node} (j : d ≡ node_of l f) (k : d.kind ≡ Kind.FreeBytes) where
    free_read : read_item (tree_of l f) (part b w) (s + w.from) ≡
        pick (leb (w.to - w.from) d.second) (one 1 (w.to - w.from)) (Err (located (OverLimit (w.to - w.from) d.second) f (s + w.from)))
    unfolding read_item
    free_read = rw (as_free l f d j k, reading_span.2)

    pub free_next : w.to - w.from ≤ d.second → s + length b < 2 ^ 32 →
        Reading lens l t ts own b s (plus sum (record { records = 1; words = 1; bytes = w.to - w.from })) r' w.next
    free_next h m = reading-next _ m (rw (le-leb _ _ h) at (sym free_read))

-- A plain field: its length stands in the table, and of its bytes nothing else is asked.
module _ {lens l : List ℕ} {t : ℕ} {ts : Tys} {own : ℕ} {b : List ℕ} {s : ℕ} {sum : Counts} {r r' : Series} {p f : ℕ}
    (g : Reading lens l t ts own b s sum r p) (i : Next l r (Some f) r') {d : Node} (j : d ≡ node_of l f) (h : is_plain d.kind ≡ true) {k : ℕ}
    (q : k ≡ get_or lens f 0) where
  plain-length : k ≡ d.second
  plain-length = q ∙ g.row.under.found f (next_below lens l r r' f g.row i) ∙ ap len_of (plain_type l f d j h).0

  plain-head : Fixed k ≡ head (tree_of l f)
  plain-head = ap Fixed plain-length ∙ sym (plain_type l f d j h).0

  pub plain_fits : p + k ≤ length b
  unfolding InRange
  plain_fits = (rw (← plain-head) at (first-ranges lens l r r' f g.row i b p g.ranges)).0

  pub plain-next : s + length b < 2 ^ 32 →
      Reading lens l t ts own b s (plus sum (record { records = 1; words = 0; bytes = k })) r' (p + k)
  plain-next m =
      let w : Span = record { from = p; to = p + k; next = p + k } in
      let v : w ≡ span_of (head (tree_of l f)) (heads (types_of l r')) b p = rw (← plain-head) in
      let y : length (part b w) ≡ k = (reading_span g i v).2 ∙ omega arith in
      let x : one 0 k ≡ read_item (tree_of l f) (part b w) (s + p) =
      exact_read d.second f (part b w) (s + p) k y plain-length ∙ sym ((plain_type l f d j h).1 (part b w) (s + p)) in
      reading-next g i v (record { records = 1; words = 0; bytes = k }) m x

pub reading-end : {lens l : List ℕ} {t : ℕ} {ts : Tys} {own : ℕ} {b : List ℕ} {s : ℕ} {sum : Counts} {r : Series} {p : ℕ} →
    Reading lens l t ts own b s sum r p → r.many ≡ 0 → Ok sum ≡ and_then (one own 0) (read_fields ts b 0 s)
unfolding read_item
reading-end {l = l} {r = r} g h = sym (ap Ok (plus-zero _)) ∙ rw (types_none l r h) at g.same

-- A container.
module _ (lens l : List ℕ) (t : ℕ) (n : Node) (e : n ≡ node_of l t) (g : Under lens l (t + 1)) where
  pub container-row : n.kind ≡ Kind.Container → Row lens l t (n.at + 2) 1 n.second
  container-row k =
      let m = node_legal lens l t n e g in
      record {
        under = under-below lens l (t + 1) t (omega arith) g;
        near = omega (arith, m.near, m.few k);
        steps = omega arith;
        named = container-named l t (n.at + 2) n.second (m.within (rw k)) (m.lower k);
      }

  module _ (k : n.kind ≡ Kind.Container) (b : List ℕ) (s : ℕ) where
    pub container-read : read_item (tree_of l t) b s ≡ built (lay_out_lem (heads_of l t (n.at + 2) 1 n.second) b) t s
        (and_then (one 0 0) (read_fields (row_of l t (n.at + 2) 1 n.second) b 0 s))
    unfolding read_item
    container-read = rw (container_tree l t n e k)

    pub container-on : Ok tt ≡ lay_out_lem (heads_of l t (n.at + 2) 1 n.second) b →
        and_then (one 0 0) (read_fields (row_of l t (n.at + 2) 1 n.second) b 0 s) ≡ read_item (tree_of l t) b s
    container-on h = rw (container-read, ← h)

    pub container_stop : (r : Refusal) → Err r ≡ lay_out_lem (heads_of l t (n.at + 2) 1 n.second) b → Err (located r t s) ≡ read_item (tree_of l t) b s
    container_stop r h = rw (container-read, ← h)

-- A union: the walk along the options finds the word that the selector points to.
chosen : Result (Option ℕ) Refusal → List Ty → List ℕ → ℕ → ℕ → Result Counts RefusedAt
chosen (Ok None) lower b t s = one 1 0
chosen (Ok (Some o)) lower b t s = and_then (one 1 0) (read_item (get_or lower o (boolean 0)) (drop 1 b) (s + 1))
chosen (Err r) lower b t s = Err (located r t s)

module _ (l : List ℕ) (lower : List Ty) (b : List ℕ) (t s : ℕ) where
  -- the option that is asked for
  option-here : (w : ℕ) (os : Opts) (k : ℕ) → read_option (pick (eqb w 4294967295) (bare k os) (body k (get_or lower w (boolean 0)) os)) k b t s ≡
      chosen (option_at_lem w (length b)) lower b t s
  unfolding read_item chosen
  option-here w os k = go (eqb w 4294967295) (eqb (length b) 1)
    where
      alone : (d : Bool) → pick d (one 1 0) (Err (located (InvalidByteLength (length b - 1) 0) t s)) ≡
          chosen (pick d (Ok None) (Err (InvalidByteLength (length b - 1) 0))) lower b t s
      alone true = refl
      alone false = refl

      go : (c d : Bool) → read_option (pick c (bare k os) (body k (get_or lower w (boolean 0)) os)) k b t s ≡
          chosen (pick c (pick (eqb (length b) 1) (Ok None) (Err (InvalidByteLength (length b - 1) 0))) (Ok (Some w))) lower b t s
      go true d = rw (eq-eqb k k refl) (alone (eqb (length b) 1))
      go false d = rw (eq-eqb k k refl)

  -- another option
  option_skip : (c : Bool) (x : Ty) (os : Opts) (j k : ℕ) → (k ≡ j → ⊥) → read_option (pick c (bare j os) (body j x os)) k b t s ≡ read_option os k b t s
  unfolding read_item
  option_skip true x os j k h = rw (ne_eqb k j h)
  option_skip false x os j k h = rw (ne_eqb k j h)

  option-read : (n a j k : ℕ) → j ≤ k → read_option (options l lower a j n) k b t s ≡
      pick (ltb k (j + n)) (chosen (option_at_lem (word_at l (a + (k - j))) (length b)) lower b t s) (Err (located (UnionSelectorInvalid k) t s))
  unfolding options
  option-read zero a j k h = rw (le-ltb k (j + 0) (omega arith)) (unfold read_item in refl)
  option-read (suc n) a j k h = go (eqb k j) refl (option-read n (a + 1) (j + 1) k)
    where
      whole : Opts
      whole = pick (eqb (word_at l a) 4294967295) (bare j (options l lower (a + 1) (j + 1) n))
          (body j (get_or lower (word_at l a) (boolean 0)) (options l lower (a + 1) (j + 1) n))

      wanted : ℕ → ℕ → Result Counts RefusedAt
      wanted m i = pick (ltb k m) (chosen (option_at_lem (word_at l i) (length b)) lower b t s) (Err (located (UnionSelectorInvalid k) t s))

      go : (c : Bool) → eqb k j ≡ c → (j + 1 ≤ k → read_option (options l lower (a + 1) (j + 1) n) k b t s ≡
          wanted (j + 1 + n) (a + 1 + (k - (j + 1)))) → read_option whole k b t s ≡ wanted (j + suc n) (a + (k - j))
      go true p f =
          let q : k ≡ j = eqb-true _ _ p in
          let i : a + (k - j) ≡ a = omega arith in
          rw (lt-ltb k (j + suc n) (omega arith), i, q) (option-here (word_at l a) (options l lower (a + 1) (j + 1) n) j)
      go false p f =
          let q : k ≡ j → ⊥ = eqb-false _ _ p in
          let i : a + 1 + (k - (j + 1)) ≡ a + (k - j) = omega arith in
          let m : j + 1 + n ≡ j + suc n = omega arith in
          option_skip (eqb (word_at l a) 4294967295) (get_or lower (word_at l a) (boolean 0)) (options l lower (a + 1) (j + 1) n) j k q ∙
          rw (i, m) at (f (omega arith))

  -- the whole union
  union-chosen : (a n : ℕ) → read_item (union t (options l lower a 0 n)) b s ≡ chosen (choose l a n b) lower b t s
  unfolding choose read_item chosen
  union-chosen a n = go (eqb (length b) 0) (leb (get_or b 0 0) 127)
    where
      x : ℕ
      x = get_or b 0 0

      either : (c : Bool) (u : Result (Option ℕ) Refusal) → pick c (chosen u lower b t s) (Err (located (UnionSelectorInvalid x) t s)) ≡
          chosen (pick c u (Err (UnionSelectorInvalid x))) lower b t s
      either true u = refl
      either false u = refl

      inside : read_option (options l lower a 0 n) x b t s ≡ chosen
          (pick (ltb x n) (option_at_lem (word_at l (a + x)) (length b)) (Err (UnionSelectorInvalid x))) lower b t s
      inside =
          let i : 0 + n ≡ n = omega arith in
          let j : x - 0 ≡ x = omega arith in
          rw (i, j) at (option-read n a 0 x (omega arith)) ∙ either (ltb x n) (option_at_lem (word_at l (a + x)) (length b))

      go : (c d : Bool) → pick c (Err (located (OutOfBoundsByte 0) t s))
          (pick d (read_option (options l lower a 0 n) x b t s) (Err (located (UnionSelectorInvalid x) t s))) ≡
          chosen (choice_of (pick c (Err (OutOfBoundsByte 0))
          (pick d (Ok (record { 0 = x })) (Err (UnionSelectorInvalid x)))) l a n (length b)) lower b t s
      go true d = refl
      go false true = inside
      go false false = refl

-- What a chosen body says of the bytes and of the table.
body-option : (w len o : ℕ) → option_at_lem w len ≡ Ok (Some o) → (o ≡ w) × (w ≡ 4294967295 → ⊥)
body-option w len o e = go (eqb w 4294967295) (eqb len 1) refl e
  where
    go : (c d : Bool) → eqb w 4294967295 ≡ c → pick c (pick d (Ok None) (Err (InvalidByteLength (len - 1) 0))) (Ok (Some w)) ≡
        Ok (Some o) → (o ≡ w) × (w ≡ 4294967295 → ⊥)
    go true true p h = let z : ◌≡◌ {A = ℕ} 0 1 = cc in absurd (omega arith)
    go true false p h = let z : ◌≡◌ {A = ℕ} 0 1 = cc in absurd (omega arith)
    go false d p h = (cc, eqb-false _ _ p)

-- the choice, by its three tests
choice_by : List ℕ → ℕ → ℕ → List ℕ → Bool → Bool → Bool → Result (Option ℕ) Refusal
choice_by l a n b c d f =
    pick c (Err (OutOfBoundsByte 0))
    (pick d
    (pick f (option_at_lem (word_at l (a + get_or b 0 0)) (length b)) (Err (UnionSelectorInvalid (get_or b 0 0))))
    (Err (UnionSelectorInvalid (get_or b 0 0))))

choose_by : (l : List ℕ) (a n : ℕ) (b : List ℕ) → choose l a n b ≡ choice_by l a n b (eqb (length b) 0) (leb (get_or b 0 0) 127) (ltb (get_or b 0 0) n)
unfolding choose choice_by
choose_by l a n b = go (eqb (length b) 0) (leb (get_or b 0 0) 127)
  where
    x : ℕ
    x = get_or b 0 0

    go : (c d : Bool) → choice_of (pick c (Err (OutOfBoundsByte 0))
        (pick d (Ok (record { 0 = x })) (Err (UnionSelectorInvalid x)))) l a n (length b) ≡
        pick c (Err (OutOfBoundsByte 0)) (pick d (pick (ltb x n) (option_at_lem (word_at l (a + x)) (length b))
        (Err (UnionSelectorInvalid x))) (Err (UnionSelectorInvalid x)))
    go true d = refl
    go false true = refl
    go false false = refl

-- A choice that is no refusal comes from a word of the table, and there is a selector.
right_choice : (l : List ℕ) (a n : ℕ) (b : List ℕ) (u : Result (Option ℕ) Refusal) → ((r : Refusal) → Err r ≡ u → ⊥) → choose l a n b ≡ u →
    (get_or b 0 0 < n) × (option_at_lem (word_at l (a + get_or b 0 0)) (length b) ≡ u) × (1 ≤ length b)
unfolding choice_by
right_choice l a n b u never e = go (eqb (length b) 0) (leb (get_or b 0 0) 127) (ltb (get_or b 0 0) n) refl refl (sym (choose_by l a n b) ∙ e)
  where
    go : (c d f : Bool) → eqb (length b) 0 ≡ c → ltb (get_or b 0 0) n ≡ f → choice_by l a n b c d f ≡ u →
        (get_or b 0 0 < n) × (option_at_lem (word_at l (a + get_or b 0 0)) (length b) ≡ u) × (1 ≤ length b)
    go true d f p q h = absurd (never _ h)
    go false false f p q h = absurd (never _ h)
    go false true false p q h = absurd (never _ h)
    go false true true p q h = let y : length b ≡ 0 → ⊥ = eqb-false _ _ p in (ltb-true _ _ q, h, omega arith)

bare-option : (w len : ℕ) → option_at_lem w len ≡ Ok None → w ≡ 4294967295
bare-option w len e = go (eqb w 4294967295) refl e
  where
    go : (c : Bool) → eqb w 4294967295 ≡ c → pick c (pick (eqb len 1) (Ok None) (Err (InvalidByteLength (len - 1) 0))) (Ok (Some w)) ≡
        (Ok None) → w ≡ 4294967295
    go true p h = eqb-true _ _ p
    go false p h = let z : ◌≡◌ {A = ℕ} 0 1 = cc in absurd (omega arith)

pub bare-says : (l : List ℕ) (a n : ℕ) (b : List ℕ) → choose l a n b ≡ Ok None → (get_or b 0 0 < n) × (word_at l (a + get_or b 0 0) ≡ 4294967295)
bare-says l a n b e =
    let q = right_choice l a n b (Ok None) (λ r h. let z : ◌≡◌ {A = ℕ} 0 1 = cc in omega arith) e in
    (q.0, bare-option _ (length b) q.1)

pub body-says : (l : List ℕ) (a n : ℕ) (b : List ℕ) (o : ℕ) → choose l a n b ≡ Ok (Some o) →
    (get_or b 0 0 < n) × (o ≡ word_at l (a + get_or b 0 0)) × (word_at l (a + get_or b 0 0) ≡ 4294967295 → ⊥) × (1 ≤ length b)
body-says l a n b o e =
    let q = right_choice l a n b (Ok (Some o)) (λ r h. let z : ◌≡◌ {A = ℕ} 0 1 = cc in omega arith) e in
    let r = body-option (word_at l (a + get_or b 0 0)) (length b) o q.1 in
    (q.0, r.0, r.1, q.2)

-- What is chosen, of the tree.
module _ (lens l : List ℕ) (t : ℕ) (n : Node) (e : n ≡ node_of l t) (g : Under lens l (t + 1)) (k : n.kind ≡ Kind.Union) (b : List ℕ) where
  union-read : (s : ℕ) → read_item (tree_of l t) b s ≡ chosen (choose l (n.at + 2) n.second b) (trees l t) b t s
  union-read s = rw (as_union l t n e k) (union-chosen l (trees l t) b t s (n.at + 2) n.second)

  pub bare-read : (s : ℕ) → Ok None ≡ choose l (n.at + 2) n.second b → one 1 0 ≡ read_item (tree_of l t) b s
  unfolding chosen
  bare-read s q = rw (union-read s, ← q)

  pub wrong-read : (s : ℕ) (r : Refusal) → Err r ≡ choose l (n.at + 2) n.second b → Err (located r t s) ≡ read_item (tree_of l t) b s
  unfolding chosen
  wrong-read s r q = rw (union-read s, ← q)

  module _ (o : ℕ) (q : Ok (Some o) ≡ choose l (n.at + 2) n.second b) where
    pub body_below : (o < t) × (1 ≤ length b)
    unfolding LowerOrBare
    body_below =
        let p = body-says l (n.at + 2) n.second b o (sym q) in
        let m = node_legal lens l t n e g in
        (rw p.1 (m.optional k (get_or b 0 0) p.0 p.2), p.3)

    pub body-read : (s : ℕ) → and_then (one 1 0) (read_item (tree_of l o) (take (length b - 1) (drop 1 b)) (s + 1)) ≡ read_item (tree_of l t) b s
    unfolding chosen
    body-read s =
        rw (union-read s, ← q, trees-get l t o (boolean 0) body_below.0, take_all (length b - 1) (drop 1 b) (simp length-drop (omega arith)))
