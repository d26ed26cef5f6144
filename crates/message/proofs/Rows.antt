-- The fields of a container or the elements of a list, one by one: their heads, their registration, and where each lies. The words that
-- name them lie `apart`, which is a row's step: `step` is the builder's here. Assumes nothing.
use mathlib.Core.Path.{◌≡◌, refl, sym, ap, ◌∙◌}
use mathlib.Core.List.{List, [], ◌∷◌}
use Prim.Native.Nat.{ℕ, zero, suc, ◌+◌, ◌-◌, ◌≤◌, ◌<◌, ◌^◌}
use native.Mathlib.Omega.{arith}
use borrow.Author.Tests.{le-ltb, eq-eqb, ne_eqb}
use lib.ListN.{length, get_or, length-take, length-drop}
use Rattle.standard.specs.Bytes.{four, word_at}
use Rattle.standard.specs.Types.{Ty, Tys, boolean, container, end, field, head, head_all, heads}
use Rattle.standard.specs.Parts.{next, span_of, part, InRange}
use Rattle.standard.specs.declared.Head.{Head}
use Rattle.standard.specs.declared.Head.TheVariants.{Fixed, Variable}
use Rattle.standard.specs.declared.Span.{Span}
use Rattle.standard.specs.declared.Refusal.{Refusal}
use Rattle.standard.proofs.Join.{range_weaken, span_ranges}
use Rattle.standard.proofs.Laws.{fixed-some, fixed-injective, joined-fixed}
use Rattle.decode.specs.Builder.{fresh, step, follow, register, build, ended, lay_out_lem}
use Rattle.decode.specs.declared.builder.Progress.{Progress}
use Rattle.decode.proofs.Register.{step-within, beyond}
use Rattle.layout.specs.Tree.{node_of, tree_of, fields, trees, len_of, head_of}
use Rattle.layout.specs.declared.Node.{Node}
use Rattle.layout.specs.Table.{count}
use Rattle.layout.specs.Legal.{Lower, LegalNode, Legal}
use Rattle.layout.specs.Steps.{Known}
use Rattle.layout.proofs.Facts.{trees-get, as_container, lower-here, lower-rest, head_len, legal-below, legal_node}
use Rattle.layout.proofs.Tables.{known_len, known-length}
use Rattle.layout.proofs.Trees.{legal_tree, len_small}
use Rattle.message.specs.Steps.{Under, Row, Named, row_of, heads_of, types_of, Next}
use Rattle.message.specs.declared.parts.Series.{Series}
use Rattle.message.specs.declared.table.Table.{Table}
use Rattle.std.specs.declared.result.Result.{Result}
use Rattle.std.specs.declared.result.Result.TheVariants.{Ok, Err}
use Rattle.std.specs.declared.option.Option.TheVariants.{Some, None}
use Rattle.layout.specs.declared.Kind.{Kind}

-- The lengths that the table check found.
pub under_table : (lens l : List ℕ) (k : ℕ) → Known lens l k → Under lens l k
under_table lens l k g = record { legal = g.legal; few = g.few; room = known-length lens l k g; found = λ f h. known_len lens l k g f h }

-- What is known of a table's types, of those up to t.
pub known-below : (x : Table) (t : ℕ) → t < x.types → Under x.lens.now x.layout.now (t + 1)
known-below x t h =
    let g = under_table x.lens.now x.layout.now x.types x.known in
    record { legal = legal-below x.layout.now x.types (t + 1) (omega arith) g.legal; few = omega (arith, g.few); room = g.room; found = λ f k. g.found f (omega arith) }

-- What a table that is legal so far says of a type
pub node_legal : (lens l : List ℕ) (t : ℕ) (n : Node) → n ≡ node_of l t → Under lens l (t + 1) → LegalNode l t n
node_legal lens l t n e g = legal_node l t n e g.legal

pub under-below : (lens l : List ℕ) (t f : ℕ) → f ≤ t → Under lens l t → Under lens l f
under-below lens l t f h g =
    record { legal = legal-below l t f h g.legal; few = omega (arith, g.few); room = g.room; found = λ u k. g.found u (omega arith) }

module _ (lens l : List ℕ) (t : ℕ) (g : Under lens l t) (f : ℕ) (h : f < t) where
  pub under-head : head_of (get_or lens f 0) ≡ head (tree_of l f)
  under-head = ap head_of (g.found f h) ∙ head_len (tree_of l f) (legal_tree l t f g.legal h)

  pub under-small : get_or lens f 0 < 2 ^ 32
  unfolding Legal
  under-small = rw (g.found f h) (len_small l f (g.legal f h))

  pub under-legal : Legal l (f + 1)
  under-legal = legal-below l t (f + 1) (omega arith) g.legal

-- A length of 0 says variable, another one is the fixed length.
pub len_head : (h : Head) (k : ℕ) → k ≡ len_of h → (k ≡ 0 → ⊥) → Fixed k ≡ h
len_head (Fixed n) k e z = ap Fixed e
len_head Variable k e z = absurd (z e)

no_len_head : (h : Head) → ((n : ℕ) → h ≡ Fixed n → 1 ≤ n) → 0 ≡ len_of h → Variable ≡ h
no_len_head (Fixed n) f e = absurd (omega (arith, f n refl))
no_len_head Variable f e = refl

-- No field, and the first of some.
pub row-none : (l : List ℕ) (t a apart left : ℕ) → left ≤ 0 → row_of l t a apart left ≡ end
unfolding row_of
row-none l t a apart zero h = refl
row-none l t a apart (suc n) h = absurd (omega arith)

row_cons : (l : List ℕ) (t a apart left : ℕ) → 0 < left →
    row_of l t a apart left ≡ field (get_or (trees l t) (word_at l a) (boolean 0)) (row_of l t (a + apart) apart (left - 1))
unfolding row_of
row_cons l t a apart zero h = absurd (omega arith)
row_cons l t a apart (suc n) h = let e : suc n - 1 ≡ n = omega arith in rw e

pub named-first : (l : List ℕ) (t a apart left : ℕ) → Named l t a apart left → 0 < left →
    (a < count l) × (word_at l a < t) × Named l t (a + apart) apart (left - 1)
unfolding Named
named-first l t a apart zero g p = absurd (omega arith)
named-first l t a apart (suc n) g p = let e : suc n - 1 ≡ n = omega arith in rw e g

pub row_first : (l : List ℕ) (t a apart left : ℕ) → Named l t a apart left → 0 < left →
    row_of l t a apart left ≡ field (tree_of l (word_at l a)) (row_of l t (a + apart) apart (left - 1))
row_first l t a apart left g p =
    row_cons l t a apart left p
    ∙ ap (λ (x : Ty). field x (row_of l t (a + apart) apart (left - 1))) (trees-get l t (word_at l a) (boolean 0) (named-first l t a apart left g p).1)

-- A container's fields have a word each.
pub container-fields : (l : List ℕ) (t a n : ℕ) → row_of l t a 1 n ≡ fields l (trees l t) a n
unfolding row_of fields
container-fields l t a zero = refl
container-fields l t a (suc n) = ap (field (get_or (trees l t) (word_at l a) (boolean 0))) (container-fields l t (a + 1) n)

pub container_tree : (l : List ℕ) (t : ℕ) (n : Node) → n ≡ node_of l t → n.kind ≡ Kind.Container → tree_of l t ≡ container t (row_of l t (n.at + 2) 1 n.second)
container_tree l t n e k = rw (container-fields l t (n.at + 2) n.second) (as_container l t n e k)

pub container-named : (l : List ℕ) (t a n : ℕ) → a + n ≤ count l → Lower l t a n → Named l t a 1 n
unfolding Named
container-named l t a zero h g = tt
container-named l t a (suc n) h g =
    let e : suc n - 1 ≡ n = omega arith in
    let r = rw e at (lower-rest l t a (suc n) g (omega arith)) in
    (omega arith, lower-here l t a (suc n) g (omega arith), container-named l t (a + 1) n (omega arith) r)

pub row-there : (lens l : List ℕ) (t a apart left : ℕ) → Row lens l t a apart left → 0 < left → a < count l
row-there lens l t a apart left g p = (named-first l t a apart left g.named p).0

-- The first of some fields, and the rest.
module _ (lens l : List ℕ) (t a apart left f : ℕ) (g : Row lens l t a apart left) (p : 0 < left) (e : f ≡ word_at l a) where
  pub row_below : f < t
  row_below = rw e (named-first l t a apart left g.named p).1

  pub row-few : f < 64
  row-few = let b = row_below in omega (arith, g.under.few)

  pub row_small : get_or lens f 0 < 2 ^ 32
  row_small = under-small lens l t g.under f row_below

  pub row-head : head_of (get_or lens f 0) ≡ head (tree_of l f)
  row-head = under-head lens l t g.under f row_below

  pub row_under : Under lens l (f + 1)
  row_under = let b = row_below in under-below lens l t (f + 1) (omega arith) g.under

  pub row-fixed : (k : ℕ) → k ≡ get_or lens f 0 → (k ≡ 0 → ⊥) → Fixed k ≡ head (tree_of l f)
  row-fixed k q z = len_head (head (tree_of l f)) k (q ∙ g.under.found f row_below) z

  pub row_variable : (k : ℕ) → k ≡ get_or lens f 0 → k ≡ 0 → Variable ≡ head (tree_of l f)
  row_variable k q z =
      no_len_head (head (tree_of l f)) (λ n h. fixed-some (tree_of l f) n (legal_tree l t f g.under.legal row_below) h)
      (sym z ∙ q ∙ g.under.found f row_below)

  pub row-heads : (h : Head) → h ≡ head (tree_of l f) → heads_of l t a apart left ≡ h ∷ heads_of l t (a + apart) apart (left - 1)
  unfolding heads
  row-heads h q = rw (row_first l t a apart left g.named p, q, e)

  pub row_next : Row lens l t (a + apart) apart (left - 1)
  row_next =
      record {
        under = g.under;
        near = omega (arith, g.near, g.steps);
        steps = g.steps;
        named = (named-first l t a apart left g.named p).2;
      }

pub heads-none : (l : List ℕ) (t a apart left : ℕ) → left ≤ 0 → heads_of l t a apart left ≡ []
unfolding heads
heads-none l t a apart left h = rw (row-none l t a apart left h)

-- The first is taken off: its type f, and the rest r'.
module _ (lens l : List ℕ) (r r' : Series) (f : ℕ) (g : Row lens l r.below r.first r.step r.many) (i : Next l r (Some f) r') where
  pub next_row : Row lens l r'.below r'.first r'.step r'.many
  next_row = rw i.2 (row_next lens l r.below r.first r.step r.many f g i.0 i.1)

  pub next_types : types_of l r ≡ field (tree_of l f) (types_of l r')
  next_types = rw (i.2, i.1) (row_first l r.below r.first r.step r.many g.named i.0)

  pub next_heads : heads (types_of l r) ≡ head (tree_of l f) ∷ heads (types_of l r')
  unfolding heads
  next_heads = rw next_types

  pub next_below : f < r.below
  next_below = row_below lens l r.below r.first r.step r.many f g i.0 i.1

  pub next_few : f < 64
  next_few = row-few lens l r.below r.first r.step r.many f g i.0 i.1

  pub next_small : get_or lens f 0 < 2 ^ 32
  next_small = row_small lens l r.below r.first r.step r.many f g i.0 i.1

  pub next_under : Under lens l (f + 1)
  next_under = row_under lens l r.below r.first r.step r.many f g i.0 i.1

  module _ (k : ℕ) (q : k ≡ get_or lens f 0) where
    pub next_head : head_of k ≡ head (tree_of l f)
    next_head = rw q (row-head lens l r.below r.first r.step r.many f g i.0 i.1)

    pub next_fixed : (k ≡ 0 → ⊥) → Fixed k ≡ head (tree_of l f)
    next_fixed = row-fixed lens l r.below r.first r.step r.many f g i.0 i.1 k q

    pub next_variable : k ≡ 0 → Variable ≡ head (tree_of l f)
    next_variable = row_variable lens l r.below r.first r.step r.many f g i.0 i.1 k q

pub types_none : (l : List ℕ) (r : Series) → r.many ≡ 0 → types_of l r ≡ end
types_none l r h = row-none l r.below r.first r.step r.many (omega arith)

pub types-heads : (l : List ℕ) (r : Series) → r.many ≡ 0 → heads (types_of l r) ≡ []
types-heads l r h = heads-none l r.below r.first r.step r.many (omega arith)

-- Registering what is left gives the whole.
pub record Laying (lens l : List ℕ) (hs : List Head) (b : List ℕ) (x : Progress) (r : Series) : Type 0 where
  pub row : Row lens l r.below r.first r.step r.many
  pub within : x.pos ≤ length b
  pub same : register (heads (types_of l r)) b x ≡ register hs b fresh

module _ (lens l : List ℕ) (hs : List Head) (b : List ℕ) (x : Progress) (r r' : Series) (f : ℕ) (h : Head) (g : Laying lens l hs b x r)
    (i : Next l r (Some f) r') (q : h ≡ head (tree_of l f)) where
  laying-same : follow (step h b x) (register (heads (types_of l r')) b) ≡ register hs b fresh
  unfolding register
  laying-same = rw q (rw (next_heads lens l r r' f g.row i) at g.same)

  pub laying-next : (y : Progress) → step h b x ≡ Ok y → Laying lens l hs b y r'
  laying-next y s = record { row = next_row lens l r r' f g.row i; within = step-within h b x y s; same = rw s at laying-same }

  pub laying-bad : (e : Refusal) → step h b x ≡ Err e → Err e ≡ lay_out_lem hs b
  unfolding lay_out_lem
  laying-bad e s = rw (← laying-same, s)

pub laying-end : (lens l : List ℕ) (hs : List Head) (b : List ℕ) (x : Progress) (r : Series) → Laying lens l hs b x r → r.many ≡ 0 →
    build (length b) x ≡ lay_out_lem hs b
unfolding lay_out_lem register
laying-end lens l hs b x r g h = rw (← g.same, types-heads l r h)

-- Fields of fixed size that take all the bytes are laid out well.
at_pos : ℕ → Progress
at_pos p = record { pos = p; first = None; previous = None }

pub fixed-step : (n : ℕ) (b : List ℕ) (x : Progress) → x.pos + n ≤ length b → length b < 2 ^ 32 → step (Fixed n) b x ≡ Ok (beyond x n)
unfolding step
fixed-step n b x h k = rw (le-ltb 4294967295 n (omega arith), le-ltb (length b) (x.pos + n) h)

fixed_registers : (ts : Tys) (b : List ℕ) (p m : ℕ) → head_all ts ≡ Fixed m → p + m ≤ length b → length b < 2 ^ 32 →
    register (heads ts) b (at_pos p) ≡ Ok (at_pos (p + m))
unfolding register heads head at_pos
fixed_registers end b p m e h k = let z : p + m ≡ p = let q : 0 ≡ m = fixed-injective 0 m e in omega arith in rw z
fixed_registers (field t ts) b p m e h k =
    let j = joined-fixed (head t) (head_all ts) m e in
    let i = fixed-step j.0 b (at_pos p) (omega (arith, j.4)) k in
    let r = fixed_registers ts b (p + j.0) j.1 j.3 (omega (arith, j.4)) k in
    let z : p + j.0 + j.1 ≡ p + m = omega (arith, j.4) in
    rw (j.2, i) (rw z at r)

pub fixed-laid : (ts : Tys) (b : List ℕ) → head_all ts ≡ Fixed (length b) → length b < 2 ^ 32 → (Ok tt) ≡ lay_out_lem (heads ts) b
unfolding lay_out_lem build at_pos
fixed-laid ts b e k =
    let z : 0 + length b ≡ length b = omega arith in
    let r : register (heads ts) b fresh ≡ Ok (at_pos (length b)) = rw z at (fixed_registers ts b 0 (length b) e (omega arith) k) in
    let f : build (length b) (at_pos (length b)) ≡ Ok tt = rw (eq-eqb (length b) (length b) refl) in
    sym (ap (λ (x : Result Progress Refusal). ended x (build (length b))) r ∙ f)

pub container-fixed : (lens l : List ℕ) (t : ℕ) (ts : Tys) (b : List ℕ) (k : ℕ) → Under lens l (t + 1) → tree_of l t ≡ container t ts →
    k ≡ get_or lens t 0 → 0 < k → k ≡ length b → length b < 2 ^ 32 → (Ok tt) ≡ lay_out_lem (heads ts) b
unfolding head
container-fixed lens l t ts b k g e q z h s =
    let f = len_head (head (tree_of l t)) k (q ∙ g.found t (omega arith)) (λ (v : k ≡ 0). omega arith) in
    fixed-laid ts b (sym (rw (e, h) at f)) s

-- The loop of `next_start`: looking on from here finds the same.
pub record Seeking (lens l b : List ℕ) (to : ℕ) (r : Series) (p : ℕ) : Type 0 where
  pub row : Row lens l r.below r.first r.step r.many
  pub ranges : InRange (heads (types_of l r)) b p 0
  pub same : next (heads (types_of l r)) b p ≡ to

module _ (lens l b : List ℕ) (to : ℕ) (r r' : Series) (p f k : ℕ) (g : Seeking lens l b to r p) (i : Next l r (Some f) r') (q : k ≡ get_or lens f 0) where
  module _ (v : k ≡ 0) where
    seeking_offset : heads (types_of l r) ≡ Variable ∷ heads (types_of l r')
    seeking_offset = rw (next_variable lens l r r' f g.row i k q v) (next_heads lens l r r' f g.row i)

    pub seeking_room : p + 4 ≤ length b
    unfolding InRange
    seeking_room = (rw seeking_offset at g.ranges).0

    pub seeking_found : four b p ≡ to
    unfolding next
    seeking_found = rw seeking_offset at g.same

  module _ (v : k ≡ 0 → ⊥) where
    seeking_heads : heads (types_of l r) ≡ Fixed k ∷ heads (types_of l r')
    seeking_heads = rw (next_fixed lens l r r' f g.row i k q v) (next_heads lens l r r' f g.row i)

    pub seeking_fits : p + k ≤ length b
    unfolding InRange
    seeking_fits = (rw seeking_heads at g.ranges).0

    pub seeking_next : Seeking lens l b to r' (p + k)
    unfolding InRange next
    seeking_next =
        record {
          row = next_row lens l r r' f g.row i;
          ranges = (rw seeking_heads at g.ranges).1;
          same = rw seeking_heads at g.same;
        }

pub seeking_end : (lens l b : List ℕ) (to : ℕ) (r : Series) (p : ℕ) → Seeking lens l b to r p → r.many ≡ 0 → length b ≡ to
unfolding next
seeking_end lens l b to r p g h = rw (types-heads l r h) at g.same

-- A field of the length k, or of variable size where k is 0, before others: what it takes, and that they lie behind it.
module _ (k : ℕ) (hs : List Head) (b : List ℕ) (p : ℕ) (g : InRange (head_of k ∷ hs) b p 0) where
  module _ (v : k ≡ 0) where
    offset_ranges : InRange (Variable ∷ hs) b p 0
    offset_ranges = rw (eq-eqb k 0 v) at g

    pub offset_room : p + 4 ≤ length b
    unfolding InRange
    offset_room = offset_ranges.0

    pub offset_rest : InRange hs b (p + 4) 0
    unfolding InRange
    offset_rest = range_weaken hs b (p + 4) 0 (four b p) (omega arith) offset_ranges.3

  pub own_fits : (k ≡ 0 → ⊥) → p + k ≤ length b
  unfolding InRange
  own_fits v = (rw (ne_eqb k 0 v) at g).0

-- Where a field lies within the bytes b, and how long it is.
abbrev pub Lies : List ℕ → Span → Type 0
Lies b w = (w.from ≤ w.to) × (w.to ≤ length b) × (length (part b w) ≡ w.to - w.from)

-- Where the first field lies, of the length k.
module _ (lens l : List ℕ) (r r' : Series) (f : ℕ) (g : Row lens l r.below r.first r.step r.many) (i : Next l r (Some f) r') (b : List ℕ) (p : ℕ)
    (j : InRange (heads (types_of l r)) b p 0) where
  pub first-ranges : InRange (head (tree_of l f) ∷ heads (types_of l r')) b p 0
  first-ranges = rw (next_heads lens l r r' f g i) at j

  module _ (k : ℕ) (q : k ≡ get_or lens f 0) where
    pub head-ranges : InRange (head_of k ∷ heads (types_of l r')) b p 0
    head-ranges = rw (next_head lens l r r' f g i k q) first-ranges

    module _ (w : Span) (e : w ≡ span_of (head_of k) (heads (types_of l r')) b p) where
      pub span-said : w ≡ span_of (head (tree_of l f)) (heads (types_of l r')) b p
      span-said = rw (next_head lens l r r' f g i k q) at e

  module _ (w : Span) (e : w ≡ span_of (head (tree_of l f)) (heads (types_of l r')) b p) where
    pub span_ok : (w.from ≤ w.to) × (w.to ≤ length b) × InRange (heads (types_of l r')) b w.next 0
    span_ok = rw e (span_ranges _ _ b p first-ranges)

    pub span_length : length (part b w) ≡ w.to - w.from
    span_length = let k = span_ok in simp (length-take, length-drop) (omega arith)

    pub span_lies : Lies b w
    span_lies = (span_ok.0, span_ok.1, span_length)
