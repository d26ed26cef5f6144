-- The pieces of an encoding tile it. Assumes nothing.
--     tiled      a position below its length lies in exactly one piece
--     untiled    a position behind it lies in none
--     all_stand  every piece lies within it, and its bytes stand there
-- A position is counted by `spread s n`, 1 on the n positions from s on; adjoining spreads add up. An item's pieces count as one spread, a row of fields as
-- two: the fixed parts and the variable parts.
use mathlib.Core.Path.{◌≡◌, refl, sym, ap, ◌∙◌}
use mathlib.Core.Logic.{inl, inr}
use mathlib.Core.List.{List, [], ◌∷◌, ◌++◌, append_assoc, append-nil}
use mathlib.Core.Bool.{Bool, true, false}
use Prim.Native.Nat.{ℕ, ◌+◌, ◌-◌, ◌≤◌, ◌<◌}
use native.Mathlib.Nat.{add-zero, zero-add}
use native.Mathlib.Omega.{arith}
use borrow.Author.Tests.{ltb-true, ltb-false, lt-ltb, le-ltb, le-leb, lt-leb}
use lib.ListN.{length, drop, length-append, length-drop}
use lib.Seq.{drop-drop, take_at, drop_at}
use lib.Dec.{leb, ltb}
use Rattle.standard.specs.Choice.{pick, and_also}
use Rattle.standard.specs.Bytes.{le}
use Rattle.standard.specs.Types.{Ty, Tys, Opts, number, boolean, fixed_bytes, free_bytes, bit_vector, bit_list, container, union, list, vector, end, field, over, bare, body, head}
use Rattle.standard.specs.Parts.{Part, piece, fixed_lengths, fronts, backs, join}
use Rattle.standard.specs.Serialize.{Val, Vals, Option, serialize, parts, selected}
use Rattle.standard.specs.Pieces.{Kind, offset_word, selector_byte, Piece, standing, field_at, next_fixed, next_variable, pieces, field_pieces, option_pieces, inside, covers, StandsIn, AllStandIn}
use Rattle.standard.specs.declared.Head.{Head}
use Rattle.standard.specs.declared.Head.TheVariants.{Fixed, Variable}
use Rattle.standard.proofs.Bytes.{length-le}
use Rattle.standard.proofs.Join.{length-fronts, length-join}
use Rattle.standard.proofs.Elements.{All, copies, all-copies, by_copies, alike-copies, pieces-copies}

-- Counting positions.
abbrev spread : ℕ → ℕ → ℕ → ℕ
spread s n x = inside s (s + n) x

inside_in : (a b x : ℕ) → a ≤ x → x < b → inside a b x ≡ 1
unfolding inside
inside_in a b x h k = rw (le-leb a x h, lt-ltb x b k)

inside-before : (a b x : ℕ) → x < a → inside a b x ≡ 0
unfolding inside
inside-before a b x h = rw (lt-leb a x h)

inside-behind : (a b x : ℕ) → b ≤ x → inside a b x ≡ 0
unfolding inside
inside-behind a b x h = rw (le-ltb x b h) (go (leb a x))
  where
    go : (q : Bool) → ◌≡◌ {A = ℕ} (pick (and_also q false) 1 0) 0
    go true = refl
    go false = refl

spread_none : (s x : ℕ) → spread s 0 x ≡ 0
spread_none s x = go (ltb x s) refl
  where
    go : (q : Bool) → ltb x s ≡ q → spread s 0 x ≡ 0
    go true e = inside-before s (s + 0) x (ltb-true x s e)
    go false e = inside-behind s (s + 0) x (omega (arith, ltb-false x s e))

-- Of two that adjoin, a position lies in the first, or in the second, or in neither.
adjoin : (s n u k x : ℕ) → s + n ≡ u → spread s n x + spread u k x ≡ spread s (n + k) x
unfolding inside
adjoin s n u k x i = rw i (go (ltb x u) refl)
  where
    go : (q : Bool) → ltb x u ≡ q → inside s u x + spread u k x ≡ spread s (n + k) x
    go true e =
        let h : x < u = ltb-true x u e in
        rw (e, lt-leb u x h, lt-ltb x (s + (n + k)) (omega arith)) (add-zero _)
    go false e =
        let h : u ≤ x = ltb-false x u e in
        let f : s + (n + k) ≡ u + k = omega arith in
        rw (e, le-leb s x (omega arith), le-leb u x h, f) (zero-add _)

covers-append : (x : ℕ) (ps qs : List Piece) → covers x (ps ++ qs) ≡ covers x ps + covers x qs
unfolding covers
covers-append x [] qs = sym (zero-add (covers x qs))
covers-append x (p ∷ ps) qs = omega (arith, covers-append x ps qs)

-- A field before a row of fields: it takes the first of the fixed parts, or an offset there and the first of the variable parts.
module _ (x : ℕ) (b : List ℕ) (xs : List Part) (own : ℕ → List Piece) (row : List Piece) (s p q : ℕ) where
  field-covers :
      (h : Head) → ((u : ℕ) → covers x (own u) ≡ spread u (length b) x)
      → covers x row ≡ spread (s + next_fixed h b p) (fixed_lengths xs) x + spread (s + next_variable h b q) (length (backs xs)) x
      → covers x (field_at h s p q own ++ row) ≡ spread (s + p) (fixed_lengths (piece h b ∷ xs)) x + spread (s + q) (length (backs (piece h b ∷ xs))) x
  unfolding fixed_lengths backs covers
  field-covers (Fixed n) e f =
      let a = adjoin (s + p) (length b) (s + (p + length b)) (fixed_lengths xs) x (omega arith) in
      omega (arith, covers-append x (own (s + p)) row, e (s + p), f, a)
  field-covers Variable e f =
      let a = adjoin (s + p) 4 (s + (p + 4)) (fixed_lengths xs) x (omega arith) in
      let c = adjoin (s + q) (length b) (s + (q + length b)) (length (backs xs)) x (omega arith) in
      rw (length-le, length-append)
      (omega (arith, covers-append x (own (s + q)) row, e (s + q), f, a, c))

-- A container: the variable parts adjoin the fixed ones.
join-covers :
    (x : ℕ) (xs : List Part) (s : ℕ)
    → spread (s + 0) (fixed_lengths xs) x + spread (s + fixed_lengths xs) (length (backs xs)) x ≡ spread s (length (join xs)) x
join-covers x xs s = rw (add-zero, length-join) (adjoin s (fixed_lengths xs) (s + fixed_lengths xs) (length (backs xs)) x refl)

-- A union: the body adjoins the selector.
body-covers :
    (x k s : ℕ) (b : List ℕ) (own : List Piece) → covers x own ≡ spread (s + 1) (length b) x
    → covers x (standing selector_byte s (k ∷ []) ∷ own) ≡ spread s (length (k ∷ b)) x
unfolding covers
body-covers x k s b own e =
    let n : length (k ∷ b) ≡ 1 + length b = omega arith in
    rw (e, n) (adjoin s 1 (s + 1) (length b) x refl)

-- The law about one type, from it that about a row of fields, and that about elements.
module _ (x : ℕ) where
  Covered : Ty → Type 0
  Covered t = (v : Val t) (s : ℕ) → covers x (pieces t v s) ≡ spread s (length (serialize t v)) x

  row-covers :
      (ts : Tys) → All Covered ts → (vs : Vals ts) (s p q : ℕ)
      → covers x (field_pieces ts vs s p q) ≡ spread (s + p) (fixed_lengths (parts ts vs)) x + spread (s + q) (length (backs (parts ts vs))) x
  unfolding Covered pieces serialize covers fixed_lengths backs
  row-covers end f vs s p q = omega (arith, spread_none (s + p) x, spread_none (s + q) x)
  row-covers (field t ts) f vs s p q =
      let b = serialize t vs.0 in
      field-covers x b (parts ts vs.1) (λ (u : ℕ). pieces t vs.0 u)
      (field_pieces ts vs.1 s (next_fixed (head t) b p) (next_variable (head t) b q))
      s p q (head t) (λ (u : ℕ). f.0 vs.0 u)
      (row-covers ts f.1 vs.1 s (next_fixed (head t) b p) (next_variable (head t) b q))

  whole_covers :
      (ts : Tys) → All Covered ts → (vs : Vals ts) (s : ℕ)
      → covers x (field_pieces ts vs s 0 (fixed_lengths (parts ts vs))) ≡ spread s (length (join (parts ts vs))) x
  whole_covers ts f vs s = row-covers ts f vs s 0 (fixed_lengths (parts ts vs)) ∙ join-covers x (parts ts vs) s

  elements_cover :
      (t : ℕ) (e : Ty) (n : ℕ) → Covered e → (vs : List (Val e)) (s : ℕ)
      → covers x (pieces (list t e n) vs s) ≡ spread s (length (serialize (list t e n) vs)) x
  unfolding pieces serialize
  elements_cover t e n f =
      by_copies e _
      (λ k vs s. rw (alike-copies e k vs, pieces-copies e k vs) (whole_covers (copies e k) (all-copies Covered e k f) vs s))

mutual
  unfolding Covered pieces serialize covers

  item-covers : (x : ℕ) (t : Ty) (v : Val t) (s : ℕ) → covers x (pieces t v s) ≡ spread s (length (serialize t v)) x
  item-covers x (number t w) v s = add-zero _
  item-covers x (boolean t) v s = add-zero _
  item-covers x (fixed_bytes t n) v s = add-zero _
  item-covers x (free_bytes t limit) v s = add-zero _
  item-covers x (bit_vector t n) v s = add-zero _
  item-covers x (bit_list t limit) v s = add-zero _
  item-covers x (container t ts) vs s = whole_covers x ts (fields-covers x ts) vs s
  item-covers x (union t os) v s = option-covers x os v s
  item-covers x (list t e limit) vs s = elements_cover x t e limit (λ v u. item-covers x e v u) vs s
  item-covers x (vector t e n) vs s = elements_cover x t e n (λ v u. item-covers x e v u) vs s

  fields-covers : (x : ℕ) (ts : Tys) → All (Covered x) ts
  fields-covers x end = tt
  fields-covers x (field t ts) = ((λ v s. item-covers x t v s), fields-covers x ts)

  option-covers : (x : ℕ) (os : Opts) (v : Option os) (s : ℕ) → covers x (option_pieces os v s) ≡ spread s (length (selected os v)) x
  option-covers x over v s = absurd v
  option-covers x (bare k os) (inl y) s = add-zero _
  option-covers x (bare k os) (inr v) s = option-covers x os v s
  option-covers x (body k t os) (inl y) s = body-covers x k s (serialize t y) (pieces t y (s + 1)) (item-covers x t y (s + 1))
  option-covers x (body k t os) (inr v) s = option-covers x os v s

-- A position below the length lies in exactly one piece, one behind it in none.
pub tiled : (t : Ty) (v : Val t) (x : ℕ) → x < length (serialize t v) → covers x (pieces t v 0) ≡ 1
tiled t v x h = item-covers x t v 0 ∙ inside_in 0 (0 + length (serialize t v)) x (omega arith) (omega arith)

pub untiled : (t : Ty) (v : Val t) (x : ℕ) → length (serialize t v) ≤ x → covers x (pieces t v 0) ≡ 0
untiled t v x h = item-covers x t v 0 ∙ inside-behind 0 (0 + length (serialize t v)) x (omega arith)

-- The bytes b stand in m at s.
record At (m : List ℕ) (s : ℕ) (b : List ℕ) : Type 0 where
  starts : s ≤ length m
  rest : List ℕ
  reads : drop s m ≡ b ++ rest

-- What stands there, stands there part by part.
at_first : (m : List ℕ) (s : ℕ) (b c : List ℕ) → At m s (b ++ c) → At m s b
at_first m s b c g = record { starts = g.starts; rest = c ++ g.rest; reads = g.reads ∙ append_assoc b c g.rest }

at-ends : (m : List ℕ) (s : ℕ) (b : List ℕ) → At m s b → s + length b ≤ length m
at-ends m s b g = let k = simp (length-drop, length-append) at (ap length g.reads) in omega (arith, g.starts)

at_second : (m : List ℕ) (s u : ℕ) (b c : List ℕ) → s + length b ≡ u → At m s (b ++ c) → At m u c
at_second m s u b c e g =
    record {
      starts = omega (arith, at-ends m s b (at_first m s b c g));
      rest = g.rest;
      reads =
          rw (← e, ← drop-drop, g.reads, append_assoc)
          (drop_at b (c ++ g.rest) (length b) refl);
    }

stands : (m : List ℕ) (k : Kind) (s : ℕ) (b : List ℕ) → At m s b → StandsIn m (standing k s b)
stands m k s b g =
    let n : s + length b - s ≡ length b = omega arith in
    record {
      ordered = omega arith;
      within = at-ends m s b g;
      there = rw (n, g.reads) (take_at b g.rest (length b) refl);
    }

all_append : (m : List ℕ) (ps qs : List Piece) → AllStandIn m ps → AllStandIn m qs → AllStandIn m (ps ++ qs)
unfolding AllStandIn
all_append m [] qs h k = k
all_append m (p ∷ ps) qs h k = (h.0, all_append m ps qs h.1 k)

-- A field before a row of fields, as above.
module _ (m b : List ℕ) (xs : List Part) (own : ℕ → List Piece) (row : List Piece) (s p q : ℕ) where
  field-stands :
      (h : Head) → ((u : ℕ) → At m u b → AllStandIn m (own u))
      → (At m (s + next_fixed h b p) (fronts xs (next_variable h b q)) → At m (s + next_variable h b q) (backs xs) → AllStandIn m row)
      → At m (s + p) (fronts (piece h b ∷ xs) q) → At m (s + q) (backs (piece h b ∷ xs)) → AllStandIn m (field_at h s p q own ++ row)
  unfolding fronts backs AllStandIn
  field-stands (Fixed n) e f g j =
      all_append m (own (s + p)) row
      (e (s + p) (at_first m (s + p) b (fronts xs q) g))
      (f (at_second m (s + p) (s + (p + length b)) b (fronts xs q) (omega arith) g) j)
  field-stands Variable e f g j =
      let w = fronts xs (q + length b) in (
        stands m offset_word (s + p) (le 4 q) (at_first m (s + p) (le 4 q) w g),
        all_append m (own (s + q)) row
            (e (s + q) (at_first m (s + q) b (backs xs) j))
            (f
            (at_second m (s + p) (s + (p + 4)) (le 4 q) w (omega (arith, length-le 4 q)) g)
            (at_second m (s + q) (s + (q + length b)) b (backs xs) (omega arith) j)),
      )

-- The same three steps: one type, a row of fields, elements.
module _ (m : List ℕ) where
  Standing : Ty → Type 0
  Standing t = (v : Val t) (s : ℕ) → At m s (serialize t v) → AllStandIn m (pieces t v s)

  row-stands :
      (ts : Tys) → All Standing ts → (vs : Vals ts) (s p q : ℕ) → At m (s + p) (fronts (parts ts vs) q) → At m (s + q) (backs (parts ts vs))
      → AllStandIn m (field_pieces ts vs s p q)
  unfolding Standing pieces serialize AllStandIn fronts backs
  row-stands end f vs s p q g j = tt
  row-stands (field t ts) f vs s p q g j =
      let b = serialize t vs.0 in
      field-stands m b (parts ts vs.1) (λ (u : ℕ). pieces t vs.0 u)
      (field_pieces ts vs.1 s (next_fixed (head t) b p) (next_variable (head t) b q))
      s p q (head t) (λ (u : ℕ) (i : At m u b). f.0 vs.0 u i)
      (λ i k. row-stands ts f.1 vs.1 s (next_fixed (head t) b p) (next_variable (head t) b q) i k)
      g j

  whole-stands :
      (ts : Tys) → All Standing ts → (vs : Vals ts) (s : ℕ) → At m s (join (parts ts vs))
      → AllStandIn m (field_pieces ts vs s 0 (fixed_lengths (parts ts vs)))
  unfolding join
  whole-stands ts f vs s g =
      let xs = parts ts vs in
      let n = fixed_lengths xs in
      row-stands ts f vs s 0 n
      (rw add-zero (at_first m s (fronts xs n) (backs xs) g))
      (at_second m s (s + n) (fronts xs n) (backs xs) (omega (arith, length-fronts xs n)) g)

  elements_stand :
      (t : ℕ) (e : Ty) (n : ℕ) → Standing e → (vs : List (Val e)) (s : ℕ) → At m s (serialize (list t e n) vs) → AllStandIn m (pieces (list t e n) vs s)
  unfolding pieces serialize
  elements_stand t e n f =
      by_copies e _
      (λ k vs s. rw (alike-copies e k vs, pieces-copies e k vs) (λ g. whole-stands (copies e k) (all-copies Standing e k f) vs s g))

mutual
  unfolding Standing pieces serialize AllStandIn

  item-stands : (m : List ℕ) (t : Ty) (v : Val t) (s : ℕ) → At m s (serialize t v) → AllStandIn m (pieces t v s)
  item-stands m (number t w) v s g = (stands m _ s _ g, tt)
  item-stands m (boolean t) v s g = (stands m _ s _ g, tt)
  item-stands m (fixed_bytes t n) v s g = (stands m _ s _ g, tt)
  item-stands m (free_bytes t limit) v s g = (stands m _ s _ g, tt)
  item-stands m (bit_vector t n) v s g = (stands m _ s _ g, tt)
  item-stands m (bit_list t limit) v s g = (stands m _ s _ g, tt)
  item-stands m (container t ts) vs s g = whole-stands m ts (fields_stand m ts) vs s g
  item-stands m (union t os) v s g = option-stands m os v s g
  item-stands m (list t e limit) vs s g = elements_stand m t e limit (λ v u i. item-stands m e v u i) vs s g
  item-stands m (vector t e n) vs s g = elements_stand m t e n (λ v u i. item-stands m e v u i) vs s g

  fields_stand : (m : List ℕ) (ts : Tys) → All (Standing m) ts
  fields_stand m end = tt
  fields_stand m (field t ts) = ((λ v s g. item-stands m t v s g), fields_stand m ts)

  option-stands : (m : List ℕ) (os : Opts) (v : Option os) (s : ℕ) → At m s (selected os v) → AllStandIn m (option_pieces os v s)
  option-stands m over v s g = tt
  option-stands m (bare k os) (inl y) s g = (stands m _ s _ g, tt)
  option-stands m (bare k os) (inr v) s g = option-stands m os v s g
  option-stands m (body k t os) (inl y) s g = (
    stands m _ s _ (at_first m s (k ∷ []) (serialize t y) g),
    item-stands m t y (s + 1) (at_second m s (s + 1) (k ∷ []) (serialize t y) refl g),
  )
  option-stands m (body k t os) (inr v) s g = option-stands m os v s g

-- Every piece lies within the encoding, and its bytes stand there.
pub all_stand : (t : Ty) (v : Val t) → AllStandIn (serialize t v) (pieces t v 0)
all_stand t v = item-stands (serialize t v) t v 0 (record { starts = omega arith; rest = []; reads = sym (append-nil (serialize t v)) })
