-- The ends of the variable items, closed from the back. Assumes nothing.
use mathlib.Core.Path.{◌≡◌, sym, ap, ◌∙◌}
use mathlib.Core.List.{List, [], ◌∷◌, ◌++◌, append_assoc}
use Prim.Native.Nat.{ℕ, zero, suc, ◌-◌, ◌≤◌, ◌<◌}
use native.Mathlib.Omega.{arith}
use lib.ListN.{length, get_or, take, drop, set, take-append-drop}
use lib.Seq.{drop-cons, take-suc, set_at, length-take-le}
use borrow.Author.Tests.{eq-eqb, ne_eqb}
use Rattle.decode.specs.Held.{open_end}
use Rattle.decode.specs.Reader.{closed_end_lem, start_from_lem, first_start, close_ends_lem}

-- The items from i on are closed, the first variable one of them starts at next.
pub record Closing (ss es : List ℕ) (n len : ℕ) (cs : List ℕ) (next i : ℕ) : Type 0 where
  pub within : i ≤ n
  pub start : next ≡ first_start (drop i ss) (drop i es) (n - i) len
  pub ends : cs ≡ take i es ++ close_ends_lem (drop i ss) (drop i es) (n - i) len

module _ (ss es : List ℕ) (n len : ℕ) where
  pub closing_none : Closing ss es n len es len n
  unfolding first_start close_ends_lem
  closing_none =
      let z : n - n ≡ 0 = omega arith in
      record { within = omega arith; start = rw z; ends = rw z (sym (take-append-drop n es)) }

-- One item more: the place i is now the last one before those that are closed.
module _ (ss es : List ℕ) (n len : ℕ) (cs : List ℕ) (next i : ℕ) (g : Closing ss es n len cs next (suc i)) (ls : length ss ≡ 64)
    (le : length es ≡ 64) (small : n ≤ 64) where
  items_left : n - i ≡ suc (n - suc i)
  items_left = let w = g.within in omega arith

  in_starts : i < length ss
  in_starts = let w = g.within in omega arith

  in_ends : i < length es
  in_ends = let w = g.within in omega arith

  start-more : start_from_lem (get_or ss i 0) (get_or es i 0) next ≡ first_start (drop i ss) (drop i es) (n - i) len
  unfolding first_start
  start-more = rw (drop-cons ss i 0 in_starts, drop-cons es i 0 in_ends, items_left, g.start)

  rest : List ℕ
  rest = close_ends_lem (drop (suc i) ss) (drop (suc i) es) (n - suc i) len

  before : cs ≡ take i es ++ (get_or es i 0 ∷ rest)
  unfolding rest
  before = g.ends ∙ rw (take-suc es i 0 in_ends) (append_assoc (take i es) (get_or es i 0 ∷ []) rest)

  ends_more : take i es ++ (closed_end_lem (get_or es i 0) next ∷ rest) ≡ take i es ++ close_ends_lem (drop i ss) (drop i es) (n - i) len
  unfolding close_ends_lem rest
  ends_more = rw (drop-cons ss i 0 in_starts, drop-cons es i 0 in_ends, items_left, ← g.start)

  -- An open end is closed, and the item is the first variable one now;
  closing-open : get_or es i 0 ≡ open_end → Closing ss es n len (set cs i next) (get_or ss i 0) i
  closing-open e =
      let w = g.within in
      let o = eq-eqb _ _ e in
      let s = set_at (take i es) (get_or es i 0) rest next i (length-take-le i es (omega (arith, in_ends))) in
      record { within = omega arith; start = rw o at start-more; ends = ap (λ (l : List ℕ). set l i next) before ∙ (s ∙ rw o at ends_more) }

  -- any other stays.
  closing_shut : (get_or es i 0 ≡ open_end → ⊥) → Closing ss es n len cs next i
  closing_shut e =
      let w = g.within in
      let o = ne_eqb _ _ e in
      record { within = omega arith; start = rw o at start-more; ends = before ∙ rw o at ends_more }

-- The same, where the place is named by the one behind it.
module _ (ss es : List ℕ) (n len : ℕ) (cs : List ℕ) (next : ℕ) where
  pub closing-more_open : (i : ℕ) → Closing ss es n len cs next i → 0 < i → length ss ≡ 64 → length es ≡ 64 → n ≤ 64
      → get_or es (i - 1) 0 ≡ open_end → Closing ss es n len (set cs (i - 1) next) (get_or ss (i - 1) 0) (i - 1)
  closing-more_open zero g h ls le small e = absurd (omega arith)
  closing-more_open (suc i) g h ls le small e =
      let k : suc i - 1 ≡ i = omega arith in
      rw k (closing-open ss es n len cs next i g ls le small (rw k at e))

  pub closing-more_shut : (i : ℕ) → Closing ss es n len cs next i → 0 < i → length ss ≡ 64 → length es ≡ 64 → n ≤ 64
      → (get_or es (i - 1) 0 ≡ open_end → ⊥) → Closing ss es n len cs next (i - 1)
  closing-more_shut zero g h ls le small e = absurd (omega arith)
  closing-more_shut (suc i) g h ls le small e =
      let k : suc i - 1 ≡ i = omega arith in
      rw k (closing_shut ss es n len cs next i g ls le small (rw k at e))
