-- What an accepted registration says: the heads' ranges lie in the bytes, and the first variable one right behind the fixed
-- portion; and the other way round. Assumes nothing.
use mathlib.Core.Path.{◌≡◌, refl, sym, ◌∙◌}
use mathlib.Core.List.{List, [], ◌∷◌}
use mathlib.Core.Bool.{Bool, true, false}
use Prim.Native.Nat.{ℕ, ◌+◌, ◌-◌, ◌≤◌, ◌<◌, ◌^◌}
use native.Mathlib.Nat.{add-zero}
use native.Mathlib.Omega.{arith}
use borrow.Author.Tests.{ltb-false, le-ltb, eqb-true, eq-eqb}
use lib.ListN.{length}
use lib.Dec.{eqb, ltb}
use Rattle.standard.specs.Choice.{pick}
use Rattle.standard.specs.Bytes.{four}
use Rattle.standard.specs.Types.{width, portion}
use Rattle.standard.specs.Parts.{next, InRange}
use Rattle.standard.specs.declared.Head.{Head}
use Rattle.standard.specs.declared.Head.TheVariants.{Fixed, Variable}
use Rattle.standard.specs.declared.Refusal.{Refusal}
use Rattle.standard.specs.declared.Refusal.TheVariants.{InvalidByteLength, OffsetsAreDecreasing, OffsetOutOfBounds}
use Rattle.decode.specs.Offsets.{sanitize_offset_lem}
use Rattle.decode.specs.Builder.{fresh, or_else_just, behind_offset, step, register_head_lem, follow, register, build_at, build, ended, lay_out_lem}
use Rattle.decode.specs.declared.builder.Progress.{Progress}
use Rattle.std.specs.declared.result.Result.{Result}
use Rattle.std.specs.declared.option.Option.{Option}
use Rattle.std.specs.declared.result.Result.TheVariants.{Ok, Err}
use Rattle.std.specs.declared.option.Option.TheVariants.{Some, None}
use Rattle.std.specs.Prelude.{⊤}

-- A refusal is no acceptance.
pub refused_next : {A B E : Type 0} (r : E) (y : B) → ◌≡◌ {A = Result B E} (Err r) (Ok y) → A
refused_next r y e = let z : ◌≡◌ {A = ℕ} 0 1 = cc in absurd (omega arith)

pub past : {B E : Type 0} (c : Bool) (r : E) (u : Result B E) (y : B) → pick c (Err r) u ≡ Ok y → (c ≡ false) × (u ≡ Ok y)
past true r u y e = refused_next r y e
past false r u y e = (refl, e)

pub follow-next : (s : Result Progress Refusal) (k : Progress → (Result Progress Refusal)) (y : Progress) → follow s k ≡ Ok y → (z : Progress) × (s ≡ Ok z) × (k z ≡ Ok y)
follow-next (Ok z) k y e = (z, refl, e)
follow-next (Err r) k y e = refused_next r y e

pub ended_fine : (s : Result Progress Refusal) (k : Progress → (Result ⊤ Refusal)) → ended s k ≡ Ok tt → (z : Progress) × (s ≡ Ok z) × (k z ≡ Ok tt)
ended_fine (Ok z) k e = (z, refl, e)
ended_fine (Err r) k e = refused_next r tt e

-- For a progress within bytes below 2^32, one registration is a step.
pub register-step : (h : Head) (b : List ℕ) (x : Progress) → x.pos ≤ length b → length b < 2 ^ 32 → register_head_lem h b x ≡ step h b x
register-step h b x p s = rw (le-ltb _ _ p, le-ltb 4294967295 (length b) (omega arith))

-- The least that the next offset may be.
abbrev pub floor : Option ℕ → ℕ
floor (Some n) = n
floor None = 0

-- the progress behind an offset o
abbrev pub behind : Progress → ℕ → Progress
behind x o = record { pos = x.pos + 4; first = or_else_just x.first o; previous = Some o }

tests-next : (c d : Bool) (o : ℕ) (x y : Progress) → behind_offset
    (pick c (Err (OffsetOutOfBounds o)) (pick d (Err (OffsetsAreDecreasing o)) (Ok o))) x ≡
    Ok y → (c ≡ false) × (d ≡ false) × (y ≡ behind x o)
tests-next true d o x y e = refused_next (OffsetOutOfBounds o) y e
tests-next false true o x y e = refused_next (OffsetsAreDecreasing o) y e
tests-next false false o x y e = (refl, refl, cc)

offset_next : (m : Option ℕ) (o len : ℕ) (x y : Progress) → behind_offset (sanitize_offset_lem o m len None) x ≡ Ok y →
    (o ≤ len) × (floor m ≤ o) × (y ≡ behind x o)
offset_next (Some n) o len x y e = let q = tests-next (ltb len o) (ltb o n) o x y e in (ltb-false _ _ q.0, ltb-false _ _ q.1, q.2)
offset_next None o len x y e = let q = tests-next (ltb len o) false o x y e in (ltb-false _ _ q.0, omega arith, q.2)

offset_passes : (m : Option ℕ) (o len : ℕ) (x : Progress) → o ≤ len → floor m ≤ o → behind_offset (sanitize_offset_lem o m len None) x ≡ Ok (behind x o)
offset_passes (Some n) o len x h k = rw (le-ltb _ _ h, le-ltb _ _ k)
offset_passes None o len x h k = rw (le-ltb _ _ h)

-- the progress behind an item of n bytes
abbrev pub beyond : Progress → ℕ → Progress
beyond x n = record { pos = x.pos + n; first = x.first; previous = x.previous }

module _ (b : List ℕ) (x y : Progress) where
  pub step-fixed : (n : ℕ) → step (Fixed n) b x ≡ Ok y → (n < 2 ^ 32) × (x.pos + n ≤ length b) × (y ≡ beyond x n)
  unfolding step
  step-fixed n e =
      let p = past (ltb 4294967295 n) _ _ y e in
      let q = past (ltb (length b) (x.pos + n)) _ _ y p.1 in
      let l : n ≤ 4294967295 = ltb-false _ _ p.0 in
      (omega arith, ltb-false _ _ q.0, cc q.1)

  pub step_variable : step Variable b x ≡ Ok y → (x.pos + 4 ≤ length b) × (four b x.pos ≤ length b) ×
      (floor x.previous ≤ four b x.pos) × (y ≡ behind x (four b x.pos))
  unfolding step
  step_variable e =
      let p = past (ltb (length b - x.pos) 4) _ _ y e in
      let q = offset_next x.previous (four b x.pos) (length b) x y p.1 in
      let l : 4 ≤ length b - x.pos = ltb-false _ _ p.0 in
      (omega arith, q.0, q.1, q.2)

pub step-within : (h : Head) (b : List ℕ) (x y : Progress) → step h b x ≡ Ok y → y.pos ≤ length b
step-within (Fixed n) b x y e = rw (step-fixed b x y n e).2 (step-fixed b x y n e).1
step-within Variable b x y e = rw (step_variable b x y e).3 (step_variable b x y e).0

-- From acceptance to ranges.
register-ranges : (hs : List Head) (b : List ℕ) (x y : Progress) → register hs b x ≡ Ok y → floor x.previous ≤ length b →
    InRange hs b x.pos (floor x.previous)
unfolding register InRange
register-ranges [] b x y e h = h
register-ranges (Fixed n ∷ hs) b x y e h =
    let q = follow-next _ _ _ e in
    let s = step-fixed b x q.0 n q.1 in
    (s.1, register-ranges hs b (beyond x n) y (rw s.2 at q.2) h)
register-ranges (Variable ∷ hs) b x y e h =
    let q = follow-next _ _ _ e in
    let s = step_variable b x q.0 q.1 in
    (s.0, s.1, s.2, register-ranges hs b (behind x (four b x.pos)) y (rw s.3 at q.2) s.1)

register_pos : (hs : List Head) (b : List ℕ) (x y : Progress) → register hs b x ≡ Ok y → y.pos ≡ x.pos + portion hs
unfolding register portion width
register_pos [] b x y e = let q : x ≡ y = cc in rw (← q, add-zero)
register_pos (Fixed n ∷ hs) b x y e =
    let q = follow-next _ _ _ e in
    let s = step-fixed b x q.0 n q.1 in
    let r = register_pos hs b (beyond x n) y (rw s.2 at q.2) in
    omega arith
register_pos (Variable ∷ hs) b x y e =
    let q = follow-next _ _ _ e in
    let s = step_variable b x q.0 q.1 in
    let r = register_pos hs b (behind x (four b x.pos)) y (rw s.3 at q.2) in
    omega arith

-- The first offset at the end: the one that was there, or that of the first variable head; with none, there was none.
Says : Option ℕ → Option ℕ → ℕ → ℕ → Type 0
Says (Some k) m n len = m ≡ Some k
Says None (Some o) n len = o ≡ n
Says None None n len = n ≡ len

says_same : (m : Option ℕ) (len : ℕ) → Says m m len len
unfolding Says
says_same (Some k) len = refl
says_same None len = refl

says_first : (m : Option ℕ) (o : ℕ) (f : Option ℕ) (n len : ℕ) → Says (or_else_just m o) f n len → Says m f o len
unfolding Says
says_first (Some k) o f n len h = h
says_first None o f n len h = rw h refl

register-says : (hs : List Head) (b : List ℕ) (x y : Progress) → register hs b x ≡ Ok y → Says x.first y.first (next hs b x.pos) (length b)
unfolding register next
register-says [] b x y e = let q : x ≡ y = cc in rw (← q) (says_same x.first (length b))
register-says (Fixed n ∷ hs) b x y e =
    let q = follow-next _ _ _ e in
    let s = step-fixed b x q.0 n q.1 in
    register-says hs b (beyond x n) y (rw s.2 at q.2)
register-says (Variable ∷ hs) b x y e =
    let q = follow-next _ _ _ e in
    let s = step_variable b x q.0 q.1 in
    says_first x.first (four b x.pos) y.first _ (length b)
    (register-says hs b (behind x (four b x.pos)) y (rw s.3 at q.2))

build-says : (m : Option ℕ) (p n len : ℕ) → build_at m p len ≡ Ok tt → Says None m n len → n ≡ p
unfolding Says
build-says (Some o) p n len e s =
    let q = past (ltb o p) _ _ tt e in
    let r = past (ltb p o) _ _ tt q.1 in
    let i : p ≤ o = ltb-false _ _ q.0 in
    let j : o ≤ p = ltb-false _ _ r.0 in
    omega arith
build-says None p n len e s = go (eqb p len) refl e
  where
    go : (c : Bool) → eqb p len ≡ c → ◌≡◌ {A = Result ⊤ Refusal} (pick c (Ok tt) (Err (InvalidByteLength len p))) (Ok tt) → n ≡ p
    go true q f = s ∙ sym (eqb-true _ _ q)
    go false q f = refused_next (InvalidByteLength len p) tt f

build-passes : (m : Option ℕ) (p n len : ℕ) → Says None m n len → n ≡ p → build_at m p len ≡ Ok tt
unfolding Says
build-passes (Some o) p n len s e = rw (le-ltb o p (omega arith)) (rw (le-ltb p o (omega arith)))
build-passes None p n len s e = rw (eq-eqb p len (sym e ∙ s))

module _ (hs : List Head) (b : List ℕ) where
  pub layout-ranges : lay_out_lem hs b ≡ Ok tt → InRange hs b 0 0
  unfolding lay_out_lem
  layout-ranges e = let q = ended_fine _ _ e in register-ranges hs b fresh q.0 q.1 (omega arith)

  pub layout-next : lay_out_lem hs b ≡ Ok tt → next hs b 0 ≡ portion hs
  unfolding lay_out_lem build
  layout-next e =
      let q = ended_fine _ _ e in
      let p = register_pos hs b fresh q.0 q.1 in
      let s = register-says hs b fresh q.0 q.1 in
      build-says q.0.first q.0.pos (next hs b 0) (length b) q.2 s ∙ omega arith

-- From ranges to acceptance.
register-passes : (hs : List Head) (b : List ℕ) (x : Progress) → length b < 2 ^ 32 → InRange hs b x.pos (floor x.previous) →
    (y : Progress) × (register hs b x ≡ Ok y)
unfolding InRange register step
register-passes [] b x k r = (x, refl)
register-passes (Fixed n ∷ hs) b x k r =
    rw (le-ltb 4294967295 n (omega (arith, r.0)), le-ltb _ _ r.0) (register-passes hs b (beyond x n) k r.1)
register-passes (Variable ∷ hs) b x k r =
    rw (le-ltb (length b - x.pos) 4 (omega (arith, r.0)), offset_passes x.previous (four b x.pos) (length b) x r.1 r.2)
    (register-passes hs b (behind x (four b x.pos)) k r.3)

pub layout-passes : (hs : List Head) (b : List ℕ) → length b < 2 ^ 32 → InRange hs b 0 0 → next hs b 0 ≡ portion hs → lay_out_lem hs b ≡ Ok tt
unfolding lay_out_lem build
layout-passes hs b k r n =
    let q = register-passes hs b fresh k r in
    let p = register_pos hs b fresh q.0 q.1 in
    let s = register-says hs b fresh q.0 q.1 in
    rw q.1 (build-passes q.0.first q.0.pos (next hs b 0) (length b) s (omega arith))
