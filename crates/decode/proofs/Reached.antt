-- A state passes the test just if a run of accepted registrations reaches it: each registration adds one item behind those that a walk
-- passes, and the last item of a walk that passes can be taken away again. Assumes nothing.
use mathlib.Core.Path.{◌≡◌, refl, sym, ap, ◌∙◌}
use mathlib.Core.List.{List, [], ◌∷◌}
use mathlib.Core.Logic.{◌↔◌}
use mathlib.Core.Bool.{Bool, true, false}
use Prim.Native.Nat.{ℕ, zero, suc, ◌+◌, ◌-◌, ◌<◌, ◌^◌}
use native.Mathlib.Numerals.{add-one}
use native.Mathlib.Omega.{arith}
use borrow.Author.Tests.{eq-eqb, ne_eqb, le-ltb, eqb-true}
use lib.ListN.{length, get_or, drop, set, replicate, length-set}
use lib.Seq.{drop-cons, drop-set-lt, get_or-set_same, set-set, set-get_or}
use lib.Dec.{eqb}
use Rattle.standard.specs.Choice.{and_also}
use Rattle.standard.specs.Types.{width}
use Rattle.standard.specs.declared.Head.{Head}
use Rattle.standard.specs.declared.Head.TheVariants.{Fixed, Variable}
use Rattle.decode.specs.declared.builder.Progress.{Progress}
use Rattle.decode.specs.declared.decoder.SszDecoderBuilder.{SszDecoderBuilder}
use Rattle.decode.specs.Builder.{fresh, step, follow}
use Rattle.decode.specs.Held.{new, open_end, start_of, end_of, put, Run, none, more, zeros, recall, walk, recalled}
use Rattle.decode.proofs.Register.{follow-next, register-step, step-fixed, step_variable}
use Rattle.decode.proofs.Walk.{Tested, recall-says, recalled-says, recalled-tested, step_pos}
use Rattle.std.specs.declared.result.Result.{Result}
use Rattle.std.specs.declared.result.Result.TheVariants.{Ok, Err}
use Rattle.standard.specs.declared.Refusal.{Refusal}

-- The record of every builder has 64 entries of each kind.
pub record Long (x : SszDecoderBuilder) : Type 0 where
  pub starts-long : length x.starts ≡ 64
  pub ends-long : length x.ends ≡ 64

-- An item that was registered is recalled.
recall-put : (h : Head) (b : List ℕ) (p q : Progress) → length b < 2 ^ 32 → step h b p ≡ Ok q
    → recall (start_of h b p.pos) (end_of h (p.pos + width h)) b p ≡ Ok q
unfolding recall width
recall-put (Fixed n) b p q small e =
    let s = step-fixed b p q n e in
    let k : p.pos + n ≡ open_end → ⊥ = λ (z : p.pos + n ≡ open_end). omega (arith, s.1) in
    let d : p.pos + n - p.pos ≡ n = omega arith in
    rw (ne_eqb _ _ k, eq-eqb p.pos p.pos refl, le-ltb (p.pos + n) p.pos (omega arith), d)
    (register-step (Fixed n) b p (omega (arith, s.1)) small ∙ e)
recall-put Variable b p q small e =
    let s = step_variable b p q e in
    rw (eq-eqb _ _ refl) (register-step Variable b p (omega (arith, s.0)) small ∙ e)

recall-at : (h : Head) (b : List ℕ) (p q : Progress) (m : ℕ) → p.pos ≡ m → length b < 2 ^ 32 → step h b p ≡ Ok q
    → recall (start_of h b m) (end_of h (m + width h)) b p ≡ Ok q
recall-at h b p q m a small e = rw (← a) (recall-put h b p q small e)

-- A walk with one item more.
follow-end : (s : Result Progress Refusal) → follow s (λ (y : Progress). Ok y) ≡ s
follow-end (Ok y) = refl
follow-end (Err r) = refl

follow_again : (s : Result Progress Refusal) (f g k : Progress → (Result Progress Refusal)) → ((y : Progress) → f y ≡ follow (g y) k) → follow s f ≡ follow (follow s g) k
follow_again (Ok y) f g k h = h y
follow_again (Err r) f g k h = refl

walk_put : (ss es : List ℕ) (n s e : ℕ) (b : List ℕ) (x : Progress) → n < length ss → n < length es
    → walk (set ss n s) (set es n e) (suc n) b x ≡ follow (walk ss es n b x) (recall s e b)
unfolding walk
walk_put [] es n s e b x h k = absurd (omega arith)
walk_put (s₀ ∷ ss) [] n s e b x h k = absurd (omega arith)
walk_put (s₀ ∷ ss) (e₀ ∷ es) zero s e b x h k = follow-end (recall s e b x)
walk_put (s₀ ∷ ss) (e₀ ∷ es) (suc n) s e b x h k =
    follow_again (recall s₀ e₀ b x) (walk (set ss n s) (set es n e) (suc n) b) (walk ss es n b) (recall s e b)
    (λ (y : Progress). walk_put ss es n s e b y (omega arith) (omega arith))

-- What is zero behind an item.
zeros_tail : (x : Bool) (y : Bool) → and_also x y ≡ true → y ≡ true
zeros_tail true y e = e
zeros_tail false y e = let z : ◌≡◌ {A = ℕ} 0 1 = cc in absurd (omega arith)

module _ (a : List ℕ) (n : ℕ) (h : n < length a) where
  zeros-put : (v : ℕ) → zeros (drop n a) ≡ true → zeros (drop (suc n) (set a n v)) ≡ true
  unfolding zeros
  zeros-put v e =
      let t = rw (drop-cons a n 0 h) at e in
      rw (drop-set-lt (suc n) a n v (omega arith)) (zeros_tail (eqb (get_or a n 0) 0) (zeros (drop (suc n) a)) t)

  zeros_unput : zeros (drop (suc n) a) ≡ true → zeros (drop n (set a n 0)) ≡ true
  unfolding zeros
  zeros_unput e =
      let l : n < length (set a n 0) = rw length-set h in
      rw (drop-cons (set a n 0) n 0 l, get_or-set_same a n 0 0 h, drop-set-lt (suc n) a n 0 (omega arith), e)

  -- the entry taken away and put back
  put_back : set (set a n 0) n (get_or a n 0) ≡ a
  put_back = set-set a n 0 (get_or a n 0) ∙ set-get_or a n 0

zeros_cons : (c : Bool) (x : ℕ) (xs : List ℕ) → eqb x 0 ≡ c → and_also c (zeros xs) ≡ true → (x ≡ 0) × (zeros xs ≡ true)
zeros_cons true x xs q e = (eqb-true x 0 q, e)
zeros_cons false x xs q e = let z : ◌≡◌ {A = ℕ} 0 1 = cc in absurd (omega arith)

zeros-all : (a : List ℕ) → zeros a ≡ true → a ≡ replicate (length a) 0
unfolding zeros
zeros-all [] e = refl
zeros-all (x ∷ xs) e =
    let q = zeros_cons (eqb x 0) x xs refl e in
    rw q.0 (ap (λ (t : List ℕ). 0 ∷ t) (zeros-all xs q.1))

-- From a run to the test.
run_long : {b : List ℕ} {p : Progress} {x : SszDecoderBuilder} → Run b p x → Long x
run_long none = record { starts-long = refl; ends-long = refl }
run_long (more h r small few e) =
    let g = run_long r in
    record { starts-long = simp length-set g.starts-long; ends-long = simp length-set g.ends-long }

module _ (b : List ℕ) (p q : Progress) (x : SszDecoderBuilder) (h : Head) (l : Long x) (t : Tested x b p) (small : length b < 2 ^ 32)
    (few : x.count < 64) (e : step h b p ≡ Ok q) where
  in_starts : x.count < length x.starts
  in_starts = let k = l.starts-long in omega arith

  in_ends : x.count < length x.ends
  in_ends = let k = l.ends-long in omega arith

  walked_put : walk (put h b x).starts (put h b x).ends (suc x.count) b fresh ≡ Ok q
  walked_put =
      let w = walk_put x.starts x.ends x.count (start_of h b x.pos) (end_of h (x.pos + width h)) b fresh in_starts in_ends in
      w ∙ rw t.walked (recall-at h b p q x.pos t.arrives small e)

  tested-put : Tested (put h b x) b q
  tested-put =
      record {
        few = omega arith;
        no-starts = rw add-one (zeros-put x.starts x.count in_starts _ t.no-starts);
        no-ends = rw add-one (zeros-put x.ends x.count in_ends _ t.no-ends);
        walked = rw add-one walked_put;
        arrives = step_pos h b p q e ∙ rw t.arrives;
      }

tested-new : (b : List ℕ) → Tested new b fresh
unfolding zeros walk
tested-new b = record { few = omega arith; no-starts = refl; no-ends = refl; walked = refl; arrives = refl }

run_tested : {b : List ℕ} {p : Progress} {x : SszDecoderBuilder} → Run b p x → Tested x b p
run_tested {b} none = tested-new b
run_tested {b} (more h {p} {q} {x} r small few e) = tested-put b p q x h (run_long r) (run_tested r) small few e

-- From the test to a run: by the number of items, taking the last one away.
abbrev state : ℕ → ℕ → List ℕ → List ℕ → SszDecoderBuilder
state n pos ss es = record { count = n; pos = pos; starts = ss; ends = es }

module _ (b : List ℕ) (pos : ℕ) (ss es : List ℕ) (p : Progress) (ls : length ss ≡ 64) (le : length es ≡ 64) where
  run_none : Tested (state 0 pos ss es) b p → Run b p (state 0 pos ss es)
  unfolding walk
  run_none t =
      let q : fresh ≡ p = cc t.walked in
      let z = t.arrives in
      let n : pos ≡ 0 = sym z ∙ ap (λ (y : Progress). y.pos) (sym q) in
      let s : ss ≡ replicate 64 0 = zeros-all ss t.no-starts ∙ rw ls in
      let e : es ≡ replicate 64 0 = zeros-all es t.no-ends ∙ rw le in
      rw (← q, n, s, e) none

  module _ (n : ℕ) (t : Tested (state (suc n) pos ss es) b p) where
    at-start : n < length ss
    at-start = let k = t.few in omega arith

    at-end : n < length es
    at-end = let k = t.few in omega arith

    -- the walk without the last item, and that item
    parted : follow (walk (set ss n 0) (set es n 0) n b fresh) (recall (get_or ss n 0) (get_or es n 0) b) ≡ Ok p
    parted =
        let i : n < length (set ss n 0) = rw length-set at-start in
        let j : n < length (set es n 0) = rw length-set at-end in
        let w = walk_put (set ss n 0) (set es n 0) n (get_or ss n 0) (get_or es n 0) b fresh i j in
        sym w ∙ rw (put_back ss n at-start, put_back es n at-end) t.walked

    -- the state before it
    tested-before : (z : Progress) → walk (set ss n 0) (set es n 0) n b fresh ≡ Ok z → Tested (state n z.pos (set ss n 0) (set es n 0)) b z
    tested-before z w =
        let k = t.few in
        record {
          few = omega arith;
          no-starts = zeros_unput ss n at-start t.no-starts;
          no-ends = zeros_unput es n at-end t.no-ends;
          walked = w;
          arrives = refl;
        }

    run_more : (z : Progress) → Run b z (state n z.pos (set ss n 0) (set es n 0)) → recall (get_or ss n 0) (get_or es n 0) b z ≡ Ok p
        → Run b p (state (suc n) pos ss es)
    run_more z r e =
        let g = recall-says b z p (get_or ss n 0) (get_or es n 0) e in
        let k = t.few in
        let few : n < 64 = omega arith in
        let a = sym (step_pos g.head b z p g.stepped) ∙ t.arrives in
        rw (add-one n, ← g.start, ← g.end, a, put_back ss n at-start, put_back es n at-end)
        at (more g.head r g.small few g.stepped)

run_of : (b : List ℕ) (n pos : ℕ) (ss es : List ℕ) (p : Progress) → length ss ≡ 64 → length es ≡ 64 → Tested (state n pos ss es) b p
    → Run b p (state n pos ss es)
run_of b zero pos ss es p ls le t = run_none b pos ss es p ls le t
run_of b (suc n) pos ss es p ls le t =
    let q = follow-next _ _ _ (parted b pos ss es p ls le n t) in
    let r = run_of b n q.0.pos (set ss n 0) (set es n 0) q.0 (length-set ss n 0 ∙ ls) (length-set es n 0 ∙ le)
    (tested-before b pos ss es p ls le n t q.0 q.1) in
    run_more b pos ss es p ls le n t q.0 r q.2

-- The test of a state passes, with this progress, just if a run reaches it.
pub reached_iff : (b : List ℕ) (p : Progress) (x : SszDecoderBuilder) → Long x → (recalled x b ≡ Ok p) ↔ Run b p x
reached_iff b p x l = (
  λ e. run_of b x.count x.pos x.starts x.ends p l.starts-long l.ends-long (recalled-says x b p e),
  λ r. recalled-tested x b p (run_tested r),
)

pub run_recalled : {b : List ℕ} {p : Progress} {x : SszDecoderBuilder} → Run b p x → recalled x b ≡ Ok p
run_recalled {b} {p} {x} r = recalled-tested x b p (run_tested r)
