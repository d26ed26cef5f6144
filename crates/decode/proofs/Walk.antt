-- The record of a builder, walked from its front: what is left gives the whole. Assumes nothing.
use mathlib.Core.Path.{◌≡◌, refl, sym, ap, ◌∙◌}
use mathlib.Core.List.{List, [], ◌∷◌}
use mathlib.Core.Bool.{Bool, true, false}
use mathlib.Core.Logic.{◌⊎◌, inl, inr}
use Prim.Native.Nat.{ℕ, zero, suc, ◌+◌, ◌-◌, ◌≤◌, ◌<◌, ◌^◌}
use native.Mathlib.Omega.{arith}
use borrow.Author.Tests.{eq-eqb, ne_eqb, eqb-true, ltb-false, leb-true, le-leb}
use lib.ListN.{length, get_or, take, drop}
use lib.Dec.{eqb, ltb, leb}
use Rattle.std.specs.Bool.{MatchBool}
use Rattle.std.specs.List.{AllWithin, HoldsAt}
use Rattle.standard.specs.Choice.{pick, and_also}
use Rattle.standard.specs.Bytes.{four}
use Rattle.standard.specs.Types.{width}
use Rattle.standard.specs.declared.Head.{Head}
use Rattle.standard.specs.declared.Head.TheVariants.{Fixed, Variable}
use Rattle.standard.specs.declared.Refusal.{Refusal}
use Rattle.standard.specs.declared.Refusal.TheVariants.{BadState}
use Rattle.decode.specs.declared.builder.Progress.{Progress}
use Rattle.decode.specs.declared.decoder.SszDecoderBuilder.{SszDecoderBuilder}
use Rattle.decode.specs.Builder.{fresh, step, register_head_lem, follow}
use Rattle.decode.specs.Held.{open_end, start_of, end_of, bad, zeros, recall, walk, arrived, recalled, Come}
use Rattle.decode.proofs.Register.{refused_next, past, follow-next, register-step, step-fixed, step_variable, step-within}
use Rattle.std.specs.declared.result.Result.{Result}
use Rattle.std.specs.declared.result.Result.TheVariants.{Ok, Err}

follow-alike : (s : Result Progress Refusal) (f g : Progress → Result Progress Refusal) → ((y : Progress) → f y ≡ g y) → follow s f ≡ follow s g
follow-alike (Ok y) f g h = h y
follow-alike (Err r) f g h = refl

-- All entries are zero, or one of them is not.
are-zero : (l : List ℕ) → ((k : ℕ) → k < length l → get_or l k 0 ≡ 0) → true ≡ zeros l
unfolding zeros
are-zero [] h = refl
are-zero (x ∷ xs) h = rw (eq-eqb x 0 (h 0 (omega arith))) (are-zero xs (λ k i. h (suc k) (omega arith)))

not_zero : (l : List ℕ) (k : ℕ) → k < length l → (get_or l k 0 ≡ 0 → ⊥) → false ≡ zeros l
unfolding zeros
not_zero [] k i h = absurd (omega arith)
not_zero (x ∷ xs) zero i h = rw (ne_eqb x 0 h) refl
not_zero (x ∷ xs) (suc k) i h = rw (← not_zero xs k (omega arith) h) (go (eqb x 0))
  where
    go : (c : Bool) → false ≡ and_also c false
    go true = refl
    go false = refl

pub zero-test : (l : List ℕ) (r : Bool) → MatchBool r (AllWithin (λ x. x ≡ 0) l 0 (length l)) ((k : ℕ) × (k < length l) × HoldsAt (λ x. x ≡ 0 → ⊥) l k)
    → r ≡ zeros l
zero-test l true h = are-zero l (λ k i. h k 0 (omega arith) i)
zero-test l false h = not_zero l h.0 h.1 (h.2 0)

-- The front of the record is enough for its items.
pub walk_front : (ss es : List ℕ) (n : ℕ) (b : List ℕ) (x : Progress) → n ≤ length ss → n ≤ length es
    → walk (take n ss) (take n es) (length (take n ss)) b x ≡ walk ss es n b x
unfolding walk
walk_front ss es zero b x h k = refl
walk_front [] es (suc n) b x h k = absurd (omega arith)
walk_front (s ∷ ss) [] (suc n) b x h k = absurd (omega arith)
walk_front (s ∷ ss) (e ∷ es) (suc n) b x h k = follow-alike (recall s e b x) _ _ (λ (y : Progress). walk_front ss es n b y (omega arith) (omega arith))

-- What is left of the items gives, behind the progress x, what they all give.
pub record Walking (ss es : List ℕ) (b : List ℕ) (x : Progress) (rest_ss rest_es : List ℕ) : Type 0 where
  pub long : length rest_ss ≡ length rest_es
  pub same : walk rest_ss rest_es (length rest_ss) b x ≡ walk ss es (length ss) b fresh

module _ (ss es b : List ℕ) (x : Progress) (rs re : List ℕ) (g : Walking ss es b x rs re) where
  pub walking_all : (rs ≡ []) ⊎ (re ≡ []) → Ok x ≡ walk ss es (length ss) b fresh
  unfolding walk
  walking_all (inl e) = rw e at g.same
  walking_all (inr e) =
      let n : length rs ≡ 0 = g.long ∙ ap length e in
      rw n at g.same

  module _ (s e : ℕ) (ss' es' : List ℕ) (p : rs ≡ s ∷ ss') (q : re ≡ e ∷ es') where
    walk_cons : follow (recall s e b x) (walk ss' es' (length ss') b) ≡ walk ss es (length ss) b fresh
    unfolding walk
    walk_cons = rw (p, q) at g.same

    pub walking_more : (y : Progress) → Ok y ≡ recall s e b x → Walking ss es b y ss' es'
    walking_more y r = record { long = omega (arith, g.long, ap length p, ap length q); same = rw (← r) at walk_cons }

    pub walking_bad : (r : Refusal) → Err r ≡ recall s e b x → Err r ≡ walk ss es (length ss) b fresh
    walking_bad r h = rw (← h) at walk_cons

-- What an accepted item of the record says.
pub pick_next : (c : Bool) (u : Result Progress Refusal) (y : Progress) → pick c u bad ≡ Ok y → (c ≡ true) × (u ≡ Ok y)
pick_next true u y e = (refl, e)
pick_next false u y e = refused_next BadState y e

-- Some head was registered, and the record says what it has to say of it.
pub record Recalled (s e : ℕ) (b : List ℕ) (x y : Progress) : Type 0 where
  pub head : Head
  pub start : s ≡ start_of head b x.pos
  pub end : e ≡ end_of head (x.pos + width head)
  pub small : length b < 2 ^ 32
  pub stepped : step head b x ≡ Ok y

module _ (b : List ℕ) (x y : Progress) where
  head-next : (h : Head) → register_head_lem h b x ≡ Ok y → (length b < 2 ^ 32) × (step h b x ≡ Ok y)
  head-next h e =
      let p = past (ltb (length b) x.pos) _ _ y e in
      let q = past (ltb 4294967295 (length b)) _ _ y p.1 in
      let l : length b ≤ 4294967295 = ltb-false _ _ q.0 in
      (omega arith, q.1)

  recall_open : (s : ℕ) → pick (eqb s (four b x.pos)) (register_head_lem Variable b x) bad ≡ Ok y → Recalled s open_end b x y
  recall_open s e =
      let p = pick_next (eqb s (four b x.pos)) (register_head_lem Variable b x) y e in
      let q = head-next Variable p.1 in
      record { head = Variable; start = eqb-true _ _ p.0; end = refl; small = q.0; stepped = q.1 }

  recall_shut : (s e : ℕ) → pick (eqb s x.pos) (pick (ltb e s) bad (register_head_lem (Fixed (e - s)) b x)) bad ≡ Ok y → Recalled s e b x y
  unfolding width
  recall_shut s e h =
      let p = pick_next (eqb s x.pos) (pick (ltb e s) bad (register_head_lem (Fixed (e - s)) b x)) y h in
      let q = past (ltb e s) BadState (register_head_lem (Fixed (e - s)) b x) y p.1 in
      let r = head-next (Fixed (e - s)) q.1 in
      let i : s ≡ x.pos = eqb-true _ _ p.0 in
      let j : s ≤ e = ltb-false _ _ q.0 in
      record { head = Fixed (e - s); start = i; end = omega arith; small = r.0; stepped = r.1 }

  pub recall-says : (s e : ℕ) → recall s e b x ≡ Ok y → Recalled s e b x y
  unfolding recall
  recall-says s e h = go (eqb e open_end) refl h
    where
      go : (c : Bool) → eqb e open_end ≡ c
          → pick c (pick (eqb s (four b x.pos)) (register_head_lem Variable b x) bad)
          (pick (eqb s x.pos) (pick (ltb e s) bad (register_head_lem (Fixed (e - s)) b x)) bad) ≡ Ok y
          → Recalled s e b x y
      go true q k = rw (eqb-true e open_end q) (recall_open s k)
      go false q k = recall_shut s e k

-- Where a walk ends lies within the bytes.
pub walk-within : (ss es : List ℕ) (n : ℕ) (b : List ℕ) (x y : Progress) → walk ss es n b x ≡ Ok y → x.pos ≤ length b → y.pos ≤ length b
unfolding walk
walk-within ss es zero b x y e h = let q : x ≡ y = cc in rw (← q) h
walk-within [] es (suc n) b x y e h = refused_next BadState y e
walk-within (s ∷ ss) [] (suc n) b x y e h = refused_next BadState y e
walk-within (s ∷ ss) (t ∷ es) (suc n) b x y e h =
    let q = follow-next _ _ _ e in
    let r = recall-says b x q.0 s t q.1 in
    walk-within ss es n b q.0 y q.2 (step-within r.head b x q.0 r.stepped)

-- The test of a state refuses with 23 alone.
bad-pick : (c : Bool) (u : Result Progress Refusal) (r : Refusal) → (u ≡ Err r → r ≡ BadState) → pick c u bad ≡ Err r → r ≡ BadState
bad-pick true u r k e = k e
bad-pick false u r k e = cc e

bad-arrived : (s : Result Progress Refusal) (n : ℕ) (r : Refusal) → arrived s n ≡ Err r → r ≡ BadState
bad-arrived (Ok y) n r e = bad-pick (eqb y.pos n) (Ok y) r (λ f. refused_next r y (sym f)) e
bad-arrived (Err q) n r e = cc e

pub recalled_bad : (x : SszDecoderBuilder) (b : List ℕ) (r : Refusal) → recalled x b ≡ Err r → r ≡ BadState
unfolding recalled
recalled_bad x b r e =
    bad-pick (leb x.count 64) _ r
    (bad-pick (zeros (drop x.count x.starts)) _ r
    (bad-pick (zeros (drop x.count x.ends)) _ r (bad-arrived (walk x.starts x.ends x.count b fresh) x.pos r))) e

-- What the test of a state says.
pub record Tested (x : SszDecoderBuilder) (b : List ℕ) (p : Progress) : Type 0 where
  pub few : x.count ≤ 64
  pub no-starts : zeros (drop x.count x.starts) ≡ true
  pub no-ends : zeros (drop x.count x.ends) ≡ true
  pub walked : walk x.starts x.ends x.count b fresh ≡ Ok p
  pub arrives : p.pos ≡ x.pos

arrived-next : (s : Result Progress Refusal) (n : ℕ) (p : Progress) → arrived s n ≡ Ok p → (s ≡ Ok p) × (p.pos ≡ n)
arrived-next (Ok y) n p e =
    let q = pick_next (eqb y.pos n) (Ok y) p e in
    let r : y ≡ p = cc q.1 in
    (q.1, ap (λ (z : Progress). z.pos) (sym r) ∙ eqb-true _ _ q.0)
arrived-next (Err r) n p e = refused_next BadState p e

module _ (x : SszDecoderBuilder) (b : List ℕ) (p : Progress) where
  pub recalled-says : recalled x b ≡ Ok p → Tested x b p
  unfolding recalled
  recalled-says e =
      let q = pick_next (leb x.count 64) _ p e in
      let r = pick_next (zeros (drop x.count x.starts)) _ p q.1 in
      let s = pick_next (zeros (drop x.count x.ends)) _ p r.1 in
      let t = arrived-next (walk x.starts x.ends x.count b fresh) x.pos p s.1 in
      record { few = leb-true _ _ q.0; no-starts = r.0; no-ends = s.0; walked = t.0; arrives = t.1 }

  pub recalled-tested : Tested x b p → recalled x b ≡ Ok p
  unfolding recalled
  recalled-tested g = rw (le-leb _ _ g.few, g.no-starts, g.no-ends, g.walked, eq-eqb _ _ g.arrives)

  pub recalled_few : recalled x b ≡ Ok p → x.count ≤ 64
  recalled_few e = (recalled-says e).few

  pub recalled_come : recalled x b ≡ Ok p → Come p x b
  recalled_come e =
      let g = recalled-says e in
      record { same = g.arrives; within = walk-within x.starts x.ends x.count b fresh p g.walked (omega arith) }

-- One registration of a state that is reached is a step.
pub come_step : (h : Head) (b : List ℕ) (p : Progress) (x : SszDecoderBuilder) (r : Result Progress Refusal) → Come p x b → length b ≤ 4294967295
    → r ≡ register_head_lem h b p → step h b p ≡ r
come_step h b p x r g l e = sym (register-step h b p g.within (omega arith)) ∙ sym e

pub step_pos : (h : Head) (b : List ℕ) (x y : Progress) → step h b x ≡ Ok y → y.pos ≡ x.pos + width h
unfolding width
step_pos (Fixed n) b x y e = rw (step-fixed b x y n e).2
step_pos Variable b x y e = rw (step_variable b x y e).3

come_pos : (h : Head) (b : List ℕ) (p q : Progress) (x : SszDecoderBuilder) → Come p x b → step h b p ≡ Ok q → q.pos ≡ x.pos + width h
come_pos h b p q x g e = rw (← g.same) (step_pos h b p q e)

pub come_next : (h : Head) (b : List ℕ) (p q : Progress) (x : SszDecoderBuilder) → Come p x b → length b ≤ 4294967295
    → register_head_lem h b p ≡ Ok q → q.pos ≡ x.pos + width h
come_next h b p q x g l e = come_pos h b p q x g (come_step h b p x (Ok q) g l (sym e))
