-- The elements of a list, counted: each test of the code is one of the rules of reading. Assumes nothing.
--     Following     the loop over the offsets behind the first: what is left of them tells what all of them tell
--     says-..       how many elements a list has, if it is accepted: its length or its first offset says so
use mathlib.Core.Path.{◌≡◌, refl, sym, ◌∙◌}
use mathlib.Core.List.{List}
use Prim.Native.Nat.{ℕ, zero, suc, ◌+◌, ◌-◌, ◌*◌, ◌/◌, ◌%◌, ◌≤◌, ◌<◌}
use native.Mathlib.Omega.{arith}
use borrow.Author.Tests.{eqb-true, lt-ltb, le-ltb}
use lib.ListN.{length}
use lib.Dec.{eqb, ltb, leb}
use Rattle.standard.specs.Choice.{pick, or_else}
use Rattle.standard.specs.Bytes.{four}
use Rattle.standard.specs.declared.Head.TheVariants.{Fixed, Variable}
use Rattle.standard.specs.declared.Refusal.{Refusal}
use Rattle.standard.specs.declared.Refusal.TheVariants.{OffsetIntoFixedPortion, OffsetOutOfBounds, OffsetsAreDecreasing}
use Rattle.message.specs.Read.{within, further, then_many, behind_first_lem, elements}
use Rattle.message.proofs.Answers.{pick-holds}
use Rattle.std.specs.Prelude.{⊤}
use Rattle.std.specs.declared.result.Result.{Result}
use Rattle.std.specs.declared.result.Result.TheVariants.{Ok, Err}

-- The loop over the offsets behind the first: what is left, from position p on, tells what the whole tells, and all of it is there.
pub record Following (b : List ℕ) (first n previous p left : ℕ) : Type 0 where
  pub room : p + 4 * left ≤ length b
  pub same : further b first previous p left ≡ further b first first 4 n

further-one :
    (b : List ℕ) (first previous p left : ℕ) → 0 < left
    → further b first previous p left ≡
    pick (ltb (four b p) first) (Err (OffsetIntoFixedPortion (four b p)))
    (pick (ltb (length b) (four b p)) (Err (OffsetOutOfBounds (four b p)))
    (pick (ltb (four b p) previous) (Err (OffsetsAreDecreasing (four b p)))
    (further b first (four b p) (p + 4) (left - 1))))
unfolding further
further-one b first previous p zero z = absurd (omega arith)
further-one b first previous p (suc m) z = let q : suc m - 1 ≡ m = omega arith in rw q

further-none : (b : List ℕ) (first previous p left : ℕ) → left ≤ 0 → further b first previous p left ≡ Ok tt
unfolding further
further-none b first previous p zero z = refl
further-none b first previous p (suc m) z = absurd (omega arith)

module _ {b : List ℕ} {first n : ℕ} where
  module _ {previous p left : ℕ} (g : Following b first n previous p left) where
    pub following_end : left ≤ 0 → (Ok tt) ≡ further b first first 4 n
    following_end z = sym (further-none b first previous p left z) ∙ g.same

    module _ {o : ℕ} (z : 0 < left) (e : o ≡ four b p) where
      -- the tests of the offset o, and what comes behind it
      tests :
          pick (ltb o first) (Err (OffsetIntoFixedPortion o))
          (pick (ltb (length b) o) (Err (OffsetOutOfBounds o))
          (pick (ltb o previous) (Err (OffsetsAreDecreasing o))
          (further b first o (p + 4) (left - 1)))) ≡ further b first first 4 n
      tests = rw e (sym (further-one b first previous p left z) ∙ g.same)

      pub following_low : o < first → Err (OffsetIntoFixedPortion o) ≡ further b first first 4 n
      following_low i = rw (lt-ltb o first i) at tests

      module _ (i : first ≤ o) where
        pub following_past : length b < o → Err (OffsetOutOfBounds o) ≡ further b first first 4 n
        following_past j = rw (le-ltb o first i, lt-ltb (length b) o j) at tests

        module _ (j : o ≤ length b) where
          pub following_back : o < previous → Err (OffsetsAreDecreasing o) ≡ further b first first 4 n
          following_back k = rw (le-ltb o first i, le-ltb (length b) o j, lt-ltb o previous k) at tests

          pub following_next : previous ≤ o → Following b first n o (p + 4) (left - 1)
          following_next k =
              record { room = omega (arith, g.room); same = rw (le-ltb o first i, le-ltb (length b) o j, le-ltb o previous k) at tests }

-- These elements are m, if they are accepted.
abbrev Says : ℕ → Result ℕ Refusal → Type 0
Says m x = (n : ℕ) → x ≡ Ok n → m ≡ n

refused_says : (m : ℕ) (r : Refusal) → Says m (Err r)
refused_says m r n e = let z : ◌≡◌ {A = ℕ} 0 1 = cc in absurd (omega arith)

many-says : (m : ℕ) → Says m (Ok m)
many-says m n e = cc

within-says : (m limit : ℕ) → Says m (within m limit)
within-says m limit = pick-holds (Says m) (leb m limit) _ _ (λ q. many-says m) (λ q. refused_says m _)

then_says : (m : ℕ) (d : Result ⊤ Refusal) → Says m (then_many d m)
then_says m (Ok tt) = many-says m
then_says m (Err r) = refused_says m r

behind-says : (m limit : ℕ) (b : List ℕ) (o : ℕ) → Says m (behind_first_lem (within m limit) b o)
behind-says m limit b o =
    pick-holds (λ (x : Result ℕ Refusal). Says m (behind_first_lem x b o)) (leb m limit) _ _ (λ q. then_says m (further b o o 4 (m - 1))) (λ q. refused_says m _)

module _ (limit : ℕ) (b : List ℕ) where
  pub says-fixed : (k : ℕ) → Says (length b / k) (elements (Fixed k) limit b)
  unfolding elements
  says-fixed k = pick-holds (Says (length b / k)) (eqb (length b % k) 0) _ _ (λ q. within-says _ limit) (λ q. refused_says _ _)

  pub says-short : length b < 4 → Says 0 (elements Variable limit b)
  unfolding elements
  says-short h = pick-holds (Says 0) (eqb (length b) 0) _ _ (λ q. many-says 0) λ q. rw (lt-ltb (length b) 4 h) (refused_says 0 _)

  pub says_offset : 4 ≤ length b → Says (four b 0 / 4) (elements Variable limit b)
  unfolding elements
  says_offset h =
      let m = four b 0 / 4 in
      pick-holds (Says m) (eqb (length b) 0) _ _ (λ q. absurd (omega (arith, eqb-true (length b) 0 q))) λ q.
      pick-holds (Says m) (ltb (length b) 4) _ _ (λ r. refused_says m _) λ r.
      pick-holds (Says m) (ltb (length b) (four b 0)) _ _ (λ s. refused_says m _) λ s.
      pick-holds (Says m) (or_else (eqb (four b 0) 0) (ltb 0 (four b 0 % 4))) _ _ (λ t. refused_says m _) λ t.
      behind-says m limit b (four b 0)
