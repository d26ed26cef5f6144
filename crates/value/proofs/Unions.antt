-- Unions and leaves of the tree: what the table's words say of a walk. Assumes nothing.
use mathlib.Core.Path.{◌≡◌, refl, ◌∙◌}
use mathlib.Core.List.{List, [], ◌∷◌}
use mathlib.Core.Bool.{Bool, true, false}
use Prim.Native.Nat.{ℕ, zero, suc, ◌+◌, ◌-◌, ◌≤◌, ◌<◌}
use native.Mathlib.Omega.{arith}
use borrow.Author.Tests.{eqb-true, eqb-false, ltb-true, lt-ltb, le-ltb, eq-eqb, ne_eqb}
use lib.ListN.{length, get_or}
use lib.Dec.{eqb, ltb}
use Rattle.standard.specs.Choice.{pick}
use Rattle.standard.specs.Bytes.{word_at}
use Rattle.standard.specs.Types.{Ty, Opts, number, boolean, fixed_bytes, free_bytes, bit_vector, bit_list, over, bare, body, head}
use Rattle.standard.specs.declared.Refusal.TheVariants.{BadValue}
use Rattle.layout.specs.Tree.{node_of, leaf_with, leaf_of, options, trees, tree_of}
use Rattle.layout.specs.Legal.{LowerOrBare, LegalNode, Legal}
use Rattle.layout.specs.declared.Kind.{Kind}
use Rattle.layout.specs.declared.Node.{Node}
use Rattle.layout.proofs.Facts.{trees-get, as_union, legal_node}
use Rattle.std.specs.declared.result.Result.{Result}
use Rattle.std.specs.declared.result.Result.TheVariants.{Ok, Err}
use Rattle.standard.specs.declared.Refusal.{Refusal}
use Rattle.value.specs.Walk.{Walked, upto, wrong, walk_item, walk_option}
use Rattle.value.specs.Write.{write_item_lem, write_option}
use Rattle.value.specs.Steps.{choose, LaidAs}
use Rattle.value.specs.declared.laid.Laid.{Laid}

pick-ap : {A B : Type 0} (f : A → B) (q : Bool) (x y : A) → pick q (f x) (f y) ≡ f (pick q x y)
pick-ap f true x y = refl
pick-ap f false x y = refl

-- The option that a selector finds
data Found : Type 0 where
  nothing : Found
  alone : Found
  holds : Ty → Found

unfoldable find : Opts → ℕ → Found
find over k = nothing
find (bare s os) k = pick (eqb k s) alone (find os k)
find (body s t os) k = pick (eqb k s) (holds t) (find os k)

module _ (c b : List ℕ) (i j : ℕ) where
  abbrev walk_found : Found → Walked
  walk_found nothing = wrong (BadValue 0 i)
  walk_found alone = upto (i + 1) j
  walk_found (holds t) = walk_item t c b (i + 1) j

  abbrev write_found : Found → List ℕ
  write_found nothing = []
  write_found alone = []
  write_found (holds t) = write_item_lem t c b (i + 1) j

  walk-found : (os : Opts) (k : ℕ) → walk_option os k c b i j ≡ walk_found (find os k)
  unfolding walk_item find
  walk-found over k = refl
  walk-found (bare s os) k = rw (walk-found os k) (pick-ap walk_found (eqb k s) alone (find os k))
  walk-found (body s t os) k = rw (walk-found os k) (pick-ap walk_found (eqb k s) (holds t) (find os k))

  write-found : (os : Opts) (k : ℕ) → write_option os k c b i j ≡ write_found (find os k)
  unfolding write_item_lem find
  write-found over k = refl
  write-found (bare s os) k = rw (write-found os k) (pick-ap write_found (eqb k s) alone (find os k))
  write-found (body s t os) k = rw (write-found os k) (pick-ap write_found (eqb k s) (holds t) (find os k))

-- The word that a selector points to, and what is found there
abbrev found_at : List Ty → ℕ → Found
found_at lower w = pick (eqb w 4294967295) alone (holds (get_or lower w (boolean 0)))

find-here : (w : ℕ) (lower : List Ty) (os : Opts) (k : ℕ) → find (pick (eqb w 4294967295) (bare k os) (body k (get_or lower w (boolean 0)) os)) k ≡
    found_at lower w
unfolding find
find-here w lower os k = go (eqb w 4294967295)
  where
    go : (q : Bool) → find (pick q (bare k os) (body k (get_or lower w (boolean 0)) os)) k ≡ pick q alone (holds (get_or lower w (boolean 0)))
    go true = rw (eq-eqb k k refl)
    go false = rw (eq-eqb k k refl)

find_skip : (q : Bool) (x : Ty) (os : Opts) (s k : ℕ) → (k ≡ s → ⊥) → find (pick q (bare s os) (body s x os)) k ≡ find os k
unfolding find
find_skip true x os s k h = rw (ne_eqb k s h)
find_skip false x os s k h = rw (ne_eqb k s h)

options-find : (l : List ℕ) (lower : List Ty) (n a s k : ℕ) → s ≤ k →
    find (options l lower a s n) k ≡ pick (ltb k (s + n)) (found_at lower (word_at l (a + (k - s)))) nothing
unfolding options
options-find l lower zero a s k h = rw (le-ltb k (s + 0) (omega arith)) (unfold find in refl)
options-find l lower (suc n) a s k h = go (eqb k s) refl (options-find l lower n (a + 1) (s + 1) k)
  where
    rest : Opts
    rest = options l lower (a + 1) (s + 1) n

    wanted : ℕ → ℕ → Found
    wanted m i = pick (ltb k m) (found_at lower (word_at l i)) nothing

    go : (q : Bool) → eqb k s ≡ q → (s + 1 ≤ k → find rest k ≡ wanted (s + 1 + n) (a + 1 + (k - (s + 1)))) →
        find (pick (eqb (word_at l a) 4294967295) (bare s rest) (body s (get_or lower (word_at l a) (boolean 0)) rest)) k ≡
        wanted (s + suc n) (a + (k - s))
    go true p f =
        let q : k ≡ s = eqb-true _ _ p in
        let e : a + (k - s) ≡ a = omega arith in
        rw (lt-ltb k (s + suc n) (omega arith), e, q) (find-here (word_at l a) lower rest s)
    go false p f =
        let q : k ≡ s → ⊥ = eqb-false _ _ p in
        let e : a + 1 + (k - (s + 1)) ≡ a + (k - s) = omega arith in
        let m : s + 1 + n ≡ s + suc n = omega arith in
        find_skip (eqb (word_at l a) 4294967295) (get_or lower (word_at l a) (boolean 0)) rest s k q ∙ rw (e, m) at (f (omega arith))

whole-find : (l : List ℕ) (lower : List Ty) (a n k : ℕ) → find (options l lower a 0 n) k ≡ pick (ltb k n) (found_at lower (word_at l (a + k))) nothing
whole-find l lower a n k =
    let i : 0 + n ≡ n = omega arith in
    let j : k - 0 ≡ k = omega arith in
    rw (i, j) at (options-find l lower n a 0 k (omega arith))

-- What a choice says of its tests.
module _ (l : List ℕ) (a n : ℕ) (c : List ℕ) (i : ℕ) where
  w : ℕ
  w = word_at l (a + get_or c i 0)

  Cases : Bool → Bool → Bool → Result Laid Refusal
  Cases p q r = pick p (pick q (Ok (pick r Laid.Bare (Laid.Body w))) (Err (BadValue 0 i))) (Err (BadValue 0 (length c)))

  chosen-bare : Ok Laid.Bare ≡ choose l a n c i → (ltb i (length c) ≡ true) × (ltb (get_or c i 0) n ≡ true) × (eqb w 4294967295 ≡ true)
  unfolding choose w Cases
  chosen-bare e = go (ltb i (length c)) (ltb (get_or c i 0) n) (eqb w 4294967295) refl refl refl e
    where
      go : (p q r : Bool) → ltb i (length c) ≡ p → ltb (get_or c i 0) n ≡ q → eqb w 4294967295 ≡ r → Ok Laid.Bare ≡ Cases p q r →
          (ltb i (length c) ≡ true) × (ltb (get_or c i 0) n ≡ true) × (eqb w 4294967295 ≡ true)
      go true true true f g h e = (f, g, h)
      go true true false f g h e = let z : ◌≡◌ {A = ℕ} 0 1 = cc in absurd (omega arith)
      go true false r f g h e = let z : ◌≡◌ {A = ℕ} 0 1 = cc in absurd (omega arith)
      go false q r f g h e = let z : ◌≡◌ {A = ℕ} 0 1 = cc in absurd (omega arith)

  chosen-body : (o : ℕ) → Ok (Laid.Body o) ≡ choose l a n c i → (ltb i (length c) ≡ true) × (ltb (get_or c i 0) n ≡ true) × (eqb w 4294967295 ≡ false) × (o ≡ w)
  unfolding choose w Cases
  chosen-body o e = go (ltb i (length c)) (ltb (get_or c i 0) n) (eqb w 4294967295) refl refl refl e
    where
      go : (p q r : Bool) → ltb i (length c) ≡ p → ltb (get_or c i 0) n ≡ q → eqb w 4294967295 ≡ r → Ok (Laid.Body o) ≡ Cases p q r →
          (ltb i (length c) ≡ true) × (ltb (get_or c i 0) n ≡ true) × (eqb w 4294967295 ≡ false) × (o ≡ w)
      go true true true f g h e = let z : ◌≡◌ {A = ℕ} 0 1 = cc in absurd (omega arith)
      go true true false f g h e = (f, g, h, cc)
      go true false r f g h e = let z : ◌≡◌ {A = ℕ} 0 1 = cc in absurd (omega arith)
      go false q r f g h e = let z : ◌≡◌ {A = ℕ} 0 1 = cc in absurd (omega arith)

  abbrev wrong_of : Result Laid Refusal → Walked → Type 0
  wrong_of (Err x) y = y ≡ wrong x
  wrong_of (Ok Laid.Bare) y = Unit {0}
  wrong_of (Ok (Laid.Body o)) y = Unit {0}
  wrong_of (Ok (Laid.Row m p)) y = ⊥

  chosen-wrong : (lower : List Ty) (b : List ℕ) (j : ℕ) → wrong_of (choose l a n c i)
      (pick (ltb i (length c)) (walk_found c b i j (pick (ltb (get_or c i 0) n) (found_at lower w) nothing)) (wrong (BadValue 0 (length c))))
  unfolding choose w
  chosen-wrong lower b j = go (ltb i (length c)) (ltb (get_or c i 0) n) (eqb w 4294967295)
    where
      go : (p q r : Bool) → wrong_of (pick p (pick q (Ok (pick r Laid.Bare (Laid.Body w))) (Err (BadValue 0 i)))
          (Err (BadValue 0 (length c)))) (pick p (walk_found c b i j (pick q (found_at lower w) nothing)) (wrong (BadValue 0 (length c))))
      go true true true = tt
      go true true false = tt
      go true false r = refl
      go false q r = refl

-- A union of the table: what `select` answers is what its item is made of.
module _ (l : List ℕ) (t : ℕ) (r : Node) (e : r ≡ node_of l t) (k : r.kind ≡ Kind.Union) (g : Legal l (t + 1)) (c : List ℕ) (i : ℕ) where
  union-walk : (b : List ℕ) (j : ℕ) → walk_item (tree_of l t) c b i j ≡ pick (ltb i (length c))
      (walk_found c b i j (pick (ltb (get_or c i 0) r.second) (found_at (trees l t) (word_at l (r.at + 2 + get_or c i 0))) nothing))
      (wrong (BadValue 0 (length c)))
  unfolding walk_item
  union-walk b j =
      rw (
        as_union l t r e k,
        walk-found c b i j (options l (trees l t) (r.at + 2) 0 r.second) (get_or c i 0),
        whole-find l (trees l t) (r.at + 2) r.second (get_or c i 0),
      )

  union-write : (b : List ℕ) (j : ℕ) → write_item_lem (tree_of l t) c b i j ≡ get_or c i 0 ∷ write_found c b i j
      (pick (ltb (get_or c i 0) r.second) (found_at (trees l t) (word_at l (r.at + 2 + get_or c i 0))) nothing)
  unfolding write_item_lem
  union-write b j =
      rw (
        as_union l t r e k,
        write-found c b i j (options l (trees l t) (r.at + 2) 0 r.second) (get_or c i 0),
        whole-find l (trees l t) (r.at + 2) r.second (get_or c i 0),
      )

  few : LegalNode l t r
  few = legal_node l t r e g

  pub laid-union : (x : Result Laid Refusal) → x ≡ choose l (r.at + 2) r.second c i → LaidAs l t c i x
  unfolding w LowerOrBare
  laid-union (Ok (Laid.Row m p)) q = absurd (rw (← q) at (chosen-wrong l (r.at + 2) r.second c i (trees l t) [] 0))
  laid-union (Ok Laid.Bare) q =
      let p = chosen-bare l (r.at + 2) r.second c i q in
      record {
        there = ltb-true _ _ p.0;
        small = omega (arith, ltb-true (get_or c i 0) r.second p.1, few.most k);
        walk = λ b j. union-walk b j ∙ rw (p.0, p.1, p.2);
        write = λ b j. union-write b j ∙ rw (p.1, p.2);
      }
  laid-union (Ok (Laid.Body o)) q =
      let p = chosen-body l (r.at + 2) r.second c i o q in
      let h : o < t = rw p.3 (few.optional k (get_or c i 0) (ltb-true _ _ p.1) (eqb-false _ _ p.2)) in
      let y = trees-get l t o (boolean 0) h in (
        h,
        record {
          there = ltb-true _ _ p.0;
          small = omega (arith, ltb-true (get_or c i 0) r.second p.1, few.most k);
          walk = λ b j. union-walk b j ∙ rw (p.0, p.1, p.2, ← p.3, y);
          write = λ b j. union-write b j ∙ rw (p.1, p.2, ← p.3, y);
        },
      )
  laid-union (Err x) q = λ b j. union-walk b j ∙ rw (← q) at (chosen-wrong l (r.at + 2) r.second c i (trees l t) b j)

-- A leaf's number is no matter.
module _ (t : ℕ) (n : Node) where
  leaf_any : {A : Type 0} (f : Ty → A) → ((w : ℕ) → f (number t w) ≡ f (number 0 w)) → f (boolean t) ≡ f (boolean 0) →
      ((w : ℕ) → f (fixed_bytes t w) ≡ f (fixed_bytes 0 w)) → ((w : ℕ) → f (free_bytes t w) ≡ f (free_bytes 0 w)) →
      ((w : ℕ) → f (bit_vector t w) ≡ f (bit_vector 0 w)) → ((w : ℕ) → f (bit_list t w) ≡ f (bit_list 0 w)) → f (leaf_of t n) ≡ f (leaf_of 0 n)
  unfolding leaf_of
  leaf_any f x0 x1 x2 x3 x4 x5 = go n.kind
    where
      go : (k : Kind) → f (leaf_with k t n.second) ≡ f (leaf_with k 0 n.second)
      go Kind.Number = x0 n.second
      go Kind.Boolean = x1
      go Kind.FixedBytes = x2 n.second
      go Kind.FreeBytes = x3 n.second
      go Kind.BitVector = x4 n.second
      go k = x5 n.second

  pub leaf-walk : (c b : List ℕ) (i j : ℕ) → walk_item (leaf_of t n) c b i j ≡ walk_item (leaf_of 0 n) c b i j
  unfolding walk_item
  leaf-walk c b i j = leaf_any (λ (x : Ty). walk_item x c b i j) (λ w. refl) refl (λ w. refl) (λ w. refl) (λ w. refl) (λ w. refl)

  pub leaf-head : head (leaf_of t n) ≡ head (leaf_of 0 n)
  unfolding head
  leaf-head = leaf_any head (λ w. refl) refl (λ w. refl) (λ w. refl) (λ w. refl) (λ w. refl)

  pub leaf-write : (c b : List ℕ) (i j : ℕ) → write_item_lem (leaf_of t n) c b i j ≡ write_item_lem (leaf_of 0 n) c b i j
  unfolding write_item_lem
  leaf-write c b i j = leaf_any (λ (x : Ty). write_item_lem x c b i j) (λ w. refl) refl (λ w. refl) (λ w. refl) (λ w. refl) (λ w. refl)
