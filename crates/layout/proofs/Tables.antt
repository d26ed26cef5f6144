-- What an accepted table says: the loops of the check, and that its types are legal. Assumes nothing.
use mathlib.Core.Path.{◌≡◌, refl, sym, ap, ◌∙◌}
use mathlib.Core.List.{List}
use mathlib.Core.Bool.{Bool, true, false}
use Prim.Native.Nat.{ℕ, zero, suc, ◌+◌, ◌-◌, ◌*◌, ◌%◌, ◌≤◌, ◌<◌, ◌^◌}
use native.Mathlib.Nat.{add-zero}
use native.Mathlib.Omega.{arith}
use borrow.Author.Tests.{eqb-true, ltb-true, leb-true, lt-ltb, le-ltb, ne_eqb, eq-eqb}
use lib.ListN.{length, get_or, replicate}
use lib.Dec.{eqb, leb, ltb}
use Rattle.standard.specs.Choice.{pick, and_also, or_else}
use Rattle.standard.specs.Bytes.{Bytes, word_at}
use Rattle.standard.specs.Types.{Ty, boolean, head, heads, width, portion}
use Rattle.standard.proofs.Bytes.{word_bound}
use Rattle.std.specs.Prelude.{unwrap_or}
use Rattle.std.specs.declared.option.Option.{Option}
use Rattle.std.specs.declared.option.Option.TheVariants.{Some, None}
use Rattle.layout.specs.Kinds.{kind_of, has_many, has_element}
use Rattle.layout.specs.declared.Kind.{Kind}
use Rattle.layout.specs.Tree.{node_of, fields, trees, tree_of, len_of, head_of, lengths, filled}
use Rattle.layout.specs.Table.{onward, count, may_name_lem, refs, counted, many, container_end_lem, list_end_lem, vector_end_lem, leaf_word, leaf_end_lem, kind_end, body_end_lem, types_end_lem, types_of, table_of, lengths_of}
use Rattle.layout.specs.Legal.{Lower, LowerOrBare, LegalNode, Legal}
use Rattle.layout.specs.Steps.{Known, Typed}
use Rattle.layout.proofs.Facts.{trees-get, lower-here, lower-rest, filled-get, length-filled, head_len, legal-more}
use Rattle.layout.proofs.Trees.{legal_tree, len_small}
use Rattle.std.specs.declared.result.Result.{Result}
use Rattle.std.specs.declared.result.Result.TheVariants.{Ok, Err}
use Rattle.standard.specs.declared.Refusal.{Refusal}
use Rattle.standard.specs.declared.Refusal.TheVariants.{BadLayout}

-- A found length, as a head.
module _ (lens l : List ℕ) (k : ℕ) (g : Known lens l k) (f : ℕ) (h : f < k) where
  pub known_len : get_or lens f 0 ≡ len_of (head (tree_of l f))
  known_len = rw g.found (filled-get l k f h)

  pub known-head : head_of (get_or lens f 0) ≡ head (tree_of l f)
  known-head = ap head_of known_len ∙ head_len (tree_of l f) (legal_tree l k f g.legal h)

  pub known_small : get_or lens f 0 < 2 ^ 32
  unfolding Legal
  known_small = rw known_len (len_small l f (g.legal f h))

pub known-length : (lens l : List ℕ) (k : ℕ) → Known lens l k → length lens ≡ 64
known-length lens l k g = ap length g.found ∙ length-filled l k g.few

-- The loop of `refs_end`.
module _ (l : List ℕ) (t : ℕ) (none : Bool) (a left rest : ℕ) (x : Result ℕ Refusal) (p : left ≡ suc rest) (e : refs l t none a left ≡ x) where
  pub refs_missing : count l ≤ a → Err (BadLayout (count l)) ≡ x
  unfolding refs
  refs_missing h = rw (p, le-ltb _ _ h) at e

  module _ (h : a < count l) where
    pub refs-wrong : may_name_lem (word_at l a) t none ≡ false → Err (BadLayout a) ≡ x
    unfolding refs
    refs-wrong s = rw (p, lt-ltb _ _ h, s) at e

    pub refs-next : may_name_lem (word_at l a) t none ≡ true → refs l t none (a + 1) rest ≡ x
    unfolding refs
    refs-next s = rw (p, lt-ltb _ _ h, s) at e

pub refs-none : (l : List ℕ) (t : ℕ) (none : Bool) (a left : ℕ) → left ≡ 0 → refs l t none a left ≡ Ok a
unfolding refs
refs-none l t none a left h = rw h

-- An accepted answer, by its tests.
upto_left : (c : Bool) (u : Result ℕ Refusal) (w e : ℕ) → pick c u (Err (BadLayout w)) ≡ Ok e → (c ≡ true) × (u ≡ Ok e)
upto_left true u w e h = (refl, h)
upto_left false u w e h = let z : ◌≡◌ {A = ℕ} 0 1 = cc in absurd (omega arith)

upto-onward : (x : Result ℕ Refusal) (k : ℕ → Result ℕ Refusal) (e : ℕ) → onward x k ≡ Ok e → (i : ℕ) × (x ≡ Ok i) × (k i ≡ Ok e)
upto-onward (Err r) k e h = let z : ◌≡◌ {A = ℕ} 0 1 = cc in absurd (omega arith)
upto-onward (Ok i) k e h = (i, refl, h)

pub upto_inj : (i j : ℕ) → ◌≡◌ {A = Result ℕ Refusal} (Ok i) (Ok j) → i ≡ j
upto_inj i j g = cc

pub bad-upto : {A : Type 0} (r : Refusal) (e : ℕ) → ◌≡◌ {A = Result ℕ Refusal} (Err r) (Ok e) → A
bad-upto r e h = let z : ◌≡◌ {A = ℕ} 0 1 = cc in absurd (omega arith)

both_true : (a b : Bool) → and_also a b ≡ true → (a ≡ true) × (b ≡ true)
both_true true b h = (refl, h)
both_true false b h = let z : ◌≡◌ {A = ℕ} 0 1 = cc in absurd (omega arith)

pub may_lower : (w t : ℕ) (none : Bool) → may_name_lem w t none ≡ true → none ≡ false → w < t
may_lower w t none h q = go (ltb w t) refl (rw q at h)
  where
    go : (a : Bool) → ltb w t ≡ a → or_else a false ≡ true → w < t
    go true p r = ltb-true _ _ p
    go false p r = let z : ◌≡◌ {A = ℕ} 0 1 = cc in absurd (omega arith)

may_bare : (w t : ℕ) (none : Bool) → may_name_lem w t none ≡ true → (w ≡ 4294967295 → ⊥) → w < t
may_bare w t none h q = go (ltb w t) none refl (rw (ne_eqb _ _ q) at h)
  where
    go : (a b : Bool) → ltb w t ≡ a → or_else a (and_also b false) ≡ true → w < t
    go true b p r = ltb-true _ _ p
    go false true p r = let z : ◌≡◌ {A = ℕ} 0 1 = cc in absurd (omega arith)
    go false false p r = let z : ◌≡◌ {A = ℕ} 0 1 = cc in absurd (omega arith)

-- Accepted references are within the table, and each may stand there.
refs_say : (l : List ℕ) (t : ℕ) (none : Bool) (n a e : ℕ) → a ≤ count l → refs l t none a n ≡ Ok e →
    (e ≤ count l) × (e ≡ a + n) × ((i : ℕ) → i < n → may_name_lem (word_at l (a + i)) t none ≡ true)
unfolding refs
refs_say l t none zero a e k h = (omega (arith, upto_inj a e h), omega (arith, upto_inj a e h), λ i q. absurd (omega arith))
refs_say l t none (suc n) a e k h =
    let p = upto_left (ltb a (count l)) _ (count l) e h in
    let q = upto_left (may_name_lem (word_at l a) t none) (refs l t none (a + 1) n) a e p.1 in
    let r = refs_say l t none n (a + 1) e (omega (arith, ltb-true a (count l) p.0)) q.1 in
    (r.0, omega (arith, r.1), all q.0 r.2)
  where
    all : may_name_lem (word_at l a) t none ≡ true → ((i : ℕ) → i < n → may_name_lem (word_at l (a + 1 + i)) t none ≡ true) → (i : ℕ) → i < suc n →
        may_name_lem (word_at l (a + i)) t none ≡ true
    all x f zero j = rw add-zero x
    all x f (suc i) j = let s : a + suc i ≡ a + 1 + i = omega arith in rw s (f i (omega arith))

pub refs-cut : (l : List ℕ) (t n a e : ℕ) → a ≤ count l → count l < a + n → refs l t false a n ≡ Ok e → ⊥
refs-cut l t n a e k h r = let s = refs_say l t false n a e k r in omega (arith, s.0, s.1)

-- And references to lower types within the table are accepted.
pub refs-lower : (l : List ℕ) (t n a : ℕ) → Lower l t a n → a + n ≤ count l → refs l t false a n ≡ Ok (a + n)
unfolding refs
refs-lower l t zero a g h = ap Ok (omega arith)
refs-lower l t (suc n) a g h =
    let f = lower-here l t a (suc n) g (omega arith) in
    let e : suc n - 1 ≡ n = omega arith in
    let r = refs-lower l t n (a + 1) (rw e at (lower-rest l t a (suc n) g (omega arith))) (omega arith) in
    let q : a + 1 + n ≡ a + suc n = omega arith in
    rw (lt-ltb a (count l) (omega arith), lt-ltb (word_at l a) t f) (rw q at r)

pub record Many (l : List ℕ) (t at most : ℕ) (none : Bool) (e : ℕ) : Type 0 where
  pub some : 1 ≤ word_at l (at + 1)
  pub few : word_at l (at + 1) ≤ most
  pub within : e ≤ count l
  pub ends : e ≡ at + 2 + word_at l (at + 1)
  pub each : (i : ℕ) → i < word_at l (at + 1) → may_name_lem (word_at l (at + 2 + i)) t none ≡ true

-- An accepted number is the word behind at.
pub record Counted (l : List ℕ) (at most n : ℕ) : Type 0 where
  pub there : at + 1 < count l
  pub word : n ≡ word_at l (at + 1)
  pub some : 1 ≤ n
  pub few : n ≤ most

pub counted-says : (l : List ℕ) (at most n : ℕ) → counted l at most ≡ Ok n → Counted l at most n
unfolding counted
counted-says l at most n h =
    let w = word_at l (at + 1) in
    let p = upto_left (ltb (at + 1) (count l)) _ (count l) n h in
    let q = upto_left (and_also (ltb 0 w) (leb w most)) (Ok w) (at + 1) n p.1 in
    let r = both_true (ltb 0 w) (leb w most) q.0 in
    let e : n ≡ w = sym (upto_inj w n q.1) in
    record { there = ltb-true _ _ p.0; word = e; some = rw e (ltb-true _ _ r.0); few = rw e (leb-true _ _ r.1) }

pub many-says : (l : List ℕ) (t at most : ℕ) (none : Bool) (e : ℕ) → many l t at none most ≡ Ok e → Many l t at most none e
unfolding many
many-says l t at most none e h =
    let p = upto-onward (counted l at most) (λ n. refs l t none (at + 2) n) e h in
    let k = counted-says l at most p.0 p.1 in
    let s = rw k.word at (refs_say l t none p.0 (at + 2) e (omega (arith, k.there)) p.2) in
    record { some = rw k.word at k.some; few = rw k.word at k.few; within = s.0; ends = s.1; each = s.2 }

pub many-lower : (l : List ℕ) (t at most e : ℕ) → Many l t at most false e → Lower l t (at + 2) (word_at l (at + 1))
unfolding Lower
many-lower l t at most e m = λ i h. may_lower _ t false (m.each i h) refl

many-bare : (l : List ℕ) (t at most e : ℕ) → Many l t at most true e → LowerOrBare l t (at + 2) (word_at l (at + 1))
unfolding LowerOrBare
many-bare l t at most e m = λ i h q. may_bare _ t true (m.each i h) q

-- An accepted body, by its kind.
container-says : (l : List ℕ) (t at e : ℕ) → container_end_lem l t at ≡ Ok e →
    Many l t at 64 false e × (portion (heads (fields l (trees l t) (at + 2) (word_at l (at + 1)))) < 2 ^ 32)
unfolding container_end_lem
container-says l t at e h =
    let p = upto-onward (many l t at false 64) _ e h in
    let q = upto_left (leb (portion (heads (fields l (trees l t) (at + 2) (word_at l (at + 1))))) 4294967295) (Ok p.0) at e p.2 in
    let w : p.0 ≡ e = upto_inj p.0 e q.1 in
    let s : portion (heads (fields l (trees l t) (at + 2) (word_at l (at + 1)))) ≤ 4294967295 = leb-true _ _ q.0 in
    (rw w at (many-says l t at 64 false p.0 p.1), omega arith)

leaf-says : (k : Kind) (l : List ℕ) (at e : ℕ) → leaf_end_lem k l at ≡ Ok e → (leaf_word k (word_at l (at + 1)) ≡ true) × (e ≤ count l)
unfolding leaf_end_lem
leaf-says k l at e h =
    let p = upto_left (ltb (at + 1) (count l)) _ (count l) e h in
    let q = upto_left (leaf_word k (word_at l (at + 1))) (Ok (at + 2)) (at + 1) e p.1 in
    (q.0, omega (arith, upto_inj (at + 2) e q.1, ltb-true (at + 1) (count l) p.0))

-- An accepted list or vector: its element's type is lower, and the number behind it is there and ends it.
pub record Element (l : List ℕ) (t at e : ℕ) : Type 0 where
  pub lower : word_at l (at + 1) < t
  pub third : at + 2 < count l
  pub ends : e ≡ at + 3

pub element-lower : (l : List ℕ) (t a e : ℕ) → refs l t false a 1 ≡ Ok e → (word_at l a < t) × (e ≡ a + 1)
unfolding refs
element-lower l t a e h =
    let p = upto_left (ltb a (count l)) _ (count l) e h in
    let q = upto_left (may_name_lem (word_at l a) t false) (Ok (a + 1)) a e p.1 in
    (may_lower _ t false q.0 refl, sym (upto_inj (a + 1) e q.1))

list-says : (l : List ℕ) (t at e : ℕ) → list_end_lem l t at ≡ Ok e → Element l t at e
unfolding list_end_lem
list-says l t at e h =
    let p = upto-onward (refs l t false (at + 1) 1) _ e h in
    let x = element-lower l t (at + 1) p.0 p.1 in
    let q = upto_left (ltb p.0 (count l)) (Ok (p.0 + 1)) (count l) e p.2 in
    let i = ltb-true p.0 (count l) q.0 in
    record { lower = x.0; third = omega (arith, x.1); ends = omega (arith, x.1, upto_inj (p.0 + 1) e q.1) }

vector-says : (l : List ℕ) (t at e : ℕ) → vector_end_lem l t at ≡ Ok e →
    Element l t at e × (1 ≤ word_at l (at + 2)) × (word_at l (at + 2) * width (head (tree_of l (word_at l (at + 1)))) < 2 ^ 32)
unfolding vector_end_lem
vector-says l t at e h =
    let p = upto-onward (refs l t false (at + 1) 1) _ e h in
    let f = (element-lower l t (at + 1) p.0 p.1).0 in
    let q = upto-onward (counted l (at + 1) 4294967295) _ e p.2 in
    let two : at + 1 + 1 ≡ at + 2 = omega arith in
    let k = counted-says l (at + 1) 4294967295 q.0 q.1 in
    let w = rw two at k.word in
    let size = q.0 * width (head (get_or (trees l t) (word_at l (at + 1)) (boolean 0))) in
    let r = upto_left (leb size 4294967295) (Ok (at + 3)) at e q.2 in
    let s : size ≤ 4294967295 = leb-true size 4294967295 r.0 in (
      record { lower = f; third = omega (arith, k.there); ends = sym (upto_inj (at + 3) e r.1) },
      rw w at k.some,
      narrow q.0 _ _ _ w (trees-get l t (word_at l (at + 1)) (boolean 0) f) (omega arith),
    )
  where
    narrow : (n m : ℕ) (x y : Ty) → n ≡ m → x ≡ y → n * width (head x) < 2 ^ 32 → m * width (head y) < 2 ^ 32
    narrow n m x y e f h = rw (← e, ← f) h

-- What an accepted body of each kind says.
module _ (l : List ℕ) (t at e : ℕ) where
  ends-within : (k : Kind) → at < count l → kind_end (Some k) l t at ≡ Ok e → e ≤ count l
  ends-within Kind.Container i h = (container-says l t at e h).0.within
  ends-within Kind.Union i h = (many-says l t at 128 true e h).within
  ends-within Kind.List i h = let s = list-says l t at e h in omega (arith, s.third, s.ends)
  ends-within Kind.Vector i h = let s = (vector-says l t at e h).0 in omega (arith, s.third, s.ends)
  ends-within Kind.Boolean i h = omega (arith, upto_inj (at + 1) e h)
  ends-within Kind.Number i h = (leaf-says Kind.Number l at e h).1
  ends-within Kind.FixedBytes i h = (leaf-says Kind.FixedBytes l at e h).1
  ends-within Kind.FreeBytes i h = (leaf-says Kind.FreeBytes l at e h).1
  ends-within Kind.BitVector i h = (leaf-says Kind.BitVector l at e h).1
  ends-within Kind.BitList i h = (leaf-says Kind.BitList l at e h).1

  word-allowed : (k : Kind) → kind_end (Some k) l t at ≡ Ok e → leaf_word k (word_at l (at + 1)) ≡ true
  word-allowed Kind.Number h = (leaf-says Kind.Number l at e h).0
  word-allowed Kind.FixedBytes h = (leaf-says Kind.FixedBytes l at e h).0
  word-allowed Kind.BitVector h = (leaf-says Kind.BitVector l at e h).0
  word-allowed k h = refl

  -- a container or a union: a number of 1 on, and as many words
  many-within : (k : Kind) → has_many k ≡ true → kind_end (Some k) l t at ≡ Ok e →
      (1 ≤ word_at l (at + 1)) × (at + 2 + word_at l (at + 1) ≤ count l)
  many-within Kind.Container q h = let m = (container-says l t at e h).0 in (m.some, omega (arith, m.within, m.ends))
  many-within Kind.Union q h = let m = many-says l t at 128 true e h in (m.some, omega (arith, m.within, m.ends))
  many-within k q h = absurd (cc)

  -- a list or a vector: an element's type and a number
  element-says : (k : Kind) → has_element k ≡ true → kind_end (Some k) l t at ≡ Ok e → Element l t at e
  element-says Kind.List q h = list-says l t at e h
  element-says Kind.Vector q h = (vector-says l t at e h).0
  element-says k q h = absurd (cc)

  -- the kind word names a kind
  named : (o : Option Kind) → kind_end o l t at ≡ Ok e → o ≡ Some (unwrap_or o Kind.BitList)
  named None h = bad-upto (BadLayout at) e h
  named (Some k) h = refl

module _ (l : List ℕ) (t at e : ℕ) (h : body_end_lem l t at ≡ Ok e) where
  body-there : at < count l
  unfolding body_end_lem
  body-there = ltb-true _ _ (upto_left (ltb at (count l)) _ (count l) e h).0

  abbrev body-kind : Kind
  body-kind = unwrap_or (kind_of (word_at l at)) Kind.BitList

  body-known : kind_of (word_at l at) ≡ Some body-kind
  unfolding body_end_lem
  body-known = named l t at e _ (upto_left (ltb at (count l)) _ (count l) e h).1

  body-ends : (k : Kind) → body-kind ≡ k → kind_end (Some k) l t at ≡ Ok e
  unfolding body_end_lem
  body-ends k q = rw (body-known, q) at (upto_left (ltb at (count l)) _ (count l) e h).1

  pub body-within : e ≤ count l
  body-within = ends-within l t at e _ body-there (body-ends _ refl)

  pub body-legal : Bytes l → 1 + t < count l → word_at l (1 + t) ≡ at → LegalNode l t (node_of l t)
  unfolding node_of
  body-legal b i w =
      rw w
      (record {
        known = body-known;
        listed = i;
        begun = body-there;
        near = rw (← w) (word_bound l (1 + t) b);
        small = word_bound l (at + 1) b;
        leaf = word-allowed l t at e _ (body-ends _ refl);
        some = λ q. (many-within l t at e _ q (body-ends _ refl)).0;
        within = λ q. (many-within l t at e _ q (body-ends _ refl)).1;
        few = λ k. (container-says l t at e (body-ends _ k)).0.few;
        lower = λ k. many-lower l t at 64 e (container-says l t at e (body-ends _ k)).0;
        short = λ k. (container-says l t at e (body-ends _ k)).1;
        most = λ k. (many-says l t at 128 true e (body-ends _ k)).few;
        optional = λ k. many-bare l t at 128 e (many-says l t at 128 true e (body-ends _ k));
        element = λ q. (element-says l t at e _ q (body-ends _ refl)).lower;
        third = λ q. (element-says l t at e _ q (body-ends _ refl)).third;
        several = λ k. (vector-says l t at e (body-ends _ k)).1;
        narrow = λ k. (vector-says l t at e (body-ends _ k)).2;
      })

-- The loop of `types_end`: the types so far are legal and their lengths are found, and what is left gives the whole.
pub record Checking (l lens : List ℕ) (n t at : ℕ) : Type 0 where
  pub some : t ≤ n
  pub listed : n < count l
  pub within : at ≤ count l
  pub known : Known lens l t
  pub same : types_end_lem l (n - t) t at ≡ types_end_lem l n 0 (n + 1)

types_cons : (l : List ℕ) (k t at : ℕ) → 0 < k → types_end_lem l k t at ≡
    pick (eqb (word_at l (1 + t)) at) (onward (body_end_lem l t at) (λ e. types_end_lem l (k - 1) (t + 1) e)) (Err (BadLayout (1 + t)))
unfolding types_end_lem
types_cons l zero t at h = absurd (omega arith)
types_cons l (suc k) t at h = let e : suc k - 1 ≡ k = omega arith in rw e

module _ (l lens : List ℕ) (n t at : ℕ) (g : Checking l lens n t at) (p : t < n) where
  pub checking_listed : 1 + t < count l
  checking_listed = omega (arith, g.listed)

module _ (l lens : List ℕ) (n t at : ℕ) (g : Checking l lens n t at) (p : t < n) (w : ℕ) (q : w ≡ word_at l (1 + t)) where
  pub checking_start : (w ≡ at → ⊥) → Err (BadLayout (1 + t)) ≡ types_end_lem l n 0 (n + 1)
  checking_start k = rw (types_cons l (n - t) t at (omega arith), ← q, ne_eqb _ _ k) at g.same

  module _ (k : w ≡ at) where
    checking_body : onward (body_end_lem l t at) (λ e. types_end_lem l (n - t - 1) (t + 1) e) ≡ types_end_lem l n 0 (n + 1)
    checking_body = rw (types_cons l (n - t) t at (omega arith), ← q, eq-eqb _ _ k) at g.same

    pub checking_bad : (r : Refusal) → Err r ≡ body_end_lem l t at → Err r ≡ types_end_lem l n 0 (n + 1)
    checking_bad r h = rw (← h) at checking_body

    module _ (b : Bytes l) (e : ℕ) (h : Ok e ≡ body_end_lem l t at) where
      pub checking_legal : Legal l (t + 1)
      checking_legal = legal-more l t g.known.legal (body-legal l t at e (sym h) b (checking_listed l lens n t at g p) (sym q ∙ k))

      pub checking_small : (m : ℕ) → m ≡ len_of (head (tree_of l t)) → m < 2 ^ 32
      unfolding Legal
      checking_small m v = rw v (len_small l t (checking_legal t (omega arith)))

      pub checking_next : (lens' : List ℕ) → n ≤ 64 → lens' ≡ filled l (t + 1) → Checking l lens' n (t + 1) e
      checking_next lens' m f =
          let i : n - t - 1 ≡ n - (t + 1) = omega arith in
          record {
            some = omega arith;
            listed = g.listed;
            within = body-within l t at e (sym h);
            known = record { found = f; legal = checking_legal; few = omega arith };
            same = rw (← h, i) at checking_body;
          }

pub checking_end : (l lens : List ℕ) (n t at : ℕ) → Checking l lens n t at → n ≤ t → (Ok at ≡ types_end_lem l n 0 (n + 1)) × (lens ≡ filled l n)
unfolding types_end_lem
checking_end l lens n t at g h =
    let e : n - t ≡ 0 = omega (arith, g.some) in
    let f : t ≡ n = omega (arith, g.some) in
    (rw e at g.same, rw f at g.known.found)

pub typed-bad : (l : List ℕ) (n : ℕ) (r : Refusal) (lens : List ℕ) → Err r ≡ types_end_lem l n 0 (n + 1) → Typed l n (Err r) lens
typed-bad l n r lens h = record { gives = h; found = λ e q. bad-upto r e q }

-- The types of an accepted table are legal.
types-legal : (l : List ℕ) (k t at e : ℕ) → Bytes l → t + k < count l → Legal l t → types_end_lem l k t at ≡ Ok e → Legal l (t + k)
unfolding types_end_lem
types-legal l zero t at e b i g h = rw add-zero g
types-legal l (suc k) t at e b i g h =
    let p = upto_left (eqb (word_at l (1 + t)) at) (onward (body_end_lem l t at) (λ i. types_end_lem l k (t + 1) i)) (1 + t) e h in
    let q = upto-onward (body_end_lem l t at) (λ i. types_end_lem l k (t + 1) i) e p.1 in
    let r = legal-more l t g (body-legal l t at q.0 q.1 b (omega arith) (eqb-true _ _ p.0)) in
    let s : t + 1 + k ≡ t + suc k = omega arith in
    rw s at (types-legal l k (t + 1) q.0 e b (omega arith) r q.2)

no-types : (l : List ℕ) → Legal l 0
unfolding Legal
no-types l t h = absurd (omega arith)

-- The number of types, where there is one.
pub types_say : (l : List ℕ) (n : ℕ) → types_of l ≡ Ok n → (1 ≤ n) × (n ≤ 64) × (n < count l)
unfolding types_of
types_say l n h =
    let p = upto_left (eqb (length l % 4) 0) _ (count l) n h in
    let q = upto_left (ltb 0 (count l)) _ 0 n p.1 in
    let r = upto_left (and_also (ltb 0 (word_at l 0)) (leb (word_at l 0) 64)) _ 0 n q.1 in
    let s = upto_left (ltb (word_at l 0) (count l)) (Ok (word_at l 0)) (count l) n r.1 in
    let w = both_true (ltb 0 (word_at l 0)) (leb (word_at l 0) 64) r.0 in
    let e : word_at l 0 ≡ n = upto_inj (word_at l 0) n s.1 in
    let some : 1 ≤ word_at l 0 = omega (arith, ltb-true 0 (word_at l 0) w.0) in
    let few : word_at l 0 ≤ 64 = leb-true (word_at l 0) 64 w.1 in
    let there : word_at l 0 < count l = ltb-true (word_at l 0) (count l) s.0 in
    (omega arith, omega arith, omega arith)

-- Before the first type nothing is known, and nothing is asked.
pub nothing_known : (l : List ℕ) → Known (replicate 64 0) l 0
unfolding filled lengths
nothing_known l = record { found = refl; legal = no-types l; few = omega arith }

pub table_legal : (l : List ℕ) (n : ℕ) → Bytes l → table_of l ≡ Ok n → Legal l n × (1 ≤ n) × (n ≤ 64)
unfolding table_of
table_legal l n b h =
    let p = upto-onward (types_of l) _ n h in
    let q = upto-onward (types_end_lem l p.0 0 (p.0 + 1)) _ n p.2 in
    let r = upto_left (eqb q.0 (count l)) (Ok p.0) q.0 n q.2 in
    let e : p.0 ≡ n = upto_inj p.0 n r.1 in
    let s = types_say l p.0 p.1 in
    let none : Legal l 0 = no-types l in
    let z : 0 + p.0 ≡ n = omega arith in
    (rw z at (types-legal l p.0 0 (p.0 + 1) q.0 b (omega (arith, s.2)) none q.1), omega (arith, s.0), omega (arith, s.1))

-- What `table_of` leaves.
pub table_known : (l lens : List ℕ) (n : ℕ) → Bytes l → table_of l ≡ Ok n → lens ≡ lengths_of (table_of l) l → Known lens l n × (1 ≤ n)
table_known l lens n b h e =
    let g = table_legal l n b h in
    (record { found = e ∙ rw h; legal = g.0; few = g.2 }, g.1)
