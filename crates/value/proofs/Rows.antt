-- The fields of a container or the elements of a list, one by one: their walks and their parts. Assumes nothing.
use mathlib.Core.Path.{◌≡◌, ap, ◌∙◌}
use mathlib.Core.List.{List, [], ◌∷◌}
use Prim.Native.Nat.{ℕ, ◌+◌, ◌-◌, ◌≤◌, ◌<◌}
use native.Mathlib.Nat.{zero-add}
use native.Mathlib.Omega.{arith}
use lib.ListN.{length, get_or, length-append}
use Rattle.standard.specs.Bytes.{word_at}
use Rattle.standard.specs.Types.{head}
use Rattle.standard.specs.Parts.{Part, piece, fixed_lengths, fronts, backs, join}
use Rattle.standard.specs.declared.Head.{Head}
use Rattle.standard.specs.declared.Head.TheVariants.{Fixed, Variable}
use Rattle.standard.specs.declared.Refusal.{Refusal}
use Rattle.standard.proofs.Join.{length-join}
use Rattle.layout.specs.Tree.{node_of, tree_of, head_of}
use Rattle.layout.specs.declared.Kind.{Kind}
use Rattle.layout.specs.declared.Node.{Node}
use Rattle.message.specs.Steps.{Under, Row, row_of}
use Rattle.layout.specs.Steps.{Known}
use Rattle.message.proofs.Rows.{under_table, under-below, row-none, row_first, row_next, row-head, container_tree}
use Rattle.value.specs.Walk.{upto, onward, walk_item, walk_fields}
use Rattle.value.specs.Write.{word_after, byte_after, write_item_lem, parts_from}
use Rattle.value.specs.Steps.{InRow, cap, measured, extra}
use Rattle.value.specs.declared.laid.Members.{Members}
use Rattle.value.specs.declared.measure.Mark.{Mark}
use Rattle.value.proofs.Walks.{measured-says, measured-wrong, measured-cap}
use Rattle.std.specs.declared.result.Result.TheVariants.{Ok, Err}

-- Each part adds its bytes, and its offset where it has one.
pub join_more : (h : Head) (s : List ℕ) (xs : List Part) → length (join (piece h s ∷ xs)) ≡ extra h + length s + length (join xs)
unfolding fixed_lengths backs
join_more (Fixed n) s xs = length-join (piece (Fixed n) s ∷ xs) ∙ omega (arith, length-join xs)
join_more Variable s xs = length-join (piece Variable s ∷ xs) ∙ simp length-append (omega (arith, length-join xs))

-- What a table that is known says of one of its types, and of its fields
pub under-known : (lens l : List ℕ) (k t : ℕ) → Known lens l k → t < k → Under lens l (t + 1)
under-known lens l k t g h = under-below lens l k (t + 1) (omega arith) (under_table lens l k g)

pub row-known : (lens l : List ℕ) (k : ℕ) (m : Members) → Known lens l k → InRow l k m → Row lens l m.of m.first m.step m.many
row-known lens l k m g r =
    record {
      under = under-below lens l k m.of (omega (arith, r.own)) (under_table lens l k g);
      near = r.near;
      steps = r.steps;
      named = r.named;
    }

pub in-row : (lens l : List ℕ) (m : Members) → Row lens l m.of m.first m.step m.many → (k : ℕ) → m.of < k → InRow l k m
in-row lens l m r k h = record { own = h; near = r.near; steps = r.steps; named = r.named }

-- The first field and the rest.
module _ (lens l : List ℕ) (t a step left f : ℕ) (g : Row lens l t a step left) (z : 0 < left) (e : f ≡ word_at l a) (c b : List ℕ) (i j : ℕ) where
  pub fields-walk : walk_fields (row_of l t a step left) c b i j ≡
      onward (walk_item (tree_of l f) c b i j) (λ m n. walk_fields (row_of l t (a + step) step (left - 1)) c b m n)
  unfolding walk_item
  fields-walk = rw (row_first l t a step left g.named z, e)

  pub fields-parts : parts_from (row_of l t a step left) c b i j ≡ piece (head (tree_of l f)) (write_item_lem (tree_of l f) c b i j) ∷ parts_from
      (row_of l t (a + step) step (left - 1)) c b (word_after (walk_item (tree_of l f) c b i j)) (byte_after (walk_item (tree_of l f) c b i j))
  unfolding write_item_lem
  fields-parts = rw (row_first l t a step left g.named z, e)

pub none_walk : (l : List ℕ) (t a step left : ℕ) (c b : List ℕ) (i j : ℕ) → left ≤ 0 → walk_fields (row_of l t a step left) c b i j ≡ upto i j
unfolding walk_item
none_walk l t a step left c b i j h = rw (row-none l t a step left h)

pub none-parts : (l : List ℕ) (t a step left : ℕ) (c b : List ℕ) (i j : ℕ) → left ≤ 0 → parts_from (row_of l t a step left) c b i j ≡ []
unfolding write_item_lem
none-parts l t a step left c b i j h = rw (row-none l t a step left h)

-- The loop of `measure_fields`: what is measured, and what is left to measure, give the whole.
pub record Measuring (lens l : List ℕ) (t a₀ step n : ℕ) (c b : List ℕ) (i₀ j₀ : ℕ) (sum a left i j : ℕ) : Type 0 where
  pub row : Row lens l t a step left
  pub some : left ≤ n
  pub small : sum ≤ 4294967296
  pub same : measured (walk_fields (row_of l t a step left) c b i j) (sum + length (join (parts_from (row_of l t a step left) c b i j))) ≡
      measured (walk_fields (row_of l t a₀ step n) c b i₀ j₀) (length (join (parts_from (row_of l t a₀ step n) c b i₀ j₀)))

pub measuring_none : (lens l : List ℕ) (t a step n : ℕ) (c b : List ℕ) (i j : ℕ) → Row lens l t a step n → Measuring lens l t a step n c b i j 0 a n i j
measuring_none lens l t a step n c b i j g =
    record {
      row = g;
      some = omega arith;
      small = omega arith;
      same = ap (measured (walk_fields (row_of l t a step n) c b i j)) (zero-add (length (join (parts_from (row_of l t a step n) c b i j))));
    }

module _ (lens l : List ℕ) (t a₀ step n : ℕ) (c b : List ℕ) (i₀ j₀ : ℕ) (sum a left i j f : ℕ) (g : Measuring lens l t a₀ step n c b i₀ j₀ sum a left i j)
    (z : 0 < left) (e : f ≡ word_at l a) where
  pub measuring_next : (m : Mark) → Ok m ≡ measured (walk_item (tree_of l f) c b i j) (length (write_item_lem (tree_of l f) c b i j)) → (k : ℕ) →
      k ≡ get_or lens f 0 → (own : ℕ) → own ≡ cap (extra (head_of k) + m.len) →
      Measuring lens l t a₀ step n c b i₀ j₀ (cap (sum + own)) (a + step) (left - 1) m.end.word m.end.byte
  measuring_next m h k o own p =
      let q = measured-says (walk_item (tree_of l f) c b i j) (length (write_item_lem (tree_of l f) c b i j)) m h in
      let x = parts_from (row_of l t (a + step) step (left - 1)) c b m.end.word m.end.byte in
      let d : head_of k ≡ head (tree_of l f) = ap head_of o ∙ row-head lens l t a step left f g.row z e in
      let y = join_more (head (tree_of l f)) (write_item_lem (tree_of l f) c b i j) x in
      let v : cap (cap (sum + own) + length (join x)) ≡ cap (sum + length (join (piece (head (tree_of l f)) (write_item_lem (tree_of l f) c b i j) ∷ x))) =
      rw (y, p, d, q.1) (omega (arith, g.small)) in
      record {
        row = row_next lens l t a step left f g.row z e;
        some = omega (arith, g.some);
        small = omega arith;
        same =
            measured-cap (walk_fields (row_of l t (a + step) step (left - 1)) c b m.end.word m.end.byte) _ _ v
            ∙ rw (fields-walk lens l t a step left f g.row z e c b i j, fields-parts lens l t a step left f g.row z e c b i j, q.0) at g.same;
      }

  pub measuring_stop : (x : Refusal) → Err x ≡ measured (walk_item (tree_of l f) c b i j) (length (write_item_lem (tree_of l f) c b i j)) →
      Err x ≡ measured (walk_fields (row_of l t a₀ step n) c b i₀ j₀) (length (join (parts_from (row_of l t a₀ step n) c b i₀ j₀)))
  measuring_stop x h =
      let q = measured-wrong (walk_item (tree_of l f) c b i j) (length (write_item_lem (tree_of l f) c b i j)) x h in
      rw (fields-walk lens l t a step left f g.row z e c b i j, q) at g.same

pub measuring_end : (lens l : List ℕ) (t a₀ step n : ℕ) (c b : List ℕ) (i₀ j₀ : ℕ) (sum a left i j : ℕ) →
    Measuring lens l t a₀ step n c b i₀ j₀ sum a left i j → left ≤ 0 →
    Ok (record { end = record { word = i; byte = j }; len = sum }) ≡
    measured (walk_fields (row_of l t a₀ step n) c b i₀ j₀) (length (join (parts_from (row_of l t a₀ step n) c b i₀ j₀)))
unfolding join fronts backs fixed_lengths
measuring_end lens l t a₀ step n c b i₀ j₀ sum a left i j g h =
    let v : sum ≡ cap (sum + length (join [])) = omega (arith, g.small) in
    ap (λ (k : ℕ). Ok (record { end = record { word = i; byte = j }; len = k })) v
    ∙ rw (none_walk l t a step left c b i j h, none-parts l t a step left c b i j h) at g.same

-- A container.
module _ (l : List ℕ) (t : ℕ) (r : Node) (e : r ≡ node_of l t) (k : r.kind ≡ Kind.Container) (c b : List ℕ) (i j : ℕ) where
  pub container-walk : walk_item (tree_of l t) c b i j ≡ walk_fields (row_of l t (r.at + 2) 1 r.second) c b i j
  unfolding walk_item
  container-walk = rw (container_tree l t r e k)

  pub container-write : write_item_lem (tree_of l t) c b i j ≡ join (parts_from (row_of l t (r.at + 2) 1 r.second) c b i j)
  unfolding write_item_lem
  container-write = rw (container_tree l t r e k)
