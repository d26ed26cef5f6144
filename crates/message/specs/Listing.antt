-- The listing: "three words an item, in preorder: type, start, end. An option without body has no item." Assumes nothing: these are definitions.
use Rattle.std.specs.Prelude.{ℕ, zero, suc, ◌+◌, List, [], ◌++◌, length, get_or, drop, replicate, eqb}
use Rattle.standard.specs.Choice.{pick}
use Rattle.standard.specs.Bytes.{le}
use Rattle.standard.specs.Types.{Ty, Tys, Opts, number, boolean, fixed_bytes, free_bytes, bit_vector, bit_list, container, union, list, vector, end, field, over, bare, body, head, heads}
use Rattle.standard.specs.Parts.{span_of, part}
use Rattle.standard.specs.declared.Head.{Head}
use Rattle.message.specs.Read.{elements, many_of}

-- The record of an item b of type t that starts at s
unfoldable pub entry : ℕ → List ℕ → ℕ → List ℕ
entry t b s = le 4 t ++ le 4 s ++ le 4 (s + length b)

-- The records of n elements with this head from position p on, each listed by `item`
unfoldable pub list_each : (List ℕ → ℕ → List ℕ) → Head → ℕ → List ℕ → ℕ → ℕ → List ℕ
list_each item h zero b p s = []
list_each item h (suc n) b p s =
    let w = span_of h (replicate n h) b p in
    item (part b w) (s + w.from) ++ list_each item h n b w.next s

unfoldable mutual
  pub list_item_lem : Ty → List ℕ → ℕ → List ℕ
  list_item_lem (number t w) b s = entry t b s
  list_item_lem (boolean t) b s = entry t b s
  list_item_lem (fixed_bytes t n) b s = entry t b s
  list_item_lem (free_bytes t limit) b s = entry t b s
  list_item_lem (bit_vector t n) b s = entry t b s
  list_item_lem (bit_list t limit) b s = entry t b s
  list_item_lem (container t ts) b s = entry t b s ++ list_fields_lem ts b 0 s
  list_item_lem (union t os) b s = entry t b s ++ list_option os (get_or b 0 0) b s
  list_item_lem (list t e limit) b s =
      entry t b s ++ list_each (λ (x : List ℕ) (u : ℕ). list_item_lem e x u) (head e) (many_of (elements (head e) limit b)) b 0 s
  list_item_lem (vector t e n) b s = entry t b s ++ list_each (λ (x : List ℕ) (u : ℕ). list_item_lem e x u) (head e) n b 0 s

  pub list_fields_lem : Tys → List ℕ → ℕ → ℕ → List ℕ
  list_fields_lem end b p s = []
  list_fields_lem (field t ts) b p s =
      let w = span_of (head t) (heads ts) b p in
      list_item_lem t (part b w) (s + w.from) ++ list_fields_lem ts b w.next s

  pub list_option : Opts → ℕ → List ℕ → ℕ → List ℕ
  list_option over k b s = []
  list_option (bare j os) k b s = pick (eqb k j) [] (list_option os k b s)
  list_option (body j o os) k b s = pick (eqb k j) (list_item_lem o (drop 1 b) (s + 1)) (list_option os k b s)
