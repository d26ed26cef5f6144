-- What the steps of reading ask and give, one to another. Assumes nothing: these are definitions.
use Rattle.std.specs.Prelude.{ℕ, zero, suc, ◌+◌, ◌-◌, ◌≤◌, ◌<◌, ◌^◌, ◌≡◌, List, Bool, true, false, length, get_or, eqb, ltb}
use Rattle.standard.specs.Choice.{pick}
use Rattle.standard.specs.Bytes.{word_at}
use Rattle.standard.specs.Types.{Tys, boolean, end, field, head, heads, portion}
use Rattle.standard.specs.Parts.{next, InRange}
use Rattle.standard.specs.declared.Head.{Head}
use Rattle.standard.specs.declared.Refusal.TheVariants.{InvalidByteLength, UnionSelectorInvalid}
use Rattle.decode.specs.Unions.{split_union}
use Rattle.decode.specs.declared.builder.Progress.{Progress}
use Rattle.decode.specs.declared.union_selector.UnionSelector.{UnionSelector}
use Rattle.layout.specs.Tree.{tree_of, trees, len_of}
use Rattle.layout.specs.Table.{count}
use Rattle.layout.specs.declared.Kind.{Kind}
use Rattle.layout.specs.declared.Node.{Node}
use Rattle.layout.specs.Legal.{Legal}
use Rattle.message.specs.Read.{elements, many_of, one, and_then, read_item, read_fields}
use Rattle.message.specs.declared.Counts.{Counts}
use Rattle.message.specs.declared.items.Inside.{Inside}
use Rattle.message.specs.declared.parts.Series.{Series}
use Rattle.message.specs.declared.table.Table.{Table}
use Rattle.standard.specs.declared.Refusal.{Refusal}
use Rattle.std.specs.declared.result.Result.{Result}
use Rattle.std.specs.declared.result.Result.TheVariants.{Ok, Err}
use Rattle.std.specs.declared.option.Option.{Option}
use Rattle.std.specs.declared.option.Option.TheVariants.{Some, None}
use Rattle.message.specs.declared.RefusedAt.{RefusedAt}
use Rattle.message.specs.declared.Sizes.{Sizes}
use Rattle.message.specs.Read.{located}

-- The types below k are legal, and their lengths stand in lens.
pub record Under (lens l : List ℕ) (k : ℕ) : Type 0 where
  pub legal : Legal l k
  pub few : k ≤ 64
  pub room : length lens ≡ 64
  pub found : (f : ℕ) → f < k → get_or lens f 0 ≡ len_of (head (tree_of l f))

-- n fields of the type t: the word at names the first, each next one is named `step` words behind. A container's fields have a word
-- each (step 1), elements share one (step 0).
unfoldable pub row_of : List ℕ → ℕ → ℕ → ℕ → ℕ → Tys
row_of l t at step zero = end
row_of l t at step (suc n) = field (get_or (trees l t) (word_at l at) (boolean 0)) (row_of l t (at + step) step n)

-- Their heads
abbrev pub heads_of : List ℕ → ℕ → ℕ → ℕ → ℕ → List Head
heads_of l t at step n = heads (row_of l t at step n)

-- The words that name them are there and name lower types.
unfoldable pub Named : List ℕ → ℕ → ℕ → ℕ → ℕ → Type 0
Named l t at step zero = Unit {0}
Named l t at step (suc n) = (at < count l) × (word_at l at < t) × Named l t (at + step) step n

-- Fields or elements that can be read: the types below t are known, and the words that name them are near.
pub record Row (lens l : List ℕ) (t at step n : ℕ) : Type 0 where
  pub under : Under lens l t
  pub near : at + n < 2 ^ 34
  pub steps : step ≤ 1
  pub named : Named l t at step n

-- The types of some fields or elements, and those behind the first
abbrev pub types_of : List ℕ → Series → Tys
types_of l r = row_of l r.below r.first r.step r.many

abbrev pub rest_of : Series → Series
rest_of r = record { below = r.below; first = r.first + r.step; step = r.step; many = r.many - 1 }

-- They can be read in a table.
abbrev pub Placed : Table → Series → Type 0
Placed x r = Row x.lens.now x.layout.now r.below r.first r.step r.many

-- The first is taken off: its type, if there is one, and what is left.
abbrev pub Next : List ℕ → Series → Option ℕ → Series → Type 0
Next l r None r' = r.many ≡ 0
Next l r (Some f) r' = (0 < r.many) × (f ≡ word_at l r.first) × (r' ≡ rest_of r)

-- n elements of the type e, which the word at names: they lie in b as they should.
pub record Alike (lens l : List ℕ) (t at n e : ℕ) (b : List ℕ) : Type 0 where
  pub row : Row lens l t at 0 n
  pub shared : e ≡ word_at l at
  pub lower : e < t
  pub ranges : InRange (heads_of l t at 0 n) b 0 0
  pub first : next (heads_of l t at 0 n) b 0 ≡ portion (heads_of l t at 0 n)

-- What a leaf of type t that starts at s says
abbrev pub placed : Result Sizes Refusal → ℕ → ℕ → Result Counts RefusedAt
placed (Ok x) t s = one x.words x.bytes
placed (Err r) t s = Err (located r t s)

-- What is found of the inside of the item b of type t is what the rules of reading say: a refusal, what it counts, or the fields or elements
-- that are left to be read, inside something with `own` contents words.
abbrev pub Found : List ℕ → List ℕ → ℕ → List ℕ → Result Inside Refusal → Type 0
Found lens l t b (Err r) = (s : ℕ) → Err (located r t s) ≡ read_item (tree_of l t) b s
Found lens l t b (Ok (Inside.Counted n own)) = (s : ℕ) → Ok (record { records = n; words = own; bytes = length b }) ≡ read_item (tree_of l t) b s
Found lens l t b (Ok (Inside.Fields r own)) =
    (r.below ≤ t) × Row lens l r.below r.first r.step r.many × InRange (heads (types_of l r)) b 0 0 × (own ≤ 1) ×
    ((s : ℕ) → and_then (one own 0) (read_fields (types_of l r) b 0 s) ≡ read_item (tree_of l t) b s)

-- Kind 8, and kind 9
abbrev pub is_list : Kind → Bool
is_list Kind.List = true
is_list k = false

abbrev pub is_vector : Kind → Bool
is_vector Kind.Vector = true
is_vector k = false

-- How many elements with this head a list or vector b has, of which the table says n
abbrev pub many_in_lem : List ℕ → Node → Head → List ℕ → ℕ
many_in_lem l n h b = pick (is_vector n.kind) (word_at l (n.at + 2)) (many_of (elements h (word_at l (n.at + 2)) b))

-- Registration in plain numbers: an offset before is known if there is a first one.
abbrev pub known_if : Option ℕ → ℕ → Option ℕ
known_if None o = None
known_if (Some x) o = Some o

abbrev pub progress_of : Option ℕ → ℕ → ℕ → Progress
progress_of first previous p = record { pos = p; first = first; previous = known_if first previous }

-- The word of an option, where the selector is behind its byte alone or not
abbrev pub option_at_lem : ℕ → ℕ → Result (Option ℕ) Refusal
option_at_lem w len =
    pick (eqb w 4294967295)
    (pick (eqb len 1) (Ok None) (Err (InvalidByteLength (len - 1) 0)))
    (Ok (Some w))

abbrev pub choice_of : Result UnionSelector Refusal → List ℕ → ℕ → ℕ → ℕ → Result (Option ℕ) Refusal
choice_of (Err r) l a n len = Err r
choice_of (Ok k) l a n len = pick (ltb k.0 n) (option_at_lem (word_at l (a + k.0)) len) (Err (UnionSelectorInvalid k.0))

-- What the selector chooses among the n options that the words from a on name
unfoldable pub choose : List ℕ → ℕ → ℕ → List ℕ → Result (Option ℕ) Refusal
choose l a n b = choice_of (split_union b) l a n (length b)

-- Counts that add up without loss
pub record Small (c : Counts) (k : ℕ) : Type 0 where
  pub records : c.records ≤ k
  pub words : c.words ≤ k
  pub bytes : c.bytes ≤ k

-- An answer that accepts
abbrev pub IsAccepted : Result Counts RefusedAt → Type 0
IsAccepted (Ok c) = Unit {0}
IsAccepted (Err r) = ⊥
