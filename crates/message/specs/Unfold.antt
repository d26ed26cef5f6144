-- Unfolding: an item's value form, made from its bytes. Assumes nothing: these are definitions.
use Rattle.std.specs.Prelude.{ℕ, zero, suc, ◌≤◌, ◌<◌, ◌+◌, ◌^◌, ◌/◌, ◌≡◌, List, [], ◌∷◌, ◌++◌, length, get_or, drop, replicate, eqb, ltb}
use Rattle.std.proofs.lemmas.List.Edits.{sets}
use Rattle.standard.specs.Choice.{pick}
use Rattle.standard.specs.Bytes.{num, Stored, Room}
use Rattle.standard.specs.Bits.{packs, bits_of}
use Rattle.standard.specs.Types.{Ty, Tys, Opts, number, boolean, fixed_bytes, free_bytes, bit_vector, bit_list, container, union, list, vector, end, field, over, bare, body, head, heads}
use Rattle.standard.specs.Parts.{span_of, part}
use Rattle.standard.specs.declared.Head.{Head}
use Rattle.standard.specs.declared.Refusal.TheVariants.{NoRoom}
use Rattle.bitfield.specs.Body.{bit_list_body}
use Rattle.layout.specs.Table.{table_of}
use Rattle.message.specs.Read.{raw_bytes_lem, elements, many_of, read_item, read_fields}
use Rattle.message.specs.Check.{check_message, type_under}
use Rattle.message.specs.Steps.{IsAccepted}
use Rattle.message.specs.declared.unfolding.Place.{Place}
use Rattle.standard.specs.declared.Refusal.{Refusal}
use Rattle.std.specs.declared.result.Result.{Result}
use Rattle.std.specs.declared.result.Result.TheVariants.{Ok, Err}
use Rattle.message.specs.declared.RefusedAt.{RefusedAt}
use Rattle.message.specs.declared.Counts.{Counts}
use Rattle.message.specs.declared.Sizes.{Sizes}
use Rattle.message.specs.Read.{located}

-- How many bits a body of bits has
abbrev pub bit_count : Result ℕ Refusal → ℕ
bit_count (Ok k) = k
bit_count (Err r) = 0

-- The k lowest bits of a body of bits as raw bytes, without the mark
unfoldable pub raw_of : List ℕ → ℕ → List ℕ
raw_of b k = packs (raw_bytes_lem k) (bits_of k (num b))

-- What `item` gives of each of n elements with this head from position p on
unfoldable pub each_from : (List ℕ → List ℕ) → Head → ℕ → List ℕ → ℕ → List ℕ
each_from item h zero b p = []
each_from item h (suc n) b p =
    let w = span_of h (replicate n h) b p in
    item (part b w) ++ each_from item h n b w.next

-- The contents words of an item b: "byte length of free bytes, bit length of a bit list, selector of a union", and the count of a list
unfoldable mutual
  pub unfold_words : Ty → List ℕ → List ℕ
  unfold_words (number t w) b = []
  unfold_words (boolean t) b = []
  unfold_words (fixed_bytes t n) b = []
  unfold_words (free_bytes t limit) b = length b ∷ []
  unfold_words (bit_vector t n) b = []
  unfold_words (bit_list t limit) b = bit_count (bit_list_body b limit) ∷ []
  unfold_words (container t ts) b = words_fields ts b 0
  unfold_words (union t os) b = get_or b 0 0 ∷ words_option os (get_or b 0 0) b
  unfold_words (list t e limit) b =
      many_of (elements (head e) limit b) ∷ each_from (λ (x : List ℕ). unfold_words e x) (head e) (many_of (elements (head e) limit b)) b 0
  unfold_words (vector t e n) b = each_from (λ (x : List ℕ). unfold_words e x) (head e) n b 0

  -- the fields from position p on
  pub words_fields : Tys → List ℕ → ℕ → List ℕ
  words_fields end b p = []
  words_fields (field t ts) b p =
      let w = span_of (head t) (heads ts) b p in
      unfold_words t (part b w) ++ words_fields ts b w.next

  -- the body of the option with selector k
  pub words_option : Opts → ℕ → List ℕ → List ℕ
  words_option over k b = []
  words_option (bare j os) k b = pick (eqb k j) [] (words_option os k b)
  words_option (body j o os) k b = pick (eqb k j) (unfold_words o (drop 1 b)) (words_option os k b)

-- The body bytes of an item b: "the leaves' bytes one after another, bitfields as raw bytes"
unfoldable mutual
  pub unfold_bytes : Ty → List ℕ → List ℕ
  unfold_bytes (number t w) b = b
  unfold_bytes (boolean t) b = b
  unfold_bytes (fixed_bytes t n) b = b
  unfold_bytes (free_bytes t limit) b = b
  unfold_bytes (bit_vector t n) b = b
  unfold_bytes (bit_list t limit) b = raw_of b (bit_count (bit_list_body b limit))
  unfold_bytes (container t ts) b = bytes_fields ts b 0
  unfold_bytes (union t os) b = bytes_option os (get_or b 0 0) b
  unfold_bytes (list t e limit) b = each_from (λ (x : List ℕ). unfold_bytes e x) (head e) (many_of (elements (head e) limit b)) b 0
  unfold_bytes (vector t e n) b = each_from (λ (x : List ℕ). unfold_bytes e x) (head e) n b 0

  pub bytes_fields : Tys → List ℕ → ℕ → List ℕ
  bytes_fields end b p = []
  bytes_fields (field t ts) b p =
      let w = span_of (head t) (heads ts) b p in
      unfold_bytes t (part b w) ++ bytes_fields ts b w.next

  pub bytes_option : Opts → ℕ → List ℕ → List ℕ
  bytes_option over k b = []
  bytes_option (bare j os) k b = pick (eqb k j) [] (bytes_option os k b)
  bytes_option (body j o os) k b = pick (eqb k j) (unfold_bytes o (drop 1 b)) (bytes_option os k b)

-- The call: "20, 21, rules of reading, 22", with the words and the bytes needed where either room is short
abbrev pub unfolded_of : Result Counts RefusedAt → List ℕ → List ℕ → Result Sizes RefusedAt
unfolded_of (Err r) o p = Err r
unfolded_of (Ok c) o p =
    pick (ltb (length o) c.words) (Err (located (NoRoom c.words c.bytes) 0 0))
    (pick (ltb (length p) c.bytes) (Err (located (NoRoom c.words c.bytes) 0 0))
    (Ok (record { words = c.words; bytes = c.bytes })))

-- A lent room of which x fills as much as it is long, where there is room for words and bytes; a refusal changes nothing.
abbrev pub filled_of : Result Counts RefusedAt → List ℕ → List ℕ → List ℕ → List ℕ → List ℕ
filled_of (Err r) o p q x = q
filled_of (Ok c) o p q x = pick (ltb (length o) c.words) q (pick (ltb (length p) c.bytes) q (sets q 0 x))

unfoldable pub unfold_message : List ℕ → List ℕ → List ℕ → List ℕ → Result Sizes RefusedAt
unfold_message l m o p = unfolded_of (check_message l m) o p

-- The contents o and the bodies p after the call
unfoldable pub unfolded_words : List ℕ → List ℕ → List ℕ → List ℕ → List ℕ
unfolded_words l m o p = filled_of (check_message l m) o p o (unfold_words (type_under (table_of l) l) m)

unfoldable pub unfolded_bytes : List ℕ → List ℕ → List ℕ → List ℕ → List ℕ
unfolded_bytes l m o p = filled_of (check_message l m) o p p (unfold_bytes (type_under (table_of l) l) m)

-- What the steps ask and give. The item b is accepted, wherever it starts; so are fields.
pub record Accepts (t : Ty) (b : List ℕ) : Type 0 where
  pub accepted : IsAccepted (read_item t b 0)

pub record AcceptsAll (ts : Tys) (b : List ℕ) (p : ℕ) : Type 0 where
  pub accepted : IsAccepted (read_fields ts b p 0)

-- There is room for words in o and for bytes in p from a place on.
pub record Rooms (o p : List ℕ) (at : Place) (x y : List ℕ) : Type 0 where
  pub words : Room o at.word x
  pub bytes : Room p at.byte y

-- The words x and the bytes y were stored from a place on, up to r.
pub record Filled (o p : List ℕ) (at : Place) (x y : List ℕ) (r : Place) (o' p' : List ℕ) : Type 0 where
  pub words : Stored o at.word x r.word o'
  pub bytes : Stored p at.byte y r.byte p'

-- A body of bits with its mark behind k bits
pub record MarkedAt (b : List ℕ) (k : ℕ) : Type 0 where
  pub long : length b ≡ k / 8 + 1
  pub from : 2 ^ k ≤ num b
  pub to : num b < 2 ^ suc k
