-- The rules of reading: document 01, "Rules of reading". Assumes nothing: these are definitions.
use Rattle.std.specs.Prelude.{ℕ, zero, suc, ◌+◌, ◌-◌, ◌*◌, ◌/◌, ◌%◌, max, List, length, get_or, drop, replicate, eqb, ltb, leb}
use Rattle.standard.specs.Choice.{pick, or_else}
use Rattle.standard.specs.Bytes.{four}
use Rattle.standard.specs.Types.{Ty, Tys, Opts, number, boolean, fixed_bytes, free_bytes, bit_vector, bit_list, container, union, list, vector, end, field, over, bare, body, head, heads}
use Rattle.standard.specs.Parts.{span_of, part}
use Rattle.standard.specs.declared.Head.{Head}
use Rattle.standard.specs.declared.Head.TheVariants.{Fixed, Variable}
use Rattle.standard.specs.declared.Refusal.TheVariants.{InvalidByteLength, InvalidLengthPrefix, OutOfBoundsByte, OffsetIntoFixedPortion, OffsetsAreDecreasing, OffsetOutOfBounds, UnionSelectorInvalid, BadBoolean, OverLimit, InvalidListFixedBytesLen}
use Rattle.decode.specs.Builder.{lay_out_lem}
use Rattle.bitfield.specs.Body.{bit_list_body, bit_vector_body}
use Rattle.message.specs.declared.Counts.{Counts}
use Rattle.std.specs.Prelude.{⊤}
use Rattle.standard.specs.declared.Refusal.{Refusal}
use Rattle.std.specs.declared.result.Result.{Result}
use Rattle.std.specs.declared.result.Result.TheVariants.{Ok, Err}
use Rattle.message.specs.declared.RefusedAt.{RefusedAt}

-- "Raw bytes are max(1, bits/8 rounded up)"
abbrev pub raw_bytes_lem : ℕ → ℕ
raw_bytes_lem k = max 1 ((k + 7) / 8)

-- A refusal of the item of type t that starts at s
abbrev pub located : Refusal → ℕ → ℕ → RefusedAt
located r t s = record { refusal = r; type_number = t; start = s }

-- One item, with so many contents words and body bytes
abbrev pub one : ℕ → ℕ → Result Counts RefusedAt
one w b = Ok (record { records = 1; words = w; bytes = b })

abbrev pub plus : Counts → Counts → Counts
plus c d = record { records = c.records + d.records; words = c.words + d.words; bytes = c.bytes + d.bytes }

-- The second answer behind the first: what is accepted adds up
abbrev pub and_then : Result Counts RefusedAt → Result Counts RefusedAt → Result Counts RefusedAt
and_then (Err r) y = Err r
and_then (Ok c) (Err r) = Err r
and_then (Ok c) (Ok d) = Ok (plus c d)

-- A builder's refusal, for the type t that starts at s; else the answer of the fields
abbrev pub built : Result ⊤ Refusal → ℕ → ℕ → Result Counts RefusedAt → Result Counts RefusedAt
built (Err r) t s x = Err (located r t s)
built (Ok tt) t s x = x

-- The body of bits
abbrev pub of_vector_lem : Result ⊤ Refusal → ℕ → ℕ → ℕ → Result Counts RefusedAt
of_vector_lem (Err r) t s n = Err (located r t s)
of_vector_lem (Ok tt) t s n = one 0 n

abbrev pub of_list : Result ℕ Refusal → ℕ → ℕ → Result Counts RefusedAt
of_list (Err r) t s = Err (located r t s)
of_list (Ok k) t s = one 1 (raw_bytes_lem k)

-- "wrong length is 1"
abbrev pub read_exact : ℕ → ℕ → List ℕ → ℕ → Result Counts RefusedAt
read_exact w t b s = pick (eqb (length b) w) (one 0 (length b)) (Err (located (InvalidByteLength (length b) w) t s))

-- "count above limit 14"
abbrev pub within : ℕ → ℕ → Result ℕ Refusal
within n limit = pick (leb n limit) (Ok n) (Err (OverLimit n limit))

-- n further offsets from position p on: "4 (below the first), then 7, then 6"
unfoldable pub further : List ℕ → ℕ → ℕ → ℕ → ℕ → Result ⊤ Refusal
further b first previous p zero = Ok tt
further b first previous p (suc n) =
    let o = four b p in
    pick (ltb o first) (Err (OffsetIntoFixedPortion o))
    (pick (ltb (length b) o) (Err (OffsetOutOfBounds o))
    (pick (ltb o previous) (Err (OffsetsAreDecreasing o))
    (further b first o (p + 4) n)))

-- The elements that the first offset o says, if the offsets behind it are well
abbrev pub then_many : Result ⊤ Refusal → ℕ → Result ℕ Refusal
then_many (Ok tt) n = Ok n
then_many (Err r) n = Err r

abbrev pub behind_first_lem : Result ℕ Refusal → List ℕ → ℕ → Result ℕ Refusal
behind_first_lem (Err r) b o = Err r
behind_first_lem (Ok n) b o = then_many (further b o o 4 (n - 1)) n

-- "List of variable elements, empty is no elements; else 2; first offset above the length 7; zero or not a multiple of four 15 (offset); count above
-- limit 14; further offsets"
abbrev pub offset_elements_lem : ℕ → List ℕ → Result ℕ Refusal
offset_elements_lem limit b =
    let o = four b 0 in
    pick (eqb (length b) 0) (Ok 0)
    (pick (ltb (length b) 4) (Err (InvalidLengthPrefix (length b) 4))
    (pick (ltb (length b) o) (Err (OffsetOutOfBounds o))
    (pick (or_else (eqb o 0) (ltb 0 (o % 4))) (Err (InvalidListFixedBytesLen o))
    (behind_first_lem (within (o / 4) limit) b o))))

-- How many elements with this head a list has. "List of fixed elements, 1 (length, element length) if not a multiple, then 14 (count, limit)."
unfoldable pub elements : Head → ℕ → List ℕ → Result ℕ Refusal
elements (Fixed k) limit b =
    pick (eqb (length b % k) 0) (within (length b / k) limit) (Err (InvalidByteLength (length b) k))
elements Variable limit b = offset_elements_lem limit b

abbrev pub many_of : Result ℕ Refusal → ℕ
many_of (Ok n) = n
many_of (Err r) = 0

-- A list's refusal, for the type t that starts at s; else the answer of so many elements
abbrev pub of_elements : Result ℕ Refusal → ℕ → ℕ → (ℕ → Result Counts RefusedAt) → Result Counts RefusedAt
of_elements (Err r) t s x = Err (located r t s)
of_elements (Ok n) t s x = x n

-- n elements with this head in a vector: "fixed vector of wrong length, 1 (length, expected)"; "one of variable elements .. is read by the container rules"
unfoldable pub vector_told_lem : Head → ℕ → List ℕ → Result ⊤ Refusal
vector_told_lem (Fixed k) n b = pick (eqb (length b) (n * k)) (Ok tt) (Err (InvalidByteLength (length b) (n * k)))
vector_told_lem Variable n b = lay_out_lem (replicate n Variable) b

-- n elements with this head from position p on, each read by `item`
unfoldable pub read_each : (List ℕ → ℕ → Result Counts RefusedAt) → Head → ℕ → List ℕ → ℕ → ℕ → Result Counts RefusedAt
read_each item h zero b p s = Ok (record { records = 0; words = 0; bytes = 0 })
read_each item h (suc n) b p s =
    let w = span_of h (replicate n h) b p in
    and_then (item (part b w) (s + w.from)) (read_each item h n b w.next s)

unfoldable mutual
  -- The item b, which starts at s in the message. A refusal carries the item's type and start.
  pub read_item : Ty → List ℕ → ℕ → Result Counts RefusedAt
  -- "Number, boolean, fixed bytes: wrong length is 1"
  read_item (number t w) b s = read_exact w t b s
  read_item (boolean t) b s =
      pick (eqb (length b) 1)
      (pick (ltb (get_or b 0 0) 2) (one 0 1) (Err (located (BadBoolean (get_or b 0 0)) t s)))
      (Err (located (InvalidByteLength (length b) 1) t s))
  read_item (fixed_bytes t n) b s = read_exact n t b s
  -- "Free bytes above their limit: 14"
  read_item (free_bytes t limit) b s = pick (leb (length b) limit) (one 1 (length b)) (Err (located (OverLimit (length b) limit) t s))
  read_item (bit_vector t n) b s = of_vector_lem (bit_vector_body b n) t s (length b)
  read_item (bit_list t limit) b s = of_list (bit_list_body b limit) t s
  -- "all fields are registered in order, the container is built, then fields are checked left to right"
  read_item (container t ts) b s = built (lay_out_lem (heads ts) b) t s (and_then (one 0 0) (read_fields ts b 0 s))
  -- "no bytes is 3 with 0; a selector above 127, or without an option in the table, is 8"
  read_item (union t os) b s =
      pick (eqb (length b) 0) (Err (located (OutOfBoundsByte 0) t s))
      (pick (leb (get_or b 0 0) 127) (read_option os (get_or b 0 0) b t s) (Err (located (UnionSelectorInvalid (get_or b 0 0)) t s)))
  -- "then elements in order"; a list's count is a contents word
  read_item (list t e limit) b s =
      of_elements (elements (head e) limit b) t s
      (λ (n : ℕ). and_then (one 1 0) (read_each (λ (x : List ℕ) (u : ℕ). read_item e x u) (head e) n b 0 s))
  read_item (vector t e n) b s =
      built (vector_told_lem (head e) n b) t s
      (and_then (one 0 0) (read_each (λ (x : List ℕ) (u : ℕ). read_item e x u) (head e) n b 0 s))

  -- The fields from position p on
  pub read_fields : Tys → List ℕ → ℕ → ℕ → Result Counts RefusedAt
  read_fields end b p s = Ok (record { records = 0; words = 0; bytes = 0 })
  read_fields (field t ts) b p s =
      let w = span_of (head t) (heads ts) b p in
      and_then (read_item t (part b w) (s + w.from)) (read_fields ts b w.next s)

  -- The option with selector k: "An option without body is encoded as its selector byte alone ..; followed by bytes it is 1 (bytes left, 0)"
  pub read_option : Opts → ℕ → List ℕ → ℕ → ℕ → Result Counts RefusedAt
  read_option over k b t s = Err (located (UnionSelectorInvalid k) t s)
  read_option (bare j os) k b t s =
      pick (eqb k j)
      (pick (eqb (length b) 1) (one 1 0) (Err (located (InvalidByteLength (length b - 1) 0) t s)))
      (read_option os k b t s)
  read_option (body j o os) k b t s =
      pick (eqb k j)
      (and_then (one 1 0) (read_item o (drop 1 b) (s + 1)))
      (read_option os k b t s)
