-- The message that the form of a value says, and the call that writes it. Assumes nothing: these are definitions.
use Rattle.std.specs.Prelude.{ℕ, zero, suc, ◌+◌, ◌/◌, ◌%◌, ◌^◌, List, [], ◌∷◌, ◌++◌, length, get_or, take, drop, eqb, ltb}
use Rattle.std.proofs.lemmas.List.Edits.{sets}
use Rattle.standard.specs.Choice.{pick}
use Rattle.standard.specs.Types.{Ty, Tys, Opts, number, boolean, fixed_bytes, free_bytes, bit_vector, bit_list, container, union, list, vector, end, field, over, bare, body, head}
use Rattle.standard.specs.Parts.{Part, piece, join}
use Rattle.standard.specs.declared.Head.{Head}
use Rattle.standard.specs.declared.Refusal.TheVariants.{TooLarge, NoRoom, BadValue}
use Rattle.layout.specs.Table.{table_of}
use Rattle.message.specs.Read.{raw_bytes_lem}
use Rattle.message.specs.Check.{message_type}
use Rattle.value.specs.Walk.{Walked, upto, wrong, walk_item}
use Rattle.std.specs.declared.result.Result.{Result}
use Rattle.std.specs.declared.result.Result.TheVariants.{Ok, Err}
use Rattle.standard.specs.declared.Refusal.{Refusal}

-- Where the next item's contents and bodies start
abbrev pub word_after : Walked → ℕ
word_after (upto i j) = i
word_after (wrong r) = 0

abbrev pub byte_after : Walked → ℕ
byte_after (upto i j) = j
byte_after (wrong r) = 0

-- n bytes of the bodies from j on
abbrev pub bytes_at : List ℕ → ℕ → ℕ → List ℕ
bytes_at b j n = take n (drop j b)

-- "A bit list adds one set bit behind its last": in a byte of its own where its bits fill theirs
abbrev pub with_mark : List ℕ → ℕ → ℕ → List ℕ
with_mark b j k = bytes_at b j (k / 8) ++ (pick (eqb (k % 8) 0) 1 (get_or b (j + k / 8) 0 + 2 ^ (k % 8)) ∷ [])

-- The parts of n elements with this head, each behind the form of the one before, which `walk` walks and `write` writes
unfoldable pub parts_each : Head → (ℕ → ℕ → Walked) → (ℕ → ℕ → List ℕ) → ℕ → ℕ → ℕ → List Part
parts_each h walk write zero i j = []
parts_each h walk write (suc n) i j = piece h (write i j) ∷ parts_each h walk write n (word_after (walk i j)) (byte_after (walk i j))

unfoldable mutual
  -- The bytes of an item whose form starts at the contents word i and the body byte j
  pub write_item_lem : Ty → List ℕ → List ℕ → ℕ → ℕ → List ℕ
  write_item_lem (number t w) c b i j = bytes_at b j w
  write_item_lem (boolean t) c b i j = bytes_at b j 1
  write_item_lem (fixed_bytes t n) c b i j = bytes_at b j n
  write_item_lem (free_bytes t limit) c b i j = bytes_at b j (get_or c i 0)
  write_item_lem (bit_vector t n) c b i j = bytes_at b j (raw_bytes_lem n)
  write_item_lem (bit_list t limit) c b i j = with_mark b j (get_or c i 0)
  write_item_lem (container t ts) c b i j = join (parts_from ts c b i j)
  write_item_lem (union t os) c b i j = get_or c i 0 ∷ write_option os (get_or c i 0) c b i j
  write_item_lem (list t e limit) c b i j =
      join (parts_each (head e) (λ (m k : ℕ). walk_item e c b m k) (λ (m k : ℕ). write_item_lem e c b m k) (get_or c i 0) (i + 1) j)
  write_item_lem (vector t e n) c b i j = join (parts_each (head e) (λ (m k : ℕ). walk_item e c b m k) (λ (m k : ℕ). write_item_lem e c b m k) n i j)

  -- The fields, each behind the form of the one before
  pub parts_from : Tys → List ℕ → List ℕ → ℕ → ℕ → List Part
  parts_from end c b i j = []
  parts_from (field t ts) c b i j =
      piece (head t) (write_item_lem t c b i j) ∷ parts_from ts c b (word_after (walk_item t c b i j)) (byte_after (walk_item t c b i j))

  pub write_option : Opts → ℕ → List ℕ → List ℕ → ℕ → ℕ → List ℕ
  write_option over k c b i j = []
  write_option (bare s os) k c b i j = pick (eqb k s) [] (write_option os k c b i j)
  write_option (body s t os) k c b i j = pick (eqb k s) (write_item_lem t c b (i + 1) j) (write_option os k c b i j)

-- "leftover contents next, leftover bodies last"
abbrev pub whole : List ℕ → List ℕ → Walked → Walked
whole c b (wrong r) = wrong r
whole c b (upto i j) =
    pick (ltb i (length c)) (wrong (BadValue 0 i)) (pick (ltb j (length b)) (wrong (BadValue 1 j)) (upto i j))

-- The form of a whole message of this type
abbrev pub walk_all : Ty → List ℕ → List ℕ → Walked
walk_all t c b = whole c b (walk_item t c b 0 0)

-- "Writer: 20, 25, 21, 22": the bytes x are written where all is well, they are less than 2^32 and there is room for them.
abbrev pub written_of : Walked → List ℕ → List ℕ → Result ℕ Refusal
written_of (wrong r) x o = Err r
written_of (upto i j) x o =
    pick (ltb 4294967295 (length x)) (Err TooLarge)
    (pick (ltb (length o) (length x)) (Err (NoRoom (length x) (length o))) (Ok (length x)))

-- "Success fills exactly the result's length and keeps the rest"; a refusal changes nothing
abbrev pub stored_of : Walked → List ℕ → List ℕ → List ℕ
stored_of (wrong r) x o = o
stored_of (upto i j) x o = pick (ltb 4294967295 (length x)) o (pick (ltb (length o) (length x)) o (sets o 0 x))

-- Under a table
abbrev pub written_under : Result ℕ Refusal → List ℕ → List ℕ → List ℕ → List ℕ → Result ℕ Refusal
written_under (Err r) l c b o = Err r
written_under (Ok n) l c b o = written_of (walk_all (message_type l n) c b) (write_item_lem (message_type l n) c b 0 0) o

abbrev pub stored_under : Result ℕ Refusal → List ℕ → List ℕ → List ℕ → List ℕ → List ℕ
stored_under (Err r) l c b o = o
stored_under (Ok n) l c b o = stored_of (walk_all (message_type l n) c b) (write_item_lem (message_type l n) c b 0 0) o

-- The call: what it answers, and what its buffer is afterwards
unfoldable pub write_message : List ℕ → List ℕ → List ℕ → List ℕ → Result ℕ Refusal
write_message l c b o = written_under (table_of l) l c b o

unfoldable pub written_bytes : List ℕ → List ℕ → List ℕ → List ℕ → List ℕ
written_bytes l c b o = stored_under (table_of l) l c b o
