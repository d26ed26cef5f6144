-- The form of a value, walked: document 01, "25 names the first fault in preorder". Assumes nothing: these are definitions.
use Rattle.std.specs.Prelude.{ℕ, zero, suc, ◌+◌, ◌-◌, ◌*◌, ◌^◌, List, Bool, length, get_or, eqb, ltb, leb}
use Rattle.standard.specs.Choice.{pick}
use Rattle.standard.specs.Types.{Ty, Tys, Opts, number, boolean, fixed_bytes, free_bytes, bit_vector, bit_list, container, union, list, vector, end, field, over, bare, body}
use Rattle.standard.specs.declared.Refusal.{Refusal}
use Rattle.standard.specs.declared.Refusal.TheVariants.{BadValue}
use Rattle.message.specs.Read.{raw_bytes_lem}

-- How far the contents words and the body bytes are used, or what is wrong
pub data Walked : Type 0 where
  upto : ℕ → ℕ → Walked
  wrong : Refusal → Walked

abbrev pub onward : Walked → (ℕ → ℕ → Walked) → Walked
onward (upto i j) f = f i j
onward (wrong r) f = wrong r

-- "its contents word (missing, over limit ..)": the word at i, and whether it may stand there
abbrev pub with_word : List ℕ → ℕ → Bool → Walked → Walked
with_word c i ok x = pick (ltb i (length c)) (pick ok x (wrong (BadValue 0 i))) (wrong (BadValue 0 (length c)))

-- "then its body (too short: the buffer's length ..)": n bytes from j on
abbrev pub with_body : List ℕ → ℕ → ℕ → Walked → Walked
with_body b j n x = pick (leb (j + n) (length b)) x (wrong (BadValue 1 (length b)))

-- How many of k bits stand in the last of their raw bytes
abbrev pub last_bits : ℕ → ℕ
last_bits k = k - 8 * (raw_bytes_lem k - 1)

-- k bits as raw bytes from j on: "last byte of bits", with zero above the last bit
abbrev pub walk_bits : List ℕ → ℕ → ℕ → ℕ → Walked
walk_bits b k i j =
    with_body b j (raw_bytes_lem k)
    (pick (ltb (get_or b (j + raw_bytes_lem k - 1) 0) (2 ^ last_bits k))
    (upto i (j + raw_bytes_lem k))
    (wrong (BadValue 1 (j + raw_bytes_lem k - 1))))

-- The forms of n elements, one behind another, each walked by `item`
unfoldable pub walk_each : (ℕ → ℕ → Walked) → ℕ → ℕ → ℕ → Walked
walk_each item zero i j = upto i j
walk_each item (suc n) i j = onward (item i j) (λ m k. walk_each item n m k)

unfoldable mutual
  -- The form of an item, from the contents word i and the body byte j on
  pub walk_item : Ty → List ℕ → List ℕ → ℕ → ℕ → Walked
  walk_item (number t w) c b i j = with_body b j w (upto i (j + w))
  walk_item (boolean t) c b i j = with_body b j 1 (pick (ltb (get_or b j 0) 2) (upto i (j + 1)) (wrong (BadValue 1 j)))
  walk_item (fixed_bytes t n) c b i j = with_body b j n (upto i (j + n))
  walk_item (free_bytes t limit) c b i j =
      with_word c i (leb (get_or c i 0) limit) (with_body b j (get_or c i 0) (upto (i + 1) (j + get_or c i 0)))
  walk_item (bit_vector t n) c b i j = walk_bits b n i j
  walk_item (bit_list t limit) c b i j = with_word c i (leb (get_or c i 0) limit) (walk_bits b (get_or c i 0) (i + 1) j)
  walk_item (container t ts) c b i j = walk_fields ts c b i j
  walk_item (union t os) c b i j = pick (ltb i (length c)) (walk_option os (get_or c i 0) c b i j) (wrong (BadValue 0 (length c)))
  -- "a contents word for a list's count, missing or over the limit 25 as at a leaf, before its elements"
  walk_item (list t e limit) c b i j =
      with_word c i (leb (get_or c i 0) limit) (walk_each (λ (m k : ℕ). walk_item e c b m k) (get_or c i 0) (i + 1) j)
  walk_item (vector t e n) c b i j = walk_each (λ (m k : ℕ). walk_item e c b m k) n i j

  pub walk_fields : Tys → List ℕ → List ℕ → ℕ → ℕ → Walked
  walk_fields end c b i j = upto i j
  walk_fields (field t ts) c b i j = onward (walk_item t c b i j) (λ m n. walk_fields ts c b m n)

  -- The option with selector k, which stands at the contents word i: "no such option"
  pub walk_option : Opts → ℕ → List ℕ → List ℕ → ℕ → ℕ → Walked
  walk_option over k c b i j = wrong (BadValue 0 i)
  walk_option (bare s os) k c b i j = pick (eqb k s) (upto (i + 1) j) (walk_option os k c b i j)
  walk_option (body s t os) k c b i j = pick (eqb k s) (walk_item t c b (i + 1) j) (walk_option os k c b i j)
