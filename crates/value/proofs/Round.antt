-- The two calls, one behind the other: a message unfolded and written again is the message, a form written and unfolded again is the form. Assumes nothing.
use mathlib.Core.Path.{◌≡◌, sym, ap, ◌∙◌}
use mathlib.Core.List.{List}
use Prim.Native.Nat.{ℕ, ◌+◌, ◌≤◌, ◌<◌, ◌^◌}
use native.Mathlib.Omega.{arith}
use lib.ListN.{length, take, drop}
use lib.Seq.{sets, sets-eq, take-append_seam}
use Rattle.standard.specs.Bytes.{Bytes}
use Rattle.standard.specs.Serialize.{Val, Ok, serialize}
use Rattle.layout.specs.Table.{table_of}
use Rattle.message.specs.Check.{message_type}
use Rattle.message.specs.Form.{contents, bodies}
use Rattle.message.specs.Unfold.{unfold_message, unfolded_words, unfolded_bytes}
use Rattle.message.proofs.UnfoldTheorem.{unfold_value}
use Rattle.value.specs.Write.{write_message, written_bytes}
use Rattle.std.specs.declared.result.Result.{Result}
use Rattle.value.proofs.Forms.{form-written}

-- What is stored at the start of a buffer with room for it is what its first places hold.
stored-first : (o x : List ℕ) → length x ≤ length o → take (length x) (sets o 0 x) ≡ x
stored-first o x h = ap (take (length x)) (sets-eq x o 0 (omega arith)) ∙ take-append_seam x (drop (0 + length x) o)

-- o and p are the buffers that unfolding fills, q the one that writing fills.
pub written_back :
    (l : List ℕ) (n : ℕ) → Bytes l → table_of l ≡ Result.Ok n → (m : List ℕ) → length m < 2 ^ 32
    → (v : Val (message_type l n)) → Ok (message_type l n) v → serialize (message_type l n) v ≡ m → (o p q : List ℕ)
    → length (contents (message_type l n) v) ≤ length o → length (bodies (message_type l n) v) ≤ length p → length m ≤ length q
    → (c b : List ℕ) → c ≡ take (length (contents (message_type l n) v)) (unfolded_words l m o p)
    → b ≡ take (length (bodies (message_type l n) v)) (unfolded_bytes l m o p)
    → (write_message l c b q ≡ Result.Ok (length m)) × (written_bytes l c b q ≡ sets q 0 m)
written_back l n h e m k v g s o p q i j r c b x y =
    let t = message_type l n in
    let u = unfold_value l n h e m k o p v g s i j in
    let c-is : c ≡ contents t v = x ∙ ap (take (length (contents t v))) u.1 ∙ stored-first o (contents t v) i in
    let b-is : b ≡ bodies t v = y ∙ ap (take (length (bodies t v))) u.2 ∙ stored-first p (bodies t v) j in
    let w = form-written l n h e v g q (rw s k) (rw s r) in
    (rw (c-is, b-is) (rw s at w.0), rw (c-is, b-is) (rw s at w.1))

-- And the other way: the form of a value, written and unfolded again, is the form.
pub unfolded-back :
    (l : List ℕ) (n : ℕ) → Bytes l → table_of l ≡ Result.Ok n → (v : Val (message_type l n)) → Ok (message_type l n) v → (o p q : List ℕ)
    → length (serialize (message_type l n) v) < 2 ^ 32 → length (serialize (message_type l n) v) ≤ length q
    → length (contents (message_type l n) v) ≤ length o → length (bodies (message_type l n) v) ≤ length p
    → (m : List ℕ)
    → m ≡ take (length (serialize (message_type l n) v)) (written_bytes l (contents (message_type l n) v) (bodies (message_type l n) v) q)
    → (unfold_message l m o p ≡ Result.Ok (record { words = length (contents (message_type l n) v); bytes = length (bodies (message_type l n) v) }))
    × (unfolded_words l m o p ≡ sets o 0 (contents (message_type l n) v)) × (unfolded_bytes l m o p ≡ sets p 0 (bodies (message_type l n) v))
unfolded-back l n h e v g o p q small room i j m x =
    let s = serialize (message_type l n) v in
    let w = form-written l n h e v g q small room in
    let m-is : m ≡ s = x ∙ ap (take (length s)) w.1 ∙ stored-first q s room in
    unfold_value l n h e m (rw m-is small) o p v g (sym m-is) i j
