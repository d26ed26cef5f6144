-- The offset words, selector bytes and leaf bodies of an accepted message tile it. Assumes nothing.
--     message-tiled    of the call: from its acceptance alone, for every layout and message
use mathlib.Core.Path.{◌≡◌, refl}
use mathlib.Core.List.{List}
use Prim.Native.Nat.{ℕ, ◌≤◌, ◌<◌, ◌^◌}
use native.Mathlib.Omega.{arith}
use borrow.Author.Tests.{ltb-false}
use lib.ListN.{length}
use lib.Dec.{ltb}
use Rattle.standard.specs.Bytes.{Bytes}
use Rattle.standard.specs.Serialize.{Val, Ok, serialize}
use Rattle.standard.specs.Pieces.{pieces, covers, AllStandIn}
use Rattle.standard.proofs.Pieces.{tiled, untiled, all_stand}
use Rattle.layout.specs.Table.{table_of}
use Rattle.message.specs.Check.{message_type, under_table_lem, check_message}
use Rattle.message.specs.declared.Counts.{Counts}
use Rattle.message.proofs.Answers.{not_accepted, right_accepted}
use Rattle.message.proofs.Theorem.{message_iff, message-one}
use Rattle.std.specs.declared.result.Result.{Result}
use Rattle.std.specs.declared.result.Result.TheVariants.{Err}
use Rattle.standard.specs.declared.Refusal.{Refusal}

-- What is said of a message m that is accepted under the layout l: the layout is legal and has so many types, the message is below 2^32 bytes, it is the
-- encoding of one value within bounds and of no other, and that value's pieces tile it.
pub record Tiled (l m : List ℕ) : Type 0 where
  pub types : ℕ
  pub legal : table_of l ≡ Result.Ok types
  pub small : length m < 2 ^ 32
  pub value : Val (message_type l types)
  pub in_bounds : Ok (message_type l types) value
  pub encoded : serialize (message_type l types) value ≡ m
  pub only_value : (w : Val (message_type l types)) → Ok (message_type l types) w → serialize (message_type l types) w ≡ m → w ≡ value
  pub in_exactly_one : (x : ℕ) → x < length m → covers x (pieces (message_type l types) value 0) ≡ 1
  pub in_none_behind : (x : ℕ) → length m ≤ x → covers x (pieces (message_type l types) value 0) ≡ 0
  -- within the message, and with the message's own bytes
  pub each_within : AllStandIn m (pieces (message_type l types) value 0)

-- Acceptance says that the layout is legal and the message not too long.
under-accepted : (d : Result ℕ Refusal) (l m : List ℕ) (c : Counts) → under_table_lem d l m ≡ Result.Ok c → (n : ℕ) × (d ≡ Result.Ok n) × (length m < 2 ^ 32)
under-accepted (Err r) l m c e = not_accepted _ c e
under-accepted (Result.Ok n) l m c e =
    let p = right_accepted (ltb 4294967295 (length m)) _ _ c e in
    (n, refl, omega (arith, ltb-false 4294967295 (length m) p.0))

pub message-tiled : (l m : List ℕ) → Bytes l → Bytes m → (c : Counts) → check_message l m ≡ Result.Ok c → Tiled l m
unfolding check_message
message-tiled l m h i c e =
    let u = under-accepted (table_of l) l m c e in
    let n = u.0 in
    let v = (message_iff l n h u.1 m u.2 i).0 (c, e) in
    let t = message_type l n in
    record {
      types = n;
      legal = u.1;
      small = u.2;
      value = v.0;
      in_bounds = v.1;
      encoded = v.2;
      only_value = λ w o s. message-one l n h u.1 m u.2 w v.0 o v.1 s v.2;
      in_exactly_one = λ x k. tiled t v.0 x (rw v.2 k);
      in_none_behind = λ x k. untiled t v.0 x (rw v.2 k);
      each_within = rw v.2 at (all_stand t v.0);
    }
