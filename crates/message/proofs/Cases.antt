-- Document 01's twelve proved cases ("Worked bids") in one table under one statement, and document 02's refusals of lists and vectors in another; the
-- listing, the value form, the pieces and the leaves of P; all by computation. Assumes nothing.
use mathlib.Core.Path.{◌≡◌, refl}
use mathlib.Core.Logic.{inl}
use mathlib.Core.List.{List, [], ◌∷◌, ◌++◌}
use mathlib.Core.Bool.{true, false}
use Prim.Native.Nat.{ℕ}
use lib.ListN.{take}
use Rattle.standard.specs.Bytes.{le, num, num_at, word_at}
use Rattle.standard.specs.Types.{Ty, number, free_bytes, bit_list, container, union, end, field, over, body, head, heads, joined, times, width, portion}
use Rattle.standard.specs.Parts.{next, fixed_lengths, fronts, backs, join}
use Rattle.standard.specs.Bits.{bit_num, packs, pack, marked}
use Rattle.standard.specs.Serialize.{Val, serialize}
use Rattle.standard.specs.Pieces.{offset_word, selector_byte, leaf_body, pieces}
use Rattle.standard.specs.declared.Refusal.TheVariants.{InvalidByteLength, InvalidLengthPrefix, OffsetIntoFixedPortion, OffsetSkipsVariableBytes, OffsetsAreDecreasing, OffsetOutOfBounds, OutOfBounds, MissingLengthInformation, ExcessBits, InvalidByteCount, OverLimit, InvalidListFixedBytesLen}
use Rattle.standard.proofs.Bits.{bits_of}
use Rattle.decode.specs.Builder.{step, register, build, lay_out_lem}
use Rattle.bitfield.specs.Body.{highest, bit_list_body}
use Rattle.layout.specs.Kinds.{kind_of}
use Rattle.layout.specs.Tree.{node_of, leaf_of, from_node, fields, options, trees, tree_of}
use Rattle.layout.specs.Table.{count, refs, counted, many, container_end_lem, list_end_lem, vector_end_lem, leaf_end_lem, body_end_lem, types_end_lem, types_of, table_of}
use Rattle.message.specs.Read.{further, elements, vector_told_lem, read_each, read_item}
use Rattle.message.specs.Listing.{entry, list_item_lem}
use Rattle.message.specs.Leaves.{Item, items_in, leaves_of, leaf_pieces}
use Rattle.message.specs.Check.{message_type, check_message}
use Rattle.message.specs.Unfold.{raw_of, unfold_words, unfold_bytes}
use Rattle.std.specs.declared.result.Result.{Result}
use Rattle.std.specs.declared.result.Result.TheVariants.{Ok, Err}
use Rattle.message.specs.declared.RefusedAt.{RefusedAt}
use Rattle.message.specs.declared.Counts.{Counts}
use Rattle.message.specs.Read.{located}

-- The bytes of some words
bytes_of : List ℕ → List ℕ
bytes_of [] = []
bytes_of (w ∷ ws) = le 4 w ++ bytes_of ws

-- Layout L: a number of 8 bytes, free bytes to 16, bits to 8, a container of the three
layout_l : List ℕ
layout_l = bytes_of (4 ∷ 5 ∷ 7 ∷ 9 ∷ 11 ∷ 0 ∷ 8 ∷ 3 ∷ 16 ∷ 5 ∷ 8 ∷ 6 ∷ 3 ∷ 0 ∷ 1 ∷ 2 ∷ [])

-- One type, a bit list of at most four bits
bits4 : List ℕ
bits4 = bytes_of (1 ∷ 2 ∷ 5 ∷ 4 ∷ [])

-- Message P with its two offsets set to a and b
offsets : ℕ → ℕ → List ℕ
offsets a b = (0x2a ∷ 0 ∷ 0 ∷ 0 ∷ 0 ∷ 0 ∷ 0 ∷ 0 ∷ []) ++ le 4 a ++ le 4 b ++ (0x0a ∷ 0x0b ∷ 0x0c ∷ 0x0d ∷ [])

message_p : List ℕ
message_p = offsets 16 19

-- A case: the layout and the message, and the answer
record Case : Type 0 where
  layout : List ℕ
  message : List ℕ
  answer : Result Counts RefusedAt

cases : List Case
cases =
    record { layout = layout_l; message = message_p; answer = Ok (record { records = 4; words = 2; bytes = 12 }) }
    ∷ record { layout = layout_l; message = []; answer = Err (located (InvalidByteLength 0 8) 3 0) }
    ∷ record { layout = layout_l; message = take 10 message_p; answer = Err (located (InvalidLengthPrefix 2 4) 3 0) }
    ∷ record { layout = layout_l; message = offsets 15 19; answer = Err (located (OffsetIntoFixedPortion 15) 3 0) }
    ∷ record { layout = layout_l; message = offsets 17 19; answer = Err (located (OffsetSkipsVariableBytes 17) 3 0) }
    ∷ record { layout = layout_l; message = offsets 200 19; answer = Err (located (OffsetOutOfBounds 200) 3 0) }
    ∷ record { layout = layout_l; message = offsets 19 18; answer = Err (located (OffsetsAreDecreasing 18) 3 0) }
    ∷ record { layout = layout_l; message = offsets 16 20; answer = Err (located ExcessBits 2 20) }
    ∷ record { layout = bits4; message = 0x10 ∷ []; answer = Ok (record { records = 1; words = 1; bytes = 1 }) }
    ∷ record { layout = bits4; message = 0x20 ∷ []; answer = Err (located (OutOfBounds 4 4) 0 0) }
    ∷ record { layout = bits4; message = 0x01 ∷ 0x00 ∷ []; answer = Err (located (InvalidByteCount 2 1) 0 0) }
    ∷ record { layout = bits4; message = 0x00 ∷ []; answer = Err (located MissingLengthInformation 0 0) }
    ∷ []

Holds : List Case → Type 0
Holds [] = Unit {0}
Holds (x ∷ xs) = (check_message x.layout x.message ≡ x.answer) × Holds xs

cases_hold : Holds cases
unfolding Holds cases message_p offsets layout_l bits4 bytes_of le num num_at word_at head heads joined width portion next kind_of node_of leaf_of from_node fields
    options trees tree_of step register build lay_out_lem bits_of highest bit_list_body read_item count refs counted many container_end_lem leaf_end_lem body_end_lem types_end_lem types_of table_of
    check_message
cases_hold = (refl, (refl, (refl, (refl, (refl, (refl, (refl, (refl, (refl, (refl, (refl, (refl, tt))))))))))))

-- Lists and vectors: at most three numbers of two bytes; at most three free bytes to 4; two of each
numbers : List ℕ
numbers = bytes_of (2 ∷ 3 ∷ 5 ∷ 0 ∷ 2 ∷ 8 ∷ 0 ∷ 3 ∷ [])

texts : List ℕ
texts = bytes_of (2 ∷ 3 ∷ 5 ∷ 3 ∷ 4 ∷ 8 ∷ 0 ∷ 3 ∷ [])

pair : List ℕ
pair = bytes_of (2 ∷ 3 ∷ 5 ∷ 0 ∷ 2 ∷ 9 ∷ 0 ∷ 2 ∷ [])

two_texts : List ℕ
two_texts = bytes_of (2 ∷ 3 ∷ 5 ∷ 3 ∷ 4 ∷ 9 ∷ 0 ∷ 2 ∷ [])

-- Each refusal of document 02 [1], in its order, beside what is accepted
element_cases : List Case
element_cases =
    record { layout = pair; message = 1 ∷ 0 ∷ 2 ∷ 0 ∷ []; answer = Ok (record { records = 3; words = 0; bytes = 4 }) }
    ∷ record { layout = pair; message = 1 ∷ 0 ∷ 2 ∷ []; answer = Err (located (InvalidByteLength 3 4) 1 0) }
    ∷ record { layout = numbers; message = []; answer = Ok (record { records = 1; words = 1; bytes = 0 }) }
    ∷ record { layout = numbers; message = 1 ∷ 0 ∷ 2 ∷ 0 ∷ []; answer = Ok (record { records = 3; words = 1; bytes = 4 }) }
    ∷ record { layout = numbers; message = 1 ∷ 0 ∷ 2 ∷ []; answer = Err (located (InvalidByteLength 3 2) 1 0) }
    ∷ record { layout = numbers; message = 1 ∷ 0 ∷ 2 ∷ 0 ∷ 3 ∷ 0 ∷ 4 ∷ 0 ∷ []; answer = Err (located (OverLimit 4 3) 1 0) }
    ∷ record { layout = texts; message = []; answer = Ok (record { records = 1; words = 1; bytes = 0 }) }
    ∷ record { layout = texts; message = bytes_of (8 ∷ 9 ∷ []) ++ (10 ∷ 11 ∷ []); answer = Ok (record { records = 3; words = 3; bytes = 2 }) }
    ∷ record { layout = texts; message = 4 ∷ 0 ∷ 0 ∷ []; answer = Err (located (InvalidLengthPrefix 3 4) 1 0) }
    ∷ record { layout = texts; message = bytes_of (5 ∷ []); answer = Err (located (OffsetOutOfBounds 5) 1 0) }
    ∷ record { layout = texts; message = bytes_of (0 ∷ []); answer = Err (located (InvalidListFixedBytesLen 0) 1 0) }
    ∷ record { layout = texts; message = bytes_of (6 ∷ []) ++ (0 ∷ 0 ∷ []); answer = Err (located (InvalidListFixedBytesLen 6) 1 0) }
    ∷ record { layout = texts; message = bytes_of (16 ∷ 0 ∷ 0 ∷ 0 ∷ []); answer = Err (located (OverLimit 4 3) 1 0) }
    ∷ record { layout = texts; message = bytes_of (8 ∷ 7 ∷ []); answer = Err (located (OffsetIntoFixedPortion 7) 1 0) }
    ∷ record { layout = texts; message = bytes_of (8 ∷ 9 ∷ []); answer = Err (located (OffsetOutOfBounds 9) 1 0) }
    ∷ record { layout = texts; message = bytes_of (12 ∷ 14 ∷ 13 ∷ []) ++ (0 ∷ 0 ∷ []); answer = Err (located (OffsetsAreDecreasing 13) 1 0) }
    ∷ record { layout = texts; message = bytes_of (4 ∷ []) ++ (0 ∷ 0 ∷ 0 ∷ 0 ∷ 0 ∷ []); answer = Err (located (OverLimit 5 4) 0 4) }
    ∷ record { layout = two_texts; message = bytes_of (8 ∷ 8 ∷ []); answer = Ok (record { records = 3; words = 2; bytes = 0 }) }
    ∷ record { layout = two_texts; message = bytes_of (7 ∷ 8 ∷ []); answer = Err (located (OffsetIntoFixedPortion 7) 1 0) }
    ∷ record { layout = two_texts; message = bytes_of (8 ∷ []); answer = Err (located (OffsetOutOfBounds 8) 1 0) }
    ∷ []

element-cases_hold : Holds element_cases
unfolding Holds element_cases numbers texts pair two_texts bytes_of le num num_at word_at head heads joined times width portion next kind_of node_of leaf_of
    from_node fields options trees tree_of step register build lay_out_lem further elements vector_told_lem read_each read_item count refs counted many container_end_lem
    list_end_lem vector_end_lem leaf_end_lem body_end_lem types_end_lem types_of table_of check_message
element-cases_hold =
    (refl, (refl, (refl, (refl, (refl, (refl, (refl, (refl, (refl, (refl, (refl, (refl, (refl, (refl, (refl, (refl, (refl, (refl, (refl, (refl, tt))))))))))))))))))))

-- "For L and P it prints only": type, start and end of each item
listed : list_item_lem (tree_of layout_l 3) message_p 0 ≡ bytes_of (3 ∷ 0 ∷ 20 ∷ 0 ∷ 0 ∷ 8 ∷ 1 ∷ 16 ∷ 19 ∷ 2 ∷ 19 ∷ 20 ∷ [])
unfolding message_p offsets layout_l bytes_of le num num_at word_at head heads joined width portion next kind_of node_of leaf_of from_node fields options trees
    tree_of entry list_item_lem
listed = refl

-- Case (9) is the serialization of four zeros, and by `message-one` of nothing else.
four-zeros : (message_type bits4 1 ≡ bit_list 0 4) × (serialize (bit_list 0 4) (false ∷ false ∷ false ∷ false ∷ []) ≡ 0x10 ∷ [])
unfolding bits4 bytes_of le num num_at word_at kind_of node_of leaf_of from_node trees tree_of bit_num packs pack marked serialize
four-zeros = (refl, refl)

-- The value form of P: three free bytes, three bits without their mark
unfolded : (unfold_words (tree_of layout_l 3) message_p ≡ 3 ∷ 3 ∷ []) ×
    (unfold_bytes (tree_of layout_l 3) message_p ≡ 0x2a ∷ 0 ∷ 0 ∷ 0 ∷ 0 ∷ 0 ∷ 0 ∷ 0 ∷ 0x0a ∷ 0x0b ∷ 0x0c ∷ 0x05 ∷ [])
unfolding message_p offsets layout_l bytes_of le num num_at word_at head heads joined width portion next kind_of node_of leaf_of from_node fields options trees
    tree_of bits_of bit_num packs highest bit_list_body raw_of unfold_words unfold_bytes
unfolded = (refl, refl)

-- The value of P, and its pieces: the number's body, the two offsets, each with the field that it says behind it
type_p : Ty
type_p = container 3 (field (number 0 8) (field (free_bytes 1 16) (field (bit_list 2 8) end)))

value_p : Val type_p
unfolding type_p
value_p = (42, (0x0a ∷ 0x0b ∷ 0x0c ∷ [], (true ∷ false ∷ true ∷ [], tt)))

of-P : (message_type layout_l 4 ≡ type_p) × (serialize type_p value_p ≡ message_p)
unfolding message_p offsets layout_l type_p value_p bytes_of le num num_at word_at head heads joined kind_of node_of leaf_of from_node fields options trees tree_of
    bit_num packs pack marked fixed_lengths fronts backs join serialize
of-P = (refl, refl)

pieces-P :
    pieces type_p value_p 0
    ≡ record { kind = leaf_body 0; from = 0; to = 8; bytes = 0x2a ∷ 0 ∷ 0 ∷ 0 ∷ 0 ∷ 0 ∷ 0 ∷ 0 ∷ [] }
    ∷ record { kind = offset_word; from = 8; to = 12; bytes = 16 ∷ 0 ∷ 0 ∷ 0 ∷ [] }
    ∷ record { kind = leaf_body 1; from = 16; to = 19; bytes = 0x0a ∷ 0x0b ∷ 0x0c ∷ [] }
    ∷ record { kind = offset_word; from = 12; to = 16; bytes = 19 ∷ 0 ∷ 0 ∷ 0 ∷ [] }
    ∷ record { kind = leaf_body 2; from = 19; to = 20; bytes = 0x0d ∷ [] }
    ∷ []
unfolding type_p value_p le head joined bit_num packs pack marked fixed_lengths serialize pieces
pieces-P = refl

-- The leaves of P, among the four records of its listing and among its pieces
leaves_p : List Item
leaves_p =
    record { type = 0; from = 0; to = 8 }
    ∷ record { type = 1; from = 16; to = 19 }
    ∷ record { type = 2; from = 19; to = 20 }
    ∷ []

leaves-P : (leaves_of layout_l (items_in 4 (list_item_lem (tree_of layout_l 3) message_p 0)) ≡ leaves_p) × (leaf_pieces (pieces type_p value_p 0) ≡ leaves_p)
unfolding message_p offsets layout_l bytes_of le num num_at word_at head heads joined width portion next kind_of node_of leaf_of from_node fields options trees
    tree_of entry list_item_lem items_in leaves_of type_p value_p bit_num packs pack marked fixed_lengths serialize pieces leaf_pieces leaves_p
leaves-P = (refl, refl)

-- A container in a union: the selector comes first, and the offset counts from the container's start, not the message's
in_union : Ty
in_union = union 2 (body 0 (container 1 (field (free_bytes 0 4) end)) over)

body_in_union : Val in_union
unfolding in_union
body_in_union = inl ((7 ∷ []), tt)

pieces_nested :
    pieces in_union body_in_union 0
    ≡ record { kind = selector_byte; from = 0; to = 1; bytes = 0 ∷ [] }
    ∷ record { kind = offset_word; from = 1; to = 5; bytes = 4 ∷ 0 ∷ 0 ∷ 0 ∷ [] }
    ∷ record { kind = leaf_body 0; from = 5; to = 6; bytes = 7 ∷ [] }
    ∷ []
unfolding in_union body_in_union le head joined fixed_lengths serialize pieces
pieces_nested = refl
