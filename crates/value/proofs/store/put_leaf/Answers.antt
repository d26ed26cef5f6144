-- By the kind. Assumes nothing.
use Rattle.std.proofs.Common.{arith}
use Rattle.value.proofs.Leaves.{kind_free, kind-bits, kind-word, part_need, part-done, list_need_lem, list_done}
use Rattle.value.proofs.store.put_leaf.Goals as goal

pub offset_bounds-form-at : goal.offset_bounds-form-at
offset_bounds-form-at c = omega (arith, kind-word _ c.requires.0 _ _ _ _ c.requires.1)

pub bounds-form-at : goal.bounds-form-at
bounds-form-at c = kind-word _ c.requires.0 _ _ _ _ c.requires.1

pub next_word-body-requires : goal.next_word-body-requires
next_word-body-requires c = omega (arith, kind-word _ c.requires.0 _ _ _ _ c.requires.1)

pub put_part-requires : goal.put_part-requires
put_part-requires c =
    rw c.next_word-body.ensures (part_need (kind_free _ c.requires.0 _ _ _ _ c.requires.1 c.in-FreeBytes.is) c.requires.2)

pub returns-in-FreeBytes : goal.returns-in-FreeBytes
returns-in-FreeBytes c =
    part-done (kind_free _ c.requires.0 _ _ _ _ c.requires.1 c.in-FreeBytes.is) (rw c.next_word-body.ensures at c.put_part.ensures)

pub put_list-requires : goal.put_list-requires
put_list-requires c =
    rw c.next_word-body.ensures (list_need_lem (kind-bits _ c.requires.0 _ _ _ _ c.requires.1 c.in_default.not-FreeBytes) c.requires.2)

pub returns-in_default : goal.returns-in_default
returns-in_default c =
    list_done (kind-bits _ c.requires.0 _ _ _ _ c.requires.1 c.in_default.not-FreeBytes) (rw c.next_word-body.ensures at c.put_list.ensures)
