-- The contract of each public function has one answer only, and leaves one content of each buffer lent for writing: said of the postconditions
-- themselves, for the same arguments at entry, and of the generic ones for every behaviour. Assumes nothing.
use mathlib.Core.Path.{◌≡◌}
use contract.Lifetimes.{Lfts}
use denote.Param.Laws.{Laws}
use denote.RattleType.{RattleType}
use denote.Triple.Clauses.{AtExit}
use mir.Syntax.{Dict}
use borrow.Fn.Kinds.{Dens, res_t, ended_of}
use Rattle.standard.proofs.Only.{Only, only_answer}
use Rattle.bitfield.specs.declared.BitfieldBehaviour.{Ghosts}
use Rattle.bitfield.proofs.body.bitlist_body.Kinds as bitlist_body_kinds
use Rattle.bitfield.proofs.body.bitlist_body.Reads as bitlist_body_reads
use Rattle.bitfield.proofs.body.bitvector_body.Kinds as bitvector_body_kinds
use Rattle.bitfield.proofs.body.bitvector_body.Reads as bitvector_body_reads
use Rattle.bitfield.proofs.Bitfield.from_parts.Kinds as from_parts_kinds
use Rattle.bitfield.proofs.Bitfield.from_parts.Reads as from_parts_reads
use Rattle.bitfield.proofs.Bitfield.intersection.Kinds as intersection_kinds
use Rattle.bitfield.proofs.Bitfield.intersection.Reads as intersection_reads
use Rattle.bitfield.proofs.Bitfield.union.Kinds as union_kinds
use Rattle.bitfield.proofs.Bitfield.union.Reads as union_reads
use Rattle.bitfield.proofs.Bitfield.difference.Kinds as difference_kinds
use Rattle.bitfield.proofs.Bitfield.difference.Reads as difference_reads
use Rattle.bitfield.proofs.Bitfield.is_subset.Kinds as is_subset_kinds
use Rattle.bitfield.proofs.Bitfield.is_subset.Reads as is_subset_reads
use Rattle.bitfield.proofs.Bitfield.set.Kinds as set_kinds
use Rattle.bitfield.proofs.Bitfield.set.Reads as set_reads
use Rattle.bitfield.proofs.Bitfield.get.Kinds as get_kinds
use Rattle.bitfield.proofs.Bitfield.get.Reads as get_reads
use Rattle.bitfield.proofs.Bitfield.highest_set_bit.Kinds as highest_set_bit_kinds
use Rattle.bitfield.proofs.Bitfield.highest_set_bit.Reads as highest_set_bit_reads
use Rattle.bitfield.proofs.Bitfield.is_zero.Kinds as is_zero_kinds
use Rattle.bitfield.proofs.Bitfield.is_zero.Reads as is_zero_reads
use Rattle.bitfield.proofs.Bitfield.num_set_bits.Kinds as num_set_bits_kinds
use Rattle.bitfield.proofs.Bitfield.num_set_bits.Reads as num_set_bits_reads
use Rattle.bitfield.proofs.Bitfield.not.Kinds as not_kinds
use Rattle.bitfield.proofs.Bitfield.not.Reads as not_reads
use Rattle.bitfield.proofs.Bitfield.shift_up.Kinds as shift_up_kinds
use Rattle.bitfield.proofs.Bitfield.shift_up.Reads as shift_up_reads
use Rattle.bitfield.proofs.list.Bitfield+Variable.with_capacity.Kinds as list_with_capacity_kinds
use Rattle.bitfield.proofs.list.Bitfield+Variable.with_capacity.Reads as list_with_capacity_reads
use Rattle.bitfield.proofs.list.Bitfield+Variable.resize.Kinds as list_resize_kinds
use Rattle.bitfield.proofs.list.Bitfield+Variable.resize.Reads as list_resize_reads
use Rattle.bitfield.proofs.list.Bitfield+Variable.clone_zeroed.Kinds as list_clone_zeroed_kinds
use Rattle.bitfield.proofs.list.Bitfield+Variable.clone_zeroed.Reads as list_clone_zeroed_reads
use Rattle.bitfield.proofs.list.Bitfield+Variable.from_bytes.Kinds as list_from_bytes_kinds
use Rattle.bitfield.proofs.list.Bitfield+Variable.from_bytes.Reads as list_from_bytes_reads
use Rattle.bitfield.proofs.list.Bitfield+Variable.into_bytes.Kinds as list_into_bytes_kinds
use Rattle.bitfield.proofs.list.Bitfield+Variable.into_bytes.Reads as list_into_bytes_reads
use Rattle.bitfield.proofs.vector.Bitfield+Fixed.new.Kinds as vector_new_kinds
use Rattle.bitfield.proofs.vector.Bitfield+Fixed.new.Reads as vector_new_reads
use Rattle.bitfield.proofs.vector.Bitfield+Fixed.from_bytes.Kinds as vector_from_bytes_kinds
use Rattle.bitfield.proofs.vector.Bitfield+Fixed.from_bytes.Reads as vector_from_bytes_reads
use Rattle.bitfield.proofs.vector.Bitfield+Fixed.into_bytes.Kinds as vector_into_bytes_kinds
use Rattle.bitfield.proofs.vector.Bitfield+Fixed.into_bytes.Reads as vector_into_bytes_reads

pub bitlist_body_only : Only bitlist_body_kinds.ps bitlist_body_kinds.r bitlist_body_reads.Post
bitlist_body_only κs a x y e f p q = only_answer _ x y p q

pub bitvector_body_only : Only bitvector_body_kinds.ps bitvector_body_kinds.r bitvector_body_reads.Post
bitvector_body_only κs a x y e f p q = only_answer _ x y p q

-- Whatever the behaviour
module _ (T : RattleType) (L : Laws T) (behaviour : Ghosts T.Denot) (dict : Dict) where
  pub from_parts_only : Only (from_parts_kinds.ps T L) (from_parts_kinds.r T L) (from_parts_reads.Post T L behaviour dict)
  from_parts_only κs a x y e f p q = only_answer _ x y p q

  pub intersection_only : Only (intersection_kinds.ps T L) (intersection_kinds.r T L) (intersection_reads.Post T L behaviour dict)
  intersection_only κs a x y e f p q = only_answer _ x y p q

  pub union_only : Only (union_kinds.ps T L) (union_kinds.r T L) (union_reads.Post T L behaviour dict)
  union_only κs a x y e f p q = only_answer _ x y p q

  pub difference_only : Only (difference_kinds.ps T L) (difference_kinds.r T L) (difference_reads.Post T L behaviour dict)
  difference_only κs a x y e f p q = only_answer _ x y p q

  pub is_subset_only : Only (is_subset_kinds.ps T L) (is_subset_kinds.r T L) (is_subset_reads.Post T L behaviour dict)
  is_subset_only κs a x y e f p q = only_answer _ x y p q

  pub set_only : Only (set_kinds.ps T L) (set_kinds.r T L) (set_reads.Post T L behaviour dict)
  set_only κs a x y e f p q = only_answer _ x y p q

  pub get_only : Only (get_kinds.ps T L) (get_kinds.r T L) (get_reads.Post T L behaviour dict)
  get_only κs a x y e f p q = only_answer _ x y p q

  pub highest_set_bit_only : Only (highest_set_bit_kinds.ps T L) (highest_set_bit_kinds.r T L) (highest_set_bit_reads.Post T L behaviour dict)
  highest_set_bit_only κs a x y e f p q = only_answer _ x y p q

  pub is_zero_only : Only (is_zero_kinds.ps T L) (is_zero_kinds.r T L) (is_zero_reads.Post T L behaviour dict)
  is_zero_only κs a x y e f p q = only_answer _ x y p q

  pub num_set_bits_only : Only (num_set_bits_kinds.ps T L) (num_set_bits_kinds.r T L) (num_set_bits_reads.Post T L behaviour dict)
  num_set_bits_only κs a x y e f p q = only_answer _ x y p q

  pub not_only : Only (not_kinds.ps T L) (not_kinds.r T L) (not_reads.Post T L behaviour dict)
  not_only κs a x y e f p q = only_answer _ x y p q

  pub shift_up_only : Only (shift_up_kinds.ps T L) (shift_up_kinds.r T L) (shift_up_reads.Post T L behaviour dict)
  shift_up_only κs a x y e f p q = only_answer _ x y p q

pub list_with_capacity_only : Only list_with_capacity_kinds.ps list_with_capacity_kinds.r list_with_capacity_reads.Post
list_with_capacity_only κs a x y e f p q = only_answer _ x y p q

pub list_resize_only : Only list_resize_kinds.ps list_resize_kinds.r list_resize_reads.Post
list_resize_only κs a x y e f p q = only_answer _ x y p q

pub list_clone_zeroed_only : Only list_clone_zeroed_kinds.ps list_clone_zeroed_kinds.r list_clone_zeroed_reads.Post
list_clone_zeroed_only κs a x y e f p q = only_answer _ x y p q

pub list_from_bytes_only : Only list_from_bytes_kinds.ps list_from_bytes_kinds.r list_from_bytes_reads.Post
list_from_bytes_only κs a x y e f p q = only_answer _ x y p q

pub list_into_bytes_only : Only list_into_bytes_kinds.ps list_into_bytes_kinds.r list_into_bytes_reads.Post
list_into_bytes_only κs a x y e f p q = only_answer _ x y p.0 q.0

pub vector_new_only : Only vector_new_kinds.ps vector_new_kinds.r vector_new_reads.Post
vector_new_only κs a x y e f p q = only_answer _ x y p q

pub vector_from_bytes_only : Only vector_from_bytes_kinds.ps vector_from_bytes_kinds.r vector_from_bytes_reads.Post
vector_from_bytes_only κs a x y e f p q = only_answer _ x y p q

pub vector_into_bytes_only : Only vector_into_bytes_kinds.ps vector_into_bytes_kinds.r vector_into_bytes_reads.Post
vector_into_bytes_only κs a x y e f p q = only_answer _ x y p.0 q.0

pub list_into_bytes_leaves :
    (κs : Lfts 1) (a : Dens κs list_into_bytes_kinds.ps) (x y : (res_t list_into_bytes_kinds.r κs).Denot)
    (e f : AtExit (ended_of 1 list_into_bytes_kinds.ps list_into_bytes_kinds.r) κs)
    → list_into_bytes_reads.Post κs a x e → list_into_bytes_reads.Post κs a y f → e.1.0.now ≡ f.1.0.now
list_into_bytes_leaves κs a x y e f p q = only_answer _ _ _ p.1 q.1

pub vector_into_bytes_leaves :
    (κs : Lfts 1) (a : Dens κs vector_into_bytes_kinds.ps) (x y : (res_t vector_into_bytes_kinds.r κs).Denot)
    (e f : AtExit (ended_of 1 vector_into_bytes_kinds.ps vector_into_bytes_kinds.r) κs)
    → vector_into_bytes_reads.Post κs a x e → vector_into_bytes_reads.Post κs a y f → e.1.0.now ≡ f.1.0.now
vector_into_bytes_leaves κs a x y e f p q = only_answer _ _ _ p.1 q.1
