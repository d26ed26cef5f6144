-- The contract of each public function has one answer only, and leaves one content of each buffer lent for writing: said of the postconditions
-- themselves, for the same arguments at entry. Assumes nothing.
use mathlib.Core.Path.{◌≡◌}
use contract.Lifetimes.{Lfts}
use denote.Triple.Clauses.{AtExit}
use borrow.Fn.Kinds.{Dens, res_t, ended_of}
use Rattle.standard.proofs.Only.{Only, only_answer}
use Rattle.decode.proofs.read_offset.Kinds as read_offset_kinds
use Rattle.decode.proofs.read_offset.Reads as read_offset_reads
use Rattle.decode.proofs.sanitize_offset.Kinds as sanitize_offset_kinds
use Rattle.decode.proofs.sanitize_offset.Reads as sanitize_offset_reads
use Rattle.decode.proofs.split_union_bytes.Kinds as split_union_bytes_kinds
use Rattle.decode.proofs.split_union_bytes.Reads as split_union_bytes_reads
use Rattle.decode.proofs.union_selector.UnionSelector.new.Kinds as selector_new_kinds
use Rattle.decode.proofs.union_selector.UnionSelector.new.Reads as selector_new_reads
use Rattle.decode.proofs.union_selector.UnionSelector.get.Kinds as selector_get_kinds
use Rattle.decode.proofs.union_selector.UnionSelector.get.Reads as selector_get_reads
use Rattle.decode.proofs.union_selector.U8FromUnionSelector.from.Kinds as selector_from_kinds
use Rattle.decode.proofs.union_selector.U8FromUnionSelector.from.Reads as selector_from_reads
use Rattle.decode.proofs.builder.Progress.new.Kinds as progress_new_kinds
use Rattle.decode.proofs.builder.Progress.new.Reads as progress_new_reads
use Rattle.decode.proofs.builder.register_head.Kinds as register_head_kinds
use Rattle.decode.proofs.builder.register_head.Reads as register_head_reads
use Rattle.decode.proofs.builder.finalize.Kinds as finalize_kinds
use Rattle.decode.proofs.builder.finalize.Reads as finalize_reads
use Rattle.decode.proofs.decoder.SszDecoderBuilder.new.Kinds as builder_new_kinds
use Rattle.decode.proofs.decoder.SszDecoderBuilder.new.Reads as builder_new_reads
use Rattle.decode.proofs.decoder.SszDecoderBuilder.register_fixed.Kinds as register_fixed_kinds
use Rattle.decode.proofs.decoder.SszDecoderBuilder.register_fixed.Reads as register_fixed_reads
use Rattle.decode.proofs.decoder.SszDecoderBuilder.register_variable.Kinds as register_variable_kinds
use Rattle.decode.proofs.decoder.SszDecoderBuilder.register_variable.Reads as register_variable_reads
use Rattle.decode.proofs.decoder.SszDecoderBuilder.register_type_parameterized.Kinds as register_parameterized_kinds
use Rattle.decode.proofs.decoder.SszDecoderBuilder.register_type_parameterized.Reads as register_parameterized_reads
use Rattle.decode.proofs.decoder.SszDecoderBuilder.build.Kinds as build_kinds
use Rattle.decode.proofs.decoder.SszDecoderBuilder.build.Reads as build_reads
use Rattle.decode.proofs.decoder.SszDecoder.item_told.Kinds as item_told_kinds
use Rattle.decode.proofs.decoder.SszDecoder.item_told.Reads as item_told_reads
use Rattle.decode.proofs.union_body.Kinds as union_body_kinds
use Rattle.decode.proofs.union_body.Reads as union_body_reads
use Rattle.decode.proofs.decoder.SszDecoder.item.Kinds as item_kinds
use Rattle.decode.proofs.decoder.SszDecoder.item.Reads as item_reads

pub read_offset_only : Only read_offset_kinds.ps read_offset_kinds.r read_offset_reads.Post
read_offset_only κs a x y e f p q = only_answer _ x y p q

pub sanitize_offset_only : Only sanitize_offset_kinds.ps sanitize_offset_kinds.r sanitize_offset_reads.Post
sanitize_offset_only κs a x y e f p q = only_answer _ x y p q

pub split_union_bytes_only : Only split_union_bytes_kinds.ps split_union_bytes_kinds.r split_union_bytes_reads.Post
split_union_bytes_only κs a x y e f p q = only_answer _ x y p q

pub selector_new_only : Only selector_new_kinds.ps selector_new_kinds.r selector_new_reads.Post
selector_new_only κs a x y e f p q = only_answer _ x y p q

pub selector_get_only : Only selector_get_kinds.ps selector_get_kinds.r selector_get_reads.Post
selector_get_only κs a x y e f p q = only_answer _ x y p q

pub selector_from_only : Only selector_from_kinds.ps selector_from_kinds.r selector_from_reads.Post
selector_from_only κs a x y e f p q = only_answer _ x y p q

pub progress_new_only : Only progress_new_kinds.ps progress_new_kinds.r progress_new_reads.Post
progress_new_only κs a x y e f p q = only_answer _ x y p q

pub register_head_only : Only register_head_kinds.ps register_head_kinds.r register_head_reads.Post
register_head_only κs a x y e f p q = only_answer _ x y p q

pub finalize_only : Only finalize_kinds.ps finalize_kinds.r finalize_reads.Post
finalize_only κs a x y e f p q = only_answer _ x y p q

pub builder_new_only : Only builder_new_kinds.ps builder_new_kinds.r builder_new_reads.Post
builder_new_only κs a x y e f p q = only_answer _ x y p q

pub register_fixed_only : Only register_fixed_kinds.ps register_fixed_kinds.r register_fixed_reads.Post
register_fixed_only κs a x y e f p q = only_answer _ x y p q

pub register_variable_only : Only register_variable_kinds.ps register_variable_kinds.r register_variable_reads.Post
register_variable_only κs a x y e f p q = only_answer _ x y p q

pub register_parameterized_only : Only register_parameterized_kinds.ps register_parameterized_kinds.r register_parameterized_reads.Post
register_parameterized_only κs a x y e f p q = only_answer _ x y p q

pub build_only : Only build_kinds.ps build_kinds.r build_reads.Post
build_only κs a x y e f p q = only_answer _ x y p q

pub item_told_only : Only item_told_kinds.ps item_told_kinds.r item_told_reads.Post
item_told_only κs a x y e f p q = only_answer _ x y p q

pub union_body_only :
    (κs : Lfts 1) (a : Dens κs union_body_kinds.ps) (x y : (res_t union_body_kinds.r κs).Denot)
    (e f : AtExit (ended_of 1 union_body_kinds.ps union_body_kinds.r) κs)
    → union_body_reads.Post κs a x e → union_body_reads.Post κs a y f → x.now ≡ y.now
union_body_only κs a x y e f p q = only_answer _ _ _ p q

pub item_only :
    (κs : Lfts 1) (a : Dens κs item_kinds.ps) (x y : (res_t item_kinds.r κs).Denot) (e f : AtExit (ended_of 1 item_kinds.ps item_kinds.r) κs)
    → item_reads.Post κs a x e → item_reads.Post κs a y f → x.now ≡ y.now
item_only κs a x y e f p q = only_answer _ _ _ p q
