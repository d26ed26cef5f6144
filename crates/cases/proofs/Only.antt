-- The contract of each public function has one answer only, and leaves one content of each buffer lent for writing: said of the postconditions
-- themselves, for the same arguments at entry. Assumes nothing.
use mathlib.Core.Path.{◌≡◌}
use contract.Lifetimes.{Lfts}
use denote.Triple.Clauses.{AtExit}
use borrow.Fn.Kinds.{Dens, res_t, ended_of}
use Rattle.standard.proofs.Only.{Only, only_answer}
use Rattle.cases.proofs.part_end.Kinds as part_end_kinds
use Rattle.cases.proofs.part_end.Reads as part_end_reads
use Rattle.cases.proofs.record_end.Kinds as record_end_kinds
use Rattle.cases.proofs.record_end.Reads as record_end_reads
use Rattle.cases.proofs.number_at.Kinds as number_at_kinds
use Rattle.cases.proofs.number_at.Reads as number_at_reads
use Rattle.cases.proofs.number.Kinds as number_kinds
use Rattle.cases.proofs.number.Reads as number_reads
use Rattle.cases.proofs.is_number.Kinds as is_number_kinds
use Rattle.cases.proofs.is_number.Reads as is_number_reads
use Rattle.cases.proofs.head_matches.Kinds as head_matches_kinds
use Rattle.cases.proofs.head_matches.Reads as head_matches_reads
use Rattle.cases.proofs.refusal_matches.Kinds as refusal_matches_kinds
use Rattle.cases.proofs.refusal_matches.Reads as refusal_matches_reads
use Rattle.cases.proofs.is_formed.Kinds as is_formed_kinds
use Rattle.cases.proofs.is_formed.Reads as is_formed_reads
use Rattle.cases.proofs.VerdictFromBool.from.Kinds as told_kinds
use Rattle.cases.proofs.VerdictFromBool.from.Reads as told_reads
use Rattle.cases.proofs.part.Kinds as part_kinds
use Rattle.cases.proofs.part.Reads as part_reads

pub part_end_only : Only part_end_kinds.ps part_end_kinds.r part_end_reads.Post
part_end_only κs a x y e f p q = only_answer _ x y p q

pub record_end_only : Only record_end_kinds.ps record_end_kinds.r record_end_reads.Post
record_end_only κs a x y e f p q = only_answer _ x y p q

pub number_at_only : Only number_at_kinds.ps number_at_kinds.r number_at_reads.Post
number_at_only κs a x y e f p q = only_answer _ x y p q

pub number_only : Only number_kinds.ps number_kinds.r number_reads.Post
number_only κs a x y e f p q = only_answer _ x y p q

pub is_number_only : Only is_number_kinds.ps is_number_kinds.r is_number_reads.Post
is_number_only κs a x y e f p q = only_answer _ x y p q

pub head_matches_only : Only head_matches_kinds.ps head_matches_kinds.r head_matches_reads.Post
head_matches_only κs a x y e f p q = only_answer _ x y p q

pub refusal_matches_only : Only refusal_matches_kinds.ps refusal_matches_kinds.r refusal_matches_reads.Post
refusal_matches_only κs a x y e f p q = only_answer _ x y p q

pub is_formed_only : Only is_formed_kinds.ps is_formed_kinds.r is_formed_reads.Post
is_formed_only κs a x y e f p q = only_answer _ x y p q

pub told_only : Only told_kinds.ps told_kinds.r told_reads.Post
told_only κs a x y e f p q = only_answer _ x y p q

pub part_only :
    (κs : Lfts 1) (a : Dens κs part_kinds.ps) (x y : (res_t part_kinds.r κs).Denot) (e f : AtExit (ended_of 1 part_kinds.ps part_kinds.r) κs)
    → part_reads.Post κs a x e → part_reads.Post κs a y f → x.now ≡ y.now
part_only κs a x y e f p q = only_answer _ _ _ p q
