-- The contract of each public function has one answer only, and leaves one content of each buffer lent for writing: said of the postconditions
-- themselves, for the same arguments at entry. Assumes nothing.
use mathlib.Core.Path.{◌≡◌}
use contract.Lifetimes.{Lfts}
use denote.Triple.Clauses.{AtExit}
use borrow.Fn.Kinds.{Dens, res_t, ended_of}
use Rattle.standard.proofs.Only.{Only, only_answer}
use Rattle.layout.proofs.Kind.is_leaf.Kinds as is_leaf_kinds
use Rattle.layout.proofs.Kind.is_leaf.Reads as is_leaf_reads
use Rattle.layout.proofs.Kind.is_plain.Kinds as is_plain_kinds
use Rattle.layout.proofs.Kind.is_plain.Reads as is_plain_reads
use Rattle.layout.proofs.Kind.of.Kinds as kind_of_kinds
use Rattle.layout.proofs.Kind.of.Reads as kind_of_reads
use Rattle.layout.proofs.layout_check.Kinds as layout_check_kinds
use Rattle.layout.proofs.layout_check.Reads as layout_check_reads
use Rattle.layout.proofs.table_of.Kinds as table_of_kinds
use Rattle.layout.proofs.table_of.Reads as table_of_reads

pub kind_of_only : Only kind_of_kinds.ps kind_of_kinds.r kind_of_reads.Post
kind_of_only κs a x y e f p q = only_answer _ x y p q

pub is_leaf_only : Only is_leaf_kinds.ps is_leaf_kinds.r is_leaf_reads.Post
is_leaf_only κs a x y e f p q = only_answer _ x y p q

pub is_plain_only : Only is_plain_kinds.ps is_plain_kinds.r is_plain_reads.Post
is_plain_only κs a x y e f p q = only_answer _ x y p q

pub layout_check_only : Only layout_check_kinds.ps layout_check_kinds.r layout_check_reads.Post
layout_check_only κs a x y e f p q = only_answer _ x y p q

pub table_of_only : Only table_of_kinds.ps table_of_kinds.r table_of_reads.Post
table_of_only κs a x y e f p q = only_answer _ x y p.0 q.0

pub table_of_leaves :
    (κs : Lfts 2) (a : Dens κs table_of_kinds.ps) (x y : (res_t table_of_kinds.r κs).Denot)
    (e f : AtExit (ended_of 2 table_of_kinds.ps table_of_kinds.r) κs)
    → table_of_reads.Post κs a x e → table_of_reads.Post κs a y f → e.0.now ≡ f.0.now
table_of_leaves κs a x y e f p q = only_answer _ _ _ p.1 q.1
