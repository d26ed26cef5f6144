-- The contract of each public function has one answer only, and leaves one content of each buffer lent for writing: said of the postconditions
-- themselves, for the same arguments at entry. Assumes nothing.
use mathlib.Core.Path.{◌≡◌}
use contract.Lifetimes.{Lfts}
use denote.Triple.Clauses.{AtExit}
use borrow.Fn.Kinds.{Dens, res_t, ended_of}
use Rattle.standard.proofs.Only.{Only, only_answer}
use Rattle.cartwhisker.proofs.cartwhisker_check.Kinds as cartwhisker_check_kinds
use Rattle.cartwhisker.proofs.cartwhisker_check.Reads as cartwhisker_check_reads
use Rattle.cartwhisker.proofs.cartwhisker_list.Kinds as cartwhisker_list_kinds
use Rattle.cartwhisker.proofs.cartwhisker_list.Reads as cartwhisker_list_reads

pub cartwhisker_check_only : Only cartwhisker_check_kinds.ps cartwhisker_check_kinds.r cartwhisker_check_reads.Post
cartwhisker_check_only κs a x y e f p q = only_answer _ x y p q

pub cartwhisker_list_only : Only cartwhisker_list_kinds.ps cartwhisker_list_kinds.r cartwhisker_list_reads.Post
cartwhisker_list_only κs a x y e f p q = only_answer _ x y p.0 q.0

pub cartwhisker_list_leaves :
    (κs : Lfts 3) (a : Dens κs cartwhisker_list_kinds.ps) (x y : (res_t cartwhisker_list_kinds.r κs).Denot)
    (e f : AtExit (ended_of 3 cartwhisker_list_kinds.ps cartwhisker_list_kinds.r) κs)
    → cartwhisker_list_reads.Post κs a x e → cartwhisker_list_reads.Post κs a y f → e.1.1.0.now ≡ f.1.1.0.now
cartwhisker_list_leaves κs a x y e f p q = only_answer _ _ _ p.1 q.1
