-- The contract of each public function has one answer only, and leaves one content of each buffer lent for writing: said of the postconditions
-- themselves, for the same arguments at entry. Assumes nothing.
use mathlib.Core.Path.{◌≡◌}
use contract.Lifetimes.{Lfts}
use denote.Triple.Clauses.{AtExit}
use borrow.Fn.Kinds.{Dens, res_t, ended_of}
use Rattle.standard.proofs.Only.{Only, only_answer}
use Rattle.message.proofs.RefusedAtFromRefusal.from.Kinds as refused_kinds
use Rattle.message.proofs.RefusedAtFromRefusal.from.Reads as refused_reads
use Rattle.message.proofs.check.Kinds as check_kinds
use Rattle.message.proofs.check.Reads as check_reads
use Rattle.message.proofs.list.Kinds as list_kinds
use Rattle.message.proofs.list.Reads as list_reads
use Rattle.message.proofs.unfold.Kinds as unfold_kinds
use Rattle.message.proofs.unfold.Reads as unfold_reads

pub refused_only : Only refused_kinds.ps refused_kinds.r refused_reads.Post
refused_only κs a x y e f p q = only_answer _ x y p q

pub check_only : Only check_kinds.ps check_kinds.r check_reads.Post
check_only κs a x y e f p q = only_answer _ x y p q

pub list_only : Only list_kinds.ps list_kinds.r list_reads.Post
list_only κs a x y e f p q = only_answer _ x y p.0 q.0

pub unfold_only : Only unfold_kinds.ps unfold_kinds.r unfold_reads.Post
unfold_only κs a x y e f p q = only_answer _ x y p.0 q.0

pub list_leaves :
    (κs : Lfts 3) (a : Dens κs list_kinds.ps) (x y : (res_t list_kinds.r κs).Denot) (e f : AtExit (ended_of 3 list_kinds.ps list_kinds.r) κs)
    → list_reads.Post κs a x e → list_reads.Post κs a y f → e.1.1.0.now ≡ f.1.1.0.now
list_leaves κs a x y e f p q = only_answer _ _ _ p.1 q.1

pub unfold_leaves :
    (κs : Lfts 4) (a : Dens κs unfold_kinds.ps) (x y : (res_t unfold_kinds.r κs).Denot) (e f : AtExit (ended_of 4 unfold_kinds.ps unfold_kinds.r) κs)
    → unfold_reads.Post κs a x e → unfold_reads.Post κs a y f → (e.1.1.0.now ≡ f.1.1.0.now) × (e.1.1.1.0.now ≡ f.1.1.1.0.now)
unfold_leaves κs a x y e f p q = (only_answer _ _ _ p.1.0 q.1.0, only_answer _ _ _ p.1.1 q.1.1)
