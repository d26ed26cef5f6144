-- The contract of each public function has one answer only, and leaves one content of each buffer lent for writing: said of the postconditions
-- themselves, for the same arguments at entry. Assumes nothing.
use mathlib.Core.Path.{◌≡◌}
use contract.Lifetimes.{Lfts}
use denote.Triple.Clauses.{AtExit}
use borrow.Fn.Kinds.{Dens, res_t, ended_of}
use Rattle.standard.proofs.Only.{Only, only_answer}
use Rattle.value.proofs.write.Kinds as write_kinds
use Rattle.value.proofs.write.Reads as write_reads

pub write_only : Only write_kinds.ps write_kinds.r write_reads.Post
write_only κs a x y e f p q = only_answer _ x y p.0 q.0

pub write_leaves :
    (κs : Lfts 4) (a : Dens κs write_kinds.ps) (x y : (res_t write_kinds.r κs).Denot) (e f : AtExit (ended_of 4 write_kinds.ps write_kinds.r) κs)
    → write_reads.Post κs a x e → write_reads.Post κs a y f → e.1.1.1.0.now ≡ f.1.1.1.0.now
write_leaves κs a x y e f p q = only_answer _ _ _ p.1 q.1
