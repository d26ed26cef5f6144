-- The contract of each public function has one answer only, and leaves one content of each buffer lent for writing: said of the postconditions
-- themselves, for the same arguments at entry. A buffer goes by the answer, so two equal answers leave the same. Assumes nothing.
use mathlib.Core.Path.{◌≡◌}
use contract.Lifetimes.{Lfts}
use denote.Triple.Clauses.{AtExit}
use borrow.Fn.Kinds.{Dens, res_t, ended_of}
use Rattle.standard.proofs.Only.{Only, only_answer}
use Rattle.encode.proofs.encode_length.Kinds as encode_length_kinds
use Rattle.encode.proofs.encode_length.Reads as encode_length_reads
use Rattle.encode.proofs.encoder.SszEncoder.container.Kinds as container_kinds
use Rattle.encode.proofs.encoder.SszEncoder.container.Reads as container_reads
use Rattle.encode.proofs.encoder.SszEncoder.append_fixed.Kinds as append_fixed_kinds
use Rattle.encode.proofs.encoder.SszEncoder.append_fixed.Reads as append_fixed_reads
use Rattle.encode.proofs.encoder.SszEncoder.append_variable.Kinds as append_variable_kinds
use Rattle.encode.proofs.encoder.SszEncoder.append_variable.Reads as append_variable_reads
use Rattle.encode.proofs.encoder.SszEncoder.append_parameterized.Kinds as append_kinds
use Rattle.encode.proofs.encoder.SszEncoder.append_parameterized.Reads as append_reads
use Rattle.encode.proofs.encoder.SszEncoder.finalize.Kinds as finalize_kinds
use Rattle.encode.proofs.encoder.SszEncoder.finalize.Reads as finalize_reads

pub encode_length_only : Only encode_length_kinds.ps encode_length_kinds.r encode_length_reads.Post
encode_length_only κs a x y e f p q = only_answer _ x y p q

pub container_only : Only container_kinds.ps container_kinds.r container_reads.Post
container_only κs a x y e f p q = only_answer _ x y p q

pub append_fixed_only : Only append_fixed_kinds.ps append_fixed_kinds.r append_fixed_reads.Post
append_fixed_only κs a x y e f p q = only_answer _ x y p.0 q.0

pub append_variable_only : Only append_variable_kinds.ps append_variable_kinds.r append_variable_reads.Post
append_variable_only κs a x y e f p q = only_answer _ x y p.0 q.0

pub append_only : Only append_kinds.ps append_kinds.r append_reads.Post
append_only κs a x y e f p q = only_answer _ x y p.0 q.0

pub finalize_only : Only finalize_kinds.ps finalize_kinds.r finalize_reads.Post
finalize_only κs a x y e f p q = only_answer _ x y p.0 q.0

pub append_fixed_leaves :
    (κs : Lfts 3) (a : Dens κs append_fixed_kinds.ps) (x y : (res_t append_fixed_kinds.r κs).Denot)
    (e f : AtExit (ended_of 3 append_fixed_kinds.ps append_fixed_kinds.r) κs)
    → append_fixed_reads.Post κs a x e → append_fixed_reads.Post κs a y f → e.1.1.0.now ≡ f.1.1.0.now
append_fixed_leaves κs a x y e f p q = only_answer _ _ _ (rw (append_fixed_only κs a x y e f p q) at p.1) q.1

pub append_variable_leaves :
    (κs : Lfts 3) (a : Dens κs append_variable_kinds.ps) (x y : (res_t append_variable_kinds.r κs).Denot)
    (e f : AtExit (ended_of 3 append_variable_kinds.ps append_variable_kinds.r) κs)
    → append_variable_reads.Post κs a x e → append_variable_reads.Post κs a y f
    → (e.1.1.0.now ≡ f.1.1.0.now) × (e.1.1.1.0.now ≡ f.1.1.1.0.now)
append_variable_leaves κs a x y e f p q =
    let r = rw (append_variable_only κs a x y e f p q) at p.1 in
    (only_answer _ _ _ r.0 q.1.0, only_answer _ _ _ r.1 q.1.1)

pub append_leaves :
    (κs : Lfts 3) (a : Dens κs append_kinds.ps) (x y : (res_t append_kinds.r κs).Denot) (e f : AtExit (ended_of 3 append_kinds.ps append_kinds.r) κs)
    → append_reads.Post κs a x e → append_reads.Post κs a y f
    → (e.1.1.1.0.now ≡ f.1.1.1.0.now) × (e.1.1.1.1.0.now ≡ f.1.1.1.1.0.now)
append_leaves κs a x y e f p q =
    let r = rw (append_only κs a x y e f p q) at p.1 in
    (only_answer _ _ _ r.0 q.1.0, only_answer _ _ _ r.1 q.1.1)

pub finalize_leaves :
    (κs : Lfts 2) (a : Dens κs finalize_kinds.ps) (x y : (res_t finalize_kinds.r κs).Denot)
    (e f : AtExit (ended_of 2 finalize_kinds.ps finalize_kinds.r) κs)
    → finalize_reads.Post κs a x e → finalize_reads.Post κs a y f → e.1.0.now ≡ f.1.0.now
finalize_leaves κs a x y e f p q = only_answer _ _ _ (rw (finalize_only κs a x y e f p q) at p.1) q.1
