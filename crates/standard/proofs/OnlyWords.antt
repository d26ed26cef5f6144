-- The contract of each public function has one answer only, and leaves one content of each buffer lent for writing: said of the postconditions
-- themselves, for the same arguments at entry. Assumes nothing.
use mathlib.Core.Path.{◌≡◌}
use contract.Lifetimes.{Lfts}
use denote.Param.Laws.{Laws}
use denote.RattleType.{RattleType}
use denote.Triple.Clauses.{AtExit}
use mir.Syntax.{Dict}
use borrow.Fn.Kinds.{Dens, res_t, ended_of}
use Rattle.standard.proofs.Only.{Only, only_answer}
use Rattle.standard.proofs.Refusal.numbers.Kinds as numbers_kinds
use Rattle.standard.proofs.Refusal.numbers.Reads as numbers_reads
use Rattle.standard.proofs.RefusalFromRefused.from.Kinds as refusal_from_kinds
use Rattle.standard.proofs.RefusalFromRefused.from.Reads as refusal_from_reads
use Rattle.standard.proofs.words.four_at.Kinds as four_at_kinds
use Rattle.standard.proofs.words.four_at.Reads as four_at_reads
use Rattle.standard.proofs.words.word_at.Kinds as word_at_kinds
use Rattle.standard.proofs.words.word_at.Reads as word_at_reads
use Rattle.standard.proofs.words.put_four.Kinds as put_four_kinds
use Rattle.standard.proofs.words.put_four.Reads as put_four_reads

pub numbers_only : Only numbers_kinds.ps numbers_kinds.r numbers_reads.Post
numbers_only κs a x y e f p q = only_answer _ x y p q

-- Whatever the state's type.
module _ (S : RattleType) (L : Laws S) (dict : Dict) where
  pub refusal_from_only : Only (refusal_from_kinds.ps S L) (refusal_from_kinds.r S L) (refusal_from_reads.Post S L dict)
  refusal_from_only κs a x y e f p q = only_answer _ x y p q

pub four_at_only : Only four_at_kinds.ps four_at_kinds.r four_at_reads.Post
four_at_only κs a x y e f p q = only_answer _ x y p.0 q.0

pub word_at_only : Only word_at_kinds.ps word_at_kinds.r word_at_reads.Post
word_at_only κs a x y e f p q = only_answer _ x y p.0 q.0

pub put_four_leaves :
    (κs : Lfts 1) (a : Dens κs put_four_kinds.ps) (x y : (res_t put_four_kinds.r κs).Denot)
    (e f : AtExit (ended_of 1 put_four_kinds.ps put_four_kinds.r) κs)
    → put_four_reads.Post κs a x e → put_four_reads.Post κs a y f → e.0.now ≡ f.0.now
put_four_leaves κs a x y e f p q = only_answer _ _ _ p q
