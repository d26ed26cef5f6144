-- The contract of each public function has one answer only, and the parts that it hands out have one content. Of `step_after`, `item_after` and `item_then` it
-- is said of the postconditions themselves, for the same arguments at entry; of `new` and `decode_next`, of the equations that they promise. Assumes
-- nothing.
use mathlib.Core.Path.{◌≡◌, sym, ◌∙◌}
use Prim.Native.Nat.{ℕ}
use mathlib.Core.List.{List}
use contract.Lifetimes.{Lfts}
use denote.Ref.{Bor}
use denote.Triple.Clauses.{AtExit}
use borrow.Fn.Kinds.{Dens, res_t, ended_of}
use Rattle.standard.proofs.Only.{Only, only_answer}
use Rattle.decode.specs.declared.decoder.SszDecoder.{SszDecoder}
use Rattle.std.specs.declared.result.Result.{Result}
use Rattle.std.specs.declared.result.Result.TheVariants.{Ok, Err}
use Rattle.standard.specs.declared.Refused.{Refused}
use Rattle.decode.proofs.Register.{refused_next}
use Rattle.reader.specs.Walked.{reader_at, Decoded, item_next, reader_after}
use Rattle.reader.specs.declared.SszReader.{SszReader}
use Rattle.reader.specs.declared.Taken.{Taken}
use Rattle.reader.proofs.step_after.Kinds as step_after_kinds
use Rattle.reader.proofs.step_after.Reads as step_after_reads
use Rattle.reader.proofs.item_after.Kinds as item_after_kinds
use Rattle.reader.proofs.item_after.Reads as item_after_reads
use Rattle.reader.proofs.item_then.Kinds as item_then_kinds
use Rattle.reader.proofs.item_then.Reads as item_then_reads

pub step_after_only : Only step_after_kinds.ps step_after_kinds.r step_after_reads.Post
step_after_only κs a x y e f p q = only_answer _ x y p q

pub item_after_only :
    (κs : Lfts 1) (a : Dens κs item_after_kinds.ps) (x y : (res_t item_after_kinds.r κs).Denot)
    (e f : AtExit (ended_of 1 item_after_kinds.ps item_after_kinds.r) κs)
    → item_after_reads.Post κs a x e → item_after_reads.Post κs a y f → x.now ≡ y.now
item_after_only κs a x y e f p q = only_answer _ _ _ p q

pub item_then_only :
    (κs : Lfts 1) (a : Dens κs item_then_kinds.ps) (x y : (res_t item_then_kinds.r κs).Denot)
    (e f : AtExit (ended_of 1 item_then_kinds.ps item_then_kinds.r) κs)
    → item_then_reads.Post κs a x e → item_then_reads.Post κs a y f → x.now ≡ y.now
item_then_only κs a x y e f p q = only_answer _ _ _ p q

pub new_only : (b : Bor (List ℕ)) (d : SszDecoder) (n : ℕ) (x y : SszReader) → x ≡ reader_at b d n → y ≡ reader_at b d n → x ≡ y
new_only b d n x y p q = only_answer (reader_at b d n) x y p q

-- Two answers that hand out parts of one content, and are else the same
abbrev Alike : Result Taken (Refused SszReader) → Result Taken (Refused SszReader) → Type 0
Alike (Ok t) (Ok u) = (t.item.now ≡ u.item.now) × (t.rest ≡ u.rest)
Alike (Ok t) (Err f) = ⊥
Alike (Err e) (Ok u) = ⊥
Alike (Err e) (Err f) = e ≡ f

pub decode_next_only : (r : SszReader) (x y : Result Taken (Refused SszReader)) → Decoded r x → Decoded r y → Alike x y
decode_next_only r (Ok t) (Ok u) p q = (only_answer (item_next r) _ _ p.1.0 q.1.0, only_answer (reader_after r) _ _ p.1.1 q.1.1)
decode_next_only r (Ok t) (Err f) p q = refused_next f.refusal tt (sym q.0 ∙ p.0)
decode_next_only r (Err e) (Ok u) p q = refused_next e.refusal tt (sym p.0 ∙ q.0)
decode_next_only r (Err e) (Err f) p q =
    let s : e.refusal ≡ f.refusal = cc (sym p.0 ∙ q.0) in
    let t : e.state ≡ f.state = only_answer r _ _ p.1 q.1 in
    λ i. record { state = t i; refusal = s i }
