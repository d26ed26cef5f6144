-- The types so far are legal, and what is left of the check gives the whole. Assumes nothing.
use Rattle.std.proofs.Common.{sym, ◌∙◌, arith, rules}
use Rattle.standard.proofs.Bytes.{bytes-known}
use Rattle.layout.proofs.Tables.{typed-bad, checking_start, checking_bad, checking_small, checking_next, checking_end}
use Rattle.layout.proofs.Lengths.{found-set, stands, stands-not}
use Rattle.layout.proofs.types_end.Goals as goal

pub returns-then-word_in-at : goal.returns-then-word_in-at
returns-then-word_in-at c =
    typed-bad _ _ _ _ (checking_start _ _ _ _ _ c.loop-t.invariant (omega arith) _ c.word_in.ensures.0 c.if-word_in-at.true)

pub returns-in_err-body : goal.returns-in_err-body
returns-in_err-body c =
    let e = checking_bad _ _ _ _ _ c.loop-t.invariant (omega arith) _ c.word_in.ensures.0 c.if-word_in-at.false _
    (stands-not _ _ _ c.in_err-body.ensures.value) in
    record { gives = search rules; found = λ n q. search rules }

pub overflow_cast-lens : goal.overflow_cast-lens
overflow_cast-lens c =
    let b = bytes-known _ (λ i. (c.type_inv.layout i).fits) in
    let s = stands _ _ _ c.in_ok-body.ensures.value in
    let m = checking_small _ _ _ _ _ c.loop-t.invariant (omega arith) _ c.word_in.ensures.0 c.if-word_in-at.false b _ (sym s.reached) _ s.long in
    omega arith

pub loop-t-preserved : goal.loop-t-preserved
loop-t-preserved c =
    let b = bytes-known _ (λ i. (c.type_inv.layout i).fits) in
    let s = stands _ _ _ c.in_ok-body.ensures.value in
    checking_next _ _ _ _ _ c.loop-t.invariant (omega arith) _ c.word_in.ensures.0 c.if-word_in-at.false b _
    (sym s.reached) _ c.requires.1 (found-set _ _ _ _ (c.in_ok-body.ensures.lens_unchanged ∙ c.loop-t.invariant.known.found) (omega arith) s.long)

pub returns : goal.returns
returns c =
    let e = checking_end _ _ _ _ _ c.loop-t.invariant (omega arith) in
    record { gives = e.0; found = λ _ _. e.1 }
