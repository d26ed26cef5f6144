-- What is left gives the whole. Assumes nothing.
use Rattle.std.proofs.Common.{◌≡◌, sym, ◌∙◌, ◌+◌, ◌-◌, arith}
use Rattle.layout.specs.Table.{count}
use Rattle.layout.proofs.Tables.{refs_missing, refs-wrong, refs-next, refs-none}
use Rattle.layout.proofs.types.refs_end.Goals as goal

pub returns-then-a-words : goal.returns-then-a-words
unfolding count
returns-then-a-words c =
    let rest = c.args.a0 + c.args.n - (c.loop-a.a + 1) in
    refs_missing _ _ _ _ _ rest _ (omega arith) c.loop-a.invariant c.if-a-words.true

pub returns-then-not-may_name : goal.returns-then-not-may_name
unfolding count
returns-then-not-may_name c =
    let rest = c.args.a0 + c.args.n - (c.loop-a.a + 1) in
    let m = rw c.word_at.ensures.0 at (sym c.may_name.ensures ∙ c.if-not-may_name.true) in
    refs-wrong _ _ _ _ _ rest _ (omega arith) c.loop-a.invariant c.if-a-words.false m

pub loop-a-preserved : goal.loop-a-preserved
unfolding count
loop-a-preserved c =
    let m = rw c.word_at.ensures.0 at (sym c.may_name.ensures ∙ c.if-not-may_name.false) in
    refs-next _ _ _ _ _ _ _ (omega arith) c.loop-a.invariant c.if-a-words.false m

pub returns : goal.returns
returns c =
    let e : c.loop-a.a ≡ c.args.a0 + c.args.n = omega arith in
    rw e at (sym (refs-none _ _ _ _ _ (omega arith)) ∙ c.loop-a.invariant)
