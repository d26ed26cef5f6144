-- The test of each entry, one by one. Assumes nothing.
use Rattle.std.proofs.Common.{◌≡◌, rules}
use Rattle.std.proofs.lemmas.Iterator.{cases_from_all, YieldsList-from_slice}
use borrow.Author.Tests.{tests}
use Rattle.decode.proofs.Walk.{zero-test}
use Rattle.decode.proofs.decoder.are_zero.Goals as goal

pub returns : goal.returns
returns c =
    zero-test _ _
    (cases_from_all _ _ _ (λ x. x ≡ 0) (λ x. x ≡ 0 → ⊥) c.all.ensures.ran (YieldsList-from_slice c.args.unused.now cc)
    (λ x q k. search (rules, tests)) (λ x q k. search (rules, tests)))
