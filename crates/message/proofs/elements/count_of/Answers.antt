-- What the code computes is what an accepted list says. Assumes nothing.
use Rattle.std.proofs.Common.{◌≡◌, arith, eq-eqb, ne_eqb}
use Rattle.message.proofs.Counting.{says-fixed, says-short, says_offset}
use Rattle.message.proofs.elements.count_of.Goals as goal

pub returns-then-k-gt0 : goal.returns-then-k-gt0
returns-then-k-gt0 c limit = rw (ne_eqb c.args.k 0 (λ (q : c.args.k ≡ 0). omega arith)) (says-fixed limit _ c.args.k)

pub returns-then-len-lt4 : goal.returns-then-len-lt4
returns-then-len-lt4 c limit = rw (eq-eqb c.args.k 0 (omega arith)) (says-short limit _ c.if-len-lt4.true)

pub returns : goal.returns
returns c limit = rw (eq-eqb c.args.k 0 (omega arith), c.four_in.ensures.0) (says_offset limit _ c.if-len-lt4.false)
