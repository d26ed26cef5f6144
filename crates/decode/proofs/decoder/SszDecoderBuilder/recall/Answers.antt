-- What the tests said is what `Tested` says. Assumes nothing.
use Rattle.std.proofs.Common.{sym, ◌∙◌, arith, rules}
use Rattle.std.proofs.lemmas.Slice.{between_to_end}
use Rattle.decode.proofs.Walk.{walk_front, recalled-tested}
use Rattle.decode.proofs.decoder.SszDecoderBuilder.recall.Goals as goal

pub returns-in-Ok : goal.returns-in-Ok
returns-in-Ok c =
    sym (recalled-tested c.args.self c.args.bytes.now c.in-Ok.x (record {
      few = omega arith;
      no-starts = search (rules, between_to_end);
      no-ends = search (rules, between_to_end);
      walked = sym (walk_front _ _ _ _ _ (omega arith) (omega arith)) ∙ (sym c.recall_items.ensures ∙ c.in-Ok.is);
      arrives = c.if-x-self.true;
    }))
