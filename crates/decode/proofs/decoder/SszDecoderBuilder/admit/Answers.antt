-- In a state that is reached, registering is a step. Assumes nothing.
use Rattle.std.proofs.Common.{◌≡◌, Ok, sym, ◌∙◌, arith}
use Rattle.std.proofs.lemmas.Grind.{common_steps}
use Rattle.decode.proofs.Walk.{come_next}
use Rattle.decode.proofs.decoder.SszDecoderBuilder.admit.Goals as goal

pub put-requires : goal.put-requires
put-requires c =
    let e : c.register_head.result ≡ Ok c.in_ok-y.y = grind (arith, common_steps, c.map_err.ensures.cases, c.in_ok-y.was) in
    (omega arith, come_next _ _ _ _ _ c.requires (omega arith) (sym c.register_head.ensures ∙ e))
