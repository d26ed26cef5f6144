-- By the word that is there, then as the selector goes. Assumes nothing.
use Rattle.std.proofs.lemmas.Result.{err_from_is_err_and}
use Rattle.value.proofs.Selectors.{choose-wrong, choose-one}
use Rattle.value.proofs.laid.select.Goals as goal

pub returns-in_err-k : goal.returns-in_err-k
returns-in_err-k c =
    let p = err_from_is_err_and c.from_residual.result c.from_residual.ensures.1 in
    rw (p.1, p.2) (choose-wrong _ _ _ _ _ _ c.requires.1 c.in_err-k.ensures)

pub returns : goal.returns
returns c = choose-one _ _ _ _ _ _ _ _ c.in_ok-k.ensures c.in-Ok.ensures c.option_of.ensures
