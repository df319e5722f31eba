-- `set` gives the outcome of the call, which changes no cell. Assumes nothing.
use Rattle.std.proofs.lemmas.Result.{err_from_is_err_and}
use Rattle.calls.proofs.Tested.{tested-refused, tested-other}
use Rattle.calls.proofs.make.set.Goals as goal

pub returns-in_err-test_lent : goal.returns-in_err-test_lent
returns-in_err-test_lent c =
    let p = err_from_is_err_and c.from_residual.result c.from_residual.ensures.1 in
    rw (p.1, p.2) (tested-refused _ _ _ _ _ c.in_err-test_lent.ensures)

pub returns : goal.returns
returns c = rw c.replace.ensures (tested-other _ _ _ _ c.in_ok-test_lent.ensures _ c.requires)
