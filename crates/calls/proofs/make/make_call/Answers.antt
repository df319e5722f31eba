-- `make_call` gives the outcome of the call: refused by the test of what is lent, or made. Assumes nothing.
use borrow.Author.Rules.{rules}
use Rattle.std.proofs.lemmas.Result.{err_from_is_err_and}
use Rattle.calls.proofs.Tested.{tested-refused, tested-ready, tested-formed, refused-settings}
use Rattle.calls.proofs.make.make_call.Goals as goal

pub returns-in_err-size : goal.returns-in_err-size
returns-in_err-size c =
    let p = err_from_is_err_and c.from_residual.result c.from_residual.ensures.1 in
    rw (p.1, p.2) (tested-refused _ _ _ _ _ c.in_err-size.ensures)

pub new-kept-requires : goal.new-kept-requires
new-kept-requires c = tested-ready _ _ _ _ c.in_ok-size.ensures

pub make-requires-clause-formed : goal.make-requires-clause-formed
make-requires-clause-formed c = tested-formed _ _ _ _ c.in_ok-size.ensures

-- a refused call leaves the settings
pub returns-in_err-make : goal.returns-in_err-make
returns-in_err-make c =
    let p = err_from_is_err_and c.from_residual-in_err-make.result c.from_residual-in_err-make.ensures.1 in
    let left = refused-settings _ _ _ c.in_err-make.ensures.gives in
    rw (p.1, p.2) (search (rules, left))
