-- `set_shape` gives the outcome of the call. Assumes nothing.
use borrow.Author.Rules.{rules}
use Rattle.std.proofs.lemmas.Result.{err_from_is_err_and}
use Rattle.calls.proofs.Tested.{tested-refused, tested-ready, tested-within, tested-rows, tested-settings, tested-set, refused-settings}
use Rattle.calls.proofs.make.set_shape.Goals as goal

pub returns-in_err-size : goal.returns-in_err-size
returns-in_err-size c =
    let p = err_from_is_err_and c.from_residual.result c.from_residual.ensures.1 in
    rw (p.1, p.2) (tested-refused _ _ _ _ _ c.in_err-size.ensures)

pub new-kept-requires : goal.new-kept-requires
new-kept-requires c = tested-ready _ _ _ _ c.in_ok-size.ensures

pub first_rows-meters-requires : goal.first_rows-meters-requires
first_rows-meters-requires c = tested-within _ _ _ _ c.in_ok-size.ensures

pub set_kept-requires-clause-rows : goal.set_kept-requires-clause-rows
set_kept-requires-clause-rows c = tested-rows _ _ _ _ c.in_ok-size.ensures c.first_rows-meters.ensures.rows

pub set_kept-requires-clause-settings : goal.set_kept-requires-clause-settings
set_kept-requires-clause-settings c = tested-settings _ _ _ _ c.in_ok-size.ensures

-- a refused call leaves the settings
pub returns-in_err-set_kept : goal.returns-in_err-set_kept
returns-in_err-set_kept c =
    let p = err_from_is_err_and c.from_residual-in_err-set_kept.result c.from_residual-in_err-set_kept.ensures.1 in
    let kept = rw c.new-kept.ensures.cells at c.in_err-set_kept.ensures.gives in
    let t = tested-set c.args.settings c.args.rows.now c.args.cells.now _ c.in_ok-size.ensures c.first_rows-meters.ensures.rows _ kept in
    let left = refused-settings _ _ _ t in
    rw (p.1, p.2) (search (rules, left))

pub returns : goal.returns
returns c =
    let kept = rw c.new-kept.ensures.cells at c.in_ok-set_kept.ensures.gives in
    let t = tested-set c.args.settings c.args.rows.now c.args.cells.now _ c.in_ok-size.ensures c.first_rows-meters.ensures.rows _ kept in
    search (rules, t)
