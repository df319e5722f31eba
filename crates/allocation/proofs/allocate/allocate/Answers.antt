-- `allocate` gives the outcome of the allocate call: a refusal of the book or of its slice, or what the allocation of the slice leaves. Assumes nothing.
use mathlib.Core.Path.{sym, ◌∙◌}
use Rattle.std.proofs.lemmas.Result.{err_from_is_err_and}
use Rattle.allocation.proofs.RunningWays.{settings-well, cells-within, running-refused, running-allocated}
use Rattle.allocation.proofs.allocate.allocate.Goals as goal

pub returns-in_err-test_lent : goal.returns-in_err-test_lent
returns-in_err-test_lent c =
    let p = err_from_is_err_and c.from_residual.result c.from_residual.ensures.1 in
    rw (p.1, p.2) (running-refused _ _ _ _ _ (sym c.test_lent.ensures ∙ c.in_err-test_lent.was))

pub allocate_kept-requires-clause-formed : goal.allocate_kept-requires-clause-formed
allocate_kept-requires-clause-formed c = settings-well c.args.settings c.args.rows.now c.args.cells.now c.args.volumes.now (sym c.test_lent.ensures ∙ c.in_ok-test_lent.was)

pub allocate_kept-requires-clause-within : goal.allocate_kept-requires-clause-within
allocate_kept-requires-clause-within c = cells-within c.args.settings c.args.rows.now c.args.cells.now c.args.volumes.now (sym c.test_lent.ensures ∙ c.in_ok-test_lent.was)

pub returns : goal.returns
returns c = running-allocated _ _ _ _ (sym c.test_lent.ensures ∙ c.in_ok-test_lent.was) _ c.allocate_kept.ensures
