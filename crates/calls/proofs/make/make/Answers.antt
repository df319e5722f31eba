-- `make` gives the outcome of the call on the rows as those of one book, and on its cells. Assumes nothing.
use mathlib.Core.Path.{◌∙◌}
use Rattle.std.proofs.lemmas.Result.{err_from_is_err_and}
use Rattle.running.proofs.TestedFirst.{ready-well}
use Rattle.calls.proofs.Answers.{gives-registered, gives-recorded, gives-set, set-count}
use Rattle.calls.proofs.make.make.Goals as goal

pub returns-in_err-made-in-Register-clause-gives : goal.returns-in_err-made-in-Register-clause-gives
returns-in_err-made-in-Register-clause-gives g c =
    let p = err_from_is_err_and c.from_residual.result c.from_residual.ensures.1 in
    rw (p.1, p.2, c.in-Register.is)
    (gives-registered (ready-well _ c.requires.formed c.args.cells.now.ready) c.requires.counted _ _ c.in_err-made-in-Register.ensures.registers)

pub returns-in_ok-made-in-Register-clause-gives : goal.returns-in_ok-made-in-Register-clause-gives
returns-in_ok-made-in-Register-clause-gives g c =
    rw c.in-Register.is
    (gives-registered (ready-well _ c.requires.formed c.args.cells.now.ready) c.requires.counted _ _ c.in_ok-made-in-Register.ensures.registers)

pub returns-in_err-made-in-Record-clause-gives : goal.returns-in_err-made-in-Record-clause-gives
returns-in_err-made-in-Record-clause-gives g c =
    let p = err_from_is_err_and c.from_residual-in_err-made-in-Record.result c.from_residual-in_err-made-in-Record.ensures.1 in
    rw (p.1, p.2, c.in-Record.is)
    (gives-recorded (ready-well _ c.requires.formed c.args.cells.now.ready) c.requires.counted _ _ c.in_err-made-in-Record.ensures.records)

pub returns-in_ok-made-in-Record-clause-gives : goal.returns-in_ok-made-in-Record-clause-gives
returns-in_ok-made-in-Record-clause-gives g c =
    rw c.in-Record.is
    (gives-recorded (ready-well _ c.requires.formed c.args.cells.now.ready) c.requires.counted _ _ c.in_ok-made-in-Record.ensures.records)

pub returns-in_err-set_kept-in-Set-clause-counted : goal.returns-in_err-set_kept-in-Set-clause-counted
returns-in_err-set_kept-in-Set-clause-counted g c =
    set-count (ready-well _ c.requires.formed c.args.cells.now.ready) _ c.in_err-set_kept-in-Set.ensures.gives ∙ c.requires.counted

pub returns-in_err-set_kept-in-Set-clause-gives : goal.returns-in_err-set_kept-in-Set-clause-gives
returns-in_err-set_kept-in-Set-clause-gives g c =
    let p = err_from_is_err_and c.from_residual-in_err-set_kept-in-Set.result c.from_residual-in_err-set_kept-in-Set.ensures.1 in
    rw (p.1, p.2, c.in-Set.is)
    (gives-set (ready-well _ c.requires.formed c.args.cells.now.ready) _ (rw c.requires.counted c.all.ensures) c.in_err-set_kept-in-Set.ensures.gives)

pub returns-in_ok-set_kept-in-Set-clause-counted : goal.returns-in_ok-set_kept-in-Set-clause-counted
returns-in_ok-set_kept-in-Set-clause-counted g c =
    set-count (ready-well _ c.requires.formed c.args.cells.now.ready) _ c.in_ok-set_kept-in-Set.ensures.gives ∙ c.requires.counted

pub returns-in_ok-set_kept-in-Set-clause-gives : goal.returns-in_ok-set_kept-in-Set-clause-gives
returns-in_ok-set_kept-in-Set-clause-gives g c =
    rw c.in-Set.is
    (gives-set (ready-well _ c.requires.formed c.args.cells.now.ready) _ (rw c.requires.counted c.all.ensures) c.in_ok-set_kept-in-Set.ensures.gives)
