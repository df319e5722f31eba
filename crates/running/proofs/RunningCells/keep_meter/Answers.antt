-- `keep_meter` meets its contract: the entries of what the meter held and holds change each word as these do.
use mathlib.Core.Path.{◌≡◌, refl}
use native.Mathlib.Omega.{arith}
use Rattle.std.specs.Prelude.{Some, None, Err}
use Rattle.refusals.specs.declared.Refusal.TheVariants.{BookIllFormed}
use Rattle.running.proofs.Entries.{meter-changed}
use Rattle.running.proofs.KeptUp.{kept-up, refused-up}
use Rattle.running.proofs.RunningCells.keep_meter.Goals as goal

pub returns-in_err-self-clause-kept : goal.returns-in_err-self-clause-kept
returns-in_err-self-clause-kept c =
    let r = c.requires in
    let none : c.keep_exchange-kept.result ≡ None = grind arith in
    let refused : c.from_residual.result ≡ Err BookIllFormed = grind arith in
    let same = meter-changed c.args.shapes.now r.shapes c.args.before c.args.after r.before r.after refl refl c.args.self.now.cells.now in
    rw refused (refused-up _ _ _ same (rw none at c.keep_exchange-kept.ensures))

pub returns-clause-kept : goal.returns-clause-kept
returns-clause-kept c =
    let r = c.requires in
    let some : c.keep_exchange-kept.result ≡ Some c.in_ok-self.field-0 = grind arith in
    let same = meter-changed c.args.shapes.now r.shapes c.args.before c.args.after r.before r.after refl refl c.args.self.now.cells.now in
    kept-up _ _ _ same _ (rw some at c.keep_exchange-kept.ensures)
