-- `keep_shape` meets its contract, by whether a meter waits, and whether the limit would be passed. Assumes nothing.
use mathlib.Core.Path.{◌≡◌, sym, ◌∙◌}
use native.Mathlib.Omega.{arith}
use Rattle.std.specs.Prelude.{Some, None, Err}
use Rattle.refusals.specs.declared.Refusal.TheVariants.{BookIllFormed}
use Rattle.running.proofs.Near.{ready-most}
use Rattle.running.proofs.ShapeKept.{none-waits, gather-asks, change-asks, same_change}
use Rattle.running.proofs.KeptUp.{kept-up, refused-up}
use Rattle.running.proofs.RunningCells.keep_shape.Goals as goal

pub returns-in_default-clause-kept : goal.returns-in_default-clause-kept
returns-in_default-clause-kept c =
    let r = c.requires in
    none-waits _ _ _ _ r.shapes r.rows r.category r.shape _ c.args.self.now.ready (sym c.in_default.is ∙ c.first_waiting.ensures)

pub gather_change-requires : goal.gather_change-requires
gather_change-requires c =
    let r = c.requires in
    gather-asks _ _ _ _ r.shapes r.rows r.category r.shape _ (sym c.in-Some.is ∙ c.first_waiting.ensures) c.wh_more-more.ensures

pub keep_change-requires-clause-change : goal.keep_change-requires-clause-change
keep_change-requires-clause-change c =
    let r = c.requires in
    change-asks _ _ _ _ r.shapes r.rows r.category r.shape _ (sym c.in-Some.is ∙ c.first_waiting.ensures) c.wh_more-more.ensures c.gather_change.ensures _ c.args.self.now.ready

pub keep_change-requires-clause-ready : goal.keep_change-requires-clause-ready
keep_change-requires-clause-ready c = ready-most c.args.self.now.ready

pub returns-in_err-most-clause-kept : goal.returns-in_err-most-clause-kept
returns-in_err-most-clause-kept c =
    let r = c.requires in
    let none : c.keep_change.result ≡ None = grind arith in
    let refused : c.from_residual.result ≡ Err BookIllFormed = grind arith in
    let same = same_change _ _ _ _ r.shapes r.rows r.category r.shape _ (sym c.in-Some.is ∙ c.first_waiting.ensures) c.wh_more-more.ensures c.gather_change.ensures _ c.args.self.now.ready in
    rw refused (refused-up _ _ _ same (rw none at c.keep_change.ensures))

pub returns-clause-kept : goal.returns-clause-kept
returns-clause-kept c =
    let r = c.requires in
    let some : c.keep_change.result ≡ Some c.in_ok-most.most = grind arith in
    let same = same_change _ _ _ _ r.shapes r.rows r.category r.shape _ (sym c.in-Some.is ∙ c.first_waiting.ensures) c.wh_more-more.ensures c.gather_change.ensures _ c.args.self.now.ready in
    kept-up _ _ _ same _ (rw some at c.keep_change.ensures)
