-- `set_kept` meets its contract: a setting out of range is refused, a shape changes the cells, and no other setting does. Assumes nothing.
use borrow.Author.Rules.{rules}
use mathlib.Core.Path.{sym}
use Rattle.std.proofs.lemmas.Result.{err_from_is_err_and}
use Rattle.calls.proofs.SettingKept.{shapes-formed, not-in-range, other-kept, no-shape, shape-kept-up, shape-passes}
use Rattle.calls.proofs.make.set_kept.Goals.{in-Shape+in_ok-keep_shape, in_default}
use Rattle.calls.proofs.make.set_kept.Goals as goal

pub returns-then-not-setting_in_range-clause-gives : goal.returns-then-not-setting_in_range-clause-gives
returns-then-not-setting_in_range-clause-gives c = not-in-range _ _ _ _ (sym c.if-not-setting_in_range.ensures)

pub keep_shape-requires-clause-shapes : goal.keep_shape-requires-clause-shapes
keep_shape-requires-clause-shapes c = shapes-formed _ (search rules) c.requires.settings

pub returns-in_err-keep_shape-clause-gives : goal.returns-in_err-keep_shape-clause-gives
returns-in_err-keep_shape-clause-gives c =
    let p = err_from_is_err_and c.from_residual.result c.from_residual.ensures.1 in
    rw (p.1, p.2) (shape-passes _ (sym c.if-not-setting_in_range.ensures) c.in-Shape.is _ c.in_err-keep_shape.ensures.kept)

pub returns-clause-gives : goal.returns-clause-gives
returns-clause-gives c =
    elim c.match-setting.branch [
      | in-Shape+in_ok-keep_shape w ↦ rw w.cells-is (shape-kept-up _ (sym c.if-not-setting_in_range.ensures) w.in-Shape.is _ w.in_ok-keep_shape.ensures.kept (rw w.in-Shape.is (rw w.setting-is at c.put_setting.ensures)))
      | in_default w ↦ rw w.cells-is (other-kept _ _ _ (no-shape _ w.in_default.not-Shape) c.args.cells.now.ready.within (sym c.if-not-setting_in_range.ensures) (rw w.setting-is at c.put_setting.ensures))
    ]
