-- `add_rows` meets its contract: what each turn asks of `add_meter`, and what it leaves, by whether the meter is of what is asked for. Assumes nothing.
use mathlib.Core.Path.{sym, ◌∙◌}
use Rattle.totals.proofs.AddedRows.{none-added, row-asks, row-passed, row-added}
use Rattle.totals.proofs.totals.add_rows.Goals as goal
use Rattle.totals.proofs.totals.add_rows.Goals.{then-includes, else-includes}

pub loop-registration-init : goal.loop-registration-init
loop-registration-init c = none-added _ _ _ _ _ 0 c.requires

pub add_meter-requires : goal.add_meter-requires
add_meter-requires c = rw (c.loop-registration.invariant, c.use_of.ensures) (row-asks _ _ _ _ _ _ c.requires c.loop-registration-test.true)

pub loop-registration-preserved : goal.loop-registration-preserved
loop-registration-preserved c =
    elim c.if-includes.branch [
      | then-includes w ↦
          w.totals-is ∙ w.add_meter.ensures ∙ rw (c.loop-registration.invariant, w.use_of.ensures) (row-added _ c.args.totals.now _ _ _ _ c.loop-registration-test.true (sym c.includes.ensures ∙ w.if-includes.true))
      | else-includes w ↦
          w.totals-is ∙ c.loop-registration.invariant ∙ sym (row-passed _ c.args.totals.now _ _ _ _ c.loop-registration-test.true (sym c.includes.ensures ∙ w.if-includes.false))
    ]
