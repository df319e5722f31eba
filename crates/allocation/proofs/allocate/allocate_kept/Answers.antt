-- `allocate_kept` leaves what an allocation of a tested slice leaves: a law for each way it ends, and the steps before. Assumes nothing.
use mathlib.Core.Path.{sym, ◌∙◌}
use native.Mathlib.Omega.{arith}
use borrow.Author.Tests.{eq-eqb, ne_eqb}
use Rattle.std.proofs.lemmas.Result.{err_from_is_err_and}
use Rattle.book.specs.Limits.{take_flag_set}
use Rattle.book.proofs.WellFormed.{formed-settings}
use Rattle.running.proofs.WithinLimits.{within-each}
use Rattle.correction.proofs.SliceBounds.{table-arguments}
use Rattle.correction.proofs.Droppings.{slice-droppings}
use Rattle.allocation.specs.Running.{slice_dropped, slice_droppings}
use Rattle.allocation.proofs.SliceSteps.{correct-arguments, corrected_as}
use Rattle.allocation.proofs.SliceWays.{slice-short, slice-unset, slice-waits, slice-refused, slice-accepted}
use Rattle.allocation.proofs.allocate.allocate_kept.Goals as goal

pub returns-then-volumes-lt32 : goal.returns-then-volumes-lt32
returns-then-volumes-lt32 c = slice-short _ _ _ c.if-volumes-lt32.true

pub returns-then-settings-ne-TAKE_FLAG_SET : goal.returns-then-settings-ne-TAKE_FLAG_SET
returns-then-settings-ne-TAKE_FLAG_SET c =
    slice-unset _ _ _ c.if-volumes-lt32.false (ne_eqb c.args.settings.take_set take_flag_set c.if-settings-ne-TAKE_FLAG_SET.true)

pub returns-then-any_waits : goal.returns-then-any_waits
returns-then-any_waits c =
    slice-waits _ _ _ c.if-volumes-lt32.false (eq-eqb c.args.settings.take_set take_flag_set c.if-settings-ne-TAKE_FLAG_SET.false) (sym c.any_waits.ensures ∙ c.if-any_waits.true)

pub all_units-sums-requires : goal.all_units-sums-requires
all_units-sums-requires c =
    rw c.round_cells-droppings.ensures.table
    (table-arguments c.args.cells.now (within-each c.args.cells.now c.requires.within).sizes-most c.args.settings.weights (formed-settings c.args.settings c.requires.formed).weights-formed)

pub correct_units-requires : goal.correct_units-requires
correct_units-requires c =
    correct-arguments c.args.settings c.args.cells.now c.requires.formed c.round_cells-droppings.ensures.table c.all_units-sums.ensures c.requires.within c.if-volumes-lt32.false

pub returns-in_err-corrected : goal.returns-in_err-corrected
returns-in_err-corrected c =
    let p = err_from_is_err_and c.from_residual.result c.from_residual.ensures.1 in
    rw (p.1, p.2)
    (slice-refused _ _ _ c.if-volumes-lt32.false (eq-eqb c.args.settings.take_set take_flag_set c.if-settings-ne-TAKE_FLAG_SET.false) (sym c.any_waits.ensures ∙ c.if-any_waits.false) _
    (corrected_as c.args.settings c.args.cells.now c.requires.formed c.round_cells-droppings.ensures.table c.all_units-sums.ensures c.in_err-corrected.ensures))

pub returns : goal.returns
unfolding slice_droppings slice_dropped
returns c =
    slice-accepted _ _ _ c.if-volumes-lt32.false (eq-eqb c.args.settings.take_set take_flag_set c.if-settings-ne-TAKE_FLAG_SET.false) (sym c.any_waits.ensures ∙ c.if-any_waits.false)
    (record { corrected = c.in_ok-corrected.corrected; counts = c.counts.result; droppings = c.round_cells-droppings.result })
    (corrected_as c.args.settings c.args.cells.now c.requires.formed c.round_cells-droppings.ensures.table c.all_units-sums.ensures c.in_ok-corrected.ensures)
    c.counts.ensures
    (c.round_cells-droppings.ensures.droppings ∙ slice-droppings c.args.cells.now (omega (arith, c.requires.long)))
