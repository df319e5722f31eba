use Prim.Native.Nat.{◌/◌}
use mathlib.Core.Path.{◌≡◌, ◌∙◌, ap}
use mathlib.Core.List.{List, []}
use native.Mathlib.Omega.{arith}
use lib.IntN.{ℤ}
use lib.ListN.{length, get_or}
use mir.Syntax.{w64}
use mir.Val.{of_z, to_z}
use Rattle.integers.proofs.Linear.{linear}
use Rattle.correction.specs.Slice.{unit_cells, rounded_cells}
use Rattle.correction.proofs.UnitCells.{unit-chunk}
use Rattle.correction.proofs.Filled.{filled-below-next, filled-below-all}
use Rattle.correction.proofs.rounding.round_cells.Goals as goal

pub loop-unit-preserved : goal.loop-unit-preserved
unfolding rounded_cells
loop-unit-preserved c =
    let cells = c.args.cells.now in
    let unit = c.loop-unit.unit in
    let row : get_or c.as_chunks.result.0.now unit [] ≡ unit_cells cells unit =
    ap (λ (rows : List (List ℤ)). get_or rows unit []) c.as_chunks.ensures.front ∙ unit-chunk cells (length cells / 24) unit (omega arith) in
    let read : to_z w64 (of_z w64 c.round_unit.result) ≡ c.round_unit.result = omega linear in
    record {
      rows-done = filled-below-next c.loop-unit.invariant.rows-done (rw row at c.round_unit.ensures.cells) (omega arith);
      droppings-done = filled-below-next c.loop-unit.invariant.droppings-done (read ∙ rw row at c.round_unit.ensures.droppings) (omega arith);
    }

pub returns-clause-table : goal.returns-clause-table
returns-clause-table c = filled-below-all c.loop-unit.invariant.rows-done (omega arith)

pub returns-clause-droppings : goal.returns-clause-droppings
returns-clause-droppings c = filled-below-all c.loop-unit.invariant.droppings-done (omega arith)
