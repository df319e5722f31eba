-- `round_cells` meets its contract. The loop's invariant: the rows and the droppings of the units passed are filled in. Assumes nothing.
use Prim.Native.Nat.{ℕ}
use mathlib.Core.List.{[]}
use lib.IntN.{pos}
use Rattle.cells.specs.Cells.{units}
use Rattle.correction.specs.Slice.{unit_cells, rounded_cells}
use Rattle.correction.specs.Helpers.{droppings_of}
use Rattle.correction.proofs.Filled.{FilledBelow}
use Rattle.correction.proofs.rounding.round_cells.Given as goal

abbrev pub invariant-loop-unit : goal.invariant-loop-unit
invariant-loop-unit l = record {
  rows-done : FilledBelow (rounded_cells l.cells) [] units l.table l.unit;
  droppings-done : FilledBelow (λ (unit : ℕ). droppings_of (unit_cells l.cells unit)) (pos 0) units l.droppings l.unit;
}
