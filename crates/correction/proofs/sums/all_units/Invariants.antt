-- `all_units` meets its contract. The loop's invariant: the sums of the units passed are filled in. Assumes nothing.
use mathlib.Core.List.{List}
use lib.IntN.{ℤ}
use Rattle.correction.specs.Correction.{sums_of}
use Rattle.correction.proofs.Filled.{Filled}
use Rattle.correction.proofs.sums.all_units.Given as goal

abbrev pub invariant-loop-unit : goal.invariant-loop-unit
invariant-loop-unit l = Filled (λ (row : List ℤ). sums_of row l.weights) l.cells l.sums l.unit
