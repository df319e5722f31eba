-- `add_change` meets its contract: after i turns the change has been added to the first i cells, and the others are as they were. Assumes nothing.
use mathlib.Core.Path.{◌≡◌}
use Rattle.running.specs.Running.{added_from}
use Rattle.running.specs.Helpers.{change_of}
use Rattle.running.proofs.shape.add_change.Given as goal

abbrev pub invariant-loop-i : goal.invariant-loop-i
invariant-loop-i l = l.cells ≡ added_from (change_of l.change) 0 l.i l.initial.cells
