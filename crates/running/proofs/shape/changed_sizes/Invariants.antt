-- `changed_sizes` meets its contract: after i turns it has the sizes of the first i cells, as they would be. Assumes nothing.
use mathlib.Core.Path.{◌≡◌}
use lib.ListN.{take}
use Rattle.integers.specs.Sum.{sizes}
use Rattle.running.specs.Helpers.{cells_changed, change_of}
use Rattle.running.proofs.shape.changed_sizes.Given as goal

abbrev pub invariant-loop-i : goal.invariant-loop-i
invariant-loop-i l = l.total ≡ sizes (take l.i (cells_changed (change_of l.change) l.cells))
