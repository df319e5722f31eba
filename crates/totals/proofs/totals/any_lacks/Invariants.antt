-- `any_lacks` meets its contract: after i rows it has the answer for the first i rows, and a turn is one meter more. Assumes nothing.
use mathlib.Core.Path.{◌≡◌}
use mathlib.Core.List.{map}
use lib.ListN.{take}
use Rattle.book.specs.Rows.{first_row}
use Rattle.cells.specs.Energy.{any_lacks_shape}
use Rattle.totals.proofs.totals.any_lacks.Given as goal

abbrev pub invariant-loop-registration : goal.invariant-loop-registration
invariant-loop-registration l = l.lacks ≡ any_lacks_shape l.shapes (map first_row (take l.registration-index l.rows))
