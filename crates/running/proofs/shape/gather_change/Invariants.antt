-- `gather_change` meets its contract: after i rows it has what the meters that wait among the first i rows change. Assumes nothing.
use mathlib.Core.Path.{◌≡◌}
use mathlib.Core.List.{map}
use lib.ListN.{take}
use Rattle.book.specs.Rows.{first_row}
use Rattle.running.specs.Helpers.{shape_sum, cells_changed}
use Rattle.running.proofs.shape.gather_change.Given as goal

abbrev pub invariant-loop-registration : goal.invariant-loop-registration
invariant-loop-registration l = l.change ≡ cells_changed (shape_sum l.category l.wh (map first_row (take l.registration-index l.rows))) l.initial.change
